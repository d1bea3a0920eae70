-- How a read of a run goes and ends.
use Rattle.std.proofs.Common.{◌≡◌, inl, inr, ℕ, ◌+◌, ◌-◌, ◌<◌, ◌≤◌, refl, sym, ◌∙◌, ap, subst, arith, List, [], ◌∷◌, length, get_or, Option, Result, Ok, Err}
use Rattle.std.specs.Prelude.{if◌then◌else◌, nat_lt}
use Rattle.std.proofs.lemmas.Bool.{cond-true, cond-false}
use Rattle.vx_base.specs.Blocks.{Contents, block_at, blocks_in}
use Rattle.vx_base.proofs.BlockLemmas.{is_in_cases, is_in-true, is_in-before}
use Rattle.vx_piece.specs.Seen.{Seen, Keeps}
use Rattle.vx_piece.specs.declared.piece.PieceFault.{PieceFault}
use Rattle.vx_runs.specs.Part.{told_or, Tells, PartGives, IsPartRead, PartHasCause}
use Rattle.vx_runs.specs.Run.{run_sectors, run_contents, RunTells, EachPiece, SameFaults, SameWrites, fault_at, IsRunRead}
use Rattle.vx_runs.proofs.Progress.{sectors_before, EachPart, StopsAt, each_part, each_stop, contents_in, tells_at, keeps_itself}
use Rattle.vx_runs.proofs.WriteSteps.{stopped_cause}

-- a piece that was read, or was not
pub record IsStill (p q : Seen) : Type 0 where
  pub kept : Keeps p q
  pub told : q.told ≡ p.told
  pub writes : q.writes ≡ p.writes

pub record WasRead (start : ℕ) (p q : Seen) : Type 0 where
  pub still : IsStill p q
  pub quiet : q.faults ≡ p.faults

pub record WasNotRead (result : Result (Unit {0}) PieceFault) (start : ℕ) (p q : Seen) : Type 0 where
  pub still : IsStill p q
  pub cause : PartHasCause p q result

pub was_read : (start at : ℕ) (into into' : List ℕ) (p q : Seen) → IsPartRead {T = Unit {0}} start at into into' p q (Ok tt) → WasRead start p q
was_read start at into into' p q h = record { still = record { kept = h.kept; told = h.told; writes = h.writes }; quiet = h.cause }

pub was_not_read : (start at : ℕ) (into into' : List ℕ) (p q : Seen) (fault : PieceFault) → IsPartRead {T = Unit {0}} start at into into' p q (Err fault) → WasNotRead (Err fault) start p q
was_not_read start at into into' p q fault h = record { still = record { kept = h.kept; told = h.told; writes = h.writes }; cause = h.cause }

abbrev joined : ℕ → Option Contents → Contents → Contents
joined n told rest k = if nat_lt k n then told_or told k else rest (k - n)

same_joined : (n n' : ℕ) (t t' : Option Contents) (f f' : Contents) → n' ≡ n → t' ≡ t → f' ≡ f → joined n' t' f' ≡ joined n t f
same_joined n n' t t' f f' en et ef = rw (en, et, ef) refl

still_contents : (ps qs : List Seen) → EachPiece IsStill ps qs → run_contents qs ≡ run_contents ps
still_contents [] [] h = refl
still_contents [] (q ∷ qs) h = absurd h
still_contents (p ∷ ps) [] h = absurd h
still_contents (p ∷ ps) (q ∷ qs) h = same_joined p.sectors q.sectors p.told q.told (run_contents ps) (run_contents qs) h.0.kept.sectors h.0.told (still_contents ps qs h.1)

still_tells : (ps qs : List Seen) → EachPiece IsStill ps qs → RunTells ps → RunTells qs
still_tells [] [] h t = tt
still_tells [] (q ∷ qs) h t = absurd h
still_tells (p ∷ ps) [] h t = absurd h
still_tells (p ∷ ps) (q ∷ qs) h t = (subst (λ (x : Option Contents). Tells x) (sym h.0.told) t.0, still_tells ps qs h.1 t.1)

map_pieces : (fact what : Seen → Seen → Type 0) → ((p q : Seen) → fact p q → what p q) → (ps qs : List Seen) → EachPiece fact ps qs → EachPiece what ps qs
map_pieces fact what from [] [] h = tt
map_pieces fact what from [] (q ∷ qs) h = absurd h
map_pieces fact what from (p ∷ ps) [] h = absurd h
map_pieces fact what from (p ∷ ps) (q ∷ qs) h = (from p q h.0, map_pieces fact what from ps qs h.1)

-- the bytes up to this sector of the run are what it holds
abbrev pub GivesUpTo : ℕ → ℕ → List ℕ → List Seen → Type 0
GivesUpTo start at into pieces = RunTells pieces → (k : ℕ) → k < blocks_in into → at + k < start → block_at into k ≡ run_contents pieces (at + k)

pub gives_next : (i start at sectors : ℕ) (into into' : List ℕ) (pieces : List Seen) (d p : Seen) → length into' ≡ length into → i < length pieces → get_or pieces i d ≡ p → start ≡ sectors_before i pieces →
    sectors ≡ p.sectors → PartGives {T = Unit {0}} start at into into' p (Ok tt) → GivesUpTo start at into pieces → GivesUpTo (start + sectors) at into' pieces
gives_next i start at sectors into into' pieces d p len lt same is size gives before t k inside high =
    let tells : Tells p.told = subst (λ (x : Seen). Tells x.told) same (tells_at i pieces d lt t) in
    gives tells k inside
    ∙ elim (is_in_cases start p.sectors (at + k)) [
      | inl h ↦
          let e : (get_or pieces i d).sectors ≡ p.sectors = ap (λ (x : Seen). x.sectors) same in
          cond-true _ _ _ (is_in-true start p.sectors (at + k) h.0 h.1)
          ∙ ap (λ (x : Seen). told_or x.told ((at + k) - start)) (sym same)
          ∙ ap (λ (n : ℕ). told_or (get_or pieces i d).told ((at + k) - n)) is
          ∙ sym (contents_in i pieces d (at + k) lt (omega (arith, is, h.0)) (omega (arith, is, h.1, e)))
      | inr (inl below) ↦ cond-false _ _ _ (is_in-before start p.sectors (at + k) below) ∙ before t k (omega (arith, inside, len)) below
      | inr (inr above) ↦ absurd (omega (arith, above, high, size))
    ]

pub read_all : (at : ℕ) (into : List ℕ) (ps qs : List Seen) (start : ℕ) → at + blocks_in into ≤ run_sectors ps → run_sectors ps ≤ start → EachPart WasRead 0 ps qs → GivesUpTo start at into ps →
    IsRunRead {T = Unit {0}} at into ps qs (Ok tt)
read_all at into ps qs start inside end h gives =
    let still : EachPiece IsStill ps qs = each_part WasRead IsStill (λ n p q w. w.still) 0 ps qs h in
    record {
      kept = map_pieces IsStill Keeps (λ p q w. w.kept) ps qs still;
      contents = still_contents ps qs still;
      tells = still_tells ps qs still;
      writes = map_pieces IsStill SameWrites (λ p q w. w.writes) ps qs still;
      gives = λ t k lt. gives t k lt (omega (arith, lt, inside, end));
      cause = each_part WasRead SameFaults (λ n p q w. w.quiet) 0 ps qs h;
    }

still_itself : (p : Seen) → IsStill p p
still_itself p = record { kept = keeps_itself p; told = refl; writes = refl }

pub read_some : (at : ℕ) (into : List ℕ) (ps qs : List Seen) (fault : PieceFault) (i device : ℕ) (d : Seen) → (get_or qs i d).device ≡ device → StopsAt i WasRead (WasNotRead (Err fault)) 0 ps qs →
    IsRunRead {T = Unit {0}} at into ps qs (Err (fault_at fault i device))
read_some at into ps qs fault i device d is h =
    let still : EachPiece IsStill ps qs = each_stop WasRead IsStill (λ n p q w. w.still) (WasNotRead (Err fault)) (λ n p q w. w.still) still_itself i 0 ps qs h in
    record {
      kept = map_pieces IsStill Keeps (λ p q w. w.kept) ps qs still;
      contents = still_contents ps qs still;
      tells = still_tells ps qs still;
      writes = map_pieces IsStill SameWrites (λ p q w. w.writes) ps qs still;
      gives = tt;
      cause = stopped_cause WasRead WasNotRead (λ n p q w. w.quiet) (λ result n p q w. (w.still.kept, w.cause)) fault i device ps qs d is h;
    }
