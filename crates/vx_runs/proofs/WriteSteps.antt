-- How a write of a run ends.
use Rattle.std.proofs.Common.{◌≡◌, ◌⊎◌, inl, inr, ℕ, ◌+◌, ◌≤◌, refl, sym, ◌∙◌, ap, arith, List, get_or, Result, Ok, Err}
use Rattle.std.proofs.lemmas.Bool.{cases_lt}
use Rattle.vx_base.specs.Blocks.{blocks_in, written}
use Rattle.vx_base.proofs.BlockLemmas.{is_in-after, written_out}
use Rattle.vx_piece.specs.Seen.{Seen, Keeps}
use Rattle.vx_piece.specs.declared.piece.PieceFault.{PieceFault}
use Rattle.vx_piece.specs.declared.piece.PieceFault.TheVariants as piece
use Rattle.vx_runs.specs.Part.{put_at, IsPartWritten, PartHasCause}
use Rattle.vx_runs.specs.Run.{run_sectors, run_contents, SameFaults, fault_at, RunHasCause, IsRunWritten}
use Rattle.vx_runs.proofs.Progress.{EachPart, StopsAt, PartGoes, each_part, each_stop, stopped_failed, stopped_cut, stopped_parts, map_parts, keeps_itself, parts_tell, parts_sectors, parts_blocks, contents_beyond}

abbrev Written : ℕ → List ℕ → Result (Unit {0}) PieceFault → ℕ → Seen → Seen → Type 0
Written at bytes result start p q = IsPartWritten start at bytes p q result

abbrev exact : ℕ → List ℕ → ℕ → List ℕ → List ℕ → Type 0
exact at bytes k old new = new ≡ put_at at bytes k old

abbrev torn : ℕ → List ℕ → ℕ → List ℕ → List ℕ → Type 0
torn at bytes k old new = (new ≡ old) ⊎ (new ≡ put_at at bytes k old)

from_zero : (k : ℕ) → 0 + k ≡ k
from_zero k = omega arith

-- behind the run nothing is written
beyond : (at : ℕ) (bytes : List ℕ) (ps : List Seen) (k : ℕ) → at + blocks_in bytes ≤ run_sectors ps → run_sectors ps ≤ k → written at bytes (run_contents ps) k ≡ run_contents ps k
beyond at bytes ps k inside le = written_out at bytes (run_contents ps) k (is_in-after at (blocks_in bytes) k (omega (arith, inside, le)))

same_beyond : (ps qs : List Seen) (k : ℕ) → run_sectors qs ≡ run_sectors ps → run_sectors ps ≤ k → run_contents qs k ≡ run_contents ps k
same_beyond ps qs k e le = contents_beyond qs k (omega (arith, e, le)) ∙ sym (contents_beyond ps k le)

pub wrote_all : (at : ℕ) (bytes : List ℕ) (ps qs : List Seen) → at + blocks_in bytes ≤ run_sectors ps → EachPart (Written at bytes (Ok tt)) 0 ps qs → IsRunWritten {T = Unit {0}} at bytes ps qs (Ok tt)
wrote_all at bytes ps qs inside h =
    let goes : EachPart (PartGoes (exact at bytes)) 0 ps qs =
    map_parts (Written at bytes (Ok tt)) (PartGoes (exact at bytes)) (λ start p q w. record { kept = w.kept; tells = w.tells; blocks = λ t k lt. w.writes t k lt }) 0 ps qs h in
    record {
      kept = each_part (Written at bytes (Ok tt)) Keeps (λ start p q w. w.kept) 0 ps qs h;
      tells = parts_tell (exact at bytes) 0 ps qs goes;
      writes = λ t k.
          elim (cases_lt k (run_sectors ps)) [
            | inl lt ↦ parts_blocks (exact at bytes) 0 ps qs goes t k lt ∙ ap (λ (n : ℕ). put_at at bytes n (run_contents ps k)) (from_zero k)
            | inr le ↦ same_beyond ps qs k (parts_sectors (exact at bytes) 0 ps qs goes) le ∙ sym (beyond at bytes ps k inside le)
          ];
      cause = each_part (Written at bytes (Ok tt)) SameFaults (λ start p q w. w.cause) 0 ps qs h;
    }

-- why a call stopped
module _ (fact : ℕ → Seen → Seen → Type 0) (fails : Result (Unit {0}) PieceFault → ℕ → Seen → Seen → Type 0) (quiet : (start : ℕ) (p q : Seen) → fact start p q → SameFaults p q)
    (caused : (result : Result (Unit {0}) PieceFault) (start : ℕ) (p q : Seen) → fails result start p q → Keeps p q × PartHasCause p q result) where
  pub stopped_cause : (fault : PieceFault) (i device : ℕ) (ps qs : List Seen) (d : Seen) → (get_or qs i d).device ≡ device → StopsAt i fact (fails (Err fault)) 0 ps qs →
      RunHasCause {T = Unit {0}} ps qs (Err (fault_at fault i device))
  stopped_cause piece.Failed i device ps qs d is h = (i, refl, stopped_failed fact (fails (Err piece.Failed)) quiet (caused (Err piece.Failed)) i 0 device ps qs d is h)
  stopped_cause piece.PowerLost i device ps qs d is h = stopped_cut fact (fails (Err piece.PowerLost)) (λ start p q w. (caused (Err piece.PowerLost) start p q w).1) i 0 ps qs h

pub wrote_some : (at : ℕ) (bytes : List ℕ) (ps qs : List Seen) (fault : PieceFault) (i device : ℕ) (d : Seen) → at + blocks_in bytes ≤ run_sectors ps → (get_or qs i d).device ≡ device →
    StopsAt i (Written at bytes (Ok tt)) (Written at bytes (Err fault)) 0 ps qs → IsRunWritten {T = Unit {0}} at bytes ps qs (Err (fault_at fault i device))
wrote_some at bytes ps qs fault i device d inside is h =
    let goes : EachPart (PartGoes (torn at bytes)) 0 ps qs =
    stopped_parts (Written at bytes (Ok tt)) (Written at bytes (Err fault)) (PartGoes (torn at bytes))
    (λ start p q w. record { kept = w.kept; tells = w.tells; blocks = λ t k lt. inr (w.writes t k lt) })
    (λ start p q w. record { kept = w.kept; tells = w.tells; blocks = λ t k lt. w.writes t k lt })
    (λ start p. record { kept = keeps_itself p; tells = λ t. t; blocks = λ t k lt. inl refl }) i 0 ps qs h in
    record {
      kept = each_stop (Written at bytes (Ok tt)) Keeps (λ start p q w. w.kept) (Written at bytes (Err fault)) (λ start p q w. w.kept) keeps_itself i 0 ps qs h;
      tells = parts_tell (torn at bytes) 0 ps qs goes;
      writes = λ t k.
          elim (cases_lt k (run_sectors ps)) [
            | inl lt ↦ elim (parts_blocks (torn at bytes) 0 ps qs goes t k lt) [
              | inl same ↦ inl same
              | inr put ↦ inr (put ∙ ap (λ (n : ℕ). put_at at bytes n (run_contents ps k)) (from_zero k))
            ]
            | inr le ↦ inl (same_beyond ps qs k (parts_sectors (torn at bytes) 0 ps qs goes) le)
          ];
      cause = stopped_cause (Written at bytes (Ok tt)) (Written at bytes) (λ start p q w. w.cause) (λ result start p q w. (w.kept, w.cause)) fault i device ps qs d is h;
    }
