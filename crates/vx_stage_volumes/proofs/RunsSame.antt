-- A run that was cut is the same pieces together.
use Rattle.std.proofs.Common.{◌≡◌, ◌∙◌, ℕ, ◌+◌, ◌-◌, ◌^◌, ◌<◌, ◌==◌, min, Bool, true, false, cond, nat_lt, List, [], ◌∷◌, ◌++◌, Option, Some, None, refl, sym, ap, subst, arith}
use Rattle.std.specs.Prelude.{is_some}
use Rattle.std.specs.List.{All, sum_by}
use Rattle.std.specs.Option.{option_map}
use Rattle.std.proofs.lemmas.Bool.{ltb-true}
use Rattle.std.proofs.lemmas.List.Elements.{All-cons, All-head, All-nil, All-tail}
use Rattle.std.proofs.lemmas.List.Sums.{sum_by-cons}
use Rattle.vx_base.specs.Blocks.{Contents}
use Rattle.vx_piece.specs.Seen.{Seen}
use Rattle.vx_runs.specs.Part.{Tells}
use Rattle.vx_runs.specs.Run.{RunTells}
use Rattle.vx_carve.specs.Together.{HasSome, Holds, HoldsTold, SameSectors}
use Rattle.vx_carve.proofs.Runs.{same_after}
use Rattle.vx_carve.proofs.Same.{same_beside, same_refl, same_trans}
use Rattle.vx_cut.specs.Same.{SameRun, SectorSeen, counted, run_at, sector_in}
use Rattle.vx_cut.proofs.Parts.{all_parts}
use Rattle.vx_maps.specs.Copies.{SameRuns}
use Rattle.vx_lending.specs.Pieces.{copy_pieces}
use Rattle.vx_lending.proofs.Counts.{behind_first, in_first, same_owners}
use Rattle.vx_lending.proofs.Goings.{run_goes}

-- what is counted on a device is a sum
counted_sum : (count : Seen → ℕ) (device : ℕ) (ps : List Seen) → counted count device ps ≡ sum_by (λ p. cond (p.device == device) (count p) 0) ps
counted_sum count device [] = refl
counted_sum count device (p ∷ ps) = let rest = counted_sum count device ps in let sum = sum_by-cons (λ (p : Seen). cond (p.device == device) (count p) 0) p ps in omega (arith, rest, sum)

-- ---- what holds of each sector

module _ (Q : SectorSeen → Type 0) where
  abbrev Sectors : Seen → Type 0
  Sectors p = (k : ℕ) → k < p.sectors → Q (sector_in p k)

  at_sectors : (ps : List Seen) → All Sectors ps → (k : ℕ) (x : SectorSeen) → run_at ps k ≡ Some x → Q x
  at_sectors [] all k x e = cc
  at_sectors (p ∷ ps) all k x e = by (nat_lt k p.sectors) refl e (at_sectors ps (All-tail Sectors p ps all) (k - p.sectors) x)
    where
      by : (b : Bool) → nat_lt k p.sectors ≡ b → cond b (Some (sector_in p k)) (run_at ps (k - p.sectors)) ≡ Some x → (run_at ps (k - p.sectors) ≡ Some x → Q x) → Q x
      by true low here rest = let same : sector_in p k ≡ x = cc in subst Q same (All-head Sectors p ps all k (ltb-true k p.sectors low))
      by false low here rest = rest here

  from_sectors : (ps : List Seen) → ((k : ℕ) (x : SectorSeen) → run_at ps k ≡ Some x → Q x) → All Sectors ps
  from_sectors [] each = All-nil Sectors
  from_sectors (p ∷ ps) each = All-cons Sectors p ps (λ k low. each k (sector_in p k) (in_first p ps k low)) (from_sectors ps (λ k x e. each (p.sectors + k) x (behind_first p ps k ∙ e)))

  -- .. holds of each sector of the same run
  sectors_same : (old new : List Seen) → ((k : ℕ) → run_at new k ≡ run_at old k) → All Sectors old → All Sectors new
  sectors_same old new same all = from_sectors new (λ k x e. at_sectors old all k x (sym (same k) ∙ e))

-- ---- contents

abbrev HoldsAt : (ℕ → Contents) → SectorSeen → Type 0
HoldsAt contents x = x.holds ≡ Some (contents x.device x.place)

sectors_held : (contents : ℕ → Contents) (ps : List Seen) → All (Holds contents) ps → All (Sectors (HoldsAt contents)) ps
sectors_held contents [] holds = All-nil (Sectors (HoldsAt contents))
sectors_held contents (p ∷ ps) holds = All-cons (Sectors (HoldsAt contents)) p ps (λ k low. by p.told (All-head (Holds contents) p ps holds) k low) (sectors_held contents ps (All-tail (Holds contents) p ps holds))
  where
    by : (o : Option Contents) → HoldsTold contents p.device p.start p.sectors o → (k : ℕ) → k < p.sectors → option_map (λ (c : Contents). c k) o ≡ Some (contents p.device (p.start + k))
    by None h k low = absurd h
    by (Some told) h k low = ap (λ (s : List ℕ). Some s) (h k low)

held_sectors : (contents : ℕ → Contents) (ps : List Seen) → All HasSome ps → All (Sectors (HoldsAt contents)) ps → All (Holds contents) ps
held_sectors contents [] some all = All-nil (Holds contents)
held_sectors contents (p ∷ ps) some all =
    All-cons (Holds contents) p ps (by p.told (All-head (Sectors (HoldsAt contents)) p ps all)) (held_sectors contents ps (All-tail HasSome p ps some) (All-tail (Sectors (HoldsAt contents)) p ps all))
  where
    same : (a b : List ℕ) → Some a ≡ Some b → a ≡ b
    same a b e = cc

    none : (b : List ℕ) → None ≡ Some b → ⊥
    none b e = cc

    by : (o : Option Contents) → ((k : ℕ) → k < p.sectors → option_map (λ (c : Contents). c k) o ≡ Some (contents p.device (p.start + k))) → HoldsTold contents p.device p.start p.sectors o
    by None each = none _ (each 0 (All-head HasSome p ps some))
    by (Some told) each = λ k low. same (told k) (contents p.device (p.start + k)) (each k low)

-- ---- pieces that tell

abbrev TellsAt : SectorSeen → Type 0
TellsAt x = is_some x.holds ≡ true

sectors_told : (ps : List Seen) → RunTells ps → All (Sectors TellsAt) ps
sectors_told [] tells = All-nil (Sectors TellsAt)
sectors_told (p ∷ ps) tells = All-cons (Sectors TellsAt) p ps (λ k low. by p.told k tells.0) (sectors_told ps tells.1)
  where
    by : (o : Option Contents) (k : ℕ) → Tells o → is_some (option_map (λ (c : Contents). c k) o) ≡ true
    by None k tells = absurd tells
    by (Some told) k tells = refl

told_sectors : (ps : List Seen) → All HasSome ps → All (Sectors TellsAt) ps → RunTells ps
told_sectors [] some all = tt
told_sectors (p ∷ ps) some all = (by p.told (All-head (Sectors TellsAt) p ps all 0 (All-head HasSome p ps some)), told_sectors ps (All-tail HasSome p ps some) (All-tail (Sectors TellsAt) p ps all))
  where
    by : (o : Option Contents) → is_some (option_map (λ (c : Contents). c 0) o) ≡ true → Tells o
    by None is = let no : false ≡ true = is in cc
    by (Some told) is = tt

-- ---- runs

module _ (old new : List Seen) (same : SameRun old new) (some : All HasSome old) where
  -- the other way
  turned : SameRun new old
  turned = record {
    each = λ k. sym (same.each k);
    sectors = sym same.sectors;
    tells = λ tells. told_sectors old some (sectors_same TellsAt new old (λ k. sym (same.each k)) (sectors_told new tells));
    faults = λ d. sym (same.faults d);
    writes = λ d. sym (same.writes d);
    reads = λ d. sym (same.reads d);
    some = λ h. some;
  }

  count_same : (count : Seen → ℕ) (d : ℕ) → counted count d new ≡ counted count d old → sum_by (λ p. cond (p.device == d) (count p) 0) new ≡ sum_by (λ p. cond (p.device == d) (count p) 0) old
  count_same count d e = sym (counted_sum count d new) ∙ e ∙ counted_sum count d old

  -- a run that is the same is the same pieces together
  pub run_same : SameSectors old new
  run_same = record {
    sectors = same_owners old new same;
    faults = λ d. ap (λ n. min n (2 ^ 64 - 1)) (count_same (λ p. p.faults) d (same.faults d));
    writes = λ d. ap (λ n. min n (2 ^ 64 - 1)) (count_same (λ p. p.writes) d (same.writes d));
    reads = λ d. ap (λ n. min n (2 ^ 64 - 1)) (count_same (λ p. p.reads) d (same.reads d));
    cut = λ d. let a = (run_goes old new same some).cut d in let b = (run_goes new old turned (same.some some)).cut d in omega (arith, a, b);
    contents = λ contents holds. held_sectors contents new (same.some some) (sectors_same (HoldsAt contents) old new same.each (sectors_held contents old holds));
    some = same.some;
    stops = (run_goes old new same some).stops;
  }

-- so are copies of which each is
pub runs_same : (xs ys : List (List Seen)) → SameRuns xs ys → All HasSome (copy_pieces xs) → SameSectors (copy_pieces xs) (copy_pieces ys)
runs_same [] [] same some = same_refl []
runs_same [] (y ∷ ys) same some = absurd same
runs_same (x ∷ xs) [] same some = absurd same
runs_same (x ∷ xs) (y ∷ ys) same some =
    let both = all_parts HasSome x (copy_pieces xs) some in
    same_trans (x ++ copy_pieces xs) (y ++ copy_pieces xs) (y ++ copy_pieces ys) (same_beside (copy_pieces xs) x y (run_same x y same.0 both.0)) (same_after y (copy_pieces xs) (copy_pieces ys) (runs_same xs ys same.1 both.1))
