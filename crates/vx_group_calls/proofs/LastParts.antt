-- The last part that a stopped call tells is of the region in which it stopped, and none of the parts before it changed that region.
use Rattle.std.proofs.Common.{◌≡◌, ℕ, zero, suc, ◌+◌, ◌/◌, ◌<◌, ◌≤◌, List, [], ◌∷◌, ◌++◌, Option, Some, refl, sym, ap, ◌∙◌, subst, arith}
use Rattle.std.specs.Prelude.{length}
use Rattle.vx_block.specs.declared.geometry.Span.{Span}
use Rattle.vx_life.specs.declared.Part.{Part}
use Rattle.vx_core.specs.declared.stage.Phase.{Phase}
use Rattle.vx_core.specs.declared.stage.Phase.TheVariants.{Busy, Dead, Settled, Unsettled}
use Rattle.vx_core.specs.Schedule.{IsIdle}
use Rattle.vx_cell.specs.declared.fault.CellFault.{CellFault}
use Rattle.vx_cell.specs.declared.fault.CellFault.TheVariants as cell
use Rattle.vx_cell.specs.declared.fault.Place.{Place}
use Rattle.vx_cell.specs.Changes.{CellSeen}
use Rattle.vx_cell.specs.Region.{AllFailed, RegionSeen}
use Rattle.vx_volume.specs.Calls.{Calling, CallsPart}
use Rattle.vx_volume.specs.Loop.{AreDone, AreMade}
use Rattle.vx_volume.specs.Receipts.{part_of, with_part}
use Rattle.vx_volume.specs.Volume.{VolumeSeen, cell_at, region_at}
use Rattle.vx_group_calls.proofs.Keeping.{HasGone, IsCalling, parts_done}

-- ---- the last of a list

pub last_same : {A : Type 0} (xs ys : List A) (x y : A) → xs ++ x ∷ [] ≡ ys ++ y ∷ [] → x ≡ y
last_same [] [] x y same = cc
last_same [] (b ∷ []) x y same = cc
last_same [] (b ∷ c ∷ ys) x y same = cc
last_same (a ∷ []) [] x y same = cc
last_same (a ∷ c ∷ xs) [] x y same = cc
last_same {A = A} (a ∷ xs) (b ∷ ys) x y same = let rest : xs ++ x ∷ [] ≡ ys ++ y ∷ [] = cc in last_same xs ys x y rest

-- a region that is not dead has its part told
with_alive : (phase : Phase) (part : Part) (parts : List Part) → (phase ≡ Dead → ⊥) → with_part phase part parts ≡ parts ++ part ∷ []
with_alive Dead part parts alive = absurd (alive refl)
with_alive Settled part parts alive = refl
with_alive Unsettled part parts alive = refl
with_alive (Busy work) part parts alive = refl

-- ---- the parts before it

-- the cells from a region on are as they were
pub record StayFrom (first : ℕ) (old new : VolumeSeen) : Type 0 where
  pub region : new.region ≡ old.region
  pub cells : (i : ℕ) → first ≤ i → cell_at new i ≡ cell_at old i

-- in the region that a call came to last it was stopped by a fault, and told this region's part
pub record StopsIn (old new : Calling) : Type 0 where
  pub mid : VolumeSeen
  pub gone : HasGone old.volume mid
  pub region : ℕ
  pub inside : region < length old.volume.cells
  pub cell : cell_at mid region ≡ cell_at old.volume region
  pub failed : AllFailed (region_at mid region) (region_at new.volume region)
  pub before : List Part
  pub told : new.parts ≡ before ++ part_of new.volume region ∷ []

apart : (i r first n : ℕ) → r ≡ first + n → first + suc n ≤ i → i ≡ r → ⊥
apart i r first n at le same = omega (arith, at, le, same)

further : (i first n : ℕ) → first + suc n ≤ i → first + n ≤ i
further i first n le = omega (arith, le)

same_first : (first n : ℕ) → first + n ≤ first + n
same_first first n = omega arith

module _ (Way : Span → List ℕ → Option CellFault → RegionSeen → RegionSeen → Type 0) (way : IsCalling Way) (start count : ℕ) (bytes : List ℕ) where
  done_stay : (n : ℕ) (old new : Calling) → AreDone (CallsPart Way start count bytes) n old new → StayFrom (start / old.volume.region + n) old.volume new.volume
  done_stay zero old new is = subst (λ (x : Calling). StayFrom (start / old.volume.region + 0) old.volume x.volume) (sym is) (record { region = refl; cells = λ i le. refl })
  done_stay (suc n) old new (mid, done, call) =
      let before = done_stay n old mid done in
      let at : call.region ≡ start / old.volume.region + n = call.is_region ∙ ap (λ (s : ℕ). start / s + n) before.region in
      record {
        region = ap (λ (v : VolumeSeen). v.region) call.ends.same ∙ before.region;
        cells = λ i le. call.ends.others i (apart i call.region (start / old.volume.region) n at le) ∙ before.cells i (further i (start / old.volume.region) n le);
      }

  -- where no call was under way
  pub made_stop : (total : ℕ) (place : Place) (old new : Calling) → ((r : ℕ) → r < length old.volume.cells → IsIdle (cell_at old.volume r).stage.phase) →
      AreMade (CallsPart Way start count bytes) total (Some (cell.Fault place)) old new → StopsIn old new
  made_stop total place old new idle (n, mid, low, done, call) =
      let before = done_stay n old mid done in
      let gone = parts_done Way way start count bytes n old mid done in
      let at : call.region ≡ start / old.volume.region + n = call.is_region ∙ ap (λ (s : ℕ). start / s + n) before.region in
      let inside : call.region < length old.volume.cells = subst (λ (m : ℕ). call.region < m) gone.kept.count call.ends.inside in
      let same : cell_at mid.volume call.region ≡ cell_at old.volume call.region =
      before.cells call.region (subst (λ (m : ℕ). start / old.volume.region + n ≤ m) (sym at) (same_first (start / old.volume.region) n)) in
      let rest : IsIdle (cell_at mid.volume call.region).stage.phase = subst (λ (c : CellSeen). IsIdle c.stage.phase) (sym same) (idle call.region inside) in
      let failed = way.failed _ _ place _ _ call.ends.goes rest in
      record {
        mid = mid.volume;
        gone = gone;
        region = call.region;
        inside = inside;
        cell = same;
        failed = failed.1;
        before = mid.parts;
        told = call.told ∙ with_alive (cell_at mid.volume call.region).stage.phase (part_of new.volume call.region) mid.parts failed.0;
      }
