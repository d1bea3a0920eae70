-- A call that has ended: the entries of the histories, and the same as the receipt tells them.
use Rattle.std.proofs.Common.{◌≡◌, ◌≢◌, ℕ, suc, ◌+◌, ◌-◌, ◌/◌, ◌<◌, ◌≤◌, refl, sym, ◌∙◌, subst, inl, inr, arith, List, [], length, map, Option, Some, None}
use Rattle.std.specs.Prelude.{◌⊎◌}
use Rattle.std.proofs.Math.Nat.{div-mul-le_self, le-div_iff_mul-le}
use Rattle.vx_block.specs.declared.geometry.Span.{Span}
use Rattle.vx_block.specs.Regions.{part_at}
use Rattle.vx_block.proofs.PartLemmas.{part_past}
use Rattle.vx_life.specs.declared.EntryKind.{EntryKind}
use Rattle.vx_life.specs.Entry.{Entry}
use Rattle.vx_core.specs.declared.stage.Phase.TheVariants.{Dead}
use Rattle.vx_core.specs.History.{AllOf}
use Rattle.vx_core.specs.Region.{Fixed}
use Rattle.vx_cell.specs.declared.fault.CellFault.{CellFault}
use Rattle.vx_cell.specs.declared.fault.CellFault.TheVariants as cell
use Rattle.vx_cell.specs.Region.{RegionSeen}
use Rattle.vx_cell.specs.Running.{Caller}
use Rattle.vx_volume.specs.declared.receipt.Receipt.{Receipt}
use Rattle.vx_volume.specs.Calls.{Calling, CallsPart, called, parts_in}
use Rattle.vx_volume.specs.Laws.{AreTold, MayComeNext, RegionsGoOn, with_made}
use Rattle.vx_volume.specs.Loop.{AreDone, AreMade}
use Rattle.vx_volume.specs.Retelling.{AreRetold}
use Rattle.vx_volume.specs.Volume.{IsVolume, VolumeSeen, cell_at}
use Rattle.vx_volume.proofs.PartEntries.{call_made}
use Rattle.vx_volume.proofs.Volumes.{IsWay}
use Rattle.vx_volume_laws.specs.Telling.{AreOfParts, HoldFrom, IsOfPart}
use Rattle.vx_volume_laws.proofs.LivesOn.{IsPlaced}
use Rattle.vx_volume_laws.proofs.Tellings.{IsNeverDead, IsTold, MayBeTold, all_told, done_alive, hold_all, hold_as, same_parts, stopped_alive, stopped_told}

module _ (Way : Span → List ℕ → Option CellFault → RegionSeen → RegionSeen → Type 0) (may : Option CellFault → EntryKind → Type 0) (way : IsWay Way may) (never : IsNeverDead Way)
    (v : VolumeSeen) (volume : IsVolume v) (sized : 0 < v.region) (are_told : AreTold v) (epoch : ℕ) (epochs : (r : ℕ) → r < length v.cells → (cell_at v r).epoch ≡ epoch)
    (who : Caller) (fixed : ℕ → Fixed) (entries : ℕ → List Entry) (next : MayComeNext v who fixed entries)
    (start : ℕ) (new : VolumeSeen) (before after : Receipt) (some : 0 < before.count) where
  -- the entries that a call made, and as they are told
  pub record HasTold (Tells : List Entry → Type 0) : Type 0 where
    pub made : List Entry
    pub fs : List Entry
    pub retold : AreRetold made fs
    pub tells : Tells fs
    pub placed : AllOf (IsPlaced v.length v.region (length v.cells) epoch) fs
    pub goes : RegionsGoOn v new fixed entries (λ r. with_made r made (entries r))

  abbrev Begun : Calling
  Begun = record { volume = called v; parts = [] }

  abbrev Ended : Calling
  Ended = record { volume = new; parts = after.parts.items }

  module _ (is_count : after.count ≡ before.count) (within : start + before.count ≤ v.length) (told : EntryKind) where
    some_after : 0 < after.count
    some_after = subst (λ (n : ℕ). 0 < n) (sym is_count) some

    inside_after : start + after.count ≤ v.length
    inside_after = subst (λ (n : ℕ). start + n ≤ v.length) (sym is_count) within

    abbrev Fact : ℕ → Entry → Type 0
    Fact = IsTold v volume sized epoch epochs may who start after some_after inside_after told

    placed_all : (fs : List Entry) → HoldFrom Fact 0 fs → AllOf (IsPlaced v.length v.region (length v.cells) epoch) fs
    placed_all fs hold = hold_all Fact (IsPlaced v.length v.region (length v.cells) epoch) (λ i e is. is.placed) 0 fs hold

    of_parts : (made fs : List Entry) → AreRetold made fs → HoldFrom Fact 0 fs → map (λ (e : Entry). e.part) made ≡ after.parts.items → AreOfParts told v.region who start after fs
    of_parts made fs retold hold parts = record { parts = same_parts made fs retold ∙ parts; each = hold_as Fact (IsOfPart told v.region who start after) (λ i e is. is.of) 0 fs hold }

    -- all parts are done
    pub done_told : ((stop : Option CellFault) (kind : EntryKind) → may stop kind → stop ≡ None → MayBeTold kind told) →
        AreDone (CallsPart Way start after.count after.blocks.items) (parts_in v.region start after.count) Begun Ended →
        HasTold (λ fs. AreOfParts told v.region who start after fs × (part_at v.region start after.count (length fs) ≡ None))
    done_told turn done =
        let total = parts_in v.region start after.count in
        let all = call_made Way may way v volume who fixed entries next start after.count after.blocks.items are_told total None Ended done in
        let alive = done_alive Way never v start after.count after.blocks.items total Ended done in
        let told_as = all_told v volume sized epoch epochs may who start after some_after inside_after told (λ kind h. turn None kind h refl) total all.0 all.1 alive in
        let fs = told_as.0 in
        let first : start / v.region ≤ (start + after.count - 1) / v.region = (le-div_iff_mul-le sized).1 (omega (arith, div-mul-le_self start v.region, some_after)) in
        record {
          made = all.0;
          fs = fs;
          retold = told_as.1.retold;
          tells = (
            of_parts all.0 fs told_as.1.retold told_as.1.each all.3.parts,
            subst (λ (n : ℕ). part_at v.region start after.count n ≡ None) (sym told_as.1.count) (part_past v.region start after.count total sized some_after (omega (arith, first))),
          );
          placed = placed_all fs told_as.1.each;
          goes = all.3.goes;
        }

    -- one is stopped
    pub stopped : ((stop : Option CellFault) (kind : EntryKind) → may stop kind → MayBeTold kind told) → (fault : CellFault) →
        AreMade (CallsPart Way start after.count after.blocks.items) (parts_in v.region start after.count) (Some fault) Begun Ended →
        HasTold (λ fs. AreOfParts told v.region who start after fs × ((fault ≡ cell.PowerLost → ⊥) → fs ≢ []))
    stopped turn fault made =
        let n = made.0 in
        let all = call_made Way may way v volume who fixed entries next start after.count after.blocks.items are_told (suc n) (Some fault) Ended (n, made.1, omega arith, made.3, made.4) in
        let m = all.1.0 in
        let alive = done_alive Way never v start after.count after.blocks.items n made.1 made.3 in
        let fewer : m < suc n = all.1.2 in
        let told_as = stopped_told v volume sized epoch epochs may who start after some_after inside_after told turn fault m all.1.1 all.0 all.1.3 all.1.4 (λ i lt. alive i (omega (arith, lt, fewer))) in
        let fs = told_as.0 in
        record {
          made = all.0;
          fs = fs;
          retold = told_as.2.retold;
          tells = (
            of_parts all.0 fs told_as.2.retold told_as.2.each all.3.parts,
            λ lost. told_as.3
                (elim (below_or m n fewer) [
                  | inl less ↦ alive m less
                  | inr same ↦ subst (λ (i : ℕ). (cell_at v (start / v.region + i)).stage.phase ≡ Dead → ⊥) (sym same) (stopped_alive Way never v start after.count after.blocks.items n fault made.1 Ended made.3 made.4 lost)
                ]),
          );
          placed = placed_all fs told_as.2.each;
          goes = all.3.goes;
        }
      where
        below_or : (m n : ℕ) → m < suc n → (m < n) ⊎ (m ≡ n)
        below_or m n lt = grind (arith)
