-- The parts of a call, one after the other.
use Rattle.std.proofs.Common.{◌≡◌, ℕ, ◌+◌, ◌-◌, ◌*◌, ◌/◌, ◌≤◌, ◌<◌, zero, suc, List, [], ◌∷◌, length, take, Option, Some, None, sym, ap, subst, ◌∙◌, arith, length-append}
use Rattle.vx_block.specs.declared.geometry.Span.{Span}
use Rattle.vx_block.specs.Parts.{IsPartAt}
use Rattle.vx_block.proofs.PartLemmas.{part_is}
use Rattle.vx_block.specs.Regions.{part_at}
use Rattle.vx_core.specs.declared.stage.Phase.{Phase}
use Rattle.vx_core.specs.declared.stage.Phase.TheVariants.{Settled, Unsettled, Dead, Busy}
use Rattle.vx_life.specs.declared.Part.{Part}
use Rattle.vx_cell.specs.declared.fault.CellFault.{CellFault}
use Rattle.vx_cell.specs.Changes.{CellSeen}
use Rattle.vx_cell.specs.Region.{RegionSeen}
use Rattle.vx_volume.specs.Calls.{AreFresh, Calling, CallsPart, ChangesRegion, TellsPart, bytes_of}
use Rattle.vx_volume.specs.Loop.{AreDone}
use Rattle.vx_volume.specs.Receipts.{part_of, with_part}
use Rattle.vx_volume.specs.Volume.{VolumeSeen, cell_at}
use Rattle.vx_volume.proofs.Buffers.{stretch_same}
use Rattle.vx_volume.proofs.Ranges.{ends_before}

-- ---- the parts that are told

with_part_few : (phase : Phase) (part : Part) (parts : List Part) → length (with_part phase part parts) ≤ length parts + 1
with_part_few Dead part parts = omega arith
with_part_few Settled part parts = omega (arith, length-append parts (part ∷ []))
with_part_few Unsettled part parts = omega (arith, length-append parts (part ∷ []))
with_part_few (Busy work) part parts = omega (arith, length-append parts (part ∷ []))

pub told_few : (r : ℕ) (old new : VolumeSeen) (before after : List Part) → TellsPart r old new before after → length after ≤ length before + 1
told_few r old new before after told = omega (arith, ap length told, with_part_few (cell_at old r).stage.phase (part_of new r) before)

-- ---- one part is called

module _ (size start count index : ℕ) (span : Span) (v : VolumeSeen) (sized : v.region ≡ size) (place : IsPartAt size start count index span) where
  its_region : span.start / v.region ≡ start / size + index
  its_region = ap (λ n. span.start / n) sized ∙ place.region

  pub fresh_here : AreFresh (start / size + index) v → AreFresh (span.start / v.region) v
  fresh_here fresh = subst (λ n. AreFresh n v) (sym its_region) fresh

  module _ (Way : Span → List ℕ → Option CellFault → RegionSeen → RegionSeen → Type 0) (stop : Option CellFault) (own : List ℕ) (new : VolumeSeen) (changes : ChangesRegion (span.start / v.region) (Way span own stop) v new) where
    -- the regions behind it stay as they were
    pub fresh_next : AreFresh (start / size + index) v → AreFresh (start / size + (index + 1)) new
    fresh_next fresh =
        let most : new.most ≡ v.most = ap (λ (w : VolumeSeen). w.most) changes.same in
        record {
          numbers = λ i le.
              let below : (cell_at v i).number < v.most = fresh.numbers i (omega arith) in
              subst (λ n. (cell_at new i).number < n) (sym most) (subst (λ (c : CellSeen). c.number < v.most) (sym (changes.others i (λ e. absurd (omega (arith, its_region, e, le))))) below);
          bound = omega (arith, most, fresh.bound);
        }

    pub part_called : (bytes : List ℕ) (before after : List Part) → part_at size start count index ≡ Some span → own ≡ bytes_of bytes start span → TellsPart (span.start / v.region) v new before after
        → CallsPart Way start count bytes index stop (record { volume = v; parts = before }) (record { volume = new; parts = after })
    part_called bytes before after part is told =
        record {
          span = span;
          part = ap (λ n. part_at n start count index) sized ∙ part;
          region = span.start / v.region;
          is_region = its_region ∙ ap (λ n. start / n + index) (sym sized);
          ends = subst (λ (b : List ℕ). ChangesRegion (span.start / v.region) (Way span b stop) v new) is changes;
          told = told;
        }

-- ---- the bytes of the parts that are done stay as they were

module _ (Way : Span → List ℕ → Option CellFault → RegionSeen → RegionSeen → Type 0) (size start count : ℕ) (sized : 0 < size) (some : 0 < count) (bytes bytes' : List ℕ) (stays : ℕ) (same : take stays bytes ≡ take stays bytes') where
  part_same : (span : Span) → start ≤ span.start → 512 * (span.start + span.count - start) ≤ stays → bytes_of bytes start span ≡ bytes_of bytes' start span
  part_same span from to = stretch_same bytes bytes' (512 * (span.start - start)) (512 * span.count) stays (omega (arith, from, to)) same

  size_before : (n : ℕ) (old new : Calling) → CallsPart Way start count bytes n None old new → new.volume.region ≡ size → old.volume.region ≡ size
  size_before n old new call is = sym (ap (λ (v : VolumeSeen). v.region) call.ends.same) ∙ is

  place_of : (n : ℕ) (old new : Calling) (call : CallsPart Way start count bytes n None old new) → old.volume.region ≡ size → IsPartAt size start count n call.span
  place_of n old new call is = part_is size start count n sized some call.span (ap (λ m. part_at m start count n) (sym is) ∙ call.part)

  part_kept : (n : ℕ) (old new : Calling) (call : CallsPart Way start count bytes n None old new) → bytes_of bytes start call.span ≡ bytes_of bytes' start call.span → CallsPart Way start count bytes' n None old new
  part_kept n old new call is =
      record {
        span = call.span;
        part = call.part;
        region = call.region;
        is_region = call.is_region;
        ends = subst (λ (b : List ℕ). ChangesRegion call.region (Way call.span b None) old.volume new.volume) is call.ends;
        told = call.told;
      }

  done_kept : (n : ℕ) (old new : Calling) → new.volume.region ≡ size → ((i : ℕ) (span : Span) → i < n → IsPartAt size start count i span → 512 * (span.start + span.count - start) ≤ stays) → AreDone (CallsPart Way start count bytes) n old new → AreDone (CallsPart Way start count bytes') n old new
  done_kept zero old new is ends done = done
  done_kept (suc n) old new is ends done =
      let was = size_before n done.0 new done.2 is in
      let place = place_of n done.0 new done.2 was in
      (done.0, done_kept n old done.0 was (λ i span lt. ends i span (omega arith)) done.1, part_kept n done.0 new done.2 (part_same done.2.span place.from (ends n done.2.span (omega arith) place)))

  -- they end where the next part begins
  pub done_before : (n : ℕ) (old new : Calling) (span : Span) → new.volume.region ≡ size → IsPartAt size start count n span → stays ≡ 512 * (span.start - start) → AreDone (CallsPart Way start count bytes) n old new → AreDone (CallsPart Way start count bytes') n old new
  done_before n old new span is place length done =
      done_kept n old new is (λ i s lt at. omega (arith, ends_before size start count sized some i n s span lt at place, length)) done
