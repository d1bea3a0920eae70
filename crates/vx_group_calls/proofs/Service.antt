-- What an ended call does to a running volume.
use Rattle.std.proofs.Common.{◌≡◌, ℕ, ◌-◌, ◌*◌, ◌/◌, ◌^◌, ◌<◌, ◌≤◌, min, true, List, [], length, replicate, Result, Ok, Err, Option, ◌∷◌, refl, sym, ◌∙◌, subst, inl, inr, arith}
use Rattle.std.specs.Prelude.{IfOk, OnErr}
use Rattle.std.specs.List.{sum_by}
use Rattle.std.proofs.lemmas.Result.{IfOk-weaker}
use Rattle.vx_base.specs.Counts.{Rose}
use Rattle.vx_block.specs.declared.geometry.Span.{Span}
use Rattle.vx_life.specs.declared.EntryKind.{EntryKind}
use Rattle.vx_life.specs.declared.EntryKind.TheVariants as kinds
use Rattle.vx_life.specs.declared.Part.{Part}
use Rattle.vx_life.specs.Entry.{Entry}
use Rattle.vx_piece.specs.Seen.{Keeps, Seen}
use Rattle.vx_runs.specs.Run.{EachPiece, SomeCut}
use Rattle.vx_carve.specs.Together.{faults_of, faults_on}
use Rattle.vx_pages.specs.declared.local_piece.LocalPiece.{Ghosts}
use Rattle.vx_cell.specs.declared.fault.CellFault.{CellFault}
use Rattle.vx_cell.specs.declared.fault.Place.{Place}
use Rattle.vx_cell.specs.declared.fault.Place.TheVariants.{Data, Log}
use Rattle.vx_cell.specs.Region.{AllFailed, IsCut, LogRose, RegionSeen}
use Rattle.vx_cell.specs.Changes.{CellSeen}
use Rattle.vx_cell.specs.Plexes.{PlexRose}
use Rattle.vx_cell.proofs.Work.{le_rose}
use Rattle.vx_core.specs.Table.{current}
use Rattle.vx_mask.specs.Mask.{has}
use Rattle.vx_mask.proofs.Sets.{in_without}
use Rattle.vx_script_forms.specs.declared.call.Call.{Call}
use Rattle.vx_script_forms.specs.declared.call.Call.TheVariants as calls
use Rattle.vx_moments.specs.World.{Volume as WorldVolume}
use Rattle.vx_stages.specs.Calls.{AreParts, count_of, start_of}
use Rattle.vx_volume.specs.declared.fault.IoFault.{IoFault}
use Rattle.vx_volume.specs.declared.fault.IoFault.TheVariants.{Fault, PowerLost, Range}
use Rattle.vx_volume.specs.declared.receipt.Receipt.{Receipt}
use Rattle.vx_volume.specs.declared.volume.Volume.{Volume}
use Rattle.vx_volume.specs.Calls.{CallsParts, IsRead, IsWritten, ReadEnds, WriteEndsAll, called, parts_in}
use Rattle.vx_volume.specs.Log.{LogGoes, log_kept}
use Rattle.vx_volume.specs.Receipts.{part_of}
use Rattle.vx_volume.specs.Volume.{IsVolume, VolumeSeen, cell_at, log_of, region_at, volume_seen}
use Rattle.vx_lending.specs.RegionPieces.{all_pieces}
use Rattle.vx_lending.specs.Going.{GoTogether}
use Rattle.vx_lending.specs.Left.{held_pieces, region_plexes}
use Rattle.vx_lending.specs.Logs.{log_pieces}
use Rattle.vx_lending.proofs.Goings.{each_goes}
use Rattle.vx_volume_laws.specs.RunLaws.{EachReadRunsOn, EachWriteRunsOn, RunsOn}
use Rattle.vx_volume_laws.specs.Telling.{TellsEntries}
use Rattle.vx_group_calls.specs.declared.served.Served.{Served}
use Rattle.vx_group_calls.specs.Causes.{AreCutWhereDead, CurrentFailed, FailuresAreCounted, LastFailed, LogPiecesRose, ServedHasCause}
use Rattle.vx_group_calls.specs.Laws.{StaysTogether}
use Rattle.vx_group_calls.specs.Ending.{EndsAs, IsReadServed, IsWriteServed, device_of}
use Rattle.vx_group_calls.specs.Serving.{LivesOn, ServesVolume, Tells}
use Rattle.vx_group_calls.proofs.Failures.{read_calling, write_calling}
use Rattle.vx_group_calls.proofs.HeldPieces.{SumRose, cell_cut, cell_rose, cells_stay, cut_first, cut_then, each_beside, log_stays, plex_rose, sum_rose, sums_grow}
use Rattle.vx_group_calls.proofs.Keeping.{gone_same, FailedIn, HasGone, IsCalling, SomeRegionCut, made_fault, made_lost, parts_gone}
use Rattle.vx_group_calls.proofs.LastParts.{StopsIn, last_same, made_stop}
use Rattle.vx_group_calls.proofs.LogFaults.{beside_first, beside_then, log_cut, log_rose}
use Rattle.vx_group_calls.proofs.Tellings.{IsCallOf, call_tells, data_call, fill_call, outside, read_call}

-- ---- the range of a call that ended lay in the volume

module _ (start : ℕ) (old new : VolumeSeen) (before after : Receipt) (parts : List Part) (printed : List ℕ) (served : Served) where
  read_made : (result : Result (Unit {0}) IoFault) → ReadEnds start old new result before after → EndsAs result parts printed served → CallsParts IsRead start old new result before after
  read_made (Ok u) ends told = ends.0
  read_made (Err Range) ends told = absurd told
  read_made (Err (Fault place)) ends told = ends.0
  read_made (Err PowerLost) ends told = ends.0

  write_made : (from : List ℕ) (result : Result (Unit {0}) IoFault) → WriteEndsAll start from old new result before after → EndsAs result parts printed served → CallsParts IsWritten start old new result before after × (after.blocks.items ≡ from)
  write_made from (Ok u) ends told = (ends.0, ends.2)
  write_made from (Err Range) ends told = absurd told
  write_made from (Err (Fault place)) ends told = (ends.0, ends.2)
  write_made from (Err PowerLost) ends told = (ends.0, ends.2)

-- ---- the volumes of the world

module _ (call : Call) (done stopped : EntryKind) (start : ℕ) (after : Receipt) (printed : List ℕ) (is : IsCallOf call done stopped start after.count after.blocks.items printed) (some : 0 < after.count) (result : Result (Unit {0}) IoFault) (served : Served) (ends : EndsAs result after.parts.items printed served) where
  lives : (old new : VolumeSeen) (plexes : List _) (w : WorldVolume) (owners : _) (failed : _) (place : ℕ) → w.region ≡ old.region → 0 < old.region → (es : List Entry) → TellsEntries done stopped old.region (outside place) start result after es → RunsOn plexes owners failed w es old new → LivesOn place call served plexes owners failed w old new
  lives old new plexes w owners failed place same sized es tells runs =
      let told = call_tells call done stopped start after printed is old.region place sized some result served es tells ends in
      record {
        entries = es;
        parts = subst (λ (n : ℕ). AreParts n (start_of call) (count_of call) 0 es) (sym same) told.0;
        told = subst (λ (n : ℕ). Tells place call n served es) (sym same) told.1;
        runs = runs;
      }

more_than : (n m : ℕ) → n ≡ m → 0 < m → 0 < n
more_than n m is some = omega (arith, is, some)

pub read_serves : EachReadRunsOn → (vol : List ℕ) (start count : ℕ) (served : Served) (old new : VolumeSeen) → 0 < count → IsVolume old → IsVolume new → IsReadServed start count served old new → ServesVolume (calls.Read vol start count) served old new
read_serves law vol start count served old new some volume volume' s plexes w runs owners failed fit told place next =
    let made = read_made start old new s.before s.after s.after.parts.items s.after.blocks.items served s.result s.ends s.told in
    let size : s.after.count ≡ count = made.count ∙ s.reserved.size in
    let long : length s.after.blocks.items ≡ 512 * count = made.room ∙ s.reserved.blocks in
    let x = law start old new s.result s.before s.after s.ends (more_than s.before.count count s.reserved.size some) volume volume' plexes w runs owners failed fit told (outside place) next in
    lives (calls.Read vol start count) kinds.Read kinds.Missed start s.after s.after.blocks.items
    (subst (λ (n : ℕ). IsCallOf (calls.Read vol start count) kinds.Read kinds.Missed start n s.after.blocks.items s.after.blocks.items) (sym size) (read_call vol start count s.after.blocks.items long))
    (more_than s.after.count count size some) s.result served s.told old new plexes w owners failed place runs.region_is runs.sized x.0 x.1 x.2

write_serves : EachWriteRunsOn → (call : Call) (start count : ℕ) (bytes : List ℕ) (served : Served) (old new : VolumeSeen) → ((blocks : List ℕ) → blocks ≡ bytes → IsCallOf call kinds.Write kinds.Torn start count blocks []) →
    0 < count → IsVolume old → IsVolume new → IsWriteServed start count bytes served old new → ServesVolume call served old new
write_serves law call start count bytes served old new is some volume volume' s plexes w runs owners failed fit told place next =
    let made = write_made start old new s.before s.after s.after.parts.items [] served bytes s.result s.ends s.told in
    let size : s.after.count ≡ count = made.0.count ∙ s.reserved.size in
    let x = law start bytes old new s.result s.before s.after s.ends (more_than s.before.count count s.reserved.size some) volume volume' plexes w runs owners failed fit told (outside place) next in
    lives call kinds.Write kinds.Torn start s.after [] (subst (λ (n : ℕ). IsCallOf call kinds.Write kinds.Torn start n s.after.blocks.items []) (sym size) (is s.after.blocks.items made.1))
    (more_than s.after.count count size some) s.result served s.told old new plexes w owners failed place runs.region_is runs.sized x.0 x.1 x.2

pub fill_serves : EachWriteRunsOn → (vol : List ℕ) (start count byte : ℕ) (served : Served) (old new : VolumeSeen) → 0 < count → IsVolume old → IsVolume new → IsWriteServed start count (replicate (512 * count) byte) served old new → ServesVolume (calls.Fill vol start count byte) served old new
fill_serves law vol start count byte served old new = write_serves law (calls.Fill vol start count byte) start count (replicate (512 * count) byte) served old new (fill_call vol start count byte)

pub data_serves : EachWriteRunsOn → (vol : List ℕ) (start : ℕ) (bytes : List ℕ) (served : Served) (old new : VolumeSeen) → 0 < length bytes / 512 → IsVolume old → IsVolume new → IsWriteServed start (length bytes / 512) bytes served old new → ServesVolume (calls.Data vol start bytes) served old new
data_serves law vol start bytes served old new = write_serves law (calls.Data vol start bytes) start (length bytes / 512) bytes served old new (data_call vol start bytes)

-- ---- the pieces

later : (a b c : ℕ) → a ≤ b → SumRose b c → SumRose a c
later a b c le rose = omega (arith, le, rose)

clipped : (a b : ℕ) → SumRose a b → Rose (min a (2 ^ 64 - 1)) (min b (2 ^ 64 - 1))
clipped a b rose = omega (arith, rose)

-- what an ended call leaves of the pieces of a volume, and why it was not done
pub record HasServed {P : Type 0} {ghosts : Ghosts P} (served : Served) (old new : Volume P ghosts) : Type 0 where
  pub stays : EachPiece Keeps (held_pieces ghosts.seen old) (held_pieces ghosts.seen new)
  pub goes : GoTogether (held_pieces ghosts.seen old) (held_pieces ghosts.seen new)
  pub cause : ServedHasCause ghosts.seen served old new
  pub counted : FailuresAreCounted ghosts.seen old new
  pub dead : AreCutWhereDead (volume_seen ghosts.seen old) → AreCutWhereDead (volume_seen ghosts.seen new)

module _ {P : Type 0} {ghosts : Ghosts P} (old new : Volume P ghosts) (follows : LogGoes ghosts.seen (log_of old) (log_of new)) where
  abbrev was : VolumeSeen
  was = volume_seen ghosts.seen old

  abbrev now : VolumeSeen
  now = volume_seen ghosts.seen new

  abbrev cells_of : VolumeSeen → List Seen
  cells_of v = all_pieces (region_plexes v.cells)

  kept_cells : (a b : VolumeSeen) → HasGone a b → EachPiece Keeps (cells_of a) (cells_of b)
  kept_cells a b gone = cells_stay a.cells b.cells gone.kept.count gone.kept.plexes

  kept_log : EachPiece Keeps (log_pieces ghosts.seen (log_of old)) (log_pieces ghosts.seen (log_of new))
  kept_log = log_stays (log_of old) (log_of new) follows

  rose_on : (device : ℕ) → SumRose (sum_by (faults_of device) (held_pieces ghosts.seen old)) (sum_by (faults_of device) (held_pieces ghosts.seen new)) → Rose (faults_on device (held_pieces ghosts.seen old)) (faults_on device (held_pieces ghosts.seen new))
  rose_on device rose = clipped _ _ rose

  counted_on : HasGone was now → FailuresAreCounted ghosts.seen old new
  counted_on gone r map piece device inside rose =
      let cells = sum_rose device (cells_of was) (cells_of now) (kept_cells was now gone)
      (cell_rose device was.cells now.cells r inside gone.kept.count gone.kept.plexes (plex_rose map piece device _ _ (gone.kept.plexes r inside) rose)) in
      rose_on device (beside_first device (cells_of was) (cells_of now) (log_pieces ghosts.seen (log_of old)) (log_pieces ghosts.seen (log_of new)) cells kept_log)

  pub gone_stays : HasGone was now → StaysTogether ghosts.seen old new
  gone_stays gone =
      let stays : EachPiece Keeps (held_pieces ghosts.seen old) (held_pieces ghosts.seen new) = each_beside (cells_of was) (cells_of now) (log_pieces ghosts.seen (log_of old)) (log_pieces ghosts.seen (log_of new)) (kept_cells was now gone) kept_log in
      record { stays = stays; goes = each_goes (held_pieces ghosts.seen old) (held_pieces ghosts.seen new) stays; counted = counted_on gone }

  failed_on : (place : Place) (gone : HasGone (called was) now) → FailedIn place (called was) now → Rose (faults_on (device_of place) (held_pieces ghosts.seen old)) (faults_on (device_of place) (held_pieces ghosts.seen new))
  failed_on (Data map piece device) gone failed =
      let last = kept_cells failed.mid now failed.last in
      let rose = sum_rose device (cells_of failed.mid) (cells_of now) last
      (cell_rose device failed.mid.cells now.cells failed.region failed.inside failed.last.kept.count failed.last.kept.plexes
      (plex_rose map piece device _ _ (failed.last.kept.plexes failed.region failed.inside) failed.rose)) in
      rose_on device
      (beside_first device (cells_of was) (cells_of now) (log_pieces ghosts.seen (log_of old)) (log_pieces ghosts.seen (log_of new))
      (later _ _ _ (sums_grow device (cells_of was) (cells_of failed.mid) (kept_cells (called was) failed.mid failed.gone)) rose) kept_log)
  failed_on (Log copy device) gone failed =
      let rose : Rose (was.log.faults copy device) (now.log.faults copy device) = le_rose (was.log.faults copy device) (failed.mid.log.faults copy device) (now.log.faults copy device) (failed.gone.kept.log.faults copy device) failed.rose in
      rose_on device
      (beside_then device (cells_of was) (cells_of now) (log_pieces ghosts.seen (log_of old)) (log_pieces ghosts.seen (log_of new)) (kept_cells (called was) now gone)
      (log_rose (log_of old) (log_of new) follows copy device rose))

  log_failed : (mid : VolumeSeen) → HasGone (called was) mid → HasGone (called was) now → LogRose mid.log now.log → LogPiecesRose ghosts.seen old new
  log_failed mid gone all (copy, device, rose) =
      let more : Rose (was.log.faults copy device) (now.log.faults copy device) = le_rose (was.log.faults copy device) (mid.log.faults copy device) (now.log.faults copy device) (gone.kept.log.faults copy device) rose in
      let sum = log_rose (log_of old) (log_of new) follows copy device more in
      record {
        device = device;
        log = clipped _ _ sum;
        held = rose_on device (beside_then device (cells_of was) (cells_of now) (log_pieces ghosts.seen (log_of old)) (log_pieces ghosts.seen (log_of new)) (kept_cells (called was) now all) sum);
      }

  current_failed : (parts : List Part) → HasGone (called was) now → (stop : StopsIn (record { volume = called was; parts = [] }) (record { volume = now; parts = parts })) → CurrentFailed ghosts.seen old new stop.region
  current_failed parts all stop = by stop.failed
    where
      by : AllFailed (region_at stop.mid stop.region) (region_at now stop.region) → CurrentFailed ghosts.seen old new stop.region
      by (inl log) = inl (log_failed stop.mid stop.gone all log)
      by (inr each) = inr (λ map on off.
          subst (λ (c : CellSeen). (k : ℕ) → has (current c.stage) k ≡ true → PlexRose k c.plexes (cell_at now stop.region).plexes) stop.cell each map
          (in_without (cell_at was stop.region).stage.on (cell_at was stop.region).stage.bits map on off))

  -- the last part is that of the region in which the call was stopped
  last_failed : (parts : List Part) → HasGone (called was) now → StopsIn (record { volume = called was; parts = [] }) (record { volume = now; parts = parts }) → LastFailed ghosts.seen old new parts
  last_failed parts all stop last is =
      let same : last ≡ part_of now stop.region = last_same is.0 stop.before last (part_of now stop.region) (sym is.1 ∙ stop.told) in
      subst (λ (p : Part). (p.region < length was.cells) × CurrentFailed ghosts.seen old new p.region) (sym same) (stop.inside, current_failed parts all stop)

  cut_in : SomeRegionCut now → SomeCut (held_pieces ghosts.seen new)
  cut_in some = by some.cut
    where
      by : IsCut (region_at now some.region) → SomeCut (held_pieces ghosts.seen new)
      by (inl piece) = cut_first (cells_of now) (log_pieces ghosts.seen (log_of new)) (cell_cut now.cells some.region some.inside piece)
      by (inr log) = cut_then (cells_of now) (log_pieces ghosts.seen (log_of new)) (log_cut (log_of new) log)

  module _ (Way : Span → List ℕ → Option CellFault → RegionSeen → RegionSeen → Type 0) (way : IsCalling Way) (start : ℕ) (before after : Receipt) (printed : List ℕ) (served : Served) where
    all_gone : (result : Result (Unit {0}) IoFault) → CallsParts Way start was now result before after → HasGone (called was) now
    all_gone result made = parts_gone Way way start before.count after.blocks.items (parts_in was.region start before.count) _ _ _ made.made

    -- the volume as a call begins has the cells and the log of the volume
    begun_gone : HasGone (called was) now → HasGone was now
    begun_gone gone = record { kept = record { count = gone.kept.count; plexes = gone.kept.plexes; log = gone.kept.log }; cut = gone.cut }

    caused : IsVolume was → (result : Result (Unit {0}) IoFault) → CallsParts Way start was now result before after → EndsAs result after.parts.items printed served → ServedHasCause ghosts.seen served old new
    caused whole (Ok u) made ends = subst (λ (s : Served). ServedHasCause ghosts.seen s old new) (sym ends) tt
    caused whole (Err Range) made ends = absurd ends
    caused whole (Err (Fault place)) made ends =
        let all = all_gone (Err (Fault place)) made in
        subst (λ (s : Served). ServedHasCause ghosts.seen s old new) (sym ends) (
          failed_on place all (made_fault Way way start before.count after.blocks.items (parts_in was.region start before.count) place _ _ made.made),
          last_failed after.parts.items all
              (made_stop Way way start before.count after.blocks.items (parts_in was.region start before.count) place _ _ (λ r lt. (whole.each r lt).idle) made.made),
        )
    caused whole (Err PowerLost) made ends =
        subst (λ (s : Served). ServedHasCause ghosts.seen s old new) (sym ends)
        (λ cut. cut_in (made_lost Way way start before.count after.blocks.items (parts_in was.region start before.count) _ _ made.made cut))

    has_served : IsVolume was → (result : Result (Unit {0}) IoFault) → CallsParts Way start was now result before after → EndsAs result after.parts.items printed served → HasServed served old new
    has_served whole result made ends =
        let gone = all_gone result made in
        let stays : EachPiece Keeps (held_pieces ghosts.seen old) (held_pieces ghosts.seen new) = each_beside (cells_of was) (cells_of now) (log_pieces ghosts.seen (log_of old)) (log_pieces ghosts.seen (log_of new)) (kept_cells (called was) now gone) kept_log in
        record { stays = stays; goes = each_goes (held_pieces ghosts.seen old) (held_pieces ghosts.seen new) stays; cause = caused whole result made ends; counted = counted_on (begun_gone gone); dead = gone.cut }

  pub read_leaves : IsVolume was → (start count : ℕ) (served : Served) → IsReadServed start count served was now → HasServed served old new
  read_leaves whole start count served s =
      has_served IsRead read_calling start s.before s.after s.after.blocks.items served whole s.result (read_made start was now s.before s.after s.after.parts.items s.after.blocks.items served s.result s.ends s.told) s.told

  pub write_leaves : IsVolume was → (start count : ℕ) (bytes : List ℕ) (served : Served) → IsWriteServed start count bytes served was now → HasServed served old new
  write_leaves whole start count bytes served s =
      has_served IsWritten write_calling start s.before s.after [] served whole s.result (write_made start was now s.before s.after s.after.parts.items [] served bytes s.result s.ends s.told).0 s.told

-- ---- a call that may have been refused

pub each_same : (ps : List Seen) → EachPiece Keeps ps ps
each_same [] = tt
each_same (p ∷ ps) = (record { device = refl; start = refl; sectors = refl; stop = refl; faults = omega arith; cut = λ h. h }, each_same ps)

pub same_counted : {P : Type 0} {ghosts : Ghosts P} (volume : Volume P ghosts) → FailuresAreCounted ghosts.seen volume volume
same_counted {ghosts = ghosts} volume = counted_on volume volume (log_kept (log_of volume)) (gone_same (volume_seen ghosts.seen volume))

module _ {P : Type 0} {ghosts : Ghosts P} {E : Type 0} (old new : Volume P ghosts) where
  pub stays_by : (result : Result Served E) → OnErr result (new ≡ old) → IfOk result (λ s. HasServed s old new) → EachPiece Keeps (held_pieces ghosts.seen old) (held_pieces ghosts.seen new)
  stays_by (Ok s) refused served = served.stays
  stays_by (Err e) refused served = subst (λ v. EachPiece Keeps (held_pieces ghosts.seen old) (held_pieces ghosts.seen v)) (sym refused) (each_same (held_pieces ghosts.seen old))

  pub goes_by : (result : Result Served E) → OnErr result (new ≡ old) → IfOk result (λ s. HasServed s old new) → GoTogether (held_pieces ghosts.seen old) (held_pieces ghosts.seen new)
  goes_by result refused served = each_goes (held_pieces ghosts.seen old) (held_pieces ghosts.seen new) (stays_by result refused served)

  pub cause_by : (result : Result Served E) → IfOk result (λ s. HasServed s old new) → IfOk result (λ s. ServedHasCause ghosts.seen s old new)
  cause_by result served = IfOk-weaker result (λ s. HasServed s old new) (λ s. ServedHasCause ghosts.seen s old new) (λ s h. h.cause) served

  pub counted_by : (result : Result Served E) → OnErr result (new ≡ old) → IfOk result (λ s. HasServed s old new) → FailuresAreCounted ghosts.seen old new
  counted_by (Ok s) refused served = served.counted
  counted_by (Err e) refused served = subst (λ v. FailuresAreCounted ghosts.seen old v) (sym refused) (same_counted old)

  pub dead_by : (result : Result Served E) → OnErr result (new ≡ old) → IfOk result (λ s. HasServed s old new) → AreCutWhereDead (volume_seen ghosts.seen old) → AreCutWhereDead (volume_seen ghosts.seen new)
  dead_by (Ok s) refused served = served.dead
  dead_by (Err e) refused served = λ cut. subst (λ v. AreCutWhereDead (volume_seen ghosts.seen v)) (sym refused) cut

  -- of reads and writes
  pub read_all : (result : Result Served E) (start count : ℕ) → IsVolume (volume_seen ghosts.seen old) → LogGoes ghosts.seen (log_of old) (log_of new) → IfOk result (λ s. IsReadServed start count s (volume_seen ghosts.seen old) (volume_seen ghosts.seen new)) → IfOk result (λ s. HasServed s old new)
  read_all result start count whole follows served = IfOk-weaker result (λ s. IsReadServed start count s (volume_seen ghosts.seen old) (volume_seen ghosts.seen new)) (λ s. HasServed s old new) (λ s h. read_leaves old new follows whole start count s h) served

  pub write_all : (result : Result Served E) (start count : ℕ) (bytes : List ℕ) → IsVolume (volume_seen ghosts.seen old) → LogGoes ghosts.seen (log_of old) (log_of new) → IfOk result (λ s. IsWriteServed start count bytes s (volume_seen ghosts.seen old) (volume_seen ghosts.seen new)) → IfOk result (λ s. HasServed s old new)
  write_all result start count bytes whole follows served = IfOk-weaker result (λ s. IsWriteServed start count bytes s (volume_seen ghosts.seen old) (volume_seen ghosts.seen new)) (λ s. HasServed s old new) (λ s h. write_leaves old new follows whole start count bytes s h) served
