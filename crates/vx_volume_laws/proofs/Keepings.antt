-- What calls keep of the places of a volume.
use Rattle.std.proofs.Common.{◌≡◌, inl, inr, ℕ, zero, suc, refl, sym, ap, ◌∙◌, subst, arith, List, [], length, Option, Some, None, Result, Ok, Err}
use Rattle.std.proofs.lemmas.Bool.{cases_eq}
use Rattle.vx_block.specs.declared.geometry.Span.{Span}
use Rattle.vx_core.specs.declared.stage.Stage.{Stage}
use Rattle.vx_core.specs.Follow.{SameMasks}
use Rattle.vx_cell.specs.declared.fault.CellFault.{CellFault}
use Rattle.vx_cell.specs.Changes.{CellSeen}
use Rattle.vx_cell.specs.Region.{RegionSeen}
use Rattle.vx_volume.specs.declared.fault.IoFault.{IoFault}
use Rattle.vx_volume.specs.declared.fault.IoFault.TheVariants.{Range, Fault, PowerLost}
use Rattle.vx_volume.specs.declared.receipt.Receipt.{Receipt}
use Rattle.vx_volume.specs.Calls.{Calling, CallsPart, CallsParts, ChangesRegion, IsRead, IsWritten, bytes_of, called, io_stop, parts_in}
use Rattle.vx_volume.specs.Loop.{AreDone, AreMade}
use Rattle.vx_volume.specs.Passes.{Clears, CopiesTo, Copying, IsClearedAt, IsCopiedAt, IsSettledAt, Settles}
use Rattle.vx_volume.specs.Volume.{VolumeSeen, cell_at, region_at}
use Rattle.vx_volume.proofs.Entries.{dead_or}
use Rattle.vx_volume.proofs.Volumes.{IsGone, clear_job, copy_job, read_way, settle_job, write_way}
use Rattle.vx_volume_laws.specs.Calls.{EachClearingKeeps, EachCopyKeeps, EachKeepingKeeps, EachReadKeeps, EachSettlingKeeps, EachWriteKeeps, KeepsPlaces, StayPlexes}
use Rattle.vx_volume_laws.proofs.Stays.{stay_kept, stay_more, stay_same}

-- ---- one thing after another

pub masks_same : (s : Stage) → SameMasks s s
masks_same s = (refl, refl, refl, refl)

masks_then : (s t u : Stage) → SameMasks s t → SameMasks t u → SameMasks s u
masks_then s t u a b = (b.0 ∙ a.0, b.1 ∙ a.1, b.2 ∙ a.2, b.3 ∙ a.3)

pub keeps_same : (v : VolumeSeen) → KeepsPlaces v v
keeps_same v = record { length_is = refl; region_is = refl; count = refl; plexes = λ r lt. stay_same (cell_at v r).plexes; masks = λ r lt. masks_same (cell_at v r).stage; there = refl }

pub keeping_keeps : EachKeepingKeeps
keeping_keeps old mid new a b =
    record {
      length_is = b.length_is ∙ a.length_is;
      region_is = b.region_is ∙ a.region_is;
      count = b.count ∙ a.count;
      plexes = λ r lt. stay_more (cell_at old r).plexes (cell_at mid r).plexes (cell_at new r).plexes (a.plexes r lt) (b.plexes r (let same = a.count in omega (arith, lt, same)));
      masks = λ r lt. masks_then (cell_at old r).stage (cell_at mid r).stage (cell_at new r).stage (a.masks r lt) (b.masks r (let same = a.count in omega (arith, lt, same)));
      there = b.there ∙ a.there;
    }

-- what each call keeps all of them keep
module _ {S : Type 0} (see : S → VolumeSeen) (Call : ℕ → Option CellFault → S → S → Type 0) (each : (n : ℕ) (stop : Option CellFault) (old new : S) → Call n stop old new → KeepsPlaces (see old) (see new)) where
  done_keep : (n : ℕ) (old new : S) → AreDone Call n old new → KeepsPlaces (see old) (see new)
  done_keep zero old new done = subst (λ (s : S). KeepsPlaces (see old) (see s)) (sym done) (keeps_same (see old))
  done_keep (suc n) old new done = keeping_keeps (see old) (see done.0) (see new) (done_keep n old done.0 done.1) (each n None done.0 new done.2)

  made_keep : (total : ℕ) (stop : Option CellFault) (old new : S) → AreMade Call total stop old new → KeepsPlaces (see old) (see new)
  made_keep total None old new made = done_keep total old new made
  made_keep total (Some fault) old new made = keeping_keeps (see old) (see made.1) (see new) (done_keep made.0 old made.1 made.3) (each made.0 (Some fault) made.1 new made.4)

-- ---- one region

-- what a call keeps of its region
pub record KeepsOne (old new : RegionSeen) : Type 0 where
  pub gone : IsGone old new
  pub masks : SameMasks old.stage new.stage

region_keeps : (Way : RegionSeen → RegionSeen → Type 0) → ((old new : RegionSeen) → Way old new → KeepsOne old new) → (r : ℕ) (old new : VolumeSeen) → ChangesRegion r Way old new → KeepsPlaces old new
region_keeps Way way r old new change =
    let one = way (region_at old r) (region_at new r) change.goes in
    record {
      length_is = ap (λ (v : VolumeSeen). v.length) change.same;
      region_is = ap (λ (v : VolumeSeen). v.region) change.same;
      count = change.count;
      plexes = λ i lt.
          elim (cases_eq i r) [
            | inl is ↦ subst (λ m. StayPlexes (cell_at old m).plexes (cell_at new m).plexes) (sym is) (stay_kept (cell_at old r).plexes (cell_at new r).plexes one.gone.stays.plexes)
            | inr apart ↦ subst (λ (x : CellSeen). StayPlexes (cell_at old i).plexes x.plexes) (sym (change.others i apart)) (stay_same (cell_at old i).plexes)
          ];
      masks = λ i lt.
          elim (cases_eq i r) [
            | inl is ↦ subst (λ m. SameMasks (cell_at old m).stage (cell_at new m).stage) (sym is) one.masks
            | inr apart ↦ subst (λ (x : CellSeen). SameMasks (cell_at old i).stage x.stage) (sym (change.others i apart)) (masks_same (cell_at old i).stage)
          ];
      there = one.gone.stays.log.there;
    }

still : (old new : RegionSeen) → new ≡ old → SameMasks old.stage new.stage
still old new same = subst (λ (r : RegionSeen). SameMasks old.stage r.stage) (sym same) (masks_same old.stage)

read_keeps : (span : Span) (bytes : List ℕ) (stop : Option CellFault) (old new : RegionSeen) → IsRead span bytes stop old new → KeepsOne old new
read_keeps span bytes stop old new is =
    record { gone = read_way.gone old new span bytes stop is; masks = dead_or old.stage.phase (λ dead. still old new (is.ended.dead dead).same) (λ alive. (is.ended.ended alive).masks) }

write_keeps : (span : Span) (bytes : List ℕ) (stop : Option CellFault) (old new : RegionSeen) → IsWritten span bytes stop old new → KeepsOne old new
write_keeps span bytes stop old new is =
    record { gone = write_way.gone old new span bytes stop is; masks = dead_or old.stage.phase (λ dead. still old new (is.ended.dead dead).same) (λ alive. (is.ended.ended alive).masks) }

settle_keeps : (stop : Option CellFault) (old new : RegionSeen) → IsSettledAt stop old new → KeepsOne old new
settle_keeps stop old new is =
    record { gone = (settle_job stop).gone old new is; masks = dead_or old.stage.phase (λ dead. still old new (is.ends.ended.dead dead).same) (λ alive. (is.ends.ended.ended alive).masks) }

clear_keeps : (stop : Option CellFault) (old new : RegionSeen) → IsClearedAt stop old new → KeepsOne old new
clear_keeps stop old new is =
    record { gone = (clear_job stop).gone old new is; masks = dead_or old.stage.phase (λ dead. still old new (is.ends.ended.dead dead).same) (λ alive. (is.ends.ended.ended alive).masks) }

copy_keeps : (map : ℕ) (stop : Option CellFault) (old new : Copying) (r : ℕ) → CopiesTo map r stop old new → KeepsPlaces old.volume new.volume
copy_keeps map stop old new r call =
    region_keeps (IsCopiedAt map call.result)
    (λ before after is.
    record { gone = (copy_job map call.result).gone before after is; masks = dead_or before.stage.phase (λ dead. still before after (is.ends.ended.dead dead).same) (λ alive. (is.ends.ended.ended alive).masks) }) r old.volume new.volume call.ends

-- ---- a call

begun : (v : VolumeSeen) → KeepsPlaces v (called v)
begun v = record { length_is = refl; region_is = refl; count = refl; plexes = λ r lt. stay_same (cell_at v r).plexes; masks = λ r lt. masks_same (cell_at v r).stage; there = refl }

module _ (Way : Span → List ℕ → Option CellFault → RegionSeen → RegionSeen → Type 0) (way : (span : Span) (bytes : List ℕ) (stop : Option CellFault) (old new : RegionSeen) → Way span bytes stop old new → KeepsOne old new) (start : ℕ) where
  parts_keep : (old new : VolumeSeen) (result : Result (Unit {0}) IoFault) (before after : Receipt) → CallsParts Way start old new result before after → KeepsPlaces old new
  parts_keep old new result before after calls =
      keeping_keeps old (called old) new (begun old)
      (made_keep (λ (c : Calling). c.volume) (CallsPart Way start before.count after.blocks.items)
      (λ n stop a b call. region_keeps (Way call.span (bytes_of after.blocks.items start call.span) stop) (way call.span (bytes_of after.blocks.items start call.span) stop) call.region a.volume b.volume call.ends)
      (parts_in old.region start before.count) (io_stop result) (record { volume = called old; parts = [] }) (record { volume = new; parts = after.parts.items }) calls.made)

pub each_read_keeps : EachReadKeeps
each_read_keeps start old new (Err Range) before after ends = subst (λ (v : VolumeSeen). KeepsPlaces old v) (sym ends.same) (keeps_same old)
each_read_keeps start old new (Ok u) before after ends = parts_keep IsRead read_keeps start old new (Ok u) before after ends.0
each_read_keeps start old new (Err (Fault place)) before after ends = parts_keep IsRead read_keeps start old new (Err (Fault place)) before after ends.0
each_read_keeps start old new (Err PowerLost) before after ends = parts_keep IsRead read_keeps start old new (Err PowerLost) before after ends.0

pub each_write_keeps : EachWriteKeeps
each_write_keeps start from old new (Err Range) before after ends = subst (λ (v : VolumeSeen). KeepsPlaces old v) (sym ends.same) (keeps_same old)
each_write_keeps start from old new (Ok u) before after ends = parts_keep IsWritten write_keeps start old new (Ok u) before after ends.0
each_write_keeps start from old new (Err (Fault place)) before after ends = parts_keep IsWritten write_keeps start old new (Err (Fault place)) before after ends.0
each_write_keeps start from old new (Err PowerLost) before after ends = parts_keep IsWritten write_keeps start old new (Err PowerLost) before after ends.0

-- ---- a pass

pub each_settling_keeps : EachSettlingKeeps
each_settling_keeps old new result ends = made_keep (λ (v : VolumeSeen). v) Settles (λ r stop a b call. region_keeps (IsSettledAt stop) (settle_keeps stop) r a b call) (length old.cells) (io_stop result) old new ends.0

pub each_clearing_keeps : EachClearingKeeps
each_clearing_keeps old new result ends = made_keep (λ (v : VolumeSeen). v) Clears (λ r stop a b call. region_keeps (IsClearedAt stop) (clear_keeps stop) r a b call) (length old.cells) (io_stop result) old new ends.0

pub each_copy_keeps : EachCopyKeeps
each_copy_keeps map old new (Ok n) ends =
    made_keep (λ (c : Copying). c.volume) (CopiesTo map) (λ r stop a b call. copy_keeps map stop a b r call) (length old.cells) None (record { volume = old; copied = 0 }) (record { volume = new; copied = n }) ends
each_copy_keeps map old new (Err fault) ends =
    made_keep (λ (c : Copying). c.volume) (CopiesTo map) (λ r stop a b call. copy_keeps map stop a b r call) (length old.cells) (io_stop {T = ℕ} (Err fault)) (record { volume = old; copied = 0 }) (record { volume = new; copied = ends.0 }) ends.1
