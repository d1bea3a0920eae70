-- Calls on a volume of the code, and the volume of the world after them.
use Rattle.std.proofs.Common.{◌≡◌, ◌≢◌, ℕ, Bool, ◌<◌, refl, sym, ap, subst, inl, inr, List, [], length, Option, Some, None, Result, Ok, Err}
use Rattle.vx_base.specs.Named.{Word}
use Rattle.vx_block.specs.declared.geometry.Span.{Span}
use Rattle.vx_life.specs.declared.EntryKind.{EntryKind}
use Rattle.vx_life.specs.declared.EntryKind.TheVariants as kinds
use Rattle.vx_life.specs.Entry.{Entry}
use Rattle.vx_cell.specs.declared.fault.CellFault.{CellFault}
use Rattle.vx_cell.specs.declared.fault.Place.{Place}
use Rattle.vx_cell.specs.declared.fault.CellFault.TheVariants as cell
use Rattle.vx_cell.specs.Region.{RegionSeen}
use Rattle.vx_cell.specs.Running.{Caller}
use Rattle.vx_volume.specs.declared.fault.IoFault.{IoFault}
use Rattle.vx_volume.specs.declared.fault.IoFault.TheVariants.{Range, Fault, PowerLost}
use Rattle.vx_volume.specs.declared.receipt.Receipt.{Receipt}
use Rattle.vx_volume.specs.Calls.{Calling, CallsPart, CallsParts, IsRead, IsWritten, called, io_stop, parts_in}
use Rattle.vx_volume.specs.Laws.{MayTellRead, MayTellWrite, RegionsGoOn}
use Rattle.vx_volume.specs.Loop.{AreMade}
use Rattle.vx_volume.specs.Passes.{Clears, CopiesTo, Copying, CopyEnds, Settles}
use Rattle.vx_volume.specs.Volume.{IsVolume, VolumeSeen}
use Rattle.vx_volume.proofs.PassHistories.{clear_pass, copy_pass, settle_pass}
use Rattle.vx_volume.proofs.Volumes.{IsWay, going_same, read_way, write_way}
use Rattle.vx_moments.specs.World.{Volume}
use Rattle.vx_image.specs.Image.{PlexImage}
use Rattle.vx_volume_laws.specs.Tracks.{EachCallIsTracked}
use Rattle.vx_moments.specs.Tracks.{TrackOwner}
use Rattle.vx_volume_laws.specs.Running.{RunsAsVolume}
use Rattle.vx_volume_laws.specs.Telling.{AreOfParts, TellsEntries}
use Rattle.vx_volume_laws.specs.RunLaws.{EachClearingRunsOn, EachCopyRunsOn, EachReadRunsOn, EachSettlingRunsOn, EachWriteRunsOn, FailuresAreTold, MayComeNext, OwnersFit, RunsOn}
use Rattle.vx_volume_laws.proofs.Ends.{HasTold, done_told, stopped}
use Rattle.vx_volume_laws.proofs.Tellings.{IsNeverDead, MayBeTold, read_alive, write_alive}
use Rattle.vx_volume_laws.proofs.LivesVolumes.{histories, made_keeps, next_in, pass_runs, runs_on}

-- ---- how an entry may be told

read_done : (stop : Option CellFault) (kind : EntryKind) → MayTellRead stop kind → stop ≡ None → MayBeTold kind kinds.Read
read_done None kind is none = subst (λ (k : EntryKind). MayBeTold k kinds.Read) (sym is) tt
read_done (Some fault) kind is none = cc

read_stopped : (stop : Option CellFault) (kind : EntryKind) → MayTellRead stop kind → MayBeTold kind kinds.Missed
read_stopped None kind is = subst (λ (k : EntryKind). MayBeTold k kinds.Missed) (sym is) tt
read_stopped (Some fault) kind is = subst (λ (k : EntryKind). MayBeTold k kinds.Missed) (sym is) tt

write_done : (stop : Option CellFault) (kind : EntryKind) → MayTellWrite stop kind → stop ≡ None → MayBeTold kind kinds.Write
write_done None kind is none = subst (λ (k : EntryKind). MayBeTold k kinds.Write) (sym is) tt
write_done (Some fault) kind is none = cc

write_stopped : (stop : Option CellFault) (kind : EntryKind) → MayTellWrite stop kind → MayBeTold kind kinds.Torn
write_stopped None kind is = subst (λ (k : EntryKind). MayBeTold k kinds.Torn) (sym is) tt
write_stopped (Some cell.PowerLost) kind is =
    elim is [
      | inl torn ↦ subst (λ (k : EntryKind). MayBeTold k kinds.Torn) (sym torn) tt
      | inr done ↦ subst (λ (k : EntryKind). MayBeTold k kinds.Torn) (sym done) tt
    ]
write_stopped (Some (cell.Fault place)) kind is = subst (λ (k : EntryKind). MayBeTold k kinds.Torn) (sym is) tt
write_stopped (Some cell.Held) kind is = subst (λ (k : EntryKind). MayBeTold k kinds.Torn) (sym is) tt
write_stopped (Some (cell.Only map)) kind is = subst (λ (k : EntryKind). MayBeTold k kinds.Torn) (sym is) tt

-- ---- a call

module _ (tracked : EachCallIsTracked) (Way : Span → List ℕ → Option CellFault → RegionSeen → RegionSeen → Type 0) (may : Option CellFault → EntryKind → Type 0) (way : IsWay Way may) (never : IsNeverDead Way)
    (finished cut : EntryKind) (as_done : (stop : Option CellFault) (kind : EntryKind) → may stop kind → stop ≡ None → MayBeTold kind finished) (as_cut : (stop : Option CellFault) (kind : EntryKind) → may stop kind → MayBeTold kind cut)
    (start : ℕ) (old new : VolumeSeen) (before after : Receipt) (some : 0 < before.count) (was : IsVolume old) (is : IsVolume new) (plexes : List PlexImage) (w : Volume) (run : RunsAsVolume plexes old w)
    (owners : Word → TrackOwner) (failed : Word → Bool) (fit : OwnersFit plexes old owners) (counted : FailuresAreTold plexes owners failed old new) (who : Caller) (next : MayComeNext who w.life) where
  -- what a call comes to
  abbrev pub EndsWith : Result (Unit {0}) IoFault → Type 0
  EndsWith result = (es : List Entry) × TellsEntries finished cut old.region who start result after es × RunsOn plexes owners failed w es old new

  abbrev Told : (List Entry → Type 0) → Type 0
  Told Tells = HasTold Way may way never old was run.sized run.told w.life.epoch run.epoch who run.fixed (histories w) (next_in plexes old w run who next) start new before after some Tells

  region_kept : (n : ℕ) (stop : Option CellFault) (a b : Calling) → CallsPart Way start before.count after.blocks.items n stop a b → b.volume.region ≡ a.volume.region
  region_kept n stop a b call = ap (λ (v : VolumeSeen). v.region) call.ends.same

  length_kept : (n : ℕ) (stop : Option CellFault) (a b : Calling) → CallsPart Way start before.count after.blocks.items n stop a b → b.volume.length ≡ a.volume.length
  length_kept n stop a b call = ap (λ (v : VolumeSeen). v.length) call.ends.same

  module _ (result : Result (Unit {0}) IoFault) (calls : CallsParts Way start old new result before after) where
    same_region : new.region ≡ old.region
    same_region = made_keeps (CallsPart Way start before.count after.blocks.items) (λ (c : Calling). c.volume.region) region_kept (parts_in old.region start before.count) (io_stop result) (record { volume = called old; parts = [] }) (record { volume = new; parts = after.parts.items }) calls.made

    same_length : new.length ≡ old.length
    same_length = made_keeps (CallsPart Way start before.count after.blocks.items) (λ (c : Calling). c.volume.length) length_kept (parts_in old.region start before.count) (io_stop result) (record { volume = called old; parts = [] }) (record { volume = new; parts = after.parts.items }) calls.made

    pub made_after : AreMade (CallsPart Way start after.count after.blocks.items) (parts_in old.region start after.count) (io_stop result) (record { volume = called old; parts = [] }) (record { volume = new; parts = after.parts.items })
    made_after =
        subst (λ (n : ℕ). AreMade (CallsPart Way start n after.blocks.items) (parts_in old.region start n) (io_stop result) (record { volume = called old; parts = [] }) (record { volume = new; parts = after.parts.items })) (sym calls.count) calls.made

    pub by_told : (Tells : List Entry → Type 0) (told : Told Tells) → RunsOn plexes owners failed w told.fs old new
    by_told Tells told = runs_on tracked plexes old new was is w run owners failed fit counted told.made told.fs told.retold told.placed same_length same_region told.goes

  pub call_done : (u : Unit {0}) → CallsParts Way start old new (Ok u) before after → EndsWith (Ok u)
  call_done u calls =
      let told = done_told Way may way never old was run.sized run.told w.life.epoch run.epoch who run.fixed (histories w) (next_in plexes old w run who next) start new before after some calls.count calls.inside finished as_done (made_after (Ok u) calls) in
      (told.fs, told.tells, by_told (Ok u) calls _ told)

  pub call_stopped : (fault : CellFault) (result : Result (Unit {0}) IoFault) → io_stop result ≡ Some fault → (calls : CallsParts Way start old new result before after) → Told (λ fs. AreOfParts cut old.region who start after fs × ((fault ≡ cell.PowerLost → ⊥) → fs ≢ []))
  call_stopped fault result stop calls =
      stopped Way may way never old was run.sized run.told w.life.epoch run.epoch who run.fixed (histories w) (next_in plexes old w run who next) start new before after some calls.count calls.inside cut as_cut fault
      (subst (λ (o : Option CellFault). AreMade (CallsPart Way start after.count after.blocks.items) (parts_in old.region start after.count) o (record { volume = called old; parts = [] }) (record { volume = new; parts = after.parts.items })) stop (made_after result calls))

  pub call_faulted : (place : Place) → CallsParts Way start old new (Err (Fault place)) before after → EndsWith (Err (Fault place))
  call_faulted place calls =
      let told = call_stopped (cell.Fault place) (Err (Fault place)) refl calls in
      (told.fs, (told.tells.0, told.tells.1 (λ e. cc)), by_told (Err (Fault place)) calls _ told)

  pub call_lost : CallsParts Way start old new (Err PowerLost) before after → EndsWith (Err PowerLost)
  call_lost calls =
      let told = call_stopped cell.PowerLost (Err PowerLost) refl calls in
      (told.fs, told.tells.0, by_told (Err PowerLost) calls _ told)

-- a volume that was not called runs on, whatever is told as failed
module _ (tracked : EachCallIsTracked) (old new : VolumeSeen) (same : new ≡ old) (was : IsVolume old) (is : IsVolume new) (plexes : List PlexImage) (w : Volume) (run : RunsAsVolume plexes old w)
    (owners : Word → TrackOwner) (failed : Word → Bool) (fit : OwnersFit plexes old owners) (counted : FailuresAreTold plexes owners failed old new) where
  pub stays_on : RunsOn plexes owners failed w [] old new
  stays_on =
      runs_on tracked plexes old new was is w run owners failed fit counted [] [] tt tt (ap (λ (v : VolumeSeen). v.length) same) (ap (λ (v : VolumeSeen). v.region) same)
      (subst (λ (v : VolumeSeen). RegionsGoOn old v run.fixed (histories w) (histories w)) (sym same) (going_same old run.fixed (histories w) run.told))

pub each_read : EachCallIsTracked → EachReadRunsOn
each_read tracked start old new (Err Range) before after ends some was is plexes w run owners failed fit counted who next = ([], refl, stays_on tracked old new ends.same was is plexes w run owners failed fit counted)
each_read tracked start old new (Ok u) before after ends some was is plexes w run owners failed fit counted who next =
    call_done tracked IsRead MayTellRead read_way read_alive kinds.Read kinds.Missed read_done read_stopped start old new before after some was is plexes w run owners failed fit counted who next u ends.0
each_read tracked start old new (Err (Fault place)) before after ends some was is plexes w run owners failed fit counted who next =
    call_faulted tracked IsRead MayTellRead read_way read_alive kinds.Read kinds.Missed read_done read_stopped start old new before after some was is plexes w run owners failed fit counted who next place ends.0
each_read tracked start old new (Err PowerLost) before after ends some was is plexes w run owners failed fit counted who next =
    call_lost tracked IsRead MayTellRead read_way read_alive kinds.Read kinds.Missed read_done read_stopped start old new before after some was is plexes w run owners failed fit counted who next ends.0

pub each_write : EachCallIsTracked → EachWriteRunsOn
each_write tracked start from old new (Err Range) before after ends some was is plexes w run owners failed fit counted who next = ([], refl, stays_on tracked old new ends.same was is plexes w run owners failed fit counted)
each_write tracked start from old new (Ok u) before after ends some was is plexes w run owners failed fit counted who next =
    call_done tracked IsWritten MayTellWrite write_way write_alive kinds.Write kinds.Torn write_done write_stopped start old new before after some was is plexes w run owners failed fit counted who next u ends.0
each_write tracked start from old new (Err (Fault place)) before after ends some was is plexes w run owners failed fit counted who next =
    call_faulted tracked IsWritten MayTellWrite write_way write_alive kinds.Write kinds.Torn write_done write_stopped start old new before after some was is plexes w run owners failed fit counted who next place ends.0
each_write tracked start from old new (Err PowerLost) before after ends some was is plexes w run owners failed fit counted who next =
    call_lost tracked IsWritten MayTellWrite write_way write_alive kinds.Write kinds.Torn write_done write_stopped start old new before after some was is plexes w run owners failed fit counted who next ends.0

-- ---- a pass

pub each_settling : EachCallIsTracked → EachSettlingRunsOn
each_settling tracked old new result ends was is plexes w run owners failed fit counted =
    pass_runs tracked plexes old new was is w run owners failed fit counted
    (made_keeps Settles (λ (v : VolumeSeen). v.length) (λ n stop a b step. ap (λ (v : VolumeSeen). v.length) step.same) (length old.cells) (io_stop result) old new ends.0)
    (made_keeps Settles (λ (v : VolumeSeen). v.region) (λ n stop a b step. ap (λ (v : VolumeSeen). v.region) step.same) (length old.cells) (io_stop result) old new ends.0)
    (settle_pass old new result ends was run.told run.fixed (histories w))

pub each_clearing : EachCallIsTracked → EachClearingRunsOn
each_clearing tracked old new result ends was is plexes w run owners failed fit counted =
    pass_runs tracked plexes old new was is w run owners failed fit counted
    (made_keeps Clears (λ (v : VolumeSeen). v.length) (λ n stop a b step. ap (λ (v : VolumeSeen). v.length) step.same) (length old.cells) (io_stop result) old new ends.0)
    (made_keeps Clears (λ (v : VolumeSeen). v.region) (λ n stop a b step. ap (λ (v : VolumeSeen). v.region) step.same) (length old.cells) (io_stop result) old new ends.0)
    (clear_pass old new result ends was run.told run.fixed (histories w))

-- the number of regions that were copied is of no account
copied_keeps : (shape : VolumeSeen → ℕ) → ((r map : ℕ) (stop : Option CellFault) (a b : Copying) → CopiesTo map r stop a b → shape b.volume ≡ shape a.volume) → (map : ℕ) (old new : VolumeSeen) (result : Result ℕ IoFault) → CopyEnds map old new result → shape new ≡ shape old
copied_keeps shape keeps map old new (Ok n) ends = made_keeps (CopiesTo map) (λ (c : Copying). shape c.volume) (λ r stop a b step. keeps r map stop a b step) (length old.cells) None (record { volume = old; copied = 0 }) (record { volume = new; copied = n }) ends
copied_keeps shape keeps map old new (Err fault) ends = made_keeps (CopiesTo map) (λ (c : Copying). shape c.volume) (λ r stop a b step. keeps r map stop a b step) (length old.cells) (io_stop {T = ℕ} (Err fault)) (record { volume = old; copied = 0 }) (record { volume = new; copied = ends.0 }) ends.1

pub each_copy : EachCallIsTracked → EachCopyRunsOn
each_copy tracked map old new result ends was is plexes w run owners failed fit counted =
    pass_runs tracked plexes old new was is w run owners failed fit counted
    (copied_keeps (λ (v : VolumeSeen). v.length) (λ r map stop a b step. ap (λ (v : VolumeSeen). v.length) step.ends.same) map old new result ends)
    (copied_keeps (λ (v : VolumeSeen). v.region) (λ r map stop a b step. ap (λ (v : VolumeSeen). v.region) step.ends.same) map old new result ends)
    (copy_pass map old new result ends was run.told run.fixed (histories w))
