-- Calls on a started volume of the code, and what they do to the volume of the world that it runs as.
use Rattle.std.specs.Prelude.{◌≡◌, ℕ, ◌<◌, Bool, true, List, length, Contains, Result}
use Rattle.vx_base.specs.Named.{Word}
use Rattle.vx_life.specs.declared.EntryKind.TheVariants.{Read, Write, Torn, Missed}
use Rattle.vx_life.specs.Entry.{Entry}
use Rattle.vx_life.specs.Life.{Life, GoesOn}
use Rattle.vx_core.specs.History.{AllOf, MayPrecede}
use Rattle.vx_cell.specs.Plexes.{PlexRose}
use Rattle.vx_cell.specs.Running.{Caller}
use Rattle.vx_volume.specs.declared.fault.IoFault.{IoFault}
use Rattle.vx_volume.specs.declared.receipt.Receipt.{Receipt}
use Rattle.vx_volume.specs.Calls.{ReadEnds, WriteEndsAll}
use Rattle.vx_volume.specs.Passes.{Clears, CopyEnds, PassEnds, Settles}
use Rattle.vx_volume.specs.Volume.{IsVolume, VolumeSeen, cell_at}
use Rattle.vx_moments.specs.World.{Volume}
use Rattle.vx_image.specs.Image.{PlexImage}
use Rattle.vx_volume_laws.specs.Tracks.{HasMap}
use Rattle.vx_moments.specs.Tracks.{TrackOwner, has_failed, volume_failed, volume_lived}
use Rattle.vx_volume_laws.specs.Exact.{IsExactVolume, LogIsWell}
use Rattle.vx_volume_laws.specs.Running.{IsSureOfOthers, RunsAsVolume}
use Rattle.vx_volume_laws.specs.Telling.{TellsEntries}

-- ---- what a call has to do with the world

-- each plex by its name is one that is written to where it is on in the regions, and has its map there
abbrev pub OwnersFit : List PlexImage → VolumeSeen → (Word → TrackOwner) → Type 0
OwnersFit plexes v owners = (p : PlexImage) → Contains plexes p → (r : ℕ) → r < length v.cells → HasMap (cell_at v r).stage p.map (owners p.name)

-- where a count of a plex rose in some region, one of its devices is told as failed
abbrev pub FailuresAreTold : List PlexImage → (owners : Word → TrackOwner) (failed : Word → Bool) (old new : VolumeSeen) → Type 0
FailuresAreTold plexes owners failed old new =
    (p : PlexImage) → Contains plexes p → (r : ℕ) → r < length old.cells → PlexRose p.map (cell_at old r).plexes (cell_at new r).plexes → has_failed failed (owners p.name) ≡ true

-- a call of theirs may come next in the life
abbrev pub MayComeNext : Caller → Life → Type 0
MayComeNext who life = AllOf (MayPrecede who.session who.place life.epoch) life.entries

-- The volume of the code now runs as the one of the world whose life has gone on by these entries. Where nothing was sure of
-- plexes that are written to, nothing is. Where its log was exact, and no call on it failed, it is.
pub record RunsOn (plexes : List PlexImage) (owners : Word → TrackOwner) (failed : Word → Bool) (w : Volume) (es : List Entry) (old new : VolumeSeen) : Type 0 where
  pub life : Life
  pub goes_on : GoesOn w.life es life
  pub runs : RunsAsVolume plexes new (volume_lived owners failed es life w)
  pub sure : IsSureOfOthers plexes old w → IsSureOfOthers plexes new (volume_lived owners failed es life w)
  pub exact : LogIsWell old new → IsExactVolume old → IsExactVolume new

-- ---- calls

-- After a read it runs on by the entries that the receipt tells, ..
abbrev pub EachReadRunsOn : Type 0
EachReadRunsOn =
    (start : ℕ) (old new : VolumeSeen) (result : Result (Unit {0}) IoFault) (before after : Receipt) → ReadEnds start old new result before after →
    0 < before.count → IsVolume old → IsVolume new →
    (plexes : List PlexImage) (w : Volume) → RunsAsVolume plexes old w →
    (owners : Word → TrackOwner) (failed : Word → Bool) → OwnersFit plexes old owners → FailuresAreTold plexes owners failed old new →
    (who : Caller) → MayComeNext who w.life →
    (es : List Entry) × TellsEntries Read Missed old.region who start result after es × RunsOn plexes owners failed w es old new

-- .. and so after a write.
abbrev pub EachWriteRunsOn : Type 0
EachWriteRunsOn =
    (start : ℕ) (from : List ℕ) (old new : VolumeSeen) (result : Result (Unit {0}) IoFault) (before after : Receipt) → WriteEndsAll start from old new result before after →
    0 < before.count → IsVolume old → IsVolume new →
    (plexes : List PlexImage) (w : Volume) → RunsAsVolume plexes old w →
    (owners : Word → TrackOwner) (failed : Word → Bool) → OwnersFit plexes old owners → FailuresAreTold plexes owners failed old new →
    (who : Caller) → MayComeNext who w.life →
    (es : List Entry) × TellsEntries Write Torn old.region who start result after es × RunsOn plexes owners failed w es old new

-- A pass makes no entry: it runs on as the volume whose devices have failed too.
abbrev pub PassRunsOn : {T : Type 0} → (VolumeSeen → VolumeSeen → Result T IoFault → Type 0) → Type 0
PassRunsOn {T = T} Ends =
    (old new : VolumeSeen) (result : Result T IoFault) → Ends old new result →
    IsVolume old → IsVolume new →
    (plexes : List PlexImage) (w : Volume) → RunsAsVolume plexes old w →
    (owners : Word → TrackOwner) (failed : Word → Bool) → OwnersFit plexes old owners → FailuresAreTold plexes owners failed old new →
    RunsAsVolume plexes new (volume_failed owners failed w) × (IsSureOfOthers plexes old w → IsSureOfOthers plexes new (volume_failed owners failed w))

abbrev pub EachSettlingRunsOn : Type 0
EachSettlingRunsOn = PassRunsOn (PassEnds Settles)

abbrev pub EachClearingRunsOn : Type 0
EachClearingRunsOn = PassRunsOn (PassEnds Clears)

abbrev pub EachCopyRunsOn : Type 0
EachCopyRunsOn = (map : ℕ) → PassRunsOn (CopyEnds map)
