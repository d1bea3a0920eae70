-- What entries and failures do to the tracks and the dirty regions of a started volume, and that these go on with its regions.
use Rattle.std.specs.Prelude.{◌≡◌, ◌≢◌, ◌⊎◌, ℕ, Bool, true, List}
use Rattle.vx_base.specs.Named.{Word}
use Rattle.vx_life.specs.Entry.{Entry}
use Rattle.vx_mask.specs.Mask.{has}
use Rattle.vx_core.specs.declared.stage.Phase.TheVariants.{Unsettled}
use Rattle.vx_core.specs.declared.stage.Stage.{Stage}
use Rattle.vx_core.specs.History.{AllOf}
use Rattle.vx_core.specs.Region.{RegionState}
use Rattle.vx_core.specs.Schedule.{Happening, IsIdle}
use Rattle.vx_core.specs.Recovery.{region_after}
use Rattle.vx_core_laws.specs.Course.{IsKeptState, EachFits}
use Rattle.vx_core_laws.specs.Tracking.{was_written, was_torn, Notes, no_notes, notes_of, IsOther, IsSeen}
use Rattle.vx_moments.specs.World.{Track, Volume}
use Rattle.vx_moments.specs.Tracks.{TrackOwner, has_failed, was_unsettled, volume_failed, volume_goes}

-- ---- the law

-- The track goes with the region: where it is sure and the map is not written to, the region is marked; and a mark that a copy
-- may show is possible.
pub record GoesAt (s : RegionState) (k : ℕ) (t : Track) (r : ℕ) : Type 0 where
  pub sure : IsOther s.stage k → t.sure r ≡ true → has s.stage.bits k ≡ true
  pub possible : IsSeen s k → t.possible r ≡ true

-- the plex or relation has this map, and is available where it is on
pub record HasMap (s : Stage) (k : ℕ) (p : TrackOwner) : Type 0 where
  pub available : p.available ≡ has s.on k
  pub known : (has s.on k ≡ true) ⊎ IsOther s k
  pub not_dirty : k ≢ 30

-- the entries are of the region, and tell of writes as they were noted
pub record TellOf (r : ℕ) (notes : Notes) (es : List Entry) : Type 0 where
  pub here : AllOf (λ e. e.part.region ≡ r) es
  pub written : was_written es ≡ notes.written
  pub torn : was_torn es ≡ notes.torn

-- After whatever happens in a region between two moments at which no job is under way: with the devices that failed and the
-- entries that ended, each track of the volume goes with the region again, and so do its dirty regions.
abbrev pub EachCallIsTracked : Type 0
EachCallIsTracked =
    (was : RegionState) (course : List Happening) →
    IsKeptState was → IsIdle was.stage.phase → EachFits course was → IsIdle (region_after course was).stage.phase →
    (v : Volume) (r : ℕ) (owners : Word → TrackOwner) (failed : Word → Bool) (es : List Entry) →
    (was.stage.phase ≡ Unsettled → was_unsettled v r ≡ true) →
    TellOf r (notes_of (was_unsettled v r) course was no_notes) es →
    (IsSeen was 30 → v.dirty r ≡ true) →
    ((name : Word) (k : ℕ) → HasMap was.stage k (owners name) →
    ((notes_of (was_unsettled v r) course was no_notes).failed k ≡ true → has_failed failed (owners name) ≡ true) →
    GoesAt was k (v.tracks name) r → GoesAt (region_after course was) k ((volume_goes owners es (volume_failed owners failed v)).tracks name) r)
    × (IsSeen (region_after course was) 30 → (volume_goes owners es (volume_failed owners failed v)).dirty r ≡ true)
