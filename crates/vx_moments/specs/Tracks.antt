-- What entries and failures do to the tracks and the dirty regions of a started volume.
use Rattle.std.specs.Prelude.{ℕ, ◌==◌, ◌&&◌, ◌||◌, Bool, false, List, [], ◌∷◌, if◌then◌else◌}
use Rattle.std.specs.List.{list_any}
use Rattle.vx_base.specs.Named.{Word}
use Rattle.vx_life.specs.declared.EntryKind.{EntryKind}
use Rattle.vx_life.specs.declared.EntryKind.TheVariants as kinds
use Rattle.vx_life.specs.Entry.{Entry}
use Rattle.vx_life.specs.Life.{Life}
use Rattle.vx_core_laws.specs.Tracking.{is_torn}
use Rattle.vx_moments.specs.World.{Track, Volume}

-- ---- what an entry does

-- a data plex or a relation, as its track sees it: whether it is written to, and the devices that it lies on
pub record TrackOwner : Type 0 where
  pub available : Bool
  pub devices : List Word

-- a device of it has failed
abbrev pub has_failed : (Word → Bool) → TrackOwner → Bool
has_failed failed p = list_any failed p.devices

-- the set with this region
abbrev pub with_region : ℕ → (ℕ → Bool) → ℕ → Bool
with_region region set r = r == region || set r

-- What an entry of a region does to a track: a write that was done surely changes it where the plex is not written to; a torn
-- one may; a plex that is written to may lack either where it has failed.
abbrev pub track_with : EntryKind → ℕ → Bool → Bool → Track → Track
track_with kinds.Write region available failed t =
    if available
    then (if failed then record t { possible = with_region region t.possible } else t)
    else record { sure = with_region region t.sure; possible = with_region region t.possible }
track_with kinds.Torn region available failed t = if available then (if failed then record t { possible = with_region region t.possible } else t) else record t { possible = with_region region t.possible }
track_with kinds.Read region available failed t = t
track_with kinds.Missed region available failed t = t

-- the dirty regions after it
abbrev pub dirty_with : EntryKind → ℕ → (ℕ → Bool) → ℕ → Bool
dirty_with kinds.Write region dirty = with_region region dirty
dirty_with kinds.Torn region dirty = with_region region dirty
dirty_with kinds.Read region dirty = dirty
dirty_with kinds.Missed region dirty = dirty

-- the volume after an entry, where these are its plexes and relations by their names
abbrev pub volume_after : (Word → TrackOwner) → Entry → Volume → Volume
volume_after owners e v =
    record v {
      dirty = dirty_with e.kind e.part.region v.dirty;
      tracks = λ name. track_with e.kind e.part.region (owners name).available (has_failed v.failed (owners name)) (v.tracks name);
    }

-- the volume after entries, one after the other
abbrev pub volume_goes : (Word → TrackOwner) → List Entry → Volume → Volume
volume_goes owners [] v = v
volume_goes owners (e ∷ es) v = volume_goes owners es (volume_after owners e v)

-- ---- what a failure does

-- some of the entries is a torn one of the region
abbrev pub was_torn_in : ℕ → List Entry → Bool
was_torn_in r es = list_any (λ e. is_torn e.kind && e.part.region == r) es

-- the region has a torn entry of this life, or was dirty as the life began
abbrev pub was_unsettled : Volume → ℕ → Bool
was_unsettled v r = was_torn_in r v.life.entries || v.dirty_began r

-- The volume once these devices have failed too: a write that makes plexes equal may have failed on a plex that is written to,
-- so the regions that were unsettled may differ there.
abbrev pub volume_failed : (Word → TrackOwner) → (Word → Bool) → Volume → Volume
volume_failed owners f v =
    record v {
      failed = λ name. f name || v.failed name;
      tracks = λ name. if (owners name).available && has_failed f (owners name) then record (v.tracks name) { possible = λ r. was_unsettled v r || (v.tracks name).possible r } else v.tracks name;
    }

-- ---- what is sure

-- the volume with nothing sure of what is written to
abbrev pub unsure : (Word → TrackOwner) → Volume → Volume
unsure owners w = record w { tracks = λ name. if (owners name).available then record (w.tracks name) { sure = λ r. false } else w.tracks name }

-- ---- a call

-- the volume once these devices have failed too, and its life has gone on by these entries
abbrev pub volume_lived : (owners : Word → TrackOwner) (failed : Word → Bool) → List Entry → Life → Volume → Volume
volume_lived owners failed es life w = record (volume_goes owners es (volume_failed owners failed w)) { life = life }
