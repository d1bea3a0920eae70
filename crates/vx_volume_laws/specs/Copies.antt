-- What a plex lacks once it was copied.
use Rattle.std.specs.Prelude.{◌≡◌, ℕ, false}
use Rattle.vx_mask.specs.Mask.{has}
use Rattle.vx_core_laws.specs.Exact.{IsExact}
use Rattle.vx_moments.specs.World.{Track}
use Rattle.vx_volume_laws.specs.Regions.{Regions, GoWith}

-- the track of a plex that was copied, also where the copying was stopped: it surely lacks nothing, and may lack what it did
abbrev pub track_copied : Track → Track
track_copied t = record { sure = λ r. false; possible = t.possible }

-- .. and where all was copied and no device of the log has failed it lacks nothing
abbrev pub track_whole : Track
track_whole = record { sure = λ r. false; possible = λ r. false }

-- A track that goes with the marks of a plex goes with them as that of a plex that was copied; ..
abbrev pub EachCopyIsTracked : Type 0
EachCopyIsTracked = (regions : Regions) (k : ℕ) (t : Track) → GoWith regions k t.sure t.possible → GoWith regions k (track_copied t).sure (track_copied t).possible

-- .. and as that of one that lacks nothing, where no region has its mark and each copy of the log shows just the bits.
abbrev pub EachWholeCopyIsTracked : Type 0
EachWholeCopyIsTracked =
    (regions : Regions) (k : ℕ) → ((r : ℕ) → IsExact (regions r)) → ((r : ℕ) → has (regions r).stage.bits k ≡ false) →
    GoWith regions k track_whole.sure track_whole.possible
