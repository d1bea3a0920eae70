-- A commit leaves what volumes have on the disks of their group.
use Rattle.std.specs.Prelude.{◌≡◌, ℕ, []}
use Rattle.vx_base.specs.Named.{Word}
use Rattle.vx_config_parts.specs.declared.vol.Vol.{Vol}
use Rattle.vx_moments.specs.Commit.{Writing, IsCommitting}
use Rattle.vx_moments.specs.Moment.{Moment}
use Rattle.vx_moments.specs.World.{Group}
use Rattle.vx_moments.specs.Group.{image_on, public_of}

-- Whatever a commit leaves of the disks, by which none joins: each sector behind their private regions is as it was, ..
abbrev pub EachCommitKeepsPublic : Type 0
EachCommitKeepsPublic =
    (x : Writing) (last : ℕ) (old new : Moment) → IsCommitting x last old new → x.joiners ≡ [] →
    (name : Word) (k : ℕ) → public_of (new.world.devices name) k ≡ public_of (old.world.devices name) k

-- .. and so are the images of volumes, by whatever configuration.
abbrev pub EachCommitKeepsImages : Type 0
EachCommitKeepsImages =
    (x : Writing) (last : ℕ) (old new : Moment) → IsCommitting x last old new → x.joiners ≡ [] →
    (g : Group) (v : Vol) → image_on new.world.devices g v ≡ image_on old.world.devices g v
