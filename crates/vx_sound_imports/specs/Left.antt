-- What is left of a volume that ran on plexes of a group, as the group or the power was lost.
use Rattle.std.specs.Prelude.{◌≡◌, ℕ, false, Option, Contains}
use Rattle.vx_base.specs.Named.{Word}
use Rattle.vx_life.specs.Candidates.{Candidates}
use Rattle.vx_copies.specs.Image.{Offer}
use Rattle.vx_config_parts.specs.declared.vol.Vol.{Vol}
use Rattle.vx_image.specs.Image.{Image}
use Rattle.vx_image.specs.Meaning.{StandsForCandidates}
use Rattle.vx_image.specs.Soundness.{IsSoundImage}
use Rattle.vx_state_edits.specs.Edits.{is_new}
use Rattle.vx_moments.specs.World.{Device, Group, World}
use Rattle.vx_moments.specs.Group.{image_on}
use Rattle.vx_sound.specs.Offers.{Offers}
use Rattle.vx_sound.specs.Sound.{IsNewest}
use Rattle.vx_sound_imports.specs.Offered.{IsReadAs}

-- The bytes are sound, and each value that is read of them is among these candidates.
pub record LiesWithin (v : Image) (candidates : Candidates) : Type 0 where
  pub sound : IsSoundImage v
  pub among : StandsForCandidates v candidates

-- What these devices hold of the volume of the name lies within these candidates, as the group records it, if it was started before.
abbrev pub HoldWithin : (Word → Option Device) → Group → Word → Candidates → Type 0
HoldWithin devices g name candidates = (v : Vol) → Contains g.config.volumes v → v.name ≡ name → is_new v.state ≡ false → LiesWithin (image_on devices g v) candidates

-- So it is as whatever group that is read from the newest configuration that devices offer under the group's name.
abbrev pub IsLeft : Word → World → Word → Candidates → Type 0
IsLeft dg w name candidates =
    (device : Word) (slot : ℕ) (o : Offer) (g : Group) → Offers dg w device slot o → IsNewest dg w o → IsReadAs dg w o g → HoldWithin w.devices g name candidates
