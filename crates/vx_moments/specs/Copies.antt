-- The copies of a group's configuration on devices, and what a commit does to one of them.
use Rattle.std.specs.Prelude.{◌≡◌, ◌⊎◌, ℕ, ◌≤◌, List, [], length, replicate, Some, None, MatchOption}
use Rattle.vx_base.specs.Blocks.{Contents}
use Rattle.vx_base.specs.Named.{Word}
use Rattle.vx_header.specs.Named.{Label, header_of}
use Rattle.vx_copies.specs.Image.{toggle_at}
use Rattle.vx_copies.specs.Written.{Holds, HalfStays, OldOrText}
use Rattle.vx_confdb.specs.Enlisted.{BehindOldOrText}
use Rattle.vx_objects.specs.declared.config.Config.{Config}
use Rattle.vx_objects.specs.Config.{objects_of}
use Rattle.vx_print.specs.Shown.{IsPrinted}
use Rattle.vx_moments.specs.World.{Device, Member}

-- the text is that of the configuration
abbrev pub IsTextOf : Config → List ℕ → Type 0
IsTextOf config text = IsPrinted None (objects_of config) [] text

-- what the header of a member says
abbrev pub label_of : Word → Member → Device → Label
label_of group m d = record { group = group; disk = m.disk; slot = m.slot; sectors = d.sectors }

-- the toggle stays, and the half that it names; a zero toggle names none
pub record KeepsToggle (old new : Contents) : Type 0 where
  pub toggle : new 1 ≡ old 1
  pub named : MatchOption (toggle_at old) (Unit {0}) (λ t. HalfStays t.half old new)

-- a toggle of these sequences and masks names the text, which its half holds
pub record IsTurned (first last : ℕ) (IsMask : ℕ → Type 0) (text : List ℕ) (new : Contents) : Type 0 where
  pub sequence : ℕ
  pub mask : ℕ
  pub half : ℕ
  pub from : first ≤ sequence
  pub up_to : sequence ≤ last
  pub masks : IsMask mask
  pub says : toggle_at new ≡ Some (record { sequence = sequence; half = half; length = length text; good = mask })
  pub holds : Holds text half new

-- what a commit may leave of a good disk, at whichever device call it is stopped: only the half that is spare is written
pub record IsStruck (first last : ℕ) (IsMask : ℕ → Type 0) (text : List ℕ) (old new : Contents) : Type 0 where
  pub only : OldOrText text old new
  pub front : KeepsToggle old new ⊎ IsTurned first last IsMask text new

-- What is left of a device that was to join: it is as it was; or its toggle is zero; or beside it has its header, and
-- perhaps a toggle that names the text.
pub record IsEntered (label : Label) (first last : ℕ) (IsMask : ℕ → Type 0) (text : List ℕ) (old new : Contents) : Type 0 where
  pub behind : BehindOldOrText text old new
  pub front : ((k : ℕ) → new k ≡ old k)
      ⊎ (((new 0 ≡ old 0) × (new 1 ≡ replicate 512 0))
      ⊎ ((header_of (new 0) ≡ Some label) × ((new 1 ≡ replicate 512 0) ⊎ IsTurned first last IsMask text new)))

-- the disk offers the text under this sequence and mask, and its half holds it
pub record IsCurrent (sequence mask : ℕ) (text : List ℕ) (contents : Contents) : Type 0 where
  pub half : ℕ
  pub says : toggle_at contents ≡ Some (record { sequence = sequence; half = half; length = length text; good = mask })
  pub holds : Holds text half contents
