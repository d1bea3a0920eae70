-- The import of a group, once its devices were looked for.
use Rattle.std.specs.Prelude.{◌≡◌, ℕ, ◌+◌, ◌≤◌, false, List, [], ◌++◌, map, Option, Some, None, IsSome, IfSome}
use Rattle.vx_pages.specs.declared.local_piece.LocalPiece.{Ghosts}
use Rattle.vx_base.specs.Counts.{Rose}
use Rattle.vx_base.specs.Blocks.{Contents}
use Rattle.vx_base.specs.Named.{Word}
use Rattle.vx_piece.specs.Seen.{Seen}
use Rattle.vx_shelf.specs.Listed.{Lists}
use Rattle.vx_header.specs.Said.{toggle_of}
use Rattle.vx_copies.specs.Image.{text_sectors}
use Rattle.vx_copies.specs.Lists.{AllOf}
use Rattle.vx_confdb.specs.Texts.{text_of}
use Rattle.vx_import.specs.Looks.{Looked}
use Rattle.vx_import.specs.declared.judging.ImportFault.{ImportFault}
use Rattle.vx_import.specs.declared.judging.ImportFault.TheVariants as fault
use Rattle.vx_answers.specs.declared.answer.End.{End}
use Rattle.vx_answers.specs.declared.answer.End.TheVariants as ends
use Rattle.vx_answers.specs.declared.refusal.Refusal.TheVariants.{NoGroup, Damaged, Missing}
use Rattle.vx_stages.specs.Finding.{IsDiskOf}
use Rattle.vx_house.specs.Holders.{holders, held_as, AreHeld}
use Rattle.vx_house.specs.Scene.{Shelved, Scene, faults_at, reads_at}
use Rattle.vx_house.specs.View.{Keeps, at, scene}
use Rattle.vx_house.specs.declared.house.House.{House}
use Rattle.vx_house.specs.declared.stop.Stop.{Stop}
use Rattle.vx_house.specs.declared.stop.Stop.TheVariants as stops
use Rattle.vx_stage_import.specs.Places.{ArePlaced}
use Rattle.vx_stage_import.specs.Finds.{holders_of, beside, IsOfGroup}
use Rattle.vx_stage_import.specs.Gathering.{IsHeaderRead, HeadersRead, AreMet, IsSomeCut}
use Rattle.vx_house.specs.Reading.{OnlyRead, AreRead}

-- how a search among these names ended that found nothing: the power is gone, and headers were read at most; or memory is wanting
abbrev pub SearchStops : Stop → List Word → Scene → Scene → Type 0
SearchStops (stops.Ended end) names old new = (end ≡ ends.Lost []) × IsSomeCut old new × (IsSome old.shelf.free → HeadersRead names old new)
SearchStops stops.OutOfMemory names old new = Unit {0}

-- The shelf has told its names, and nothing was taken.
pub record IsAsked {P : Type 0} {ghosts : Ghosts P} (see : P → Seen) (names : List Word) (first now : Shelved) (h : House P ghosts) : Type 0 where
  pub keeps : Keeps see (at first h)
  pub ready : h.hand.items ≡ []
  pub none : h.group ≡ None
  pub lists : IfSome first.free (λ devices. Lists names devices first.held)
  pub still : AreRead (scene see (at first h)) (scene see (at now h))
  pub unread : (name : Word) → reads_at (scene see (at now h)) name ≡ reads_at (scene see (at first h)) name

-- What was read of devices: so many sectors at most of each that was found, by its contents; of each other one of these names
-- that nobody held the header at most, and nothing of any other.
pub record AreReadUpTo (most : Contents → ℕ) (names : List Word) (old new : Scene) (fs : List Looked) : Type 0 where
  pub found : AllOf (λ f. IfSome f.seen.told (λ contents. f.seen.reads ≤ reads_at old f.device + most contents)) fs
  pub others : (name : Word) → held_as (holders_of fs) name ≡ None → IsHeaderRead names old new name

-- the header alone
abbrev pub header_alone : Contents → ℕ
header_alone contents = 1

-- the header, the toggle and the text that the toggle names
abbrev pub all_read : Contents → ℕ
all_read contents = 2 + text_sectors (toggle_of (contents 1))

-- Since the shelf told its names, these devices of the group were found: each was met, and all were only read.
pub record IsSince {P : Type 0} {ghosts : Ghosts P} (see : P → Seen) (most : Contents → ℕ) (group : Word) (names : List Word) (first now : Shelved) (h : House P ghosts) (fs : List Looked) : Type 0 where
  pub keeps : Keeps see (at first h)
  pub ready : h.hand.items ≡ []
  pub none : h.group ≡ None
  pub lists : IfSome first.free (λ devices. Lists names devices first.held)
  pub held : AreHeld now.held (holders see h ++ holders_of fs)
  pub reads : OnlyRead (scene see (at first h)) (beside now (holders see h) fs)
  pub counted : IsSome first.free → AreReadUpTo most names (scene see (at first h)) (beside now (holders see h) fs) fs
  pub met : AreMet group names (scene see (at first h)) (beside now (holders see h) fs) fs
  pub each : AllOf (IsOfGroup group) fs
  pub rising : ArePlaced (map (λ f. f.label.slot) fs)
  -- one that cannot be read any more has failed
  pub dropped : AllOf (λ f. f.readable ≡ false → Rose (faults_at (scene see (at first h)) f.device) f.seen.faults) fs

-- how the command ends where no configuration is there to be imported
abbrev pub EndIs : ImportFault → Word → End → Type 0
EndIs fault.OutOfMemory group end = ⊥
EndIs (fault.Missing slot text) group end = (disk : Option Word) × IsDiskOf (text_of text) slot disk × (end ≡ ends.Refused (Missing disk))
EndIs fault.NoGroup group end = end ≡ ends.Refused (NoGroup (Some group))
EndIs (fault.Damaged disk byte) group end = end ≡ ends.Refused (Damaged disk byte)
EndIs fault.PowerLost group end = end ≡ ends.Lost []

-- the stop that tells of it; or memory is wanting
abbrev pub StopIs : ImportFault → Word → Stop → Type 0
StopIs fault group (stops.Ended end) = EndIs fault group end
StopIs fault group stops.OutOfMemory = Unit {0}
