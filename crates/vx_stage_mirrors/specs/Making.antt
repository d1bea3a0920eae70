-- An empty log is made for a volume of the imported group, as its next configuration records it, before that is committed.
use Rattle.std.specs.Prelude.{◌≡◌, ◌⊎◌, ℕ, true, false, List, Result, Ok, Err}
use Rattle.std.specs.Global.{Vec}
use Rattle.vx_piece.specs.Seen.{Seen}
use Rattle.vx_pages.specs.declared.local_piece.LocalPiece.{Ghosts}
use Rattle.vx_layout.specs.declared.layout.Layout.{Layout}
use Rattle.vx_config_parts.specs.declared.vol.Vol.{Vol}
use Rattle.vx_objects.specs.declared.config.Config.{Config}
use Rattle.vx_lending.specs.Form.{IsFormOf}
use Rattle.vx_lending.specs.FormLaws.{AreNumbered}
use Rattle.vx_lending.specs.Public.{still_pieces}
use Rattle.vx_lending.specs.declared.form.VolumeForm.{VolumeForm}
use Rattle.vx_group_start.specs.Making.{IsLogMade, IsLogUnmade}
use Rattle.vx_group_start.specs.Together.{ComeBackFrom}
use Rattle.vx_group_start.specs.declared.fault.StartFault.{StartFault}
use Rattle.vx_house.specs.declared.house.Imported.{Imported}
use Rattle.vx_house.specs.declared.stop.Stop.{Stop}
use Rattle.vx_house.specs.declared.stop.Stop.TheVariants as stops
use Rattle.vx_stage_volumes.specs.Naming.{unopened}
use Rattle.vx_stage_volumes.specs.Opening.{AreSlotNumbers, SameButStill, good_of}

-- the form of the volume by the next configuration, on the slots that are good now, and the numbers of these
pub record IsFormNext {P : Type 0} {ghosts : Ghosts P} (see : P → Seen) (g : Imported P ghosts) (next : Config) (v : Vol) : Type 0 where
  pub numbers : List ℕ
  pub are : AreSlotNumbers see g numbers
  pub numbered : AreNumbered numbers (good_of see g) next.disks
  pub form : VolumeForm
  pub form_is : IsFormOf next (good_of see g) v false form

-- An empty log was made on the log plexes that the volume has then, which lie so; it is the last of what is left over.
pub record MakesIn {P : Type 0} {ghosts : Ghosts P} (see : P → Seen) (next : Config) (v : Vol) (logs : List Layout) (old new : Imported P ghosts) : Type 0 where
  pub same : SameButStill old new
  pub by : IsFormNext see old next v
  pub logs_are : by.form.logs.items ≡ logs
  pub made : IsLogMade see by.numbers by.form old.public new.public

-- It was not, by this fault; its pieces lie still.
pub record IsUnmadeBy {P : Type 0} {ghosts : Ghosts P} (see : P → Seen) (next : Config) (v : Vol) (old new : Imported P ghosts) (fault : StartFault) : Type 0 where
  pub by : IsFormNext see old next v
  pub unmade : IsLogUnmade see by.numbers by.form old.public new.public fault
  pub back : ComeBackFrom by.numbers by.form true (still_pieces see old.public) (still_pieces see new.public)

-- memory was wanting before anything was touched, or there is a cause
pub record IsUnmadeIn {P : Type 0} {ghosts : Ghosts P} (see : P → Seen) (next : Config) (v : Vol) (stop : Stop) (old new : Imported P ghosts) : Type 0 where
  pub same : SameButStill old new
  pub cause : ((stop ≡ stops.OutOfMemory) × (still_pieces see new.public ≡ still_pieces see old.public)) ⊎ ((fault : StartFault) × (stop ≡ unopened see old.base.disks.items v.name fault) × IsUnmadeBy see next v old new fault)

abbrev pub MakeEnds : {P : Type 0} {ghosts : Ghosts P} → (P → Seen) → Config → Vol → Result (Vec Layout) Stop → Imported P ghosts → Imported P ghosts → Type 0
MakeEnds see next v (Ok logs) old new = MakesIn see next v logs.items old new
MakeEnds see next v (Err stop) old new = IsUnmadeIn see next v stop old new
