-- How a volume of the imported group is opened, before anything is recorded.
use Rattle.std.specs.Prelude.{◌≡◌, ◌^◌, ◌⊎◌, ◌++◌, ℕ, Bool, true, false, List, map}
use Rattle.vx_pages.specs.declared.local_piece.LocalPiece.{Ghosts}
use Rattle.vx_piece.specs.Seen.{Seen}
use Rattle.vx_copies.specs.Disks.{good_mask}
use Rattle.vx_copies.specs.Lists.{AllOf}
use Rattle.vx_confdb.specs.Groups.{members}
use Rattle.vx_config_parts.specs.declared.state.VolState.{VolState}
use Rattle.vx_config_parts.specs.declared.state.VolState.TheVariants as vol
use Rattle.vx_config_parts.specs.declared.vol.Vol.{Vol}
use Rattle.vx_fronts.specs.Parted.{IsCutShort}
use Rattle.vx_lending.specs.Form.{IsFormOf}
use Rattle.vx_lending.specs.FormLaws.{AreFree, AreNumbered, all_layouts}
use Rattle.vx_lending.specs.declared.form.VolumeForm.{VolumeForm}
use Rattle.vx_lending.specs.Going.{GoTogether}
use Rattle.vx_lending.specs.Left.{held_pieces}
use Rattle.vx_lending.specs.declared.public.Running.{Running}
use Rattle.vx_lending.specs.Public.{still_pieces}
use Rattle.vx_group_start.specs.Fresh.{is_fresh}
use Rattle.vx_group_start.specs.Refused.{IsRefused}
use Rattle.vx_group_start.specs.Started.{IsStarted}
use Rattle.vx_group_start.specs.Together.{ComeBack, GoByLog}
use Rattle.vx_group_start.specs.declared.fault.StartFault.{StartFault}
use Rattle.vx_house.specs.declared.house.Imported.{Imported}
use Rattle.vx_house.specs.declared.stop.Stop.{Stop}
use Rattle.vx_house.specs.declared.stop.Stop.TheVariants as stops
use Rattle.vx_stage_volumes.specs.Naming.{unopened}
use Rattle.vx_stage_volumes.specs.Numbers.{AreNumbersOf}

-- a volume in this state is opened by a start or a recovery
abbrev pub may_open : VolState → Bool
may_open vol.Empty = true
may_open vol.Clean = true
may_open vol.Active = false
may_open vol.NeedSync = true
may_open vol.Sync = true

-- the good slots of the group
abbrev pub good_of : {P : Type 0} {ghosts : Ghosts P} → (P → Seen) → Imported P ghosts → ℕ
good_of see g = good_mask (members see g.base)

-- numbers of its slots
abbrev pub AreSlotNumbers : {P : Type 0} {ghosts : Ghosts P} → (P → Seen) → Imported P ghosts → List ℕ → Type 0
AreSlotNumbers see g numbers = AreNumbersOf see g.base.disks.items 32 (2 ^ 32) numbers

-- the sectors of the volume lie in the pool: no other volume has them
abbrev pub IsFreeIn : {P : Type 0} {ghosts : Ghosts P} → (P → Seen) → Imported P ghosts → Vol → Type 0
IsFreeIn see g v =
    (numbers : List ℕ) (form : VolumeForm) → AreSlotNumbers see g numbers → AreNumbered numbers (good_of see g) g.config.disks → IsFormOf g.config (good_of see g) v (is_fresh v.state) form →
    AreFree numbers (map see g.public.pool.items.items) (all_layouts form)

-- nothing but the pool, and what is left beside it, is another
pub record SameButStill {P : Type 0} {ghosts : Ghosts P} (old new : Imported P ghosts) : Type 0 where
  pub group : new ≡ record old { public = new.public }
  pub running : new.public.running ≡ old.public.running
  pub stuck : new.public.stuck ≡ old.public.stuck

-- The volume was opened out of the pieces of the group, and does not run yet.
pub record OpensIn {P : Type 0} {ghosts : Ghosts P} (see : P → Seen) (v : Vol) (old new : Imported P ghosts) (running : Running P ghosts) : Type 0 where
  pub same : SameButStill old new
  pub left : new.public.left.items ≡ old.public.left.items
  pub numbers : List ℕ
  pub are : AreSlotNumbers see old numbers
  pub numbered : AreNumbered numbers (good_of see old) old.config.disks
  pub form : IsFormOf old.config (good_of see old) v (is_fresh v.state) running.form
  pub started : IsStarted see v numbers old.public new.public running
  pub goes : GoByLog numbers running.form (is_fresh v.state) (still_pieces see old.public) (held_pieces see running.volume ++ still_pieces see new.public)

-- It was not, by this fault; its pieces lie still, perhaps with another log.
pub record IsRefusedIn {P : Type 0} {ghosts : Ghosts P} (see : P → Seen) (v : Vol) (old new : Imported P ghosts) (fault : StartFault) : Type 0 where
  pub numbers : List ℕ
  pub are : AreSlotNumbers see old numbers
  pub numbered : AreNumbered numbers (good_of see old) old.config.disks
  pub refused : IsRefused see old.config (good_of see old) v numbers old.public new.public fault
  pub back : GoTogether (still_pieces see old.public) (still_pieces see new.public)
  pub comes : ComeBack old.config (good_of see old) v numbers (still_pieces see old.public) (still_pieces see new.public)

pub record IsUnopenedIn {P : Type 0} {ghosts : Ghosts P} (see : P → Seen) (v : Vol) (old new : Imported P ghosts) (stop : Stop) : Type 0 where
  pub same : SameButStill old new
  -- memory was wanting before anything was touched, or a cause
  pub cause : ((stop ≡ stops.OutOfMemory) × (still_pieces see new.public ≡ still_pieces see old.public)) ⊎ ((fault : StartFault) × (stop ≡ unopened see old.base.disks.items v.name fault) × IsRefusedIn see v old new fault)

-- all its devices are parted right behind the private regions
abbrev pub IsOpenGroup : {P : Type 0} {ghosts : Ghosts P} → (P → Seen) → Imported P ghosts → Type 0
IsOpenGroup see g = AllOf IsCutShort (members see g.base)
