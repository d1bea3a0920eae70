-- A device in hand that becomes a started volume.
use Rattle.std.specs.Prelude.{◌≡◌, ℕ, Bool, false, ◌||◌, IsTrue, is_some, slice_index, [], ◌∷◌, Option, Some, None, Result, Ok, Err}
use Rattle.std.specs.BTreeMap.{BTreeMap, IsOrdered, get, insert_entry}
use Rattle.std.specs.Cmp.Lexicographic.{slice_cmp}
use Rattle.std.specs.List.{list_any}
use Rattle.std.specs.Ordering.{nat_cmp}
use Rattle.std.specs.Str.{bytes_eq}
use Rattle.vx_pages.specs.declared.local_piece.LocalPiece.{Ghosts}
use Rattle.vx_base.specs.Named.{Word, put, SameUnder}
use Rattle.vx_block.specs.Geometry.{is_geometry}
use Rattle.vx_piece.specs.Seen.{Seen}
use Rattle.vx_started.specs.declared.started.Started.{Started}
use Rattle.vx_house.specs.Holders.{volume_at}
use Rattle.vx_house.specs.declared.house.House.{House}
use Rattle.vx_house.specs.declared.house.Imported.{Imported}
use Rattle.vx_house.specs.declared.house.Taken.{Taken}
use Rattle.vx_house.specs.declared.stop.Stop.{Stop}
use Rattle.vx_house.specs.declared.stop.Stop.TheVariants.{Ended, OutOfMemory}

-- the group records a volume of the name
abbrev pub is_recorded : {P : Type 0} {ghosts : Ghosts P} → Option (Imported P ghosts) → Word → Bool
is_recorded None vol = false
is_recorded (Some g) vol = list_any (λ v. bytes_eq v.name vol) g.config.volumes

-- a volume has the name, started or recorded
abbrev pub is_named : {P : Type 0} {ghosts : Ghosts P} → House P ghosts → Word → Bool
is_named h vol = is_some (volume_at h vol) || is_recorded h.group vol

-- one device is in hand, and its sectors make a volume of regions of 128
pub record CanStart {P : Type 0} {ghosts : Ghosts P} (see : P → Seen) (h : House P ghosts) : Type 0 where
  pub taken : Taken P
  pub hand : h.hand.items ≡ taken ∷ []
  pub sized : IsTrue (is_geometry (see taken.piece).sectors 128)

-- the device stands among the volumes, and no number is drawn
pub record IsPutIn {P : Type 0} (see : P → Seen) (vol : Word) (taken : Taken P) (old new : BTreeMap Word (Started P)) : Type 0 where
  pub volume : Started P
  pub device : volume.device ≡ taken.device
  pub piece : volume.piece ≡ taken.piece
  pub length_is : volume.geometry.length ≡ (see taken.piece).sectors
  pub region_is : volume.geometry.region ≡ 128
  pub numbers : (r : ℕ) → slice_index volume.numbers.items r ≡ 0
  pub entries : new.entries ≡ insert_entry (slice_cmp nat_cmp) old.entries vol volume
  pub puts : SameUnder (put vol (Some volume) (get (slice_cmp nat_cmp) old)) (get (slice_cmp nat_cmp) new)
  pub ordered : IsOrdered (slice_cmp nat_cmp) new

-- the only device in hand is started
pub record IsStarted {P : Type 0} {ghosts : Ghosts P} (see : P → Seen) (vol : Word) (old new : House P ghosts) : Type 0 where
  pub taken : Taken P
  pub hand : old.hand.items ≡ taken ∷ []
  pub empty : new.hand.items ≡ []
  pub put_in : IsPutIn see vol taken old.volumes new.volumes
  pub group : new.group ≡ old.group

-- the house has what it had
pub record IsSameHouse {P : Type 0} {ghosts : Ghosts P} (old new : House P ghosts) : Type 0 where
  pub hand : new.hand.items ≡ old.hand.items
  pub entries : new.volumes.entries ≡ old.volumes.entries
  pub group : new.group ≡ old.group

-- the device is started, or memory is wanting
abbrev pub Starts : {T P : Type 0} {ghosts : Ghosts P} → (P → Seen) → Word → House P ghosts → Result T Stop → House P ghosts → Type 0
Starts see vol old (Ok u) new = IsStarted see vol old new
Starts see vol old (Err OutOfMemory) new = IsSameHouse old new
Starts see vol old (Err (Ended end)) new = ⊥
