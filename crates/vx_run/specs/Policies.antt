-- What becomes of a house in which a running volume reads by another policy: nothing that is seen.
use Rattle.std.specs.Prelude.{◌≡◌, ◌⊎◌, Some}
use Rattle.std.specs.BTreeMap.{BTreeMap, is_at, get}
use Rattle.std.specs.Cmp.Lexicographic.{slice_cmp}
use Rattle.std.specs.Map.{set_value}
use Rattle.std.specs.Ordering.{nat_cmp}
use Rattle.vx_pages.specs.declared.local_piece.LocalPiece.{Ghosts}
use Rattle.vx_base.specs.Named.{Word, put, SameUnder}
use Rattle.vx_piece.specs.Seen.{Seen}
use Rattle.vx_lending.specs.declared.public.Running.{Running}
use Rattle.vx_house.specs.declared.house.House.{House}
use Rattle.vx_house.specs.declared.house.Imported.{Imported}
use Rattle.vx_house_calls.specs.Passes.{with_group}
use Rattle.vx_house_calls.specs.Unseen.{IsSeenSo, IsUnseenIn}

-- the running volume of the name is another one that is seen as it was
pub record IsReadBy {P : Type 0} {ghosts : Ghosts P} (see : P → Seen) (name : Word) (old new : BTreeMap Word (Running P ghosts)) : Type 0 where
  pub before : Running P ghosts
  pub after : Running P ghosts
  pub was : get (slice_cmp nat_cmp) old name ≡ Some before
  pub entries : new.entries ≡ set_value (is_at (slice_cmp nat_cmp name)) old.entries after
  pub puts : SameUnder (put name (Some after) (get (slice_cmp nat_cmp) old)) (get (slice_cmp nat_cmp) new)
  pub seen : IsSeenSo see before after

-- all is as it was, or that
abbrev pub ReadsAmong : {P : Type 0} {ghosts : Ghosts P} → (P → Seen) → Word → BTreeMap Word (Running P ghosts) → BTreeMap Word (Running P ghosts) → Type 0
ReadsAmong see name old new = (new ≡ old) ⊎ IsReadBy see name old new

-- the group is as it was, or its running volume of the name is another one that is seen as it was
abbrev pub MayReadBy : {P : Type 0} {ghosts : Ghosts P} → (P → Seen) → Word → Imported P ghosts → Imported P ghosts → Type 0
MayReadBy see name old new = (new ≡ old) ⊎ IsUnseenIn see name old new

-- a running volume of the house's group is another one that is seen as it was
pub record ReadsIn {P : Type 0} {ghosts : Ghosts P} (see : P → Seen) (old new : House P ghosts) : Type 0 where
  pub before : Imported P ghosts
  pub after : Imported P ghosts
  pub name : Word
  pub has : old.group ≡ Some before
  pub is : new ≡ with_group old after
  pub unseen : IsUnseenIn see name before after

-- the house is as it was, or that
abbrev pub ReadsBy : {P : Type 0} {ghosts : Ghosts P} → (P → Seen) → House P ghosts → House P ghosts → Type 0
ReadsBy see old new = (new ≡ old) ⊎ ReadsIn see old new
