-- Devices that go back to the shelf.
use Rattle.std.specs.Prelude.{◌≡◌, Option, List, [], ◌++◌, map, None, IsSome, IfSome}
use Rattle.vx_pages.specs.declared.local_piece.LocalPiece.{Ghosts}
use Rattle.vx_base.specs.Named.{Word}
use Rattle.vx_piece.specs.Seen.{Seen}
use Rattle.vx_shelf.specs.Shelf.{Held}
use Rattle.vx_house.specs.Holders.{Holder, AreHeld, volume_holder, group_holders, hand_holder}
use Rattle.vx_house.specs.Scene.{Shelved}
use Rattle.vx_house.specs.Unmoved.{Unmoved}
use Rattle.vx_house.specs.View.{HasDisk, IsGroupWhole, RunsNone, group_of}
use Rattle.vx_house.specs.declared.house.House.{House}

-- nobody holds a device of the shelf
abbrev pub NoneHeld : (Word → Option Held) → Type 0
NoneHeld held = (name : Word) → held name ≡ None

-- what stays held, and that nothing is seen otherwise, where these devices stood among others
pub record GivesBack (hs : List Holder) (old new : Shelved) : Type 0 where
  pub held : (before behind : List Holder) → AreHeld old.held (before ++ (hs ++ behind)) → AreHeld new.held (before ++ behind)
  pub moved : (before behind : List Holder) → AreHeld old.held (before ++ (hs ++ behind)) → Unmoved (record { shelf = old; taken = before ++ (hs ++ behind) }) (record { shelf = new; taken = before ++ behind })

-- the devices in hand went back, and all else stays
pub record GivesHand {P : Type 0} {ghosts : Ghosts P} (see : P → Seen) (old : Shelved) (house : House P ghosts) (new : Shelved) (left : House P ghosts) : Type 0 where
  pub back : GivesBack (map (hand_holder see) house.hand.items) old new
  pub empty : left.hand.items ≡ []
  pub volumes : left.volumes ≡ house.volumes
  pub group : left.group ≡ house.group

-- the group's devices went back, and all else stays
pub record GivesGroup {P : Type 0} {ghosts : Ghosts P} (see : P → Seen) (old : Shelved) (house : House P ghosts) (new : Shelved) (left : House P ghosts) : Type 0 where
  pub back : GivesBack (group_holders see house.group) old new
  pub none : left.group ≡ None
  pub volumes : left.volumes ≡ house.volumes
  pub hand : left.hand ≡ house.hand

-- The group's devices could not all be joined: none went back, they are seen as before, and so is the group.
pub record KeepsGroup {P : Type 0} {ghosts : Ghosts P} (see : P → Seen) (house left : House P ghosts) : Type 0 where
  pub some : IsSome left.group
  pub holders : group_holders see left.group ≡ group_holders see house.group
  pub group : group_of see left.group ≡ group_of see house.group
  pub whole : IfSome left.group (IsGroupWhole see)
  pub disks : IfSome left.group HasDisk
  pub none : IfSome house.group RunsNone → IfSome left.group RunsNone
  pub volumes : left.volumes ≡ house.volumes
  pub hand : left.hand ≡ house.hand

-- the volumes' devices went back, and all else stays
pub record GivesVolumes {P : Type 0} {ghosts : Ghosts P} (see : P → Seen) (old : Shelved) (house : House P ghosts) (new : Shelved) (left : House P ghosts) : Type 0 where
  pub back : GivesBack (map (volume_holder see) house.volumes.entries) old new
  pub empty : left.volumes.entries ≡ []
  pub group : left.group ≡ house.group
  pub hand : left.hand ≡ house.hand
