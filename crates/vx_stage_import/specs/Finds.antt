-- The devices that are found for a group.
use Rattle.std.specs.Prelude.{◌≡◌, ℕ, ◌<◌, ◌≤◌, true, List, [], ◌++◌, map, Option, Some, None, IfSome}
use Rattle.std.specs.Cmp.Lexicographic.{slice_cmp}
use Rattle.std.specs.Ordering.{nat_cmp}
use Rattle.std.specs.declared.cmp.Ordering.TheVariants.{Less}
use Rattle.vx_base.specs.Blocks.{Contents}
use Rattle.vx_base.specs.Named.{Word}
use Rattle.vx_header.specs.Named.{Label, header_of}
use Rattle.vx_piece.specs.Seen.{Seen}
use Rattle.vx_copies.specs.Lists.{AllOf, AnyOf}
use Rattle.vx_import.specs.Looks.{Looked, looked}
use Rattle.vx_import.specs.declared.device.GroupDevice.{GroupDevice}
use Rattle.vx_moments.specs.World.{Device}
use Rattle.vx_stages.specs.Finding.{Candidate, IsUpTo}
use Rattle.vx_house.specs.Holders.{Holder}
use Rattle.vx_house.specs.Scene.{Shelved, Scene}
use Rattle.vx_stage_import.specs.Places.{slots_of, ArePlaced}

-- a device that was found, as one that is held
abbrev pub holder_of : Looked → Holder
holder_of f = record { name = f.device; seen = f.seen }

-- devices that were found, as ones that are held
abbrev pub holders_of : List Looked → List Holder
holders_of fs = map holder_of fs

-- the contents, where they are told; else each sector is empty
abbrev pub contents_in : Option Contents → Contents
contents_in None = λ k. []
contents_in (Some contents) = contents

-- a device that was found, as one that counts
abbrev pub candidate_of : Looked → Candidate
candidate_of f = record {
  name = f.device;
  device = (let d : Device = record { sectors = f.seen.sectors; contents = contents_in f.seen.told } in d);
  label = f.label;
}

-- devices that were found, as ones that count
abbrev pub candidates_of : List Looked → List Candidate
candidates_of fs = map candidate_of fs

-- a shelf, with devices that were found for a group beside others that are held
abbrev pub beside : Shelved → List Holder → List Looked → Scene
beside shelf others fs = record { shelf = shelf; taken = others ++ holders_of fs }

-- the header of a whole device that can be read names the group and the device's own size
pub record IsFind (group : Word) (f : Looked) : Type 0 where
  pub group_is : f.label.group ≡ group
  pub size : f.label.sectors ≡ f.seen.sectors
  pub headed : IfSome f.seen.told (λ contents. header_of (contents 0) ≡ Some f.label)
  pub slot : f.label.slot < 32
  pub public : 2048 < f.label.sectors
  pub readable : f.readable ≡ true

-- the same of a device of which a read may have failed
pub record IsOfGroup (group : Word) (f : Looked) : Type 0 where
  pub group_is : f.label.group ≡ group
  pub size : f.label.sectors ≡ f.seen.sectors
  pub headed : IfSome f.seen.told (λ contents. header_of (contents 0) ≡ Some f.label)
  pub slot : f.label.slot < 32
  pub public : 2048 < f.label.sectors

-- the slots stand in order, with room for all that there can be
pub record AreRoomy {P : Type 0} (room : ℕ) (fs : List (GroupDevice P)) : Type 0 where
  pub enough : 32 ≤ room
  pub rising : ArePlaced (slots_of fs)

-- so it is, and each of them is one of the group
pub record AreFinds {P : Type 0} (see : P → Seen) (group : Word) (room : ℕ) (fs : List (GroupDevice P)) : Type 0 where
  pub roomy : AreRoomy room fs
  pub each : AllOf (IsFind group) (map (looked see) fs)

-- devices whose toggles were read: the slots stand in order, and each of them is one of the group
pub record AreLooked {P : Type 0} (see : P → Seen) (group : Word) (fs : List (GroupDevice P)) : Type 0 where
  pub rising : ArePlaced (slots_of fs)
  pub each : AllOf (IsOfGroup group) (map (looked see) fs)

-- the header of a device, as it is told, names the group and the device's own size
pub record IsNaming (group : Word) (label : Label) (seen : Seen) : Type 0 where
  pub contents : Contents
  pub told : seen.told ≡ Some contents
  pub header : header_of (contents 0) ≡ Some label
  pub group_is : label.group ≡ group
  pub size : label.sectors ≡ seen.sectors

-- one with the slot is found, and it is not behind the name
abbrev pub HasSlot : ℕ → Word → List Looked → Type 0
HasSlot slot name fs = AnyOf (λ f. (f.label.slot ≡ slot) × IsUpTo f.device name) fs

-- all names stand before this one
abbrev pub AllBefore : List Looked → Word → Type 0
AllBefore fs name = AllOf (λ f. slice_cmp nat_cmp f.device name ≡ Less) fs
