-- What the devices of a group give, or why they give nothing.
use Rattle.std.specs.Prelude.{◌≡◌, ◌≢◌, ◌⊎◌, ℕ, Bool, false, ◌<◌, ◌≤◌, ◌^◌, List, [], ◌∷◌, length, Option, Some, None, IfSome, Result, Ok, Err}
use Rattle.vx_base.specs.Named.{Word}
use Rattle.vx_header.specs.Named.{header_of}
use Rattle.vx_header.specs.Said.{Said}
use Rattle.vx_piece.specs.Seen.{Seen}
use Rattle.vx_mask.specs.Mask.{has}
use Rattle.vx_copies.specs.Disks.{DiskSeen}
use Rattle.vx_copies.specs.Lists.{AllOf, AnyOf}
use Rattle.vx_copies.specs.Chain.{Copy, AllUpTo, IsChained}
use Rattle.vx_confdb.specs.Texts.{text_of}
use Rattle.vx_import.specs.Looks.{Looked, HasReading, half_in}
use Rattle.vx_import.specs.Choice.{At, IsTop, HasNone, HoldsText, Tells, given}
use Rattle.vx_import.specs.Newest.{copies_with}
use Rattle.vx_import.specs.Naming.{AllThere, IsGone, IsWhole, DamageIs}
use Rattle.vx_import.specs.Toggles.{IsOff}
use Rattle.vx_import.specs.declared.naming.Damage.{Damage}
use Rattle.vx_import.specs.declared.judging.Given.{Given}
use Rattle.vx_import.specs.declared.judging.ImportFault.{ImportFault}
use Rattle.vx_import.specs.declared.judging.ImportFault.TheVariants as fault

-- the header names the group, and says what the label says, where the device tells what it holds
pub record IsOf (group : Word) (f : Looked) : Type 0 where
  pub group_is : f.label.group ≡ group
  pub headed : IfSome f.seen.told (λ contents. header_of (contents 0) ≡ Some f.label)

-- no two devices have one slot, and they stand in the order of their slots
abbrev pub IsRising : List Looked → Type 0
IsRising [] = Unit {0}
IsRising (f ∷ fs) = AllOf (λ g. f.label.slot < g.label.slot) fs × IsRising fs

-- What is taken: the first of the highest toggles that were read, with its text.
pub record IsChosen (group : Word) (sequence good : ℕ) (text : List ℕ) (fs : List Looked) : Type 0 where
  pub index : ℕ
  pub half : ℕ
  pub read : AllOf HasReading fs
  pub top : IsTop index (record { sequence = sequence; half = half; length = length text; good = good }) fs
  pub holds : At index (HoldsText (record { sequence = sequence; half = half; length = length text; good = good }) text) fs
  pub fits : length text ≤ 522240
  pub mask_fits : good < 2 ^ 32
  pub gives : AllOf Tells fs → given group fs ≡ Some (record { sequence = sequence; good = good; text = text })

-- The configuration is taken: nothing that it names is missing or damaged.
pub record IsGiven (group : Word) (g : Given) (fs : List Looked) : Type 0 where
  pub chosen : IsChosen group g.sequence g.good (text_of g.text) fs
  pub low : g.sequence ≤ 2 ^ 63
  pub whole : AllOf (IsWhole (Some g.good)) fs
  pub there : AllThere 32 g.good fs

-- A configuration is there, and nothing that it names is damaged, but a slot that it names has no device that can be read.
pub record IsLacking (group : Word) (slot : ℕ) (text : List ℕ) (fs : List Looked) : Type 0 where
  pub sequence : ℕ
  pub good : ℕ
  pub chosen : IsChosen group sequence good text fs
  pub low : sequence ≤ 2 ^ 63
  pub whole : AllOf (IsWhole (Some good)) fs
  pub gone : IsGone slot good fs

-- no device that can be read has a configuration
pub record IsEmpty (group : Word) (fs : List Looked) : Type 0 where
  pub read : AllOf HasReading fs
  pub none : AllOf HasNone fs
  pub gives : AllOf Tells fs → given group fs ≡ None

-- no device has a configuration, and none is damaged
pub record IsNoGroup (group : Word) (fs : List Looked) : Type 0 where
  pub empty : IsEmpty group fs
  pub whole : AllOf (IsWhole None) fs

-- no device has a configuration, and this is the first that is damaged
pub record IsDamagedAlone (group : Word) (d : Damage) (fs : List Looked) : Type 0 where
  pub empty : IsEmpty group fs
  pub first : DamageIs (Some d) None fs

-- the chosen sequence is above 2^63: it stands at byte 520 of its device
pub record IsTooHigh (group : Word) (d : Damage) (fs : List Looked) : Type 0 where
  pub sequence : ℕ
  pub good : ℕ
  pub text : List ℕ
  pub chosen : IsChosen group sequence good text fs
  pub high : 2 ^ 63 < sequence
  pub disk_is : At chosen.index (λ f. f.label.disk ≡ d.disk) fs
  pub byte_is : d.byte ≡ 520

-- a configuration is there, and this is the first damaged device that it names
pub record IsDamagedNamed (group : Word) (d : Damage) (fs : List Looked) : Type 0 where
  pub sequence : ℕ
  pub good : ℕ
  pub text : List ℕ
  pub chosen : IsChosen group sequence good text fs
  pub low : sequence ≤ 2 ^ 63
  pub first : DamageIs (Some d) (Some good) fs

-- this disk is told to be damaged: nothing else is there, or its sequence is too high, or the configuration names it
abbrev pub IsDamaged : Word → Damage → List Looked → Type 0
IsDamaged group d fs = IsDamagedAlone group d fs ⊎ (IsTooHigh group d fs ⊎ IsDamagedNamed group d fs)

-- what is answered of the devices of a group, and when
abbrev pub Answers : Result Given ImportFault → Word → List Looked → Type 0
Answers (Ok g) group fs = IsGiven group g fs
Answers (Err fault.OutOfMemory) group fs = Unit {0}
Answers (Err (fault.Missing slot text)) group fs = IsLacking group slot (text_of text) fs
Answers (Err fault.NoGroup) group fs = IsNoGroup group fs
Answers (Err (fault.Damaged disk byte)) group fs = IsDamaged group (record { disk = disk; byte = byte }) fs
Answers (Err fault.PowerLost) group fs = AnyOf IsOff fs

-- why a chosen configuration is not taken before its slots are looked at, if it is not
abbrev pub RefusedIs : Option Damage → ℕ → Said → List Looked → Type 0
RefusedIs None index t fs = (t.sequence ≤ 2 ^ 63) × AllOf (IsWhole (Some t.good)) fs
RefusedIs (Some d) index t fs =
    ((2 ^ 63 < t.sequence) × At index (λ f. f.label.disk ≡ d.disk) fs × (d.byte ≡ 520)) ⊎ ((t.sequence ≤ 2 ^ 63) × DamageIs (Some d) (Some t.good) fs)

-- none of these devices has the slot
abbrev pub IsElsewhere : List Looked → Copy → Type 0
IsElsewhere fs c = AllOf (λ f. f.label.slot ≢ c.slot) fs

-- none of these devices has a slot of the mask
abbrev pub AreApart : ℕ → List Looked → Type 0
AreApart missing fs = AllOf (λ f. has missing f.label.slot ≡ false) fs

-- Whatever other devices the group has, and whatever disks are missing: none of them and none of these has a newer
-- configuration, where all are chained.
abbrev pub IsNewestOf : Word → ℕ → List Looked → Type 0
IsNewestOf group sequence fs = (missing : ℕ) (others : List Copy) → AllOf Tells fs → AreApart missing fs → AllOf (IsElsewhere fs) others → IsChained missing (copies_with group others fs) → AllUpTo sequence (copies_with group others fs)

-- the disk that a device becomes, with the private region that was split off
abbrev pub disk_of : Bool → Word → Looked → Seen → DiskSeen
disk_of good device f private = record { name = f.label.disk; device = device; slot = f.label.slot; sectors = f.label.sectors; good = good; half = half_in f.reading; seen = private }
