-- `vxdg import`: which devices count, and what their configuration must be.
use Rattle.std.specs.Prelude.{◌≡◌, ◌≢◌, ◌⊎◌, ℕ, zero, suc, ◌+◌, ◌-◌, ◌<◌, ◌≤◌, ◌^◌, ◌==◌, Bool, true, false, nat_lt, not, ◌&&◌, if◌then◌else◌, is_some, is_none, replicate, Option, Some, None, List, [], ◌∷◌, length, map, MatchBool, MatchOption, codes, decimal}
use Rattle.std.specs.List.{list_any, filter}
use Rattle.std.specs.Str.{bytes_eq}
use Rattle.std.specs.Cmp.Lexicographic.{slice_cmp}
use Rattle.std.specs.Ordering.{nat_cmp}
use Rattle.std.specs.declared.cmp.Ordering.TheVariants.{Greater}
use Rattle.vx_base.specs.Counts.{RoseBy}
use Rattle.vx_base.specs.Named.{Word}
use Rattle.vx_mask.specs.Mask.{has}
use Rattle.vx_header.specs.Named.{Label, header_of}
use Rattle.vx_header.specs.Said.{toggle_of}
use Rattle.vx_header.specs.Spelled.{IsToggle}
use Rattle.vx_header.specs.Places.{IsFirstBad, is_toggle_place, toggle_end}
use Rattle.vx_copies.specs.Lists.{AllOf, AnyOf}
use Rattle.vx_copies.specs.Image.{Offer, offer_in, names_group, text_sectors, highest}
use Rattle.vx_record.specs.Content.{Content}
use Rattle.vx_record.specs.Grammar.{Spells, IsBadLine}
use Rattle.vx_record.specs.declared.kind.Kind.{Kind}
use Rattle.vx_record.specs.declared.kind.Kind.TheVariants as kinds
use Rattle.vx_names.specs.declared.attr.Attr.{Attr}
use Rattle.vx_config_parts.specs.declared.object.Object.{Object}
use Rattle.vx_config_parts.specs.declared.object.Object.TheVariants.{VolRecord}
use Rattle.vx_config_parts.specs.declared.state.VolState.{VolState}
use Rattle.vx_config_parts.specs.declared.state.VolState.TheVariants as states
use Rattle.vx_rules.specs.Rules.{first_broken}
use Rattle.vx_objects.specs.declared.config.Config.{Config}
use Rattle.vx_objects.specs.Config.{objects_of}
use Rattle.vx_objects.specs.Parts.{in_kinds}
use Rattle.vx_objects.specs.Printed.{cut, Say, IsReadOf}
use Rattle.vx_answers.specs.declared.refusal.Refusal.{Refusal}
use Rattle.vx_answers.specs.declared.refusal.Refusal.TheVariants.{Exists, NoObject, NoGroup, Damaged, Missing, BadRecord}
use Rattle.vx_moments.specs.World.{World, Device, Member, Group}
use Rattle.vx_moments.specs.Moment.{Counts, HasFailed}
use Rattle.vx_moments.specs.Holding.{IsHeld, is_among}
use Rattle.vx_stages.specs.Refusals.{refusal_from}

-- a device whose header names the group
pub record Candidate : Type 0 where
  pub name : Word
  pub device : Device
  pub label : Label

-- the device is free and can be looked at, and its header names the group and the device's own size
pub record IsCandidate (group : Word) (absent : Word → Bool) (w : World) (c : Candidate) : Type 0 where
  pub free : IsHeld w c.name → ⊥
  pub device_is : w.devices c.name ≡ Some c.device
  pub present : absent c.name ≡ false
  pub header : header_of (c.device.contents 0) ≡ Some c.label
  pub group_is : c.label.group ≡ group
  pub size : c.label.sectors ≡ c.device.sectors

-- their slots rise
abbrev pub AreRising : List Candidate → Type 0
AreRising [] = Unit {0}
AreRising (c ∷ cs) = AllOf (λ d. c.label.slot < d.label.slot) cs × AreRising cs

-- the name does not come behind the other in the order of bytes
abbrev pub IsUpTo : Word → Word → Type 0
IsUpTo name other = slice_cmp nat_cmp name other ≢ Greater

-- of the candidates of each slot the first by name counts
pub record AreCounted (group : Word) (absent : Word → Bool) (w : World) (cs : List Candidate) : Type 0 where
  pub each : AllOf (IsCandidate group absent w) cs
  pub rising : AreRising cs
  pub first : (c : Candidate) → IsCandidate group absent w c → AnyOf (λ d. (d.label.slot ≡ c.label.slot) × IsUpTo d.name c.name) cs

-- What is found: devices that cannot be taken, or whose header cannot be read, are as if absent; of those that count some
-- cannot be read. Each of them has failed, or the shelf has as often as it excuses one.
pub record Found (group : Word) (w : World) (old new : Counts) : Type 0 where
  pub absent : Word → Bool
  pub unread : Word → Bool
  pub excused : List Word
  pub gone : (name : Word) → absent name ≡ true → HasFailed old new name ⊎ (is_among name excused ≡ true)
  pub failed : (name : Word) → unread name ≡ true → HasFailed old new name
  pub shelf : RoseBy (length excused) old.shelf new.shelf
  pub counted : List Candidate
  pub count : AreCounted group absent w counted

-- so many sectors of a device an import reads at most: its header, and where this names the group the toggle and the text
-- that the toggle names
abbrev pub import_sectors : Word → Device → ℕ
import_sectors dg d = if names_group dg (header_of (d.contents 0)) then 2 + text_sectors (toggle_of (d.contents 1)) else 1

-- what those that can be read offer
abbrev pub offers_of : Word → (Word → Bool) → List Candidate → List (Option Offer)
offers_of group unread cs = map (λ c. if unread c.name then None else offer_in group c.device.contents) cs

-- its toggle's sector is neither zeros nor a toggle
abbrev pub is_damaged : Device → Bool
is_damaged d = not (bytes_eq (d.contents 1) (replicate 512 0)) && is_none (toggle_of (d.contents 1))

-- it can be read, its toggle is damaged, and it passes the test
abbrev pub is_damaged_one : (Word → Bool) → (Candidate → Bool) → Candidate → Bool
is_damaged_one unread test c = not (unread c.name) && is_damaged c.device && test c

-- the first that passes the test
abbrev pub first_that : {X : Type 0} → (X → Bool) → List X → Option X
first_that test [] = None
first_that test (x ∷ xs) = if test x then Some x else first_that test xs

-- the refusal names the disk, and the first byte of its toggle that does not fit, from the device's start
pub record IsDamage (c : Candidate) (r : Refusal) : Type 0 where
  pub byte : ℕ
  pub in_toggle : 512 ≤ byte
  pub bad : IsFirstBad IsToggle is_toggle_place toggle_end (c.device.contents 1) (byte - 512)
  pub refusal_is : r ≡ Damaged c.label.disk byte

-- the lowest of so many slots from this one up that is good, and of which no candidate can be read
abbrev pub missing_from : ℕ → ℕ → ℕ → (Word → Bool) → List Candidate → Option ℕ
missing_from zero slot good unread cs = None
missing_from (suc n) slot good unread cs =
    if has good slot && not (list_any (λ c. not (unread c.name) && c.label.slot == slot) cs) then Some slot else missing_from n (slot + 1) good unread cs

-- the value of the attribute of a name
abbrev pub attr_value : List ℕ → List Attr → Option (List ℕ)
attr_value name [] = None
attr_value name (a ∷ attrs) = if bytes_eq a.name name then a.value else attr_value name attrs

abbrev pub is_value : List ℕ → Option (List ℕ) → Bool
is_value word None = false
is_value word (Some value) = bytes_eq word value

abbrev pub is_disk_kind : Kind → Bool
is_disk_kind kinds.Dm = true
is_disk_kind kind = false

-- the record is that of a disk with the slot
abbrev pub has_slot : ℕ → Content → Bool
has_slot slot r = is_disk_kind r.kind && is_value (decimal slot) (attr_value (codes "slot") r.attrs)

abbrev pub name_in : Option Content → Option Word
name_in None = None
name_in (Some r) = Some r.name

-- the name of the slot's disk in the text, where the text has one
abbrev pub IsDiskOf : List ℕ → ℕ → Option Word → Type 0
IsDiskOf text slot disk = ((rs : List Content) × Spells text rs × (disk ≡ name_in (first_that (has_slot slot) rs))) ⊎ (((rs : List Content) → Spells text rs → ⊥) × (disk ≡ None))

-- a volume that may have been written to when the group was lost needs to be made equal
abbrev pub needs_sync_state : VolState → VolState
needs_sync_state states.Active = states.NeedSync
needs_sync_state states.Sync = states.NeedSync
needs_sync_state state = state

abbrev pub needs_sync : Object → Object
needs_sync (VolRecord v) = VolRecord (record v { state = needs_sync_state v.state })
needs_sync o = o

-- the records that are committed
abbrev pub import_records : Config → List Object
import_records config = in_kinds (map needs_sync (objects_of config))

-- the configuration records the disk of the header
abbrev pub is_recorded : Config → Label → Bool
is_recorded config l = list_any (λ d. d.slot == l.slot && bytes_eq d.name l.disk && d.publen == l.sectors - 2048) config.disks

-- the candidates whose slot is good
abbrev pub good_ones : ℕ → List Candidate → List Candidate
good_ones good cs = filter (λ c. has good c.label.slot) cs

abbrev pub member_of : Candidate → Member
member_of c = record { device = c.name; disk = c.label.disk; slot = c.label.slot }

abbrev pub members_of : ℕ → List Candidate → List Member
members_of good cs = map member_of (good_ones good cs)

-- the group as it is found
abbrev pub group_found : Offer → List Candidate → Config → Group
group_found o cs config = record { config = config; good = o.good; members = members_of o.good cs; sequence = o.sequence }

-- the fault of the first rule that is broken by what the records say, as fields hold it
abbrev pub IsBrokenBy : List Content → Refusal → Type 0
IsBrokenBy rs r = (said : List Object) × Say rs said × (refusal_from (first_broken (in_kinds (map cut said))) ≡ Some r)

abbrev pub has_sequence : ℕ → Option Offer → Bool
has_sequence sequence None = false
has_sequence sequence (Some o) = o.sequence == sequence

-- the device whose offer is taken: the first with its sequence that can be read
abbrev pub is_taken_of : Word → (Word → Bool) → ℕ → Candidate → Bool
is_taken_of dg unread sequence c = not (unread c.name) && has_sequence sequence (offer_in dg c.device.contents)

-- The tests of an import behind the search, in their order; each with the refusal where it fails, and at the end what it
-- finds: the offer, and the configuration that it is read as.
abbrev pub FindsConfig : Word → World → Offer → List Candidate → Config → (Refusal → Type 0) → (Config → Type 0) → Type 0
FindsConfig dg w o cs config Refused Taken =
    MatchBool (bytes_eq config.group dg)
    (MatchOption (first_that (λ c. not (is_recorded config c.label)) (good_ones o.good cs))
    (MatchOption (first_that (λ v. is_some (w.volumes v.name)) config.volumes)
    (Taken config)
    (λ v. Refused (Exists v.name)))
    (λ c. Refused (NoObject c.label.disk)))
    (Refused (NoObject dg))

-- its text is that of records, and these are a configuration
abbrev pub FindsText : Word → World → Offer → List Candidate → (Refusal → Type 0) → (Config → Type 0) → Type 0
FindsText dg w o cs Refused Taken =
    ((line : ℕ) × IsBadLine o.text line × Refused (BadRecord line))
    ⊎ ((rs : List Content) × Spells o.text rs × (
    ((r : Refusal) × IsBrokenBy rs r × Refused r)
    ⊎ ((config : Config) × IsReadOf rs config × FindsConfig dg w o cs config Refused Taken)))

-- no good slot is without a device that can be read
abbrev pub FindsAll : Word → World → (Word → Bool) → Offer → List Candidate → (Refusal → Type 0) → (Config → Type 0) → Type 0
FindsAll dg w unread o cs Refused Taken =
    MatchOption (missing_from 32 0 o.good unread cs)
    (FindsText dg w o cs Refused Taken)
    (λ slot. (disk : Option Word) × IsDiskOf o.text slot disk × Refused (Missing disk))

-- its sequence is one that commits can go on from, and no device that it names good is damaged
abbrev pub FindsOffer : Word → World → (Word → Bool) → Offer → List Candidate → (Refusal → Type 0) → (Config → Type 0) → Type 0
FindsOffer dg w unread o cs Refused Taken =
    MatchBool (nat_lt (2 ^ 63) o.sequence)
    (MatchOption (first_that (is_taken_of dg unread o.sequence) cs) ⊥ (λ c. Refused (Damaged c.label.disk 520)))
    (MatchOption (first_that (is_damaged_one unread (λ c. has o.good c.label.slot)) cs)
    (FindsAll dg w unread o cs Refused Taken)
    (λ c. (r : Refusal) × IsDamage c r × Refused r))

-- what the devices that count give, those that can be read
abbrev pub Finds : Word → World → (Word → Bool) → List Candidate → (Refusal → Type 0) → (Offer → Config → Type 0) → Type 0
Finds dg w unread cs Refused Taken =
    MatchOption (highest (offers_of dg unread cs))
    (MatchOption (first_that (is_damaged_one unread (λ c. true)) cs)
    (Refused (NoGroup (Some dg)))
    (λ c. (r : Refusal) × IsDamage c r × Refused r))
    (λ o. FindsOffer dg w unread o cs Refused (Taken o))
