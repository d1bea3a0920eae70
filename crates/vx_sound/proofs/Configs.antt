-- What the text of a configuration records: the slots of its disks.
use Rattle.std.proofs.Common.{◌≡◌, ℕ, ◌<◌, ◌^◌, ◌==◌, ◌||◌, Bool, true, List, [], ◌∷◌, ◌++◌, map, refl, sym, ◌∙◌, ap, subst, inl, inr, arith}
use Rattle.std.specs.Prelude.{decimal}
use Rattle.std.specs.List.{list_any, list_all, filter, filter_map}
use Rattle.std.specs.List.Sorted.{IsPermutation}
use Rattle.std.specs.Str.{bytes_eq}
use Rattle.std.proofs.lemmas.Bool.{and_parts, eqb-true, ltb-true, eq-eqb}
use Rattle.std.proofs.lemmas.Bool.Decides.{nat_tests}
use Rattle.std.proofs.lemmas.Fmt.{decimal_injective}
use Rattle.std.proofs.lemmas.List.Elements.{filter_map-append}
use Rattle.std.proofs.lemmas.List.Sorted.{list_any-IsPermutation}
use Rattle.vx_base.proofs.NamedLemmas.{bytes_eq_self, bytes_eq_same}
use Rattle.vx_mask.proofs.Tests.{or_cases, or_from_left, or_from_right}
use Rattle.vx_record.specs.Content.{Content}
use Rattle.vx_record.specs.Grammar.{Spells}
use Rattle.vx_record.proofs.Faults.{spells_one}
use Rattle.vx_config_parts.specs.declared.group.Group.{Group}
use Rattle.vx_config_parts.specs.declared.disk.Disk.{Disk}
use Rattle.vx_config_parts.specs.declared.object.Object.{Object}
use Rattle.vx_config_parts.specs.declared.object.Object.TheVariants.{GroupRecord, DiskRecord, SubdiskRecord, PlexRecord, VolRecord, DcoRecord, SnapRecord}
use Rattle.vx_config_parts.specs.Objects.{is_disk}
use Rattle.vx_rules.specs.Limits.{is_short, fits_byte}
use Rattle.vx_objects.specs.declared.config.Config.{Config}
use Rattle.vx_objects.specs.Config.{objects_of}
use Rattle.vx_objects.specs.Parts.{as_group, as_disk, as_subdisk, as_plex, as_vol, as_dco, as_snap, in_kinds, sorted_below}
use Rattle.vx_objects.specs.Printed.{record_of, has_record, can_be_said}
use Rattle.vx_objects.proofs.InKinds.{disks_below}
use Rattle.vx_objects.proofs.Numbers.{have_records}
use Rattle.vx_moments.specs.Copies.{IsTextOf}
use Rattle.vx_stages.specs.Finding.{has_slot}
use Rattle.vx_sound.specs.Sound.{IsConfigOf, RecordsSlot}

-- a disk of the configuration has the slot
abbrev pub Records : Config → ℕ → Type 0
Records config slot = list_any (λ d. d.slot == slot) config.disks ≡ true

-- ---- the disks of records

any_disk : (test : Disk → Bool) (os : List Object) → list_any (λ o. is_disk test o) os ≡ list_any test (filter_map as_disk os)
any_disk test [] = refl
any_disk test (DiskRecord d ∷ os) = ap (λ (b : Bool). test d || b) (any_disk test os)
any_disk test (GroupRecord g ∷ os) = any_disk test os
any_disk test (SubdiskRecord s ∷ os) = any_disk test os
any_disk test (PlexRecord p ∷ os) = any_disk test os
any_disk test (VolRecord v ∷ os) = any_disk test os
any_disk test (DcoRecord d ∷ os) = any_disk test os
any_disk test (SnapRecord s ∷ os) = any_disk test os

no_disks : (gs : List Group) → filter_map as_disk (map GroupRecord gs) ≡ []
no_disks [] = refl
no_disks (g ∷ gs) = no_disks gs

pub disks_in : (config : Config) → filter_map as_disk (objects_of config) ≡ config.disks
disks_in config = disks_below config.disks config.subdisks config.plexes config.volumes config.dcos config.snaps

disks_sorted : (all : List Object) → filter_map as_disk (in_kinds all) ≡ filter_map as_disk all
disks_sorted all =
    filter_map-append as_disk (map GroupRecord (filter_map as_group all)) (sorted_below all)
    ∙ ap (λ (ds : List Disk). ds ++ filter_map as_disk (sorted_below all)) (no_disks (filter_map as_group all))
    ∙ disks_below (filter_map as_disk all) (filter_map as_subdisk all) (filter_map as_plex all) (filter_map as_vol all) (filter_map as_dco all) (filter_map as_snap all)

-- the disks of a configuration that is made of these records
pub disks_made : (config : Config) (all : List Object) → objects_of config ≡ in_kinds all → config.disks ≡ filter_map as_disk all
disks_made config all made = sym (disks_in config) ∙ ap (λ (os : List Object). filter_map as_disk os) made ∙ disks_sorted all

-- ---- the slot of a record

-- the record's slot, where it is a disk's, has a numeral of the text form
abbrev is_slot_short : Object → Bool
is_slot_short (DiskRecord d) = is_short d.slot
is_slot_short o = true

byte_short : (n : ℕ) → fits_byte n ≡ true → is_short n ≡ true
byte_short n h = grind (arith, nat_tests)

slot_fits : (o : Object) → has_record o ≡ true → is_slot_short o ≡ true
slot_fits (DiskRecord d) h = byte_short d.slot (and_parts (is_short d.publen) (fits_byte d.slot) h).1
slot_fits (GroupRecord g) h = refl
slot_fits (SubdiskRecord s) h = refl
slot_fits (PlexRecord p) h = refl
slot_fits (VolRecord v) h = refl
slot_fits (DcoRecord d) h = refl
slot_fits (SnapRecord s) h = refl

slot_said : (o : Object) → can_be_said o ≡ true → is_slot_short o ≡ true
slot_said (DiskRecord d) h = (and_parts (is_short d.slot) (is_short d.publen) h).0
slot_said (GroupRecord g) h = refl
slot_said (SubdiskRecord s) h = refl
slot_said (PlexRecord p) h = refl
slot_said (VolRecord v) h = refl
slot_said (DcoRecord d) h = refl
slot_said (SnapRecord s) h = refl

all_slots : (p : Object → Bool) → ((o : Object) → p o ≡ true → is_slot_short o ≡ true) → (os : List Object) → list_all p os ≡ true → list_all is_slot_short os ≡ true
all_slots p fits [] h = refl
all_slots p fits (o ∷ os) h =
    let parts = and_parts (p o) (list_all p os) h in
    rw (fits o parts.0, all_slots p fits os parts.1) refl

one_number : (m n : ℕ) → is_short m ≡ true → is_short n ≡ true → bytes_eq (decimal m) (decimal n) ≡ true → m ≡ n
one_number m n h k e = decimal_injective m n (short m h) (short n k) (bytes_eq_same (decimal m) (decimal n) e)
  where
    short : (n : ℕ) → is_short n ≡ true → n < 2 ^ 64
    short n h = let low = ltb-true n (2 ^ 40) h in omega (arith, low)

-- the slot of a disk stands in its record
says_slot : (slot : ℕ) (o : Object) → is_disk (λ d. d.slot == slot) o ≡ true → has_slot slot (record_of o) ≡ true
says_slot slot (DiskRecord d) e = subst (λ (n : ℕ). has_slot n (record_of (DiskRecord d)) ≡ true) (eqb-true d.slot slot e) (bytes_eq_self (decimal d.slot))
says_slot slot (GroupRecord g) e = cc
says_slot slot (SubdiskRecord s) e = cc
says_slot slot (PlexRecord p) e = cc
says_slot slot (VolRecord v) e = cc
says_slot slot (DcoRecord d) e = cc
says_slot slot (SnapRecord s) e = cc

slot_back : (slot : ℕ) (o : Object) → is_short slot ≡ true → is_slot_short o ≡ true → has_slot slot (record_of o) ≡ true → is_disk (λ d. d.slot == slot) o ≡ true
slot_back slot (DiskRecord d) low fits e = eq-eqb d.slot slot (sym (one_number slot d.slot low fits e))
slot_back slot (GroupRecord g) low fits e = e
slot_back slot (SubdiskRecord s) low fits e = e
slot_back slot (PlexRecord p) low fits e = e
slot_back slot (VolRecord v) low fits e = e
slot_back slot (DcoRecord d) low fits e = e
slot_back slot (SnapRecord s) low fits e = e

say_slot : (slot : ℕ) (os : List Object) → list_any (λ o. is_disk (λ d. d.slot == slot) o) os ≡ true → list_any (λ r. has_slot slot r) (map record_of os) ≡ true
say_slot slot [] e = e
say_slot slot (o ∷ os) e = elim (or_cases (is_disk (λ d. d.slot == slot) o) (list_any (λ o. is_disk (λ d. d.slot == slot) o) os) e) [
  | inl here ↦ or_from_left (has_slot slot (record_of o)) (list_any (λ r. has_slot slot r) (map record_of os)) (says_slot slot o here)
  | inr there ↦ or_from_right (has_slot slot (record_of o)) (list_any (λ r. has_slot slot r) (map record_of os)) (say_slot slot os there)
]

find_slot : (slot : ℕ) (os : List Object) → is_short slot ≡ true → list_all is_slot_short os ≡ true → list_any (λ r. has_slot slot r) (map record_of os) ≡ true → list_any (λ o. is_disk (λ d. d.slot == slot) o) os ≡ true
find_slot slot [] low fits e = e
find_slot slot (o ∷ os) low fits e =
    let parts = and_parts (is_slot_short o) (list_all is_slot_short os) fits in
    elim (or_cases (has_slot slot (record_of o)) (list_any (λ r. has_slot slot r) (map record_of os)) e) [
      | inl here ↦ or_from_left (is_disk (λ d. d.slot == slot) o) (list_any (λ o. is_disk (λ d. d.slot == slot) o) os) (slot_back slot o low parts.0 here)
      | inr there ↦ or_from_right (is_disk (λ d. d.slot == slot) o) (list_any (λ o. is_disk (λ d. d.slot == slot) o) os) (find_slot slot os low parts.1 there)
    ]

-- ---- the text of a configuration

all_stay : (os : List Object) → filter (λ (o : Object). true) os ≡ os
all_stay [] = refl
all_stay (o ∷ os) = ap (λ (rest : List Object). o ∷ rest) (all_stay os)

-- the records of a configuration's text, in the order of print
shown_of : (config : Config) (text : List ℕ) → (printed : IsTextOf config text) → IsPermutation (map record_of (objects_of config)) printed.shown
shown_of config text printed = subst (λ (os : List Object). IsPermutation (map record_of os) printed.shown) (all_stay (objects_of config)) printed.same

spelled : (config : Config) (text : List ℕ) → (printed : IsTextOf config text) → Spells text printed.shown
spelled config text printed = record { valid = printed.valid; spelled = printed.text }

slots_fit : (config : Config) → list_all is_slot_short (objects_of config) ≡ true
slots_fit config = all_slots has_record slot_fits (objects_of config) (have_records config.group config.version config.disks config.subdisks config.plexes config.volumes config.dcos config.snaps config.valid)

recorded_by : (config : Config) (slot : ℕ) → Records config slot → list_any (λ o. is_disk (λ d. d.slot == slot) o) (objects_of config) ≡ true
recorded_by config slot h = any_disk (λ d. d.slot == slot) (objects_of config) ∙ ap (λ (ds : List Disk). list_any (λ d. d.slot == slot) ds) (disks_in config) ∙ h

low_slot : (slot : ℕ) (os : List Object) → list_all is_slot_short os ≡ true → list_any (λ o. is_disk (λ d. d.slot == slot) o) os ≡ true → is_short slot ≡ true
low_slot slot [] fits e = cc
low_slot slot (o ∷ os) fits e =
    let parts = and_parts (is_slot_short o) (list_all is_slot_short os) fits in
    elim (or_cases (is_disk (λ d. d.slot == slot) o) (list_any (λ o. is_disk (λ d. d.slot == slot) o) os) e) [
      | inl here ↦ one o parts.0 here
      | inr there ↦ low_slot slot os parts.1 there
    ]
  where
    one : (o : Object) → is_slot_short o ≡ true → is_disk (λ d. d.slot == slot) o ≡ true → is_short slot ≡ true
    one (DiskRecord d) fits e = subst (λ (n : ℕ). is_short n ≡ true) (eqb-true d.slot slot e) fits
    one (GroupRecord g) fits e = cc
    one (SubdiskRecord s) fits e = cc
    one (PlexRecord p) fits e = cc
    one (VolRecord v) fits e = cc
    one (DcoRecord d) fits e = cc
    one (SnapRecord s) fits e = cc

-- the text of a configuration records each of its slots, whichever configuration it is read as
pub text_records : (config : Config) (text : List ℕ) → IsTextOf config text → (slot : ℕ) → Records config slot → RecordsSlot slot text
text_records config text printed slot h other is = by is
  where
    low : is_short slot ≡ true
    low = low_slot slot (objects_of config) (slots_fit config) (recorded_by config slot h)

    said : list_any (λ r. has_slot slot r) printed.shown ≡ true
    said = sym (list_any-IsPermutation (λ r. has_slot slot r) (map record_of (objects_of config)) printed.shown (shown_of config text printed)) ∙ say_slot slot (objects_of config) (recorded_by config slot h)

    by : IsConfigOf text other → Records other slot
    by (inl again) =
        let same : printed.shown ≡ again.shown = spells_one text printed.shown again.shown (spelled config text printed) (spelled other text again) in
        let here : list_any (λ r. has_slot slot r) (map record_of (objects_of other)) ≡ true = list_any-IsPermutation (λ r. has_slot slot r) (map record_of (objects_of other)) again.shown (shown_of other text again) ∙ ap (λ (rs : List Content). list_any (λ r. has_slot slot r) rs) (sym same) ∙ said in
        ap (λ (ds : List Disk). list_any (λ d. d.slot == slot) ds) (sym (disks_in other)) ∙ sym (any_disk (λ d. d.slot == slot) (objects_of other)) ∙ find_slot slot (objects_of other) low (slots_fit other) here
    by (inr (rs, spells, (all, say, made))) =
        let same : printed.shown ≡ rs = spells_one text printed.shown rs (spelled config text printed) spells in
        let here : list_any (λ r. has_slot slot r) (map record_of all) ≡ true = ap (λ (rs : List Content). list_any (λ r. has_slot slot r) rs) (say.0 ∙ sym same) ∙ said in
        ap (λ (ds : List Disk). list_any (λ d. d.slot == slot) ds) (disks_made other all made) ∙ sym (any_disk (λ d. d.slot == slot) all) ∙ find_slot slot all low (all_slots can_be_said slot_said all say.1) here
