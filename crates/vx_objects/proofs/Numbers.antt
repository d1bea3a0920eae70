-- Where no rule is broken, each number is one of a record, and its field holds it.
use Rattle.std.specs.Prelude.{◌&&◌, ◌||◌, ◌==◌, is_none}
use Rattle.std.proofs.Common.{◌≡◌, ℕ, Bool, true, false, Option, Some, None, List, [], ◌∷◌, ◌++◌, map, take, refl, sym, ◌∙◌, ap, arith}
use Rattle.std.specs.List.{list_all, list_any, filter_map}
use Rattle.std.proofs.lemmas.Bool.{and_parts, and_from, false≢true}
use Rattle.std.proofs.lemmas.Bool.Decides.{nat_tests}
use Rattle.std.proofs.lemmas.List.Folds.{list_all-append, list_any-append}
use Rattle.vx_base.specs.Named.{Word}
use Rattle.vx_config_parts.specs.declared.disk.Disk.{Disk}
use Rattle.vx_config_parts.specs.declared.subdisk.Subdisk.{Subdisk}
use Rattle.vx_config_parts.specs.declared.plex.Plex.{Plex}
use Rattle.vx_config_parts.specs.declared.vol.Vol.{Vol}
use Rattle.vx_config_parts.specs.declared.dco.Dco.{Dco}
use Rattle.vx_config_parts.specs.declared.snap.Snap.{Snap}
use Rattle.vx_config_parts.specs.declared.object.Object.{Object}
use Rattle.vx_config_parts.specs.declared.object.Object.TheVariants.{GroupRecord, DiskRecord, SubdiskRecord, PlexRecord, VolRecord, DcoRecord, SnapRecord}
use Rattle.vx_rules.specs.declared.rule.Rule.{Rule}
use Rattle.vx_rules.specs.declared.rule.Rule.TheVariants as rule
use Rattle.vx_config_parts.specs.declared.fault.Limit.TheVariants as limit
use Rattle.vx_config_parts.specs.declared.fault.ObjectFault.TheVariants.{Limit}
use Rattle.vx_config_parts.specs.Objects.{is_group}
use Rattle.vx_rules.specs.Faults.{first_of}
use Rattle.vx_rules.specs.Limits.{numbers_fit, is_short, fits_byte, fits_word, map_fits}
use Rattle.vx_rules.specs.Rules.{fault_in, fault_over, fault_of, rules, first_broken_of, first_broken, is_valid}
use Rattle.vx_objects.specs.Parts.{as_group, as_disk, as_subdisk, as_plex, as_vol, as_dco, as_snap, records_below, records_of, in_kinds}
use Rattle.vx_objects.specs.Printed.{cut, cut_byte, cut_word, cut_map, has_record}
use Rattle.vx_objects.proofs.OneGroup.{first_none, second_none, unless_none, group_rule, group_holds, valid_head}

last_rule : (rs : List Rule) (r : Rule) (all : List Object) → first_broken_of (rs ++ r ∷ []) all ≡ None → fault_of r all ≡ None
last_rule [] r all e = first_none (fault_of r all) None e
last_rule (s ∷ rs) r all e = last_rule rs r all (second_none (fault_of s all) (first_broken_of (rs ++ r ∷ []) all) e)

number_rule : (all : List Object) → first_broken all ≡ None → fault_of rule.NumbersFit all ≡ None
unfolding first_broken
number_rule all e = last_rule (take 18 rules) rule.NumbersFit all e

number_faults : (all : List Object) → fault_of rule.NumbersFit all ≡ None → first_of (fault_in rule.NumbersFit all) all ≡ None
unfolding fault_of
number_faults all e = second_none (fault_over rule.NumbersFit all) (first_of (fault_in rule.NumbersFit all) all) e

number_fault : (all : List Object) (o : Object) → fault_in rule.NumbersFit all o ≡ None → numbers_fit o ≡ true
unfolding fault_in
number_fault all o e = unless_none (numbers_fit o) (Limit limit.Number) e

each_fits : (all os : List Object) → first_of (fault_in rule.NumbersFit all) os ≡ None → list_all numbers_fit os ≡ true
each_fits all [] e = refl
each_fits all (o ∷ os) e =
    and_from (numbers_fit o) (list_all numbers_fit os) (number_fault all o (first_none (fault_in rule.NumbersFit all o) (first_of (fault_in rule.NumbersFit all) os) e))
    (each_fits all os (second_none (fault_in rule.NumbersFit all o) (first_of (fault_in rule.NumbersFit all) os) e))

pub all_fit : (all : List Object) → first_broken all ≡ None → list_all numbers_fit all ≡ true
all_fit all e = each_fits all all (number_faults all (number_rule all e))

byte_same : (n : ℕ) → fits_byte (cut_byte n) ≡ true → cut_byte n ≡ n
byte_same n h = grind (arith, nat_tests)

word_same : (n : ℕ) → fits_word (cut_word n) ≡ true → cut_word n ≡ n
word_same n h = grind (arith, nat_tests)

map_same : (m : Option ℕ) → map_fits (cut_map m) ≡ true → cut_map m ≡ m
map_same None h = refl
map_same (Some n) h = ap (λ (k : ℕ). Some k) (byte_same n h)

-- an object whose fields hold its numbers is what was said
cut_same : (o : Object) → numbers_fit (cut o) ≡ true → cut o ≡ o
cut_same (GroupRecord g) h = refl
cut_same (DiskRecord d) h = ap (λ (n : ℕ). DiskRecord (record d { slot = n })) (byte_same d.slot (and_parts (is_short d.publen) (fits_byte (cut_byte d.slot)) h).1)
cut_same (SubdiskRecord s) h = ap (λ (n : ℕ). SubdiskRecord (record s { col = n })) (word_same s.col (and_parts (is_short s.off && is_short s.len && is_short s.at) (fits_word (cut_word s.col)) h).1)
cut_same (PlexRecord p) h =
    let parts = and_parts (is_short p.unit && fits_word (cut_word p.ncol)) (map_fits (cut_map p.map)) h in
    rw (word_same p.ncol (and_parts (is_short p.unit) (fits_word (cut_word p.ncol)) parts.0).1, map_same p.map parts.1) refl
cut_same (VolRecord v) h = refl
cut_same (DcoRecord d) h = refl
cut_same (SnapRecord s) h =
    let parts = and_parts (fits_byte (cut_byte s.map)) (fits_byte (cut_byte s.ofmap)) h in
    rw (byte_same s.map parts.0, byte_same s.ofmap parts.1) refl

cuts_same : (said : List Object) → list_all numbers_fit (map cut said) ≡ true → map cut said ≡ said
cuts_same [] h = refl
cuts_same (o ∷ said) h =
    let parts = and_parts (numbers_fit (cut o)) (list_all numbers_fit (map cut said)) h in
    rw (cut_same o parts.0, cuts_same said parts.1) refl

both : (p : Object → Bool) (xs ys : List Object) → list_all p (xs ++ ys) ≡ true → (list_all p xs ≡ true) × (list_all p ys ≡ true)
both p xs ys h = and_parts (list_all p xs) (list_all p ys) (sym (list_all-append p xs ys) ∙ h)

head : (p : Object → Bool) (o : Object) (os : List Object) → list_all p (o ∷ os) ≡ true → p o ≡ true
head p o os h = (and_parts (p o) (list_all p os) h).0

tail : (p : Object → Bool) (o : Object) (os : List Object) → list_all p (o ∷ os) ≡ true → list_all p os ≡ true
tail p o os h = (and_parts (p o) (list_all p os) h).1

-- what holds of the objects of each kind holds of all
from_each : (p : Object → Bool) (all : List Object) → list_all p (map GroupRecord (filter_map as_group all)) ≡ true → list_all p (map DiskRecord (filter_map as_disk all)) ≡ true → list_all p (map SubdiskRecord (filter_map as_subdisk all)) ≡ true → list_all p (map PlexRecord (filter_map as_plex all)) ≡ true → list_all p (map VolRecord (filter_map as_vol all)) ≡ true → list_all p (map DcoRecord (filter_map as_dco all)) ≡ true → list_all p (map SnapRecord (filter_map as_snap all)) ≡ true → list_all p all ≡ true
from_each p [] g d s x v c r = refl
from_each p (GroupRecord o ∷ all) g d s x v c r = and_from _ _ (head p (GroupRecord o) (map GroupRecord (filter_map as_group all)) g) (from_each p all (tail p (GroupRecord o) (map GroupRecord (filter_map as_group all)) g) d s x v c r)
from_each p (DiskRecord o ∷ all) g d s x v c r = and_from _ _ (head p (DiskRecord o) (map DiskRecord (filter_map as_disk all)) d) (from_each p all g (tail p (DiskRecord o) (map DiskRecord (filter_map as_disk all)) d) s x v c r)
from_each p (SubdiskRecord o ∷ all) g d s x v c r = and_from _ _ (head p (SubdiskRecord o) (map SubdiskRecord (filter_map as_subdisk all)) s) (from_each p all g d (tail p (SubdiskRecord o) (map SubdiskRecord (filter_map as_subdisk all)) s) x v c r)
from_each p (PlexRecord o ∷ all) g d s x v c r = and_from _ _ (head p (PlexRecord o) (map PlexRecord (filter_map as_plex all)) x) (from_each p all g d s (tail p (PlexRecord o) (map PlexRecord (filter_map as_plex all)) x) v c r)
from_each p (VolRecord o ∷ all) g d s x v c r = and_from _ _ (head p (VolRecord o) (map VolRecord (filter_map as_vol all)) v) (from_each p all g d s x (tail p (VolRecord o) (map VolRecord (filter_map as_vol all)) v) c r)
from_each p (DcoRecord o ∷ all) g d s x v c r = and_from _ _ (head p (DcoRecord o) (map DcoRecord (filter_map as_dco all)) c) (from_each p all g d s x v (tail p (DcoRecord o) (map DcoRecord (filter_map as_dco all)) c) r)
from_each p (SnapRecord o ∷ all) g d s x v c r = and_from _ _ (head p (SnapRecord o) (map SnapRecord (filter_map as_snap all)) r) (from_each p all g d s x v c (tail p (SnapRecord o) (map SnapRecord (filter_map as_snap all)) r))

from_kinds : (p : Object → Bool) (all : List Object) → list_all p (in_kinds all) ≡ true → list_all p all ≡ true
from_kinds p all h =
    let g = both p (map GroupRecord (filter_map as_group all)) _ h in
    let d = both p (map DiskRecord (filter_map as_disk all)) _ g.1 in
    let s = both p (map SubdiskRecord (filter_map as_subdisk all)) _ d.1 in
    let x = both p (map PlexRecord (filter_map as_plex all)) _ s.1 in
    let v = both p (map VolRecord (filter_map as_vol all)) _ x.1 in
    let c = both p (map DcoRecord (filter_map as_dco all)) (map SnapRecord (filter_map as_snap all)) v.1 in
    from_each p all g.0 d.0 s.0 x.0 v.0 c.0 c.1

-- where no rule is broken, the fields hold all that was said
pub held : (said : List Object) → first_broken (in_kinds (map cut said)) ≡ None → map cut said ≡ said
held said e = cuts_same said (from_kinds numbers_fit (map cut said) (all_fit (in_kinds (map cut said)) e))

none_is : {A : Type 0} (o : Option A) → is_none o ≡ true → o ≡ None
none_is None h = refl
none_is (Some x) h = absurd (false≢true h)

pub valid_none : (all : List Object) → is_valid all ≡ true → first_broken all ≡ None
unfolding is_valid
valid_none all h = none_is (first_broken all) h

-- a record of the group is the only one that it may be
as_numbers : {A : Type 0} (f : A → Object) → ((a : A) → has_record (f a) ≡ numbers_fit (f a)) → (xs : List A) → list_all has_record (map f xs) ≡ list_all numbers_fit (map f xs)
as_numbers f same [] = refl
as_numbers f same (x ∷ xs) = rw (same x, as_numbers f same xs) refl

as_both : (xs ys : List Object) → list_all has_record xs ≡ list_all numbers_fit xs → list_all has_record ys ≡ list_all numbers_fit ys → list_all has_record (xs ++ ys) ≡ list_all numbers_fit (xs ++ ys)
as_both xs ys e f = rw (list_all-append has_record xs ys, list_all-append numbers_fit xs ys, e, f) refl

as_below : (disks : List Disk) (subdisks : List Subdisk) (plexes : List Plex) (volumes : List Vol) (dcos : List Dco) (snaps : List Snap) → list_all has_record (records_below disks subdisks plexes volumes dcos snaps) ≡ list_all numbers_fit (records_below disks subdisks plexes volumes dcos snaps)
as_below disks subdisks plexes volumes dcos snaps =
    as_both (map DiskRecord disks) _ (as_numbers DiskRecord (λ a. refl) disks)
    (as_both (map SubdiskRecord subdisks) _ (as_numbers SubdiskRecord (λ a. refl) subdisks)
    (as_both (map PlexRecord plexes) _ (as_numbers PlexRecord (λ a. refl) plexes)
    (as_both (map VolRecord volumes) _ (as_numbers VolRecord (λ a. refl) volumes)
    (as_both (map DcoRecord dcos) (map SnapRecord snaps) (as_numbers DcoRecord (λ a. refl) dcos) (as_numbers SnapRecord (λ a. refl) snaps)))))

abbrev version_1 : Object → Bool
version_1 o = is_group (λ g. g.version == 1) o

no_version : {A : Type 0} (f : A → Object) → ((a : A) → version_1 (f a) ≡ false) → (xs : List A) → list_any version_1 (map f xs) ≡ false
no_version f not [] = refl
no_version f not (x ∷ xs) = rw (not x, no_version f not xs) refl

neither : (xs ys : List Object) → list_any version_1 xs ≡ false → list_any version_1 ys ≡ false → list_any version_1 (xs ++ ys) ≡ false
neither xs ys e f = list_any-append version_1 xs ys ∙ rw (e, f) refl

no_version_below : (disks : List Disk) (subdisks : List Subdisk) (plexes : List Plex) (volumes : List Vol) (dcos : List Dco) (snaps : List Snap) → list_any version_1 (records_below disks subdisks plexes volumes dcos snaps) ≡ false
no_version_below disks subdisks plexes volumes dcos snaps =
    neither (map DiskRecord disks) _ (no_version DiskRecord (λ a. refl) disks)
    (neither (map SubdiskRecord subdisks) _ (no_version SubdiskRecord (λ a. refl) subdisks)
    (neither (map PlexRecord plexes) _ (no_version PlexRecord (λ a. refl) plexes)
    (neither (map VolRecord volumes) _ (no_version VolRecord (λ a. refl) volumes)
    (neither (map DcoRecord dcos) (map SnapRecord snaps) (no_version DcoRecord (λ a. refl) dcos) (no_version SnapRecord (λ a. refl) snaps)))))

or_first : (a b : Bool) → b ≡ false → (a || b) ≡ true → a ≡ true
or_first true b e h = refl
or_first false b e h = absurd (false≢true (sym e ∙ h))

-- the objects of a valid configuration have records
pub have_records : (group : Word) (version : ℕ) (disks : List Disk) (subdisks : List Subdisk) (plexes : List Plex) (volumes : List Vol) (dcos : List Dco) (snaps : List Snap) → is_valid (records_of group version disks subdisks plexes volumes dcos snaps) ≡ true → list_all has_record (records_of group version disks subdisks plexes volumes dcos snaps) ≡ true
have_records group version disks subdisks plexes volumes dcos snaps h =
    let all : List Object = records_of group version disks subdisks plexes volumes dcos snaps in
    let below : List Object = records_below disks subdisks plexes volumes dcos snaps in
    let e = valid_none all h in
    let one = group_holds all (group_rule all (valid_head all e)) in
    and_from (version == 1) (list_all has_record below)
    (or_first (version == 1) (list_any version_1 below) (no_version_below disks subdisks plexes volumes dcos snaps) (and_parts _ (list_any version_1 all) one).1)
    (as_below disks subdisks plexes volumes dcos snaps ∙ tail numbers_fit (GroupRecord (record { name = group; version = version })) below (all_fit all e))
