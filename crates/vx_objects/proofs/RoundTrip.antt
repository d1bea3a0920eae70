-- Reading the records of a configuration, and giving the records that were read.
use Rattle.std.specs.Prelude.{◌&&◌, nat_lt, IsTrue, IfOk}
use Rattle.std.specs.List.{filter_map, list_all}
use Rattle.std.proofs.Common.{◌≡◌, ℕ, ◌+◌, true, Option, Some, None, Result, Ok, Err, List, [], ◌∷◌, map, get_or, refl, sym, ◌∙◌, ap, subst, inl, inr, arith}
use Rattle.std.proofs.Math.Bool.{Bool-set}
use Rattle.std.proofs.lemmas.Bool.{and_parts, and_from}
use Rattle.std.proofs.lemmas.Bool.Decides.{nat_tests}
use Rattle.std.proofs.lemmas.List.{get_or-map, length-map}
use mathlib.Core.HLevel.{is_prop→PathP}
use Rattle.vx_record.specs.Content.{Content}
use Rattle.vx_config_parts.specs.declared.group.Group.{Group}
use Rattle.vx_config_parts.specs.declared.object.Object.{Object}
use Rattle.vx_config_parts.specs.declared.object.Object.TheVariants.{GroupRecord, DiskRecord, SubdiskRecord, PlexRecord, VolRecord, DcoRecord, SnapRecord}
use Rattle.vx_config_parts.specs.declared.fault.ObjectFault.{ObjectFault}
use Rattle.vx_config_parts.specs.declared.fault.ObjectFault.TheVariants.{OutOfMemory}
use Rattle.vx_rules.specs.Limits.{is_short, fits_byte, fits_word, map_fits}
use Rattle.vx_rules.specs.Rules.{first_broken, is_valid}
use Rattle.vx_objects.specs.declared.config.Config.{Config}
use Rattle.vx_objects.specs.Config.{objects_of}
use Rattle.vx_objects.specs.Laws.{place_of, AreInOrder, ReadsBack, RefusesNone, PrintsBack}
use Rattle.vx_objects.specs.Parts.{as_disk, as_subdisk, as_plex, as_vol, as_dco, as_snap, records_below, records_of, in_kinds}
use Rattle.vx_objects.specs.Printed.{record_of, cut, cut_byte, cut_word, cut_map, map_is_short, has_record, can_be_said, Say, IsReadOf, records_in}
use Rattle.vx_objects.proofs.InKinds.{disks_below, subdisks_below, plexes_below, volumes_below, dcos_below, snaps_below, are_sorted, place, InOrder, stay}
use Rattle.vx_objects.proofs.Numbers.{have_records, valid_none}
use Rattle.vx_objects.proofs.OneSaid.{one_list}

byte_short : (n : ℕ) → fits_byte n ≡ true → is_short n ≡ true
byte_short n h = grind (arith, nat_tests)

word_short : (n : ℕ) → fits_word n ≡ true → is_short n ≡ true
word_short n h = grind (arith, nat_tests)

map_short : (m : Option ℕ) → map_fits m ≡ true → map_is_short m ≡ true
map_short None h = refl
map_short (Some n) h = byte_short n h

byte_kept : (n : ℕ) → fits_byte n ≡ true → cut_byte n ≡ n
byte_kept n h = grind (arith, nat_tests)

word_kept : (n : ℕ) → fits_word n ≡ true → cut_word n ≡ n
word_kept n h = grind (arith, nat_tests)

map_kept : (m : Option ℕ) → map_fits m ≡ true → cut_map m ≡ m
map_kept None h = refl
map_kept (Some n) h = ap (λ (k : ℕ). Some k) (byte_kept n h)

-- an object that has a record is said by it
said : (o : Object) → has_record o ≡ true → can_be_said o ≡ true
said (GroupRecord g) h = h
said (DiskRecord d) h =
    let parts = and_parts (is_short d.publen) (fits_byte d.slot) h in
    and_from (is_short d.slot) (is_short d.publen) (byte_short d.slot parts.1) parts.0
said (SubdiskRecord s) h =
    let p2 = and_parts (is_short s.off && is_short s.len && is_short s.at) (fits_word s.col) h in
    let p1 = and_parts (is_short s.off && is_short s.len) (is_short s.at) p2.0 in
    and_from (is_short s.off && is_short s.len && is_short s.col) (is_short s.at) (and_from (is_short s.off && is_short s.len) (is_short s.col) p1.0 (word_short s.col p2.1)) p1.1
said (PlexRecord p) h =
    let p2 = and_parts (is_short p.unit && fits_word p.ncol) (map_fits p.map) h in
    let p1 = and_parts (is_short p.unit) (fits_word p.ncol) p2.0 in
    and_from (is_short p.ncol && is_short p.unit) (map_is_short p.map) (and_from (is_short p.ncol) (is_short p.unit) (word_short p.ncol p1.1) p1.0) (map_short p.map p2.1)
said (VolRecord v) h = h
said (DcoRecord d) h = h
said (SnapRecord s) h =
    let parts = and_parts (fits_byte s.map) (fits_byte s.ofmap) h in
    and_from (is_short s.map) (is_short s.ofmap) (byte_short s.map parts.0) (byte_short s.ofmap parts.1)

-- and its fields hold it
kept : (o : Object) → has_record o ≡ true → cut o ≡ o
kept (GroupRecord g) h = refl
kept (DiskRecord d) h = ap (λ (n : ℕ). DiskRecord (record d { slot = n })) (byte_kept d.slot (and_parts (is_short d.publen) (fits_byte d.slot) h).1)
kept (SubdiskRecord s) h = ap (λ (n : ℕ). SubdiskRecord (record s { col = n })) (word_kept s.col (and_parts (is_short s.off && is_short s.len && is_short s.at) (fits_word s.col) h).1)
kept (PlexRecord p) h =
    let p2 = and_parts (is_short p.unit && fits_word p.ncol) (map_fits p.map) h in
    let p1 = and_parts (is_short p.unit) (fits_word p.ncol) p2.0 in
    rw (word_kept p.ncol p1.1, map_kept p.map p2.1) refl
kept (VolRecord v) h = refl
kept (DcoRecord d) h = refl
kept (SnapRecord s) h =
    let parts = and_parts (fits_byte s.map) (fits_byte s.ofmap) h in
    rw (byte_kept s.map parts.0, byte_kept s.ofmap parts.1) refl

all_said : (os : List Object) → list_all has_record os ≡ true → list_all can_be_said os ≡ true
all_said [] h = refl
all_said (o ∷ os) h =
    let parts = and_parts (has_record o) (list_all has_record os) h in
    and_from (can_be_said o) (list_all can_be_said os) (said o parts.0) (all_said os parts.1)

all_kept : (os : List Object) → list_all has_record os ≡ true → map cut os ≡ os
all_kept [] h = refl
all_kept (o ∷ os) h =
    let parts = and_parts (has_record o) (list_all has_record os) h in
    rw (kept o parts.0, all_kept os parts.1) refl

have_all : (config : Config) → list_all has_record (objects_of config) ≡ true
have_all config = have_records config.group config.version config.disks config.subdisks config.plexes config.volumes config.dcos config.snaps config.valid

sorted : (config : Config) → in_kinds (objects_of config) ≡ objects_of config
sorted config = are_sorted config.disks config.subdisks config.plexes config.volumes config.dcos config.snaps config.group config.version

-- what the records of a configuration say is its objects
objects_said : (config : Config) (os : List Object) → Say (records_in config) os → os ≡ objects_of config
objects_said config os say = one_list os (objects_of config) say.1 (all_said (objects_of config) (have_all config)) say.0

-- a configuration's records say it
is_read : (config : Config) → IsReadOf (records_in config) config
is_read config = (objects_of config, (refl, all_said (objects_of config) (have_all config)), sym (sorted config))

abbrev group_in : Config → Group
group_in c = record { name = c.group; version = c.version }

pub ok_back : {E : Type 0} (r : Result (List Content) E) (config : Config) (all now : List Object) → now ≡ all → all ≡ objects_of config → IfOk r (λ records. records ≡ map record_of now) → IfOk r (λ records. IsReadOf records config)
ok_back (Ok records) config all now e f made = subst (λ (rs : List Content). IsReadOf rs config) (sym (made ∙ ap (λ (os : List Object). map record_of os) (e ∙ f))) (is_read config)
ok_back (Err fault) config all now e f made = tt

-- configurations with the same records are the same
same_config : (a b : Config) → objects_of a ≡ objects_of b → a ≡ b
same_config a b e =
    let head : group_in a ≡ group_in b = cc in
    let group = ap (λ (g : Group). g.name) head in
    let version = ap (λ (g : Group). g.version) head in
    let below : records_below a.disks a.subdisks a.plexes a.volumes a.dcos a.snaps ≡ records_below b.disks b.subdisks b.plexes b.volumes b.dcos b.snaps = cc in
    let disks = sym (disks_below a.disks a.subdisks a.plexes a.volumes a.dcos a.snaps) ∙ ap (λ (os : List Object). filter_map as_disk os) below ∙ disks_below b.disks b.subdisks b.plexes b.volumes b.dcos b.snaps in
    let subdisks = sym (subdisks_below a.disks a.subdisks a.plexes a.volumes a.dcos a.snaps) ∙ ap (λ (os : List Object). filter_map as_subdisk os) below ∙ subdisks_below b.disks b.subdisks b.plexes b.volumes b.dcos b.snaps in
    let plexes = sym (plexes_below a.disks a.subdisks a.plexes a.volumes a.dcos a.snaps) ∙ ap (λ (os : List Object). filter_map as_plex os) below ∙ plexes_below b.disks b.subdisks b.plexes b.volumes b.dcos b.snaps in
    let volumes = sym (volumes_below a.disks a.subdisks a.plexes a.volumes a.dcos a.snaps) ∙ ap (λ (os : List Object). filter_map as_vol os) below ∙ volumes_below b.disks b.subdisks b.plexes b.volumes b.dcos b.snaps in
    let dcos = sym (dcos_below a.disks a.subdisks a.plexes a.volumes a.dcos a.snaps) ∙ ap (λ (os : List Object). filter_map as_dco os) below ∙ dcos_below b.disks b.subdisks b.plexes b.volumes b.dcos b.snaps in
    let snaps = sym (snaps_below a.disks a.subdisks a.plexes a.volumes a.dcos a.snaps) ∙ ap (λ (os : List Object). filter_map as_snap os) below ∙ snaps_below b.disks b.subdisks b.plexes b.volumes b.dcos b.snaps in
    λ i. record {
      group = group i;
      version = version i;
      disks = disks i;
      subdisks = subdisks i;
      plexes = plexes i;
      volumes = volumes i;
      dcos = dcos i;
      snaps = snaps i;
      valid = is_prop→PathP (λ j. IsTrue (is_valid (records_of (group j) (version j) (disks j) (subdisks j) (plexes j) (volumes j) (dcos j) (snaps j)))) (λ j. Bool-set (is_valid (records_of (group j) (version j) (disks j) (subdisks j) (plexes j) (volumes j) (dcos j) (snaps j))) true) a.valid b.valid i;
    }

pub reads_back : ReadsBack
reads_back = λ config read is. same_config read config (is.2 ∙ ap (λ (os : List Object). in_kinds os) (objects_said config is.0 is.1) ∙ sorted config)

refused : (config : Config) (fault : ObjectFault) (os : List Object) → Say (records_in config) os → first_broken (in_kinds (map cut os)) ≡ Some fault → fault ≡ OutOfMemory
refused config fault os say e =
    let same : in_kinds (map cut os) ≡ objects_of config = ap (λ (xs : List Object). in_kinds (map cut xs)) (objects_said config os say) ∙ ap (λ (xs : List Object). in_kinds xs) (all_kept (objects_of config) (have_all config)) ∙ sorted config in
    let none : first_broken (in_kinds (map cut os)) ≡ None = ap (λ (xs : List Object). first_broken xs) same ∙ valid_none (objects_of config) config.valid in
    cc

pub refuses_none : RefusesNone
refuses_none = λ config fault is. elim is [ inl e ↦ e | inr why ↦ refused config fault why.0 why.1 why.2 ]

in_order : (os : List Object) → AreInOrder (map record_of os) → InOrder os
in_order os h = λ k d low high.
    let now = get_or-map record_of os k d (record_of d) (omega arith) in
    let next = get_or-map record_of os (k + 1) d (record_of d) (omega arith) in
    let same : nat_lt (place_of (get_or (map record_of os) (k + 1) (record_of d)).kind) (place_of (get_or (map record_of os) k (record_of d)).kind) ≡ nat_lt (place (get_or os (k + 1) d)) (place (get_or os k d)) = λ i. nat_lt (place_of (next i).kind) (place_of (now i).kind) in
    sym same ∙ h k (record_of d) low (omega (arith, length-map os record_of))

pub prints_back : PrintsBack
prints_back = λ records config order is.
    let sorted : InOrder is.0 = in_order is.0 (subst (λ (rs : List Content). AreInOrder rs) (sym is.1.0) order) in
    ap (λ (os : List Object). map record_of os) (is.2 ∙ stay is.0 sorted) ∙ is.1.0
