-- The text of a configuration of disks is read back as its records, in the order of print, and these keep the rules.
use Rattle.std.proofs.Common.{◌≡◌, ℕ, ◌+◌, Bool, true, false, nat_lt, List, [], ◌∷◌, ◌++◌, map, length, get_or, set, swap, None, refl, sym, ◌∙◌, ap, subst, arith, append-nil}
use Rattle.std.specs.List.{list_all, filter, sum_by}
use Rattle.std.specs.List.Sorted.{IsPermutation, IsSorted, SwapsInRange, apply_swaps}
use Rattle.std.specs.Cmp.Lexicographic.{slice_cmp}
use Rattle.std.specs.Ordering.{nat_cmp, ordering_then, is_lt}
use Rattle.std.specs.declared.cmp.Ordering.{Ordering}
use Rattle.std.specs.declared.cmp.Ordering.TheVariants.{Less, Equal, Greater}
use Rattle.std.proofs.lemmas.Bool.{and_parts, and_from}
use Rattle.std.proofs.lemmas.Bool.Decides.{nat_tests}
use Rattle.std.proofs.lemmas.List.{get_or-map, length-map}
use Rattle.std.proofs.lemmas.List.Concat.{length-flat_map}
use Rattle.std.proofs.lemmas.List.Sorted.{IsPermutation-map, IsPermutation-sym, IsPermutation-trans, sum_by-IsPermutation}
use lib.ListN.{get_or-map as get_or_mapped}
use lib.Seq.{map-set}
use Rattle.vx_record.specs.Content.{Content}
use Rattle.vx_record.specs.Grammar.{Spells, record_text}
use Rattle.vx_config_parts.specs.declared.disk.Disk.{Disk}
use Rattle.vx_config_parts.specs.declared.object.Object.{Object}
use Rattle.vx_config_parts.specs.declared.object.Object.TheVariants.{GroupRecord, DiskRecord, SubdiskRecord, PlexRecord, VolRecord, DcoRecord, SnapRecord}
use Rattle.vx_rules.specs.Limits.{is_short, fits_byte}
use Rattle.vx_rules.specs.Rules.{first_broken}
use Rattle.vx_objects.specs.declared.config.Config.{Config}
use Rattle.vx_objects.specs.Config.{objects_of}
use Rattle.vx_objects.specs.Laws.{place_of}
use Rattle.vx_objects.specs.Parts.{in_kinds}
use Rattle.vx_objects.specs.Printed.{record_of, has_record, can_be_said, cut, cut_byte, Say, IsReadOf}
use Rattle.vx_objects.proofs.InKinds.{InOrder, stay}
use Rattle.vx_objects.proofs.Numbers.{have_records, valid_none}
use Rattle.vx_objects.proofs.OneSaid.{one_list}
use Rattle.vx_print.specs.Shown.{IsPrinted, by_kind, is_shown}
use Rattle.vx_answers.specs.declared.refusal.Refusal.{Refusal}
use Rattle.vx_stages.specs.Finding.{IsBrokenBy, needs_sync, import_records}
use Rattle.vx_stages.specs.Refusals.{refusal_from}
use Rattle.vx_laws.specs.Returning.{HasJustDisks}
use Rattle.vx_laws.proofs.Orderless.{is_plain, all_permuted, still_valid}

-- ---- a permutation of what a function gives

map_swap : {X Y : Type 0} (f : X → Y) (xs : List X) (i j : ℕ) → map f (swap xs i j) ≡ swap (map f xs) i j
map_swap f [] i j = refl
map_swap f (d ∷ ys) i j =
    map-set f (set (d ∷ ys) i (get_or (d ∷ ys) j d)) j (get_or (d ∷ ys) i d)
    ∙ (λ k. set ((map-set f (d ∷ ys) i (get_or (d ∷ ys) j d) ∙ ap (set (map f (d ∷ ys)) i) (sym (get_or_mapped f (d ∷ ys) j d))) k) j (sym (get_or_mapped f (d ∷ ys) i d) k))

map_swaps : {X Y : Type 0} (f : X → Y) (xs : List X) (ps : List (ℕ × ℕ)) → map f (apply_swaps xs ps) ≡ apply_swaps (map f xs) ps
map_swaps f xs [] = refl
map_swaps f xs (p ∷ ps) = map_swap f (apply_swaps xs ps) p.0 p.1 ∙ ap (λ l. swap l p.0 p.1) (map_swaps f xs ps)

unmapped : {X Y : Type 0} (f : X → Y) (xs : List X) (ys : List Y) → IsPermutation (map f xs) ys → (zs : List X) × IsPermutation xs zs × (map f zs ≡ ys)
unmapped f xs ys p = (apply_swaps xs p.moves, record { moves = p.moves; below = subst (λ (n : ℕ). SwapsInRange n p.moves) (length-map xs f) p.below; is = refl }, map_swaps f xs p.moves ∙ sym p.is)

-- ---- the order of print

first_not_less : (a b : Ordering) → is_lt (ordering_then a b) ≡ false → is_lt a ≡ false
first_not_less Less b e = e
first_not_less Equal b e = refl
first_not_less Greater b e = refl

less_is : (m n : ℕ) → is_lt (nat_cmp m n) ≡ false → nat_lt m n ≡ false
less_is m n h = grind (arith, nat_tests)

place_up : (a b : Content) → is_lt (by_kind a b) ≡ false → nat_lt (place_of a.kind) (place_of b.kind) ≡ false
place_up a b h = less_is (place_of a.kind) (place_of b.kind) (first_not_less (nat_cmp (place_of a.kind) (place_of b.kind)) (slice_cmp nat_cmp a.name b.name) h)

in_order : (os : List Object) → IsSorted by_kind (map record_of os) → InOrder os
in_order os h = λ k d low high.
    let now = get_or-map record_of os k d (record_of d) (omega arith) in
    let next = get_or-map record_of os (k + 1) d (record_of d) (omega arith) in
    place_up (record_of (get_or os (k + 1) d)) (record_of (get_or os k d)) ((λ i. is_lt (by_kind (sym next i) (sym now i))) ∙ h k (record_of d) low (omega (arith, length-map os record_of)))

-- ---- records of a group and its disks

byte_short : (n : ℕ) → fits_byte n ≡ true → is_short n ≡ true
byte_short n h = grind (arith, nat_tests)

byte_kept : (n : ℕ) → fits_byte n ≡ true → cut_byte n ≡ n
byte_kept n h = grind (arith, nat_tests)

plain_said : (o : Object) → is_plain o ≡ true → has_record o ≡ true → can_be_said o ≡ true
plain_said (GroupRecord g) p h = h
plain_said (DiskRecord d) p h =
    let parts = and_parts (is_short d.publen) (fits_byte d.slot) h in
    and_from (is_short d.slot) (is_short d.publen) (byte_short d.slot parts.1) parts.0
plain_said o p h = cc

plain_kept : (o : Object) → is_plain o ≡ true → has_record o ≡ true → cut o ≡ o
plain_kept (GroupRecord g) p h = refl
plain_kept (DiskRecord d) p h = ap (λ (n : ℕ). DiskRecord (record d { slot = n })) (byte_kept d.slot (and_parts (is_short d.publen) (fits_byte d.slot) h).1)
plain_kept o p h = cc

plain_synced : (o : Object) → is_plain o ≡ true → needs_sync o ≡ o
plain_synced (GroupRecord g) p = refl
plain_synced (DiskRecord d) p = refl
plain_synced o p = cc

all_said : (os : List Object) → list_all is_plain os ≡ true → list_all has_record os ≡ true → list_all can_be_said os ≡ true
all_said [] p h = refl
all_said (o ∷ os) p h =
    let ps = and_parts (is_plain o) (list_all is_plain os) p in
    let hs = and_parts (has_record o) (list_all has_record os) h in
    and_from (can_be_said o) (list_all can_be_said os) (plain_said o ps.0 hs.0) (all_said os ps.1 hs.1)

all_kept : (os : List Object) → list_all is_plain os ≡ true → list_all has_record os ≡ true → map cut os ≡ os
all_kept [] p h = refl
all_kept (o ∷ os) p h =
    let ps = and_parts (is_plain o) (list_all is_plain os) p in
    let hs = and_parts (has_record o) (list_all has_record os) h in
    rw (plain_kept o ps.0 hs.0, all_kept os ps.1 hs.1) refl

all_synced : (os : List Object) → list_all is_plain os ≡ true → map needs_sync os ≡ os
all_synced [] p = refl
all_synced (o ∷ os) p =
    let ps = and_parts (is_plain o) (list_all is_plain os) p in
    rw (plain_synced o ps.0, all_synced os ps.1) refl

all_stay : (os : List Object) → filter (λ (o : Object). true) os ≡ os
all_stay [] = refl
all_stay (o ∷ os) = ap (λ (rest : List Object). o ∷ rest) (all_stay os)

-- ---- the configuration

module _ (config : Config) (plain : HasJustDisks config) where
  pub objects_are : objects_of config ≡ GroupRecord (record { name = config.group; version = config.version }) ∷ map DiskRecord config.disks
  objects_are =
      (λ i. GroupRecord (record { name = config.group; version = config.version }) ∷ (map DiskRecord config.disks ++ (map SubdiskRecord (plain.subdisks i) ++ (map PlexRecord (plain.plexes i) ++ (map VolRecord (plain.volumes i) ++ (map DcoRecord (plain.dcos i) ++ map SnapRecord (plain.snaps i)))))))
      ∙ ap (λ (os : List Object). GroupRecord (record { name = config.group; version = config.version }) ∷ os) (append-nil (map DiskRecord config.disks))

  -- what holds of the group's record and of each disk holds of all
  pub all_with : (p : Object → Bool) → p (GroupRecord (record { name = config.group; version = config.version })) ≡ true → ((d : Disk) → p (DiskRecord d) ≡ true) → list_all p (objects_of config) ≡ true
  all_with p first each = subst (λ (os : List Object). list_all p os ≡ true) (sym objects_are) (and_from (p (GroupRecord (record { name = config.group; version = config.version }))) (list_all p (map DiskRecord config.disks)) first (disks config.disks))
    where
      disks : (ds : List Disk) → list_all p (map DiskRecord ds) ≡ true
      disks [] = refl
      disks (d ∷ ds) = and_from (p (DiskRecord d)) (list_all p (map DiskRecord ds)) (each d) (disks ds)

-- the records of the configuration, in the order of print
pub record IsReordered (config : Config) (os : List Object) : Type 0 where
  pub same : IsPermutation (objects_of config) os
  pub plain : list_all is_plain os ≡ true
  pub said : list_all can_be_said os ≡ true
  pub kept : map cut os ≡ os
  pub order : in_kinds os ≡ os
  pub valid : first_broken os ≡ None

reordered_by : (config : Config) → HasJustDisks config → (os : List Object) → IsPermutation (objects_of config) os → IsSorted by_kind (map record_of os) → IsReordered config os
reordered_by config plain os same ordered =
    let all_plain = all_permuted is_plain (objects_of config) os same (all_with config plain is_plain refl (λ d. refl)) in
    let all_have = all_permuted has_record (objects_of config) os same (have_records config.group config.version config.disks config.subdisks config.plexes config.volumes config.dcos config.snaps config.valid) in
    record {
      same = same;
      plain = all_plain;
      said = all_said os all_plain all_have;
      kept = all_kept os all_plain all_have;
      order = stay os (in_order os ordered);
      valid = still_valid (objects_of config) os same all_plain (valid_none (objects_of config) config.valid);
    }

-- the text spells the records of the configuration, in the order of print
pub record IsSpelled (config : Config) (text : List ℕ) : Type 0 where
  pub os : List Object
  pub are : IsReordered config os
  pub spells : Spells text (map record_of os)

pub spelled : (config : Config) → HasJustDisks config → (text : List ℕ) → IsPrinted None (objects_of config) [] text → IsSpelled config text
spelled config plain text printed =
    let back = unmapped record_of (objects_of config) printed.shown (subst (λ (os : List Object). IsPermutation (map record_of os) printed.shown) (all_stay (objects_of config)) printed.same) in
    record {
      os = back.0;
      are = reordered_by config plain back.0 back.1 (subst (λ (rs : List Content). IsSorted by_kind rs) (sym back.2) printed.ordered);
      spells = subst (λ (rs : List Content). Spells text rs) (sym back.2) (record { valid = printed.valid; spelled = printed.text });
    }

-- ---- what is read

module _ (config : Config) (os : List Object) (are : IsReordered config os) where
  said_is : (said : List Object) → Say (map record_of os) said → said ≡ os
  said_is said say = one_list said os say.1 are.said say.0

  -- they break no rule
  pub none_broken : {Q : Type 0} (r : Refusal) → IsBrokenBy (map record_of os) r → Q
  none_broken r why =
      let same : in_kinds (map cut why.0) ≡ os = ap (λ (xs : List Object). in_kinds (map cut xs)) (said_is why.0 why.1) ∙ ap (λ (xs : List Object). in_kinds xs) are.kept ∙ are.order in
      let none : refusal_from (first_broken (in_kinds (map cut why.0))) ≡ None = ap (λ (xs : List Object). refusal_from (first_broken xs)) same ∙ ap refusal_from are.valid in
      let some = why.2 in
      cc

  pub read_is : (read : Config) → IsReadOf (map record_of os) read → objects_of read ≡ os
  read_is read is = is.2 ∙ ap (λ (xs : List Object). in_kinds xs) (said_is is.0 is.1) ∙ are.order

  -- no volume needs to be made equal
  pub committed_is : (read : Config) → objects_of read ≡ os → import_records read ≡ os
  committed_is read e = ap (λ (xs : List Object). in_kinds (map needs_sync xs)) e ∙ ap (λ (xs : List Object). in_kinds xs) (all_synced os are.plain) ∙ are.order

-- ---- printing again

-- records in another order are printed as the same text
pub same_print : (objs os : List Object) (old text : List ℕ) → IsPermutation objs os → IsPrinted None objs old text → IsPrinted None os old text
same_print objs os old text same printed =
    let moved = IsPermutation-map record_of os objs (IsPermutation-sym objs os same) in
    let before : IsPermutation (map record_of objs) printed.shown = subst (λ (xs : List Object). IsPermutation (map record_of xs) printed.shown) (all_stay objs) printed.same in
    record {
      shown = printed.shown;
      same = subst (λ (xs : List Object). IsPermutation (map record_of xs) printed.shown) (sym (all_stay os)) (IsPermutation-trans (map record_of os) (map record_of objs) printed.shown moved before);
      ordered = printed.ordered;
      valid = printed.valid;
      text = printed.text;
    }

-- texts of the same records are of one length
pub same_length : (os : List Object) (text other : List ℕ) → IsPrinted None os [] text → IsPrinted None os [] other → length text ≡ length other
same_length os text other one two = long text one ∙ sym (long other two)
  where
    long : (t : List ℕ) → IsPrinted None os [] t → length t ≡ sum_by (λ r. length (record_text r)) (map record_of (filter (λ o. is_shown None os o) os))
    long t printed =
        ap length printed.text ∙ length-flat_map record_text printed.shown
        ∙ sum_by-IsPermutation (λ r. length (record_text r)) (map record_of (filter (λ o. is_shown None os o) os)) printed.shown printed.same
