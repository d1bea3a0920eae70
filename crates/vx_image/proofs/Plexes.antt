-- What a valid configuration keeps of the subdisks and of the columns of its plexes.
use Rattle.std.proofs.Common.{◌≡◌, ℕ, ◌+◌, ◌<◌, ◌≤◌, ◌^◌, max, Bool, true, false, cond, not, List, [], ◌∷◌, length, None, refl, sym, ◌∙◌, ap, subst, inl, inr, arith, ◌&&◌, ◌||◌, ◌==◌, nat_le, nat_lt}
use Rattle.std.specs.List.{list_any, list_all, count_by, fold}
use Rattle.std.specs.Str.{bytes_eq}
use Rattle.std.proofs.lemmas.Bool.{false≢true, and_parts, and_from, or_cases, cases_lt, leb-true, leb-false, ltb-true, eq-eqb, eqb-true, cond-true}
use Rattle.std.proofs.lemmas.List.Sums.{count_by-le-length}
use Rattle.vx_base.specs.Named.{Word}
use Rattle.vx_base.proofs.NamedLemmas.{bytes_eq_self, bytes_eq_same}
use Rattle.vx_layout.specs.Columns as layout
use Rattle.vx_layout.specs.Valid.{is_apart}
use Rattle.vx_config_parts.specs.declared.object.Object.{Object}
use Rattle.vx_config_parts.specs.declared.object.Object.TheVariants.{DiskRecord, SubdiskRecord}
use Rattle.vx_config_parts.specs.declared.subdisk.Subdisk.{Subdisk}
use Rattle.vx_config_parts.specs.declared.disk.Disk.{Disk}
use Rattle.vx_config_parts.specs.declared.plex.Plex.{Plex}
use Rattle.vx_config_parts.specs.Objects.{is_subdisk, is_disk, refers, name_of}
use Rattle.vx_rules.specs.Columns as extents
use Rattle.vx_rules.specs.Columns.{is_in_column, piece_follows, all_pieces_good, end_with}
use Rattle.vx_rules.specs.Limits.{is_short, fits_byte, fits_word}
use Rattle.vx_rules.specs.Rules.{first_broken}
use Rattle.vx_rules.specs.Space.{has_room}
use Rattle.vx_objects.specs.declared.config.Config.{Config}
use Rattle.vx_objects.specs.Config.{objects_of}
use Rattle.vx_objects.proofs.Numbers.{valid_none}
use Rattle.vx_image.specs.Once.{HasSector}
use Rattle.vx_image.specs.Lies.{slot_of, strip_of, strips_from}
use Rattle.vx_image.proofs.PlexMembers.{IsIn, in_one, all_in, count_one, one_named, subdisk_in, subdisk_of, disk_in, disk_of, subdisk_any, disk_any, same_subdisk, same_disk}
use Rattle.vx_image.proofs.Once.{valid_once}
use Rattle.vx_rules.proofs.InOrder.{names_differ}
use Rattle.vx_image.proofs.Valid.{slot_own, numbers_are, is_inside}
use Rattle.vx_image.proofs.Chain.{IsPiece, IsWhole, IsEnd, chain_sum}

-- no rule is broken
abbrev pub IsValid : Config → Type 0
IsValid c = first_broken (objects_of c) ≡ None

pub config_valid : (c : Config) → IsValid c
config_valid c = valid_none (objects_of c) c.valid

pub and3 : (a b c : Bool) → (a && b && c) ≡ true → (a ≡ true) × (b ≡ true) × (c ≡ true)
and3 true true c h = (refl, refl, h)
and3 true false c h = absurd (false≢true h)
and3 false b c h = absurd (false≢true h)

pub and4 : (a b c d : Bool) → (a && b && c && d) ≡ true → (a ≡ true) × (b ≡ true) × (c ≡ true) × (d ≡ true)
and4 true true true d h = (refl, refl, refl, h)
and4 true true false d h = absurd (false≢true h)
and4 true false c d h = absurd (false≢true h)
and4 false b c d h = absurd (false≢true h)

or3 : (a b c : Bool) → (a ≡ false → b ≡ false → c ≡ false → ⊥) → (a || b || c) ≡ true
or3 true b c h = refl
or3 false true c h = refl
or3 false false true h = refl
or3 false false false h = absurd (h refl refl refl)

-- ---- subdisks

pub filled : (c : Config) → IsValid c → (s : Subdisk) → IsIn c.subdisks s → 0 < s.len
filled c e s h = ltb-true 0 s.len (and_parts (nat_lt 0 s.len) (has_room (objects_of c) s) (is_inside (objects_of c) s e (subdisk_in c s h))).0

-- two records of disks, or of subdisks, of one name are one
one_disk : (c : Config) → IsValid c → (d e : Disk) → IsIn c.disks d → IsIn c.disks e → d.name ≡ e.name → d ≡ e
one_disk c v d e h k same = same_disk d e (one_named [] (objects_of c) (DiskRecord d) (DiskRecord e) (names_differ (objects_of c) v) (disk_in c d h) (disk_in c e k) same)

one_subdisk : (c : Config) → IsValid c → (s t : Subdisk) → IsIn c.subdisks s → IsIn c.subdisks t → s.name ≡ t.name → s ≡ t
one_subdisk c v s t h k same = same_subdisk s t (one_named [] (objects_of c) (SubdiskRecord s) (SubdiskRecord t) (names_differ (objects_of c) v) (subdisk_in c s h) (subdisk_in c t k) same)

slot_same : (d e : Disk) → d ≡ e → d.slot ≡ e.slot
slot_same d e h = ap (λ x. x.slot) h

slot_found : (ds : List Disk) (d : Disk) → ((e : Disk) → IsIn ds e → e.name ≡ d.name → e ≡ d) → IsIn ds d → slot_of ds d.name ≡ d.slot
slot_found [] d one h = absurd h
slot_found (e ∷ ds) d one h = by (slot_found ds d (λ x k. one x (inr k))) (bytes_eq e.name d.name) refl h where
  by : (IsIn ds d → slot_of ds d.name ≡ d.slot) → (b : Bool) → bytes_eq e.name d.name ≡ b → IsIn (e ∷ ds) d → cond b e.slot (slot_of ds d.name) ≡ d.slot
  by on true k h = slot_same e d (one e (inl refl) (bytes_eq_same e.name d.name k))
  by on false k (inl h) = absurd (false≢true (sym k ∙ subst (λ x. bytes_eq x.name d.name ≡ true) h (bytes_eq_self d.name)))
  by on false k (inr h) = on h

-- the disk that has the subdisk
pub record HasDisk (c : Config) (s : Subdisk) : Type 0 where
  pub disk : Disk
  pub there : IsIn c.disks disk
  pub named : disk.name ≡ s.disk
  pub room : s.off + s.len ≤ disk.publen
  pub slot : slot_of c.disks s.disk ≡ disk.slot

pub on_disk : (c : Config) → IsValid c → (s : Subdisk) → IsIn c.subdisks s → HasDisk c s
on_disk c v s h =
    let r = disk_any (λ d. bytes_eq d.name s.disk && nat_le (s.off + s.len) d.publen) (objects_of c) (and_parts (nat_lt 0 s.len) (has_room (objects_of c) s) (is_inside (objects_of c) s v (subdisk_in c s h))).1 in
    let parts = and_parts (bytes_eq r.0.name s.disk) (nat_le (s.off + s.len) r.0.publen) r.2 in
    let named = bytes_eq_same r.0.name s.disk parts.0 in
    let there = disk_of c r.0 r.1 in
    record {
      disk = r.0;
      there = there;
      named = named;
      room = leb-true (s.off + s.len) r.0.publen parts.1;
      slot = subst (λ n. slot_of c.disks n ≡ r.0.slot) named (slot_found c.disks r.0 (λ e k same. one_disk c v e r.0 k there same) there);
    }

-- subdisks in one slot are on one disk
slot_disk : (c : Config) → IsValid c → (s t : Subdisk) → IsIn c.subdisks s → IsIn c.subdisks t → slot_of c.disks s.disk ≡ slot_of c.disks t.disk → s.disk ≡ t.disk
slot_disk c v s t h k same =
    let a = on_disk c v s h in
    let b = on_disk c v t k in
    let slots : a.disk.slot ≡ b.disk.slot = sym a.slot ∙ same ∙ b.slot in
    let own = and_parts (nat_lt a.disk.slot 32) (nat_le (count_by (λ o. is_disk (λ e. e.slot == a.disk.slot) o) (objects_of c)) 1) (slot_own (objects_of c) (DiskRecord a.disk) v (disk_in c a.disk a.there)) in
    let one = count_one (λ o. is_disk (λ e. e.slot == a.disk.slot) o) (objects_of c) (DiskRecord a.disk) (DiskRecord b.disk) (leb-true (count_by (λ o. is_disk (λ e. e.slot == a.disk.slot) o) (objects_of c)) 1 own.1) (disk_in c a.disk a.there) (disk_in c b.disk b.there) (eq-eqb a.disk.slot a.disk.slot refl) (eq-eqb b.disk.slot a.disk.slot (sym slots)) in
    sym a.named ∙ ap name_of one ∙ b.named

not_false : (b : Bool) → not b ≡ false → b ≡ true
not_false true h = refl
not_false false h = absurd (false≢true (sym h))

-- two subdisks have no sector in common
pub clear : (c : Config) → IsValid c → (s t : Subdisk) → IsIn c.subdisks s → IsIn c.subdisks t → (s ≡ t → ⊥) → is_apart (strip_of c.disks s) (strip_of c.disks t) ≡ true
clear c v s t h k differ =
    or3 (not (slot_of c.disks s.disk == slot_of c.disks t.disk)) (nat_le (s.off + s.len) t.off) (nat_le (t.off + t.len) s.off)
    (λ a b d.
    let disk = slot_disk c v s t h k (eqb-true (slot_of c.disks s.disk) (slot_of c.disks t.disk) (not_false (slot_of c.disks s.disk == slot_of c.disks t.disk) a)) in
    let x = leb-false (s.off + s.len) t.off b in
    let y = leb-false (t.off + t.len) s.off d in
    let long = filled c v s h in
    let wide = filled c v t k in
    let once : (sector : ℕ) → HasSector s sector → HasSector t sector → ⊥ = (λ sector p q. differ (one_subdisk c v s t h k (valid_once (objects_of c) v s t (in_one (objects_of c) (SubdiskRecord s) (subdisk_in c s h)) (in_one (objects_of c) (SubdiskRecord t) (subdisk_in c t k)) disk sector p q))) in
    elim (cases_lt s.off t.off) [
      | inl less ↦ once t.off (record { from = omega (arith, less); below = x }) (record { from = omega arith; below = omega (arith, wide) })
      | inr ge ↦ once s.off (record { from = omega arith; below = omega (arith, long) }) (record { from = ge; below = y })
    ])

pub subdisk_short : (c : Config) → IsValid c → (s : Subdisk) → IsIn c.subdisks s → s.at + s.len < 2 ^ 41
subdisk_short c v s h =
    let parts = and4 (is_short s.off) (is_short s.len) (is_short s.at) (fits_word s.col) (numbers_are (objects_of c) (SubdiskRecord s) v (subdisk_in c s h)) in
    let long = ltb-true s.len (2 ^ 40) parts.1 in
    let at = ltb-true s.at (2 ^ 40) parts.2 in
    omega (arith, long, at)

pub disk_short : (c : Config) → IsValid c → (d : Disk) → IsIn c.disks d → d.publen < 2 ^ 40
disk_short c v d h = ltb-true d.publen (2 ^ 40) (and_parts (is_short d.publen) (fits_byte d.slot) (numbers_are (objects_of c) (DiskRecord d) v (disk_in c d h))).0

-- ---- a column

pub whole_column : (c : Config) → IsValid c → (p : Plex) → list_all (λ o. all_pieces_good (objects_of c) p o) (objects_of c) ≡ true → (col : ℕ) → IsWhole c p.name col
whole_column c v p good col = record { filled = filled c v; follows = follows; only = only } where
  follow : (s : Subdisk) → IsPiece c p.name col s → piece_follows (objects_of c) p.name s ≡ true
  follow s piece =
      let named = (and_parts (refers s.plex p.name) (s.col == col) piece.1).0 in
      let here = all_in (λ o. all_pieces_good (objects_of c) p o) (objects_of c) (SubdiskRecord s) good (subdisk_in c s piece.0) in
      (and_parts (nat_lt s.col p.ncol) (piece_follows (objects_of c) p.name s) (sym (cond-true (refers s.plex p.name) (nat_lt s.col p.ncol && piece_follows (objects_of c) p.name s) true named) ∙ here)).1

  parts : (s : Subdisk) → IsPiece c p.name col s → ((s.at == 0 || list_any (λ o. is_subdisk (λ t. is_in_column p.name s.col t && t.at + t.len == s.at) o) (objects_of c)) ≡ true) × (nat_le (count_by (λ o. is_subdisk (λ t. is_in_column p.name s.col t && t.at == s.at) o) (objects_of c)) 1 ≡ true)
  parts s piece = and_parts (s.at == 0 || list_any (λ o. is_subdisk (λ t. is_in_column p.name s.col t && t.at + t.len == s.at) o) (objects_of c)) (nat_le (count_by (λ o. is_subdisk (λ t. is_in_column p.name s.col t && t.at == s.at) o) (objects_of c)) 1) (follow s piece)

  number : (s : Subdisk) → IsPiece c p.name col s → s.col ≡ col
  number s piece = eqb-true s.col col (and_parts (refers s.plex p.name) (s.col == col) piece.1).1

  follows : (s : Subdisk) → IsPiece c p.name col s → 0 < s.at → (t : Subdisk) × IsPiece c p.name col t × (t.at + t.len ≡ s.at)
  follows s piece pos = elim (or_cases (s.at == 0) (list_any (λ o. is_subdisk (λ t. is_in_column p.name s.col t && t.at + t.len == s.at) o) (objects_of c)) (parts s piece).0) [
    | inl first ↦ let e = eqb-true s.at 0 first in absurd (omega (arith, e, pos))
    | inr any ↦
        let r = subdisk_any (λ t. is_in_column p.name s.col t && t.at + t.len == s.at) (objects_of c) any in
        let tests = and_parts (is_in_column p.name s.col r.0) (r.0.at + r.0.len == s.at) r.2 in
        (r.0, (subdisk_of c r.0 r.1, subst (λ k. is_in_column p.name k r.0 ≡ true) (number s piece) tests.0), eqb-true (r.0.at + r.0.len) s.at tests.1)
  ]

  only : (s t : Subdisk) → IsPiece c p.name col s → IsPiece c p.name col t → s.at ≡ t.at → s ≡ t
  only s t piece other same =
      same_subdisk s t (count_one (λ o. is_subdisk (λ t. is_in_column p.name s.col t && t.at == s.at) o) (objects_of c) (SubdiskRecord s) (SubdiskRecord t) (leb-true (count_by (λ o. is_subdisk (λ t. is_in_column p.name s.col t && t.at == s.at) o) (objects_of c)) 1 (parts s piece).1) (subdisk_in c s piece.0) (subdisk_in c t other.0)
      (and_from _ _ (subst (λ k. is_in_column p.name k s ≡ true) (sym (number s piece)) piece.1) (eq-eqb s.at s.at refl))
      (and_from _ _ (subst (λ k. is_in_column p.name k t ≡ true) (sym (number s piece)) other.1) (eq-eqb t.at s.at (sym same))))

end_step : (name : Word) (col end : ℕ) (o : Object) → end ≤ end_with name col end o
end_step name col end (SubdiskRecord s) = by (is_in_column name col s) where
  by : (b : Bool) → end ≤ cond b (max end (s.at + s.len)) end
  by true = omega arith
  by false = omega arith
end_step name col end o = omega arith

end_from : (name : Word) (col : ℕ) (os : List Object) (end : ℕ) → end ≤ fold (end_with name col) end os
end_from name col [] end = omega arith
end_from name col (o ∷ os) end = let a = end_step name col end o in let b = end_from name col os (end_with name col end o) in omega (arith, a, b)

end_reaches : (name : Word) (col : ℕ) (os : List Object) (end : ℕ) (s : Subdisk) → IsIn os (SubdiskRecord s) → is_in_column name col s ≡ true → s.at + s.len ≤ fold (end_with name col) end os
end_reaches name col [] end s h is = absurd h
end_reaches name col (o ∷ os) end s (inl h) is =
    let here : max end (s.at + s.len) ≡ end_with name col end o = sym (cond-true (is_in_column name col s) (max end (s.at + s.len)) end is) ∙ ap (λ x. end_with name col end x) h in
    let b = end_from name col os (end_with name col end o) in
    omega (arith, here, b)
end_reaches name col (o ∷ os) end s (inr h) is = end_reaches name col os (end_with name col end o) s h is

step_least : (name : Word) (col end m : ℕ) (o : Object) → end ≤ m → ((s : Subdisk) → SubdiskRecord s ≡ o → is_in_column name col s ≡ true → s.at + s.len ≤ m) → end_with name col end o ≤ m
step_least name col end m (SubdiskRecord s) le h = by (is_in_column name col s) (h s refl) where
  by : (b : Bool) → (b ≡ true → s.at + s.len ≤ m) → cond b (max end (s.at + s.len)) end ≤ m
  by true k = let x = k refl in omega (arith, x, le)
  by false k = le
step_least name col end m o le h = le

end_least : (name : Word) (col m : ℕ) (os : List Object) (end : ℕ) → end ≤ m → ((s : Subdisk) → IsIn os (SubdiskRecord s) → is_in_column name col s ≡ true → s.at + s.len ≤ m) → fold (end_with name col) end os ≤ m
end_least name col m [] end le h = le
end_least name col m (o ∷ os) end le h = end_least name col m os (end_with name col end o) (step_least name col end m o le (λ s e. h s (inl e))) (λ s k. h s (inr k))

pub column_end : (c : Config) (name : Word) (col : ℕ) → IsEnd c name col (extents.column_length (objects_of c) name col)
column_end c name col = record {
  reaches = λ s piece. end_reaches name col (objects_of c) 0 s (subdisk_in c s piece.0) piece.1;
  least = λ m h. end_least name col m (objects_of c) 0 (omega arith) (λ s k is. h s (subdisk_of c s k, is));
}

-- the strips of a column have its sectors together
pub column_sum : (c : Config) → IsValid c → (p : Plex) → list_all (λ o. all_pieces_good (objects_of c) p o) (objects_of c) ≡ true → (col : ℕ) →
    layout.column_length (strips_from (length c.subdisks) c p.name col 0) ≡ extents.column_length (objects_of c) p.name col
column_sum c v p good col =
    let sum = chain_sum (length c.subdisks) c p.name col 0 (extents.column_length (objects_of c) p.name col) (whole_column c v p good col) (column_end c p.name col) (λ s piece. inr (omega arith)) (omega arith) (count_by-le-length _ c.subdisks) in
    omega (arith, sum)

pub column_short : (c : Config) → IsValid c → (name : Word) (col : ℕ) → extents.column_length (objects_of c) name col < 2 ^ 42
column_short c v name col =
    let end = column_end c name col in
    let le = end.least (2 ^ 41) (λ s piece. let lt = subdisk_short c v s piece.0 in omega (arith, lt)) in
    omega (arith, le)
