-- The numbers of a plan are small: no disk has 2^40 free sectors.
use Rattle.std.proofs.Common.{◌≡◌, ℕ, ◌+◌, ◌-◌, ◌*◌, ◌<◌, ◌≤◌, ◌^◌, ◌==◌, ◌&&◌, ◌||◌, max, nat_le, nat_lt, Bool, true, false, cond, not, List, [], ◌∷◌, refl, sym, ◌∙◌, subst, inl, inr, arith}
use Rattle.std.specs.List.{list_any}
use Rattle.std.specs.Str.{bytes_eq}
use Rattle.std.proofs.lemmas.Bool.{and_from, and_parts, eqb-true, false≢true, le-leb, leb-true, lt-ltb, ltb-true, or_cases}
use Rattle.vx_base.specs.Named.{Word}
use Rattle.vx_base.proofs.NamedLemmas.{bytes_eq_same}
use Rattle.vx_block.specs.Geometry.{is_geometry, is_region_size}
use Rattle.vx_config_parts.specs.declared.object.Object.TheVariants.{DiskRecord}
use Rattle.vx_config_parts.specs.Objects.{comes_before}
use Rattle.vx_rules.proofs.NameOrder.{before_itself}
use Rattle.vx_rules.specs.Limits.{fits_byte, is_short}
use Rattle.vx_objects.specs.declared.config.Config.{Config}
use Rattle.vx_objects.specs.Config.{objects_of}
use Rattle.vx_image.proofs.PlexMembers.{IsIn, any_in, disk_in, in_any}
use Rattle.vx_image.proofs.Plexes.{config_valid}
use Rattle.vx_image.proofs.Valid.{numbers_are}
use Rattle.vx_space.specs.declared.extent.Extent.{Extent}
use Rattle.vx_space.specs.Disks.{is_good}
use Rattle.vx_space.specs.Extents.{are_in_order, comes_behind, has_sector, next_is_behind, total}
use Rattle.vx_space.specs.Free.{AreFree, covers, has_public}
use Rattle.vx_new_volume_laws.proofs.Frees.{all_behind, behind_cases, same_eq}
use Rattle.vx_new_volume_laws.proofs.Taking.{Low}

-- ---- lengths

one_size : (n k : ℕ) → (n == k) ≡ true → k ≤ 2048 → n ≤ 2048
one_size n k e le = let same = eqb-true n k e in omega (arith, same, le)

pub region_low : (n : ℕ) → is_region_size n ≡ true → n ≤ 2048
region_low n h = elim (or_cases (n == 32 || n == 64 || n == 128 || n == 256 || n == 512 || n == 1024) (n == 2048) h) [
  | inr e ↦ one_size n 2048 e (omega arith)
  | inl h ↦ elim (or_cases (n == 32 || n == 64 || n == 128 || n == 256 || n == 512) (n == 1024) h) [
    | inr e ↦ one_size n 1024 e (omega arith)
    | inl h ↦ elim (or_cases (n == 32 || n == 64 || n == 128 || n == 256) (n == 512) h) [
      | inr e ↦ one_size n 512 e (omega arith)
      | inl h ↦ elim (or_cases (n == 32 || n == 64 || n == 128) (n == 256) h) [
        | inr e ↦ one_size n 256 e (omega arith)
        | inl h ↦ elim (or_cases (n == 32 || n == 64) (n == 128) h) [
          | inr e ↦ one_size n 128 e (omega arith)
          | inl h ↦ elim (or_cases (n == 32) (n == 64) h) [
            | inr e ↦ one_size n 64 e (omega arith)
            | inl e ↦ one_size n 32 e (omega arith)
          ]
        ]
      ]
    ]
  ]
]

pub length_low : (length region : ℕ) → is_geometry length region ≡ true → length < 2 ^ 40
length_low length region h =
    let a = and_parts (is_region_size region && nat_lt 0 length) (nat_le length (262144 * region)) h in
    let most = region_low region (and_parts (is_region_size region) (nat_lt 0 length) a.0).0 in
    let long = leb-true length (262144 * region) a.1 in
    omega (arith, most, long)

-- ---- the free sectors of a disk

-- the extents of a disk are those from a sector on, and end by another
record Lie (d : Word) (low end : ℕ) (es : List Extent) : Type 0 where
  from : (e : Extent) → IsIn es e → e.disk ≡ d → low ≤ e.start
  to : (e : Extent) → IsIn es e → e.disk ≡ d → e.start + e.count ≤ end

on_later_disk : (d : Word) (e f : Extent) → comes_behind e f ≡ true → e.disk ≡ d → f.disk ≡ d → e.start + e.count < f.start
on_later_disk d e f h own other = elim (behind_cases e f h) [
  | inl before ↦ absurd (false≢true (sym (before_itself d) ∙ subst (λ (w : Word). comes_before d w ≡ true) other (subst (λ (w : Word). comes_before w f.disk ≡ true) own before)))
  | inr behind ↦ behind.1
]

low_total : (d : Word) (low end : ℕ) (es : List Extent) → are_in_order es ≡ true → Lie d low end es → total d es + low ≤ max end low
low_total d low end [] order lie = omega arith
low_total d low end (e ∷ es) order lie = by (bytes_eq e.disk d) refl (λ more. low_total d (e.start + e.count) end es parts.1 more) (low_total d low end es parts.1 (record { from = λ f there. lie.from f (inr there); to = λ f there. lie.to f (inr there) }))
  where
    first : (nat_lt 0 e.count ≡ true) × ((next_is_behind e es && are_in_order es) ≡ true)
    first = and_parts (nat_lt 0 e.count) (next_is_behind e es && are_in_order es) order

    parts : (next_is_behind e es ≡ true) × (are_in_order es ≡ true)
    parts = and_parts (next_is_behind e es) (are_in_order es) first.1

    by : (b : Bool) → bytes_eq e.disk d ≡ b → (Lie d (e.start + e.count) end es → total d es + (e.start + e.count) ≤ max end (e.start + e.count)) → total d es + low ≤ max end low → cond b e.count 0 + total d es + low ≤ max end low
    by true is cut all =
        let same = bytes_eq_same e.disk d is in
        let begin = lie.from e (inl refl) same in
        let stop = lie.to e (inl refl) same in
        let rest = cut (record {
          from = λ f there other. let lt = on_later_disk d e f (all_behind e es parts.0 parts.1 f there) same other in omega (arith, lt);
          to = λ f there. lie.to f (inr there);
        }) in
        omega (arith, begin, stop, rest)
    by false is cut all = omega (arith, all)

all_filled : (es : List Extent) → are_in_order es ≡ true → (e : Extent) → IsIn es e → 0 < e.count
all_filled [] order e there = absurd there
all_filled (f ∷ es) order e (inl same) = subst (λ (x : Extent). 0 < x.count) (sym same) (ltb-true 0 f.count (and_parts (nat_lt 0 f.count) (next_is_behind f es && are_in_order es) order).0)
all_filled (f ∷ es) order e (inr there) = all_filled es (and_parts (next_is_behind f es) (are_in_order es) (and_parts (nat_lt 0 f.count) (next_is_behind f es && are_in_order es) order).1).1 e there

module _ (c : Config) (good : ℕ) (free : List Extent) (are : AreFree c good free) where
  -- the free extents end by the ends of their disks, which are below 2^40
  ends_low : (e : Extent) → IsIn free e → e.start + e.count < 2 ^ 40
  ends_low e there =
      let some = all_filled free are.order e there in
      let has : has_sector e.disk (e.start + e.count - 1) e ≡ true = and_from (bytes_eq e.disk e.disk) (nat_le e.start (e.start + e.count - 1) && nat_lt (e.start + e.count - 1) (e.start + e.count)) (same_eq e.disk e.disk refl)
      (and_from (nat_le e.start (e.start + e.count - 1)) (nat_lt (e.start + e.count - 1) (e.start + e.count)) (le-leb e.start (e.start + e.count - 1) (omega (arith, some))) (lt-ltb (e.start + e.count - 1) (e.start + e.count) (omega (arith, some)))) in
      let listed = in_any (has_sector e.disk (e.start + e.count - 1)) free e there has in
      let is = sym (are.sectors e.disk (e.start + e.count - 1)) ∙ listed in
      let parts = and_parts (list_any (λ d. is_good good d && has_public e.disk (e.start + e.count - 1) d) c.disks) (not (list_any (covers e.disk (e.start + e.count - 1)) c.subdisks)) is in
      let r = any_in (λ d. is_good good d && has_public e.disk (e.start + e.count - 1) d) c.disks parts.0 in
      let public = (and_parts (is_good good r.0) (has_public e.disk (e.start + e.count - 1) r.0) r.2).1 in
      let below = ltb-true (e.start + e.count - 1) r.0.publen (and_parts (bytes_eq r.0.name e.disk) (nat_lt (e.start + e.count - 1) r.0.publen) public).1 in
      let fits = numbers_are (objects_of c) (DiskRecord r.0) (config_valid c) (disk_in c r.0 r.1) in
      let short = ltb-true r.0.publen (2 ^ 40) (and_parts (is_short r.0.publen) (fits_byte r.0.slot) fits).0 in
      omega (arith, some, below, short)

  pub free_low : Low free
  free_low d =
      let sum = low_total d 0 (2 ^ 40 - 1) free are.order (record { from = λ e there same. omega arith; to = λ e there same. let lt = ends_low e there in omega (arith, lt) }) in
      omega (arith, sum)
