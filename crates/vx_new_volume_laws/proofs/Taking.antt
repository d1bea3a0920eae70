-- What a plan takes of the free space: from each step what it takes and what stays, and how much that is.
use Rattle.std.proofs.Common.{◌≡◌, ℕ, ◌+◌, ◌-◌, ◌<◌, ◌≤◌, ◌^◌, ◌==◌, min, nat_le, nat_lt, Bool, true, false, cond, not, Option, Some, None, Result, Ok, Err, List, [], ◌∷◌, ◌++◌, refl, sym, ap, ◌∙◌, subst, inl, inr, arith}
use Rattle.std.specs.List.{filter, find}
use Rattle.std.specs.Str.{bytes_eq}
use Rattle.std.proofs.lemmas.Bool.{eqb-true, false_from_ne_true, leb-true, ltb-false}
use Rattle.vx_base.specs.Named.{Word}
use Rattle.vx_base.proofs.NamedLemmas.{bytes_eq_same}
use Rattle.vx_image.proofs.PlexMembers.{IsIn, in_either}
use Rattle.vx_space.specs.declared.extent.Extent.{Extent}
use Rattle.vx_space.specs.Extents.{between, left, taken, total}
use Rattle.vx_new_volumes.specs.declared.fault.PlanFault.{PlanFault}
use Rattle.vx_new_volumes.specs.declared.fault.PlanFault.TheVariants.{NoSpace}
use Rattle.vx_new_volumes.specs.Disks.{first_with, others, total_on}
use Rattle.vx_new_volumes.specs.Steps.{Taken, behind, gather, kept, place, place_on, spread}
use Rattle.vx_new_volume_laws.proofs.Behind.{AreOnce}
use Rattle.vx_new_volume_laws.proofs.Hits.{hits, hits_both, taken_filled, taken_left}

-- ---- sizes

-- the sectors of extents
abbrev pub size : List Extent → ℕ
size [] = 0
size (e ∷ es) = e.count + size es

pub size_both : (es fs : List Extent) → size (es ++ fs) ≡ size es + size fs
size_both [] fs = omega arith
size_both (e ∷ es) fs = let more = size_both es fs in omega (arith, more)

between_size : (k : Word) (a b n : ℕ) → b ≡ a + n → size (between k a b) ≡ n
between_size k a b n e = by (nat_lt a b) refl
  where
    by : (t : Bool) → nat_lt a b ≡ t → size (cond t (record { disk = k; start = a; count = b - a } ∷ []) []) ≡ n
    by true h = omega (arith, e)
    by false h = let le = ltb-false a b h in omega (arith, e, le)

taken_size : (k : Word) (count : ℕ) (es : List Extent) → size (taken k count es) ≡ min count (total k es)
taken_size k count [] = omega arith
taken_size k count (e ∷ es) = by (bytes_eq e.disk k) (taken_size k (count - min count e.count) es) (taken_size k count es)
  where
    by : (b : Bool) → size (taken k (count - min count e.count) es) ≡ min (count - min count e.count) (total k es) → size (taken k count es) ≡ min count (total k es)
        → size (cond b (between k e.start (e.start + min count e.count) ++ taken k (count - min count e.count) es) (taken k count es)) ≡ min count (cond b e.count 0 + total k es)
    by true cut all =
        let sum = size_both (between k e.start (e.start + min count e.count)) (taken k (count - min count e.count) es) in
        let first = between_size k e.start (e.start + min count e.count) (min count e.count) refl in
        omega (arith, cut, sum, first)
    by false cut all = omega (arith, all)

total_both : (m : Word) (es fs : List Extent) → total m (es ++ fs) ≡ total m es + total m fs
total_both m [] fs = omega arith
total_both m (e ∷ es) fs = let more = total_both m es fs in omega (arith, more)

between_other : (k m : Word) (a b : ℕ) → bytes_eq k m ≡ false → total m (between k a b) ≡ 0
between_other k m a b other = by (nat_lt a b)
  where
    by : (t : Bool) → total m (cond t (record { disk = k; start = a; count = b - a } ∷ []) []) ≡ 0
    by true = ap (λ (t : Bool). cond t (b - a) 0 + 0) other
    by false = refl

-- what stays on another disk
left_other : (k m : Word) (count : ℕ) (es : List Extent) → bytes_eq k m ≡ false → total m (left k count es) ≡ total m es
left_other k m count [] other = refl
left_other k m count (e ∷ es) other = by (bytes_eq e.disk k) refl (left_other k m (count - min count e.count) es other) (left_other k m count es other)
  where
    by : (b : Bool) → bytes_eq e.disk k ≡ b → total m (left k (count - min count e.count) es) ≡ total m es → total m (left k count es) ≡ total m es
        → total m (cond b (between k (e.start + min count e.count) (e.start + e.count) ++ left k (count - min count e.count) es) (e ∷ left k count es)) ≡ cond (bytes_eq e.disk m) e.count 0 + total m es
    by true same cut all =
        let sum = total_both m (between k (e.start + min count e.count) (e.start + e.count)) (left k (count - min count e.count) es) in
        let none = between_other k m (e.start + min count e.count) (e.start + e.count) other in
        let out : cond (bytes_eq e.disk m) e.count 0 ≡ 0 = ap (λ (w : Word). cond (bytes_eq w m) e.count 0) (bytes_eq_same e.disk k same) ∙ ap (λ (t : Bool). cond t e.count 0) other in
        omega (arith, sum, none, out, cut)
    by false same cut all = ap (λ (n : ℕ). cond (bytes_eq e.disk m) e.count 0 + n) all

differs : (k m : Word) → (k ≡ m → ⊥) → bytes_eq k m ≡ false
differs k m out = false_from_ne_true (bytes_eq k m) (λ h. out (bytes_eq_same k m h))

left_others : (k : Word) (ds : List Word) (count : ℕ) (es : List Extent) → ((v : Word) → IsIn ds v → k ≡ v → ⊥) → total_on ds (left k count es) ≡ total_on ds es
left_others k [] count es out = refl
left_others k (d ∷ ds) count es out = (λ i. left_other k d count es (differs k d (out d (inl refl))) i + left_others k ds count es (λ v there. out v (inr there)) i)

between_total : (k m : Word) (a b : ℕ) → total m (between k a b) ≤ cond (bytes_eq k m) (b - a) 0
between_total k m a b = by (nat_lt a b)
  where
    by : (t : Bool) → total m (cond t (record { disk = k; start = a; count = b - a } ∷ []) []) ≤ cond (bytes_eq k m) (b - a) 0
    by true = omega arith
    by false = omega arith

fewer : (b : Bool) (start part count : ℕ) → cond b (start + count - (start + part)) 0 ≤ cond b count 0
fewer true start part count = omega arith
fewer false start part count = omega arith

left_total : (m k : Word) (count : ℕ) (es : List Extent) → total m (left k count es) ≤ total m es
left_total m k count [] = omega arith
left_total m k count (e ∷ es) = by (bytes_eq e.disk k) refl (left_total m k (count - min count e.count) es) (left_total m k count es)
  where
    by : (b : Bool) → bytes_eq e.disk k ≡ b → total m (left k (count - min count e.count) es) ≤ total m es → total m (left k count es) ≤ total m es
        → total m (cond b (between k (e.start + min count e.count) (e.start + e.count) ++ left k (count - min count e.count) es) (e ∷ left k count es)) ≤ cond (bytes_eq e.disk m) e.count 0 + total m es
    by true same cut all =
        let sum = total_both m (between k (e.start + min count e.count) (e.start + e.count)) (left k (count - min count e.count) es) in
        let first = between_total k m (e.start + min count e.count) (e.start + e.count) in
        let less = fewer (bytes_eq k m) e.start (min count e.count) e.count in
        let own : cond (bytes_eq k m) e.count 0 ≡ cond (bytes_eq e.disk m) e.count 0 = ap (λ (w : Word). cond (bytes_eq w m) e.count 0) (sym (bytes_eq_same e.disk k same)) in
        omega (arith, sum, first, less, own, cut)
    by false same cut all = omega (arith, all)

-- each disk has fewer sectors than a number can say
abbrev pub Low : List Extent → Type 0
Low es = (d : Word) → total d es < 2 ^ 40

left_low : (k : Word) (count : ℕ) (es : List Extent) → Low es → Low (left k count es)
left_low k count es low d = let le = left_total d k count es in let lt = low d in omega (arith, le, lt)

-- ---- what is taken, and what stays

pub record Splits (free part rest : List Extent) : Type 0 where
  pub sectors : (d : Word) (x : ℕ) → hits d x part + hits d x rest ≡ hits d x free
  pub filled : (e : Extent) → IsIn part e → 0 < e.count

pub splits_none : (free : List Extent) → Splits free [] free
splits_none free = record { sectors = λ d x. zero_add (hits d x free); filled = λ e there. absurd there }
  where
    zero_add : (n : ℕ) → 0 + n ≡ n
    zero_add n = omega arith

pub splits_then : (free one mid two rest : List Extent) → Splits free one mid → Splits mid two rest → Splits free (one ++ two) rest
splits_then free one mid two rest a b = record {
  sectors = λ d x. let p = a.sectors d x in let q = b.sectors d x in let sum = hits_both d x one two in omega (arith, p, q, sum);
  filled = λ e there. elim (in_either one two e there) [ inl h ↦ a.filled e h | inr h ↦ b.filled e h ];
}

taken_splits : (k : Word) (count : ℕ) (free : List Extent) → Splits free (taken k count free) (left k count free)
taken_splits k count free = record { sectors = λ d x. taken_left k d x count free; filled = λ e there. (taken_filled k count free e there).0 }

-- a step from disks that differ: it takes so, of so many sectors, and the disks that it leaves differ still
pub record Steps {A : Type 0} (P : A → Type 0) (f : A → List Extent) (free : List Extent) (t : Taken A) : Type 0 where
  pub splits : Splits free (f t.part) t.free
  pub holds : P t.part
  pub once : AreOnce t.disks
  pub low : Low t.free

-- ---- one disk

once_filter : (p : Word → Bool) (ds : List Word) → AreOnce ds → AreOnce (filter p ds) × ((v : Word) → IsIn (filter p ds) v → IsIn ds v)
once_filter p [] once = (tt, λ v there. there)
once_filter p (d ∷ ds) once = by (p d) (once_filter p ds once.1)
  where
    by : (b : Bool) → AreOnce (filter p ds) × ((v : Word) → IsIn (filter p ds) v → IsIn ds v) → AreOnce (cond b (d ∷ filter p ds) (filter p ds)) × ((v : Word) → IsIn (cond b (d ∷ filter p ds) (filter p ds)) v → IsIn (d ∷ ds) v)
    by true rest = (((λ v there same. once.0 v (rest.1 v there) same), rest.0), into)
      where
        into : (v : Word) → IsIn (d ∷ filter p ds) v → IsIn (d ∷ ds) v
        into v (inl same) = inl same
        into v (inr there) = inr (rest.1 v there)
    by false rest = (rest.0, λ v there. inr (rest.1 v there))

pub filtered_once : (p : Word → Bool) (ds : List Word) → AreOnce ds → AreOnce (filter p ds)
filtered_once p ds once = (once_filter p ds once).0

found_passes : (p : Word → Bool) (ds : List Word) (d : Word) → find p ds ≡ Some d → p d ≡ true
found_passes p [] d e = cc
found_passes p (x ∷ xs) d e = by (p x) refl (found_passes p xs d) e
  where
    by : (b : Bool) → p x ≡ b → (find p xs ≡ Some d → p d ≡ true) → cond b (Some x) (find p xs) ≡ Some d → p d ≡ true
    by true is more found = let same : x ≡ d = cc in subst (λ (w : Word). p w ≡ true) same is
    by false is more found = more found

pub same_taken : {A : Type 0} (a b : Taken A) → ◌≡◌ {A = Result (Taken A) PlanFault} (Ok a) (Ok b) → a ≡ b
same_taken a b e = cc

-- so many sectors, which one disk has
abbrev pub IsSmall : ℕ → List Extent → Type 0
IsSmall need es = (size es ≡ need) × (need < 2 ^ 40)

pub place_takes : (need : ℕ) (ds : List Word) (free : List Extent) (t : Taken (List Extent)) → AreOnce ds → Low free → place need ds free ≡ Ok t → Steps (IsSmall need) (λ es. es) free t
place_takes need ds free t once low e = by (first_with need ds free) refl e
  where
    by : (o : Option Word) → first_with need ds free ≡ o → place_on o need ds free ≡ Ok t → Steps (IsSmall need) (λ es. es) free t
    by None is h = cc
    by (Some d) is h =
        let own : Taken (List Extent) = record { part = taken d need free; disks = others d ds; free = left d need free } in
        let long = leb-true need (total d free) (found_passes (λ w. nat_le need (total w free)) ds d is) in
        let count = taken_size d need free in
        let lt = low d in
        subst (Steps (IsSmall need) (λ es. es) free) (same_taken own t h)
        (record { splits = taken_splits d need free; holds = (omega (arith, long, count), omega (arith, long, lt)); once = filtered_once (λ w. not (bytes_eq w d)) ds once; low = left_low d need free low })

-- ---- several disks

gather_disks : (need : ℕ) (ds : List Word) (free : List Extent) (v : Word) → IsIn (gather need ds free).disks v → IsIn ds v
gather_disks need [] free v there = there
gather_disks need (d ∷ ds) free v there =
    by (min need (total d free) == 0) (gather_disks need ds free v) (gather_disks (need - min need (total d free)) ds (left d (min need (total d free)) free) v) there
  where
    by : (b : Bool) → (IsIn (gather need ds free).disks v → IsIn ds v) → (IsIn (gather (need - min need (total d free)) ds (left d (min need (total d free)) free)).disks v → IsIn ds v) → IsIn (cond b (kept d (gather need ds free)) (behind (taken d (min need (total d free)) free) (gather (need - min need (total d free)) ds (left d (min need (total d free)) free)))).disks v → IsIn (d ∷ ds) v
    by true all cut (inl same) = inl same
    by true all cut (inr there) = inr (all there)
    by false all cut there = inr (cut there)

gather_takes : (need : ℕ) (ds : List Word) (free : List Extent) → AreOnce ds → Low free → Steps (λ es. size es ≡ min need (total_on ds free)) (λ es. es) free (gather need ds free)
gather_takes need [] free once low = record { splits = splits_none free; holds = omega arith; once = tt; low = low }
gather_takes need (d ∷ ds) free once low =
    by (min need (total d free) == 0) refl (gather_takes need ds free once.1 low) (gather_takes (need - min need (total d free)) ds (left d (min need (total d free)) free) once.1 (left_low d (min need (total d free)) free low))
  where
    by : (b : Bool) → (min need (total d free) == 0) ≡ b → Steps (λ es. size es ≡ min need (total_on ds free)) (λ es. es) free (gather need ds free)
        → Steps (λ es. size es ≡ min (need - min need (total d free)) (total_on ds (left d (min need (total d free)) free))) (λ es. es) (left d (min need (total d free)) free) (gather (need - min need (total d free)) ds (left d (min need (total d free)) free)) → Steps (λ es. size es ≡ min need (total d free + total_on ds free)) (λ es. es) free (cond b (kept d (gather need ds free)) (behind (taken d (min need (total d free)) free) (gather (need - min need (total d free)) ds (left d (min need (total d free)) free))))
    by true is rest cut =
        let none = eqb-true (min need (total d free)) 0 is in
        let count = rest.holds in
        record { splits = rest.splits; holds = omega (arith, none, count); once = ((λ v there same. once.0 v (gather_disks need ds free v there) same), rest.once); low = rest.low }
    by false is all rest =
        let first = taken_size d (min need (total d free)) free in
        let count = rest.holds in
        let same = left_others d ds (min need (total d free)) free once.0 in
        let sum = size_both (taken d (min need (total d free)) free) (gather (need - min need (total d free)) ds (left d (min need (total d free)) free)).part in
        record {
          splits = splits_then free (taken d (min need (total d free)) free) (left d (min need (total d free)) free) (gather (need - min need (total d free)) ds (left d (min need (total d free)) free)).part
              (gather (need - min need (total d free)) ds (left d (min need (total d free)) free)).free (taken_splits d (min need (total d free)) free) rest.splits;
          holds = omega (arith, first, count, same, sum);
          once = rest.once;
          low = rest.low;
        }

pub spread_takes : (need : ℕ) (ds : List Word) (free : List Extent) (t : Taken (List Extent)) → AreOnce ds → Low free → spread need ds free ≡ Ok t → Steps (λ es. size es ≡ need) (λ es. es) free t
spread_takes need ds free t once low e = by (nat_lt (total_on ds free) need) refl e
  where
    by : (b : Bool) → nat_lt (total_on ds free) need ≡ b → cond b (Err (NoSpace (total_on ds free) need)) (Ok (gather need ds free)) ≡ Ok t → Steps (λ es. size es ≡ need) (λ es. es) free t
    by true is h = cc
    by false is h =
        let le = ltb-false (total_on ds free) need is in
        let own = gather_takes need ds free once low in
        let count = own.holds in
        subst (Steps (λ es. size es ≡ need) (λ es. es) free) (same_taken (gather need ds free) t h) (record { splits = own.splits; holds = omega (arith, count, le); once = own.once; low = own.low })
