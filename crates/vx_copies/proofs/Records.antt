-- The masks of a commit's toggles, the counts that rose, and all disks of an attempt together.
use Rattle.std.proofs.Common.{◌≡◌, ℕ, ◌+◌, ◌≤◌, Bool, true, false, List, [], ◌∷◌, length, refl, sym, ap, ◌∙◌, arith}
use Rattle.std.specs.Prelude.{◌&&◌, ◌||◌, ◌==◌, IsTrue}
use Rattle.vx_base.specs.Counts.{Rose}
use Rattle.vx_mask.specs.Mask.{has}
use Rattle.vx_piece.specs.Seen.{Seen, Keeps}
use Rattle.vx_copies.specs.Lists.{Each, AllOf}
use Rattle.vx_copies.specs.Disks.{DiskSeen, Drops, CommitGoes, good_count, is_good_slot}
use Rattle.vx_copies.specs.Written.{Recorded, Touches, IsMaskOf, IsQuiet, CarriesIfGood, sectors_of, WritesJust}
use Rattle.vx_copies.specs.Steps.{HalfPut, HalfDone, TogglePut, ToggleDone}
use Rattle.vx_copies.proofs.Touches.{touches_none, half_touches, both_touch, writes_once, carries}
use Rattle.vx_copies.proofs.StepLaws.{each_refl, each_then, each_map, each_both, each_from}
use Rattle.vx_copies.proofs.GoodCounts.{same_count}

-- a disk keeps its slot, and is dropped by a fault alone
pub record Fades (a b : DiskSeen) : Type 0 where
  pub slot : b.slot ≡ a.slot
  pub kept : Keeps a.seen b.seen
  pub good : Drops a.good b.good a.seen b.seen

pub goes_fade : (f l : ℕ) (text : List ℕ) (a b : DiskSeen) → CommitGoes f l text a b → Fades a b
goes_fade f l text a b is = record { slot = is.slot; kept = is.kept; good = is.good }

rose_later : (x y z : ℕ) → y ≤ z → Rose x y → Rose x z
rose_later x y z le is = let r : Rose x z = omega (arith, is, le) in r

rose_before : (x y z : ℕ) → x ≤ y → Rose y z → Rose x z
rose_before x y z le is = let r : Rose x z = omega (arith, is, le) in r

-- a slot that is good was good
and_or : (x y u v : Bool) → (IsTrue y → IsTrue x) → (v ≡ true → u ≡ true) → (slot : Bool) → ((y && slot) || v) ≡ true → ((x && slot) || u) ≡ true
and_or true y u v was rest true is = refl
and_or true true u v was rest false is = rest is
and_or true false u v was rest false is = rest is
and_or false true u v was rest s is = let bad = was refl in cc
and_or false false u v was rest s is = rest is

was_good : (x y : Bool) (a b : Seen) → Drops x y a b → IsTrue y → IsTrue x
was_good x true a b d is = d
was_good x false a b d is = cc

pub fades_good : (a b : DiskSeen) → Fades a b → IsTrue b.good → IsTrue a.good
fades_good a b is good = was_good a.good b.good a.seen b.seen is.good good

slot_was : (slot : ℕ) (hs bs : List DiskSeen) → Each Fades hs bs → is_good_slot slot bs ≡ true → is_good_slot slot hs ≡ true
slot_was slot [] [] fades is = is
slot_was slot [] (b ∷ bs) fades is = absurd fades
slot_was slot (a ∷ hs) [] fades is = absurd fades
slot_was slot (a ∷ hs) (b ∷ bs) fades is = and_or a.good b.good (is_good_slot slot hs) (is_good_slot slot bs) (was_good a.good b.good a.seen b.seen fades.0.good) (slot_was slot hs bs fades.1) (a.slot == slot) (ap (λ n. (b.good && n == slot) || is_good_slot slot bs) (sym fades.0.slot) ∙ is)

abbrev Lacks : ℕ → DiskSeen → DiskSeen → Type 0
Lacks m a b = IsTrue a.good → has m a.slot ≡ false → Rose a.seen.faults b.seen.faults

lacks_one : (m : ℕ) (a b c : DiskSeen) → Fades a b → Lacks m b c × Fades b c → Lacks m a c
lacks_one m a b c p q good out = by a.good b.good p.good good refl
  where
    by : (x y : Bool) → Drops x y a.seen b.seen → IsTrue x → b.good ≡ y → Rose a.seen.faults c.seen.faults
    by true true d is e = rose_before a.seen.faults b.seen.faults c.seen.faults (let k = p.kept.faults in k) (q.0 e (ap (has m) p.slot ∙ out))
    by true false d is e = rose_later a.seen.faults b.seen.faults c.seen.faults (let k = q.1.kept.faults in k) d
    by false y d is e = cc

-- the mask of an attempt is one of the whole call
pub mask_before : (fs hs bs : List DiskSeen) → Each Fades fs hs → Each Fades hs bs → (m : ℕ) → IsMaskOf hs bs m → IsMaskOf fs bs m
mask_before fs hs bs p q m is = record { good = λ slot e. slot_was slot fs hs p (is.good slot e); lacks = each_then Fades (λ b c. Lacks m b c × Fades b c) (Lacks m) (lacks_one m) fs hs bs p (each_both (Lacks m) Fades hs bs is.lacks q) }

pub mask_then : (fs hs bs : List DiskSeen) → Each Fades hs bs → (m : ℕ) → IsMaskOf fs hs m → IsMaskOf fs bs m
mask_then fs hs bs q m is = record { good = is.good; lacks = each_then (Lacks m) Fades (Lacks m) (λ a b c lacks fades good out. rose_later a.seen.faults b.seen.faults c.seen.faults (let k = fades.kept.faults in k) (lacks good out)) fs hs bs is.lacks q }

pub mask_of : (m : ℕ) (hs bs : List DiskSeen) → Each Fades hs bs → ((slot : ℕ) → has m slot ≡ is_good_slot slot hs) → AllOf (λ h. IsTrue h.good → has m h.slot ≡ true) hs → IsMaskOf hs bs m
mask_of m hs bs fades names named = record { good = λ slot is. sym (names slot) ∙ is; lacks = each_map _ (Lacks m) (λ a b is good out. let there = is.0 good in cc) hs bs (each_from _ Fades hs bs named fades) }

-- where no count rose to the end, none rose before
pub quiet_before : (fs hs bs : List DiskSeen) → Each Fades fs hs → Each Fades hs bs → Each IsQuiet fs bs → Each IsQuiet fs hs
quiet_before [] [] [] p q r = tt
quiet_before [] [] (c ∷ bs) p q r = absurd q
quiet_before [] (b ∷ hs) bs p q r = absurd p
quiet_before (a ∷ fs) [] bs p q r = absurd p
quiet_before (a ∷ fs) (b ∷ hs) [] p q r = absurd q
quiet_before (a ∷ fs) (b ∷ hs) (c ∷ bs) p q r = (λ rose. r.0 (rose_later a.seen.faults b.seen.faults c.seen.faults (let k = q.0.kept.faults in k) rose), quiet_before fs hs bs p.1 q.1 r.1)

pub quiet_after : (fs hs bs : List DiskSeen) → Each Fades fs hs → Each Fades hs bs → Each IsQuiet fs bs → Each IsQuiet hs bs
quiet_after [] [] [] p q r = tt
quiet_after [] [] (c ∷ bs) p q r = absurd q
quiet_after [] (b ∷ hs) bs p q r = absurd p
quiet_after (a ∷ fs) [] bs p q r = absurd p
quiet_after (a ∷ fs) (b ∷ hs) [] p q r = absurd q
quiet_after (a ∷ fs) (b ∷ hs) (c ∷ bs) p q r = (λ rose. r.0 (rose_before a.seen.faults b.seen.faults c.seen.faults (let k = p.0.kept.faults in k) rose), quiet_after fs hs bs p.1 q.1 r.1)

-- and no disk was dropped
quiet_one : (a b : DiskSeen) → Fades a b × IsQuiet a b → b.good ≡ a.good
quiet_one a b is = by a.good b.good is.0.good
  where
    by : (x y : Bool) → Drops x y a.seen b.seen → y ≡ x
    by true true d = refl
    by false false d = refl
    by true false d = absurd (is.1 d)
    by false true d = cc

pub quiet_count : (fs bs : List DiskSeen) → Each Fades fs bs → Each IsQuiet fs bs → good_count bs ≡ good_count fs
quiet_count fs bs p q = same_count fs bs (each_map _ (λ a b. b.good ≡ a.good) quiet_one fs bs (each_both Fades IsQuiet fs bs p q))

-- all disks of an attempt
pub all_half_touch : (s : ℕ) (text : List ℕ) (M : ℕ → Type 0) (hs bs : List DiskSeen) → Each (HalfPut text) hs bs → Each (Touches s s text M) hs bs
all_half_touch s text M hs bs p = each_map (HalfPut text) (Touches s s text M) (half_touches s text M) hs bs p

module _ (s : ℕ) (text : List ℕ) (M : ℕ → Type 0) (m : ℕ) (is_mask : M m) (fits : length text ≤ 522240) where
  pub all_touch : (hs ms bs : List DiskSeen) → Each (HalfDone text) hs ms → Each (TogglePut s m text) ms bs → Each (Touches s s text M) hs bs
  all_touch hs ms bs p q = each_then (HalfDone text) (TogglePut s m text) (Touches s s text M) (both_touch s text M m is_mask fits) hs ms bs p q

  pub all_once : (hs ms bs : List DiskSeen) → Each (HalfDone text) hs ms → Each (ToggleDone s m text) ms bs → Each (WritesJust (sectors_of text)) hs bs
  all_once hs ms bs p q = each_then (HalfDone text) (ToggleDone s m text) (WritesJust (sectors_of text)) (writes_once s text M m is_mask fits) hs ms bs p q

  pub all_carry : (hs ms bs : List DiskSeen) → Each (HalfDone text) hs ms → Each (ToggleDone s m text) ms bs → AllOf (CarriesIfGood s m text) bs
  all_carry [] [] [] p q = tt
  all_carry [] [] (c ∷ bs) p q = absurd q
  all_carry [] (b ∷ ms) bs p q = absurd p
  all_carry (a ∷ hs) [] bs p q = absurd p
  all_carry (a ∷ hs) (b ∷ ms) [] p q = absurd q
  all_carry (a ∷ hs) (b ∷ ms) (c ∷ bs) p q = (carries s text M m is_mask fits a b c p.0 q.0, all_carry hs ms bs p.1 q.1)

-- no attempt was made
pub none_recorded : (n : ℕ) (text : List ℕ) (hs : List DiskSeen) → Recorded (n + 1) n text hs hs
none_recorded n text hs = record { touches = each_refl _ (touches_none (n + 1) n text (IsMaskOf hs hs)) hs; once = λ quiet. omega arith }
