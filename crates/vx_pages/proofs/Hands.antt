-- How many sectors calls one after another hand to the pieces of a page.
use Rattle.std.proofs.Common.{◌≡◌, ℕ, zero, suc, ◌+◌, ◌<◌, ◌≤◌, Bool, true, false, refl, sym, ◌∙◌, ap, subst, arith, List, length, Result, Ok, Err}
use Rattle.std.specs.Prelude.{not, IsTrue, OnOk, ◌↔◌}
use Rattle.std.specs.Str.{bytes_eq}
use Rattle.std.proofs.lemmas.Slice.Eq.{bytes_eq-Decides}
use Rattle.vx_base.specs.Counts.{later_count}
use Rattle.vx_sector.specs.Fields.{zeros}
use Rattle.vx_mask.specs.Mask.{has}
use Rattle.vx_marks.specs.declared.marker.MarkFault.{MarkFault}
use Rattle.vx_pages.specs.Counts.{with_more}
use Rattle.vx_pages.specs.Sector.{Copies, SectorHands, SectorSeen, Turns, copy_of}
use Rattle.vx_pages.specs.Page.{AreAll, EachSector}
use Rattle.vx_pages.specs.Writes.{IsShut, PageHands, is_open, once_if, writes_of}
use Rattle.vx_pages.proofs.Whole.{each_then}

-- ---- a sector

-- no call was made
pub none_handed : (there : Bool) (c : Copies) (result : Result (Unit {0}) MarkFault) → there ≡ false → result ≡ Ok tt → SectorHands (once_if there) result c c
none_handed false c (Ok u) is ok = record { each = λ k. record { writes = refl; reads = refl }; idle = λ e. refl }
none_handed false c (Err fault) is ok = cc
none_handed true c result is ok = cc

pub once_handed : (there : Bool) (a b : Copies) (result : Result (Unit {0}) MarkFault) → there ≡ true → SectorHands 1 result a b → SectorHands (once_if there) result a b
once_handed true a b result is h = h
once_handed false a b result is h = cc

-- nothing is loose in bytes that are all zero
pub closed : (bytes : List ℕ) → bytes ≡ zeros 512 → not (bytes_eq bytes (zeros 512)) ≡ false
closed bytes is = ap not ((bytes_eq-Decides bytes (zeros 512)).1 is)

pub opened : (bytes : List ℕ) (none : Bool) → length bytes ≡ 512 → (IsTrue none ↔ (bytes ≡ zeros (length bytes))) → none ≡ false → not (bytes_eq bytes (zeros 512)) ≡ true
opened bytes none size tells is = by_test (bytes_eq bytes (zeros 512)) (bytes_eq-Decides bytes (zeros 512)).0
  where
    by_test : (same : Bool) → (same ≡ true → bytes ≡ zeros 512) → not same ≡ true
    by_test false eq = refl
    by_test true eq = let e : none ≡ true = tells.1 (eq refl ∙ sym (ap zeros size)) in cc

-- ---- one call after another

more_after : (n m count : ℕ) → with_more m (with_more n count) ≡ with_more (n + m) count
more_after n zero count = let e : n ≡ n + 0 = omega arith in ap (λ (k : ℕ). with_more k count) e
more_after n (suc m) count =
    let e : suc (n + m) ≡ n + suc m = omega arith in
    let f : with_more (suc m) (with_more n count) ≡ with_more (suc (n + m)) count = ap (λ (k : ℕ). later_count k 1) (more_after n m count) in
    f ∙ ap (λ (k : ℕ). with_more k count) e

-- each of them counts at most one
at_most : (n count : ℕ) → with_more n count ≤ count + n
at_most zero count = omega arith
at_most (suc n) count = let e = at_most n count in omega (arith, e)

hands_then : (n m : ℕ) (result : Result (Unit {0}) MarkFault) → (a b c : Copies) → SectorHands {T = Unit {0}} n (Ok tt) a b → SectorHands m result b c → SectorHands (n + m) result a c
hands_then n m (Ok u) a b c one two =
    record {
      each = λ k. record { writes = (two.each k).writes ∙ ap (λ (w : ℕ). with_more m w) (one.each k).writes ∙ more_after n m _; reads = (two.each k).reads ∙ (one.each k).reads };
      idle = λ e. two.idle (omega (arith, e)) ∙ one.idle (omega (arith, e));
    }
hands_then n m (Err fault) a b c one two =
    record {
      each = λ k. record { writes = let e = (one.each k).writes in let f = (two.each k).writes in let g = at_most n (copy_of a k).writes in omega (arith, e, f, g); reads = (two.each k).reads ∙ (one.each k).reads };
      idle = λ e. two.idle (omega (arith, e)) ∙ one.idle (omega (arith, e));
    }

-- no more calls than those that failed
hands_fewer : (n m : ℕ) (fault : MarkFault) (a b : Copies) → SectorHands {T = Unit {0}} n (Err fault) a b → SectorHands {T = Unit {0}} (n + m) (Err fault) a b
hands_fewer n m fault a b h =
    record { each = λ k. record { writes = let e = (h.each k).writes in omega (arith, e); reads = (h.each k).reads }; idle = λ e. h.idle (omega (arith, e)) }

pub hands_may : (n : ℕ) (fault : MarkFault) (a b : Copies) → SectorHands {T = Unit {0}} n (Ok tt) a b → SectorHands {T = Unit {0}} n (Err fault) a b
hands_may n fault a b h =
    record { each = λ k. record { writes = let e = (h.each k).writes in let f = at_most n (copy_of a k).writes in omega (arith, e, f); reads = (h.each k).reads }; idle = h.idle }

pub hands_none : (n : ℕ) (fault : MarkFault) (a : Copies) → SectorHands {T = Unit {0}} n (Err fault) a a
hands_none n fault a = record { each = λ k. record { writes = omega arith; reads = refl }; idle = λ e. refl }

-- ---- the sectors of a page

-- memory alone was changed after the calls
pub turned_hands : (fact : ℕ → ℕ → Bool → Bool → Bool → Bool → Type 0) (writes : ℕ → SectorSeen → ℕ) (result : Result (Unit {0}) MarkFault) (xs ys zs : List SectorSeen) → PageHands writes result xs ys →
    EachSector (λ map. Turns (fact map)) ys zs → PageHands writes result xs zs
turned_hands fact writes result xs ys zs first last =
    each_then (λ m a b. SectorHands (writes m a) result a.copies b.copies) (λ m. Turns (fact m)) (λ m a b. SectorHands (writes m a) result a.copies b.copies) xs ys zs
    (λ m x y z one two. subst (λ (c : Copies). SectorHands (writes m x) result x.copies c) (sym two.copies) one) first last

-- what was open is written again, and then the maps of the mask are
pub mark_hands : (bits : ℕ) (result : Result (Unit {0}) MarkFault) (xs ys zs : List SectorSeen) → PageHands {T = Unit {0}} (λ map s. once_if (is_open s)) (Ok tt) xs ys → PageHands (λ map s. once_if (has bits map)) result ys zs →
    PageHands (writes_of bits) result xs zs
mark_hands bits result xs ys zs first last =
    each_then (λ m a b. SectorHands {T = Unit {0}} (once_if (is_open a)) (Ok tt) a.copies b.copies) (λ m a b. SectorHands (once_if (has bits m)) result a.copies b.copies) (λ m a b. SectorHands (writes_of bits m a) result a.copies b.copies) xs ys zs
    (λ m x y z one two. hands_then _ _ result x.copies y.copies z.copies one two) first last

pub firm_failed : (bits : ℕ) (fault : MarkFault) (xs ys : List SectorSeen) → PageHands {T = Unit {0}} (λ map s. once_if (is_open s)) (Err fault) xs ys → PageHands {T = Unit {0}} (writes_of bits) (Err fault) xs ys
firm_failed bits fault xs ys h = record { size = h.size; each = λ m lt. hands_fewer _ _ fault _ _ (h.each m lt) }

-- ---- nothing is open any more

pub are_shut : (xs ys : List SectorSeen) → EachSector (λ map old new. IsShut new) xs ys → AreAll IsShut ys
are_shut xs ys h m lt = let e = h.size in h.each m (omega (arith, e, lt))

pub stay_shut : (result : Result (Unit {0}) MarkFault) (xs ys : List SectorSeen) → AreAll IsShut xs → OnOk result (EachSector (λ map old new. new.loose ≡ old.loose) xs ys) → OnOk result (AreAll IsShut ys)
stay_shut (Ok u) xs ys shut same =
    λ m lt.
    let e = same.size in
    let inside : m < length xs = omega (arith, e, lt) in ap (λ (bytes : List ℕ). not (bytes_eq bytes (zeros 512))) (same.each m inside) ∙ shut m inside
stay_shut (Err fault) xs ys shut same = tt
