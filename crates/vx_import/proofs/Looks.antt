-- One device of the list is read.
use Rattle.std.proofs.Common.{◌≡◌, ℕ, zero, suc, ◌+◌, ◌<◌, ◌≤◌, Bool, true, false, cond, List, [], ◌∷◌, length, map, take, get_or, set, Option, Some, None, refl, sym, ap, ◌∙◌, subst, arith, inl, inr}
use Rattle.std.specs.Prelude.{IsTrue, MatchOption}
use Rattle.vx_piece.specs.Seen.{Seen, Keeps}
use Rattle.vx_header.specs.Said.{Said}
use Rattle.vx_copies.specs.Image.{text_sectors}
use Rattle.vx_copies.specs.Lists.{Each, AllOf, AnyOf}
use Rattle.vx_copies.specs.Disks.{Drops}
use Rattle.vx_copies.proofs.StepLaws.{keeps_refl, keeps_trans, drops_refl, drops_trans, each_refl, each_then, each_both}
use Rattle.vx_import.specs.Looks.{Looked, looked, IsPrivate, Reads, toggle_read, said_in}
use Rattle.vx_import.specs.Choice.{At, IfToggle, IsTop}
use Rattle.vx_import.specs.Tries.{readable_count, IsSpent}
use Rattle.vx_import.specs.declared.device.GroupDevice.{GroupDevice}
use Rattle.vx_import.specs.declared.device.Reading.{Reading}

pub reads_refl : (a : Looked) → Reads a a
reads_refl a = record { device = refl; label = refl; reading = refl; kept = keeps_refl a.seen; same = record { told = refl; writes = refl }; readable = drops_refl a.readable a.seen; most = omega arith }

pub spent_refl : (a : Looked) → IsSpent a a
spent_refl a = omega arith

pub spent_trans : (a b c : Looked) → IsSpent a b → IsSpent b c → IsSpent a c
spent_trans a b c p q = omega (arith, p, q)

-- a try that failed, and then another
pub reads_then : (a b c : Looked) → Reads a b × IsSpent a b → Reads b c → Reads a c
reads_then a b c (p, spent) q = record {
  device = q.device ∙ p.device;
  label = q.label ∙ p.label;
  reading = q.reading ∙ p.reading;
  kept = keeps_trans _ _ _ p.kept q.kept;
  same = record { told = q.same.told ∙ p.same.told; writes = q.same.writes ∙ p.same.writes };
  readable = drops_trans a.readable b.readable c.readable a.seen b.seen c.seen p.kept q.kept p.readable q.readable;
  most = let more = q.most in omega (arith, spent, more);
}

pub tried_then : (xs ys zs : List Looked) → Each Reads xs ys → Each IsSpent xs ys → Each Reads ys zs → Each Reads xs zs
tried_then xs ys zs p spent q = each_then (λ a b. Reads a b × IsSpent a b) Reads Reads reads_then xs ys zs (each_both Reads IsSpent xs ys p spent) q

-- the text of a device that cannot be read any more is not read again
pub dropped_spent : (a b : Looked) → Reads a b → b.readable ≡ false → IsSpent a b
dropped_spent a b is dropped =
    let none : text_sectors (toggle_read b) ≡ 0 = ap (λ r. text_sectors (cond r (said_in b.reading) None)) dropped in
    let most = is.most in omega (arith, none, most)

-- a device whose toggle was read can be read
said_readable : (f : Looked) (t : Said) → toggle_read f ≡ Some t → f.readable ≡ true
said_readable f t = by f.readable
  where
    by : (b : Bool) → cond b (said_in f.reading) None ≡ Some t → b ≡ true
    by true e = refl
    by false e = cc

pub was_readable : (x y : Bool) (a b : Seen) → Drops x y a b → IsTrue y → IsTrue x
was_readable x true a b d is = d
was_readable x false a b d is = cc

-- a device that can still be read says the same
pub same_toggle : (a b : Looked) → Reads a b → b.readable ≡ true → toggle_read b ≡ toggle_read a
same_toggle a b is readable =
    let was : a.readable ≡ true = was_readable a.readable b.readable a.seen b.seen is.readable readable in
    ap (λ r. cond r (said_in b.reading) None) readable ∙ ap (λ (x : Reading). said_in x) is.reading ∙ ap (λ r. cond r (said_in a.reading) None) (sym was)

module _ (R : Looked → Looked → Type 0) (Q : Looked → Type 0) (on : (a b : Looked) → R a b → Q a → Q b) where
  pub all_on : (xs ys : List Looked) → Each R xs ys → AllOf Q xs → AllOf Q ys
  all_on [] [] is all = tt
  all_on [] (y ∷ ys) is all = absurd is
  all_on (x ∷ xs) [] is all = absurd is
  all_on (x ∷ xs) (y ∷ ys) is all = (on x y is.0 all.0, all_on xs ys is.1 all.1)

pub private_on : (a b : Looked) → Keeps a.seen b.seen → IsPrivate a → IsPrivate b
private_on a b kept private = let same = kept.sectors in let more : 2048 ≤ b.seen.sectors = omega (arith, same, private) in more

module _ {P : Type 0} (see : P → Seen) where
  pub all_at : (Q : Looked → Type 0) (fs : List (GroupDevice P)) (i : ℕ) (d : GroupDevice P) → i < length fs → AllOf Q (map (looked see) fs) → Q (looked see (get_or fs i d))
  all_at Q [] i d lt all = absurd (omega (arith, lt))
  all_at Q (x ∷ fs) zero d lt all = all.0
  all_at Q (x ∷ fs) (suc i) d lt all = all_at Q fs i d (omega (arith, lt)) all.1

  pub at_at : (Q : Looked → Type 0) (fs : List (GroupDevice P)) (i : ℕ) (d : GroupDevice P) → At i Q (map (looked see) fs) → Q (looked see (get_or fs i d))
  at_at Q [] i d is = absurd is
  at_at Q (x ∷ fs) zero d is = is
  at_at Q (x ∷ fs) (suc i) d is = at_at Q fs i d is

  pub at_set : (Q : Looked → Type 0) (fs : List (GroupDevice P)) (i : ℕ) (d : GroupDevice P) → i < length fs → Q (looked see d) → At i Q (map (looked see) (set fs i d))
  at_set Q [] i d lt is = absurd (omega (arith, lt))
  at_set Q (x ∷ fs) zero d lt is = is
  at_set Q (x ∷ fs) (suc i) d lt is = at_set Q fs i d (omega (arith, lt)) is

  pub all_set : (Q : Looked → Type 0) (fs : List (GroupDevice P)) (i : ℕ) (d : GroupDevice P) → AllOf Q (map (looked see) fs) → Q (looked see d) → AllOf Q (map (looked see) (set fs i d))
  all_set Q [] i d all is = all
  all_set Q (x ∷ fs) zero d all is = (is, all.1)
  all_set Q (x ∷ fs) (suc i) d all is = (all.0, all_set Q fs i d all.1 is)

  pub any_set : (Q : Looked → Type 0) (fs : List (GroupDevice P)) (i : ℕ) (d : GroupDevice P) → i < length fs → Q (looked see d) → AnyOf Q (map (looked see) (set fs i d))
  any_set Q [] i d lt is = absurd (omega (arith, lt))
  any_set Q (x ∷ fs) zero d lt is = inl is
  any_set Q (x ∷ fs) (suc i) d lt is = inr (any_set Q fs i d (omega (arith, lt)) is)

  take_set : (fs : List (GroupDevice P)) (i : ℕ) (d : GroupDevice P) → take i (map (looked see) (set fs i d)) ≡ take i (map (looked see) fs)
  take_set [] i d = refl
  take_set (x ∷ fs) zero d = refl
  take_set (x ∷ fs) (suc i) d = ap (λ ys. looked see x ∷ ys) (take_set fs i d)

  -- one device goes on so, and the others stay
  pub one_on : (R : Looked → Looked → Type 0) → ((a : Looked) → R a a) → (fs : List (GroupDevice P)) (i : ℕ) (d e : GroupDevice P) → i < length fs → R (looked see (get_or fs i e)) (looked see d) → Each R (map (looked see) fs) (map (looked see) (set fs i d))
  one_on R self [] i d e lt is = absurd (omega (arith, lt))
  one_on R self (x ∷ fs) zero d e lt is = (is, each_refl R self (map (looked see) fs))
  one_on R self (x ∷ fs) (suc i) d e lt is = (self (looked see x), one_on R self fs i d e (omega (arith, lt)) is)

  pub long_set : (fs : List (GroupDevice P)) (i : ℕ) (d : GroupDevice P) → length (set fs i d) ≡ length fs
  long_set [] i d = refl
  long_set (x ∷ fs) zero d = refl
  long_set (x ∷ fs) (suc i) d = let same = long_set fs i d in omega (arith, same)

  pub fewer : (fs : List (GroupDevice P)) (i : ℕ) (d e : GroupDevice P) → i < length fs → IsTrue (get_or fs i e).readable → d.readable ≡ false → readable_count (map (looked see) (set fs i d)) < readable_count (map (looked see) fs)
  fewer [] i d e lt was is = absurd (omega (arith, lt))
  fewer (x ∷ fs) zero d e lt was is = by x.readable d.readable was is
    where
      by : (b c : Bool) → IsTrue b → c ≡ false → cond c 1 0 + readable_count (map (looked see) fs) < cond b 1 0 + readable_count (map (looked see) fs)
      by true true w i = cc
      by true false w i = omega arith
      by false c w i = cc
  fewer (x ∷ fs) (suc i) d e lt was is = let less = fewer fs i d e (omega (arith, lt)) was is in omega (arith, less)

  -- the highest toggle was read of that device
  pub top_names : (fs : List (GroupDevice P)) (i : ℕ) (d : GroupDevice P) (t : Said) → IsTop i t (map (looked see) fs) → toggle_read (looked see (get_or fs i d)) ≡ Some t
  top_names fs i d t top = at_at (λ f. toggle_read f ≡ Some t) fs i d top.place

  pub top_readable : (fs : List (GroupDevice P)) (i : ℕ) (d : GroupDevice P) (t : Said) → IsTop i t (map (looked see) fs) → (get_or fs i d).readable ≡ true
  top_readable fs i d t top = said_readable (looked see (get_or fs i d)) t (top_names fs i d t top)

  -- it stays so where that device can still be read
  pub top_set : (fs : List (GroupDevice P)) (i : ℕ) (d e : GroupDevice P) (t : Said) → i < length fs → IsTop i t (map (looked see) fs) → toggle_read (looked see d) ≡ toggle_read (looked see (get_or fs i e)) → IsTop i t (map (looked see) (set fs i d))
  top_set fs i d e t lt top same =
      let now : toggle_read (looked see d) ≡ Some t = same ∙ top_names fs i e t top in
      let at_most : t.sequence ≤ t.sequence = omega arith in
      record {
        place = at_set (λ f. toggle_read f ≡ Some t) fs i d lt now;
        up_to = all_set (IfToggle (λ k. k ≤ t.sequence)) fs i d top.up_to (subst (λ (o : Option Said). MatchOption o (Unit {0}) (λ s. s.sequence ≤ t.sequence)) (sym now) at_most);
        before = subst (AllOf (IfToggle (λ k. k < t.sequence))) (sym (take_set fs i d)) top.before;
      }
