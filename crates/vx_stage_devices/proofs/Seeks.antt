-- A device that is taken from its shelf, read and given back, and one that is not.
use Rattle.std.proofs.Common.{◌≡◌, ◌∙◌, ◌||◌, ◌≤◌, ◌↔◌, Bool, true, false, cond, List, [], ◌∷◌, Option, Some, None, Ok, Err, Result, refl, sym, ap, subst, arith, inl, inr}
use Rattle.std.specs.Prelude.{IsSome, IfSome}
use Rattle.std.specs.Str.{bytes_eq}
use Rattle.std.proofs.lemmas.Bool.{cond-true, cond-false}
use Rattle.vx_base.specs.Counts.{Rose}
use Rattle.vx_base.specs.Named.{Word, SameUnder}
use Rattle.vx_base.proofs.NamedLemmas.{bytes_eq_self, bytes_eq_same}
use Rattle.vx_piece.specs.Seen.{Seen}
use Rattle.vx_shelf.specs.Shelf.{Held, IsTaken, LeavesShelf, IsGiven, ComesToShelf, SameCounts, put_count, AreCounted, IsNowhere}
use Rattle.vx_answers.specs.declared.answer.End.{End}
use Rattle.vx_moments.specs.Holding.{is_among}
use Rattle.vx_stages.specs.Ends.{fault_of}
use Rattle.vx_house.specs.Scene.{Shelved}
use Rattle.vx_house.specs.declared.stop.Stop.{Stop}
use Rattle.vx_house.specs.declared.stop.Stop.TheVariants.{Ended, OutOfMemory}
use Rattle.vx_stage_devices.specs.Seeks.{NamesSeen, IsSeenOnly, IsSoughtOnce, Claims, ClaimEnds, IsPlace, ArePlaces, IsOnlySought, Seeks, SeekCause, SeekEnds, SeeksUnder}
use Rattle.vx_copies.proofs.StepLaws.{keeps_refl}
use Rattle.vx_house.proofs.Steps.{each_name}

pub seen_self : (s : Seen) → IsSeenOnly s s
seen_self s = record { kept = keeps_refl s; same = record { told = refl; writes = refl }; most = omega arith }

pub place_self : (b : Bool) (o : Option Seen) → IsPlace IsSeenOnly b o o
place_self false o = refl
place_self true None = tt
place_self true (Some s) = seen_self s

places_self : (names : List Word) (o : Option (Word → Option Seen)) → ArePlaces IsSeenOnly names o o
places_self names None = tt
places_self names (Some devices) = λ name. place_self (is_among name names) (devices name)

-- the name is the only one of its list
pub among_one : (name other : Word) (b : Bool) → bytes_eq name other ≡ b → is_among other (name ∷ []) ≡ b
among_one name other true e = ap (λ x. x || false) e
among_one name other false e = ap (λ x. x || false) e

-- What a shelf says of a device that was taken, and of one that came back.
pub record IsBack (name : Word) (s t : Seen) (old mid new : Shelved) : Type 0 where
  pub taken : IsTaken name s old.held mid.held
  pub left : LeavesShelf name s old.free mid.free
  pub given : IsGiven name mid.held new.held
  pub back : ComesToShelf name t mid.free new.free
  pub counted : old.counted name ≤ s.faults
  pub first : SameCounts old.counted mid.counted
  pub given_counts : SameCounts (put_count name t.faults mid.counted) new.counted
  pub quiet : mid.faults ≡ old.faults
  pub still : new.faults ≡ mid.faults
  pub law : AreCounted old.free old.counted

module _ (dg name : Word) (s t : Seen) (old mid new : Shelved) (back : IsBack name s t old mid new) (seen : IsSeenOnly s t) where
  held_back : SameUnder old.held new.held
  held_back other = back.given other ∙ by_test (bytes_eq name other) refl
    where
      by_test : (b : Bool) → bytes_eq name other ≡ b → cond b None (mid.held other) ≡ old.held other
      by_test true e = sym (ap old.held (sym (bytes_eq_same name other e)) ∙ back.taken.before)
      by_test false e = back.taken.after other ∙ cond-false _ _ _ e

  faults_back : new.faults ≡ old.faults
  faults_back = back.still ∙ back.quiet

  -- each count is as it was, but for that of the name
  counted_here : new.counted name ≡ t.faults
  counted_here = back.given_counts name ∙ cond-true _ _ _ (bytes_eq_self name)

  counted_other : (other : Word) → bytes_eq name other ≡ false → new.counted other ≡ old.counted other
  counted_other other e = back.given_counts other ∙ cond-false _ _ _ e ∙ back.first other

  counted_later : (other : Word) → old.counted other ≤ new.counted other
  counted_later = each_name name (λ other. old.counted other ≤ new.counted other) (let a = back.counted in let b = seen.kept.faults in let c = counted_here in omega (arith, a, b, c))
      (λ other e. let c = counted_other other e in omega (arith, c))

  module _ (a m n : Word → Option Seen) (left : LeavesShelf name s (Some a) (Some m)) (comes : ComesToShelf name t (Some m) (Some n)) where
    now_here : n name ≡ Some t
    now_here = comes name ∙ cond-true _ _ _ (bytes_eq_self name)

    now_other : (other : Word) → bytes_eq name other ≡ false → n other ≡ a other
    now_other other e = comes other ∙ cond-false _ _ _ e ∙ left.1 other ∙ cond-false _ _ _ e

    module _ (Became : Seen → Seen → Type 0) (became : Became s t) where
      here : IsPlace Became true (a name) (n name)
      here = subst (λ o. IsPlace Became true o (n name)) (sym left.0) (subst (λ o. IsPlace Became true (Some s) o) (sym now_here) became)

      all_places : (other : Word) → IsPlace Became (is_among other (name ∷ [])) (a other) (n other)
      all_places = each_name name (λ other. IsPlace Became (is_among other (name ∷ [])) (a other) (n other))
          (subst (λ b. IsPlace Became b (a name) (n name)) (sym (among_one name name true (bytes_eq_self name))) here)
          (λ other e. subst (λ b. IsPlace Became b (a other) (n other)) (sym (among_one name other false e)) (now_other other e))

  places : (Became : Seen → Seen → Type 0) → Became s t → (o p q : Option (Word → Option Seen)) → LeavesShelf name s o p → ComesToShelf name t p q → ArePlaces Became (name ∷ []) o q
  places Became became None None None left comes = tt
  places Became became None None (Some q) left comes = absurd comes
  places Became became None (Some p) q left comes = absurd left
  places Became became (Some o) None q left comes = absurd left
  places Became became (Some o) (Some p) None left comes = absurd comes
  places Became became (Some o) (Some p) (Some q) left comes = all_places o p q left comes Became became

  -- what was told of the device, and is told
  was_told : (o p : Option (Word → Option Seen)) → LeavesShelf name s o p → IfSome o (λ devices. devices name ≡ Some s)
  was_told None p left = tt
  was_told (Some o) None left = absurd left
  was_told (Some o) (Some p) left = left.0

  is_told : (p q : Option (Word → Option Seen)) → ComesToShelf name t p q → IfSome q (λ devices. devices name ≡ Some t)
  is_told None None comes = tt
  is_told None (Some q) comes = absurd comes
  is_told (Some p) None comes = tt
  is_told (Some p) (Some q) comes = comes name ∙ cond-true _ _ _ (bytes_eq_self name)

  law_here : (o p : Option (Word → Option Seen)) → LeavesShelf name s o p → AreCounted o old.counted → IsSome o → s.faults ≡ old.counted name
  law_here None p left law some = cc
  law_here (Some o) None left law some = absurd left
  law_here (Some o) (Some p) left law some = subst (λ (x : Option Seen). IfSome x (λ seen. seen.faults ≡ old.counted name)) left.0 (law name)

  counted_same : t.faults ≡ s.faults → IsSome old.free → (other : Word) → new.counted other ≡ old.counted other
  counted_same quiet some = each_name name (λ other. new.counted other ≡ old.counted other) (counted_here ∙ quiet ∙ law_here old.free mid.free back.left back.law some) counted_other

  only_back : IsOnlySought (name ∷ []) old new
  only_back = record { held = held_back; told = places IsSeenOnly seen old.free mid.free new.free back.left back.back; counted = counted_later; later = let e = faults_back in omega (arith, e) }

  some_told : (Q : Seen → Type 0) (x : Seen) → Q x → (o : Option (Word → Option Seen)) → IfSome o (λ devices. devices name ≡ Some x) → IfSome o (λ devices. (s : Seen) × (devices name ≡ Some s) × Q s)
  some_told Q x q None told = tt
  some_told Q x q (Some o) told = (x, told, q)

  cause_by : (end : End) → ClaimEnds dg name s end t → SeekCause dg name old end new
  cause_by end (inl (names, is)) = inl (is, some_told (NamesSeen dg true) s names old.free (was_told old.free mid.free back.left))
  cause_by end (inr (inl (is, rose))) = inr (inl (is, inl (let a = back.counted in let c = counted_here in omega (arith, a, c, rose))))
  cause_by end (inr (inr (is, cut))) = inr (inr (is, some_told (λ x. x.cut ≡ true) t cut new.free (is_told mid.free new.free back.back)))

  pub looked_back : (result : Result (Unit {0}) Stop) → Claims dg name s result t → SeeksUnder dg name old result new
  looked_back (Ok u) sought = record {
    held = held_back;
    told = places (IsSoughtOnce dg) sought old.free mid.free new.free back.left back.back;
    counted = counted_later;
    same = counted_same sought.quiet;
    quiet = faults_back;
  }
  looked_back (Err (Ended end)) (only, ends) = record {
    only = only_back;
    none = back.taken.before;
    cause = cause_by end ends;
  }
  looked_back (Err OutOfMemory) never = absurd never

pub claims_seen : (dg name : Word) (s t : Seen) (result : Result (Unit {0}) Stop) → Claims dg name s result t → IsSeenOnly s t
claims_seen dg name s t (Ok u) sought = sought.seen
claims_seen dg name s t (Err (Ended end)) claims = claims.0
claims_seen dg name s t (Err OutOfMemory) never = absurd never

-- The shelf has handed nothing over.
module _ (dg name : Word) (old new : Shelved) (held : SameUnder old.held new.held) (free : new.free ≡ old.free) (counts : SameCounts old.counted new.counted) where
  pub only_still : (names : List Word) → old.faults ≤ new.faults → IsOnlySought names old new
  only_still names later = record { held = held; told = subst (ArePlaces IsSeenOnly names old.free) (sym free) (places_self names old.free); counted = λ other. let e = counts other in omega (arith, e); later = later }

  sought_none : (o : Option (Word → Option Seen)) → IfSome o (λ devices. devices name ≡ None) → ArePlaces (IsSoughtOnce dg) (name ∷ []) o o
  sought_none None none = tt
  sought_none (Some o) none = λ other. by_test other (bytes_eq name other) refl
    where
      by_test : (other : Word) (b : Bool) → bytes_eq name other ≡ b → IsPlace (IsSoughtOnce dg) (is_among other (name ∷ [])) (o other) (o other)
      by_test other true e = subst (λ b. IsPlace (IsSoughtOnce dg) b (o other) (o other)) (sym (among_one name other true e))
          (subst (λ x. IsPlace (IsSoughtOnce dg) true x x) (sym (ap o (sym (bytes_eq_same name other e)) ∙ none)) tt)
      by_test other false e = subst (λ b. IsPlace (IsSoughtOnce dg) b (o other) (o other)) (sym (among_one name other false e)) refl

  -- no device of the name is told
  pub passed_by : IfSome old.free (λ devices. devices name ≡ None) → new.faults ≡ old.faults → Seeks dg (name ∷ []) old new
  passed_by none quiet = record {
    held = held;
    told = subst (ArePlaces (IsSoughtOnce dg) (name ∷ []) old.free) (sym free) (sought_none old.free none);
    counted = λ other. let e = counts other in omega (arith, e);
    same = λ some other. counts other;
    quiet = quiet;
  }

  -- the shelf has failed
  pub shelf_failed : old.held name ≡ None → Rose old.faults new.faults → old.faults ≤ new.faults → SeekEnds dg (name ∷ []) name old (fault_of name) new
  shelf_failed none rose later = record {
    only = only_still (name ∷ []) later;
    none = none;
    cause = inr (inl (refl, inr rose));
  }

pub not_held_so : {X A : Type 0} (o : Option X) → (A ↔ IsSome o) → (A → ⊥) → o ≡ None
not_held_so None both not = refl
not_held_so (Some x) both not = absurd (not (both.1 refl))

-- where no device has the name, or one that is held, none is told
pub held_told : {A : Type 0} (name : Word) (free : Option (Word → Option Seen)) → IfSome free (λ devices. A → devices name ≡ None) → A → IfSome free (λ devices. devices name ≡ None)
held_told name None away it = tt
held_told name (Some devices) away it = away it

pub none_told : {A : Type 0} (name : Word) (held : Word → Option Held) (free : Option (Word → Option Seen)) → IfSome free (λ devices. A ↔ IsNowhere name devices held) → A → IfSome free (λ devices. devices name ≡ None)
none_told name held None both it = tt
none_told name held (Some devices) both it = (both.0 it).not_free
