-- A device that is taken or given back leaves what is seen of all devices.
use Rattle.std.proofs.Common.{◌≡◌, ◌∙◌, ◌≤◌, ℕ, Bool, true, false, cond, List, ◌∷◌, ◌++◌, Option, Some, None, refl, sym, ap, subst, arith}
use Rattle.std.specs.Prelude.{IsSome, IfSome}
use Rattle.std.specs.Str.{bytes_eq}
use Rattle.std.proofs.lemmas.Bool.{cond-true, cond-false}
use Rattle.vx_base.specs.Named.{Word}
use Rattle.vx_base.proofs.NamedLemmas.{bytes_eq_same}
use Rattle.vx_piece.specs.Seen.{Seen}
use Rattle.vx_shelf.specs.Shelf.{IsTaken, ComesToShelf, LeavesShelf, SameCounts, put_count, AreCounted, AreNumbered}
use Rattle.vx_house.specs.Holders.{Holder, held_as, AreApart}
use Rattle.vx_house.specs.Scene.{Shelved, Scene, seen_in, faults_in}
use Rattle.vx_house.specs.Unmoved.{Unmoved}
use Rattle.vx_house.proofs.Holders.{held_at, apart_here, none_of, put_seen}

abbrev pub scene_of : Shelved → List Holder → Scene
scene_of shelf taken = record { shelf = shelf; taken = taken }

pub unmoved_refl : (s : Scene) → Unmoved s s
unmoved_refl s = record { told = λ t. t; seen = λ t name. refl; same = λ t name. refl; faults = λ name. omega arith; shelf = refl }

pub unmoved_trans : (a b c : Scene) → Unmoved a b → Unmoved b c → Unmoved a c
unmoved_trans a b c p q = record {
  told = λ t. q.told (p.told t);
  seen = λ t name. q.seen (p.told t) name ∙ p.seen t name;
  same = λ t name. q.same (p.told t) name ∙ p.same t name;
  faults = λ name. let x = p.faults name in let y = q.faults name in omega (arith, x, y);
  shelf = q.shelf ∙ p.shelf;
}

-- what is seen depends only on what is held under each name
pub unmoved_held : (shelf : Shelved) (hs ns : List Holder) → ((name : Word) → held_as ns name ≡ held_as hs name) → Unmoved (scene_of shelf hs) (scene_of shelf ns)
unmoved_held shelf hs ns same = record {
  told = λ t. t;
  seen = λ t name. ap (λ o. seen_in o shelf.free name) (same name);
  same = λ t name. ap (λ o. faults_in o (shelf.counted name)) (same name);
  faults = λ name. let e : faults_in (held_as ns name) (shelf.counted name) ≡ faults_in (held_as hs name) (shelf.counted name) = ap (λ o. faults_in o (shelf.counted name)) (same name) in omega (arith, e);
  shelf = refl;
}

-- a shelf that tells goes on to
comes_told : (name : Word) (seen : Seen) (old new : Option (Word → Option Seen)) → ComesToShelf name seen old new → IsSome old → IsSome new
comes_told name seen None None comes t = t
comes_told name seen None (Some n) comes t = refl
comes_told name seen (Some o) None comes t = absurd comes
comes_told name seen (Some o) (Some n) comes t = refl

leaves_told : (name : Word) (seen : Seen) (old new : Option (Word → Option Seen)) → LeavesShelf name seen old new → IsSome old → IsSome new
leaves_told name seen None None leaves t = t
leaves_told name seen None (Some n) leaves t = refl
leaves_told name seen (Some o) None leaves t = absurd leaves
leaves_told name seen (Some o) (Some n) leaves t = refl

module _ (xs : List Holder) (h : Holder) (ys : List Holder) (apart : AreApart (xs ++ h ∷ ys)) where
  -- nobody else has the device
  pub alone : (name : Word) → bytes_eq h.name name ≡ true → held_as (xs ++ ys) name ≡ None
  alone name e = ap (held_as (xs ++ ys)) (sym (bytes_eq_same h.name name e)) ∙ none_of h (xs ++ ys) (apart_here xs h ys apart)

  give_seen : (old new : Option (Word → Option Seen)) → ComesToShelf h.name h.seen old new → IsSome old → (name : Word) → seen_in (held_as (xs ++ ys) name) new name ≡ seen_in (held_as (xs ++ h ∷ ys) name) old name
  give_seen None new comes t name = cc
  give_seen (Some o) None comes t name = absurd comes
  give_seen (Some o) (Some n) comes t name = put_seen xs h ys o n name apart comes

  give_faults : (old new : Word → ℕ) → SameCounts (put_count h.name h.seen.faults old) new → (name : Word) → faults_in (held_as (xs ++ ys) name) (new name) ≡ faults_in (held_as (xs ++ h ∷ ys) name) (old name)
  give_faults old new counts name =
      subst (λ o. faults_in (held_as (xs ++ ys) name) (new name) ≡ faults_in o (old name)) (sym (held_at xs h ys name apart))
      (by_test (bytes_eq h.name name) (held_as (xs ++ ys) name) refl refl)
    where
      by_test : (b : Bool) (o : Option Seen) → bytes_eq h.name name ≡ b → held_as (xs ++ ys) name ≡ o → faults_in o (new name) ≡ faults_in (cond b (Some h.seen) o) (old name)
      by_test true None e is = counts name ∙ cond-true _ _ _ e
      by_test false None e is = counts name ∙ cond-false _ _ _ e
      by_test false (Some seen) e is = refl
      by_test true (Some seen) e is = let none = alone name e in cc

  take_seen : (old new : Option (Word → Option Seen)) → LeavesShelf h.name h.seen old new → IsSome old → (name : Word) → seen_in (held_as (xs ++ h ∷ ys) name) new name ≡ seen_in (held_as (xs ++ ys) name) old name
  take_seen None new leaves t name = cc
  take_seen (Some o) None leaves t name = absurd leaves
  take_seen (Some o) (Some n) leaves t name =
      subst (λ x. seen_in x (Some n) name ≡ seen_in (held_as (xs ++ ys) name) (Some o) name) (sym (held_at xs h ys name apart))
      (by_test (bytes_eq h.name name) (held_as (xs ++ ys) name) refl refl)
    where
      by_test : (b : Bool) (x : Option Seen) → bytes_eq h.name name ≡ b → held_as (xs ++ ys) name ≡ x → seen_in (cond b (Some h.seen) x) (Some n) name ≡ seen_in x (Some o) name
      by_test true None e is = sym (ap o (sym (bytes_eq_same h.name name e)) ∙ leaves.0)
      by_test false None e is = leaves.1 name ∙ cond-false _ _ _ e
      by_test false (Some seen) e is = refl
      by_test true (Some seen) e is = let none = alone name e in cc

  take_faults : (old new : Word → ℕ) → SameCounts old new → old h.name ≤ h.seen.faults → (name : Word) → faults_in (held_as (xs ++ ys) name) (old name) ≤ faults_in (held_as (xs ++ h ∷ ys) name) (new name)
  take_faults old new counts up name =
      subst (λ o. faults_in (held_as (xs ++ ys) name) (old name) ≤ faults_in o (new name)) (sym (held_at xs h ys name apart))
      (by_test (bytes_eq h.name name) (held_as (xs ++ ys) name) refl refl)
    where
      by_test : (b : Bool) (o : Option Seen) → bytes_eq h.name name ≡ b → held_as (xs ++ ys) name ≡ o → faults_in o (old name) ≤ faults_in (cond b (Some h.seen) o) (new name)
      by_test true None e is = let same : old name ≡ old h.name = ap old (sym (bytes_eq_same h.name name e)) in omega (arith, same, up)
      by_test false None e is = let same = counts name in omega (arith, same)
      by_test false (Some seen) e is = omega arith
      by_test true (Some seen) e is = let none = alone name e in cc

  -- the count of a device that was told is that of its name
  told_count : (old new : Option (Word → Option Seen)) (counted : Word → ℕ) → LeavesShelf h.name h.seen old new → AreCounted old counted → IsSome old → h.seen.faults ≡ counted h.name
  told_count None new counted leaves counts t = cc
  told_count (Some o) None counted leaves counts t = absurd leaves
  told_count (Some o) (Some n) counted leaves counts t = subst (λ (x : Option Seen). IfSome x (λ seen. seen.faults ≡ counted h.name)) leaves.0 (counts h.name)

  take_same : (old new : Word → ℕ) → SameCounts old new → h.seen.faults ≡ old h.name → (name : Word) → faults_in (held_as (xs ++ h ∷ ys) name) (new name) ≡ faults_in (held_as (xs ++ ys) name) (old name)
  take_same old new counts up name =
      subst (λ o. faults_in o (new name) ≡ faults_in (held_as (xs ++ ys) name) (old name)) (sym (held_at xs h ys name apart))
      (by_test (bytes_eq h.name name) (held_as (xs ++ ys) name) refl refl)
    where
      by_test : (b : Bool) (o : Option Seen) → bytes_eq h.name name ≡ b → held_as (xs ++ ys) name ≡ o → faults_in (cond b (Some h.seen) o) (new name) ≡ faults_in o (old name)
      by_test true None e is = up ∙ ap old (bytes_eq_same h.name name e)
      by_test false None e is = counts name
      by_test false (Some seen) e is = refl
      by_test true (Some seen) e is = let none = alone name e in cc

-- a device goes back
pub give_scene : (old new : Shelved) (xs : List Holder) (h : Holder) (ys : List Holder) → AreApart (xs ++ h ∷ ys) → ComesToShelf h.name h.seen old.free new.free → new.faults ≡ old.faults → SameCounts (put_count h.name h.seen.faults old.counted) new.counted
    → Unmoved (scene_of old (xs ++ h ∷ ys)) (scene_of new (xs ++ ys))
give_scene old new xs h ys apart comes quiet counts = record {
  told = λ t. comes_told h.name h.seen old.free new.free comes t;
  seen = λ t name. give_seen xs h ys apart old.free new.free comes t name;
  same = λ t name. give_faults xs h ys apart old.counted new.counted counts name;
  faults = λ name. let e = give_faults xs h ys apart old.counted new.counted counts name in omega (arith, e);
  shelf = quiet;
}

-- what a shelf says of a device that it hands over
pub record IsHanded (name : Word) (seen : Seen) (old new : Shelved) : Type 0 where
  pub taken : IsTaken name seen old.held new.held
  pub left : LeavesShelf name seen old.free new.free
  pub quiet : new.faults ≡ old.faults
  pub counted : old.counted name ≤ seen.faults
  pub counts : SameCounts old.counted new.counted
  pub law : AreCounted old.free old.counted
  pub numbers : AreNumbered new.held

-- a device is taken
pub take_scene : (old new : Shelved) (xs : List Holder) (h : Holder) (ys : List Holder) → AreApart (xs ++ h ∷ ys) → IsHanded h.name h.seen old new
    → Unmoved (scene_of old (xs ++ ys)) (scene_of new (xs ++ h ∷ ys))
take_scene old new xs h ys apart handed = record {
  told = λ t. leaves_told h.name h.seen old.free new.free handed.left t;
  seen = λ t name. take_seen xs h ys apart old.free new.free handed.left t name;
  same = λ t name. take_same xs h ys apart old.counted new.counted handed.counts (told_count xs h ys apart old.free new.free old.counted handed.left handed.law t) name;
  faults = λ name. take_faults xs h ys apart old.counted new.counted handed.counts handed.counted name;
  shelf = handed.quiet;
}
