-- Devices that are held, as they are given, taken and changed.
use Rattle.std.proofs.Common.{◌≡◌, ◌∙◌, Bool, true, false, cond, List, [], ◌∷◌, ◌++◌, Option, Some, None, refl, sym, ap, subst}
use Rattle.std.specs.Str.{bytes_eq}
use Rattle.std.proofs.lemmas.Bool.{cond-true, cond-false}
use Rattle.vx_base.specs.Named.{Word, put}
use Rattle.vx_base.proofs.NamedLemmas.{bytes_eq_self, bytes_eq_same}
use Rattle.vx_piece.specs.Seen.{Seen, Keeps}
use Rattle.vx_shelf.specs.Shelf.{Held, AreNumbered, IsTaken, IsGiven}
use Rattle.vx_shelf.specs.Shelf.{held_as as held_of}
use Rattle.vx_copies.specs.Lists.{AllOf, Each}
use Rattle.vx_house.specs.Holders.{Holder, held_as, AreApart, IsTakenFrom, AreHeld}
use Rattle.vx_house.specs.Closing.{NoneHeld}
use Rattle.vx_house.specs.Scene.{seen_in}

pub not_both : (b : Bool) → b ≡ true → b ≡ false → ⊥
not_both b t f = cc

-- the order in which two names are compared does not count
pub apart_turned : (name other : Word) → bytes_eq name other ≡ false → bytes_eq other name ≡ false
apart_turned name other e = by_test (bytes_eq other name) refl
  where
    by_test : (b : Bool) → bytes_eq other name ≡ b → bytes_eq other name ≡ false
    by_test false is = is
    by_test true is = let same : other ≡ name = bytes_eq_same other name is in absurd (not_both (bytes_eq name name) (bytes_eq_self name) (subst (λ n. bytes_eq name n ≡ false) same e))

all_map : {X : Type 0} (Q R : X → Type 0) → ((x : X) → Q x → R x) → (xs : List X) → AllOf Q xs → AllOf R xs
all_map Q R f [] h = tt
all_map Q R f (x ∷ xs) h = (f x h.0, all_map Q R f xs h.1)

all_both : {X : Type 0} (P Q R : X → Type 0) → ((x : X) → P x → Q x → R x) → (xs : List X) → AllOf P xs → AllOf Q xs → AllOf R xs
all_both P Q R f [] p q = tt
all_both P Q R f (x ∷ xs) p q = (f x p.0 q.0, all_both P Q R f xs p.1 q.1)

-- one of a list, and the others
pub all_here : {X : Type 0} (Q : X → Type 0) (xs : List X) (h : X) (ys : List X) → AllOf Q (xs ++ h ∷ ys) → Q h
all_here Q [] h ys all = all.0
all_here Q (a ∷ xs) h ys all = all_here Q xs h ys all.1

pub all_others : {X : Type 0} (Q : X → Type 0) (xs : List X) (h : X) (ys : List X) → AllOf Q (xs ++ h ∷ ys) → AllOf Q (xs ++ ys)
all_others Q [] h ys all = all.1
all_others Q (a ∷ xs) h ys all = (all.0, all_others Q xs h ys all.1)

pub all_put : {X : Type 0} (Q : X → Type 0) (xs : List X) (h : X) (ys : List X) → Q h → AllOf Q (xs ++ ys) → AllOf Q (xs ++ h ∷ ys)
all_put Q [] h ys here all = (here, all)
all_put Q (a ∷ xs) h ys here all = (all.0, all_put Q xs h ys here all.1)

-- the others have other names
abbrev pub IsApart : Holder → Holder → Type 0
IsApart h o = bytes_eq h.name o.name ≡ false

pub apart_others : (xs : List Holder) (h : Holder) (ys : List Holder) → AreApart (xs ++ h ∷ ys) → AreApart (xs ++ ys)
apart_others [] h ys apart = apart.1
apart_others (a ∷ xs) h ys apart = (all_others (IsApart a) xs h ys apart.0, apart_others xs h ys apart.1)

pub apart_here : (xs : List Holder) (h : Holder) (ys : List Holder) → AreApart (xs ++ h ∷ ys) → AllOf (IsApart h) (xs ++ ys)
apart_here [] h ys apart = apart.0
apart_here (a ∷ xs) h ys apart = (apart_turned a.name h.name (all_here (IsApart a) xs h ys apart.0), apart_here xs h ys apart.1)

pub apart_put : (xs : List Holder) (h : Holder) (ys : List Holder) → AllOf (IsApart h) (xs ++ ys) → AreApart (xs ++ ys) → AreApart (xs ++ h ∷ ys)
apart_put [] h ys here apart = (here, apart)
apart_put (a ∷ xs) h ys here apart = (all_put (IsApart a) xs h ys (apart_turned h.name a.name here.0) apart.0, apart_put xs h ys here.1 apart.1)

-- what is held under a name, by one of the list and the others
pub held_at : (xs : List Holder) (h : Holder) (ys : List Holder) (name : Word) → AreApart (xs ++ h ∷ ys) → held_as (xs ++ h ∷ ys) name ≡ cond (bytes_eq h.name name) (Some h.seen) (held_as (xs ++ ys) name)
held_at [] h ys name apart = refl
held_at (a ∷ xs) h ys name apart =
    ap (cond (bytes_eq a.name name) (Some a.seen)) (held_at xs h ys name apart.1)
    ∙ by_test (bytes_eq a.name name) (bytes_eq h.name name) refl refl
  where
    by_test : (b c : Bool) → bytes_eq a.name name ≡ b → bytes_eq h.name name ≡ c → cond b (Some a.seen) (cond c (Some h.seen) (held_as (xs ++ ys) name)) ≡ cond c (Some h.seen) (cond b (Some a.seen) (held_as (xs ++ ys) name))
    by_test false c e f = refl
    by_test true false e f = refl
    by_test true true e f =
        let one : a.name ≡ name = bytes_eq_same a.name name e in
        let two : h.name ≡ name = bytes_eq_same h.name name f in
        absurd (not_both (bytes_eq a.name a.name) (bytes_eq_self a.name) (subst (λ n. bytes_eq a.name n ≡ false) (two ∙ sym one) (all_here (IsApart a) xs h ys apart.0)))

-- one that was taken stays so where what is held under its name stays
taken_stays : (held held' : Word → Option Held) (o : Holder) → held' o.name ≡ held o.name → IsTakenFrom held o → IsTakenFrom held' o
taken_stays held held' o same taken = (taken.0, same ∙ taken.1)

module _ (held held' : Word → Option Held) (xs : List Holder) (h : Holder) (ys : List Holder) where
  pub give_each : IsGiven h.name held held' → AreApart (xs ++ h ∷ ys) → AllOf (IsTakenFrom held) (xs ++ h ∷ ys) → AllOf (IsTakenFrom held') (xs ++ ys)
  give_each given apart each = all_both (IsApart h) (IsTakenFrom held) (IsTakenFrom held') (λ o apart taken. taken_stays held held' o (given o.name ∙ cond-false _ _ _ apart) taken) (xs ++ ys) (apart_here xs h ys apart) (all_others (IsTakenFrom held) xs h ys each)

  -- one is given back
  pub give_one : IsGiven h.name held held' → AreHeld held (xs ++ h ∷ ys) → AreHeld held' (xs ++ ys)
  give_one given are = record {
    each = give_each given are.apart are.each;
    apart = apart_others xs h ys are.apart;
    only = λ name none. given name ∙ by_test name (bytes_eq h.name name) refl none;
    numbers = λ a b x y p q. are.numbers a b x y (stays a x p) (stays b y q);
  }
    where
      -- what is held now was held
      stays : (name : Word) (x : Held) → held' name ≡ Some x → held name ≡ Some x
      stays name x is = by_name (bytes_eq h.name name) (sym (given name) ∙ is)
        where
          by_name : (b : Bool) → cond b None (held name) ≡ Some x → held name ≡ Some x
          by_name true e = cc
          by_name false e = e

      by_test : (name : Word) (b : Bool) → bytes_eq h.name name ≡ b → held_as (xs ++ ys) name ≡ None → cond b None (held name) ≡ None
      by_test name true e none = refl
      by_test name false e none = are.only name (held_at xs h ys name are.apart ∙ cond-false _ _ _ e ∙ none)

  -- nobody else's device is that one
  pub apart_from : held h.name ≡ None → (hs : List Holder) → AllOf (IsTakenFrom held) hs → AllOf (IsApart h) hs
  apart_from none [] taken = tt
  apart_from none (o ∷ os) taken = (by_test (bytes_eq h.name o.name) refl, apart_from none os taken.1)
    where
      by_test : (b : Bool) → bytes_eq h.name o.name ≡ b → bytes_eq h.name o.name ≡ false
      by_test false e = e
      by_test true e = let same : h.name ≡ o.name = bytes_eq_same h.name o.name e in let there : held h.name ≡ Some (held_of o.seen) = ap held same ∙ taken.0.1 in cc

  -- one is taken
  pub take_one : AreNumbered held' → IsTaken h.name h.seen held held' → AreHeld held (xs ++ ys) → AreHeld held' (xs ++ h ∷ ys)
  take_one numbers taken are = record {
    each = all_put (IsTakenFrom held') xs h ys (taken.whole, taken.after h.name ∙ cond-true _ _ _ (bytes_eq_self h.name))
        (all_both (IsApart h) (IsTakenFrom held) (IsTakenFrom held') (λ o apart from. taken_stays held held' o (taken.after o.name ∙ cond-false _ _ _ apart) from) (xs ++ ys) others are.each);
    apart = apart;
    only = λ name none. taken.after name ∙ by_test name (bytes_eq h.name name) (sym (held_at xs h ys name apart) ∙ none);
    numbers = numbers;
  }
    where
      others : AllOf (IsApart h) (xs ++ ys)
      others = apart_from taken.before (xs ++ ys) are.each

      apart : AreApart (xs ++ h ∷ ys)
      apart = apart_put xs h ys others are.apart

      by_test : (name : Word) (b : Bool) → cond b (Some h.seen) (held_as (xs ++ ys) name) ≡ None → cond b (Some (held_of h.seen)) (held name) ≡ None
      by_test name true none = cc
      by_test name false none = are.only name none

-- what is held under each name counts, and not how it is said
pub same_held : (held held' : Word → Option Held) (hs : List Holder) → ((name : Word) → held' name ≡ held name) → AreHeld held hs → AreHeld held' hs
same_held held held' hs same are = record {
  each = all_map (IsTakenFrom held) (IsTakenFrom held') (λ o taken. taken_stays held held' o (same o.name) taken) hs are.each;
  apart = are.apart;
  only = λ name none. same name ∙ are.only name none;
  numbers = λ a b x y p q. are.numbers a b x y (sym (same a) ∙ p) (sym (same b) ∙ q);
}

-- where nobody holds anything, nothing is held
pub none_held : (held : Word → Option Held) → AreHeld held [] → NoneHeld held
none_held held are name = are.only name refl

pub holds_none : (held : Word → Option Held) → NoneHeld held → AreHeld held []
holds_none held none = record { each = tt; apart = tt; only = λ name _. none name; numbers = λ a b x y p q. let gone = none a in cc }

-- the same whole device, as it is seen now
pub record IsLater (old new : Holder) : Type 0 where
  pub name : new.name ≡ old.name
  pub kept : Keeps old.seen new.seen

pub later_taken : (held : Word → Option Held) (o n : Holder) → IsLater o n → IsTakenFrom held o → IsTakenFrom held n
later_taken held o n later taken = (
  later.kept.start ∙ taken.0,
  ap held later.name ∙ taken.1 ∙ ap (λ d. Some (let h : Held = record { device = d; sectors = o.seen.sectors } in h)) (sym later.kept.device) ∙ ap (λ s. Some (let h : Held = record { device = n.seen.device; sectors = s } in h)) (sym later.kept.sectors),
)

later_each : (held : Word → Option Held) (hs ns : List Holder) → Each IsLater hs ns → AllOf (IsTakenFrom held) hs → AllOf (IsTakenFrom held) ns
later_each held [] [] later taken = tt
later_each held [] (n ∷ ns) later taken = absurd later
later_each held (h ∷ hs) [] later taken = absurd later
later_each held (h ∷ hs) (n ∷ ns) later taken = (later_taken held h n later.0 taken.0, later_each held hs ns later.1 taken.1)

later_from : (a b : Holder) (hs ns : List Holder) → b.name ≡ a.name → Each IsLater hs ns → AllOf (IsApart a) hs → AllOf (IsApart b) ns
later_from a b [] [] same later apart = tt
later_from a b [] (n ∷ ns) same later apart = absurd later
later_from a b (h ∷ hs) [] same later apart = absurd later
later_from a b (h ∷ hs) (n ∷ ns) same later apart = (ap (λ x. bytes_eq x n.name) same ∙ ap (bytes_eq a.name) later.0.name ∙ apart.0, later_from a b hs ns same later.1 apart.1)

pub later_apart : (hs ns : List Holder) → Each IsLater hs ns → AreApart hs → AreApart ns
later_apart [] [] later apart = tt
later_apart [] (n ∷ ns) later apart = absurd later
later_apart (h ∷ hs) [] later apart = absurd later
later_apart (h ∷ hs) (n ∷ ns) later apart = (later_from h n hs ns later.0.name later.1 apart.0, later_apart hs ns later.1 apart.1)

later_none : (hs ns : List Holder) (name : Word) → Each IsLater hs ns → held_as ns name ≡ None → held_as hs name ≡ None
later_none [] [] name later none = refl
later_none [] (n ∷ ns) name later none = absurd later
later_none (h ∷ hs) [] name later none = absurd later
later_none (h ∷ hs) (n ∷ ns) name later none = by_test (bytes_eq h.name name) (later_none hs ns name later.1) (ap (λ x. cond (bytes_eq x name) (Some n.seen) (held_as ns name)) (sym later.0.name) ∙ none)
  where
    by_test : (b : Bool) → (held_as ns name ≡ None → held_as hs name ≡ None) → cond b (Some n.seen) (held_as ns name) ≡ None → cond b (Some h.seen) (held_as hs name) ≡ None
    by_test true rest e = cc
    by_test false rest e = rest e

-- devices that were read and written are held as before
pub later_held : (held : Word → Option Held) (hs ns : List Holder) → Each IsLater hs ns → AreHeld held hs → AreHeld held ns
later_held held hs ns later are = record {
  each = later_each held hs ns later are.each;
  apart = later_apart hs ns later are.apart;
  only = λ name none. are.only name (later_none hs ns name later none);
  numbers = are.numbers;
}

-- nothing is held under a name that none of them has
pub none_of : (h : Holder) (hs : List Holder) → AllOf (IsApart h) hs → held_as hs h.name ≡ None
none_of h [] all = refl
none_of h (o ∷ os) all = cond-false _ _ _ (apart_turned h.name o.name all.0) ∙ none_of h os all.1

-- what is told of a device once one more is back
pub put_seen : (xs : List Holder) (h : Holder) (ys : List Holder) (old mid : Word → Option Seen) (name : Word) → AreApart (xs ++ h ∷ ys) → ((other : Word) → mid other ≡ put h.name (Some h.seen) old other)
    → seen_in (held_as (xs ++ ys) name) (Some mid) name ≡ seen_in (held_as (xs ++ h ∷ ys) name) (Some old) name
put_seen xs h ys old mid name apart comes =
    subst (λ o. seen_in (held_as (xs ++ ys) name) (Some mid) name ≡ seen_in o (Some old) name) (sym (held_at xs h ys name apart))
    (by_test (bytes_eq h.name name) (held_as (xs ++ ys) name) refl refl)
  where
    by_test : (b : Bool) (o : Option Seen) → bytes_eq h.name name ≡ b → held_as (xs ++ ys) name ≡ o → seen_in o (Some mid) name ≡ seen_in (cond b (Some h.seen) o) (Some old) name
    by_test true None e is = comes name ∙ cond-true _ _ _ e
    by_test false None e is = comes name ∙ cond-false _ _ _ e
    by_test false (Some seen) e is = refl
    by_test true (Some seen) e is =
        let same : h.name ≡ name = bytes_eq_same h.name name e in
        let gone : held_as (xs ++ ys) name ≡ None = ap (held_as (xs ++ ys)) (sym same) ∙ none_of h (xs ++ ys) (apart_here xs h ys apart) in cc
