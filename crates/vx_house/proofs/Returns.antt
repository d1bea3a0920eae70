-- Devices that go back, one after the other.
use Rattle.std.proofs.Common.{◌≡◌, ◌∙◌, ◌<◌, true, false, length, arith, List, [], ◌∷◌, ◌++◌, map, Option, Some, None, refl, sym, ap, subst, append_assoc}
use Rattle.std.proofs.lemmas.List.{append-nil, map-append}
use Rattle.vx_pages.specs.declared.local_piece.LocalPiece.{Ghosts}
use Rattle.vx_base.specs.Named.{Word}
use Rattle.vx_piece.specs.Seen.{Seen}
use Rattle.vx_shelf.specs.Shelf.{Held, IsGiven, ComesToShelf, SameCounts, put_count}
use Rattle.vx_copies.specs.Lists.{AllOf}
use Rattle.vx_house.specs.Closing.{GivesBack}
use Rattle.vx_house.specs.Holders.{Holder, AreHeld, AreApart, IsTakenFrom, holders, volume_holder, group_holders, hand_holder}
use Rattle.vx_house.specs.Scene.{Shelved}
use Rattle.vx_house.specs.Unmoved.{Unmoved}
use Rattle.std.specs.Prelude.{IsSome}
use Rattle.std.specs.Str.{bytes_eq}
use Rattle.vx_house.specs.declared.house.House.{House}
use Rattle.vx_house.proofs.AllLaws.{all_front, all_back}
use Rattle.vx_house.proofs.Holders.{give_one, give_each, all_here, apart_others}
use Rattle.vx_house.proofs.Scenes.{scene_of, give_scene, unmoved_refl, unmoved_trans}

pub gives_none : (s : Shelved) → GivesBack [] s s
gives_none s = record { held = λ before behind are. are; moved = λ before behind are. unmoved_refl (scene_of s (before ++ behind)) }

-- one device
pub gives_one : (h : Holder) (old new : Shelved) → IsGiven h.name old.held new.held → ComesToShelf h.name h.seen old.free new.free → new.faults ≡ old.faults → SameCounts (put_count h.name h.seen.faults old.counted) new.counted → GivesBack (h ∷ []) old new
gives_one h old new given comes quiet counts = record {
  held = λ before behind are. give_one old.held new.held before h behind given are;
  moved = λ before behind are. give_scene old new before h behind are.apart comes quiet counts;
}

-- some, and then those before them
pub gives_both : (xs ys : List Holder) (a b c : Shelved) → GivesBack ys a b → GivesBack xs b c → GivesBack (xs ++ ys) a c
gives_both xs ys a b c p q = record {
  held = λ before behind are. q.held before behind (mid before behind are);
  moved = λ before behind are.
      unmoved_trans (scene_of a (before ++ ((xs ++ ys) ++ behind))) (scene_of b (before ++ (xs ++ behind))) (scene_of c (before ++ behind))
      (subst (λ hs. Unmoved (scene_of a (before ++ ((xs ++ ys) ++ behind))) (scene_of b hs)) (append_assoc before xs behind)
      (subst (λ hs. Unmoved (scene_of a hs) (scene_of b ((before ++ xs) ++ behind))) (sym (split before behind)) (p.moved (before ++ xs) behind (subst (AreHeld a.held) (split before behind) are))))
      (q.moved before behind (mid before behind are));
}
  where
    split : (before behind : List Holder) → before ++ ((xs ++ ys) ++ behind) ≡ (before ++ xs) ++ (ys ++ behind)
    split before behind = ap (λ hs. before ++ hs) (append_assoc xs ys behind) ∙ sym (append_assoc before xs (ys ++ behind))

    mid : (before behind : List Holder) → AreHeld a.held (before ++ ((xs ++ ys) ++ behind)) → AreHeld b.held (before ++ (xs ++ behind))
    mid before behind are = subst (AreHeld b.held) (append_assoc before xs behind) (p.held (before ++ xs) behind (subst (AreHeld a.held) (split before behind) are))

-- one, and then those behind it
pub gives_then : (h : Holder) (ys : List Holder) (a b c : Shelved) → GivesBack (h ∷ []) a b → GivesBack ys b c → GivesBack (h ∷ ys) a c
gives_then h ys a b c p q = record {
  held = λ before behind are. q.held before behind (p.held before (ys ++ behind) are);
  moved = λ before behind are. unmoved_trans (scene_of a (before ++ ((h ∷ ys) ++ behind))) (scene_of b (before ++ (ys ++ behind))) (scene_of c (before ++ behind)) (p.moved before (ys ++ behind) are) (q.moved before behind (p.held before (ys ++ behind) are));
}

-- a list of holders of which the last is given
module _ {X : Type 0} (f : X → Holder) (xs ys : List X) (x : X) (is : xs ≡ ys ++ x ∷ []) where
  pub split_last : map f xs ≡ map f ys ++ f x ∷ []
  split_last = ap (map f) is ∙ map-append f ys (x ∷ [])

  pub taken_last : (held : Word → Option Held) → AllOf (IsTakenFrom held) (map f xs) → IsTakenFrom held (f x)
  taken_last held each = all_here (IsTakenFrom held) (map f ys) (f x) [] (subst (AllOf (IsTakenFrom held)) split_last each)

  pub apart_rest : AreApart (map f xs) → AreApart (map f ys)
  apart_rest apart = subst AreApart (append-nil (map f ys)) (apart_others (map f ys) (f x) [] (subst AreApart split_last apart))

  pub each_rest : (held held' : Word → Option Held) → IsGiven (f x).name held held' → AreApart (map f xs) → AllOf (IsTakenFrom held) (map f xs) → AllOf (IsTakenFrom held') (map f ys)
  each_rest held held' given apart each = subst (AllOf (IsTakenFrom held')) (append-nil (map f ys)) (give_each held held' (map f ys) (f x) [] given (subst AreApart split_last apart) (subst (AllOf (IsTakenFrom held)) split_last each))

  pub gives_last : (a b c : Shelved) → GivesBack (f x ∷ []) a b → GivesBack (map f ys) b c → GivesBack (map f xs) a c
  gives_last a b c one rest = subst (λ hs. GivesBack hs a c) (sym split_last) (gives_both (map f ys) (f x ∷ []) a b c one rest)

-- a list of holders of which the first is given
module _ {X : Type 0} (f : X → Holder) (xs ys : List X) (x : X) (is : xs ≡ x ∷ ys) where
  pub taken_first : (held : Word → Option Held) → AllOf (IsTakenFrom held) (map f xs) → IsTakenFrom held (f x)
  taken_first held each = (subst (λ zs. AllOf (IsTakenFrom held) (map f zs)) is each).0

  pub apart_behind : AreApart (map f xs) → AreApart (map f ys)
  apart_behind apart = (subst (λ zs. AreApart (map f zs)) is apart).1

  pub each_behind : (held held' : Word → Option Held) → IsGiven (f x).name held held' → AreApart (map f xs) → AllOf (IsTakenFrom held) (map f xs) → AllOf (IsTakenFrom held') (map f ys)
  each_behind held held' given apart each = give_each held held' [] (f x) (map f ys) given (subst (λ zs. AreApart (map f zs)) is apart) (subst (λ zs. AllOf (IsTakenFrom held) (map f zs)) is each)

  pub gives_first : (a b c : Shelved) → GivesBack (f x ∷ []) a b → GivesBack (map f ys) b c → GivesBack (map f xs) a c
  gives_first a b c one rest = subst (λ zs. GivesBack (map f zs) a c) (sym is) (gives_then (f x) (map f ys) a b c one rest)

pub apart_back : (xs ys : List Holder) → AreApart (xs ++ ys) → AreApart ys
apart_back [] ys apart = apart
apart_back (x ∷ xs) ys apart = apart_back xs ys apart.1

pub apart_front : (xs ys : List Holder) → AreApart (xs ++ ys) → AreApart xs
apart_front [] ys apart = tt
apart_front (x ∷ xs) ys apart = (all_front (λ o. bytes_eq x.name o.name ≡ false) xs ys apart.0, apart_front xs ys apart.1)

-- what a house holds, part by part
module _ {P : Type 0} {ghosts : Ghosts P} (see : P → Seen) (h : House P ghosts) where
  abbrev vs : List Holder
  vs = map (volume_holder see) h.volumes.entries

  abbrev gs : List Holder
  gs = group_holders see h.group

  abbrev ts : List Holder
  ts = map (hand_holder see) h.hand.items

  pub hand_each : (held : Word → Option Held) → AllOf (IsTakenFrom held) (holders see h) → AllOf (IsTakenFrom held) ts
  hand_each held each = all_back (IsTakenFrom held) gs ts (all_back (IsTakenFrom held) vs (gs ++ ts) each)

  pub hand_apart : AreApart (holders see h) → AreApart ts
  hand_apart apart = apart_back gs ts (apart_back vs (gs ++ ts) apart)

  pub volumes_each : (held : Word → Option Held) → AllOf (IsTakenFrom held) (holders see h) → AllOf (IsTakenFrom held) vs
  volumes_each held each = all_front (IsTakenFrom held) vs (gs ++ ts) each

  pub volumes_apart : AreApart (holders see h) → AreApart vs
  volumes_apart apart = apart_front vs (gs ++ ts) apart

  module _ (ds : List Holder) (is : ds ≡ gs) where
    pub disks_each : (held : Word → Option Held) → AllOf (IsTakenFrom held) (holders see h) → AllOf (IsTakenFrom held) ds
    disks_each held each = subst (AllOf (IsTakenFrom held)) (sym is) (all_front (IsTakenFrom held) gs ts (all_back (IsTakenFrom held) vs (gs ++ ts) each))

    pub disks_apart : AreApart (holders see h) → AreApart ds
    disks_apart apart = subst AreApart (sym is) (apart_front gs ts (apart_back vs (gs ++ ts) apart))

pub no_entries : {X : Type 0} (o : Option X) (entries : List X) → (0 < length entries → IsSome o) → ((x : X) → o ≡ Some x → ⊥) → entries ≡ []
no_entries o [] some none = refl
no_entries None (e ∷ es) some none = let h : false ≡ true = some (omega arith) in cc
no_entries (Some x) (e ∷ es) some none = absurd (none x refl)
