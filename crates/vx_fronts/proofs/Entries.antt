-- A disk that joins a group of which some devices are parted.
use Rattle.std.proofs.Common.{◌≡◌, ◌∙◌, ◌⊎◌, inl, inr, ℕ, zero, suc, ◌+◌, List, [], ◌∷◌, ◌++◌, map, length, take, drop, Option, Some, None, refl, sym, ap, subst}
use Rattle.std.specs.Prelude.{IsTrue, false}
use Rattle.std.proofs.lemmas.List.{map-append, take-append-drop}
use Rattle.vx_base.specs.Blocks.{Contents}
use Rattle.vx_base.specs.Counts.{Rose}
use Rattle.vx_base.specs.Named.{Word}
use Rattle.vx_header.specs.Named.{Label, header_of}
use Rattle.vx_mask.specs.Mask.{has}
use Rattle.vx_copies.specs.Disks.{DiskSeen, CommitGoes}
use Rattle.vx_copies.specs.Lists.{AllOf, Each}
use Rattle.vx_copies.specs.Written.{IsTurned, Touches, IsMaskOf, IsQuiet, WritesJust, sectors_of}
use Rattle.vx_copies.proofs.StepLaws.{each_map}
use Rattle.vx_copies.proofs.WriteCounts.{tell_map}
use Rattle.vx_confdb.specs.Create.{Joins}
use Rattle.vx_confdb.specs.Enlisted.{Comes, Enlists, IsAddedTo, IsEnlisted, IsTurnedTo}
use Rattle.vx_confdb.specs.Prepare.{label_in}
use Rattle.vx_fronts.specs.Fronts.{HasPrivate, Rest, Rests, with_device}
use Rattle.vx_fronts.specs.Laws.{EachAdditionIsWhole, EachEntryIsWhole, Gains, IsUnparted, whole_disks}
use Rattle.vx_fronts.proofs.Disks.{quiet_one, rose_one, same_good, same_slot, touches_one, writes_one}
use Rattle.vx_fronts.proofs.Groups.{each_front, each_whole, same_slots, take_whole, whole_done}

-- ---- lists

pub take_front : {X : Type 0} (n : ℕ) (xs ys : List X) → n ≡ length xs → take n (xs ++ ys) ≡ xs
take_front n [] ys e = subst (λ k. take k ys ≡ []) (sym e) refl
take_front n (x ∷ xs) ys e = subst (λ k. take k (x ∷ xs ++ ys) ≡ x ∷ xs) (sym e) (ap (λ l. x ∷ l) (take_front (length xs) xs ys refl))

pub drop_back : {X : Type 0} (n : ℕ) (xs ys : List X) → n ≡ length xs → drop n (xs ++ ys) ≡ ys
drop_back n [] ys e = subst (λ k. drop k ys ≡ ys) (sym e) refl
drop_back n (x ∷ xs) ys e = subst (λ k. drop k (x ∷ xs ++ ys) ≡ ys) (sym e) (drop_back (length xs) xs ys refl)

each_both : {X : Type 0} (R : X → X → Type 0) (xs ys us vs : List X) → Each R xs ys → Each R us vs → Each R (xs ++ us) (ys ++ vs)
each_both R [] [] us vs e d = d
each_both R [] (y ∷ ys) us vs e d = absurd e
each_both R (x ∷ xs) [] us vs e d = absurd e
each_both R (x ∷ xs) (y ∷ ys) us vs e d = (e.0, each_both R xs ys us vs e.1 d)

all_first : {X : Type 0} (Q : X → Type 0) (xs ys : List X) → AllOf Q (xs ++ ys) → AllOf Q xs
all_first Q [] ys all = tt
all_first Q (x ∷ xs) ys all = (all.0, all_first Q xs ys all.1)

long_whole : (rests : Rests) (hs : List DiskSeen) → length (whole_disks rests hs) ≡ length hs
long_whole rests [] = refl
long_whole rests (h ∷ hs) = ap suc (long_whole rests hs)

drop_whole : (rests : Rests) (n : ℕ) (hs : List DiskSeen) → drop n (whole_disks rests hs) ≡ whole_disks rests (drop n hs)
drop_whole rests zero hs = refl
drop_whole rests (suc n) [] = refl
drop_whole rests (suc n) (h ∷ hs) = drop_whole rests n hs

-- ---- what a call does to a disk that joins, by other masks

enlists_map : (group : Word) (first last : ℕ) (text : List ℕ) (Masks Masks' : ℕ → Type 0) → ((mask : ℕ) → Masks mask → Masks' mask) → (a b : DiskSeen) → Enlists group first last text Masks a b → Enlists group first last text Masks' a b
enlists_map group first last text Masks Masks' masks a b is = record {
  comes = tell_map (Comes (label_in group a) first last text Masks) (Comes (label_in group a) first last text Masks') comes a.seen.told b.seen.told is.comes;
  only = is.only;
  reads = is.reads;
  writes = is.writes;
}
  where
    turned : (d : Contents) → IsTurnedTo first last text Masks d → IsTurnedTo first last text Masks' d
    turned d t = record {
      half = t.half;
      turned = record { sequence = t.turned.sequence; mask = t.turned.mask; from = t.turned.from; up_to = t.turned.up_to; masks = masks t.turned.mask t.turned.masks; says = t.turned.says; holds = t.turned.holds };
    }

    comes : (c d : Contents) → Comes (label_in group a) first last text Masks c d → Comes (label_in group a) first last text Masks' c d
    comes c d (inl same) = inl same
    comes c d (inr (inl blank)) = inr (inl blank)
    comes c d (inr (inr (header, inl blank))) = inr (inr (header, inl blank))
    comes c d (inr (inr (header, inr to))) = inr (inr (header, inr (turned d to)))

-- ---- disks that are there whole

pub unparted_whole : (rests : Rests) (hs : List DiskSeen) → AllOf (IsUnparted rests) hs → whole_disks rests hs ≡ hs
unparted_whole rests [] all = refl
unparted_whole rests (h ∷ hs) all = ap (λ o. with_device o h ∷ whole_disks rests hs) all.0 ∙ ap (λ l. h ∷ l) (unparted_whole rests hs all.1)

unparted_now : (rests : Rests) (group : Word) (text : List ℕ) (js ks : List DiskSeen) → Each (Joins group text) js ks → AllOf (IsUnparted rests) js → AllOf (IsUnparted rests) ks
unparted_now rests group text [] [] joins all = tt
unparted_now rests group text [] (k ∷ ks) joins all = absurd joins
unparted_now rests group text (j ∷ js) [] joins all = absurd joins
unparted_now rests group text (j ∷ js) (k ∷ ks) joins all = (ap rests joins.0.kept.device ∙ all.0, unparted_now rests group text js ks joins.1 all.1)

-- ---- the disks of the group and those that join, before and now

-- a good disk whose slot the mask lacks has failed
abbrev Lacks : ℕ → DiskSeen → DiskSeen → Type 0
Lacks mask a b = IsTrue a.good → has mask a.slot ≡ false → Rose a.seen.faults b.seen.faults

abbrev SameDevice : DiskSeen → DiskSeen → Type 0
SameDevice a b = b.seen.device ≡ a.seen.device

module _ (rests : Rests) (group : Word) (first last : ℕ) (text : List ℕ) (hs js now : List DiskSeen) (gains : Gains rests group first last text hs js now) where
  abbrev n : ℕ
  n = length hs

  abbrev W : List DiskSeen → List DiskSeen
  W = whole_disks rests

  abbrev bs : List DiskSeen
  bs = take n now

  abbrev ks : List DiskSeen
  ks = drop n now

  pub joins_whole : W ks ≡ ks
  joins_whole = unparted_whole rests ks (unparted_now rests group text js ks gains.joins gains.alone)

  -- the lists, before and now
  pub before_whole : W (hs ++ js) ≡ W hs ++ js
  before_whole = map-append _ hs js ∙ ap (λ l. W hs ++ l) (unparted_whole rests js gains.alone)

  pub first_now : take n (W now) ≡ W bs
  first_now = take_whole rests n now

  pub second_now : drop n (W now) ≡ ks
  second_now = drop_whole rests n now ∙ joins_whole

  first_then : take n (W hs ++ js) ≡ W hs
  first_then = take_front n (W hs) js (sym (long_whole rests hs))

  second_then : drop n (W hs ++ js) ≡ js
  second_then = drop_back n (W hs) js (sym (long_whole rests hs))

  same : Each SameDevice (hs ++ js) now
  same = subst (Each SameDevice (hs ++ js)) (take-append-drop n now)
      (each_both SameDevice hs bs js ks (each_map (CommitGoes first last text) SameDevice (λ a b g. g.kept.device) hs bs gains.goes) (each_map (Joins group text) SameDevice (λ a b g. g.kept.device) js ks gains.joins))

  quiet_front : Each IsQuiet (W hs ++ js) (W now) → Each IsQuiet (hs ++ js) now
  quiet_front quiet = each_front rests SameDevice IsQuiet IsQuiet (λ a b e. e) (λ o a b q. quiet_one o a b q) (hs ++ js) now same (subst (λ l. Each IsQuiet l (W now)) (sym before_whole) quiet)

  mask_whole : (mask : ℕ) → IsMaskOf (hs ++ js) now mask → IsMaskOf (W hs ++ js) (W now) mask
  mask_whole mask is = subst (λ l. IsMaskOf l (W now) mask) before_whole (record {
    good = λ slot e. same_slots rests slot (hs ++ js) ∙ is.good slot e;
    lacks = each_whole rests SameDevice (Lacks mask) (Lacks mask) (λ a b e. e) (λ o a b private e lacks good lack. rose_one o a b (lacks (subst IsTrue (same_good o a) good) (ap (has mask) (sym (same_slot o a)) ∙ lack))) (hs ++ js) now gains.private same is.lacks;
  })

  private : AllOf HasPrivate hs
  private = all_first HasPrivate hs js gains.private

  abbrev M : ℕ → Type 0
  M = IsMaskOf (hs ++ js) now

  abbrev M' : ℕ → Type 0
  M' = IsMaskOf (W hs ++ js) (W now)

  -- what is written to the disks is written to their devices
  pub enlisted_whole : IsEnlisted group first last n text (hs ++ js) now → IsEnlisted group first last n text (W hs ++ js) (W now)
  enlisted_whole is = record {
    touches = subst (λ l. Each (Touches first last text M') l (take n (W now))) (sym first_then) (subst (Each (Touches first last text M') (W hs)) (sym first_now)
        (each_whole rests (CommitGoes first last text) (Touches first last text M) (Touches first last text M') (λ a b g. g.kept.device) (λ o a b p g t. touches_one first last text M M' mask_whole o a b p g t) hs bs private gains.goes
        (subst (λ l. Each (Touches first last text M) l bs) (take_front n hs js refl) is.touches)));
    enlists = subst (λ l. Each (Enlists group first last text M') l (drop n (W now))) (sym second_then) (subst (Each (Enlists group first last text M') js) (sym second_now)
        (each_map (Enlists group first last text M) (Enlists group first last text M') (enlists_map group first last text M M' mask_whole) js ks
        (subst (λ l. Each (Enlists group first last text M) l ks) (drop_back n hs js refl) is.enlists)));
    once = λ quiet. is.once (quiet_front quiet);
  }

  pub added_whole : AllOf HasPrivate now → IsAddedTo last n text (hs ++ js) now → IsAddedTo last n text (W hs ++ js) (W now)
  added_whole wide_now is = record {
    done = whole_done rests group first last n text now wide_now is.done;
    exact = λ quiet.
        let just = is.exact (quiet_front quiet) in (
          subst (λ l. Each (WritesJust (sectors_of text)) l (take n (W now))) (sym first_then) (subst (Each (WritesJust (sectors_of text)) (W hs)) (sym first_now)
              (each_whole rests (CommitGoes first last text) (WritesJust (sectors_of text)) (WritesJust (sectors_of text)) (λ a b g. g.kept.device) (λ o a b p g t. writes_one (sectors_of text) o a b t) hs bs private gains.goes
              (subst (λ l. Each (WritesJust (sectors_of text)) l bs) (take_front n hs js refl) just.0))),
          subst (λ l. Each (WritesJust (2 + sectors_of text)) l (drop n (W now))) (sym second_then) (subst (Each (WritesJust (2 + sectors_of text)) js) (sym second_now)
              (subst (λ l. Each (WritesJust (2 + sectors_of text)) l ks) (drop_back n hs js refl) just.1)),
        );
  }

pub each_entry : EachEntryIsWhole
each_entry rests group first last text old joiners now gains = enlisted_whole rests group first last text old joiners now gains

pub each_addition : EachAdditionIsWhole
each_addition rests group first last text old joiners now gains private = added_whole rests group first last text old joiners now gains private
