-- A device that is put among others.
use Rattle.std.proofs.Common.{◌≡◌, ◌∙◌, ℕ, zero, suc, ◌≤◌, ◌&&◌, ◌==◌, Bool, true, false, List, [], ◌∷◌, ◌++◌, insert, map, Option, Some, refl, sym, subst, ap, arith, inl, inr}
use Rattle.std.specs.Prelude.{IfSome}
use Rattle.std.specs.Str.{bytes_eq}
use Rattle.std.proofs.lemmas.Bool.{eqb-true}
use Rattle.vx_base.proofs.NamedLemmas.{bytes_eq_same}
use Rattle.vx_base.specs.Blocks.{Contents}
use Rattle.vx_base.specs.Named.{Word}
use Rattle.vx_header.specs.Named.{Label, label_of, header_of}
use Rattle.vx_header.specs.declared.header.Header.{Header}
use Rattle.vx_piece.specs.Seen.{Seen, Keeps, IsRead}
use Rattle.vx_copies.specs.Lists.{AllOf, AnyOf}
use Rattle.vx_import.specs.Looks.{Looked, looked}
use Rattle.vx_import.specs.declared.device.GroupDevice.{GroupDevice}
use Rattle.vx_house.specs.Scene.{Shelved}
use Rattle.vx_house.proofs.Holders.{all_put}
use Rattle.vx_stage_import.specs.Places.{slots_of, ArePlaced, IsPlace}
use Rattle.vx_stage_import.specs.Finds.{AreRoomy, IsFind, IsNaming}
use Rattle.vx_stage_import.specs.Gathering.{IsPut, IsSlotUsed, IsKept, KeepEnds, LookBy}
use Rattle.vx_stage_import.specs.declared.gathering.Passed.TheVariants.{Done}
use Rattle.vx_stage_import.proofs.Places.{placed_in}

module _ {P : Type 0} (see : P → Seen) where
  put_looks : (fs : List (GroupDevice P)) (i : ℕ) (f : GroupDevice P) → IsPut (looked see f) (map (looked see) fs) (map (looked see) (insert fs i f))
  put_looks fs zero f = record { front = []; back = map (looked see) fs; old = refl; new = refl }
  put_looks [] (suc i) f = record { front = []; back = []; old = refl; new = refl }
  put_looks (g ∷ fs) (suc i) f =
      let put : IsPut (looked see f) (map (looked see) fs) (map (looked see) (insert fs i f)) = put_looks fs i f in
      record {
        front = looked see g ∷ put.front;
        back = put.back;
        old = ap (λ xs. looked see g ∷ xs) put.old;
        new = ap (λ xs. looked see g ∷ xs) put.new;
      }

  used_in : (slot : ℕ) (fs : List (GroupDevice P)) → AnyOf (λ n. n ≡ slot) (slots_of fs) → IsSlotUsed slot (map (looked see) fs)
  used_in slot [] any = any
  used_in slot (f ∷ fs) (inl is) = inl is
  used_in slot (f ∷ fs) (inr any) = inr (used_in slot fs any)

  pub used_at : (slot : ℕ) (fs ds : List (GroupDevice P)) → ds ≡ fs → AnyOf (λ n. n ≡ slot) (slots_of ds) → IsSlotUsed slot (map (looked see) fs)
  used_at slot fs ds same any = used_in slot fs (subst (λ (xs : List (GroupDevice P)). AnyOf (λ n. n ≡ slot) (slots_of xs)) same any)

  module _ (old new : List (GroupDevice P)) (place : ℕ) (found : GroupDevice P) (put : new ≡ insert old place found) where
    pub roomy_on : (room more : ℕ) (ds : List (GroupDevice P)) → AreRoomy room old → ds ≡ old → IsPlace place found.header.slot (slots_of ds) → room ≤ more → AreRoomy more new
    roomy_on room more ds roomy same at most = record {
      enough = let a = roomy.enough in omega (arith, a, most);
      rising = subst (λ (xs : List (GroupDevice P)). ArePlaced (slots_of xs)) (sym put) (placed_in old ds same place found roomy.rising at);
    }

    pub kept_on : found.readable ≡ true → IsKept found.device (label_of found.header) (see found.piece) (map (looked see) old) (map (looked see) new)
    kept_on readable = record {
      find = looked see found;
      name_is = refl;
      label_is = refl;
      seen_is = refl;
      readable = readable;
      put = subst (λ (xs : List (GroupDevice P)). IsPut (looked see found) (map (looked see) old) (map (looked see) xs)) (sym put) (put_looks old place found);
    }

pub all_on_put : (Q : Looked → Type 0) (f : Looked) (fs fs' : List Looked) → IsPut f fs fs' → Q f → AllOf Q fs → AllOf Q fs'
all_on_put Q f fs fs' put here all = subst (AllOf Q) (sym put.new) (all_put Q put.front f put.back here (subst (AllOf Q) put.old all))

pub any_on_put : (Q : Looked → Type 0) (f : Looked) (fs fs' : List Looked) → IsPut f fs fs' → AnyOf Q fs → AnyOf Q fs'
any_on_put Q f fs fs' put any = subst (AnyOf Q) (sym put.new) (behind put.front put.back (subst (AnyOf Q) put.old any))
  where
    behind : (xs ys : List Looked) → AnyOf Q (xs ++ ys) → AnyOf Q (xs ++ f ∷ ys)
    behind [] ys any = inr any
    behind (x ∷ xs) ys (inl is) = inl is
    behind (x ∷ xs) ys (inr any) = inr (behind xs ys any)

pub any_at_put : (Q : Looked → Type 0) (f : Looked) (fs fs' : List Looked) → IsPut f fs fs' → Q f → AnyOf Q fs'
any_at_put Q f fs fs' put here = subst (AnyOf Q) (sym put.new) (at put.front)
  where
    at : (xs : List Looked) → AnyOf Q (xs ++ f ∷ put.back)
    at [] = inl here
    at (x ∷ xs) = inr (at xs)

-- the header that was read is what the device tells
label_read : (told : Option Contents) (h : Header) (c : Contents) → told ≡ Some c → IfSome told (λ d. header_of (d 0) ≡ Some (label_of h)) → header_of (c 0) ≡ Some (label_of h)
label_read told h c e is = subst (λ (o : Option Contents). IfSome o (λ d. header_of (d 0) ≡ Some (label_of h))) e is

module _ (group name : Word) (h : Header) (seen after : Seen) (fs fs' : List Looked) (old new : Shelved) (kept : Keeps seen after) (same : IsRead seen after) (headed : IfSome seen.told (λ d. header_of (d 0) ≡ Some (label_of h))) where
  only_label : (other : Label) → IsNaming group other seen → other ≡ label_of h
  only_label other is = let e : header_of (is.contents 0) ≡ Some (label_of h) = label_read seen.told h is.contents is.told headed in let f = is.header in cc

  is_find : h.group ≡ group → h.sectors ≡ after.sectors → (k : IsKept name (label_of h) after fs fs') → IsFind group k.find
  is_find group_is size k = record {
    group_is = ap (λ (l : Label). l.group) k.label_is ∙ group_is;
    size = ap (λ (l : Label). l.sectors) k.label_is ∙ size ∙ sym (ap (λ (s : Seen). s.sectors) k.seen_is);
    headed = subst (λ (l : Label). IfSome k.find.seen.told (λ d. header_of (d 0) ≡ Some l)) (sym k.label_is) (subst (λ (s : Seen). IfSome s.told (λ d. header_of (d 0) ≡ Some (label_of h))) (sym k.seen_is) (subst (λ (o : Option Contents). IfSome o (λ d. header_of (d 0) ≡ Some (label_of h))) (sym same.told) headed));
    slot = let e = ap (λ (l : Label). l.slot) k.label_is in let b = h.slot_below in omega (arith, e, b);
    public = let e = ap (λ (l : Label). l.sectors) k.label_is in let b = h.public in omega (arith, e, b);
    readable = k.readable;
  }

  pub look_ends : KeepEnds group name (label_of h) after fs fs' old new → LookBy Done group name seen after fs fs' old new
  look_ends (inl (r, none, why)) = inl (
    r,
    none,
    λ other is.
        let e = only_label other is in
        inr (subst (λ (l : Label). IsSlotUsed l.slot fs) (sym e) (why (sym (ap (λ (l : Label). l.group) e) ∙ is.group_is) (sym (ap (λ (l : Label). l.sectors) e) ∙ is.size ∙ sym kept.sectors))),
  )
  look_ends (inr (still, group_is, size, k)) = inr (refl, still, record { label = label_of h; kept = k; is = is_find group_is size k; only = only_label })

  pub look_each : KeepEnds group name (label_of h) after fs fs' old new → AllOf (IsFind group) fs → AllOf (IsFind group) fs'
  look_each (inl (r, none, why)) all = subst (AllOf (IsFind group)) (sym none) all
  look_each (inr (still, group_is, size, k)) all = all_on_put (IsFind group) k.find fs fs' k.put (is_find group_is size k) all

both_true : (x y : Bool) → (x && y) ≡ true → (x ≡ true) × (y ≡ true)
both_true true y e = (refl, e)
both_true false y e = cc

-- a header that counts names the group and the size
module _ (name group : Word) (n m : ℕ) (b : Bool) (is : b ≡ (bytes_eq name group && n == m)) (counts : b ≡ true) where
  pub counted_group : name ≡ group
  counted_group = bytes_eq_same name group (both_true (bytes_eq name group) (n == m) (sym is ∙ counts)).0

  pub counted_size : n ≡ m
  counted_size = eqb-true n m (both_true (bytes_eq name group) (n == m) (sym is ∙ counts)).1
