-- Devices that were found, before and after their toggles are read.
use Rattle.std.proofs.Common.{◌≡◌, ◌∙◌, ℕ, ◌<◌, ◌≤◌, Option, Some, Vec, Global, List, [], ◌∷◌, ◌++◌, map, length, refl, sym, ap, subst, arith, inl, inr}
use Rattle.std.specs.Prelude.{IfSome}
use Rattle.std.specs.Vec.{with_items}
use Rattle.std.proofs.lemmas.List.{with_items_is}
use Rattle.vx_base.specs.Blocks.{Contents}
use Rattle.vx_base.specs.Named.{Word}
use Rattle.vx_header.specs.Named.{Label, header_of}
use Rattle.vx_piece.specs.Seen.{Seen}
use Rattle.vx_shelf.specs.Shelf.{Held}
use Rattle.vx_copies.specs.Lists.{Each, AllOf}
use Rattle.vx_import.specs.Looks.{Looked, looked, IsPrivate}
use Rattle.vx_import.specs.Toggles.{Inspects, IsUnread}
use Rattle.vx_import.specs.Answers.{IsOf, IsRising}
use Rattle.vx_import.specs.declared.device.GroupDevice.{GroupDevice}
use Rattle.vx_stages.specs.Finding.{IsUpTo}
use Rattle.vx_house.specs.Holders.{Holder, held_as, AreApart, AreHeld}
use Rattle.vx_house.proofs.Holders.{later_held}
use Rattle.vx_house.proofs.AllLaws.{all_back, all_unmapped, held_each}
use Rattle.vx_stage_import.specs.Places.{slots_of, ArePlaced}
use Rattle.vx_stage_import.specs.Finds.{holder_of, holders_of, HasSlot, IsFind, IsOfGroup, AreFinds, AreLooked}
use Rattle.vx_stage_import.proofs.Places.{all_low, few, slots_long}
use Rattle.vx_house.proofs.Steps.{IsStep}
use Rattle.vx_house.proofs.Readings.{IsReadOn, each_behind, each_later}

each_long : {P : Type 0} (see : P → Seen) (ds es : List (GroupDevice P)) → Each Inspects (map (looked see) ds) (map (looked see) es) → length ds ≡ length es
each_long see [] [] each = refl
each_long see [] (e ∷ es) each = absurd each
each_long see (d ∷ ds) [] each = absurd each
each_long see (d ∷ ds) (e ∷ es) each = let rest = each_long see ds es each.1 in omega (arith, rest)

same_slots : {P : Type 0} (see : P → Seen) (ds es : List (GroupDevice P)) → Each Inspects (map (looked see) ds) (map (looked see) es) → slots_of es ≡ slots_of ds
same_slots see [] [] each = refl
same_slots see [] (e ∷ es) each = absurd each
same_slots see (d ∷ ds) [] each = absurd each
same_slots see (d ∷ ds) (e ∷ es) each = ap (λ (l : Label). l.slot ∷ slots_of es) each.0.label ∙ ap (λ ns. d.header.slot ∷ ns) (same_slots see ds es each.1)

-- the devices as they were read
module _ {P : Type 0} (see : P → Seen) (v : Vec (GroupDevice P) Global) (ds ws : List (GroupDevice P)) (same : ds ≡ v.items) (each : Each Inspects (map (looked see) ds) (map (looked see) ws)) where
  each_read : Each Inspects (map (looked see) v.items) (map (looked see) ws)
  each_read = subst (λ (xs : List (GroupDevice P)). Each Inspects (map (looked see) xs) (map (looked see) ws)) same each

  written : (with_items v ws).items ≡ ws
  written = with_items_is v ws (let a = each_long see v.items ws each_read in let b = v.ok.0 in omega (arith, a, b))

  pub each_written : Each Inspects (map (looked see) v.items) (map (looked see) (with_items v ws).items)
  each_written = subst (λ (xs : List (GroupDevice P)). Each Inspects (map (looked see) v.items) (map (looked see) xs)) (sym written) each_read

  pub read_as : (Q : List Looked → Type 0) → Q (map (looked see) ws) → Q (map (looked see) (with_items v ws).items)
  read_as Q is = subst (λ (xs : List (GroupDevice P)). Q (map (looked see) xs)) (sym written) is

-- one of the group stays so
one_of : (group : Word) (f g : Looked) → IsFind group f → Inspects f g → IsOfGroup group g
one_of group f g is went = record {
  group_is = ap (λ (l : Label). l.group) went.label ∙ is.group_is;
  size = ap (λ (l : Label). l.sectors) went.label ∙ is.size ∙ sym went.kept.sectors;
  headed = subst (λ (l : Label). IfSome g.seen.told (λ d. header_of (d 0) ≡ Some l)) (sym went.label) (subst (λ (o : Option Contents). IfSome o (λ d. header_of (d 0) ≡ Some f.label)) (sym went.same.told) is.headed);
  slot = let e = ap (λ (l : Label). l.slot) went.label in let b = is.slot in omega (arith, e, b);
  public = let e = ap (λ (l : Label). l.sectors) went.label in let b = is.public in omega (arith, e, b);
}

each_of : (group : Word) (fs gs : List Looked) → AllOf (IsFind group) fs → Each Inspects fs gs → AllOf (IsOfGroup group) gs
each_of group [] [] all each = tt
each_of group [] (g ∷ gs) all each = absurd each
each_of group (f ∷ fs) [] all each = absurd each
each_of group (f ∷ fs) (g ∷ gs) all each = (one_of group f g all.0 each.0, each_of group fs gs all.1 each.1)

of_finds : (group : Word) (fs : List Looked) → AllOf (IsFind group) fs → AllOf (IsOf group) fs
of_finds group [] all = tt
of_finds group (f ∷ fs) all = (record { group_is = all.0.group_is; headed = all.0.headed }, of_finds group fs all.1)

private_finds : (group : Word) (fs : List Looked) → AllOf (IsFind group) fs → AllOf IsPrivate fs
private_finds group [] all = tt
private_finds group (f ∷ fs) all = (let a = all.0.public in let b = all.0.size in omega (arith, a, b), private_finds group fs all.1)

unread_finds : (group : Word) (fs : List Looked) → AllOf (IsFind group) fs → AllOf IsUnread fs
unread_finds group [] all = tt
unread_finds group (f ∷ fs) all = (all.0.readable, unread_finds group fs all.1)

module _ {P : Type 0} (see : P → Seen) where
  above_looks : (slot : ℕ) (es : List (GroupDevice P)) → AllOf (λ m. slot < m) (slots_of es) → AllOf (λ g. slot < g.label.slot) (map (looked see) es)
  above_looks slot [] all = tt
  above_looks slot (e ∷ es) all = (all.0, above_looks slot es all.1)

  rising_looks : (ds : List (GroupDevice P)) → ArePlaced (slots_of ds) → IsRising (map (looked see) ds)
  rising_looks [] placed = tt
  rising_looks (d ∷ ds) placed = (above_looks d.header.slot ds placed.0, rising_looks ds placed.1)

  -- before their toggles are read
  module _ (group : Word) (room : ℕ) (fs : List (GroupDevice P)) (are : AreFinds see group room fs) where
    pub few_found : length fs ≤ 32
    few_found = let a = few (slots_of fs) (all_low fs) are.roomy.rising in let b = slots_long fs in omega (arith, a, b)

    module _ (ds : List (GroupDevice P)) (same : ds ≡ fs) where
      pub few_at : length ds ≤ 32
      few_at = subst (λ (xs : List (GroupDevice P)). length xs ≤ 32) (sym same) few_found

      pub private_at : AllOf IsPrivate (map (looked see) ds)
      private_at = subst (λ (xs : List (GroupDevice P)). AllOf IsPrivate (map (looked see) xs)) (sym same) (private_finds group (map (looked see) fs) are.each)

      pub unread_at : AllOf IsUnread (map (looked see) ds)
      unread_at = subst (λ (xs : List (GroupDevice P)). AllOf IsUnread (map (looked see) xs)) (sym same) (unread_finds group (map (looked see) fs) are.each)

      pub rising_at : IsRising (map (looked see) ds)
      rising_at = subst (λ (xs : List (GroupDevice P)). IsRising (map (looked see) xs)) (sym same) (rising_looks fs are.roomy.rising)

      pub of_at : AllOf (IsOf group) (map (looked see) ds)
      of_at = subst (λ (xs : List (GroupDevice P)). AllOf (IsOf group) (map (looked see) xs)) (sym same) (of_finds group (map (looked see) fs) are.each)

    -- once they are read
    pub are_looked : (gs : List (GroupDevice P)) → Each Inspects (map (looked see) fs) (map (looked see) gs) → AreLooked see group gs
    are_looked gs each = record {
      rising = subst ArePlaced (sym (same_slots see fs gs each)) are.roomy.rising;
      each = each_of group (map (looked see) fs) (map (looked see) gs) are.each each;
    }

-- as many are found once they are read
pub few_looked : {P : Type 0} (see : P → Seen) (group : Word) (gs : List (GroupDevice P)) → AreLooked see group gs → length gs ≤ 32
few_looked see group gs are = let a = few (slots_of gs) (all_low gs) are.rising in let b = slots_long gs in omega (arith, a, b)

-- each of them is held under its own name
pub held_finds : (others : List Holder) (fs : List Looked) → AreApart (others ++ holders_of fs) → AllOf (λ f. held_as (others ++ holders_of fs) f.device ≡ Some f.seen) fs
held_finds others fs apart =
    let all = held_each (others ++ holders_of fs) apart in
    all_unmapped (λ o. held_as (others ++ holders_of fs) o.name ≡ Some o.seen) holder_of fs (all_back (λ o. held_as (others ++ holders_of fs) o.name ≡ Some o.seen) others (holders_of fs) all)

pub read_each : (fs gs : List Looked) → Each Inspects fs gs → Each (IsStep IsReadOn) (holders_of fs) (holders_of gs)
read_each [] [] each = tt
read_each [] (g ∷ gs) each = absurd each
read_each (f ∷ fs) [] each = absurd each
read_each (f ∷ fs) (g ∷ gs) each = (record { name = each.0.device; goes = record { kept = each.0.kept; same = each.0.same } }, read_each fs gs each.1)

pub slot_inspected : (fs gs : List Looked) → Each Inspects fs gs → (slot : ℕ) (name : Word) → HasSlot slot name fs → HasSlot slot name gs
slot_inspected [] [] each slot name has = has
slot_inspected [] (g ∷ gs) each slot name has = absurd each
slot_inspected (f ∷ fs) [] each slot name has = absurd each
slot_inspected (f ∷ fs) (g ∷ gs) each slot name (inl is) = inl (ap (λ (l : Label). l.slot) each.0.label ∙ is.0, subst (λ n. IsUpTo n name) (sym each.0.device) is.1)
slot_inspected (f ∷ fs) (g ∷ gs) each slot name (inr has) = inr (slot_inspected fs gs each.1 slot name has)

-- they are held as before
pub held_inspected : (held : Word → Option Held) (others : List Holder) (fs gs : List Looked) → Each Inspects fs gs → AreHeld held (others ++ holders_of fs) → AreHeld held (others ++ holders_of gs)
held_inspected held others fs gs each are = later_held held (others ++ holders_of fs) (others ++ holders_of gs) (each_later (others ++ holders_of fs) (others ++ holders_of gs) (each_behind others (holders_of fs) (holders_of gs) (read_each fs gs each))) are
