-- The facts of a shelf with a power switch, as a device comes back, and at the start; and what it shows once the power is back.
use Rattle.std.proofs.Common.{◌≡◌, ◌∙◌, ℕ, ◌≤◌, Bool, true, false, not, ◌||◌, ◌&&◌, is_some, IfSome, List, map, Option, Some, None, refl, sym, ap, subst, inl, inr, arith}
use Rattle.std.specs.Option.{option_map}
use Rattle.std.specs.Str.{bytes_eq}
use Rattle.vx_base.specs.Named.{Word, put}
use Rattle.vx_base.proofs.NamedLemmas.{put_same, put_other, name_cases}
use Rattle.vx_piece.specs.Seen.{Seen}
use Rattle.vx_shelf.specs.Shelf.{Held, held_as, IsGiven, ComesToShelf, IsUsed}
use Rattle.vx_shelf.specs.Listed.{Lists}
use Rattle.vx_power.specs.declared.board.Wire.{Wire}
use Rattle.vx_power.specs.declared.board.Acted.{Acted}
use Rattle.vx_power.specs.declared.views.View.{View}
use Rattle.vx_power.specs.Fused.{grown, powerless, powered_by, wired}
use Rattle.vx_power.proofs.BerthLemmas.{or_true, or_also, listed_berth}
use Rattle.vx_power.specs.Berths.{Berth, has_berth, gone_in, is_gone, empty_berth}
use Rattle.vx_power.specs.Shown.{returned, shown_free, is_told, is_known, is_free}
use Rattle.vx_power.specs.Returned.{HasPower, IsReturned, AreReturned}

told_other : (name other : Word) (seen : Seen) (free after : Option (Word → Option Seen)) → ComesToShelf name seen free after → bytes_eq name other ≡ false → is_told after other ≡ is_told free other
told_other name other seen None None back differ = refl
told_other name other seen None (Some new) back differ = absurd back
told_other name other seen (Some old) None back differ = absurd back
told_other name other seen (Some old) (Some new) back differ = ap is_some (back other ∙ put_other name other (Some seen) old differ)

free_here : (name : Word) (seen : Seen) (free after : Option (Word → Option Seen)) (held : Word → Option Held) → ComesToShelf name seen free after → held name ≡ None → is_free after held name ≡ true
free_here name seen None None held back none = ap (λ h. not (is_some h)) none
free_here name seen None (Some new) held back none = absurd back
free_here name seen (Some old) None held back none = absurd back
free_here name seen (Some old) (Some new) held back none = λ i. is_some (let e : new name ≡ Some seen = back name ∙ put_same name (Some seen) old in e i) && not (is_some (none i))

free_other : (name other : Word) (seen : Seen) (free after : Option (Word → Option Seen)) (held then_held : Word → Option Held) → ComesToShelf name seen free after → bytes_eq name other ≡ false → then_held other ≡ held other
    → is_free after then_held other ≡ is_free free held other
free_other name other seen None None held then_held back differ same = ap (λ h. not (is_some h)) same
free_other name other seen None (Some new) held then_held back differ same = absurd back
free_other name other seen (Some old) None held then_held back differ same = absurd back
free_other name other seen (Some old) (Some new) held then_held back differ same = λ i. is_some (let e : new other ≡ old other = back other ∙ put_other name other (Some seen) old differ in e i) && not (is_some (same i))

-- a device comes back
module _ (free after : Option (Word → Option Seen)) (held then_held : Word → Option Held) (bs new : List Berth) (name : Word) (kept : Option Wire) (seen : Seen) where
  module _ (given : IsGiven name held then_held) (back : ComesToShelf name seen free after) where
    pub given_berthed : held name ≡ Some (held_as seen) → ((other : Word) → has_berth new other ≡ has_berth bs other)
        → ((other : Word) → is_known free held other ≡ true → has_berth bs other ≡ true) → (other : Word) → is_known after then_held other ≡ true → has_berth new other ≡ true
    given_berthed out same berthed other known = same other ∙ elim (name_cases name other) [
      | inl is ↦ subst (λ (n : Word). has_berth bs n ≡ true) is (berthed name (or_also (is_told free name) (is_some (held name)) (ap is_some out)))
      | inr differ ↦ berthed other ((λ i. sym (told_other name other seen free after back differ) i || is_some (sym (given other ∙ put_other name other None held differ) i)) ∙ known)
    ]

    pub given_free : ((other : Word) → gone_in new other ≡ put name kept (gone_in bs) other)
        → ((other : Word) → is_gone bs other ≡ true → is_free free held other ≡ true) → (other : Word) → is_gone new other ≡ true → is_free after then_held other ≡ true
    given_free gone unheld other is_there = elim (name_cases name other) [
      | inl is ↦ subst (λ (n : Word). is_free after then_held n ≡ true) is (free_here name seen free after then_held back (given name ∙ put_same name None held))
      | inr differ ↦ free_other name other seen free after held then_held back differ (given other ∙ put_other name other None held differ) ∙ unheld other (ap is_some (sym (gone other ∙ put_other name other kept (gone_in bs) differ)) ∙ is_there)
    ]

  pub given_untold : ComesToShelf name seen free after → is_some free ≡ false → is_some after ≡ false
  given_untold back none = by_cases free after back none
    where
      by_cases : (x y : Option (Word → Option Seen)) → ComesToShelf name seen x y → is_some x ≡ false → is_some y ≡ false
      by_cases None None back none = refl
      by_cases None (Some y) back none = absurd back
      by_cases (Some x) None back none = refl
      by_cases (Some x) (Some y) back none = none

-- the flag is up where a device is gone
pub given_flagged : (bs new : List Berth) (name : Word) (kept : Option Wire) (before more : Bool) → more ≡ is_some kept → ((other : Word) → gone_in new other ≡ put name kept (gone_in bs) other)
    → ((other : Word) → is_gone bs other ≡ true → before ≡ true) → (other : Word) → is_gone new other ≡ true → (before || more) ≡ true
given_flagged bs new name kept before more is_more gone flagged other is_there = elim (name_cases name other) [
  | inl is ↦ or_also before more (is_more ∙ ap is_some (sym (put_same name kept (gone_in bs))) ∙ ap is_some (sym (gone name)) ∙ subst (λ (n : Word). is_gone new n ≡ true) (sym is) is_there)
  | inr differ ↦ or_true before more (flagged other (ap is_some (sym (gone other ∙ put_other name other kept (gone_in bs) differ)) ∙ is_there))
]

-- what is known stays so
pub known_before : (free after : Option (Word → Option Seen)) (held then_held : Word → Option Held) (name : Word) → after ≡ free → then_held name ≡ held name → is_known after then_held name ≡ true → is_known free held name ≡ true
known_before free after held then_held name stays same known = (λ i. is_told (sym stays i) name || is_some (sym same i)) ∙ known

used_of_known : (devices : Word → Option Seen) (held : Word → Option Held) (name : Word) → is_known (Some devices) held name ≡ true → IsUsed name devices held
used_of_known devices held name known = by_test (is_some (devices name)) refl known
  where
    by_test : (b : Bool) → is_some (devices name) ≡ b → (b || is_some (held name)) ≡ true → IsUsed name devices held
    by_test true is known = inl is
    by_test false is known = inr known

-- each device that is told has a berth at first
pub listed_berthed : (names : List Word) (free : Option (Word → Option Seen)) (held : Word → Option Held) → ((name : Word) → held name ≡ None) → IfSome free (λ devices. Lists names devices held)
    → (name : Word) → is_known free held name ≡ true → has_berth (map empty_berth names) name ≡ true
listed_berthed names None held none all name known = cc (known, ap is_some (none name))
listed_berthed names (Some devices) held none all name known = listed_berth names name ∙ (all name).1 (used_of_known devices held name known)

no_less : (count more : ℕ) → count ≤ grown count more
no_less count more = omega arith

-- with its power back it is the same device
has_power : (wire : Wire) (seen : Seen) → HasPower (powerless wire.seat.me.0 seen) seen
has_power wire seen = record { device = refl; start = refl; sectors = refl; told = refl; faults = refl; stop = refl; writes = no_less seen.writes _; reads = no_less seen.reads _; cut = refl }

is_returned : (gone now : Option Wire) (device : Option Seen) → now ≡ None → (is_some gone ≡ true → is_some device ≡ true) → IsReturned (is_some gone) (option_map (returned gone) device) (option_map (returned now) device)
is_returned None now device none unheld = ap (λ (w : Option Wire). option_map (returned w) device) none
is_returned (Some wire) now None none unheld = cc (unheld refl)
is_returned (Some wire) None (Some seen) none unheld = has_power wire seen
is_returned (Some wire) (Some other) (Some seen) none unheld = cc

and_left : (a b : Bool) → (a && b) ≡ true → a ≡ true
and_left true b e = refl
and_left false b e = e

-- so it is of all devices
pub all_returned : (bs new : List Berth) (free : Option (Word → Option Seen)) (held : Word → Option Held) → ((name : Word) → gone_in new name ≡ None) → ((name : Word) → is_gone bs name ≡ true → is_free free held name ≡ true)
    → AreReturned (is_gone bs) (shown_free (gone_in bs) free) (shown_free (gone_in new) free)
all_returned bs new None held none unheld = tt
all_returned bs new (Some devices) held none unheld = λ name. is_returned (gone_in bs name) (gone_in new name) (devices name) (none name) (λ gone. and_left _ (not (is_some (held name))) (unheld name gone))

powered_held : (acted : Option Acted) (view : View) (seen : Seen) → held_as (powered_by acted view seen) ≡ held_as seen
powered_held None view seen = refl
powered_held (Some acted) view seen = refl

-- a switch changes neither the number nor the sectors
pub wired_held : (wire : Option Wire) (seen : Seen) → held_as (wired wire seen) ≡ held_as seen
wired_held None seen = refl
wired_held (Some wire) seen = powered_held wire.acted wire.seat.me.0 seen
