-- A group of which no disk is parted.
use Rattle.std.proofs.Common.{◌≡◌, ◌≢◌, ◌∙◌, ℕ, ◌+◌, ◌==◌, ◌≤◌, Bool, true, false, if◌then◌else◌, List, [], ◌∷◌, ◌++◌, map, Option, refl, sym, ap, subst, arith}
use Rattle.std.specs.Str.{bytes_eq}
use Rattle.std.specs.List.{sum_by}
use Rattle.std.proofs.lemmas.List.Sums.{sum_by-cons}
use Rattle.vx_base.proofs.NamedLemmas.{bytes_eq_self}
use Rattle.vx_pages.specs.declared.local_piece.LocalPiece.{Ghosts}
use Rattle.vx_base.specs.Named.{Word}
use Rattle.vx_piece.specs.Seen.{Seen}
use Rattle.vx_carve.specs.Together.{AreOnce, covers, has, owners}
use Rattle.vx_copies.specs.Disks.{DiskSeen}
use Rattle.vx_copies.specs.Lists.{AllOf}
use Rattle.vx_confdb.specs.Groups.{members}
use Rattle.vx_fronts.specs.Parted.{AreParted, IsFront, fronts_of}
use Rattle.vx_fronts.specs.Parted.{IsWhole as IsWholeDisk}
use Rattle.vx_fronts.specs.Rests.{is_of}
use Rattle.vx_fronts.proofs.Parted.{parted_alone}
use Rattle.vx_fronts.proofs.Sectors.{other_lacks}
use Rattle.vx_lending.specs.Public.{lent_pieces, still_pieces}
use Rattle.vx_shelf.specs.Shelf.{Held, AreNumbered, held_as}
use Rattle.vx_house.specs.Holders.{Holder, AreApart, IsTakenFrom, holder_in}
use Rattle.vx_house.specs.View.{AreSized, IsGroupIdle, IsGroupWhole}
use Rattle.vx_house.specs.declared.house.Imported.{Imported}
use Rattle.vx_group_start.specs.Laying.{AreRunningVolumes, AreStuckVolumes}

same_number : (a b n : ℕ) → (a == n) ≡ true → (b == n) ≡ true → a ≡ b
same_number a b n e f = grind (arith, e, f)

module _ (held : Word → Option Held) (numbered : AreNumbered held) where
  -- two devices of two names have two numbers
  differ : (h g : DiskSeen) → IsTakenFrom held (holder_in h) → IsTakenFrom held (holder_in g) → bytes_eq h.device g.device ≡ false → (n : ℕ) → is_of n h.seen ≡ true → is_of n g.seen ≡ false
  differ h g th tg apart n one = by (is_of n g.seen) refl
    where
      by : (b : Bool) → is_of n g.seen ≡ b → is_of n g.seen ≡ false
      by false e = e
      by true e =
          let number : h.seen.device ≡ g.seen.device = same_number h.seen.device g.seen.device n one e in
          let name : h.device ≡ g.device = numbered h.device g.device (held_as h.seen) (held_as g.seen) th.1 tg.1 number in
          let same : bytes_eq h.device g.device ≡ true = subst (λ w. bytes_eq h.device w ≡ true) name (bytes_eq_self h.device) in
          cc

  none_of : (h : DiskSeen) (hs : List DiskSeen) → IsTakenFrom held (holder_in h) → AllOf (IsTakenFrom held) (map holder_in hs) → AllOf (λ o. bytes_eq h.device o.name ≡ false) (map holder_in hs) → (n k : ℕ) → is_of n h.seen ≡ true → owners n k (fronts_of hs) ≡ 0
  none_of h [] th each apart n k one = refl
  none_of h (g ∷ hs) th each apart n k one =
      let here = other_lacks g.seen n k (differ h g th each.0 apart.0 n one) in
      let there = none_of h hs th each.1 apart.1 n k one in
      let sum = sum_by-cons (has n k) g.seen (fronts_of hs) in
      omega (arith, here, there, sum)

  -- no sector is in two of them
  pub once_apart : (hs : List DiskSeen) → AllOf (IsTakenFrom held) (map holder_in hs) → AreApart (map holder_in hs) → AreOnce (fronts_of hs)
  once_apart [] each apart n k = omega arith
  once_apart (h ∷ hs) each apart n k = by (is_of n h.seen) refl (once_apart hs each.1 apart.1 n k)
    where
      sum : owners n k (fronts_of (h ∷ hs)) ≡ has n k h.seen + owners n k (fronts_of hs)
      sum = sum_by-cons (has n k) h.seen (fronts_of hs)

      few : (b : Bool) → (if b then 1 else 0) ≤ 1
      few true = omega arith
      few false = omega arith

      by : (b : Bool) → is_of n h.seen ≡ b → owners n k (fronts_of hs) ≤ 1 → owners n k (fronts_of (h ∷ hs)) ≤ 1
      by true e others = let rest = none_of h hs each.0 each.1 apart.0 n k e in let one = few (covers n k h.seen) in omega (arith, sum, rest, one)
      by false e others = let none = other_lacks h.seen n k e in omega (arith, sum, none, others)

  pub whole_apart : (hs : List DiskSeen) → AllOf IsFront hs → AllOf IsWholeDisk hs → AllOf (IsTakenFrom held) (map holder_in hs) → AreApart (map holder_in hs) → AreParted hs []
  whole_apart hs fronts whole each apart = parted_alone hs fronts whole (once_apart hs each apart)

  -- the last of them has another number than the others
  pub others_differ : (hs : List DiskSeen) (j : DiskSeen) → AllOf (IsTakenFrom held) (map holder_in (hs ++ j ∷ [])) → AreApart (map holder_in (hs ++ j ∷ [])) → AllOf (λ h. h.seen.device ≢ j.seen.device) hs
  others_differ [] j each apart = tt
  others_differ (h ∷ hs) j each apart = (one, others_differ hs j each.1 apart.1)
    where
      last : (Q : Holder → Type 0) (xs : List DiskSeen) → AllOf Q (map holder_in (xs ++ j ∷ [])) → Q (holder_in j)
      last Q [] all = all.0
      last Q (x ∷ xs) all = last Q xs all.1

      one : h.seen.device ≢ j.seen.device
      one same =
          let name : h.device ≡ j.device = numbered h.device j.device (held_as h.seen) (held_as j.seen) each.0.1 (last (IsTakenFrom held) hs each.1).1 same in
          let equal : bytes_eq h.device j.device ≡ true = subst (λ w. bytes_eq h.device w ≡ true) name (bytes_eq_self h.device) in
          let other : bytes_eq h.device j.device ≡ false = last (λ o. bytes_eq h.device o.name ≡ false) hs apart.0 in
          cc

  -- the devices of a group none of whose disks is parted can be joined: they are
  module _ {P : Type 0} {ghosts : Ghosts P} (see : P → Seen) (g : Imported P ghosts) (still : still_pieces see g.public ≡ []) (lent : lent_pieces see g.public ≡ []) (idle : IsGroupIdle g) where
    pub founded : AllOf IsFront (members see g.base) → AreSized (members see g.base) → AllOf (IsTakenFrom held) (map holder_in (members see g.base)) → AreApart (map holder_in (members see g.base)) → IsGroupWhole see g
    founded fronts sized each apart = record {
      parted = subst (AreParted (members see g.base)) (sym (ap (λ x. x ++ lent_pieces see g.public) still ∙ lent))
          (whole_apart (members see g.base) fronts sized each apart);
      volumes = subst (AreRunningVolumes see) (sym idle.running) tt;
      stuck = subst (AreStuckVolumes see) (sym idle.stuck) tt;
    }
