-- A group whose disks are parted otherwise can go on as before.
use Rattle.std.proofs.Common.{◌≡◌, ◌∙◌, ℕ, suc, ◌<◌, ◌≤◌, List, [], ◌∷◌, length, Option, Some, None, refl, sym, ap, subst, arith}
use Rattle.std.specs.Prelude.{IsTrue, MatchOption}
use Rattle.std.proofs.lemmas.List.{length-map}
use Rattle.vx_base.specs.Blocks.{Contents}
use Rattle.vx_base.specs.Named.{Word}
use Rattle.vx_header.specs.Named.{Label, header_of}
use Rattle.vx_header.specs.Said.{Said}
use Rattle.vx_piece.specs.Seen.{Seen}
use Rattle.vx_carve.specs.Together.{TellsFront}
use Rattle.vx_copies.specs.Image.{Offer, offer_told}
use Rattle.vx_copies.specs.Lists.{Each, AllOf}
use Rattle.vx_copies.specs.Disks.{DiskSeen, HasSlot, IsBelow, IsReady, NamesHalf, disk_seen}
use Rattle.vx_copies.specs.declared.writing.Lost.{Lost}
use Rattle.vx_confdb.specs.Groups.{IsAlive, IsGroup, IsMemberOf, members}
use Rattle.vx_confdb.specs.Prepare.{Says, label_in}
use Rattle.vx_confdb.specs.declared.group.Group.{Group}
use Rattle.vx_fronts.specs.Parted.{IsSameDisk}
use Rattle.vx_fronts.proofs.Contents.{offer_in_stays, toggle_stays}
use Rattle.vx_fronts.proofs.Parted.{all_onto}

names_same : (half : ℕ) (o u : Option Contents) → TellsFront 2048 o u → NamesHalf half o → NamesHalf half u
names_same half None u e named = subst (NamesHalf half) (sym e) tt
names_same half (Some c) None front named = tt
names_same half (Some c) (Some d) front named = subst (λ (s : Option Said). MatchOption s (Unit {0}) (λ t. t.half ≡ half)) (sym (toggle_stays c d front)) named

says_same : (label : Label) (o u : Option Contents) → TellsFront 2048 o u → Says label o → Says label u
says_same label None u e says = subst (Says label) (sym e) tt
says_same label (Some c) None front says = tt
says_same label (Some c) (Some d) front says = ap header_of (front 0 (omega arith)) ∙ says

below_same : (group : Word) (last : ℕ) (o u : Option Contents) → TellsFront 2048 o u → MatchOption (offer_told group o) (Unit {0}) (λ x. x.sequence ≤ last) → MatchOption (offer_told group u) (Unit {0}) (λ x. x.sequence ≤ last)
below_same group last None u e below = subst (λ (v : Option Contents). MatchOption (offer_told group v) (Unit {0}) (λ x. x.sequence ≤ last)) (sym e) tt
below_same group last (Some c) None front below = tt
below_same group last (Some c) (Some d) front below = subst (λ (x : Option Offer). MatchOption x (Unit {0}) (λ y. y.sequence ≤ last)) (sym (offer_in_stays c d front group)) below

ready_same : (a b : DiskSeen) → IsSameDisk a b → IsReady a → IsReady b
ready_same a b is ready = record {
  slot = subst (λ n. n < 32) (sym is.slot) ready.slot;
  half = subst (λ n. n < 2) (sym is.half) ready.half;
  sectors = is.private ready.sectors;
  names = λ good. subst (λ n. NamesHalf n b.seen.told) (sym is.half) (names_same a.half a.seen.told b.seen.told is.told (ready.names (subst IsTrue is.good good)));
}

member_same : (group : Word) (a b : DiskSeen) → IsSameDisk a b → IsMemberOf group a → IsMemberOf group b
member_same group a b is member = λ good.
    let label : label_in group b ≡ label_in group a = λ i. record { group = group; disk = is.name i; slot = is.slot i; sectors = is.size i } in
    subst (λ l. Says l b.seen.told) (sym label) (says_same (label_in group a) a.seen.told b.seen.told is.told (member (subst IsTrue is.good good)))

each_length : (R : DiskSeen → DiskSeen → Type 0) (hs bs : List DiskSeen) → Each R hs bs → length bs ≡ length hs
each_length R [] [] each = refl
each_length R [] (b ∷ bs) each = absurd each
each_length R (a ∷ hs) [] each = absurd each
each_length R (a ∷ hs) (b ∷ bs) each = ap (λ n. suc n) (each_length R hs bs each.1)

module _ {P : Type 0} (see : P → Seen) (old new : Group P) (name : new.name ≡ old.name) (lost : new.lost ≡ old.lost) (sequence : new.sequence ≡ old.sequence) (each : Each IsSameDisk (members see old) (members see new)) where
  alive_same : IsAlive see old → IsAlive see new
  alive_same alive = record {
    ready = all_onto IsSameDisk IsReady IsReady ready_same (members see old) (members see new) each alive.ready;
    headed = subst (λ group. AllOf (IsMemberOf group) (members see new)) (sym name) (all_onto IsSameDisk (IsMemberOf old.name) (IsMemberOf old.name) (member_same old.name) (members see old) (members see new) each alive.headed);
    below = subst (λ group. AllOf (IsBelow group new.sequence) (members see new)) (sym name) (subst (λ n. AllOf (IsBelow old.name n) (members see new)) (sym sequence)
        (all_onto IsSameDisk (IsBelow old.name old.sequence) (IsBelow old.name old.sequence) (λ a b is. below_same old.name old.sequence a.seen.told b.seen.told is.told) (members see old) (members see new) each alive.below));
    few =
        let long = each_length IsSameDisk (members see old) (members see new) each in
        let long' = length-map new.disks.items (disk_seen see) in
        let long'' = length-map old.disks.items (disk_seen see) in
        let most = alive.few in
        omega (arith, long, long', long'', most);
  }

  slots_same : AllOf HasSlot (members see old) → AllOf HasSlot (members see new)
  slots_same slots = all_onto IsSameDisk HasSlot HasSlot (λ a b is slot. subst (λ n. n < 32) (sym is.slot) slot) (members see old) (members see new) each slots

  pub group_same : IsGroup see old → IsGroup see new
  group_same is = subst (λ (l : Option Lost). MatchOption l (IsAlive see new) (λ x. AllOf HasSlot (members see new))) (sym lost) (by old.lost is)
    where
      by : (l : Option Lost) → MatchOption l (IsAlive see old) (λ x. AllOf HasSlot (members see old)) → MatchOption l (IsAlive see new) (λ x. AllOf HasSlot (members see new))
      by None alive = alive_same alive
      by (Some x) slots = slots_same slots
