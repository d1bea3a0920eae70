-- Disks of which the fronts are other pieces, and tell of their private regions what the others did, carry what those carried.
use Rattle.std.proofs.Common.{◌≡◌, ◌∙◌, inl, inr, ℕ, ◌<◌, Bool, cond, ◌||◌, ◌&&◌, ◌==◌, List, [], ◌∷◌, map, Option, Some, None, refl, sym, ap, subst, arith}
use Rattle.std.specs.Prelude.{is_some, IsTrue, MatchOption}
use Rattle.vx_base.specs.Blocks.{Contents}
use Rattle.vx_base.specs.Named.{Word}
use Rattle.vx_header.specs.Named.{header_of}
use Rattle.vx_piece.specs.Seen.{Seen}
use Rattle.vx_carve.specs.Together.{TellsFront}
use Rattle.vx_mask.specs.Mask.{only, union}
use Rattle.vx_copies.specs.Commit.{AllOffer}
use Rattle.vx_copies.specs.Config.{GivesNew, HasGoodMask, IsReadableGood, configuration, offers_of}
use Rattle.vx_copies.specs.Disks.{DiskSeen, IsMember, IsNew, IsOffer, disk_seen, good_mask, is_good_slot}
use Rattle.vx_copies.specs.Image.{Offer, highest, names_group, offer_of, offer_told}
use Rattle.vx_copies.specs.Lists.{AllOf, AnyOf, Each}
use Rattle.vx_copies.specs.declared.disk.Disk.{Disk}
use Rattle.vx_fronts.specs.Parted.{IsSameDisk}
use Rattle.vx_fronts.proofs.Contents.{offer_in_stays, offer_stays}

-- both tell their private region, and the same of it, or neither tells anything
abbrev pub SameFront : Option Contents → Option Contents → Type 0
SameFront None None = Unit {0}
SameFront None (Some d) = ⊥
SameFront (Some c) None = ⊥
SameFront (Some c) (Some d) = (k : ℕ) → k < 2048 → d k ≡ c k

front_told : (o u : Option Contents) → TellsFront 2048 o u → is_some u ≡ is_some o → SameFront o u
front_told None None e same = tt
front_told None (Some d) e same = let no : ⊥ = cc in absurd no
front_told (Some c) None e same = let no : ⊥ = cc in absurd no
front_told (Some c) (Some d) e same = e

-- the same disk, that tells as much of its private region
pub record IsSameTold (a b : DiskSeen) : Type 0 where
  pub disk : IsSameDisk a b
  pub front : SameFront a.seen.told b.seen.told

-- all pieces tell, or none does
pub each_told : {P : Type 0} (see : P → Seen) → ((p q : P) → is_some (see p).told ≡ is_some (see q).told) → (ds es : List (Disk P)) → Each IsSameDisk (map (disk_seen see) ds) (map (disk_seen see) es) →
    Each IsSameTold (map (disk_seen see) ds) (map (disk_seen see) es)
each_told see alike [] [] each = tt
each_told see alike [] (e ∷ es) each = absurd each
each_told see alike (d ∷ ds) [] each = absurd each
each_told see alike (d ∷ ds) (e ∷ es) each =
    (record { disk = each.0; front = front_told (see d.piece).told (see e.piece).told each.0.told (alike e.piece d.piece) }, each_told see alike ds es each.1)

-- ---- one disk

offer_same : (group : Word) (o u : Option Contents) → SameFront o u → offer_told group u ≡ offer_told group o
offer_same group None None is = refl
offer_same group None (Some d) is = absurd is
offer_same group (Some c) None is = absurd is
offer_same group (Some c) (Some d) is = offer_in_stays c d is group

member_back : (group : Word) (o u : Option Contents) → SameFront o u → IsMember group u → IsMember group o
member_back group None None is member = member
member_back group None (Some d) is member = absurd is
member_back group (Some c) None is member = absurd is
member_back group (Some c) (Some d) is member = ap (λ s. names_group group (header_of s)) (sym (is 0 (omega arith))) ∙ member

offers_same : (x : Offer) (o u : Option Contents) → SameFront o u → MatchOption o (Unit {0}) (λ contents. offer_of contents ≡ Some x) → MatchOption u (Unit {0}) (λ contents. offer_of contents ≡ Some x)
offers_same x None None is offers = tt
offers_same x None (Some d) is offers = absurd is
offers_same x (Some c) None is offers = absurd is
offers_same x (Some c) (Some d) is offers = offer_stays c d is ∙ offers

-- ---- lists

slots_same : (slot : ℕ) (hs ks : List DiskSeen) → Each IsSameTold hs ks → is_good_slot slot ks ≡ is_good_slot slot hs
slots_same slot [] [] each = refl
slots_same slot [] (k ∷ ks) each = absurd each
slots_same slot (h ∷ hs) [] each = absurd each
slots_same slot (h ∷ hs) (k ∷ ks) each =
    ap (λ b. (b && k.slot == slot) || is_good_slot slot ks) each.0.disk.good ∙ ap (λ (n : ℕ). (h.good && n == slot) || is_good_slot slot ks) each.0.disk.slot
    ∙ ap (λ b. (h.good && h.slot == slot) || b) (slots_same slot hs ks each.1)

pub mask_same : (hs ks : List DiskSeen) → Each IsSameTold hs ks → good_mask ks ≡ good_mask hs
mask_same [] [] each = refl
mask_same [] (k ∷ ks) each = absurd each
mask_same (h ∷ hs) [] each = absurd each
mask_same (h ∷ hs) (k ∷ ks) each =
    ap (λ b. cond b (union (good_mask ks) (only k.slot)) (good_mask ks)) each.0.disk.good
    ∙ ap (λ n. cond h.good (union (good_mask ks) (only n)) (good_mask ks)) each.0.disk.slot
    ∙ ap (λ m. cond h.good (union m (only h.slot)) m) (mask_same hs ks each.1)

offers_all : (group : Word) (readable : ℕ → Bool) (hs ks : List DiskSeen) → Each IsSameTold hs ks → offers_of group readable ks ≡ offers_of group readable hs
offers_all group readable [] [] each = refl
offers_all group readable [] (k ∷ ks) each = absurd each
offers_all group readable (h ∷ hs) [] each = absurd each
offers_all group readable (h ∷ hs) (k ∷ ks) each =
    ap (λ s. cond (readable s) (offer_told group k.seen.told) None ∷ offers_of group readable ks) each.0.disk.slot
    ∙ ap (λ x. cond (readable h.slot) x None ∷ offers_of group readable ks) (offer_same group h.seen.told k.seen.told each.0.front)
    ∙ ap (λ xs. cond (readable h.slot) (offer_told group h.seen.told) None ∷ xs) (offers_all group readable hs ks each.1)

readable_back : (group : Word) (readable : ℕ → Bool) (hs ks : List DiskSeen) → Each IsSameTold hs ks → AnyOf (IsReadableGood group readable) ks → AnyOf (IsReadableGood group readable) hs
readable_back group readable [] [] each any = any
readable_back group readable [] (k ∷ ks) each any = absurd each
readable_back group readable (h ∷ hs) [] each any = absurd each
readable_back group readable (h ∷ hs) (k ∷ ks) each (inl is) =
    inl (ap readable (sym each.0.disk.slot) ∙ is.0, subst IsTrue each.0.disk.good is.1, member_back group h.seen.told k.seen.told each.0.front is.2)
readable_back group readable (h ∷ hs) (k ∷ ks) each (inr any) = inr (readable_back group readable hs ks each.1 any)

each_offer : (sequence mask : ℕ) (text : List ℕ) (hs ks : List DiskSeen) → Each IsSameTold hs ks → AllOf (IsOffer sequence mask text) hs → AllOf (IsOffer sequence mask text) ks
each_offer sequence mask text [] [] each all = tt
each_offer sequence mask text [] (k ∷ ks) each all = absurd each
each_offer sequence mask text (h ∷ hs) [] each all = absurd each
each_offer sequence mask text (h ∷ hs) (k ∷ ks) each all =
    ((λ good. offers_same (record { sequence = sequence; good = mask; text = text }) h.seen.told k.seen.told each.0.front (all.0 (subst IsTrue each.0.disk.good good))), each_offer sequence mask text hs ks each.1 all.1)

-- they offer the text still, ..
pub offers_still : (sequence : ℕ) (text : List ℕ) (hs ks : List DiskSeen) → Each IsSameTold hs ks → AllOffer sequence text hs → AllOffer sequence text ks
offers_still sequence text hs ks each is = record {
  mask = is.mask;
  names = λ slot. is.names slot ∙ sym (slots_same slot hs ks each);
  just = is.just ∙ sym (mask_same hs ks each);
  each = each_offer sequence is.mask text hs ks each is.each;
}

-- .. and give it, whichever can be read
pub gives_still : (group : Word) (first last : ℕ) (text : List ℕ) (hs ks : List DiskSeen) → Each IsSameTold hs ks → GivesNew group first last text hs → GivesNew group first last text ks
gives_still group first last text hs ks each gives readable any =
    let same : configuration group readable hs ≡ configuration group readable ks = ap highest (sym (offers_all group readable hs ks each)) in
    let there = gives readable (readable_back group readable hs ks each any) in
    (subst (IsNew first last text) same there.0, subst (HasGoodMask ks) same (masked (configuration group readable hs) there.1))
  where
    masked : (o : Option Offer) → HasGoodMask hs o → HasGoodMask ks o
    masked None is = absurd is
    masked (Some x) is = is ∙ sym (mask_same hs ks each)
