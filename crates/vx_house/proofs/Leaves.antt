-- A house that gives back its hand, its group and its volumes.
use Rattle.std.proofs.Common.{◌≡◌, ◌∙◌, List, [], ◌++◌, map, refl, sym, ap, subst, append_assoc}
use Rattle.std.proofs.lemmas.List.{append-nil}
use Rattle.std.specs.BTreeMap.{BTreeMap}
use Rattle.std.specs.Global.{Vec}
use Rattle.vx_pages.specs.declared.local_piece.LocalPiece.{Ghosts}
use Rattle.vx_base.specs.Named.{Word}
use Rattle.vx_piece.specs.Seen.{Seen}
use Rattle.vx_started.specs.declared.started.Started.{Started}
use Rattle.vx_house.specs.Closing.{GivesHand, GivesGroup, GivesVolumes, KeepsGroup}
use Rattle.vx_house.specs.Holders.{Holder, AreHeld, holders, volume_holder, group_holders, hand_holder}
use Rattle.vx_life.specs.declared.Part.{Part}
use Rattle.vx_answers.specs.declared.answer.End.{End}
use Rattle.vx_answers.specs.declared.answer.End.TheVariants as ends
use Rattle.vx_house.specs.Leaves.{IsLater, IsLeft, IsStuck, StandsAt, StaysBy, LeavesBoth}
use Rattle.vx_house.specs.Scene.{Shelved}
use Rattle.vx_house.specs.Unmoved.{Unmoved}
use Rattle.vx_house.specs.View.{View, at, scene}
use Rattle.vx_house.specs.declared.house.House.{House}
use Rattle.vx_house.specs.declared.house.Taken.{Taken}
use Rattle.vx_house.proofs.Scenes.{scene_of, unmoved_trans}

module _ {P : Type 0} {ghosts : Ghosts P} (see : P → Seen) (old new : Shelved) (h k : House P ghosts) (are : AreHeld old.held (holders see h)) where
  abbrev vs : List Holder
  vs = map (volume_holder see) h.volumes.entries

  abbrev gs : List Holder
  gs = group_holders see h.group

  abbrev ts : List Holder
  ts = map (hand_holder see) h.hand.items

  -- the hand
  module _ (gives : GivesHand see old h new k) where
    whole : holders see h ≡ (vs ++ gs) ++ (ts ++ [])
    whole = sym (append_assoc vs gs ts) ∙ ap (λ hs. (vs ++ gs) ++ hs) (sym (append-nil ts))

    left : holders see k ≡ (vs ++ gs) ++ []
    left =
        ap (λ (v : BTreeMap Word (Started P)). map (volume_holder see) v.entries ++ (group_holders see k.group ++ map (hand_holder see) k.hand.items)) gives.volumes
        ∙ ap (λ g. vs ++ (group_holders see g ++ map (hand_holder see) k.hand.items)) gives.group
        ∙ ap (λ xs. vs ++ (gs ++ map (hand_holder see) xs)) gives.empty
        ∙ sym (append_assoc vs gs [])

    pub hand_given : IsLater see (at old h) (at new k)
    hand_given = record {
      devices = subst (AreHeld new.held) (sym left) (gives.back.held (vs ++ gs) [] (subst (AreHeld old.held) whole are));
      moved =
          subst (λ hs. Unmoved (scene_of old hs) (scene_of new (holders see k))) (sym whole)
          (subst (λ hs. Unmoved (scene_of old ((vs ++ gs) ++ (ts ++ []))) (scene_of new hs)) (sym left)
          (gives.back.moved (vs ++ gs) [] (subst (AreHeld old.held) whole are)));
      hand = gives.empty;
    }

  -- the group
  module _ (gives : GivesGroup see old h new k) where
    group_left : holders see k ≡ vs ++ ts
    group_left =
        ap (λ (v : BTreeMap Word (Started P)). map (volume_holder see) v.entries ++ (group_holders see k.group ++ map (hand_holder see) k.hand.items)) gives.volumes
        ∙ ap (λ g. vs ++ (group_holders see g ++ map (hand_holder see) k.hand.items)) gives.none
        ∙ ap (λ xs. vs ++ map (hand_holder see) xs.items) gives.hand

    pub group_held : AreHeld new.held (holders see k)
    group_held = subst (AreHeld new.held) (sym group_left) (gives.back.held vs ts are)

    pub group_moved : Unmoved (scene see (at old h)) (scene see (at new k))
    group_moved = subst (λ hs. Unmoved (scene_of old (holders see h)) (scene_of new hs)) (sym group_left) (gives.back.moved vs ts are)

    pub group_given : h.hand.items ≡ [] → IsLater see (at old h) (at new k)
    group_given empty = record { devices = group_held; moved = group_moved; hand = ap (λ xs. xs.items) gives.hand ∙ empty }

  -- the volumes
  module _ (gives : GivesVolumes see old h new k) (empty : h.hand.items ≡ []) where
    volumes_left : holders see k ≡ gs ++ ts
    volumes_left =
        ap (λ es. map (volume_holder see) es ++ (group_holders see k.group ++ map (hand_holder see) k.hand.items)) gives.empty
        ∙ ap (λ g. group_holders see g ++ map (hand_holder see) k.hand.items) gives.group
        ∙ ap (λ xs. gs ++ map (hand_holder see) xs.items) gives.hand

    pub volumes_given : IsLater see (at old h) (at new k)
    volumes_given = record {
      devices = subst (AreHeld new.held) (sym volumes_left) (gives.back.held [] (gs ++ ts) are);
      moved = subst (λ hs. Unmoved (scene_of old (holders see h)) (scene_of new hs)) (sym volumes_left) (gives.back.moved [] (gs ++ ts) are);
      hand = ap (λ xs. xs.items) gives.hand ∙ empty;
    }

pub later_then : {P : Type 0} {ghosts : Ghosts P} (see : P → Seen) (a b c : View P ghosts) → IsLater see a b → IsLater see b c → IsLater see a c
later_then see a b c p q = record { devices = q.devices; moved = unmoved_trans (scene see a) (scene see b) (scene see c) p.moved q.moved; hand = q.hand }

-- the end is none at which the group or the power is lost
pub stays_both : {P : Type 0} {ghosts : Ghosts P} (end : End) (old new : View P ghosts) → (end ≡ ends.GroupLost → ⊥) → ((parts : List Part) → end ≡ ends.Lost parts → ⊥) → LeavesBoth old new → StaysBy end old new
stays_both (ends.Done copied parts blocks) old new not_group not_power both = both
stays_both (ends.Refused r) old new not_group not_power both = both
stays_both (ends.Fault told device parts) old new not_group not_power both = both
stays_both ends.ShelfFailed old new not_group not_power both = both
stays_both ends.GroupLost old new not_group not_power both = absurd (not_group refl)
stays_both (ends.Lost parts) old new not_group not_power both = absurd (not_power parts refl)

-- the hand, and then the group
module _ {P : Type 0} {ghosts : Ghosts P} (see : P → Seen) (s t u : Shelved) (h k m : House P ghosts) (are : AreHeld s.held (holders see h)) (hand : GivesHand see s h t k) (group : GivesGroup see t k u m) where
  mid : IsLater see (at s h) (at t k)
  mid = hand_given see s t h k are hand

  pub both_given : IsLater see (at s h) (at u m)
  both_given = later_then see (at s h) (at t k) (at u m) mid (group_given see t u k m mid.devices group mid.hand)

  pub left_group : StandsAt see (at s h) → IsLeft see ends.GroupLost (at s h) (at u m)
  left_group stands = record { later = both_given; stays = record { volumes = group.volumes ∙ hand.volumes; group = group.none }; stands = stands }

  -- and then the volumes
  module _ (v : Shelved) (n : House P ghosts) (volumes : GivesVolumes see u m v n) where
    pub left_all : (parts : List Part) → StandsAt see (at s h) → IsLeft see (ends.Lost parts) (at s h) (at v n)
    left_all parts stands = record {
      later = later_then see (at s h) (at u m) (at v n) both_given (volumes_given see u v m n both_given.devices volumes both_given.hand);
      stays = record { volumes = volumes.empty; group = volumes.group ∙ group.none };
      stands = stands;
    }

-- where memory was wanting for the group, all that was held is
pub holders_kept : {P : Type 0} {ghosts : Ghosts P} (see : P → Seen) (k m : House P ghosts) → KeepsGroup see k m → holders see m ≡ holders see k
holders_kept {P = P} see k m keeps =
    ap (λ (v : BTreeMap Word (Started P)). map (volume_holder see) v.entries ++ (group_holders see m.group ++ map (hand_holder see) m.hand.items)) keeps.volumes
    ∙ ap (λ gs. map (volume_holder see) k.volumes.entries ++ (gs ++ map (hand_holder see) m.hand.items)) keeps.holders
    ∙ ap (λ (ts : Vec (Taken P)). map (volume_holder see) k.volumes.entries ++ (group_holders see k.group ++ map (hand_holder see) ts.items)) keeps.hand

-- the hand, and then memory was wanting for the group
module _ {P : Type 0} {ghosts : Ghosts P} (see : P → Seen) (s t : Shelved) (h k m : House P ghosts) (are : AreHeld s.held (holders see h)) (hand : GivesHand see s h t k) (keeps : KeepsGroup see k m) where
  kept : IsLater see (at s h) (at t k)
  kept = hand_given see s t h k are hand

  same : holders see m ≡ holders see k
  same = holders_kept see k m keeps

  pub stuck_so : IsStuck see (at s h) (at t m)
  stuck_so = record {
    later = record {
      devices = subst (AreHeld t.held) (sym same) kept.devices;
      moved = subst (λ hs. Unmoved (scene_of s (holders see h)) (scene_of t hs)) (sym same) kept.moved;
      hand = ap (λ (ts : Vec (Taken P)). ts.items) keeps.hand ∙ kept.hand;
    };
    some = keeps.some;
    whole = keeps.whole;
    disks = keeps.disks;
  }
