-- A commit that is done, and one that is stopped.
use Rattle.std.proofs.Common.{◌≡◌, ◌∙◌, inl, inr, ℕ, ◌+◌, ◌≤◌, ◌<◌, Option, None, Bool, true, false, cond, List, [], ◌∷◌, ◌++◌, map, Some, refl, sym, ap, subst, arith}
use Rattle.std.specs.Prelude.{IsTrue, MatchOption}
use Rattle.std.proofs.lemmas.List.{map-append}
use Rattle.vx_base.specs.Counts.{Rose, later_count}
use Rattle.vx_base.specs.Named.{Word}
use Rattle.vx_base.proofs.NamedLemmas.{bytes_eq_self}
use Rattle.vx_mask.specs.Mask.{has}
use Rattle.vx_header.specs.Named.{header_of}
use Rattle.vx_copies.specs.Config.{configuration, IsReadableGood, GivesNew}
use Rattle.vx_copies.specs.Image.{Offer, names_group}
use Rattle.vx_copies.specs.Disks.{DiskSeen, IsNew, IsMember, HasSlot, good_mask, good_count, IsCut}
use Rattle.vx_copies.specs.Commit.{HasRisen}
use Rattle.vx_copies.specs.Lists.{AllOf, AnyOf, Each}
use Rattle.vx_copies.specs.Written.{IsQuiet, WritesJust, CarriesIfGood}
use Rattle.vx_copies.specs.Written.{IsCurrent as IsCurrentIn}
use Rattle.vx_confdb.specs.Groups.{IsMemberOf}
use Rattle.vx_confdb.specs.Prepare.{label_in, Says}
use Rattle.vx_objects.specs.declared.config.Config.{Config}
use Rattle.vx_moments.specs.World.{Member, Group}
use Rattle.vx_moments.specs.Moment.{Moment, HasFailed}
use Rattle.vx_moments.specs.Copies.{IsCurrent, label_of}
use Rattle.vx_moments.specs.Commit.{Writing, parties, is_written_slot, IsMaskOf, NoneFailed, IsCarrying, IsHeaded, WritesOnce}
use Rattle.vx_stage_changes.proofs.CommitSlots.{AreSlotted, IsWent, mask_names, mask_tells, old_slot, slots_kept}
use Rattle.vx_house.specs.View.{member_in}
use Rattle.vx_stage_changes.proofs.Members.{IsGone, writing, same_mask, rose_one}
use Rattle.vx_copies.proofs.StepLaws.{each_map}
use Rattle.vx_house.proofs.Lists.{each_two, each_first, each_second, all_of_each, any_of_each}

-- one of them is good
pub any_good : (bs : List DiskSeen) → 0 < good_count bs → AnyOf (λ b. b.good ≡ true) bs
any_good [] some = absurd (omega (arith, some))
any_good (b ∷ bs) some = by b.good refl some (any_good bs)
  where
    by : (g : Bool) → b.good ≡ g → 0 < cond g 1 0 + good_count bs → (0 < good_count bs → AnyOf (λ b. b.good ≡ true) bs) → AnyOf (λ b. b.good ≡ true) (b ∷ bs)
    by true e some rest = inl e
    by false e some rest = inr (rest (omega (arith, some)))

-- a good disk of the group can be read
readable : (group : Word) (m n : Moment) (hs0 bs : List DiskSeen) → Each (IsGone m n) hs0 bs → AllOf (IsMemberOf group) bs → AnyOf (λ b. b.good ≡ true) bs → AnyOf (IsReadableGood group (λ slot. true)) bs
readable group m n [] [] pairs headed any = any
readable group m n [] (b ∷ bs) pairs headed any = absurd pairs
readable group m n (a ∷ hs0) [] pairs headed any = absurd pairs
readable group m n (a ∷ hs0) (b ∷ bs) pairs headed (inl good) =
    inl (refl, good, subst (IsMember group) (sym pairs.0.pair.tells) (ap (names_group group) (subst (Says (label_in group b)) pairs.0.pair.tells (headed.0 good)) ∙ bytes_eq_self group))
readable group m n (a ∷ hs0) (b ∷ bs) pairs headed (inr there) = inr (readable group m n hs0 bs pairs.1 headed.1 there)

-- what is new has a number of the commit
new_number : (first last : ℕ) (text : List ℕ) (o : Option Offer) → IsNew first last text o → first ≤ last
new_number first last text None is = absurd is
new_number first last text (Some o) is = let x = is.0 in let y = is.1 in omega (arith, x, y)

-- a commit that is done has a number behind the first
pub number_rose : (group : Word) (first number : ℕ) (text : List ℕ) (m n : Moment) (hs bs : List DiskSeen) → Each (IsGone m n) hs bs → AllOf (IsMemberOf group) bs → AnyOf (λ b. b.good ≡ true) bs → GivesNew group first number text bs → first ≤ number
number_rose group first number text m n hs bs gone headed any gives = new_number first number text (configuration group (λ slot. true) bs) (gives (λ slot. true) (readable group m n hs bs gone headed any)).0

-- no device has failed, so no disk has
pub all_quiet : (m n : Moment) (hs bs : List DiskSeen) → NoneFailed m.counts n.counts → Each (IsGone m n) hs bs → Each IsQuiet hs bs
all_quiet m n hs bs none gone = each_map (IsGone m n) IsQuiet (λ a b is rose. none a.device (subst (λ x. Rose x (n.counts.faults a.device)) (sym is.pair.faults) (subst (Rose a.seen.faults) (sym is.pair.faults') rose))) hs bs gone

module _ (group : Group) (config : Config) (text : List ℕ) (carriers : List Member) (hs bs js ks : List DiskSeen)
    (low : AllOf HasSlot hs) (sound : AllOf (λ j. j.good ≡ true) js) (slots : AreSlotted (hs ++ js)) (m n : Moment) (gone : Each (IsGone m n) (hs ++ js) (bs ++ ks)) where
  abbrev here : Writing
  here = writing group config text carriers hs js

  -- each disk that was written has failed, of those that were good and have lost it
  pub risen_failed : (xs ys : List DiskSeen) → Each (IsGone m n) xs ys → AllOf (λ a. is_written_slot here a.slot ≡ true → a.good ≡ true) xs → Each HasRisen xs ys → AllOf (λ p. is_written_slot here p.slot ≡ true → HasFailed m.counts n.counts p.device) (map member_in xs)
  risen_failed xs ys are good risen =
      all_of_each Three (λ p. is_written_slot here p.slot ≡ true → HasFailed m.counts n.counts p.device) member_in
      (λ a b is w. subst (λ x. Rose x (n.counts.faults a.device)) (sym is.0.pair.faults) (subst (Rose a.seen.faults) (sym is.0.pair.faults') (is.2 (is.1 w)))) xs ys
      (each_first (λ a. is_written_slot here a.slot ≡ true → a.good ≡ true) (λ a b. IsGone m n a b × HasRisen a b) Three (λ a b w is. (is.0, w, is.1)) xs ys good
      (each_two (IsGone m n) HasRisen (λ a b. IsGone m n a b × HasRisen a b) (λ a b p q. (p, q)) xs ys are risen))
    where
      Three : DiskSeen → DiskSeen → Type 0
      Three a b = IsGone m n a b × (is_written_slot here a.slot ≡ true → a.good ≡ true) × HasRisen a b

  -- one of the disks is cut
  pub cut_one : (xs ys : List DiskSeen) → Each (IsGone m n) xs ys → AnyOf IsCut ys → AnyOf (λ p. n.counts.cut p.device ≡ true) (map member_in xs)
  cut_one xs ys are any = any_of_each (IsGone m n) IsCut (λ p. n.counts.cut p.device ≡ true) member_in (λ a b is cut. is.pair.cut' ∙ cut) xs ys are any

  module _ (last : ℕ) (low' : AllOf HasSlot (bs ++ ks)) where
    abbrev pub good : ℕ
    good = good_mask (bs ++ ks)

    abbrev IsKnown : DiskSeen → DiskSeen → Type 0
    IsKnown a b = IsGone m n a b × (has good a.slot ≡ b.good)

    pub known : Each IsKnown (hs ++ js) (bs ++ ks)
    known =
        each_second (λ b. has good b.slot ≡ b.good) (IsGone m n) IsKnown (λ a b t is. (is, ap (has good) (sym is.slot) ∙ t)) (hs ++ js) (bs ++ ks)
        (mask_tells (bs ++ ks) low' (slots_kept (hs ++ js) (bs ++ ks) (each_map (IsGone m n) (λ a b. b.slot ≡ a.slot) (λ a b is. is.slot) (hs ++ js) (bs ++ ks) gone) slots)) gone

    pub new_mask : IsMaskOf here m.counts n.counts good
    new_mask = same_mask group config text carriers hs bs js ks low sound slots m n good gone (record {
      good = λ slot e. old_slot slot (hs ++ js) (bs ++ ks) (each_map (IsGone m n) IsWent (λ a b is. record { slot = is.slot; good = is.good }) (hs ++ js) (bs ++ ks) gone) (sym (mask_names (bs ++ ks) low' slot) ∙ e);
      lacks = each_map IsKnown (λ a b. IsTrue a.good → has good a.slot ≡ false → Rose a.seen.faults b.seen.faults) (λ a b is was lacks. rose_one a.good b.good a.seen b.seen is.0.good was (sym is.1 ∙ lacks)) (hs ++ js) (bs ++ ks) known;
    })

    carries_one : (a b : DiskSeen) → IsKnown a b → CarriesIfGood last good text b → IsCarrying here last good n.world (member_in a)
    carries_one a b is carries e =
        let at : IsCurrentIn last good text b.half is.0.pair.now = subst (λ t. MatchOption t (Unit {0}) (IsCurrentIn last good text b.half)) is.0.pair.tells (carries (sym is.1 ∙ e)) in
        subst (λ o. MatchOption o ⊥ (λ d. IsCurrent last good text d.contents)) (sym is.0.pair.is) (record { half = b.half; says = at.says; holds = at.holds })

    pub all_carry : AllOf (CarriesIfGood last good text) (bs ++ ks) → AllOf (IsCarrying here last good n.world) (parties here)
    all_carry carries =
        subst (AllOf (IsCarrying here last good n.world)) (map-append member_in hs js)
        (all_of_each (λ a b. CarriesIfGood last good text b × IsKnown a b) (IsCarrying here last good n.world) member_in (λ a b is. carries_one a b is.1 is.0) (hs ++ js) (bs ++ ks)
        (each_second (CarriesIfGood last good text) IsKnown (λ a b. CarriesIfGood last good text b × IsKnown a b) (λ a b c is. (c, is)) (hs ++ js) (bs ++ ks) carries known))

    -- one of the carriers is good
    pub one_good : (xs ys : List DiskSeen) → Each IsKnown xs ys → AnyOf (λ b. b.good ≡ true) ys → AnyOf (λ p. has good p.slot ≡ true) (map member_in xs)
    one_good xs ys are any = any_of_each IsKnown (λ b. b.good ≡ true) (λ p. has good p.slot ≡ true) member_in (λ a b is g. is.1 ∙ g) xs ys are any

    -- a good disk was handed so many sectors
    pub writes_once : (count : ℕ) (xs ys : List DiskSeen) → Each IsKnown xs ys → Each (WritesJust count) xs ys → AllOf (WritesOnce count good m.counts n.counts) (map member_in xs)
    writes_once count xs ys are just =
        all_of_each (λ a b. IsKnown a b × WritesJust count a b) (WritesOnce count good m.counts n.counts) member_in
        (λ a b is e. is.0.0.pair.writes' ∙ is.1 (sym is.0.1 ∙ e) ∙ ap (λ w. later_count w count) (sym is.0.0.pair.writes)) xs ys
        (each_two IsKnown (WritesJust count) (λ a b. IsKnown a b × WritesJust count a b) (λ a b p q. (p, q)) xs ys are just)

    -- a good joiner has its header
    pub headed_one : (a b : DiskSeen) → IsKnown a b → b.name ≡ a.name → b.sectors ≡ a.sectors → a.sectors ≡ a.seen.sectors → IsMemberOf config.group b → IsHeaded here good n.world (member_in a)
    headed_one a b is name size sized headed e =
        let says : header_of (is.0.pair.now 0) ≡ Some (label_in config.group b) = subst (Says (label_in config.group b)) is.0.pair.tells (headed (sym is.1 ∙ e)) in
        let same : label_in config.group b ≡ label_of config.group (member_in a) (record { sectors = a.seen.sectors; contents = is.0.pair.now }) = let slot = is.0.slot in cc in
        subst (λ o. MatchOption o ⊥ (λ d. header_of (d.contents 0) ≡ Some (label_of config.group (member_in a) d))) (sym is.0.pair.is) (says ∙ ap (λ l. Some l) same)
