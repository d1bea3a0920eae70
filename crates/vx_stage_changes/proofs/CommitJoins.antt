-- Disks of a group, and disks that join it, which a commit has written, as a step from one moment to the next.
use Rattle.std.proofs.Common.{◌≡◌, ◌∙◌, ◌⊎◌, ℕ, ◌+◌, ◌≤◌, max, true, false, List, [], ◌++◌, map, length, Option, Some, refl, sym, ap, subst, arith, inl, inr}
use Rattle.std.specs.Prelude.{IsTrue}
use Rattle.std.proofs.lemmas.List.{map-append}
use Rattle.vx_pages.specs.declared.local_piece.LocalPiece.{Ghosts}
use Rattle.vx_base.specs.Named.{Word}
use Rattle.vx_mask.specs.Mask.{has}
use Rattle.vx_piece.specs.Seen.{Seen}
use Rattle.vx_copies.specs.Chain.{AreInOrder}
use Rattle.vx_copies.specs.Commit.{HasRisen}
use Rattle.vx_copies.specs.Config.{GivesNew}
use Rattle.vx_copies.specs.Disks.{DiskSeen, HasSlot, IsCut, NamesHalf, good_mask}
use Rattle.vx_copies.specs.Lists.{AllOf, AnyOf, Each}
use Rattle.vx_copies.specs.Written.{Touches, IsQuiet, WritesJust, CarriesIfGood, sectors_of}
use Rattle.vx_copies.specs.Written.{IsMaskOf as IsMaskIn}
use Rattle.vx_confdb.specs.Enlisted.{Enlists}
use Rattle.vx_confdb.specs.Groups.{IsMemberOf}
use Rattle.vx_objects.specs.declared.config.Config.{Config}
use Rattle.vx_answers.specs.declared.answer.End.{End}
use Rattle.vx_answers.specs.declared.answer.End.TheVariants as ends
use Rattle.vx_moments.specs.World.{Member, Group}
use Rattle.vx_moments.specs.Moment.{Moment, AreLater, HasFailed}
use Rattle.vx_moments.specs.Copies.{IsTextOf}
use Rattle.vx_moments.specs.Commit.{Writing, IsHeaded, parties, is_written_slot, WritesOnce, CarriersFailed, IsCommitting, IsCommitted, IsStopped}
use Rattle.vx_house.specs.Holders.{Holder, holder_in, holders, volume_holder, volume_at, AreHeld, AreApart}
use Rattle.vx_house.specs.Scene.{Shelved, seen_at, AreCountsOf, FaultsGoOn}
use Rattle.vx_house.specs.Runs.{AreRuns}
use Rattle.vx_house.specs.View.{at, scene, is_lent, member_in, IsDeviceOf, IsAtVolume, IsMomentButGroup}
use Rattle.vx_house.specs.declared.house.House.{House}
use Rattle.vx_moments.specs.Leaving.{lone}
use Rattle.vx_house.proofs.Hands.{volumes_apart}
use Rattle.vx_house.proofs.Holders.{later_held}
use Rattle.vx_house.proofs.AllLaws.{all_front, all_back, all_unmapped}
use Rattle.vx_house.proofs.Moments.{counts_own}
use Rattle.vx_stage_changes.proofs.DeviceLaws.{IsCalled, IsPair, holders_then, holders_now, scene_then, scene_now, goes_later, faults_go_on, next, pairs, devices_are_now, reads_same, shelf_same, left, later}
use Rattle.vx_stage_changes.proofs.GoodDisks.{all_quiet, risen_failed, cut_one, known, new_mask, all_carry, one_good, writes_once, headed_one, number_rose}
use Rattle.vx_stage_changes.proofs.Members.{AreLed, IsGone, IsMemberWritten, IsJoinerWritten, writing, same_mask, written_good, is_committing}
use Rattle.vx_stage_changes.proofs.CommitSlots.{AreSlotted, IsWent}
use Rattle.vx_house.proofs.Lists.{each_two, each_second, each_front, each_back, all_of_each, any_front, any_back}

-- what the attempts did to a disk of the group
pub record IsTouched (first last : ℕ) (text : List ℕ) (Masks : ℕ → Type 0) (a b : DiskSeen) : Type 0 where
  pub idle : a.good ≡ false → b.seen ≡ a.seen
  pub names : IsTrue a.good → NamesHalf a.half a.seen.told
  pub touches : Touches first last text Masks a b

-- what they did to a disk that joins
pub record IsEnlisted (group : Word) (first last : ℕ) (text : List ℕ) (Masks : ℕ → Type 0) (a b : DiskSeen) : Type 0 where
  pub good : a.good ≡ true
  pub sectors : a.sectors ≡ a.seen.sectors
  pub enlists : Enlists group first last text Masks a b

-- a disk that has joined keeps its name and size
pub record IsNamedAs (a b : DiskSeen) : Type 0 where
  pub name : b.name ≡ a.name
  pub size : b.sectors ≡ a.sectors
  pub sectors : a.sectors ≡ a.seen.sectors

-- A house whose disks were called: those of its group, which have become others, and those that join it.
pub record AreCalled {P : Type 0} {ghosts : Ghosts P} (see : P → Seen) (shelf : Shelved) (old new : House P ghosts) (os : List Holder) (hs bs js ks : List DiskSeen) : Type 0 where
  pub long : length hs ≡ length bs
  pub was : holders see old ≡ holders_then shelf (map (volume_holder see) old.volumes.entries) os (hs ++ js) (bs ++ ks)
  pub is : holders see new ≡ holders_now shelf (map (volume_holder see) old.volumes.entries) os (hs ++ js) (bs ++ ks)
  pub volumes : new.volumes ≡ old.volumes
  pub held : AreHeld shelf.held (holders see old)
  pub called : Each IsCalled (hs ++ js) (bs ++ ks)
  pub went : Each IsWent (hs ++ js) (bs ++ ks)
  pub low : AllOf HasSlot hs
  pub slots : AreSlotted (hs ++ js)
  pub sound : AllOf (λ j. j.good ≡ true) js

-- what the attempts up to a number have written, however the commit ended
pub record AreWritten (group : Group) (config : Config) (text : List ℕ) (carriers : List Member) (number : ℕ) (hs bs js ks : List DiskSeen) : Type 0 where
  pub few : number ≤ group.sequence + 32
  pub once : Each IsQuiet (hs ++ js) (bs ++ ks) → number ≤ group.sequence + 1
  pub printed : IsTextOf config text
  pub short : length text ≤ 522240
  pub touched : Each (IsTouched (group.sequence + 1) number text (IsMaskIn (hs ++ js) (bs ++ ks))) hs bs
  pub enlisted : Each (IsEnlisted config.group (group.sequence + 1) number text (IsMaskIn (hs ++ js) (bs ++ ks))) js ks
  pub order : AreInOrder config.group group.sequence (bs ++ ks)
  pub lead : AreLed config.group group.sequence carriers hs bs js ks

-- what a commit that is done has left
pub record AreDone (group : Group) (config : Config) (text : List ℕ) (number : ℕ) (hs bs js ks : List DiskSeen) : Type 0 where
  pub low : AllOf HasSlot (bs ++ ks)
  pub headed : AllOf (IsMemberOf config.group) (bs ++ ks)
  pub gives : GivesNew config.group (group.sequence + 1) number text (bs ++ ks)
  pub current : AllOf (CarriesIfGood number (good_mask (bs ++ ks)) text) (bs ++ ks)
  pub named : Each IsNamedAs js ks
  pub exact : Each IsQuiet (hs ++ js) (bs ++ ks) → Each (WritesJust (sectors_of text)) hs bs × Each (WritesJust (2 + sectors_of text)) js ks

max_least : (a b : ℕ) → a ≤ max a b
max_least a b = omega arith

max_up : (a b : ℕ) → b ≤ max a b
max_up a b = omega arith

max_most : (a b c : ℕ) → a ≤ c → b ≤ c → max a b ≤ c
max_most a b c p q = omega arith

pub max_is : (a b : ℕ) → a + 1 ≤ b → max a b ≡ b
max_is a b lt = omega arith

module _ {P : Type 0} {ghosts : Ghosts P} {see : P → Seen} {shelf : Shelved} {old new : House P ghosts} {os : List Holder} {hs bs js ks : List DiskSeen} (s : AreCalled see shelf old new os hs bs js ks) where
  abbrev vs : List Holder
  vs = map (volume_holder see) old.volumes.entries

  apart : AreApart (holders_then shelf vs os (hs ++ js) (bs ++ ks))
  apart = subst AreApart s.was s.held.apart

  -- the devices are held as before
  pub held_on : AreHeld shelf.held (holders see new)
  held_on = subst (AreHeld shelf.held) (sym s.is) (later_held shelf.held (holders_then shelf vs os (hs ++ js) (bs ++ ks)) (holders_now shelf vs os (hs ++ js) (bs ++ ks)) (goes_later shelf vs os (hs ++ js) (bs ++ ks) s.called) (subst (AreHeld shelf.held) s.was s.held))

  pub faults_on : FaultsGoOn (scene see (at shelf old)) (scene see (at shelf new))
  faults_on =
      subst (λ l. FaultsGoOn (record { shelf = shelf; taken = l }) (scene see (at shelf new))) (sym s.was)
      (subst (λ l. FaultsGoOn (scene_then shelf vs os (hs ++ js) (bs ++ ks)) (record { shelf = shelf; taken = l })) (sym s.is) (faults_go_on shelf vs os (hs ++ js) (bs ++ ks) s.called apart))

  own : AllOf (λ h. is_lent old h.device ≡ false) (hs ++ js)
  own = all_unmapped (λ y. is_lent old y.name ≡ false) holder_in (hs ++ js) (all_front (λ y. is_lent old y.name ≡ false) (map holder_in (hs ++ js)) os (volumes_apart see old.volumes.entries (map holder_in (hs ++ js) ++ os) apart))

  -- the moment that it comes to, with this group
  abbrev pub moment_on : Moment → Option Group → Moment
  moment_on m world = next shelf vs os (bs ++ ks) m world

  module _ (m : Moment) (is : IsMomentButGroup see (at shelf old) m) (world : Option Group) where
    devices_then : (name : Word) → IsDeviceOf (is_lent old name) (seen_at (scene_then shelf vs os (hs ++ js) (bs ++ ks)) name) (m.world.devices name)
    devices_then = subst (λ l. (name : Word) → IsDeviceOf (is_lent old name) (seen_at (record { shelf = shelf; taken = l }) name) (m.world.devices name)) s.was is.devices_are

    counts_then : AreCountsOf (scene_then shelf vs os (hs ++ js) (bs ++ ks)) m.counts
    counts_then = subst (λ l. AreCountsOf (record { shelf = shelf; taken = l }) m.counts) s.was is.counts

    abbrev n : Moment
    n = moment_on m world

    pub later_on : AreLater m.counts n.counts
    later_on = later shelf vs os (hs ++ js) (bs ++ ks) s.called apart (is_lent old) m devices_then counts_then own world

    pub but_group_on : AreRuns see new.group world m.world.volumes → IsMomentButGroup see (at shelf new) n
    but_group_on runs = record {
      told = is.told;
      devices_are = λ name. subst (λ b. IsDeviceOf b (seen_at (scene see (at shelf new)) name) (n.world.devices name)) (ap (λ v. is_lent (let h : House P ghosts = record { volumes = v; group = old.group; hand = old.hand } in h) name) (sym s.volumes))
          (subst (λ l. IsDeviceOf (is_lent old name) (seen_at (record { shelf = shelf; taken = l }) name) (n.world.devices name)) (sym s.is) (devices_are_now shelf vs os (hs ++ js) (bs ++ ks) s.called apart (is_lent old) m devices_then counts_then own world name));
      volumes_are = λ vol. subst (λ o. IsAtVolume see o (lone (m.world.volumes vol))) (ap (λ v. volume_at (let h : House P ghosts = record { volumes = v; group = old.group; hand = old.hand } in h) vol) (sym s.volumes)) (is.volumes_are vol);
      runs_are = runs;
      counts = subst (λ l. AreCountsOf (record { shelf = shelf; taken = l }) n.counts) (sym s.is) (counts_own (scene_now shelf vs os (hs ++ js) (bs ++ ks)));
    }

    pub all_gone : Each (IsGone m n) (hs ++ js) (bs ++ ks)
    all_gone = each_two (IsPair m n) IsWent (IsGone m n) (λ a b pair went. record { pair = pair; slot = went.slot; good = went.good }) (hs ++ js) (bs ++ ks) (pairs shelf vs os (hs ++ js) (bs ++ ks) s.called apart (is_lent old) m devices_then counts_then own world) s.went

    front_gone : Each (IsGone m n) hs bs
    front_gone = each_front (IsGone m n) hs bs js ks s.long all_gone

    pub back_gone : Each (IsGone m n) js ks
    back_gone = each_back (IsGone m n) hs bs js ks s.long all_gone

    module _ (group : Group) (config : Config) (text : List ℕ) (carriers : List Member) (number : ℕ) (w : AreWritten group config text carriers number hs bs js ks) where
      abbrev x : Writing
      x = writing group config text carriers hs js

      -- the number of the last attempt
      abbrev last : ℕ
      last = max group.sequence number

      abbrev Masks : ℕ → Type 0
      Masks = IsMaskIn (hs ++ js) (bs ++ ks)

      pub committing_on : IsCommitting x last m n
      committing_on =
          is_committing group config text carriers hs bs js ks s.low s.sound s.slots m n number last (max_up group.sequence number) (max_least group.sequence number) Masks
          (λ mask of. same_mask group config text carriers hs bs js ks s.low s.sound s.slots m n mask all_gone of)
          w.printed w.short (max_most group.sequence number (group.sequence + 32) (omega arith) w.few)
          (λ none. max_most group.sequence number (group.sequence + 1) (omega arith) (w.once (all_quiet m n (hs ++ js) (bs ++ ks) none all_gone)))
          (each_two (IsGone m n) (IsTouched (group.sequence + 1) number text Masks) (IsMemberWritten (group.sequence + 1) number text Masks m n)
          (λ a b gone is. record { gone = gone; idle = is.idle; names = is.names; touches = is.touches }) hs bs front_gone w.touched)
          (each_two (IsGone m n) (IsEnlisted config.group (group.sequence + 1) number text Masks) (IsJoinerWritten config.group (group.sequence + 1) number text Masks m n)
          (λ a b gone is. record { gone = gone; good = is.good; sectors = is.sectors; enlists = is.enlists }) js ks back_gone w.enlisted)
          all_gone w.order w.lead
          (record {
            others = λ name none. (left shelf vs os (hs ++ js) (bs ++ ks) s.called apart (is_lent old) m devices_then counts_then own world name none).device;
            idle = λ name none. let it = left shelf vs os (hs ++ js) (bs ++ ks) s.called apart (is_lent old) m devices_then counts_then own world name none in (it.writes, it.faults);
            volumes = refl;
            reads = reads_same shelf vs os (hs ++ js) (bs ++ ks) s.called apart (is_lent old) m devices_then counts_then own world;
            shelf = shelf_same shelf vs os (hs ++ js) (bs ++ ks) s.called apart (is_lent old) m devices_then counts_then own world;
          })

      stopped_on : (end : End) → world ≡ m.world.group → ((end ≡ ends.GroupLost) × CarriersFailed x m.counts n.counts) ⊎ ((end ≡ ends.Lost []) × AnyOf (λ p. n.counts.cut p.device ≡ true) (parties x)) → IsStopped x m end n
      stopped_on end same how = record { last = last; committing = committing_on; group = same; ends = how }

      good_now : AllOf (λ a. is_written_slot x a.slot ≡ true → a.good ≡ true) (hs ++ js)
      good_now = written_good group config text carriers hs bs js ks s.low s.sound s.slots

      -- the disks of the group have failed, which were to carry the commit
      pub group_lost_on : world ≡ m.world.group → carriers ≡ map member_in hs → Each HasRisen hs bs → IsStopped x m ends.GroupLost n
      group_lost_on same are risen = stopped_on ends.GroupLost same (inl (
        refl,
        subst (AllOf (λ p. is_written_slot x p.slot ≡ true → HasFailed m.counts n.counts p.device)) (sym are) (risen_failed group config text carriers hs bs js ks s.low s.sound s.slots m n all_gone hs bs front_gone (all_front (λ a. is_written_slot x a.slot ≡ true → a.good ≡ true) hs js good_now) risen),
      ))

      -- so have those that join
      pub joiners_lost_on : world ≡ m.world.group → carriers ≡ map member_in js → Each HasRisen js ks → IsStopped x m ends.GroupLost n
      joiners_lost_on same are risen = stopped_on ends.GroupLost same (inl (
        refl,
        subst (AllOf (λ p. is_written_slot x p.slot ≡ true → HasFailed m.counts n.counts p.device)) (sym are) (risen_failed group config text carriers hs bs js ks s.low s.sound s.slots m n all_gone js ks back_gone (all_back (λ a. is_written_slot x a.slot ≡ true → a.good ≡ true) hs js good_now) risen),
      ))

      -- a disk is without power
      pub power_lost_on : world ≡ m.world.group → AnyOf IsCut (bs ++ ks) → IsStopped x m (ends.Lost []) n
      power_lost_on same cut = stopped_on (ends.Lost []) same (inr (
        refl,
        subst (AnyOf (λ p. n.counts.cut p.device ≡ true)) (map-append member_in hs js) (cut_one group config text carriers hs bs js ks s.low s.sound s.slots m n all_gone (hs ++ js) (bs ++ ks) all_gone cut),
      ))

      -- the commit is done
      module _ (d : AreDone group config text number hs bs js ks) where
        abbrev good : ℕ
        good = good_mask (bs ++ ks)

        abbrev IsKnownHere : DiskSeen → DiskSeen → Type 0
        IsKnownHere a b = IsGone m n a b × (has good a.slot ≡ b.good)

        all_known : Each IsKnownHere (hs ++ js) (bs ++ ks)
        all_known = known group config text carriers hs bs js ks s.low s.sound s.slots m n all_gone last d.low

        front_known : Each IsKnownHere hs bs
        front_known = each_front IsKnownHere hs bs js ks s.long all_known

        back_known : Each IsKnownHere js ks
        back_known = each_back IsKnownHere hs bs js ks s.long all_known

        -- one of the carriers is good
        some_by : (xs ys : List DiskSeen) → carriers ≡ map member_in xs → Each IsKnownHere xs ys → AnyOf (λ b. b.good ≡ true) ys → AnyOf (λ p. has good p.slot ≡ true) carriers
        some_by xs ys are kinds any = subst (AnyOf (λ p. has good p.slot ≡ true)) (sym are) (one_good group config text carriers hs bs js ks s.low s.sound s.slots m n all_gone last d.low xs ys kinds any)

        headed_now : AllOf (IsHeaded x good n.world) x.joiners
        headed_now = all_of_each (λ a b. IsKnownHere a b × IsNamedAs a b × IsMemberOf config.group b) (IsHeaded x good n.world) member_in
            (λ a b is. headed_one group config text carriers hs bs js ks s.low s.sound s.slots m n all_gone last d.low a b is.0 is.1.name is.1.size is.1.sectors is.2) js ks
            (each_second (IsMemberOf config.group) (λ a b. IsKnownHere a b × IsNamedAs a b) (λ a b. IsKnownHere a b × IsNamedAs a b × IsMemberOf config.group b) (λ a b headed is. (is.0, is.1, headed)) js ks (all_back (IsMemberOf config.group) bs ks d.headed)
            (each_two IsKnownHere IsNamedAs (λ a b. IsKnownHere a b × IsNamedAs a b) (λ a b p q. (p, q)) js ks back_known d.named))

        exact_now : Each IsQuiet (hs ++ js) (bs ++ ks) → AllOf (WritesOnce (sectors_of text) good m.counts n.counts) x.group.members × AllOf (WritesOnce (sectors_of text + 2) good m.counts n.counts) x.joiners
        exact_now quiet =
            let just = d.exact quiet in
            let turn : 2 + sectors_of text ≡ sectors_of text + 2 = omega arith in (
              writes_once group config text carriers hs bs js ks s.low s.sound s.slots m n all_gone last d.low (sectors_of text) hs bs front_known just.0,
              writes_once group config text carriers hs bs js ks s.low s.sound s.slots m n all_gone last d.low (sectors_of text + 2) js ks back_known (subst (λ k. Each (WritesJust k) js ks) turn just.1),
            )

        committed_by : AnyOf (λ p. has good p.slot ≡ true) carriers → AnyOf (λ b. b.good ≡ true) (bs ++ ks) → world ≡ Some (record { config = config; good = good; members = parties x; sequence = number }) → IsCommitted x m n
        committed_by some one here =
            let rose = number_rose config.group (group.sequence + 1) number text m n (hs ++ js) (bs ++ ks) all_gone d.headed one d.gives in
            let same = max_is group.sequence number rose in
            record {
              last = last;
              good = good;
              committing = committing_on;
              rose = omega (arith, rose, same);
              group = here ∙ ap (λ k. Some (let g : Group = record { config = config; good = good; members = parties x; sequence = k } in g)) (sym same);
              mask = new_mask group config text carriers hs bs js ks s.low s.sound s.slots m n all_gone last d.low;
              some = some;
              carrying = all_carry group config text carriers hs bs js ks s.low s.sound s.slots m n all_gone last d.low (subst (λ k. AllOf (CarriesIfGood k good text) (bs ++ ks)) (sym same) d.current);
              headed = headed_now;
              exact = λ none. exact_now (all_quiet m n (hs ++ js) (bs ++ ks) none all_gone);
            }

        -- a disk of the group is good, or one that has joined
        pub group_committed_on : carriers ≡ map member_in hs → AnyOf (λ b. b.good ≡ true) bs → world ≡ Some (record { config = config; good = good; members = parties x; sequence = number }) → IsCommitted x m n
        group_committed_on are any here = committed_by (some_by hs bs are front_known any) (any_front (λ b. b.good ≡ true) bs ks any) here

        pub joiners_committed_on : carriers ≡ map member_in js → AnyOf (λ b. b.good ≡ true) ks → world ≡ Some (record { config = config; good = good; members = parties x; sequence = number }) → IsCommitted x m n
        joiners_committed_on are any here = committed_by (some_by js ks are back_known any) (any_back (λ b. b.good ≡ true) bs ks any) here
