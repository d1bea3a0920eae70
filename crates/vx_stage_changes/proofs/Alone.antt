-- The imported group whose disks a commit has written, where none joins by it.
use Rattle.std.proofs.Common.{◌≡◌, ◌∙◌, ℕ, zero, suc, ◌+◌, ◌≤◌, true, List, [], ◌∷◌, ◌++◌, map, length, take, Option, Some, refl, sym, ap, subst, inl, inr}
use Rattle.std.proofs.lemmas.List.{append-nil}
use Rattle.vx_pages.specs.declared.local_piece.LocalPiece.{Ghosts}
use Rattle.vx_piece.specs.Seen.{Seen}
use Rattle.vx_copies.specs.Chain.{AreInOrder}
use Rattle.vx_copies.specs.Commit.{HasRisen}
use Rattle.vx_copies.specs.Config.{GivesNew}
use Rattle.vx_copies.specs.Disks.{DiskSeen, CommitGoes, HasSlot, IsReady, IsCut, good_mask}
use Rattle.vx_copies.specs.Lists.{AllOf, AnyOf, Each}
use Rattle.vx_copies.specs.Written.{Touches, Turns, IsQuiet, CarriesIfGood, sectors_of}
use Rattle.vx_copies.specs.Written.{IsMaskOf as IsMaskIn}
use Rattle.vx_confdb.specs.Groups.{members, IsMemberOf}
use Rattle.vx_objects.specs.declared.config.Config.{Config}
use Rattle.vx_answers.specs.declared.answer.End.TheVariants as ends
use Rattle.vx_moments.specs.World.{Group}
use Rattle.vx_moments.specs.Moment.{Moment}
use Rattle.vx_moments.specs.Copies.{IsTextOf}
use Rattle.vx_moments.specs.Commit.{Writing, parties, IsCommitted, IsStopped}
use Rattle.vx_house.specs.Holders.{Holder, holder_in, holders, hand_holder, volume_holder, group_holders, group_rests, whole_members, AreHeld}
use Rattle.vx_house.specs.Scene.{Shelved, FaultsGoOn}
use Rattle.vx_house.specs.View.{at, scene, member_in, group_of, AreSized, IsMomentButGroup}
use Rattle.vx_house.specs.declared.house.House.{House}
use Rattle.vx_house.specs.declared.house.Imported.{Imported}
use Rattle.vx_house.proofs.AllLaws.{all_each}
use Rattle.vx_stage_changes.specs.Committing.{IsTried, IsFinished, IsWritable}
use Rattle.vx_fronts.specs.Fronts.{HasPrivate, Rests}
use Rattle.vx_fronts.specs.Laws.{Carries, Commits, whole_disks}
use Rattle.vx_fronts.specs.Rests.{rests_of}
use Rattle.vx_fronts.proofs.Disks.{ready_one}
use Rattle.vx_fronts.proofs.Groups.{all_whole, each_commit, each_cut, each_failure, each_text, each_write, private_then}
use Rattle.vx_lending.specs.Public.{lent_pieces, still_pieces}
use Rattle.vx_stage_changes.proofs.DeviceLaws.{IsCalled}
use Rattle.vx_stage_changes.proofs.GoodDisks.{any_good}
use Rattle.vx_stage_changes.proofs.Holders.{same_members, world_group, group_is, both_tell}
use Rattle.vx_stage_changes.proofs.CommitJoins.{IsTouched, AreCalled, AreWritten, AreDone, held_on, faults_on, moment_on, group_lost_on, power_lost_on, group_committed_on}
use Rattle.vx_stage_changes.proofs.Members.{writing}
use Rattle.vx_stage_changes.proofs.Stillness.{sized_now}
use Rattle.vx_stage_changes.proofs.CommitSlots.{AreSlotted, IsWent, slotted, slotted_wholes}
use Rattle.vx_copies.proofs.StepLaws.{each_map}
use Rattle.vx_house.proofs.Lists.{each_two, each_first, each_append, each_front, each_long}

any_take : {X : Type 0} (Q : X → Type 0) (n : ℕ) (xs : List X) → AnyOf Q (take n xs) → AnyOf Q xs
any_take Q zero xs any = absurd any
any_take Q (suc n) [] any = any
any_take Q (suc n) (x ∷ xs) (inl here) = inl here
any_take Q (suc n) (x ∷ xs) (inr there) = inr (any_take Q n xs there)

-- what is written of a disk that may be good
pub touched_by : (first last : ℕ) (text : List ℕ) (Masks : ℕ → Type 0) (hs bs : List DiskSeen) → AllOf IsReady hs → Each (CommitGoes first last text) hs bs → Each (Touches first last text Masks) hs bs → Each (IsTouched first last text Masks) hs bs
touched_by first last text Masks hs bs ready goes touches =
    each_first IsReady (λ a b. CommitGoes first last text a b × Touches first last text Masks a b) (IsTouched first last text Masks)
    (λ a b ready facts. record { idle = facts.0.idle; names = ready.names; touches = facts.1 }) hs bs ready
    (each_two (CommitGoes first last text) (Touches first last text Masks) (λ a b. CommitGoes first last text a b × Touches first last text Masks a b) (λ a b p q. (p, q)) hs bs goes touches)

pub called_by : (first last : ℕ) (text : List ℕ) (Masks : ℕ → Type 0) (hs bs : List DiskSeen) → Each (CommitGoes first last text) hs bs → Each (Touches first last text Masks) hs bs → Each IsCalled hs bs
called_by first last text Masks hs bs goes touches =
    each_two (CommitGoes first last text) (Touches first last text Masks) IsCalled
    (λ a b goes touches. record { device = goes.device; kept = goes.kept; reads = touches.reads; tells = both_tell (Turns first last text Masks a b) a.seen.told b.seen.told touches.turns }) hs bs goes touches

pub went_by : (first last : ℕ) (text : List ℕ) (hs bs : List DiskSeen) → Each (CommitGoes first last text) hs bs → Each IsWent hs bs
went_by first last text hs bs goes = each_map (CommitGoes first last text) IsWent (λ a b goes. record { slot = goes.slot; good = goes.good }) hs bs goes

pub low_by : (hs : List DiskSeen) → AllOf IsReady hs → AllOf HasSlot hs
low_by hs ready = all_each IsReady HasSlot (λ h is. is.slot) hs ready

ready_wholes : (rests : Rests) (hs : List DiskSeen) → AllOf HasPrivate hs → AllOf IsReady hs → AllOf IsReady (whole_disks rests hs)
ready_wholes rests hs private ready = all_whole rests IsReady IsReady (λ o h wide is. ready_one o h wide is) hs private ready

-- The imported group of a house, to whose disks a text was written.
pub record IsWrittenIn {P : Type 0} {ghosts : Ghosts P} (see : P → Seen) (shelf : Shelved) (old : House P ghosts) (g g' : Imported P ghosts) (text : List ℕ) : Type 0 where
  pub has : old.group ≡ Some g
  pub held : AreHeld shelf.held (holders see old)
  pub writable : IsWritable see g
  pub tried : IsTried see text g.base g'.base
  -- what is behind the fronts stays
  pub public : g'.public ≡ g.public

module _ {P : Type 0} {ghosts : Ghosts P} {see : P → Seen} {shelf : Shelved} {old : House P ghosts} {g g' : Imported P ghosts} {text : List ℕ} (w : IsWrittenIn see shelf old g g' text) where
  abbrev rests : Rests
  rests = group_rests see g

  -- the disks with their whole devices, before and now
  abbrev hs : List DiskSeen
  hs = whole_members see g

  abbrev bs : List DiskSeen
  bs = whole_disks rests (members see g'.base)

  same_rests : group_rests see g' ≡ rests
  same_rests = ap (λ p. rests_of (still_pieces see p ++ lent_pieces see p) []) w.public

  pub wholes_now : whole_members see g' ≡ bs
  wholes_now = ap (λ r. whole_disks r (members see g'.base)) same_rests

  abbrev vs : List Holder
  vs = map (volume_holder see) old.volumes.entries

  abbrev os : List Holder
  os = map (hand_holder see) old.hand.items

  abbrev first : ℕ
  first = g.base.sequence + 1

  abbrev number : ℕ
  number = g'.base.sequence

  -- the house with the group as it is now
  abbrev pub house_now : House P ghosts
  house_now = record { volumes = old.volumes; group = Some g'; hand = old.hand }

  then_is : hs ++ [] ≡ hs
  then_is = append-nil hs

  now_is : bs ++ [] ≡ bs
  now_is = append-nil bs

  -- what was written to the fronts was written to the devices
  commits : Commits g.base.name g.base.sequence number text hs bs
  commits = each_commit rests g.base.name g.base.sequence number text (members see g.base) (members see g'.base) w.writable.private (record {
    goes = w.tried.committed.goes;
    old_or_new = w.tried.committed.old_or_new;
    order = w.tried.committed.order;
    recorded = w.tried.recorded;
  })

  goes : Each (CommitGoes first number text) hs bs
  goes = commits.goes

  touches : Each (Touches first number text (IsMaskIn hs bs)) hs bs
  touches = commits.recorded.touches

  ready : AllOf IsReady hs
  ready = ready_wholes rests (members see g.base) w.writable.private w.writable.ready

  long : length hs ≡ length bs
  long = each_long (CommitGoes first number text) hs bs goes

  pub alone : AreCalled see shelf old house_now os hs bs [] []
  alone = record {
    long = long;
    was = ap (λ o. vs ++ (group_holders see o ++ os)) w.has ∙ ap (λ l. vs ++ (l ++ os)) (ap (map holder_in) (sym then_is));
    is = ap (λ l. vs ++ (l ++ os)) (ap (map holder_in) (wholes_now ∙ sym now_is));
    volumes = refl;
    held = w.held;
    called = each_append IsCalled hs bs [] [] (called_by first number text (IsMaskIn hs bs) hs bs goes touches) tt;
    went = each_append IsWent hs bs [] [] (went_by first number text hs bs goes) tt;
    low = low_by hs ready;
    slots = subst AreSlotted (sym then_is) (slotted_wholes rests (members see g.base) (slotted see g.base.disks.items w.writable.slots));
    sound = tt;
  }

  -- the devices have their sizes
  pub sized_after : AreSized (whole_members see g) → AreSized (whole_members see g')
  sized_after sized = subst AreSized (sym wholes_now) (sized_now first number text hs bs goes sized)

  -- the moment that it comes to, with this group
  abbrev pub moment_alone : Moment → Option Group → Moment
  moment_alone m world = moment_on alone m world

  pub held_alone : AreHeld shelf.held (holders see house_now)
  held_alone = held_on alone

  pub faults_alone : FaultsGoOn (scene see (at shelf old)) (scene see (at shelf house_now))
  faults_alone = faults_on alone

  -- what is written, with this configuration
  abbrev pub x_alone : Config → Writing
  x_alone config = writing (world_group see g) config text (map member_in hs) hs []

  same_masks : IsMaskIn hs bs ≡ IsMaskIn (hs ++ []) (bs ++ [])
  same_masks = ap (λ l. IsMaskIn l bs) (sym then_is) ∙ ap (IsMaskIn (hs ++ [])) (sym now_is)

  module _ (m : Moment) (is : IsMomentButGroup see (at shelf old) m) (config : Config) (printed : IsTextOf config text) (short : length text ≤ 522240) (named : config.group ≡ g.base.name) where
    written : AreWritten (world_group see g) config text (map member_in hs) number hs bs [] []
    written = record {
      few = w.tried.committed.few;
      once = λ quiet. commits.recorded.once (each_front IsQuiet hs bs [] [] long quiet);
      printed = printed;
      short = short;
      touched = subst (λ M. Each (IsTouched first number text M) hs bs) same_masks (touched_by first number text (IsMaskIn hs bs) hs bs ready goes touches);
      enlisted = tt;
      order = subst (AreInOrder config.group g.base.sequence) (sym now_is) (subst (λ n. AreInOrder n g.base.sequence bs) (sym named) commits.order);
      lead = inr (ap (map member_in) (sym then_is));
    }

    -- the commit is stopped
    pub lost_alone : Each HasRisen (members see g.base) (members see g'.base) → IsStopped (x_alone config) m ends.GroupLost (moment_alone m m.world.group)
    lost_alone risen = group_lost_on alone m is m.world.group (world_group see g) config text (map member_in hs) number written refl refl (each_failure rests first number text (members see g.base) (members see g'.base) w.writable.private w.tried.committed.goes risen)

    pub cut_alone : AnyOf IsCut (members see g'.base) → IsStopped (x_alone config) m (ends.Lost []) (moment_alone m m.world.group)
    cut_alone cut = power_lost_on alone m is m.world.group (world_group see g) config text (map member_in hs) number written refl (subst (AnyOf IsCut) (sym now_is) (each_cut rests (members see g'.base) cut))

  -- the commit is done
  module _ (m : Moment) (is : IsMomentButGroup see (at shelf old) m) (finished : IsFinished see text g.base g'.base) (printed : IsTextOf g'.config text) (short : length text ≤ 522240) (named : g'.config.group ≡ g.base.name) where
    base_named : g'.base.name ≡ g'.config.group
    base_named = finished.tried.committed.name ∙ sym named

    private_now : AllOf HasPrivate (members see g'.base)
    private_now = private_then rests first number text (members see g.base) (members see g'.base) w.tried.committed.goes w.writable.private

    carries : Carries g'.base.name g.base.sequence number (length g.base.disks.items) text bs
    carries = each_text rests g'.base.name g.base.sequence number (length g.base.disks.items) text (members see g'.base) private_now (record {
      offers = finished.carries.offers;
      gives = finished.carries.gives;
      ready = finished.carries.alive.ready;
      headed = finished.carries.alive.headed;
      below = finished.carries.alive.below;
      done = finished.done;
    })

    done : AreDone (world_group see g) g'.config text number hs bs [] []
    done = record {
      low = subst (AllOf HasSlot) (sym now_is) (low_by bs carries.ready);
      headed = subst (AllOf (IsMemberOf g'.config.group)) (sym now_is) (subst (λ n. AllOf (IsMemberOf n) bs) base_named carries.headed);
      gives = subst (GivesNew g'.config.group first number text) (sym now_is) (subst (λ n. GivesNew n first number text bs) base_named carries.gives);
      current = subst (λ l. AllOf (CarriesIfGood number (good_mask l) text) l) (sym now_is) carries.done.current;
      named = tt;
      exact = λ quiet. (each_write rests first number text (sectors_of text) (members see g.base) (members see g'.base) w.writable.private w.tried.committed.goes finished.exact (each_front IsQuiet hs bs [] [] long quiet), tt);
    }

    one : AnyOf (λ b. b.good ≡ true) bs
    one = any_take (λ b. b.good ≡ true) (length g.base.disks.items) bs (any_good (take (length g.base.disks.items) bs) carries.done.some)

    here : group_of see (Some g') ≡ Some (record { config = g'.config; good = good_mask (bs ++ []); members = parties (x_alone g'.config); sequence = number })
    here =
        let one : good_mask (whole_members see g') ≡ good_mask (bs ++ []) = ap good_mask (wholes_now ∙ sym now_is) in
        let two : map member_in (whole_members see g') ≡ map member_in hs ++ [] = ap (map member_in) wholes_now ∙ same_members first number text hs bs goes ∙ sym (append-nil (map member_in hs)) in
        let now = group_is see g' in cc

    pub committed_alone : IsCommitted (x_alone g'.config) m (moment_alone m (group_of see (Some g')))
    committed_alone = group_committed_on alone m is (group_of see (Some g')) (world_group see g) g'.config text (map member_in hs) number (written m is g'.config printed short named) done refl one here
