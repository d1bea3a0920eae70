-- A volume that was opened, by a start or as a recovery ends, and is held among those that could not be put back: the house keeps what it did, and
-- each moment goes to one in which sectors of the volume alone have changed. Where the commit that was to record it is stopped, the group or the power
-- is lost.
use Rattle.std.proofs.Common.{◌≡◌, ◌∙◌, ℕ, true, false, List, [], Some, refl, sym, subst}
use Rattle.std.specs.Prelude.{is_some}
use Rattle.vx_pages.specs.declared.local_piece.LocalPiece.{Ghosts}
use Rattle.vx_base.specs.Named.{Word}
use Rattle.vx_mask.specs.Mask.{has as has_slot}
use Rattle.vx_piece.specs.Seen.{Seen}
use Rattle.vx_copies.specs.Commit.{HasRisen}
use Rattle.vx_copies.specs.Disks.{IsCut}
use Rattle.vx_copies.specs.Lists.{AnyOf, Each}
use Rattle.vx_confdb.specs.Groups.{members}
use Rattle.vx_config_parts.specs.declared.vol.Vol.{Vol}
use Rattle.vx_objects.specs.Applied.{IsEdited}
use Rattle.vx_objects.specs.declared.edit.Edit.{Edit}
use Rattle.vx_state_edits.specs.Edits.{is_new}
use Rattle.vx_image.specs.Soundness.{IsSoundImage}
use Rattle.vx_answers.specs.declared.answer.End.{End}
use Rattle.vx_answers.specs.declared.answer.End.TheVariants as ends
use Rattle.vx_moments.specs.Commit.{IsStopped, Writing}
use Rattle.vx_moments.specs.Moment.{Moment, AreLater}
use Rattle.vx_moments.specs.World.{Group}
use Rattle.vx_moments.specs.Group.{image_on}
use Rattle.vx_stages.specs.Ends.{IsChange}
use Rattle.vx_stages.specs.Recorded.{IsSoundAs}
use Rattle.vx_stages.specs.Touching.{IsTouched, Narrows}
use Rattle.vx_lending.specs.declared.public.Public.{Public}
use Rattle.vx_lending.specs.declared.public.Running.{Running}
use Rattle.vx_house.specs.Scene.{FaultsGoOn, Shelved}
use Rattle.vx_house.specs.View.{IsGroupKept, IsMoment, IsMomentButGroup, Keeps, KeepsButGroup, at, scene}
use Rattle.vx_house.specs.declared.house.House.{House}
use Rattle.vx_house.specs.declared.house.Imported.{Imported}
use Rattle.vx_house.proofs.Ends.{keeps_but_group, moment_but_group}
use Rattle.vx_house.proofs.Moments.{faults_trans, later_trans}
use Rattle.vx_house_calls.specs.Passes.{with_group}
use Rattle.vx_stage_changes.specs.Committing.{IsTried}
use Rattle.vx_stage_changes.specs.declared.planning.NextConfig.{NextConfig}
use Rattle.vx_stage_volumes.specs.Opening.{OpensIn, good_of}
use Rattle.vx_stage_volumes.specs.Parting.{PartsGroup}
use Rattle.vx_stage_volumes.proofs.Commit.{IsStoppedAt, group_is_lost, power_is_lost, written_but_group, written_faults}
use Rattle.vx_stage_volumes.proofs.Held.{held as held_by, hold_still, public_there}
use Rattle.vx_stage_volumes.proofs.HeldStart.{IsHeldPublic, IsTouchedAt, good_slots, held_at, held_faults, held_group, held_keeps, held_kept, held_narrows, world_of}
use Rattle.vx_stage_volumes.proofs.Narrowed.{HaveNarrowing}
use Rattle.vx_stage_volumes.proofs.PartedHouse.{keeps_now, moment_now, same_scene}
use Rattle.vx_stage_volumes.proofs.Prepared.{IsOpenable, changes_states, meant, named, of_v}
use Rattle.vx_stage_volumes.proofs.Slots.{IsAtSlot, is_numbered}
use Rattle.vx_stage_volumes.proofs.SoundAs.{HaveRecordedLaws, begin_sound, holds_stuck}
use Rattle.vx_stage_volumes.proofs.StillSectors.{sectors_are}

some_group : (a b : Group) → Some a ≡ Some b → a ≡ b
some_group a b e = cc

-- The moment behind a commit that was to record the volume of this group, and is stopped. As the commit records it the volume is sound by what the
-- devices then hold, if it was before, or never started.
pub record IsUnrecordedAt {P : Type 0} {ghosts : Ghosts P} (see : P → Seen) (shelf : Shelved) (h : House P ghosts) (edits : List Edit) (g : Group) (v : Vol) (end : End) (m : Moment) : Type 0 where
  pub then : Moment
  pub is : IsMomentButGroup see (at shelf h) then
  pub later : AreLater m.counts then.counts
  pub opened : Moment
  pub touched : IsTouched g v.name m opened
  pub narrows : Narrows g v m opened
  pub first : AreLater m.counts opened.counts
  pub writing : Writing
  pub change : IsChange edits opened.world writing
  pub stopped : IsStopped writing opened end then
  pub rest : AreLater opened.counts then.counts
  pub sound : (is_new v.state ≡ false → IsSoundImage (image_on m.world.devices g v)) → IsSoundAs g writing.config v.name opened.world

-- ---- held among those that could not be put back

module _ {P : Type 0} {ghosts : Ghosts P} (alike : (p q : P) → is_some (ghosts.seen p).told ≡ is_some (ghosts.seen q).told) (shelf : Shelved) (h : House P ghosts) (keeps : Keeps ghosts.seen (at shelf h))
    {g mid : Imported P ghosts} (has : h.group ≡ Some g) (parts : PartsGroup ghosts.seen g mid) where
  abbrev see : P → Seen
  see = ghosts.seen

  -- the house whose group is parted
  abbrev pub k : House P ghosts
  k = with_group h mid

  pub mid_keeps : Keeps see (at shelf k)
  mid_keeps = keeps_now see shelf h g mid has parts keeps

  mid_faults : scene see (at shelf k) ≡ scene see (at shelf h)
  mid_faults = same_scene see shelf h g mid has parts

  pub mid_at : (m : Moment) → IsMoment see (at shelf h) m → IsMoment see (at shelf k) m
  mid_at m is = moment_now see shelf h g mid has parts m is

  module _ {v : Vol} {opened : Imported P ghosts} {running : Running P ghosts} (opens : OpensIn see v mid opened running) {public : Public P ghosts} (held : IsHeldPublic mid.public opened.public running public) where
    abbrev pub g1 : Imported P ghosts
    g1 = held_group alike shelf k mid opened refl mid_keeps v running opens public held

    abbrev pub h1 : House P ghosts
    h1 = with_group k g1

    pub keeps1 : Keeps see (at shelf h1)
    keeps1 = held_keeps alike shelf k mid opened refl mid_keeps v running opens public held

    pub kept1 : IsGroupKept see g1
    kept1 = held_kept alike shelf k mid opened refl mid_keeps v running opens public held

    pub faults1 : FaultsGoOn (scene see (at shelf h)) (scene see (at shelf h1))
    faults1 = subst (λ s. FaultsGoOn s (scene see (at shelf h1))) mid_faults (held_faults alike shelf k mid opened refl mid_keeps v running opens public held)

    pub at1 : (m : Moment) → IsMoment see (at shelf h) m → IsTouchedAt see shelf h1 (world_of see mid) v.name m
    at1 m is = held_at alike shelf k mid opened refl mid_keeps v running opens public held m (mid_at m is)

    -- the copies of its log have come nearer to one another
    pub narrows1 : HaveNarrowing see → (m : Moment) (is : IsMoment see (at shelf h) m) → Narrows (world_of see mid) v m (at1 m is).then
    unfolding at1
    narrows1 laws m is = held_narrows alike shelf k mid opened refl mid_keeps v running opens public held laws m (mid_at m is)

    -- a good slot has the number of its disk's device
    pub slots1 : (slot : ℕ) → has_slot (good_of see mid) slot ≡ true → IsAtSlot opens.numbers (members see mid.base) (world_of see mid).members slot
    slots1 = good_slots alike shelf k mid opened refl mid_keeps v running opens public held

-- ---- the commit is stopped

module _ {P : Type 0} {ghosts : Ghosts P} (alike : (p q : P) → is_some (ghosts.seen p).told ≡ is_some (ghosts.seen q).told) (shelf : Shelved) (h : House P ghosts) (keeps : Keeps ghosts.seen (at shelf h))
    {edits : List Edit} {name : Word} {v : Vol} {next : NextConfig} {g mid : Imported P ghosts} (has : h.group ≡ Some g) (openable : IsOpenable ghosts.seen edits name v next g mid)
    {opened : Imported P ghosts} {running : Running P ghosts} (opens : OpensIn ghosts.seen v mid opened running) {public : Public P ghosts} (held : IsHeldPublic mid.public opened.public running public)
    (laws : HaveNarrowing ghosts.seen) (sounds : HaveRecordedLaws) (g' : Imported P ghosts) (public_is : g'.public ≡ public) (tried : IsTried ghosts.seen next.text.items mid.base g'.base) where
  abbrev parted_house : House P ghosts
  parted_house = k alike shelf h keeps has openable.parts

  keeps_parted : Keeps ghosts.seen (at shelf parted_house)
  keeps_parted = mid_keeps alike shelf h keeps has openable.parts

  abbrev held_at_first : Imported P ghosts
  held_at_first = g1 alike shelf h keeps has openable.parts opens held

  abbrev first_house : House P ghosts
  first_house = h1 alike shelf h keeps has openable.parts opens held

  keeps_first : Keeps ghosts.seen (at shelf first_house)
  keeps_first = keeps1 alike shelf h keeps has openable.parts opens held

  kept_first : IsGroupKept ghosts.seen held_at_first
  kept_first = kept1 alike shelf h keeps has openable.parts opens held

  -- the moment in which it is opened
  abbrev touched_at : (m : Moment) → IsMoment ghosts.seen (at shelf h) m → IsTouchedAt ghosts.seen shelf first_house (world_of ghosts.seen mid) v.name m
  touched_at m is = at1 alike shelf h keeps has openable.parts opens held m is

  abbrev pub h2 : House P ghosts
  h2 = with_group first_house g'

  -- what is kept
  pub but_group2 : KeepsButGroup ghosts.seen (at shelf h2)
  but_group2 = written_but_group ghosts.seen shelf first_house held_at_first g' refl keeps_first kept_first next.text.items public_is tried

  pub faults2 : FaultsGoOn (scene ghosts.seen (at shelf h)) (scene ghosts.seen (at shelf h2))
  faults2 = faults_trans (scene ghosts.seen (at shelf h)) (scene ghosts.seen (at shelf first_house)) (scene ghosts.seen (at shelf h2)) (faults1 alike shelf h keeps has openable.parts opens held)
      (written_faults ghosts.seen shelf first_house held_at_first g' refl keeps_first kept_first next.text.items public_is tried)

  -- as it is recorded the volume is sound
  sound_at : (m : Moment) (is : IsMoment ghosts.seen (at shelf h) m) (x : Writing) → IsChange edits (touched_at m is).then.world x →
      (is_new v.state ≡ false → IsSoundImage (image_on m.world.devices (world_of ghosts.seen mid) v)) → IsSoundAs (world_of ghosts.seen mid) x.config v.name (touched_at m is).then.world
  sound_at m is x change =
      let kept_k = keeps_but_group ghosts.seen (at shelf parted_house) keeps_parted in
      let at_m = moment_but_group ghosts.seen (at shelf parted_house) m (mid_at alike shelf h keeps has openable.parts m is) in
      let slot_at = slots1 alike shelf h keeps has openable.parts opens held in
      let contents = held_by ghosts.seen laws.ends laws.counts (at shelf parted_house) kept_k m at_m mid refl in
      let same : x.group ≡ world_of ghosts.seen mid = some_group x.group (world_of ghosts.seen mid) (sym change.group ∙ (touched_at m is).is.group_is) in
      begin_sound sounds (members ghosts.seen mid.base) (world_of ghosts.seen mid) v (of_v openable) openable.may opens.numbers mid.public opened.public running opens.form opens.started slot_at
      m.world contents (hold_still ghosts.seen laws.ends laws.counts (at shelf parted_house) kept_k m at_m mid refl)
      (sectors_are m.world.devices (members ghosts.seen mid.base) (world_of ghosts.seen mid).members (good_of ghosts.seen mid) opens.numbers contents (public_there ghosts.seen laws.ends laws.counts (at shelf parted_house) kept_k m at_m mid refl)
      (λ slot good. is_numbered opens.numbers (members ghosts.seen mid.base) (world_of ghosts.seen mid).members slot (slot_at slot good)))
      (touched_at m is).then.world
      (holds_stuck ghosts.seen laws.ends laws.counts (at shelf first_house) (keeps_but_group ghosts.seen (at shelf first_house) keeps_first) (touched_at m is).then (moment_but_group ghosts.seen (at shelf first_house) (touched_at m is).then (touched_at m is).is)
      held_at_first refl mid.public.stuck.items running held.stuck)
      x.config (changes_states openable x.config (subst (λ (w : Group). IsEdited edits w.config x.config) same change.edited) (good_of ghosts.seen mid))

  stopped_at : (end : End) (m : Moment) (is : IsMoment ghosts.seen (at shelf h) m) → IsStoppedAt ghosts.seen shelf h2 edits end (touched_at m is).then → IsUnrecordedAt ghosts.seen shelf h2 edits (world_of ghosts.seen mid) v end m
  stopped_at end m is stopped = record {
    then = stopped.then;
    is = stopped.is;
    later = later_trans m.counts (touched_at m is).then.counts stopped.then.counts (touched_at m is).later stopped.later;
    opened = (touched_at m is).then;
    touched = (touched_at m is).touched;
    narrows = narrows1 alike shelf h keeps has openable.parts opens held laws m is;
    first = (touched_at m is).later;
    writing = stopped.writing;
    change = stopped.change;
    stopped = stopped.stopped;
    rest = stopped.later;
    sound = sound_at m is stopped.writing stopped.change;
  }

  -- the group is lost
  pub group_lost : Each HasRisen (members ghosts.seen mid.base) (members ghosts.seen g'.base) → (m : Moment) → IsMoment ghosts.seen (at shelf h) m → IsUnrecordedAt ghosts.seen shelf h2 edits (world_of ghosts.seen mid) v ends.GroupLost m
  group_lost risen m is =
      stopped_at ends.GroupLost m is
      (group_is_lost ghosts.seen shelf first_house held_at_first g' refl keeps_first kept_first next.text.items public_is tried edits next.config (meant openable) (named openable) (touched_at m is).then (touched_at m is).is risen)

  -- the power is lost
  pub power_lost : AnyOf IsCut (members ghosts.seen g'.base) → (m : Moment) → IsMoment ghosts.seen (at shelf h) m → IsUnrecordedAt ghosts.seen shelf h2 edits (world_of ghosts.seen mid) v (ends.Lost []) m
  power_lost cut m is =
      stopped_at (ends.Lost []) m is
      (power_is_lost ghosts.seen shelf first_house held_at_first g' refl keeps_first kept_first next.text.items public_is tried edits next.config (meant openable) (named openable) (touched_at m is).then (touched_at m is).is cut)
