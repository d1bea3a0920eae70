-- An import gives a group back that was left on its devices, as by a deport.
use Rattle.std.proofs.Common.{◌≡◌, ◌⊎◌, ℕ, ◌+◌, ◌<◌, ◌≤◌, ◌^◌, Bool, true, false, ◌||◌, List, [], ◌∷◌, ◌++◌, length, Option, Some, None, refl, sym, ◌∙◌, ap, subst, inl, inr, arith, append-nil}
use Rattle.std.specs.List.Sorted.{IsPermutation}
use Rattle.vx_base.specs.Counts.{RoseBy}
use Rattle.vx_base.specs.Named.{Word}
use Rattle.vx_base.proofs.NamedLemmas.{bytes_eq_same, bytes_eq_self}
use Rattle.vx_mask.specs.Mask.{has}
use Rattle.vx_copies.specs.Lists.{AllOf, AnyOf}
use Rattle.vx_copies.specs.Image.{Offer, offer_in}
use Rattle.vx_config_parts.specs.declared.object.Object.{Object}
use Rattle.vx_rules.specs.Rules.{first_broken}
use Rattle.vx_objects.specs.declared.config.Config.{Config}
use Rattle.vx_objects.specs.Config.{objects_of}
use Rattle.vx_script_forms.specs.declared.form.Form.TheVariants.{DgImport, DgDeport}
use Rattle.vx_answers.specs.declared.answer.Answer.{Answer}
use Rattle.vx_answers.specs.declared.answer.Answer.TheVariants.{One}
use Rattle.vx_answers.specs.declared.answer.End.{End}
use Rattle.vx_answers.specs.declared.refusal.Refusal.{Refusal}
use Rattle.vx_moments.specs.World.{World, Member, Group}
use Rattle.vx_moments.specs.Moment.{Moment, HasFailed}
use Rattle.vx_moments.specs.Holding.{IsMemberDevice, is_among}
use Rattle.vx_moments.specs.Leaving.{group_gone}
use Rattle.vx_moments.specs.Copies.{IsTextOf}
use Rattle.vx_moments.specs.Commit.{Writing, parties, is_written_slot, is_slot_of, DeviceGoes, NoneFailed, IsCommitted}
use Rattle.vx_stages.specs.Finding.{Candidate, IsCandidate, AreCounted, Found, Finds, group_found, import_records}
use Rattle.vx_plans.specs.Plans.{plan_of, plan_deport}
use Rattle.vx_stages.specs.Records.{next_slot}
use Rattle.vx_stages.specs.Refusals.{refusal_from}
use Rattle.vx_stages.specs.Ends.{RefusedAsLong}
use Rattle.vx_stages.specs.Stages.{Stops, IsBetween, IsImporting, ImportRefused}
use Rattle.vx_plans.specs.Steps.{Runs, Serves, AreAsBefore}
use Rattle.vx_plans.specs.Laws.{WentWell}
use Rattle.vx_plans.specs.declared.stages.Finish.TheVariants.{Nothing}
use Rattle.vx_stages.specs.declared.stage.Stage.TheVariants.{Import}
use Rattle.vx_plans.proofs.Calm.{calm, shelf_calm, powered, none_of, nowhere, well_after}
use Rattle.vx_laws.specs.Returning.{HasSamePublic, IsKeptOn, nobody, IsOutdated, IsLeftBehind, IsFull, IsReturned, is_done, good_members, EachGroupReturns, IsWhole, EachWholeGroupComesBack, IsDeviceOf}
use Rattle.vx_laws.proofs.ListFacts.{clash, either, both_ways, alike, any_with, all_map, all_filtered, all_append, all_pass, all_any}
use Rattle.vx_laws.proofs.SecondReads.{committed_is, same_print, same_length}
use Rattle.vx_laws.proofs.Slots.{next_kept}
use Rattle.vx_laws.proofs.Records.{same_recorded}
use Rattle.vx_laws.proofs.Runs.{served, left_so, well_before, same_well, none_failed, well_from}
use Rattle.vx_laws.proofs.Finds.{current_short, members_back, in_text, same_objects, named, disks_alone, finds_taken}
use Rattle.vx_laws.proofs.Commits.{same_candidate, HasItsHeader, IsRecorded, CanBeWritten, can_be, kept_as, group_now, all_good, one_more, public_kept, each_other, left_behind}
use Rattle.vx_config_parts.specs.declared.vol.Vol.{Vol}
use Rattle.vx_answers.specs.declared.refusal.Refusal.TheVariants.{NoGroup}
use Rattle.vx_stages.specs.Tests.{fails, unless, is_here, in_use_by, started_of, first_started}
use Rattle.vx_stages.specs.declared.test.Test.TheVariants as tests
use Rattle.vx_moments.proofs.Lone.{lent_still}

-- ---- all devices are found

none_excused : (names : List Word) (before now : ℕ) (name : Word) → now ≡ before → now ≤ 18446744073709551614 → RoseBy (length names) before now → is_among name names ≡ false
none_excused [] before now name same room rose = refl
none_excused (n ∷ names) before now name same room rose = absurd (omega (arith, same, room, rose))

never_so : (b : Bool) → (b ≡ true → ⊥) → b ≡ false
never_so true never = absurd (never refl)
never_so false never = refl

module _ (dg : Word) (w : World) (old mid : Moment) (well : WentWell old mid) (f : Found dg w old.counts mid.counts) where
  all_there : (name : Word) → f.absent name ≡ false
  all_there name =
      never_so (f.absent name)
      (λ is.
      either (λ failed. calm old mid well name failed)
      (λ among. both_ways (is_among name f.excused) among (none_excused f.excused old.counts.shelf mid.counts.shelf name well.quiet.shelf well.shelf_room f.shelf))
      (f.gone name is))

  all_read : (name : Word) → f.unread name ≡ false
  all_read name = never_so (f.unread name) (λ is. calm old mid well name (f.failed name is))

  counted : AreCounted dg nobody w f.counted
  counted = subst (λ (u : Word → Bool). AreCounted dg u w f.counted) (λ i name. all_there name i) f.count

  finds_all : (Refused : Refusal → Type 0) (Taken : Offer → Config → Type 0) → Finds dg w f.unread f.counted Refused Taken → Finds dg w nobody f.counted Refused Taken
  finds_all Refused Taken finds = subst (λ (u : Word → Bool). Finds dg w u f.counted Refused Taken) (λ i name. all_read name i) finds

-- ---- what is written is the group

-- the group is written as it was, but for its members that are not good
pub record IsSameGroup (g : Group) (os : List Object) (x : Writing) : Type 0 where
  pub good : x.group.good ≡ g.good
  pub members : x.group.members ≡ good_members g
  pub sequence : x.group.sequence ≡ g.sequence
  pub objects : objects_of x.config ≡ os
  pub carriers : x.carriers ≡ x.group.members
  pub joiners : x.joiners ≡ []

or_nothing : (b : Bool) → (b || false) ≡ b
or_nothing true = refl
or_nothing false = refl

module _ (g : Group) (w : World) (left : IsLeftBehind g w) where
  text_short : length left.text ≤ 522240
  text_short = of (good_members g) left.some left.kept
    where
      of : (ms : List Member) → (ms ≡ [] → ⊥) → AllOf (IsKeptOn g left.text w) ms → length left.text ≤ 522240
      of [] some kept = absurd (some refl)
      of (m ∷ ms) some kept = current_short g.sequence g.good left.text kept.0.device.contents kept.0.current

  -- what an import writes is the group
  same_group : (x : Writing) (old mid : Moment) → WentWell old mid → g.sequence ≤ 2 ^ 63 → IsImporting g.config.group w x old.counts mid.counts → IsSameGroup g (in_text g w left).os x
  same_group x old mid well low i =
      let f = i.found in
      let count = counted g.config.group w old mid well f in
      let Taken : Offer → Config → Type 0 = λ o config. (x.group ≡ group_found o f.counted config) × (objects_of x.config ≡ import_records config) in
      let found = finds_taken g w left f.counted count (λ r. ⊥) Taken low (finds_all g.config.group w old mid well f (λ r. ⊥) Taken i.finds) in
      let group_is = found.2.0 in
      record {
        good = ap (λ (h : Group). h.good) group_is;
        members = ap (λ (h : Group). h.members) group_is ∙ members_back g w left f.counted count;
        sequence = ap (λ (h : Group). h.sequence) group_is;
        objects = found.2.1 ∙ committed_is g.config (in_text g w left).os (in_text g w left).are found.0 found.1;
        carriers = i.carriers;
        joiners = i.joiners;
      }

  -- and it is not refused
  not_refused : {Q : Type 0} (old new : Moment) (end : End) → WentWell old new → g.sequence ≤ 2 ^ 63 → ImportRefused g.config.group w end old.counts new.counts → Q
  not_refused {Q = Q} old new end well low denied =
      let f = denied.found in
      let count = counted g.config.group w old new well f in
      let Refused : Refusal → Type 0 = λ r. r ≡ denied.why in
      let Taken : Offer → Config → Type 0 = λ o config. (refusal_from (first_broken (import_records config)) ≡ Some denied.why) ⊎ ((after : Config) × (objects_of after ≡ import_records config) × RefusedAsLong after end) in
      let found = finds_taken g w left f.counted count Refused Taken low (finds_all g.config.group w old new well f Refused Taken denied.finds) in
      let records = committed_is g.config (in_text g w left).os (in_text g w left).are found.0 found.1 in
      either
      (λ (broken : refusal_from (first_broken (import_records found.0)) ≡ Some denied.why).
      let none : refusal_from (first_broken (import_records found.0)) ≡ None = ap (λ (os : List Object). refusal_from (first_broken os)) records ∙ ap refusal_from (in_text g w left).are.valid in
      clash (refusal_from (first_broken (import_records found.0))) denied.why none broken)
      (λ (long : (after : Config) × (objects_of after ≡ import_records found.0) × RefusedAsLong after end). not_long long.0 (long.1 ∙ records) end long.2) found.2
    where
      not_long : (after : Config) → objects_of after ≡ (in_text g w left).os → (e : End) → RefusedAsLong after e → Q
      not_long after same e (text, printed, past, is) =
          let again : IsTextOf after left.text = same_print (objects_of g.config) (objects_of after) [] left.text (same_objects g w left after same) left.text_is in
          let lengths = same_length (objects_of after) left.text text again printed in
          let short = text_short in
          absurd (omega (arith, lengths, short, past))

  module _ (x : Writing) (same : IsSameGroup g (in_text g w left).os x) where
    pub written_is : (slot : ℕ) → is_written_slot x slot ≡ has g.good slot
    written_is slot =
        ap (λ (ms : List Member). has x.group.good slot || is_slot_of ms slot) same.joiners
        ∙ or_nothing (has x.group.good slot)
        ∙ ap (λ (good : ℕ). has good slot) same.good

    pub parties_are : parties x ≡ good_members g
    parties_are = ap (λ (ms : List Member). x.group.members ++ ms) same.joiners ∙ append-nil x.group.members ∙ same.members

    pub name_is : x.config.group ≡ g.config.group
    name_is = bytes_eq_same x.config.group g.config.group (named g w left x.config same.objects)

    -- what is written can be found again
    pub ready : CanBeWritten x w
    ready =
        let on : AllOf (λ m. has g.good m.slot ≡ true) (good_members g) = all_filtered (λ m. has g.good m.slot) g.members in
        let kept = all_map (IsKeptOn g left.text w) (λ m. HasItsHeader x w m × IsRecorded x w m) (good_members g) (λ m k. kept_as g left.text w x m name_is (λ l is. same_recorded g.config x.config l (same_objects g w left x.config same.objects) is) k) left.kept in
        can_be x (λ slot. has g.good slot) (good_members g) (good_members g) w written_is same.members parties_are
        (record {
          some = left.some;
          written = on;
          rising = left.rising;
          placed = left.placed;
          just_disks = disks_alone g w left x.config same.objects;
          recorded = all_map (λ m. HasItsHeader x w m × IsRecorded x w m) (IsRecorded x w) (good_members g) (λ m h. h.1) kept;
          good = subst (λ (good : ℕ). AllOf (λ m. has good m.slot ≡ true) (good_members g)) (sym same.good) on;
          headed = all_map (λ m. HasItsHeader x w m × IsRecorded x w m) (HasItsHeader x w) (good_members g) (λ m h. h.0) kept;
        })

-- ---- the group that is imported

-- a free device is free once the group is let go, too
still_candidate : (group : Word) (w : World) (d : Candidate) → w.group ≡ None → IsCandidate group nobody (group_gone w) d → IsCandidate group nobody w d
still_candidate group w d none is =
    same_candidate group (group_gone w) w d (λ held. either (λ lent. is.free (inl (lent_still w d.name lent))) (λ member. subst (λ (o : Option Group). IsMemberDevice o d.name) none member) held) refl is

module _ (g : Group) (x : Writing) (old new : Moment) (left : IsLeftBehind g old.world) (same : IsSameGroup g (in_text g old.world left).os x) (c : IsCommitted x old new) (none : NoneFailed old.counts new.counts) where
  can : CanBeWritten x old.world
  can = ready g old.world left x same

  are : parties x ≡ good_members g
  are = parties_are g old.world left x same

  own : x.config.group ≡ g.config.group
  own = name_is g old.world left x same

  records_same : IsPermutation (objects_of g.config) (objects_of x.config)
  records_same = same_objects g old.world left x.config same.objects

  was : (d : Candidate) → IsCandidate x.config.group nobody (group_gone old.world) d → IsCandidate g.config.group nobody old.world d
  was d is = still_candidate g.config.group old.world d left.no_group (subst (λ (name : Word). IsCandidate name nobody (group_gone old.world) d) own is)

  -- the good slots are the same
  slots_same : (slot : ℕ) → has c.good slot ≡ has g.good slot
  slots_same slot =
      alike (has c.good slot) (has g.good slot)
      (λ is. sym (written_is g old.world left x same slot) ∙ c.mask.few slot is)
      (λ on. any_with (λ m. has c.good m.slot ≡ true) (λ m. m.slot ≡ slot) (parties x) (λ m is e. subst (λ (s : ℕ). has c.good s ≡ true) e is) (all_good x old new can c none) (can.placed slot (written_is g old.world left x same slot ∙ on)))

  -- what was outdated still is
  still_outdated : (d : Candidate) → IsOutdated g d → IsOutdated (group_now x old new can c none) d
  still_outdated d was_old = record {
    slot = slots_same d.label.slot ∙ was_old.slot;
    older = λ o is.
        let low = was_old.older o (subst (λ (name : Word). offer_in name d.device.contents ≡ Some o) own is) in
        let rose = c.rose in
        let from = same.sequence in
        omega (arith, low, rose, from);
  }

  left_again : IsLeftBehind (group_now x old new can c none) (group_gone new.world)
  left_again =
      left_behind x old new can c none
      (λ d is off. either (λ (mine : IsDeviceOf (good_members g) d.name). absurd (off (subst (λ (ms : List Member). IsDeviceOf ms d.name) (sym are) mine))) (λ (old_one : IsOutdated g d). still_outdated d old_one) (left.others d (was d is)))

  full_again : IsFull g old.world → IsFull (group_now x old new can c none) (group_gone new.world)
  full_again full =
      let all : parties x ≡ g.members = are ∙ all_pass (λ m. has g.good m.slot) g.members full.all_good in
      let up = next_kept g.config x.config records_same in
      record {
        all_good = all_good x old new can c none;
        packed = subst (AllOf (λ m. m.slot < next_slot x.config)) (sym all) (all_map (λ m. m.slot < next_slot g.config) (λ m. m.slot < next_slot x.config) g.members (λ m lt. omega (arith, lt, up)) full.packed);
        alone = λ d is.
            either (λ mine. mine) (λ never. absurd never)
            (each_other x old new can c none {Other = λ d. ⊥} (λ e was_one off. off (subst (λ (ms : List Member). IsDeviceOf ms e.name) (sym all) (full.alone e (was e was_one)))) d is);
      }

  returned : IsReturned g old.world new.world
  returned = record {
    now = group_now x old new can c none;
    here = c.group;
    named = own;
    records = records_same;
    text = λ t printed. same_print (objects_of g.config) (objects_of x.config) [] t records_same printed;
    good = slots_same;
    members = are;
    sequence = one_more x old new can c none ∙ ap (λ (n : ℕ). n + 1) same.sequence;
    public = all_append (λ m. DeviceGoes HasSamePublic m.device old.world new.world) x.group.members x.joiners
        (public_kept x c.last c.good old new x.group.members c.committing.short can.good c.committing.members)
        (subst (AllOf (λ m. DeviceGoes HasSamePublic m.device old.world new.world)) (sym same.joiners) tt);
    others = c.committing.others;
    volumes = c.committing.volumes;
    left = left_again;
    whole = λ full. record { here = c.group; left = left_again; full = full_again full };
  }

-- ---- the command

done_at : (g : Group) (old from new : Moment) (left : IsLeftBehind g old.world) → g.sequence ≤ 2 ^ 63 → WentWell old new → IsBetween g.config.group old from new → (x : Writing) → IsImporting g.config.group old.world x old.counts from.counts → IsCommitted x from new → IsReturned g old.world new.world
done_at g old from new left low well between x writing committed =
    let first = well_before old from new between.first between.rest well in
    let rest = well_after old from new between.first between.rest well in
    let Back : World → Type 0 = λ w. (l : IsLeftBehind g w) → IsSameGroup g (in_text g w l).os x → IsReturned g w new.world in
    let back : Back from.world = λ l same. returned g x from new l same committed (none_failed from new rest) in
    subst Back between.world back left (same_group g old.world left x old from first low writing)

not_stopped : {Q : Type 0} (g : Group) (old new : Moment) (end : End) (left : IsLeftBehind g old.world) → g.sequence ≤ 2 ^ 63 → WentWell old new → Stops (Import g.config.group) [] old end new → Q
not_stopped g old new end left low well (inl (h, here, ends)) = clash old.world.group h left.no_group here
not_stopped g old new end left low well (inr (inl (reads, inl denied))) = not_refused g old.world left old new end well low denied
not_stopped g old new end left low well (inr (inl (reads, inr (inl shelf)))) = absurd (shelf_calm old new well shelf.1)
not_stopped g old new end left low well (inr (inl (reads, inr (inr (is, (name, cut)))))) = absurd (powered old new well name cut)
not_stopped g old new end left low well (inr (inr (mid, between, (x, writing, stopped)))) =
    let first = well_before old mid new between.first between.rest well in
    let rest = well_after old mid new between.first between.rest well in
    let same = same_group g old.world left x old mid first low writing in
    let can = ready g old.world left x same in
    let some : AnyOf (λ m. is_written_slot x m.slot ≡ true) (parties x) = all_any (λ m. is_written_slot x m.slot ≡ true) (parties x) can.some can.written in
    let carried : AnyOf (λ m. is_written_slot x m.slot ≡ true) x.carriers = subst (AnyOf (λ m. is_written_slot x m.slot ≡ true)) (parties_are g old.world left x same ∙ sym same.members ∙ sym same.carriers) some in
    either
    (λ lost_all. absurd (none_of (λ m. is_written_slot x m.slot ≡ true → HasFailed mid.counts new.counts m.device) (λ m. is_written_slot x m.slot ≡ true) x.carriers (λ m fails on. calm mid new rest m.device (fails on)) lost_all.1 carried))
    (λ gone. absurd (nowhere (λ m. new.counts.cut m.device ≡ true) (parties x) (λ m cut. powered mid new rest m.device cut) gone.1))
    stopped.ends

import_gives : (g : Group) (old new : Moment) (answer : Answer) → Serves (Runs [] (Import g.config.group ∷ []) Nothing) AreAsBefore old answer new → IsLeftBehind g old.world → g.sequence ≤ 2 ^ 63 → WentWell old new → (answer ≡ is_done) × IsReturned g old.world new.world
import_gives g old new answer s left low well = by s.does
  where
    by : Runs [] (Import g.config.group ∷ []) Nothing old s.views s.end s.over → (answer ≡ is_done) × IsReturned g old.world new.world
    by (inl (mid, later, (free, from, between, (x, writing, committed)), (shows, is, same))) =
        let over = left_so (Runs [] (Import g.config.group ∷ []) Nothing) old answer new s is ∙ same in (
          s.told ∙ (λ i. One (shows i) (is i)),
          subst (λ (m : Moment). IsReturned g old.world m.world) (sym over) (done_at g old from mid left low (subst (λ (m : Moment). WentWell old m) over well) between x writing committed),
        )
    by (inr (none, later, stops)) = not_stopped g old s.over s.end left low (same_well old s.over new s.counts well) stops

pub each_group_returns : EachGroupReturns
unfolding plan_of
each_group_returns = λ place c g old new answer is left low step well. import_gives g old new answer (served place c (DgImport g.config.group) old answer new is step) left low well

-- ---- the tests of a deport

pub is_meant_one : (g : Group) (w : World) → w.group ≡ Some g → fails (tests.GroupIs (Some g.config.group)) [] w ≡ None
unfolding fails
is_meant_one g w here =
    ap (λ (o : Option Group). unless (is_here (Some g.config.group) o) (NoGroup (Some g.config.group))) here
    ∙ ap (λ (b : Bool). unless b (NoGroup (Some g.config.group))) (bytes_eq_self g.config.group)

none_started : (g : Group) (w : World) → w.group ≡ Some g → g.config.volumes ≡ [] → fails tests.NoneStarted [] w ≡ None
unfolding fails
none_started g w here none =
    ap (λ (o : Option Group). in_use_by (started_of w.volumes o)) here
    ∙ ap (λ (vs : List Vol). in_use_by (first_started w.volumes vs)) none

-- ---- a deport, and an import

-- the deport is done, and the group has gone
pub record IsLetGo (told : Answer) (old new : Moment) : Type 0 where
  pub is : told ≡ is_done
  pub gone : new.world ≡ group_gone old.world
  pub counts : new.counts ≡ old.counts

deport_done : (g : Group) (old new : Moment) (told : Answer) → IsWhole g old.world → Serves (Runs [] (plan_deport g.config.group) Nothing) AreAsBefore old told new → IsLetGo told old new
deport_done g old new told whole s = by s.does
  where
    started : (m : Moment) → m ≡ old → fails tests.NoneStarted [] m.world ≡ None
    started m same = subst (λ (x : Moment). fails tests.NoneStarted [] x.world ≡ None) (sym same) (none_started g old.world whole.here whole.left.just_disks.volumes)

    by : Runs [] (plan_deport g.config.group) Nothing old s.views s.end s.over → IsLetGo told old new
    by (inl (a, later_a, meant, (inl (b, later_b, free, (inl (c, later_c, (gone, counts), (shows, is, same))))))) =
        let over = left_so (Runs [] (plan_deport g.config.group) Nothing) old told new s is ∙ same in
        let first : b ≡ old = free.1 ∙ meant.1 in record {
          is = s.told ∙ (λ i. One (shows i) (is i));
          gone = ap (λ (m : Moment). m.world) over ∙ gone ∙ ap (λ (m : Moment). group_gone m.world) first;
          counts = ap (λ (m : Moment). m.counts) over ∙ counts ∙ ap (λ (m : Moment). m.counts) first;
        }
    by (inl (a, later_a, meant, (inl (b, later_b, free, (inr (none, later_c, stops)))))) = absurd stops
    by (inl (a, later_a, meant, (inr (none, later_b, (r, denied, is, same))))) = clash (fails tests.NoneStarted [] a.world) r (started a meant.1) denied
    by (inr (none, later_a, (r, denied, is, same))) = clash (fails (tests.GroupIs (Some g.config.group)) [] old.world) r (is_meant_one g old.world whole.here) denied

pub each_whole_group_comes_back : EachWholeGroupComesBack
unfolding plan_of
each_whole_group_comes_back = λ place out back g old new told answer is_out is_back whole low steps well.
    let mid = steps.0 in
    let next = steps.2.0 in
    let same : new ≡ next = steps.2.2 in
    let let_go = deport_done g old mid told whole (served place out (DgDeport g.config.group) old told mid is_out steps.1) in
    let rest : WentWell mid next = well_from old mid next let_go.counts (subst (λ (m : Moment). WentWell old m) same well) in
    let left : IsLeftBehind g mid.world = subst (IsLeftBehind g) (sym let_go.gone) whole.left in
    let got = each_group_returns (place + 1) back g mid next answer is_back left low steps.2.1 rest in
    let returned : IsReturned g (group_gone old.world) new.world =
    subst (λ (w : World). IsReturned g w new.world) let_go.gone (subst (λ (m : Moment). IsReturned g mid.world m.world) (sym same) got.1) in
    (let_go.is, got.0, returned, returned.whole whole.full)
