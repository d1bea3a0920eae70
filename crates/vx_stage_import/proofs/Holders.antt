-- Disks that are taken in as those of the group: the step from the moment before the search to the moment now.
use Rattle.std.proofs.Common.{◌≡◌, ◌∙◌, ◌+◌, ◌≤◌, ℕ, Option, Some, None, Vec, List, [], ◌∷◌, ◌++◌, map, length, Result, Ok, Err, refl, sym, ap, subst, inr, arith}
use Rattle.std.specs.declared.alloc.Global.{Global}
use Rattle.std.proofs.lemmas.List.{append-nil}
use Rattle.vx_pages.specs.declared.local_piece.LocalPiece.{Ghosts}
use Rattle.vx_base.specs.Named.{Word}
use Rattle.vx_piece.specs.Seen.{Seen}
use Rattle.vx_copies.specs.Commit.{HasRisen}
use Rattle.vx_copies.specs.Disks.{HasSlot, IsReady, IsCut, good_mask}
use Rattle.vx_copies.specs.Disks.{DiskSeen as DiskHeld}
use Rattle.vx_copies.specs.Image.{Offer}
use Rattle.vx_copies.specs.Lists.{AllOf, AnyOf, Each}
use Rattle.vx_copies.specs.declared.disk.Disk.{Disk}
use Rattle.vx_confdb.specs.Groups.{members, CarriesText}
use Rattle.vx_confdb.specs.Texts.{text_of}
use Rattle.vx_confdb.specs.declared.group.Group.{Group as Base}
use Rattle.vx_import.specs.Answers.{IsGiven, IsOf}
use Rattle.vx_import.specs.Looks.{Looked, looked}
use Rattle.vx_import.specs.declared.device.GroupDevice.{GroupDevice}
use Rattle.vx_import.specs.declared.judging.Given.{Given}
use Rattle.vx_objects.specs.declared.config.Config.{Config}
use Rattle.vx_objects.specs.Config.{objects_of}
use Rattle.vx_answers.specs.declared.answer.End.{End}
use Rattle.vx_answers.specs.declared.answer.End.TheVariants as ends
use Rattle.vx_script_words.specs.declared.value.DiskAt.{DiskAt}
use Rattle.vx_moments.specs.World.{World, Group}
use Rattle.vx_moments.specs.Moment.{Moment, AreLater}
use Rattle.vx_moments.specs.Copies.{IsTextOf}
use Rattle.vx_moments.specs.Commit.{Writing, IsStopped}
use Rattle.vx_stages.specs.Finding.{members_of, member_of, group_found, import_records}
use Rattle.vx_stages.specs.Finding.{Found}
use Rattle.vx_stages.specs.Stages.{IsImporting, IsBetween, Stops}
use Rattle.vx_stages.specs.declared.stage.Stage.TheVariants as stage
use Rattle.vx_house.specs.Goes.{StageGoes}
use Rattle.vx_fronts.specs.Fronts.{HasPrivate}
use Rattle.vx_fronts.specs.Parted.{AreParted, IsFront}
use Rattle.vx_fronts.proofs.Parted.{parted_committed}
use Rattle.vx_lending.specs.Public.{lent_pieces, still_pieces}
use Rattle.vx_lending.specs.declared.public.Public.{Public}
use Rattle.vx_house.specs.Holders.{Holder, holders, volume_holder, group_holders, hand_holder, holder_in, volume_at, whole_members, AreApart, AreHeld, IsTakenFrom}
use Rattle.vx_house.specs.Scene.{Shelved, Scene, seen_at, counts_of, FaultsGoOn}
use Rattle.vx_house.specs.View.{at, scene, is_lent, group_of, member_in, AreSized, IsGroupIdle, IsGroupWhole, IsMoment, IsMomentButGroup, IsGroupKept, KeepsButGroup}
use Rattle.vx_house.proofs.Founded.{founded}
use Rattle.vx_house.proofs.Returns.{apart_back}
use Rattle.vx_house.proofs.Wholes.{mapped_holders, unparted, unparted_holders}
use Rattle.vx_house.specs.declared.house.House.{House}
use Rattle.vx_house.specs.declared.house.Imported.{Imported}
use Rattle.vx_house.specs.declared.stop.Stop.{Stop}
use Rattle.vx_house.specs.declared.stop.Stop.TheVariants as stops
use Rattle.vx_house.proofs.AllLaws.{all_back, all_each}
use Rattle.vx_house.proofs.Moments.{counts_own, counts_later, later_trans, faults_moved, faults_trans}
use Rattle.vx_house.proofs.Scenes.{scene_of}
use Rattle.vx_stage_changes.proofs.Alone.{IsWrittenIn, alone, sized_after, x_alone, lost_alone, cut_alone, committed_alone}
use Rattle.vx_stage_changes.proofs.CommitJoins.{held_on, faults_on, moment_on, later_on, but_group_on}
use Rattle.vx_stage_changes.proofs.Holders.{world_group as world_whole}
use Rattle.vx_stage_changes.proofs.Stillness.{slots_now, recorded_now}
use Rattle.vx_stage_changes.specs.Committing.{IsTried, IsFinished, IsWritable, CommitEnds}
use Rattle.vx_stage_import.specs.Finds.{beside, IsOfGroup, AreLooked, candidate_of, candidates_of}
use Rattle.vx_stage_import.specs.Giving.{IsBack, good_looks, disks_in, seen_disks, disk_holders}
use Rattle.vx_stage_import.specs.Importing.{all_read, IsSince}
use Rattle.vx_stage_import.specs.Judging.{TextJudged, is_started, labels_of}
use Rattle.vx_header.specs.Named.{label_of}
use Rattle.vx_stage_import.specs.Readying.{IsReadied, AreCommittable}
use Rattle.vx_stage_import.specs.Taking.{group_with, TakesIn, IsTakenIn, IsTurnedAway}
use Rattle.vx_stage_import.specs.declared.judging.Judged.TheVariants.{Ready}
use Rattle.vx_stage_import.proofs.Counts.{unread_by, found_of, all_linked}
use Rattle.vx_stage_import.proofs.Ends.{starves}
use Rattle.vx_stage_import.proofs.Goods.{good_candidates}
use Rattle.vx_stage_import.proofs.Links.{IsLinked}
use Rattle.vx_stage_import.proofs.Masks.{mask_is}
use Rattle.vx_stage_import.proofs.ReadFinds.{import_reads}
use Rattle.vx_stage_import.proofs.Readiness.{committable, named, recorded_disks}
use Rattle.vx_stage_import.proofs.Tellings.{started_same, ready_of, ready_finds, given_finds}
use Rattle.vx_stage_import.proofs.Texts.{labels_in}
use Rattle.vx_house.specs.Reading.{OnlyRead}
use Rattle.vx_house.specs.Unmoved.{Unmoved}
use Rattle.vx_house.proofs.Readings.{stays_device, stays_place, only_trans, only_unmoved}
use Rattle.vx_house.specs.Runs.{AreRuns, run_in}
use Rattle.vx_house.proofs.Runs.{idle_runs, none_in_place, none_still, all_alone}
use Rattle.vx_group_start.specs.Laying.{AreRunningVolumes, AreStuckVolumes}

-- the disks beside a house without a group and with an empty hand are held as those of its group
pub holders_taken : {P : Type 0} {ghosts : Ghosts P} (see : P → Seen) (h : House P ghosts) (g : Imported P ghosts) → still_pieces see g.public ≡ [] → lent_pieces see g.public ≡ [] → h.hand.items ≡ [] → h.group ≡ None → holders see h ++ disk_holders see g.base.disks.items ≡ holders see (record { volumes = h.volumes; group = Some g; hand = h.hand })
holders_taken {P = P} {ghosts = ghosts} see h g still lent ready none =
    ap (λ (o : Option (Imported P ghosts)). (vs ++ (group_holders see o ++ hand)) ++ ds) none
    ∙ ap (λ ks. (vs ++ ks) ++ ds) empty
    ∙ ap (λ ks. ks ++ ds) (append-nil vs)
    ∙ ap (λ ks. vs ++ ks) (sym (append-nil ds) ∙ ap (λ ks. ds ++ ks) (sym empty))
    ∙ ap (λ ks. vs ++ (ks ++ hand)) (sym (unparted_holders see g still lent))
  where
    vs : List Holder
    vs = map (volume_holder see) h.volumes.entries

    ds : List Holder
    ds = disk_holders see g.base.disks.items

    hand : List Holder
    hand = map (hand_holder see) h.hand.items

    empty : map (hand_holder see) h.hand.items ≡ []
    empty = ap (map (hand_holder see)) ready

-- the labels of devices, as candidates and as they were found
pub candidate_labels : (gs : List Looked) → labels_in (candidates_of gs) ≡ map (λ f. f.label) gs
candidate_labels [] = refl
candidate_labels (g ∷ gs) = ap (λ ls. g.label ∷ ls) (candidate_labels gs)

pub found_labels : {P : Type 0} (see : P → Seen) (ds : List (GroupDevice P)) → labels_of ds ≡ labels_in (candidates_of (map (looked see) ds))
found_labels see [] = refl
found_labels see (d ∷ ds) = ap (λ ls. label_of d.header ∷ ls) (found_labels see ds)

members_same : (good : ℕ) (fs : List Looked) → map member_in (disks_in (good_looks good fs)) ≡ members_of good (candidates_of fs)
members_same good fs = mapped (good_looks good fs) ∙ ap (map member_of) (sym (good_candidates good fs))
  where
    mapped : (gs : List Looked) → map member_in (disks_in gs) ≡ map member_of (candidates_of gs)
    mapped [] = refl
    mapped (g ∷ gs) = ap (λ ms. member_of (candidate_of g) ∷ ms) (mapped gs)

-- the disks of a configuration that was found, as the house takes them in
module _ {P : Type 0} {ghosts : Ghosts P} (see : P → Seen) (dg : Word) (names : List Word) (disks : List DiskAt) (first now mid : Shelved) (h : House P ghosts) (ds : List (GroupDevice P)) (es : Vec (Disk P) Global) (given : Given) (after : Config) (v : Vec ℕ Global) (text : List ℕ) (text_is : text ≡ v.items)
    (since : IsSince see all_read dg names first now h (map (looked see) ds)) (looks : AreLooked see dg ds) (given_is : IsGiven dg given (map (looked see) ds))
    (judged : TextJudged dg (text_of given.text) given.good (labels_in (candidates_of (map (looked see) ds))) (is_started h.volumes) (Ready after v))
    (back : IsBack (beside now (holders see h) (map (looked see) ds)) (scene_of mid (holders see h ++ disk_holders see es.items))) (made : seen_disks see es.items ≡ disks_in (good_looks given.good (map (looked see) ds)))
    (public : Public P ghosts) (still : still_pieces see public ≡ []) (lent : lent_pieces see public ≡ []) (running : public.running.entries ≡ []) (left : public.left.items ≡ []) (stuck : public.stuck.items ≡ []) where
  abbrev fs : List Looked
  fs = map (looked see) ds

  abbrev offer : Offer
  offer = record { sequence = given.sequence; good = given.good; text = text_of given.text }

  abbrev ready : IsReadied dg given.good (labels_in (candidates_of fs)) after v.items
  ready = ready_of after v dg offer (labels_in (candidates_of fs)) (is_started h.volumes) judged

  ready_labels : IsReadied dg given.good (map (λ f. f.label) fs) after v.items
  ready_labels = subst (λ ls. IsReadied dg given.good ls after v.items) (candidate_labels fs) ready

  can : AreCommittable see dg given.sequence es.items
  can = committable see dg ds looks given given_is es.items made

  -- the group as it was found
  abbrev pub found_group : Imported P ghosts
  found_group = record { config = ready.config; base = group_with dg given es; public = public }

  -- the house as if that group were imported
  abbrev pub found_house : House P ghosts
  found_house = record { volumes = h.volumes; group = Some found_group; hand = h.hand }

  same_holders : holders see h ++ disk_holders see es.items ≡ holders see found_house
  same_holders = holders_taken see h found_group still lent since.ready since.none

  are_held : AreHeld mid.held (holders see found_house)
  are_held = subst (AreHeld mid.held) same_holders back.held

  writable : IsWritable see found_group
  writable = record { slots = can.slots; ready = can.ready; private = private_by (seen_disks see es.items) can.ready can.sized }
    where
      private_by : (xs : List DiskHeld) → AllOf IsReady xs → AreSized xs → AllOf HasPrivate xs
      private_by [] all sized = tt
      private_by (x ∷ xs) all sized = (record { front = all.0.sectors; device = subst (λ n. 2048 ≤ n) sized.0 all.0.sectors }, private_by xs all.1 sized.1)

  -- none of them is parted
  wholes : whole_members see found_group ≡ seen_disks see es.items
  wholes = unparted see found_group still lent

  idle : (g : Imported P ghosts) → g.public ≡ public → IsGroupIdle g
  idle g same = record { running = ap (λ p. p.running.entries) same ∙ running; left = ap (λ p. p.left.items) same ∙ left; stuck = ap (λ p. p.stuck.items) same ∙ stuck }

  each_disk : AllOf (IsTakenFrom mid.held) (map holder_in (seen_disks see es.items))
  each_disk = subst (AllOf (IsTakenFrom mid.held)) (mapped_holders see es.items) (all_back (IsTakenFrom mid.held) (holders see h) (disk_holders see es.items) back.held.each)

  apart_disks : AreApart (map holder_in (seen_disks see es.items))
  apart_disks = subst AreApart (mapped_holders see es.items) (apart_back (holders see h) (disk_holders see es.items) back.held.apart)

  fronts_by : (xs : List DiskHeld) → AllOf (IsTakenFrom mid.held) (map holder_in xs) → AllOf IsReady xs → AllOf IsFront xs
  fronts_by [] each all = tt
  fronts_by (x ∷ xs) each all = (record { start = each.0.0; private = all.0.sectors }, fronts_by xs each.1 all.1)

  parted_found : AreParted (seen_disks see es.items) (still_pieces see public ++ lent_pieces see public)
  parted_found = (founded mid.held back.held.numbers see found_group still lent (idle found_group refl) (fronts_by (seen_disks see es.items) each_disk can.ready) can.sized each_disk apart_disks).parted

  abbrev start : Scene
  start = scene see (at first h)

  abbrev taken : Scene
  taken = scene see (at mid found_house)

  moved : Unmoved (beside now (holders see h) fs) taken
  moved = subst (λ hs. Unmoved (beside now (holders see h) fs) (scene_of mid hs)) same_holders back.moved

  read : OnlyRead start taken
  read = only_trans start (beside now (holders see h) fs) taken since.reads (only_unmoved (beside now (holders see h) fs) taken moved)

  module _ (m : Moment) (is : IsMoment see (at first h) m) where
    -- the moment before the commit
    abbrev pub middle : Moment
    middle = record { world = record { devices = m.world.devices; volumes = m.world.volumes; group = None }; counts = counts_of taken }

    pub is_found : IsMomentButGroup see (at mid found_house) middle
    is_found = record {
      told = read.told is.told;
      devices_are = λ name. stays_device (is_lent h name) (seen_at start name) (seen_at taken name) (m.world.devices name) (read.seen is.told name) (is.devices_are name);
      volumes_are = is.volumes_are;
      runs_are = none_still see h.group (Some found_group) m.world.group None m.world.volumes (λ n. ap (λ o. run_in o n) since.none) (idle_runs see found_group (idle found_group refl)) is.runs_are;
      counts = counts_own taken;
    }

    later_found : AreLater m.counts (counts_of taken)
    later_found = counts_later start taken m.counts is.counts (λ name. stays_place (seen_at start name) (seen_at taken name) (read.seen is.told name)) read.faults

    none_then : m.world.group ≡ None
    none_then = is.group_is ∙ ap (group_of see) since.none

    pub is_between : (n : Moment) → AreLater (counts_of taken) n.counts → IsBetween dg m middle n
    is_between n later = record {
      world = ap (λ (o : Option Group). let w : World = record { devices = m.world.devices; volumes = m.world.volumes; group = o } in w) (sym none_then);
      reads = import_reads see dg names first now h fs since m is taken (moved.seen (since.reads.told is.told));
      first = later_found;
      rest = later;
    }

    abbrev found : Found dg m.world m.counts (counts_of taken)
    found = found_of see dg names first now h fs since m is taken (faults_moved (beside now (holders see h) fs) taken moved)

    linked : AllOf (IsLinked (unread_by fs)) fs
    linked = all_linked see dg names first now h fs since m is

    low_disks : (xs : List DiskHeld) → AllOf IsReady xs → AllOf HasSlot xs
    low_disks [] all = tt
    low_disks (x ∷ xs) all = (all.0.slot, low_disks xs all.1)

    abbrev world_group : Group
    world_group = record { config = ready.config; good = good_mask (seen_disks see es.items); members = map member_in (seen_disks see es.items); sequence = given.sequence }

    -- by their whole devices they are the same
    same_world : world_whole see found_group ≡ world_group
    same_world = ap (λ l. let w : Group = record { config = ready.config; good = good_mask l; members = map member_in l; sequence = given.sequence } in w) wholes

    group_is_found : world_group ≡ group_found offer (candidates_of fs) ready.config
    group_is_found =
        let one : good_mask (seen_disks see es.items) ≡ given.good = ap good_mask made ∙ mask_is given.good fs given_is.chosen.mask_fits given_is.there (subst (AllOf HasSlot) made (low_disks (seen_disks see es.items) can.ready)) in
        let two : map member_in (seen_disks see es.items) ≡ members_of given.good (candidates_of fs) = ap (map member_in) made ∙ members_same given.good fs in
        ap (λ g. let w : Group = record { config = ready.config; good = g; members = map member_in (seen_disks see es.items); sequence = given.sequence } in w) one
        ∙ ap (λ ms. let w : Group = record { config = ready.config; good = given.good; members = ms; sequence = given.sequence } in w) two

    -- what is written is what was found
    pub importing : (x : Writing) → x.group ≡ world_group → x.config ≡ after → x.carriers ≡ x.group.members → x.joiners ≡ [] → IsImporting dg m.world x m.counts (counts_of taken)
    importing x group config carriers joiners = record {
      found = found;
      finds = given_finds dg m.world (unread_by fs) fs linked (all_each (IsOfGroup dg) (IsOf dg) (λ f of. record { group_is = of.group_is; headed = of.headed }) fs since.each) (λ o config. (x.group ≡ group_found o (candidates_of fs) config) × (objects_of x.config ≡ import_records config)) (λ r. ⊥) given given_is
          (ready_finds after v dg offer (candidates_of fs) m.world (is_started h.volumes) (λ name. started_same see (volume_at h name) (m.world.volumes name) (all_alone see h m.world (λ n. ap (λ o. run_in o n) since.none) is.volumes_are is.runs_are name)) judged (λ config. (x.group ≡ group_found offer (candidates_of fs) config) × (objects_of x.config ≡ import_records config)) (group ∙ group_is_found, ap objects_of config ∙ ready.made));
      carriers = carriers;
      joiners = joiners;
    }

  -- the commit is done, or is stopped
  module _ (base : Base P) where
    abbrev g' : Imported P ghosts
    g' = record { config = after; base = base; public = public }

    abbrev pub taken_house : House P ghosts
    taken_house = record { volumes = h.volumes; group = Some g'; hand = h.hand }

    printed : IsTextOf after text
    printed = subst (IsTextOf after) (sym text_is) ready.printed

    short : length text ≤ 522240
    short = let f = ready.fits in let e = ap length text_is in omega (arith, f, e)

    in_name : after.group ≡ dg
    in_name = named see dg ds looks given given_is after v.items ready_labels

    written_in : IsTried see text found_group.base base → IsWrittenIn see mid found_house found_group g' text
    written_in tried = record { has = refl; held = are_held; writable = writable; tried = tried; public = refl }

    whole_now : IsTried see text found_group.base base → IsGroupWhole see g'
    whole_now tried = record {
      parted = parted_committed (given.sequence + 1) base.sequence text (seen_disks see es.items) (members see base) (still_pieces see public ++ lent_pieces see public) tried.committed.goes parted_found;
      volumes = subst (AreRunningVolumes see) (sym running) tt;
      stuck = subst (AreStuckVolumes see) (sym stuck) tt;
    }

    but_group : IsTried see text found_group.base base → KeepsButGroup see (at mid taken_house)
    but_group tried = record {
      devices = held_on (alone (written_in tried));
      ordered = since.keeps.house.ordered;
      hand = since.keeps.house.hand;
      volumes = since.keeps.house.volumes;
      whole = whole_now tried;
    }

    on_faults : IsTried see text found_group.base base → FaultsGoOn start (scene see (at mid taken_house))
    on_faults tried = faults_trans start taken (scene see (at mid taken_house)) read.faults (faults_on (alone (written_in tried)))

    kept_now : IsFinished see text found_group.base base → IsGroupKept see g'
    kept_now finished = record {
      named = finished.tried.committed.name ∙ sym in_name;
      text = subst (IsTextOf after) (sym finished.carries.holds) printed;
      first = given.sequence + 1;
      carries = subst (λ t. CarriesText see (given.sequence + 1) t base) (sym finished.carries.holds) finished.carries;
      sized = sized_after (written_in finished.tried) (subst AreSized (sym wholes) can.sized);
      slots = slots_now (given.sequence + 1) base.sequence text see es.items base.disks.items finished.tried.committed.goes can.slots;
      recorded = recorded_now (given.sequence + 1) base.sequence text see after after refl es.items base.disks.items finished.tried.committed.goes (recorded_disks see dg ds looks given given_is after v.items ready_labels es.items made);
      whole = whole_now finished.tried;
      placed = none_in_place see g' running;
    }

    -- no volume of it runs
    runs_now : (k : Moment) → IsMomentButGroup see (at mid found_house) k → (f : Option Group) → AreRuns see (Some g') f k.world.volumes
    runs_now k at_k f = none_still see (Some found_group) (Some g') k.world.group f k.world.volumes (idle_runs see found_group (idle found_group refl)) (idle_runs see g' (idle g' refl)) at_k.runs_are

    taken_done : IsFinished see text found_group.base base → StageGoes {T = Unit {0}} see (stage.Import dg) disks (Ok tt) (at first h) (at mid taken_house)
    taken_done finished = record {
      keeps = record {
        devices = held_on (alone (written_in finished.tried));
        house = record { ordered = since.keeps.house.ordered; hand = since.keeps.house.hand; volumes = since.keeps.house.volumes; group = kept_now finished };
      };
      goes = λ m is.
          let w = written_in finished.tried in
          let k = middle m is in
          let at_k = is_found m is in
          let n = moment_on (alone w) k (group_of see (Some g')) in
          let there = but_group_on (alone w) k at_k (group_of see (Some g')) (runs_now k at_k (group_of see (Some g'))) in
          let later = later_on (alone w) k at_k (group_of see (Some g')) in (
            n,
            record { told = there.told; devices_are = there.devices_are; volumes_are = there.volumes_are; runs_are = there.runs_are; group_is = refl; counts = there.counts },
            later_trans m.counts (counts_of taken) n.counts (later_found m is) later,
            (none_then m is, k, is_between m is n later, (x_alone w after, importing m is (x_alone w after) (same_world m is) refl refl refl, committed_alone w k at_k finished printed short in_name)),
          );
      gives = tt;
      still = λ e. cc;
      faults = on_faults finished.tried;
      blamed = tt;
    }

    -- the commit is stopped
    module _ (tried : IsTried see text found_group.base base) (m : Moment) (is : IsMoment see (at first h) m) where
      abbrev w : IsWrittenIn see mid found_house found_group g' text
      w = written_in tried

      abbrev stopped_at : Moment
      stopped_at = moment_on (alone w) (middle m is) None

      stops_at : (end : End) → IsStopped (x_alone w after) (middle m is) end stopped_at → (n : Moment) × IsMomentButGroup see (at mid taken_house) n × AreLater m.counts n.counts × Stops (stage.Import dg) disks m end n
      stops_at end stopped =
          let later = later_on (alone w) (middle m is) (is_found m is) None in (
            stopped_at,
            but_group_on (alone w) (middle m is) (is_found m is) None (runs_now (middle m is) (is_found m is) None),
            later_trans m.counts (counts_of taken) stopped_at.counts (later_found m is) later,
            inr (inr (middle m is, is_between m is stopped_at later, (x_alone w after, importing m is (x_alone w after) (same_world m is) refl refl refl, stopped))),
          )

    taken_lost : (tried : IsTried see text found_group.base base) → Each HasRisen (members see found_group.base) (members see base) → StageGoes {T = Unit {0}} see (stage.Import dg) disks (Err (stops.Ended ends.GroupLost)) (at first h) (at mid taken_house)
    taken_lost tried risen = record {
      keeps = but_group tried;
      goes = λ m is. stops_at tried m is ends.GroupLost (lost_alone (w tried m is) (middle m is) (is_found m is) after printed short in_name risen);
      gives = tt;
      still = λ e. cc;
      faults = on_faults tried;
      blamed = tt;
    }

    taken_cut : (tried : IsTried see text found_group.base base) → AnyOf IsCut (members see base) → StageGoes {T = Unit {0}} see (stage.Import dg) disks (Err (stops.Ended (ends.Lost []))) (at first h) (at mid taken_house)
    taken_cut tried cut = record {
      keeps = but_group tried;
      goes = λ m is. stops_at tried m is (ends.Lost []) (cut_alone (w tried m is) (middle m is) (is_found m is) after printed short in_name cut);
      gives = tt;
      still = λ e. cc;
      faults = on_faults tried;
      blamed = tt;
    }

    pub taken_by : (result : Result (Unit {0}) Stop) → CommitEnds see result text found_group.base base → (result ≡ Err stops.OutOfMemory → ⊥) → StageGoes {T = Unit {0}} see (stage.Import dg) disks result (at first h) (at mid taken_house)
    taken_by (Ok u) is on = taken_done is
    taken_by (Err stops.OutOfMemory) is on = absurd (on refl)
    taken_by (Err (stops.Ended ends.GroupLost)) is on = taken_lost is.0 is.1
    taken_by (Err (stops.Ended (ends.Lost parts))) is on = subst (λ p. StageGoes {T = Unit {0}} see (stage.Import dg) disks (Err (stops.Ended (ends.Lost p))) (at first h) (at mid taken_house)) (sym is.0) (taken_cut is.1 is.2)
    taken_by (Err (stops.Ended (ends.Done copied parts blocks))) is on = absurd is
    taken_by (Err (stops.Ended (ends.Refused r))) is on = absurd is
    taken_by (Err (stops.Ended (ends.Fault told device parts))) is on = absurd is
    taken_by (Err (stops.Ended ends.ShelfFailed)) is on = absurd is

-- the same, or turned away
module _ {P : Type 0} {ghosts : Ghosts P} (see : P → Seen) (dg : Word) (names : List Word) (disks : List DiskAt) (first now mid : Shelved) (h : House P ghosts) (ds : List (GroupDevice P)) (es : Vec (Disk P) Global) (given : Given) (after : Config) (v : Vec ℕ Global) (text : List ℕ) (text_is : text ≡ v.items)
    (since : IsSince see all_read dg names first now h (map (looked see) ds)) (looks : AreLooked see dg ds) (given_is : IsGiven dg given (map (looked see) ds))
    (judged : TextJudged dg (text_of given.text) given.good (labels_in (candidates_of (map (looked see) ds))) (is_started h.volumes) (Ready after v))
    (back : IsBack (beside now (holders see h) (map (looked see) ds)) (scene_of mid (holders see h ++ disk_holders see es.items))) (made : seen_disks see es.items ≡ disks_in (good_looks given.good (map (looked see) ds))) where
  abbrev finds : List Looked
  finds = map (looked see) ds

  abbrev before : Scene
  before = scene see (at first h)

  -- the disks went back for want of memory
  turned_away : (last : Shelved) (k : House P ghosts) → IsTurnedAway see es mid h last k → StageGoes {T = Unit {0}} see (stage.Import dg) disks (Err stops.OutOfMemory) (at first h) (at last k)
  turned_away last k away = subst (λ (x : House P ghosts). StageGoes {T = Unit {0}} see (stage.Import dg) disks (Err stops.OutOfMemory) (at first h) (at last x)) (sym away.house_is) (starves see dg disks h first last (record { held = held_back; reads = reads_back }) since.keeps)
    where
      hs : List Holder
      hs = holders see h

      behind : AreHeld mid.held (hs ++ (disk_holders see es.items ++ []))
      behind = subst (λ ks. AreHeld mid.held (hs ++ ks)) (sym (append-nil (disk_holders see es.items))) back.held

      held_back : AreHeld last.held hs
      held_back = subst (AreHeld last.held) (append-nil hs) (away.back.held hs [] behind)

      moved_back : OnlyRead (scene_of mid (hs ++ disk_holders see es.items)) (scene_of last hs)
      moved_back =
          subst (λ ks. OnlyRead (scene_of mid (hs ++ disk_holders see es.items)) (scene_of last ks)) (append-nil hs)
          (subst (λ ks. OnlyRead (scene_of mid (hs ++ ks)) (scene_of last (hs ++ []))) (append-nil (disk_holders see es.items))
          (only_unmoved (scene_of mid (hs ++ (disk_holders see es.items ++ []))) (scene_of last (hs ++ [])) (away.back.moved hs [] behind)))

      reads_back : OnlyRead before (scene_of last hs)
      reads_back =
          only_trans before (beside now hs finds) (scene_of last hs) since.reads
          (only_trans (beside now hs finds) (scene_of mid (hs ++ disk_holders see es.items)) (scene_of last hs) (only_unmoved (beside now hs finds) (scene_of mid (hs ++ disk_holders see es.items)) back.moved) moved_back)

  taken_in : (result : Result (Unit {0}) Stop) (last : Shelved) (k : House P ghosts) → IsTakenIn see dg given after text es result mid h last k → (result ≡ Err stops.OutOfMemory → ⊥) → StageGoes {T = Unit {0}} see (stage.Import dg) disks result (at first h) (at last k)
  taken_in result last k in_house on =
      subst (λ (x : House P ghosts). StageGoes {T = Unit {0}} see (stage.Import dg) disks result (at first h) (at last x)) (sym in_house.house_is)
      (subst (λ (s : Shelved). StageGoes {T = Unit {0}} see (stage.Import dg) disks result (at first h) (at s (let k : House P ghosts = record { volumes = h.volumes; group = Some (record { config = after; base = in_house.base; public = in_house.public }); hand = h.hand } in k))) (sym in_house.shelf_is)
      (taken_by see dg names disks first now mid h ds es given after v text text_is since looks given_is judged back made in_house.public in_house.still in_house.lent in_house.idle.running in_house.idle.left in_house.idle.stuck in_house.base result in_house.ends on))

  pub takes_in : (result : Result (Unit {0}) Stop) (last : Shelved) (k : House P ghosts) → TakesIn see dg given after text es result mid h last k → StageGoes {T = Unit {0}} see (stage.Import dg) disks result (at first h) (at last k)
  takes_in (Ok u) last k is = taken_in (Ok u) last k is (λ e. cc)
  takes_in (Err (stops.Ended end)) last k is = taken_in (Err (stops.Ended end)) last k is (λ e. cc)
  takes_in (Err stops.OutOfMemory) last k is = turned_away last k is
