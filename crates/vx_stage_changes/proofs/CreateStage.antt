-- A group that is made of the devices in hand, or was not made, as a stage.
use Rattle.std.proofs.Common.{◌≡◌, ◌∙◌, ℕ, ◌<◌, true, List, [], ◌∷◌, ◌++◌, map, Option, Some, None, Ok, Err, refl, sym, ap, subst, inl, inr, arith}
use Rattle.std.specs.Prelude.{IfSome}
use Rattle.std.proofs.lemmas.List.{append-nil}
use Rattle.std.proofs.Math.Seq.{take-length}
use Rattle.std.specs.BTreeMap.{IsOrdered}
use Rattle.std.specs.Cmp.Lexicographic.{slice_cmp}
use Rattle.std.specs.Ordering.{nat_cmp}
use Rattle.vx_pages.specs.declared.local_piece.LocalPiece.{Ghosts}
use Rattle.vx_piece.specs.Seen.{Seen}
use Rattle.vx_copies.specs.Commit.{HasRisen}
use Rattle.vx_copies.specs.Disks.{DiskSeen, disk_seen, IsCut, IsReady, good_mask, good_count}
use Rattle.vx_copies.specs.Config.{GivesNew}
use Rattle.vx_copies.specs.Lists.{AllOf, AnyOf, Each}
use Rattle.vx_copies.specs.declared.disk.Disk.{Disk}
use Rattle.vx_confdb.specs.Create.{Joins, IsBegun, RefusedBy}
use Rattle.vx_confdb.specs.Enlisted.{AreBegun}
use Rattle.vx_confdb.specs.Groups.{members, IsMemberOf, CarriesText}
use Rattle.vx_confdb.specs.Texts.{text_of}
use Rattle.vx_confdb.specs.declared.fault.GroupFault.{GroupFault}
use Rattle.vx_confdb.specs.declared.fault.GroupFault.TheVariants as fault
use Rattle.vx_objects.specs.declared.config.Config.{Config}
use Rattle.vx_script_words.specs.declared.value.DiskAt.{DiskAt}
use Rattle.vx_base.specs.Named.{Word}
use Rattle.vx_answers.specs.declared.answer.End.TheVariants as ends
use Rattle.vx_answers.specs.declared.refusal.Refusal.TheVariants as refusal
use Rattle.vx_moments.specs.Commit.{parties}
use Rattle.vx_moments.specs.Moment.{Moment}
use Rattle.vx_moments.specs.Copies.{IsTextOf}
use Rattle.vx_stages.specs.Records.{devices_of}
use Rattle.vx_stages.specs.declared.stage.Stage.TheVariants as stage
use Rattle.vx_house.specs.Goes.{StageGoes}
use Rattle.vx_house.specs.Holders.{group_holders, hand_holder, holder_in, holders, volume_at, volume_holder, whole_members, AreApart, AreHeld, Holder, IsTakenFrom}
use Rattle.vx_house.specs.Scene.{Shelved, seen_at, AreCountsOf, FaultsGoOn}
use Rattle.vx_house.specs.View.{at, group_of, is_lent, member_in, scene, AreSized, IsAtVolume, IsDeviceOf, IsGroupKept, IsGroupWhole, IsMoment, KeepsHouse}
use Rattle.vx_fronts.specs.Parted.{IsFront}
use Rattle.vx_house.proofs.AllLaws.{all_back, all_front}
use Rattle.vx_house.proofs.Founded.{founded}
use Rattle.vx_house.proofs.Returns.{apart_back, apart_front}
use Rattle.vx_house.proofs.Wholes.{unparted}
use Rattle.vx_house.specs.declared.house.House.{House}
use Rattle.vx_house.specs.declared.house.Imported.{Imported}
use Rattle.vx_house.specs.declared.stop.Stop.{Stop}
use Rattle.vx_house.specs.declared.stop.Stop.TheVariants as stops
use Rattle.vx_house.proofs.Ends.{moment_but_group}
use Rattle.vx_house.proofs.Moments.{later_refl, faults_refl}
use Rattle.vx_house.proofs.Takes.{rests_self}
use Rattle.vx_stage_changes.specs.Committing.{stop_of}
use Rattle.vx_stage_changes.specs.Creating.{disks_from, taken_of, IsDrawn, IsFoundedBy, IsUnfounded, CreateEnds}
use Rattle.vx_stage_changes.proofs.CreateCommit.{IsBegunOf, whole, group_name, before, written, x, creating}
use Rattle.vx_stage_changes.proofs.CreateCommit.{begun as calls}
use Rattle.vx_stage_changes.proofs.NewConfig.{recorded_so}
use Rattle.vx_stage_changes.proofs.Enlistment.{names_in, disks_held, hand_again, hand_some, disks_some, all_sized, have_slots, joins_sized, joins_slots, joins_recorded}
use Rattle.vx_stage_changes.proofs.Entry.{joins_named, joined_members}
use Rattle.vx_stage_changes.proofs.Holders.{group_is}
use Rattle.vx_stage_changes.proofs.Alone.{low_by}
use Rattle.vx_stage_changes.proofs.GoodDisks.{any_good}
use Rattle.vx_stage_changes.proofs.CommitJoins.{AreDone, held_on, joiners_lost_on, power_lost_on, joiners_committed_on}
use Rattle.vx_stage_changes.proofs.CommitStage.{volumes_kept, group_lost_stage, power_lost_stage, done_stage}
use Rattle.vx_copies.proofs.ToggleOrder.{each_all}
use Rattle.vx_moments.specs.Leaving.{lone}
use Rattle.vx_house.specs.Runs.{AreRuns}
use Rattle.vx_house.specs.Runs.{run_in}
use Rattle.vx_house.proofs.Runs.{idle_runs, none_in_place, none_still}

-- where none of a kind is there, there is none
pub none_of : {X : Type 0} (o : Option X) → ((y : X) → o ≡ Some y → ⊥) → o ≡ None
none_of None never = refl
none_of (Some y) never = absurd (never y refl)

module _ {P : Type 0} {ghosts : Ghosts P} (see : P → Seen) (dg : Word) (pairs : List DiskAt) (shelf : Shelved) where
  -- a group is imported already
  pub in_use : (old : House P ghosts) → KeepsHouse see old → AreHeld shelf.held (holders see old) → (g : Imported P ghosts) → old.group ≡ Some g → StageGoes {T = Unit {0}} see (stage.Create dg) pairs (Err (stops.Ended (ends.Refused (refusal.InUse g.config.group)))) (at shelf old) (at shelf old)
  in_use old keeps are_held g has = record {
    keeps = record { devices = are_held; house = keeps };
    goes = λ m is. (m, is, later_refl m.counts, inl (_, is.group_is ∙ ap (group_of see) has, (refl, rests_self m)));
    gives = tt;
    still = λ is. cc;
    faults = faults_refl (scene see (at shelf old));
    blamed = tt;
  }

  module _ (old now : House P ghosts) (keeps : KeepsHouse see old) (none : old.group ≡ None) (named : names_in old.hand.items ≡ devices_of pairs) (volumes : now.volumes ≡ old.volumes) (are_held : AreHeld shelf.held (holders see old)) where
    abbrev disks : List (Disk P)
    disks = disks_from see 0 old.hand.items pairs

    abbrev hs : List DiskSeen
    hs = map (disk_seen see) disks

    abbrev vols : List Holder
    vols = map (volume_holder see) old.volumes.entries

    volume_now : (vol : Word) → volume_at now vol ≡ volume_at old vol
    volume_now vol = ap (λ v. volume_at (let h : House P ghosts = record { volumes = v; group = old.group; hand = old.hand } in h) vol) volumes

    -- the group is made
    module _ (g' : Imported P ghosts) (is_now : now.group ≡ Some g') (empty : now.hand.items ≡ []) (by : IsFoundedBy see dg g' disks) where
      abbrev text : List ℕ
      text = by.text

      abbrev bs : List DiskSeen
      bs = members see g'.base

      wholes : whole_members see g' ≡ bs
      wholes = unparted see g' by.still by.lent

      new_is : holders see now ≡ vols ++ (map holder_in bs ++ [])
      new_is =
          ap (λ v. map (volume_holder see) v.entries ++ (group_holders see now.group ++ map (hand_holder see) now.hand.items)) volumes
          ∙ ap (λ o. vols ++ (group_holders see o ++ map (hand_holder see) now.hand.items)) is_now
          ∙ ap (λ l. vols ++ (group_holders see (Some g') ++ map (hand_holder see) l)) empty
          ∙ ap (λ l. vols ++ (map holder_in l ++ [])) wholes

      begun : IsBegunOf see dg pairs shelf old now text g'.config g'.base.sequence bs
      begun = record { keeps = keeps; none = none; named = named; volumes = volumes; are_held = are_held; drawn = by.drawn; few = by.founded.few; are = by.made.are; joins = by.founded.begun.joins; order = by.founded.begun.order; is = new_is }

      base_named : g'.base.name ≡ g'.config.group
      base_named = by.founded.name_is ∙ sym (group_name begun)

      holds : text_of g'.base.text ≡ text
      holds = by.founded.carries.holds

      sized : AreSized bs
      sized = joins_sized see dg text disks g'.base.disks.items by.founded.begun.joins (all_sized see 0 old.hand.items pairs)

      -- its devices are those that were in hand
      held_now : AreHeld shelf.held (holders see now)
      held_now = held_on (calls begun)

      each_now : AllOf (IsTakenFrom shelf.held) (map holder_in bs)
      each_now = all_front (IsTakenFrom shelf.held) (map holder_in bs) [] (all_back (IsTakenFrom shelf.held) vols (map holder_in bs ++ []) (subst (AllOf (IsTakenFrom shelf.held)) new_is held_now.each))

      apart_now : AreApart (map holder_in bs)
      apart_now = apart_front (map holder_in bs) [] (apart_back vols (map holder_in bs ++ []) (subst AreApart new_is held_now.apart))

      fronts_by : (xs : List DiskSeen) → AllOf (IsTakenFrom shelf.held) (map holder_in xs) → AllOf IsReady xs → AllOf IsFront xs
      fronts_by [] each ready = tt
      fronts_by (h ∷ xs) each ready = (record { start = each.0.0; private = ready.0.sectors }, fronts_by xs each.1 ready.1)

      kept : IsGroupKept see g'
      kept = record {
        named = base_named;
        text = subst (IsTextOf g'.config) (sym holds) by.drawn.printed.0;
        first = 1;
        carries = subst (λ t. CarriesText see 1 t g'.base) (sym holds) by.founded.carries;
        sized = subst AreSized (sym wholes) sized;
        slots = joins_slots see dg text disks g'.base.disks.items by.founded.begun.joins (have_slots see 0 old.hand.items pairs);
        recorded = joins_recorded see dg text g'.config disks g'.base.disks.items by.founded.begun.joins (recorded_so dg disks g'.config by.drawn.records);
        whole = founded shelf.held held_now.numbers see g' by.still by.lent by.idle (fronts_by bs each_now by.founded.carries.alive.ready) sized each_now apart_now;
        placed = none_in_place see g' by.idle.running;
      }

      done : AreDone (before begun) g'.config text g'.base.sequence [] [] hs bs
      done = record {
        low = low_by bs by.founded.carries.alive.ready;
        headed = subst (λ n. AllOf (IsMemberOf n) bs) base_named by.founded.carries.alive.headed;
        gives = subst (λ n. GivesNew n 1 g'.base.sequence text bs) base_named by.founded.carries.gives;
        current = by.made.done.current;
        named = joins_named dg 1 g'.base.sequence text (λ mask. Unit {0}) hs bs by.founded.begun.joins (whole begun);
        exact = λ quiet. (tt, by.made.exact quiet);
      }

      here : group_of see now.group ≡ Some (record { config = g'.config; good = good_mask bs; members = parties (x begun); sequence = g'.base.sequence })
      here =
          let is = ap (group_of see) is_now ∙ group_is see g' in
          let good : good_mask (whole_members see g') ≡ good_mask bs = ap good_mask wholes in
          let same : map member_in (whole_members see g') ≡ parties (x begun) = ap (map member_in) wholes ∙ joined_members dg text hs bs by.founded.begun.joins in
          cc

      one : AnyOf (λ b. b.good ≡ true) bs
      one = any_good bs (subst (λ l. 0 < good_count l) (take-length bs) by.made.done.some)

      -- no volume of the group that is made runs
      runs_new : (m : Moment) → IsMoment see (at shelf old) m → AreRuns see now.group (group_of see now.group) m.world.volumes
      runs_new m is = none_still see old.group now.group m.world.group (group_of see now.group) m.world.volumes (λ name. ap (λ o. run_in o name) none) (λ name. ap (λ o. run_in o name) is_now ∙ idle_runs see g' by.idle name) is.runs_are

      pub created : StageGoes {T = Unit {0}} see (stage.Create dg) pairs (Ok tt) (at shelf old) (at shelf now)
      created = done_stage (calls begun) (stage.Create dg) pairs keeps
          (record {
            ordered = subst (IsOrdered (slice_cmp nat_cmp)) (sym volumes) keeps.ordered;
            hand = subst (AllOf (λ u. 0 < (see u.piece).sectors)) (sym empty) tt;
            volumes = volumes_kept see old now volumes keeps;
            group = subst (λ o. IfSome o (IsGroupKept see)) (sym is_now) kept;
          }) runs_new tt refl (λ m is. (
            is.group_is ∙ ap (group_of see) none,
            (
              x begun,
              creating begun m is,
              joiners_committed_on (calls begun) m (moment_but_group see (at shelf old) m is) (group_of see now.group) (before begun) g'.config text (map member_in hs) g'.base.sequence (written begun) done refl one here,
            ),
          ))

    -- the hand is as it was, for want of memory
    module _ (no_group : now.group ≡ None) where
      same_group : now.group ≡ old.group
      same_group = no_group ∙ sym none

      module _ (same : now.hand.items ≡ old.hand.items) where
        same_holders : holders see now ≡ holders see old
        same_holders =
            ap (λ v. map (volume_holder see) v.entries ++ (group_holders see now.group ++ map (hand_holder see) now.hand.items)) volumes
            ∙ ap (λ o. vols ++ (group_holders see o ++ map (hand_holder see) now.hand.items)) same_group
            ∙ ap (λ l. vols ++ (group_holders see old.group ++ map (hand_holder see) l)) same

        same_moment : (m : Moment) → IsMoment see (at shelf old) m → IsMoment see (at shelf now) m
        same_moment m is = record {
          told = is.told;
          devices_are = λ name. subst (λ b. IsDeviceOf b (seen_at (scene see (at shelf now)) name) (m.world.devices name)) (ap (λ v. is_lent (let h : House P ghosts = record { volumes = v; group = old.group; hand = old.hand } in h) name) (sym volumes))
              (subst (λ l. IsDeviceOf (is_lent old name) (seen_at (record { shelf = shelf; taken = l }) name) (m.world.devices name)) (sym same_holders) (is.devices_are name));
          volumes_are = λ vol. subst (λ o. IsAtVolume see o (lone (m.world.volumes vol))) (sym (volume_now vol)) (is.volumes_are vol);
          runs_are = subst (λ o. AreRuns see o m.world.group m.world.volumes) (sym same_group) is.runs_are;
          group_is = is.group_is ∙ ap (group_of see) (sym same_group);
          counts = subst (λ l. AreCountsOf (record { shelf = shelf; taken = l }) m.counts) (sym same_holders) is.counts;
        }

        uncreated : StageGoes {T = Unit {0}} see (stage.Create dg) pairs (Err stops.OutOfMemory) (at shelf old) (at shelf now)
        uncreated = record {
          keeps = record {
            devices = subst (AreHeld shelf.held) (sym same_holders) are_held;
            house = record {
              ordered = subst (IsOrdered (slice_cmp nat_cmp)) (sym volumes) keeps.ordered;
              hand = subst (AllOf (λ u. 0 < (see u.piece).sectors)) (sym same) keeps.hand;
              volumes = volumes_kept see old now volumes keeps;
              group = subst (λ o. IfSome o (IsGroupKept see)) (sym no_group) tt;
            };
          };
          goes = λ m is. (m, same_moment m is, later_refl m.counts, refl);
          gives = tt;
          still = λ is. cc;
          faults = subst (λ l. FaultsGoOn (scene see (at shelf old)) (record { shelf = shelf; taken = l })) (sym same_holders) (faults_refl (scene see (at shelf old)));
          blamed = tt;
        }

      -- the devices are in hand as the making of the group left them
      module _ (back : List (Disk P)) (hand : now.hand.items ≡ map taken_of back) where
        -- the disks are as they were
        unbegun : back ≡ disks → StageGoes {T = Unit {0}} see (stage.Create dg) pairs (Err stops.OutOfMemory) (at shelf old) (at shelf now)
        unbegun is = uncreated (hand ∙ ap (map taken_of) is ∙ hand_again see 0 old.hand.items pairs named)

        abbrev ks : List DiskSeen
        ks = map (disk_seen see) back

        back_is : holders see now ≡ vols ++ (map holder_in ks ++ [])
        back_is =
            ap (λ v. map (volume_holder see) v.entries ++ (group_holders see now.group ++ map (hand_holder see) now.hand.items)) volumes
            ∙ ap (λ o. vols ++ (group_holders see o ++ map (hand_holder see) now.hand.items)) no_group
            ∙ ap (λ l. vols ++ map (hand_holder see) l) hand
            ∙ ap (λ l. vols ++ l) (disks_held see back ∙ sym (append-nil (map holder_in ks)))

        module _ (text : List ℕ) (config : Config) (drawn : IsDrawn dg disks config text) (writes : AreBegun dg text hs ks) (is_begun : IsBegun dg text hs ks) where
          begun_of : IsBegunOf see dg pairs shelf old now text config writes.last ks
          begun_of = record { keeps = keeps; none = none; named = named; volumes = volumes; are_held = are_held; drawn = drawn; few = writes.few; are = writes.are; joins = is_begun.joins; order = is_begun.order; is = back_is }

          hand_kept : AllOf (λ u. 0 < (see u.piece).sectors) now.hand.items
          hand_kept = subst (AllOf (λ u. 0 < (see u.piece).sectors)) (sym hand)
              (disks_some see back (each_all (Joins dg text) (λ h. 0 < h.seen.sectors) (λ h. 0 < h.seen.sectors) (λ a b joins some. subst (λ n. 0 < n) (sym joins.kept.sectors) some) hs ks is_begun.joins (hand_some see 0 old.hand.items pairs keeps.hand)))

          whole_none : IfSome now.group (IsGroupWhole see)
          whole_none = subst (λ o. IfSome o (IsGroupWhole see)) (sym no_group) tt

          -- no volume of a group runs, as before
          runs_here : (m : Moment) → IsMoment see (at shelf old) m → AreRuns see now.group m.world.group m.world.volumes
          runs_here m is = none_still see old.group now.group m.world.group m.world.group m.world.volumes (λ name. ap (λ o. run_in o name) none) (λ name. ap (λ o. run_in o name) no_group) is.runs_are

          group_lost : Each HasRisen hs ks → StageGoes {T = Unit {0}} see (stage.Create dg) pairs (Err (stops.Ended ends.GroupLost)) (at shelf old) (at shelf now)
          group_lost risen = group_lost_stage (calls begun_of) (stage.Create dg) pairs keeps hand_kept whole_none runs_here (λ m is. inr (
            x begun_of,
            creating begun_of m is,
            joiners_lost_on (calls begun_of) m (moment_but_group see (at shelf old) m is) m.world.group (before begun_of) config text (map member_in hs) writes.last (written begun_of) refl refl risen,
          ))

          power_lost : AnyOf IsCut ks → StageGoes {T = Unit {0}} see (stage.Create dg) pairs (Err (stops.Ended (ends.Lost []))) (at shelf old) (at shelf now)
          power_lost cut = power_lost_stage (calls begun_of) (stage.Create dg) pairs keeps hand_kept whole_none runs_here (λ m is. inr (
            x begun_of,
            creating begun_of m is,
            power_lost_on (calls begun_of) m (moment_but_group see (at shelf old) m is) m.world.group (before begun_of) config text (map member_in hs) writes.last (written begun_of) refl cut,
          ))

        by_fault : (f : GroupFault) (text : List ℕ) (config : Config) → IsDrawn dg disks config text → RefusedBy see f dg text disks back → AreBegun dg text hs ks → StageGoes {T = Unit {0}} see (stage.Create dg) pairs (Err (stop_of f)) (at shelf old) (at shelf now)
        by_fault fault.OutOfMemory text config drawn refused begun = unbegun refused
        by_fault (fault.TooLong n) text config drawn refused begun = let short = drawn.printed.1 in let long = refused.1 in let same = refused.0 in absurd (omega (arith, short, long, same))
        by_fault fault.GroupLost text config drawn refused begun = group_lost text config drawn begun refused.0 refused.1
        by_fault fault.PowerLost text config drawn refused begun = power_lost text config drawn begun refused.0 refused.1

        handed_back : (stop : Stop) → IsUnfounded see dg stop disks back → StageGoes {T = Unit {0}} see (stage.Create dg) pairs (Err stop) (at shelf old) (at shelf now)
        handed_back stop (inl is) = subst (λ s. StageGoes {T = Unit {0}} see (stage.Create dg) pairs (Err s) (at shelf old) (at shelf now)) (sym is.0) (unbegun is.1)
        handed_back stop (inr by) = subst (λ s. StageGoes {T = Unit {0}} see (stage.Create dg) pairs (Err s) (at shelf old) (at shelf now)) (sym by.stop_is) (by_fault by.fault by.text by.config by.drawn by.refused by.begun)

      pub not_created : (stop : Stop) → CreateEnds {ghosts = ghosts} see dg pairs (Err stop) old.hand.items now.hand.items → StageGoes {T = Unit {0}} see (stage.Create dg) pairs (Err stop) (at shelf old) (at shelf now)
      not_created stop (inl is) = subst (λ s. StageGoes {T = Unit {0}} see (stage.Create dg) pairs (Err s) (at shelf old) (at shelf now)) (sym is.0) (uncreated is.1)
      not_created stop (inr by) = handed_back by.back by.hand stop by.ends
