-- A device that has not joined the imported group and is in hand again, as a stage.
use Rattle.std.proofs.Common.{◌≡◌, ◌∙◌, ◌<◌, ◌≤◌, Bool, List, [], ◌∷◌, ◌++◌, map, length, Option, Some, None, Err, inl, inr, refl, sym, ap, subst}
use Rattle.std.specs.Prelude.{IfSome}
use Rattle.std.specs.BTreeMap.{IsOrdered}
use Rattle.std.specs.Cmp.Lexicographic.{slice_cmp}
use Rattle.std.specs.Ordering.{nat_cmp}
use Rattle.std.proofs.lemmas.Bool.{cond-true}
use Rattle.vx_pages.specs.declared.local_piece.LocalPiece.{Ghosts}
use Rattle.vx_base.proofs.NamedLemmas.{bytes_eq_self}
use Rattle.vx_piece.specs.Seen.{Seen}
use Rattle.vx_copies.specs.Commit.{AllOffer}
use Rattle.vx_copies.specs.Config.{GivesNew}
use Rattle.vx_copies.specs.Disks.{disk_seen, IsReady, IsBelow, good_mask}
use Rattle.vx_copies.specs.Lists.{AllOf}
use Rattle.vx_confdb.specs.Groups.{members, IsMemberOf, IsAlive, CarriesText}
use Rattle.vx_confdb.specs.Texts.{text_of}
use Rattle.vx_objects.specs.declared.edit.Edit.TheVariants.{AddDisk}
use Rattle.vx_script_words.specs.declared.value.DiskAt.{DiskAt}
use Rattle.vx_answers.specs.declared.answer.End.{End}
use Rattle.vx_answers.specs.declared.answer.End.TheVariants as ends
use Rattle.vx_moments.specs.World.{Device, Group}
use Rattle.vx_moments.specs.Moment.{Moment}
use Rattle.vx_moments.specs.Copies.{IsTextOf}
use Rattle.vx_stages.specs.Records.{disk_record, next_slot, sectors_in, sectors_at}
use Rattle.vx_stages.specs.Stages.{EditsRefused}
use Rattle.vx_stages.specs.declared.stage.Stage.TheVariants as stage
use Rattle.vx_house.specs.Goes.{StageGoes}
use Rattle.vx_fronts.specs.Laws.{whole_disks}
use Rattle.vx_fronts.specs.Parted.{AreParted}
use Rattle.vx_fronts.specs.Rests.{rests_of}
use Rattle.vx_objects.specs.declared.config.Config.{Config}
use Rattle.vx_lending.specs.declared.public.Public.{Public}
use Rattle.vx_lending.specs.Public.{lent_pieces, still_pieces}
use Rattle.vx_house.specs.Holders.{Holder, holders, held_as, group_holders, group_rests, hand_holder, holder_in, whole_members, volume_holder, volume_at, AreHeld, AreApart}
use Rattle.vx_house.specs.Scene.{Shelved, seen_in, seen_at, AreCountsOf, FaultsGoOn}
use Rattle.vx_house.specs.View.{at, scene, group_of, member_of, is_lent, IsDeviceOf, IsAtVolume, IsMoment, IsGroupKept, AreSized, HaveSlots, AreRecorded, KeepsHouse, Keeps}
use Rattle.vx_house.specs.declared.house.House.{House}
use Rattle.vx_house.specs.declared.house.Imported.{Imported}
use Rattle.vx_house.specs.declared.house.Taken.{Taken}
use Rattle.vx_house.specs.declared.stop.Stop.{Stop}
use Rattle.vx_house.specs.declared.stop.Stop.TheVariants as stops
use Rattle.vx_house.proofs.LaterFaults.{before_hand, hand_split}
use Rattle.vx_house.proofs.Holders.{held_at}
use Rattle.vx_house.proofs.Moments.{later_refl, faults_refl}
use Rattle.vx_house.proofs.Takes.{rests_self}
use Rattle.vx_stage_changes.specs.Joining.{join_edits, IsUnjoined, IsKeptBack}
use Rattle.vx_stage_changes.specs.Planning.{IsUnplanned}
use Rattle.vx_stage_changes.proofs.EditStage.{refused_so}
use Rattle.vx_moments.specs.Leaving.{lone}
use Rattle.vx_house.specs.Runs.{AllInPlace, AreRuns}
use Rattle.vx_stage_changes.proofs.Owns.{AreDisksOf, runs_moved}
use Rattle.vx_stage_changes.proofs.Runners.{disks_same}
use Rattle.vx_group_start.specs.Laying.{AreRunningVolumes, AreStuckVolumes}

-- the device of a name has the sectors that are seen
sectors_seen : (lent : Bool) (seen : Seen) (o : Option Device) → IsDeviceOf lent (Some seen) o → sectors_in o ≡ seen.sectors
sectors_seen lent seen None is = absurd is
sectors_seen lent seen (Some d) is = is.0

-- a device in hand is the world's, with its sectors
pub hand_sectors : {P : Type 0} {ghosts : Ghosts P} (see : P → Seen) (shelf : Shelved) (h : House P ghosts) (t : Taken P) → h.hand.items ≡ t ∷ [] → AreApart (holders see h) → (m : Moment) → IsMoment see (at shelf h) m → sectors_at m.world t.device ≡ (see t.piece).sectors
hand_sectors see shelf h t only apart m is =
    let before : List Holder = before_hand see h [] in
    let split : holders see h ≡ before ++ hand_holder see t ∷ [] = hand_split see h [] t [] only in
    let here : held_as (holders see h) t.device ≡ Some (see t.piece) =
    ap (λ l. held_as l t.device) split ∙ held_at before (hand_holder see t) [] t.device (subst AreApart split apart) ∙ cond-true _ _ _ (bytes_eq_self t.device) in
    sectors_seen (is_lent h t.device) (see t.piece) (m.world.devices t.device)
    (subst (λ o. IsDeviceOf (is_lent h t.device) o (m.world.devices t.device)) (ap (λ o. seen_in o shelf.free t.device) here) (is.devices_are t.device))

module _ {P : Type 0} {ghosts : Ghosts P} (see : P → Seen) (pair : DiskAt) (shelf : Shelved) (old now : House P ghosts) (keeps : KeepsHouse see old) (are_held : AreHeld shelf.held (holders see old)) (g g' : Imported P ghosts) (has : old.group ≡ Some g) (is_now : now.group ≡ Some g') (volumes : now.volumes ≡ old.volumes) (public : g'.public ≡ g.public)
    (stop : Stop) (back : IsKeptBack see pair stop old.hand.items now.hand.items g g') where
  kept : IsGroupKept see g
  kept = subst (λ o. IfSome o (IsGroupKept see)) has keeps.group

  abbrev t : Taken P
  t = back.taken

  abbrev unjoined : IsUnjoined see pair t t stop g g'
  unjoined = back.unjoined

  same_disks : g'.base.disks.items ≡ g.base.disks.items
  same_disks = unjoined.base.disks

  same_members : members see g'.base ≡ members see g.base
  same_members = ap (map (disk_seen see)) same_disks

  same_wholes : whole_members see g' ≡ whole_members see g
  same_wholes = ap (λ p. whole_disks (rests_of (still_pieces see p ++ lent_pieces see p) []) (members see g'.base)) public ∙ ap (whole_disks (group_rests see g)) same_members

  same_holders : holders see now ≡ holders see old
  same_holders =
      ap (λ v. map (volume_holder see) v.entries ++ (group_holders see now.group ++ map (hand_holder see) now.hand.items)) volumes
      ∙ ap (λ o. map (volume_holder see) old.volumes.entries ++ (group_holders see o ++ map (hand_holder see) now.hand.items)) is_now
      ∙ ap (λ l. map (volume_holder see) old.volumes.entries ++ (map holder_in l ++ map (hand_holder see) now.hand.items)) same_wholes
      ∙ ap (λ o. map (volume_holder see) old.volumes.entries ++ (group_holders see o ++ map (hand_holder see) now.hand.items)) (sym has)
      ∙ ap (λ ts. map (volume_holder see) old.volumes.entries ++ (group_holders see old.group ++ map (hand_holder see) ts)) back.same

  same_group : group_of see now.group ≡ group_of see old.group
  same_group =
      ap (group_of see) is_now
      ∙ ap (λ c. Some (let w : Group = record { config = c; good = good_mask (members see g'.base); members = map member_of g'.base.disks.items; sequence = g'.base.sequence } in w)) unjoined.config
      ∙ ap (λ ds. Some (let w : Group = record { config = g.config; good = good_mask (map (disk_seen see) ds); members = map member_of ds; sequence = g'.base.sequence } in w)) same_disks
      ∙ ap (λ n. Some (let w : Group = record { config = g.config; good = good_mask (members see g.base); members = map member_of g.base.disks.items; sequence = n } in w)) unjoined.base.sequence
      ∙ sym (ap (group_of see) has)

  same_moment : (m : Moment) → IsMoment see (at shelf old) m → IsMoment see (at shelf now) m
  same_moment m is = record {
    told = is.told;
    devices_are = λ name. subst (λ b. IsDeviceOf b (seen_at (scene see (at shelf now)) name) (m.world.devices name)) (ap (λ v. is_lent (let h : House P ghosts = record { volumes = v; group = old.group; hand = old.hand } in h) name) (sym volumes))
        (subst (λ l. IsDeviceOf (is_lent old name) (seen_at (record { shelf = shelf; taken = l }) name) (m.world.devices name)) (sym same_holders) (is.devices_are name));
    volumes_are = λ vol. subst (λ o. IsAtVolume see o (lone (m.world.volumes vol))) (ap (λ v. volume_at (let h : House P ghosts = record { volumes = v; group = old.group; hand = old.hand } in h) vol) (sym volumes)) (is.volumes_are vol);
    runs_are = subst (λ o. AreRuns see o m.world.group m.world.volumes) (sym is_now) (runs_moved see g g' public (subst (AreDisksOf (members see g.base)) (sym same_members) (disks_same (members see g.base))) m.world.group m.world.volumes (subst (λ o. AreRuns see o m.world.group m.world.volumes) has is.runs_are));
    group_is = is.group_is ∙ sym same_group;
    counts = subst (λ l. AreCountsOf (record { shelf = shelf; taken = l }) m.counts) (sym same_holders) is.counts;
  }

  -- the disks can be written as before
  alive : IsAlive see g'.base
  alive =
      let a = kept.carries.alive in
      record {
        ready = subst (AllOf IsReady) (sym same_members) a.ready;
        headed = subst (λ n. AllOf (IsMemberOf n) (members see g'.base)) (sym unjoined.base.name) (subst (AllOf (IsMemberOf g.base.name)) (sym same_members) a.headed);
        below = subst (λ n. AllOf (IsBelow n g'.base.sequence) (members see g'.base)) (sym unjoined.base.name) (subst (λ s. AllOf (IsBelow g.base.name s) (members see g'.base)) (sym unjoined.base.sequence) (subst (AllOf (IsBelow g.base.name g.base.sequence)) (sym same_members) a.below));
        few = subst (λ ds. length ds ≤ 32) (sym same_disks) a.few;
      }

  carries : CarriesText see kept.first (text_of g'.base.text) g'.base
  carries =
      let c = kept.carries in
      let same : text_of g'.base.text ≡ text_of g.base.text = ap text_of unjoined.base.text in
      subst (λ x. CarriesText see kept.first x g'.base) (sym same) (record {
        lost = unjoined.base.lost ∙ c.lost;
        holds = same ∙ c.holds;
        offers = subst (λ s. AllOffer s (text_of g.base.text) (members see g'.base)) (sym unjoined.base.sequence) (subst (AllOffer g.base.sequence (text_of g.base.text)) (sym same_members) c.offers);
        gives = subst (λ n. GivesNew n kept.first g'.base.sequence (text_of g.base.text) (members see g'.base)) (sym unjoined.base.name)
            (subst (λ s. GivesNew g.base.name kept.first s (text_of g.base.text) (members see g'.base)) (sym unjoined.base.sequence) (subst (GivesNew g.base.name kept.first g.base.sequence (text_of g.base.text)) (sym same_members) c.gives));
        alive = alive;
      })

  kept_now : IsGroupKept see g'
  kept_now = record {
    named = unjoined.base.name ∙ kept.named ∙ sym (ap (λ c. c.group) unjoined.config);
    text = subst (λ c. IsTextOf c (text_of g'.base.text)) (sym unjoined.config) (subst (IsTextOf g.config) (sym (ap text_of unjoined.base.text)) kept.text);
    first = kept.first;
    carries = carries;
    sized = subst AreSized (sym same_wholes) kept.sized;
    slots = subst HaveSlots (sym same_disks) kept.slots;
    recorded = subst (λ c. AreRecorded c g'.base.disks.items) (sym unjoined.config) (subst (AreRecorded g.config) (sym same_disks) kept.recorded);
    whole = record {
      parted = subst (λ p. AreParted (members see g'.base) (still_pieces see p ++ lent_pieces see p)) (sym public) (subst (λ l. AreParted l (still_pieces see g.public ++ lent_pieces see g.public)) (sym same_members) kept.whole.parted);
      volumes = subst (λ p. AreRunningVolumes see p.running.entries) (sym public) kept.whole.volumes;
      stuck = subst (λ p. AreStuckVolumes see p.stuck.items) (sym public) kept.whole.stuck;
    };
    placed = subst (λ (p : Public P ghosts). AllInPlace see (members see g'.base) g'.config (good_mask (members see g'.base)) p.running.entries) (sym public)
        (subst (λ (c : Config). AllInPlace see (members see g'.base) c (good_mask (members see g'.base)) g.public.running.entries) (sym unjoined.config)
        (subst (λ hs. AllInPlace see hs g.config (good_mask hs) g.public.running.entries) (sym same_members) kept.placed));
  }

  keeps_now : Keeps see (at shelf now)
  keeps_now = record {
    devices = subst (AreHeld shelf.held) (sym same_holders) are_held;
    house = record {
      ordered = subst (IsOrdered (slice_cmp nat_cmp)) (sym volumes) keeps.ordered;
      hand = subst (AllOf (λ u. 0 < (see u.piece).sectors)) (sym back.same) keeps.hand;
      volumes = λ vol b e. keeps.volumes vol b (ap (λ v. volume_at (let h : House P ghosts = record { volumes = v; group = old.group; hand = old.hand } in h) vol) (sym volumes) ∙ e);
      group = subst (λ o. IfSome o (IsGroupKept see)) (sym is_now) kept_now;
    };
  }

  faults : FaultsGoOn (scene see (at shelf old)) (scene see (at shelf now))
  faults = subst (λ l. FaultsGoOn (scene see (at shelf old)) (record { shelf = shelf; taken = l })) (sym same_holders) (faults_refl (scene see (at shelf old)))

  -- the group of the world
  abbrev group : Group
  group = record { config = g.config; good = good_mask (members see g.base); members = map member_of g.base.disks.items; sequence = g.base.sequence }

  -- the edit is that of the device as the world has it
  refused_there : (end : End) → EditsRefused (join_edits see pair (next_slot g.config) t) group end → (m : Moment) → IsMoment see (at shelf old) m → EditsRefused (AddDisk (disk_record pair (next_slot g.config) (sectors_at m.world pair.device)) ∷ []) group end
  refused_there end why m is =
      let sized : sectors_at m.world pair.device ≡ (see t.piece).sectors = ap (sectors_at m.world) (sym back.hand.named) ∙ hand_sectors see shelf old t back.hand.only are_held.apart m is in
      subst (λ n. EditsRefused (AddDisk (disk_record pair (next_slot g.config) n) ∷ []) group end) (sym sized) why

  -- the edit is refused
  refused_stage : (end : End) → IsUnplanned (join_edits see pair (next_slot g.config) t) g.config (stops.Ended end) → StageGoes {T = Unit {0}} see stage.Join (pair ∷ []) (Err (stops.Ended end)) (at shelf old) (at shelf now)
  refused_stage end unplanned =
      let why = refused_so (join_edits see pair (next_slot g.config) t) group end unplanned in
      subst (λ e. StageGoes {T = Unit {0}} see stage.Join (pair ∷ []) (Err (stops.Ended e)) (at shelf old) (at shelf now)) (sym why.1) (record {
        keeps = keeps_now;
        goes = λ m is. (
          m,
          same_moment m is,
          later_refl m.counts,
          inr (inl ((group, is.group_is ∙ ap (group_of see) has, refused_there (ends.Refused why.0) (subst (EditsRefused (join_edits see pair (next_slot g.config) t) group) why.1 why.2) m is), rests_self m)),
        );
        gives = tt;
        still = λ is. cc;
        faults = faults;
        blamed = tt;
      })

  pub back_stage : StageGoes {T = Unit {0}} see stage.Join (pair ∷ []) (Err stop) (at shelf old) (at shelf now)
  back_stage = by stop (unjoined.why (next_slot g.config) refl)
    where
      by : (s : Stop) → IsUnplanned (join_edits see pair (next_slot g.config) t) g.config s → StageGoes {T = Unit {0}} see stage.Join (pair ∷ []) (Err s) (at shelf old) (at shelf now)
      by stops.OutOfMemory why = record {
        keeps = keeps_now;
        goes = λ m is. (m, same_moment m is, later_refl m.counts, refl);
        gives = tt;
        still = λ is. cc;
        faults = faults;
        blamed = tt;
      }
      by (stops.Ended end) why = refused_stage end why
