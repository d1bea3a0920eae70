-- A device that joins the imported group, or is lost with it, as a stage.
use Rattle.std.proofs.Common.{◌≡◌, ◌∙◌, ℕ, ◌+◌, ◌<◌, List, [], ◌∷◌, ◌++◌, map, length, take, Some, None, Ok, Err, refl, sym, ap, subst, inl, inr}
use Rattle.std.specs.Prelude.{IfSome}
use Rattle.std.specs.BTreeMap.{IsOrdered}
use Rattle.std.specs.Cmp.Lexicographic.{slice_cmp}
use Rattle.std.specs.Ordering.{nat_cmp}
use Rattle.std.proofs.lemmas.List.{map-append}
use Rattle.vx_pages.specs.declared.local_piece.LocalPiece.{Ghosts}
use Rattle.vx_piece.specs.Seen.{Seen}
use Rattle.vx_copies.specs.Commit.{HasRisen}
use Rattle.vx_copies.specs.Config.{GivesNew}
use Rattle.vx_copies.specs.Disks.{HasSlot, IsCut, good_mask}
use Rattle.vx_copies.specs.Lists.{AllOf, AnyOf, Each}
use Rattle.vx_copies.specs.Written.{IsQuiet, WritesJust, CarriesIfGood, sectors_of}
use Rattle.vx_confdb.specs.Add.{AddGives}
use Rattle.vx_confdb.specs.Enlisted.{IsAddedTo, AddWrites, with_disk}
use Rattle.vx_confdb.specs.Groups.{members, IsMemberOf, CarriesText}
use Rattle.vx_confdb.specs.declared.fault.GroupFault.{GroupFault}
use Rattle.vx_confdb.specs.declared.fault.GroupFault.TheVariants as fault
use Rattle.vx_objects.specs.declared.config.Config.{Config}
use Rattle.vx_script_words.specs.declared.value.DiskAt.{DiskAt}
use Rattle.vx_answers.specs.declared.answer.End.TheVariants as ends
use Rattle.vx_moments.specs.Commit.{parties}
use Rattle.vx_stages.specs.declared.stage.Stage.TheVariants as stage
use Rattle.vx_house.specs.Goes.{StageGoes}
use Rattle.vx_fronts.proofs.Entries.{each_addition}
use Rattle.vx_fronts.proofs.Groups.{each_cut, take_whole, whole_gives, whole_headed, whole_ready, whole_risen}
use Rattle.vx_house.specs.Holders.{holders, whole_members, AreHeld}
use Rattle.vx_house.specs.Scene.{Shelved}
use Rattle.vx_house.specs.View.{at, group_of, member_in, IsGroupKept, KeepsHouse}
use Rattle.vx_house.specs.declared.house.House.{House}
use Rattle.vx_house.specs.declared.house.Imported.{Imported}
use Rattle.vx_house.specs.declared.house.Taken.{Taken}
use Rattle.vx_house.specs.declared.stop.Stop.TheVariants as stops
use Rattle.vx_house.proofs.Ends.{moment_but_group}
use Rattle.vx_stage_changes.specs.Committing.{stop_of}
use Rattle.vx_stage_changes.proofs.Alone.{low_by}
use Rattle.vx_stage_changes.proofs.GoodDisks.{any_good}
use Rattle.vx_stage_changes.proofs.Holders.{same_members, world_group, group_is}
use Rattle.vx_stage_changes.proofs.CommitJoins.{AreDone, group_lost_on, power_lost_on, group_committed_on}
use Rattle.vx_stage_changes.proofs.CommitStage.{volumes_kept, group_lost_stage, power_lost_stage, done_stage}
use Rattle.vx_stage_changes.specs.Joining.{disk_for, IsJoin, IsInHand, IsPlaced}
use Rattle.vx_stage_changes.proofs.Admitted.{IsAdmitted, bs, fs, gains, goes, goes_fronts, hs, joins, js, ks, n, ns, private, private_now, rests, whole, whole_here, wholes_now, ws, front_is, back_is}
use Rattle.vx_stage_changes.proofs.Admission.{same_name, admitted, written, x, joining}
use Rattle.vx_stage_changes.proofs.Entry.{held_long, joins_named, joined_members}
use Rattle.vx_stage_changes.proofs.Gains.{kept_joined}
use Rattle.vx_stage_changes.proofs.JoinedRuns.{runs_joined, runs_stay}

module _ {P : Type 0} {ghosts : Ghosts P} {see : P → Seen} {shelf : Shelved} {pair : DiskAt} {old now : House P ghosts} {g g' : Imported P ghosts} {t : Taken P} {slot : ℕ} {text : List ℕ} {next : Config} (a : IsAdmitted see shelf pair old now g g' t slot text next) where
  hand_kept : AllOf (λ u. 0 < (see u.piece).sectors) now.hand.items
  hand_kept = subst (AllOf (λ u. 0 < (see u.piece).sectors)) (sym a.empty) tt

  all_risen : Each HasRisen (fs a) (take (length g.base.disks.items) (ns a)) → Each HasRisen (hs a) (bs a)
  all_risen risen = subst (Each HasRisen (hs a)) (sym (take_whole (rests a) (n a) (ns a))) (whole_risen (rests a) (g.base.sequence + 1) g'.base.sequence text (fs a) (take (n a) (ns a)) (goes_fronts a) (private a)
      (subst (λ m. Each HasRisen (fs a) (take m (ns a))) (held_long see g.base.disks.items) risen))

  -- no disk of the group is good any more
  group_lost : Each HasRisen (fs a) (take (length g.base.disks.items) (ns a)) → StageGoes {T = Unit {0}} see stage.Join (pair ∷ []) (Err (stops.Ended ends.GroupLost)) (at shelf old) (at shelf now)
  group_lost risen = group_lost_stage (admitted a) stage.Join (pair ∷ []) a.keeps hand_kept (whole_here a) (runs_stay a) (λ m is. inr (inr (
    x a,
    joining a m is,
    group_lost_on (admitted a) m (moment_but_group see (at shelf old) m is) m.world.group (world_group see g) next text (map member_in (hs a)) g'.base.sequence (written a) refl refl (all_risen risen),
  )))

  -- a disk is without power
  power_lost : AnyOf IsCut (members see g'.base) → StageGoes {T = Unit {0}} see stage.Join (pair ∷ []) (Err (stops.Ended (ends.Lost []))) (at shelf old) (at shelf now)
  power_lost cut = power_lost_stage (admitted a) stage.Join (pair ∷ []) a.keeps hand_kept (whole_here a) (runs_stay a) (λ m is. inr (inr (
    x a,
    joining a m is,
    power_lost_on (admitted a) m (moment_but_group see (at shelf old) m is) m.world.group (world_group see g) next text (map member_in (hs a)) g'.base.sequence (written a) refl (subst (AnyOf IsCut) (sym (whole a)) (each_cut (rests a) (ns a) cut)),
  )))

-- a disk that is not given back is lost with the group or the power, by the commit that it was to join by
module _ {P : Type 0} {ghosts : Ghosts P} (see : P → Seen) (pair : DiskAt) (shelf : Shelved) (old now : House P ghosts) (keeps : KeepsHouse see old) (are_held : AreHeld shelf.held (holders see old)) (g g' : Imported P ghosts) (has : old.group ≡ Some g) (is_now : now.group ≡ Some g') (volumes : now.volumes ≡ old.volumes) (public : g'.public ≡ g.public)
    (t : Taken P) (slot : ℕ) (text : List ℕ) (next : Config) (in_hand : IsInHand pair t old.hand.items) (empty : now.hand.items ≡ []) (join : IsJoin see pair t g next text slot) where
  pub lost_stage : (why : GroupFault) → AddGives see (Err (why, None)) text (disk_for see pair slot t) g.base g'.base → AddWrites see (Err (why, None)) text (disk_for see pair slot t) g.base g'.base → StageGoes {T = Unit {0}} see stage.Join (pair ∷ []) (Err (stop_of why)) (at shelf old) (at shelf now)
  lost_stage fault.OutOfMemory gives writes = let e = gives.0 in absurd (cc)
  lost_stage (fault.TooLong n) gives writes = let e = gives.2.0 in absurd (cc)
  lost_stage fault.GroupLost (inl before) writes = let e = before.1.0 in absurd (cc)
  lost_stage fault.GroupLost (inr (none, here)) writes = group_lost (record { keeps = keeps; held = are_held; has = has; is_now = is_now; volumes = volumes; public = public; in_hand = in_hand; empty = empty; join = join; taken = here.0; enlisted = writes }) here.2
  lost_stage fault.PowerLost (inl before) writes = let e = before.1.0 in absurd (cc)
  lost_stage fault.PowerLost (inr (none, here)) writes = power_lost (record { keeps = keeps; held = are_held; has = has; is_now = is_now; volumes = volumes; public = public; in_hand = in_hand; empty = empty; join = join; taken = here.0; enlisted = writes }) here.2

-- the device has joined
module _ {P : Type 0} {ghosts : Ghosts P} {see : P → Seen} {shelf : Shelved} {pair : DiskAt} {old now : House P ghosts} {g g' : Imported P ghosts} {t : Taken P} {slot : ℕ} {text : List ℕ} (a : IsAdmitted see shelf pair old now g g' t slot text g'.config)
    (added : IsAddedTo g'.base.sequence (length g.base.disks.items) text (with_disk see g.base (disk_for see pair slot t)) (members see g'.base)) (carries : CarriesText see (g.base.sequence + 1) text g'.base) where
  abbrev first : ℕ
  first = g.base.sequence + 1

  abbrev number : ℕ
  number = g'.base.sequence

  base_named : g'.base.name ≡ g'.config.group
  base_named = a.taken.name ∙ sym (same_name a)

  -- what the addition leaves of the fronts it leaves of the devices
  added_whole : IsAddedTo number (n a) text (hs a ++ js a) (ws a)
  added_whole = each_addition (rests a) g.base.name first number text (fs a) (js a) (ns a) (gains a) (private_now a) (subst (λ m. IsAddedTo number m text (fs a ++ js a) (ns a)) (held_long see g.base.disks.items) added)

  done : AreDone (world_group see g) g'.config text number (hs a) (bs a) (js a) (ks a)
  done = record {
    low = subst (AllOf HasSlot) (sym (whole a)) (low_by (ws a) (whole_ready (rests a) g'.base.name first number (n a) text (ns a) (private_now a) carries.alive.ready));
    headed = subst (AllOf (IsMemberOf g'.config.group)) (sym (whole a)) (subst (λ m. AllOf (IsMemberOf m) (ws a)) base_named (whole_headed (rests a) g'.base.name first number (n a) text (ns a) (private_now a) carries.alive.headed));
    gives = subst (GivesNew g'.config.group first number text) (sym (whole a)) (subst (λ m. GivesNew m first number text (ws a)) base_named (whole_gives (rests a) g'.base.name first number (n a) text (ns a) (private_now a) carries.gives));
    current = subst (λ l. AllOf (CarriesIfGood number (good_mask l) text) l) (sym (whole a)) added_whole.done.current;
    named = joins_named g.base.name first number text (λ mask. Unit {0}) (js a) (ks a) (joins a) ((refl, refl), tt);
    exact = λ quiet.
        let just = added_whole.exact (subst (Each IsQuiet (hs a ++ js a)) (whole a) quiet) in (
          subst (λ l. Each (WritesJust (sectors_of text)) l (bs a)) (front_is a) just.0,
          subst (λ l. Each (WritesJust (2 + sectors_of text)) l (ks a)) (back_is a) just.1,
        );
  }

  here : group_of see now.group ≡ Some (record { config = g'.config; good = good_mask (bs a ++ ks a); members = parties (x a); sequence = number })
  here =
      let is = ap (group_of see) a.is_now ∙ group_is see g' in
      let wholes : whole_members see g' ≡ bs a ++ ks a = wholes_now a ∙ sym (whole a) in
      let good : good_mask (whole_members see g') ≡ good_mask (bs a ++ ks a) = ap good_mask wholes in
      let same : map member_in (whole_members see g') ≡ parties (x a) = ap (map member_in) wholes ∙ map-append member_in (bs a) (ks a) ∙ ap (λ l. l ++ map member_in (ks a)) (same_members first number text (hs a) (bs a) (goes a)) ∙ ap (λ l. map member_in (hs a) ++ l) (joined_members g.base.name text (js a) (ks a) (joins a)) in
      cc

  now_kept : KeepsHouse see now
  now_kept = record {
    ordered = subst (IsOrdered (slice_cmp nat_cmp)) (sym a.volumes) a.keeps.ordered;
    hand = hand_kept a;
    volumes = volumes_kept see old now a.volumes a.keeps;
    group = subst (λ o. IfSome o (IsGroupKept see)) (sym a.is_now) (kept_joined a carries);
  }

  joined : StageGoes {T = Unit {0}} see stage.Join (pair ∷ []) (Ok tt) (at shelf old) (at shelf now)
  joined = done_stage (admitted a) stage.Join (pair ∷ []) a.keeps now_kept (runs_joined a) tt refl (λ m is. (
    x a,
    joining a m is,
    group_committed_on (admitted a) m (moment_but_group see (at shelf old) m is) (group_of see now.group) (world_group see g) g'.config text (map member_in (hs a)) number (written a) done refl (any_good (bs a) added_whole.done.some) here,
  ))

pub joined_stage : {P : Type 0} {ghosts : Ghosts P} (see : P → Seen) (pair : DiskAt) (shelf : Shelved) (old now : House P ghosts) → KeepsHouse see old → AreHeld shelf.held (holders see old) → (g g' : Imported P ghosts) → old.group ≡ Some g → now.group ≡ Some g' → now.volumes ≡ old.volumes → g'.public ≡ g.public
    → IsPlaced see pair (Ok tt) old.hand.items now.hand.items g g' → StageGoes {T = Unit {0}} see stage.Join (pair ∷ []) (Ok tt) (at shelf old) (at shelf now)
joined_stage see pair shelf old now keeps are_held g g' has is_now volumes public placed =
    joined (record { keeps = keeps; held = are_held; has = has; is_now = is_now; volumes = volumes; public = public; in_hand = placed.hand; empty = placed.empty; join = placed.ends.join; taken = placed.ends.gives.0; enlisted = placed.ends.writes.0 }) placed.ends.writes.1 placed.ends.gives.1
