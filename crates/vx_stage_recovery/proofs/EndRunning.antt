-- The end of a recovery that is recorded: the volume that was healed runs, in each moment of the house, over the bytes that it leaves.
use Rattle.std.proofs.Common.{◌≡◌, ◌∙◌, ℕ, suc, ◌+◌, ◌<◌, ◌≤◌, Bool, true, false, cond, List, [], ◌∷◌, ◌++◌, map, Option, Some, None, Ok, refl, sym, ap, subst, arith, append_assoc}
use Rattle.std.specs.Prelude.{IsSome, is_some}
use Rattle.std.specs.BTreeMap.{get}
use Rattle.std.specs.Cmp.Lexicographic.{slice_cmp}
use Rattle.std.specs.List.{flat_map}
use Rattle.std.specs.Ordering.{nat_cmp}
use Rattle.std.proofs.lemmas.Grind.{flat_map-append}
use Rattle.std.specs.Str.{bytes_eq}
use Rattle.vx_pages.specs.declared.local_piece.LocalPiece.{Ghosts}
use Rattle.vx_base.specs.Named.{Word, put}
use Rattle.vx_base.proofs.NamedLemmas.{bytes_eq_same}
use Rattle.vx_mask.specs.Mask.{has as has_slot}
use Rattle.vx_piece.specs.Seen.{Seen}
use Rattle.vx_carve.specs.Together.{SameSectors}
use Rattle.vx_carve.proofs.Runs.{same_after}
use Rattle.vx_config_parts.specs.declared.vol.Vol.{Vol}
use Rattle.vx_config_parts.specs.declared.state.VolState.TheVariants as vol
use Rattle.vx_copies.specs.Disks.{CommitGoes, DiskSeen, good_mask}
use Rattle.vx_copies.specs.Lists.{AllOf, Each}
use Rattle.vx_confdb.specs.Groups.{members}
use Rattle.vx_fronts.specs.Rests.{rests_of}
use Rattle.vx_objects.specs.declared.config.Config.{Config}
use Rattle.vx_objects.specs.declared.edit.Edit.{Edit}
use Rattle.vx_image.specs.UsedPlexes.{IsVolOf}
use Rattle.vx_moments.specs.Group.{image_on, sectors_of}
use Rattle.vx_moments.specs.Leaving.{grouped, lone}
use Rattle.vx_moments.specs.Moment.{AreLater, Moment}
use Rattle.vx_moments.specs.World.{Group, OnPlexes, Volume, World}
use Rattle.vx_state_edits.specs.Edits.{recovered_edits}
use Rattle.vx_volume.specs.Volume.{IsVolume, volume_seen}
use Rattle.vx_volume_laws.specs.Keeping.{ChangesStates}
use Rattle.vx_lending.specs.Left.{held_pieces}
use Rattle.vx_lending.specs.Public.{lent_pieces, running_at, running_pieces, still_pieces, stuck_pieces}
use Rattle.vx_lending.specs.declared.public.Public.{Public}
use Rattle.vx_lending.specs.declared.public.Running.{Running}
use Rattle.vx_group_recover.specs.declared.healing.Healed.{Healed}
use Rattle.vx_group_start.specs.Fresh.{is_fresh}
use Rattle.vx_healed_volumes.specs.Healed.{AreSectorsAround, IsHealedBy}
use Rattle.vx_recovery.specs.Recovering.{IsRecoveryEnded}
use Rattle.vx_recovery.specs.Steps.{HasEnded}
use Rattle.vx_stages.specs.Ends.{IsChange}
use Rattle.vx_stages.specs.Starting.{plexes_started, refusal_at_once}
use Rattle.vx_house.specs.Holders.{group_holders}
use Rattle.vx_house.specs.Plain.{plain}
use Rattle.vx_house.specs.Runs.{AllInPlace, AreInPlace, AreRuns, IsAtRun, IsInPlace, IsRunOf}
use Rattle.vx_house.specs.Scene.{FaultsGoOn, Shelved}
use Rattle.vx_house.specs.View.{IsGroupKept, IsMoment, Keeps, at, member_of, scene}
use Rattle.vx_house.specs.declared.house.House.{House}
use Rattle.vx_house.specs.declared.house.Imported.{Imported}
use Rattle.vx_house.proofs.AllLaws.{all_front}
use Rattle.vx_house.proofs.Laid.{holders_laid, parted_laid}
use Rattle.vx_house.proofs.Moments.{faults_trans, later_trans}
use Rattle.vx_house_calls.specs.Passes.{with_group}
use Rattle.vx_house_calls.proofs.Moments.{grouped_lies, lone_lies}
use Rattle.vx_stage_changes.specs.Changing.{IsMeant}
use Rattle.vx_stage_changes.specs.Committing.{IsFinished}
use Rattle.vx_stage_changes.specs.declared.planning.NextConfig.{NextConfig}
use Rattle.vx_stage_changes.proofs.Alone.{low_by, went_by}
use Rattle.vx_stage_changes.proofs.CommitSlots.{mask_was}
use Rattle.vx_stage_changes.proofs.Holders.{same_members}
use Rattle.vx_stage_changes.proofs.Runners.{disks_on, seen_members}
use Rattle.vx_stage_volumes.specs.Opening.{good_of}
use Rattle.vx_stage_volumes.specs.Recording.{IsRecordedIn}
use Rattle.vx_stage_volumes.proofs.Begun.{length_end}
use Rattle.vx_stage_volumes.proofs.Commit.{IsCommittedAt, KeepsRunning, committed_at, done_keeps, written_faults}
use Rattle.vx_stage_volumes.proofs.HeldStart.{world_of}
use Rattle.vx_stage_volumes.proofs.Inserted.{IsInserted, all_between, flat_between, flat_last, inserted}
use Rattle.vx_stage_volumes.proofs.Otherwise.{IsHeldOtherwise, otherwise_keeps, otherwise_moment, otherwise_scene, sized_by}
use Rattle.vx_stage_volumes.proofs.Prepared.{IsOpenable, changes_states, meant, named, others_stay, same_disks, v_name}
use Rattle.vx_stage_volumes.proofs.Slots.{IsAtSlot, at_slot_on}
use Rattle.vx_stage_volumes.proofs.StartRun.{BeginsAs}
use Rattle.vx_stage_volumes.proofs.TouchedBy.{put_back}
use Rattle.vx_stage_recovery.specs.Ending.{EndsOut}
use Rattle.vx_stage_recovery.specs.Steps.{HasFinished}
use Rattle.vx_stage_recovery.proofs.EndFree.{none_in}
use Rattle.vx_stage_recovery.proofs.EndHealed.{IsStuckIn, at_v, faults_v, gv, has_healed, healed, healed_so, hv, is_then, keeps_v, kept_v, later_v, of_mid, on, openable, same_world, then as then_v}
use Rattle.vx_stage_recovery.proofs.EndPrepared.{HaveEndLaws}
use Rattle.vx_stage_recovery.proofs.EndRuns.{HaveRunLaws, Runs, begins, in_place, run_of, w_lies, w as volume_of}
use Rattle.vx_stage_recovery.proofs.EndSteps.{FinishGoes, still_open}
use Rattle.vx_stage_recovery.proofs.HealBytes.{around, heals_by}
use Rattle.vx_stage_recovery.proofs.HealHouse.{good_slots}
use Rattle.vx_stage_recovery.proofs.HealLaws.{HaveHealLaws, HavePieceLaws}

module _ {P : Type 0} {ghosts : Ghosts P} (alike : (p q : P) → is_some (ghosts.seen p).told ≡ is_some (ghosts.seen q).told) (laws : HaveHealLaws ghosts) (pieces : HavePieceLaws ghosts) (runs : HaveRunLaws) (edits : HaveEndLaws) (name : Word)
    (shelf : Shelved) (h : House P ghosts) (keeps : Keeps ghosts.seen (at shelf h)) {g g' : Imported P ghosts} (has : h.group ≡ Some g) (unstarted : is_some ((plain ghosts.seen h).volumes name) ≡ false) {done : Healed}
    (e : EndsOut ghosts.seen name done (Ok tt) g g') where
  abbrev see : P → Seen
  see = ghosts.seen

  abbrev v : Vol
  v = e.volume

  abbrev mid : Imported P ghosts
  mid = e.opens.mid

  abbrev opened : Imported P ghosts
  opened = e.opened

  abbrev after : Running P ghosts
  after = e.ends.after

  abbrev next : NextConfig
  next = e.ends.recorded.next

  abbrev gm : Group
  gm = world_of see mid

  abbrev edits_of : List Edit
  edits_of = recovered_edits g.config v done.marks

  may : IsOpenable see edits_of name v next g mid
  may = openable edits e

  records : IsRecordedIn see name after next opened g'
  records = e.ends.recorded.records

  v_named : v.name ≡ name
  v_named = v_name may

  -- ---- held among those that could not be put back

  -- it would have had a place there
  stuck_room : suc opened.public.stuck.len ≤ opened.public.stuck.cap
  stuck_room = let room = subst (λ s. s.len < s.cap) (sym e.opens.opens.same.stuck) e.opens.ready.ready.room in omega (arith, room)

  abbrev p1 : Public P ghosts
  p1 = record opened.public {
    stuck = record opened.public.stuck {
      len = suc opened.public.stuck.len;
      items = opened.public.stuck.items ++ after ∷ [];
      ok = (ap suc opened.public.stuck.ok.0 ∙ sym (length_end opened.public.stuck.items after), stuck_room);
    };
  }

  held1 : IsStuckIn opened.public after p1
  held1 = record { pool = refl; left = refl; entries = refl; stuck = refl }

  abbrev g_held : Imported P ghosts
  g_held = gv alike laws pieces name shelf h keeps has e p1 held1

  abbrev h_held : House P ghosts
  h_held = hv alike laws pieces name shelf h keeps has e p1 held1

  keeps_held : Keeps see (at shelf h_held)
  keeps_held = keeps_v alike laws pieces name shelf h keeps has e p1 held1

  kept_held : IsGroupKept see g_held
  kept_held = kept_v alike laws pieces name shelf h keeps has e p1 held1

  abbrev volume_of_mid : IsVolOf mid.config v
  volume_of_mid = of_mid alike laws pieces name shelf h keeps has e p1 held1

  -- ---- the commit

  is_meant : IsMeant edits_of mid.config next.config next.text.items
  is_meant = meant may

  -- nothing of the name runs
  absent : running_at opened.public name ≡ None
  absent = ap (λ r. get (slice_cmp nat_cmp) r name) (e.opens.opens.same.running ∙ e.opens.ready.parts.running) ∙ e.begun.absent

  stays_running : KeepsRunning g_held next.config
  stays_running = record {
    group = named may;
    disks = same_disks may;
    stays = λ u of_u others good good' fewer. others_stay may u of_u (λ same. none (running_at p1 u.name) (ap (running_at opened.public) (same ∙ v_named) ∙ absent) others) good good' fewer;
  }
    where
      none : (o : Option (Running P ghosts)) → o ≡ None → IsSome o → ⊥
      none o e some = cc

  -- the group whose commit is done
  abbrev g2 : Imported P ghosts
  g2 = record { config = next.config; base = g'.base; public = p1 }

  abbrev h2 : House P ghosts
  h2 = with_group h_held g2

  finished : IsFinished see next.text.items mid.base g'.base
  finished = subst (λ b. IsFinished see next.text.items b g'.base) (ap (λ (x : Imported P ghosts). x.base) e.opens.opens.same.group) records.finished

  keeps2 : Keeps see (at shelf h2)
  keeps2 = done_keeps see shelf h_held g_held g2 refl keeps_held kept_held next.text.items refl finished edits_of is_meant stays_running

  kept2 : IsGroupKept see g2
  kept2 = keeps2.house.group

  faults2 : FaultsGoOn (scene see (at shelf h)) (scene see (at shelf h2))
  faults2 = faults_trans (scene see (at shelf h)) (scene see (at shelf h_held)) (scene see (at shelf h2)) (faults_v alike laws pieces name shelf h keeps has e p1 held1)
      (written_faults see shelf h_held g_held g2 refl keeps_held kept_held next.text.items refl finished.tried)

  -- ---- the disks afterwards

  abbrev hs : List DiskSeen
  hs = members see mid.base

  abbrev ns : List DiskSeen
  ns = members see g'.base

  goes : Each (CommitGoes (mid.base.sequence + 1) g'.base.sequence next.text.items) hs ns
  goes = finished.tried.committed.goes

  same_named : map member_of g'.base.disks.items ≡ map member_of mid.base.disks.items
  same_named = sym (seen_members see g'.base.disks.items) ∙ same_members (mid.base.sequence + 1) g'.base.sequence next.text.items hs ns goes ∙ seen_members see mid.base.disks.items

  fewer : (slot : ℕ) → has_slot (good_mask ns) slot ≡ true → has_slot (good_mask hs) slot ≡ true
  fewer slot e = mask_was hs ns (went_by (mid.base.sequence + 1) g'.base.sequence next.text.items hs ns goes) (low_by hs kept_held.carries.alive.ready) slot e

  slot_before : (slot : ℕ) → has_slot (good_mask hs) slot ≡ true → IsAtSlot e.opens.opens.numbers hs gm.members slot
  slot_before slot good =
      good_slots alike shelf h keeps has e.opens.ready.parts e.opens.ready.ready.room volume_of_mid e.begun.state e.opens.opens (healed alike laws pieces name shelf h keeps has e p1 held1) (on alike laws pieces name shelf h keeps has e p1 held1) slot good

  slot_after : (slot : ℕ) → has_slot (good_mask hs) slot ≡ true → IsAtSlot e.opens.opens.numbers ns (map member_of g'.base.disks.items) slot
  slot_after slot good =
      at_slot_on e.opens.opens.numbers hs ns gm.members (map member_of g'.base.disks.items) (disks_on (mid.base.sequence + 1) g'.base.sequence next.text.items hs ns goes) same_named slot (slot_before slot good)

  -- ---- it runs by the new configuration

  abbrev v_active : Vol
  v_active = record v { state = vol.Active }

  both : IsVolOf next.config v_active × ChangesStates mid.config (good_mask hs) v (is_fresh v.state) next.config (good_mask hs) v_active
  both = changes_states may next.config is_meant.edited (good_mask hs)

  changes : ChangesStates mid.config (good_mask hs) v (is_fresh v.state) next.config (good_mask ns) v_active
  changes = record { vol = both.1.vol; disks = both.1.disks; subdisks = both.1.subdisks; snaps = both.1.snaps; plexes = both.1.plexes; failed = fewer }

  is_healed : IsHealedBy see mid.config (good_of see mid) v e.opens.opens.numbers mid.public opened.public e.running after (Ok done)
  is_healed = heals_by alike laws pieces shelf h keeps has e.opens.ready.parts e.opens.ready.ready.room volume_of_mid e.begun.state e.opens.opens (healed alike laws pieces name shelf h keeps has e p1 held1)

  new_in_place : IsInPlace see ns next.config (good_mask ns) name after
  new_in_place =
      in_place gm v volume_of_mid e.begun.state e.opens.opens.numbers mid.public opened.public e.running after e.opens.opens.form e.opens.opens.started e.opens.opens.numbered done is_healed
      e.opens.opens.are.own next.config (good_mask ns) ns (map member_of g'.base.disks.items) both.0 changes slot_after name v_named

  -- ---- among the running ones

  abbrev p3 : Public P ghosts
  p3 = record opened.public { running = g'.public.running }

  put_in : IsInserted opened.public.running.entries g'.public.running.entries name after
  put_in = subst (λ es. IsInserted opened.public.running.entries es name after) (sym records.entries) (inserted opened.public.running.entries name after absent)

  abbrev A : List Seen
  A = flat_map (running_pieces see) put_in.before

  abbrev B : List Seen
  B = flat_map (running_pieces see) put_in.behind

  abbrev H : List Seen
  H = held_pieces see after.volume

  abbrev S : List Seen
  S = flat_map (stuck_pieces see) opened.public.stuck.items

  lent1 : lent_pieces see p1 ≡ (A ++ B) ++ (S ++ H)
  lent1 = ap (λ ps. ps ++ flat_map (stuck_pieces see) p1.stuck.items) (ap (flat_map (running_pieces see)) put_in.was ∙ flat_map-append (running_pieces see) put_in.before put_in.behind)
      ∙ ap (λ ps. (A ++ B) ++ ps) (flat_last (stuck_pieces see) opened.public.stuck.items after)

  lent3 : lent_pieces see p3 ≡ (A ++ (H ++ B)) ++ S
  lent3 = ap (λ ps. ps ++ S) (ap (flat_map (running_pieces see)) put_in.is ∙ flat_between (running_pieces see) put_in.before (name, after) put_in.behind)

  regrouped : (a b s c : List Seen) → (a ++ (b ++ s)) ++ c ≡ (a ++ b) ++ (s ++ c)
  regrouped a b s c = simp append_assoc

  lent_same : SameSectors ((A ++ B) ++ (S ++ H)) ((A ++ (H ++ B)) ++ S)
  lent_same = subst (λ ps. SameSectors ps ((A ++ (H ++ B)) ++ S)) (regrouped A B S H) (put_back A H B S)

  together : SameSectors (still_pieces see p1 ++ lent_pieces see p1) (still_pieces see p3 ++ lent_pieces see p3)
  together = subst (λ ps. SameSectors (still_pieces see p1 ++ ps) (still_pieces see p3 ++ lent_pieces see p3)) (sym lent1)
      (subst (λ ps. SameSectors (still_pieces see p1 ++ ((A ++ B) ++ (S ++ H))) (still_pieces see p1 ++ ps)) (sym lent3) (same_after (still_pieces see p1) ((A ++ B) ++ (S ++ H)) ((A ++ (H ++ B)) ++ S) lent_same))

  abbrev g3 : Imported P ghosts
  g3 = record g2 { public = p3 }

  abbrev h3 : House P ghosts
  h3 = with_group h2 g3

  same_devices : group_holders see (Some g3) ≡ group_holders see (Some g2)
  same_devices = holders_laid see alike g2 g3 refl kept2.whole.parted together

  held3 : IsHeldOtherwise see g2 g3
  held3 = record { config = refl; base = refl; holders = same_devices }

  placed3 : AreInPlace see g3
  placed3 = subst (AllInPlace see ns next.config (good_mask ns)) (sym put_in.is)
      (all_between (λ (x : Word × Running P ghosts). IsInPlace see ns next.config (good_mask ns) x.0 x.1) put_in.before (name, after) put_in.behind (subst (AllInPlace see ns next.config (good_mask ns)) put_in.was kept2.placed) new_in_place)

  kept3 : IsGroupKept see g3
  kept3 = record {
    named = kept2.named;
    text = kept2.text;
    first = kept2.first;
    carries = kept2.carries;
    sized = sized_by (rests_of (still_pieces see p1 ++ lent_pieces see p1) []) (rests_of (still_pieces see p3 ++ lent_pieces see p3) []) ns same_devices kept2.sized;
    slots = kept2.slots;
    recorded = kept2.recorded;
    whole = record {
      parted = parted_laid see alike g2 g3 refl kept2.whole.parted together;
      volumes = subst (λ es. AllOf Whole es) (sym put_in.is) (all_between Whole put_in.before (name, after) put_in.behind (subst (λ es. AllOf Whole es) put_in.was kept2.whole.volumes) e.ends.heals.whole);
      stuck = all_front (λ (r : Running P ghosts). IsVolume (volume_seen see r.volume)) opened.public.stuck.items (after ∷ []) kept2.whole.stuck;
    };
    placed = placed3;
  }
    where
      Whole : Word × Running P ghosts → Type 0
      Whole x = IsVolume (volume_seen see x.1.volume)

  keeps3 : Keeps see (at shelf h3)
  keeps3 = otherwise_keeps see shelf h2 g2 g3 refl held3 keeps2 kept3

  faults3 : FaultsGoOn (scene see (at shelf h)) (scene see (at shelf h3))
  faults3 = subst (λ s. FaultsGoOn (scene see (at shelf h)) s) (sym (otherwise_scene see shelf h2 g2 g3 refl held3)) faults2

  -- it is the group as it was left
  same_group : g' ≡ g3
  same_group =
      ap (λ c. (let x : Imported P ghosts = record { config = c; base = g'.base; public = g'.public } in x)) records.config
      ∙ ap (λ p. (let x : Imported P ghosts = record { config = next.config; base = g'.base; public = p } in x)) records.same

  -- ---- the moment in which it runs

  module _ (m : Moment) (at_m : IsMoment see (at shelf h) m) where
    -- the one in which it is healed
    abbrev then : Moment
    then = then_v alike laws pieces name shelf h keeps has e p1 held1 m at_m

    at_then : IsMoment see (at shelf h_held) then
    at_then = at_v alike laws pieces name shelf h keeps has e p1 held1 m at_m

    d : IsCommittedAt see shelf h2 edits_of next.config then
    d = committed_at see shelf h_held g_held g2 refl keeps_held kept_held next.text.items refl finished edits_of is_meant stays_running then at_then

    was_around : AreSectorsAround see (good_of see mid) e.opens.opens.numbers mid.public after (sectors_of m.world.devices gm.members) (sectors_of then.world.devices gm.members)
    was_around = around alike laws pieces shelf h keeps has e.opens.ready.parts e.opens.ready.ready.room volume_of_mid e.begun.state e.opens.opens (healed alike laws pieces name shelf h keeps has e p1 held1) m at_m

    begun : BeginsAs gm v (image_on then.world.devices gm v)
        (Runs gm v volume_of_mid e.begun.state e.opens.opens.numbers mid.public opened.public e.running after e.opens.opens.form e.opens.opens.started e.opens.opens.numbered done is_healed runs (sectors_of m.world.devices gm.members)
        (sectors_of then.world.devices gm.members) was_around)
    begun =
        begins gm v volume_of_mid e.begun.state e.opens.opens.numbers mid.public opened.public e.running after e.opens.opens.form e.opens.opens.started e.opens.opens.numbered done is_healed runs (sectors_of m.world.devices gm.members)
        (sectors_of then.world.devices gm.members) was_around

    abbrev w : Volume
    w =
        volume_of gm v volume_of_mid e.begun.state e.opens.opens.numbers mid.public opened.public e.running after e.opens.opens.form e.opens.opens.started e.opens.opens.numbered done is_healed
        e.opens.opens.are.own next.config (good_mask ns) ns (map member_of g'.base.disks.items) both.0 changes slot_after runs g'.base.sequence (sectors_of m.world.devices gm.members) (sectors_of then.world.devices gm.members) was_around begun

    lies_w : w.lies ≡ OnPlexes (plexes_started gm v)
    lies_w =
        w_lies gm v volume_of_mid e.begun.state e.opens.opens.numbers mid.public opened.public e.running after e.opens.opens.form e.opens.opens.started e.opens.opens.numbered done is_healed
        e.opens.opens.are.own next.config (good_mask ns) ns (map member_of g'.base.disks.items) both.0 changes slot_after runs g'.base.sequence (sectors_of m.world.devices gm.members) (sectors_of then.world.devices gm.members) was_around begun

    abbrev gn : Group
    gn = record { config = next.config; good = good_mask ns; members = map member_of g'.base.disks.items; sequence = g'.base.sequence }

    run_w : (x : Word) → v.name ≡ x → IsRunOf see ns gn x after w
    run_w =
        run_of gm v volume_of_mid e.begun.state e.opens.opens.numbers mid.public opened.public e.running after e.opens.opens.form e.opens.opens.started e.opens.opens.numbered done is_healed
        e.opens.opens.are.own next.config (good_mask ns) ns (map member_of g'.base.disks.items) both.0 changes slot_after runs g'.base.sequence (sectors_of m.world.devices gm.members) (sectors_of then.world.devices gm.members) was_around begun

    -- ---- nothing of the name was started

    none_healed : then.world.volumes v.name ≡ None
    none_healed =
        ap (λ (x : World). x.volumes v.name) (healed_so alike laws pieces name shelf h keeps has e p1 held1 m at_m).healing.touched.world ∙ ap m.world.volumes v_named ∙ none_in see name shelf h unstarted m at_m

    same_volumes : d.then.world.volumes ≡ then.world.volumes
    same_volumes = d.committed.committing.volumes

    none_then : d.then.world.volumes v.name ≡ None
    none_then = ap (λ (f : Word → Option Volume). f v.name) same_volumes ∙ none_healed

    abbrev volumes_now : Word → Option Volume
    volumes_now = put v.name (Some w) d.then.world.volumes

    group_then : d.then.world.group ≡ Some gn
    group_then = d.is.group_is

    alone : (x : Word) → lone (volumes_now x) ≡ lone (d.then.world.volumes x)
    alone x = by (bytes_eq v.name x) refl
      where
        by : (b : Bool) → bytes_eq v.name x ≡ b → lone (cond b (Some w) (d.then.world.volumes x)) ≡ lone (d.then.world.volumes x)
        by false e = refl
        by true e = lone_lies w (plexes_started gm v) lies_w ∙ ap lone (sym none_then) ∙ ap (λ n. lone (d.then.world.volumes n)) (bytes_eq_same v.name x e)

    puts_v : (x : Word) → running_at g'.public x ≡ cond (bytes_eq v.name x) (Some after) (running_at opened.public x)
    puts_v x = records.puts x ∙ ap (λ n. cond (bytes_eq n x) (Some after) (running_at opened.public x)) (sym v_named)

    runs_now : AreRuns see (Some g3) d.then.world.group volumes_now
    runs_now x = subst (λ o. IsAtRun see ns d.then.world.group x o (grouped (volumes_now x))) (sym (puts_v x)) (by (bytes_eq v.name x) refl)
      where
        by : (b : Bool) → bytes_eq v.name x ≡ b → IsAtRun see ns d.then.world.group x (cond b (Some after) (running_at opened.public x)) (grouped (cond b (Some w) (d.then.world.volumes x)))
        by false e = d.is.runs_are x
        by true e =
            subst (λ o. IsAtRun see ns o x (Some after) (grouped (Some w))) (sym group_then)
            (subst (IsAtRun see ns (Some gn) x (Some after)) (sym (grouped_lies w (plexes_started gm v) lies_w)) (run_w x (bytes_eq_same v.name x e)))

    abbrev now : Moment
    now = record { world = record d.then.world { volumes = volumes_now }; counts = d.then.counts }

    at_now : IsMoment see (at shelf h3) now
    at_now = otherwise_moment see shelf h2 g2 g3 refl held3 d.then d.is volumes_now alone runs_now

    -- ---- so the recovery has ended

    ended : IsRecoveryEnded gm v done.marks then now
    ended = record {
      untested = ap (λ (x : Group). refusal_at_once x v) (same_world alike laws pieces name shelf h keeps has e p1 held1) ∙ e.opens.ready.early;
      free = none_healed;
      opened = then;
      opens = still_open gm v then;
      writing = d.writing;
      change = subst (λ (c : Config). IsChange (recovered_edits c v done.marks) then.world d.writing) (sym e.opens.ready.parts.config) d.change;
      recorded = d.then;
      committed = d.committed;
      rest = d.later;
      runs = record { sound = begun.sound; if_sound = begun.if_sound; if_new = begun.if_new; world = refl; counts = refl };
    }

    has_ended : HasEnded name done.marks then now
    has_ended = (gm, v, is_then alike laws pieces name shelf h keeps has e p1 held1 m at_m, e.begun.state, ended)

    finishes : HasFinished name done.dirty done.copied m now
    finishes = (done.marks, (then, later_v alike laws pieces name shelf h keeps has e p1 held1 m at_m, has_healed alike laws pieces name shelf h keeps has e p1 held1 m at_m, d.later, has_ended))

    comes_later : AreLater m.counts now.counts
    comes_later = later_trans m.counts then.counts d.then.counts (later_v alike laws pieces name shelf h keeps has e p1 held1 m at_m) d.later

  finish_goes : FinishGoes see name (Ok done) (at shelf h) (at shelf h3)
  finish_goes = record { keeps = keeps3; goes = λ m at_m. (now m at_m, at_now m at_m, comes_later m at_m, finishes m at_m); faults = faults3; blamed = tt }

  pub running_goes : FinishGoes see name (Ok done) (at shelf h) (at shelf (record h { group = Some g' }))
  running_goes = subst (λ (x : Imported P ghosts). FinishGoes see name (Ok done) (at shelf h) (at shelf (record h { group = Some x }))) (sym same_group) finish_goes
