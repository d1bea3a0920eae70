-- A volume was opened out of the pieces of its group, healed, and put back. In between it is held among those that could not be put back: as it was
-- opened, and then healed. The house keeps what it did, and each moment goes to one in which sectors of the volume alone have changed.
use Rattle.std.proofs.Common.{◌≡◌, ◌∙◌, ℕ, suc, ◌<◌, ◌≤◌, true, List, [], ◌∷◌, ◌++◌, Some, Result, refl, sym, ap, subst, arith, append_assoc}
use Rattle.std.specs.Prelude.{is_some}
use Rattle.std.specs.BTreeMap.{is_at}
use Rattle.std.specs.Map.{lookup}
use Rattle.std.specs.Cmp.Lexicographic.{slice_cmp}
use Rattle.std.specs.List.{All, flat_map}
use Rattle.std.specs.Ordering.{nat_cmp}
use Rattle.std.proofs.lemmas.List.{append-nil}
use Rattle.vx_pages.specs.declared.local_piece.LocalPiece.{Ghosts}
use Rattle.vx_base.specs.Counts.{Rose}
use Rattle.vx_base.specs.Named.{Word}
use Rattle.vx_mask.specs.Mask.{has as has_slot}
use Rattle.vx_piece.specs.Seen.{Seen}
use Rattle.vx_runs.specs.Run.{SomeCut}
use Rattle.vx_carve.specs.Together.{HasSome, SameSectors, faults_on}
use Rattle.vx_carve.proofs.Same.{same_refl, same_trans}
use Rattle.vx_copies.specs.Disks.{DiskSeen}
use Rattle.vx_copies.specs.Lists.{AllOf}
use Rattle.vx_confdb.specs.Groups.{members}
use Rattle.vx_config_parts.specs.declared.disk.Disk.{Disk as Record}
use Rattle.vx_config_parts.specs.declared.plex.Plex.{Plex}
use Rattle.vx_config_parts.specs.declared.state.VolState.TheVariants as vol
use Rattle.vx_config_parts.specs.declared.vol.Vol.{Vol}
use Rattle.vx_fronts.specs.Rests.{rests_of}
use Rattle.vx_fronts.proofs.Behind.{turned}
use Rattle.vx_image.specs.UsedPlexes.{IsVolOf}
use Rattle.vx_moments.specs.Leaving.{grouped}
use Rattle.vx_moments.specs.Moment.{AreLater, Moment}
use Rattle.vx_moments.specs.World.{Group}
use Rattle.vx_volume.specs.Volume.{IsVolume, volume_seen}
use Rattle.vx_lending.specs.FormLaws.{good_disks}
use Rattle.vx_lending.specs.Left.{held_pieces}
use Rattle.vx_lending.specs.Public.{running_pieces, still_pieces, stuck_pieces}
use Rattle.vx_lending.specs.declared.public.Public.{Public}
use Rattle.vx_lending.specs.declared.public.Running.{Running}
use Rattle.vx_group_calls.proofs.Sources.{tell_still}
use Rattle.vx_group_recover.specs.declared.healing.Healed.{Healed}
use Rattle.vx_group_start.specs.Laying.{AreRunningVolumes, AreStuckVolumes}
use Rattle.vx_group_volumes.specs.Devices.{HasFailedOn}
use Rattle.vx_group_volumes.specs.Laws.{GoesOn}
use Rattle.vx_group_volumes.specs.Places.{IsSlotOf}
use Rattle.vx_group_volumes.proofs.Devices.{device_named}
use Rattle.vx_stages.specs.GroupCalls.{PlexHasFailed}
use Rattle.vx_stages.specs.Touching.{FailsOn, IsCutOff, IsTouched}
use Rattle.vx_house.specs.Holders.{group_holders}
use Rattle.vx_house.specs.Runs.{AllInPlace, AreRuns, IsAtRun, IsNumbered}
use Rattle.vx_house.specs.Scene.{FaultsGoOn, HasFailed, Shelved}
use Rattle.vx_house.specs.View.{IsGroupKept, IsMoment, Keeps, at, scene}
use Rattle.vx_house.specs.declared.house.House.{House}
use Rattle.vx_house.specs.declared.house.Imported.{Imported}
use Rattle.vx_house.specs.declared.stop.Stop.{Stop}
use Rattle.vx_house.proofs.AllLaws.{all_front}
use Rattle.vx_house.proofs.Laid.{holders_laid, parted_laid}
use Rattle.vx_house.proofs.Moments.{faults_trans, later_trans}
use Rattle.vx_house_calls.specs.Passes.{IsOneOf, with_group}
use Rattle.vx_stage_volumes.specs.Opening.{OpensIn, good_of}
use Rattle.vx_stage_volumes.specs.Parting.{PartsGroup}
use Rattle.vx_stage_volumes.specs.Touching.{AreOwnSectors, IsTouchedIn, behind_of}
use Rattle.vx_stage_volumes.proofs.Begun.{length_end}
use Rattle.vx_stage_volumes.proofs.HeldOpen.{at1, faults1, g1, h1, k, kept1, keeps1, mid_at, mid_keeps, slots1}
use Rattle.vx_stage_volumes.proofs.HeldStart.{IsHeldPublic, IsTouchedAt, world_of}
use Rattle.vx_stage_volumes.proofs.Inserted.{flat_last}
use Rattle.vx_stage_volumes.proofs.Otherwise.{IsHeldOtherwise, otherwise_keeps, otherwise_moment, otherwise_scene, sized_by}
use Rattle.vx_stage_volumes.proofs.Slots.{IsAtSlot, is_numbered, slot_is_good}
use Rattle.vx_stage_volumes.proofs.TouchedGroup.{disks_on, kept_now, of_disks, some}
use Rattle.vx_stage_volumes.proofs.TouchedHouse.{GroupGoesOn, disk_failed, touched_faults, touched_keeps}
use Rattle.vx_stage_volumes.proofs.TouchedMoments.{counts_are_later, disk_fails, disk_fault, moment_now, n as next, some_lost, touched}
use Rattle.vx_stage_recovery.specs.Healing.{IsHealedIn}
use Rattle.vx_stage_recovery.proofs.HealRuns.{own}
use Rattle.vx_stage_recovery.proofs.HealTouches.{blamed_since, failed_since, fails_since, touched_then}

-- what holds of all, and of one behind them
pub all_end : {X : Type 0} (Q : X → Type 0) (xs : List X) (x : X) → AllOf Q xs → Q x → AllOf Q (xs ++ x ∷ [])
all_end Q [] x all one = (one, tt)
all_end Q (y ∷ ys) x all one = (all.0, all_end Q ys x all.1 one)

module _ {P : Type 0} {ghosts : Ghosts P} (alike : (p q : P) → is_some (ghosts.seen p).told ≡ is_some (ghosts.seen q).told) (shelf : Shelved) (h : House P ghosts) (keeps : Keeps ghosts.seen (at shelf h))
    {g mid : Imported P ghosts} (has : h.group ≡ Some g) (parts : PartsGroup ghosts.seen g mid) (room : mid.public.stuck.len < mid.public.stuck.cap)
    {v : Vol} (of : IsVolOf mid.config v) (sync : v.state ≡ vol.Sync) {opened : Imported P ghosts} {running : Running P ghosts} (opens : OpensIn ghosts.seen v mid opened running)
    {told : Result Healed Stop} {new : Imported P ghosts} (healed : IsHealedIn ghosts.seen running told opened new) (goes : GoesOn ghosts.seen running.volume healed.after.volume) where
  abbrev pub see : P → Seen
  see = ghosts.seen

  abbrev pub after : Running P ghosts
  after = healed.after

  -- the group, as the world has it
  abbrev pub gm : Group
  gm = world_of see mid

  abbrev pub hk : House P ghosts
  hk = k alike shelf h keeps has parts

  pub keeps_mid : Keeps see (at shelf hk)
  keeps_mid = mid_keeps alike shelf h keeps has parts

  pub at_mid : (m : Moment) → IsMoment see (at shelf h) m → IsMoment see (at shelf hk) m
  at_mid m is = mid_at alike shelf h keeps has parts m is

  -- ---- it is held among those that could not be put back

  -- it would have had a place there
  pub stuck_room : suc opened.public.stuck.len ≤ opened.public.stuck.cap
  stuck_room = let room' = subst (λ s. s.len < s.cap) (sym opens.same.stuck) room in omega (arith, room')

  abbrev pub with_stuck : Running P ghosts → Public P ghosts
  with_stuck r = record opened.public {
    stuck = record opened.public.stuck {
      len = suc opened.public.stuck.len;
      items = opened.public.stuck.items ++ r ∷ [];
      ok = (ap suc opened.public.stuck.ok.0 ∙ sym (length_end opened.public.stuck.items r), stuck_room);
    };
  }

  pub held1 : IsHeldPublic mid.public opened.public running (with_stuck running)
  held1 = record { pool = refl; left = refl; entries = ap (λ r. r.entries) opens.same.running; stuck = ap (λ s. s.items ++ running ∷ []) opens.same.stuck }

  abbrev pub g_held : Imported P ghosts
  g_held = g1 alike shelf h keeps has parts opens held1

  abbrev pub h_held : House P ghosts
  h_held = h1 alike shelf h keeps has parts opens held1

  pub keeps_held : Keeps see (at shelf h_held)
  keeps_held = keeps1 alike shelf h keeps has parts opens held1

  pub kept_held : IsGroupKept see g_held
  kept_held = kept1 alike shelf h keeps has parts opens held1

  faults_held : FaultsGoOn (scene see (at shelf h)) (scene see (at shelf h_held))
  faults_held = faults1 alike shelf h keeps has parts opens held1

  -- the moment in which it is opened
  abbrev pub touched_at : (m : Moment) → IsMoment see (at shelf h) m → IsTouchedAt see shelf h_held gm v.name m
  touched_at m is = at1 alike shelf h keeps has parts opens held1 m is

  -- a good slot has the number of its disk's device
  pub good_slots : (slot : ℕ) → has_slot (good_of see mid) slot ≡ true → IsAtSlot opens.numbers (members see mid.base) gm.members slot
  good_slots = slots1 alike shelf h keeps has parts opens held1

  -- ---- its pieces are called

  abbrev pub H : List Seen
  H = held_pieces see running.volume

  abbrev pub H' : List Seen
  H' = held_pieces see after.volume

  -- all others
  abbrev pub O : List Seen
  O = behind_of see opened.public

  regrouped : (s r q c : List Seen) → s ++ (r ++ (q ++ c)) ≡ (s ++ (r ++ q)) ++ c
  regrouped s r q c = simp append_assoc

  behind_is : (r : Running P ghosts) → behind_of see (with_stuck r) ≡ O ++ held_pieces see r.volume
  behind_is r =
      ap (λ ps. still_pieces see opened.public ++ (flat_map (running_pieces see) opened.public.running.entries ++ ps)) (flat_last (stuck_pieces see) opened.public.stuck.items r)
      ∙ regrouped (still_pieces see opened.public) (flat_map (running_pieces see) opened.public.running.entries) (flat_map (stuck_pieces see) opened.public.stuck.items) (held_pieces see r.volume)

  abbrev Whole : Running P ghosts → Type 0
  Whole r = IsVolume (volume_seen see r.volume)

  stuck_volumes : AreStuckVolumes see (opened.public.stuck.items ++ after ∷ [])
  stuck_volumes = all_end Whole opened.public.stuck.items after (all_front Whole opened.public.stuck.items (running ∷ []) kept_held.whole.stuck) healed.heals.whole

  touched_in : IsTouchedIn see H H' g_held (with_stuck after)
  touched_in = record {
    running = refl;
    stuck = stuck_volumes;
    others = O;
    were = subst (λ ps. SameSectors (behind_of see (with_stuck running)) ps) (behind_is running) (same_refl (behind_of see (with_stuck running)));
    are = subst (λ ps. SameSectors ps (behind_of see (with_stuck after))) (behind_is after) (same_refl (behind_of see (with_stuck after)));
    called = record { each = goes.together.stays; goes = goes.together.goes };
    tells = tell_still running.volume after.volume alike goes.together.stays;
  }

  -- the group with it as it is healed
  abbrev pub g2 : Imported P ghosts
  g2 = record g_held { public = with_stuck after }

  pub on : GroupGoesOn see H H' g_held g2
  on = record {
    base = refl;
    disks = disks_on see alike H H' g_held (with_stuck after) touched_in kept_held;
    kept = kept_now see alike H H' g_held (with_stuck after) touched_in kept_held;
    of_disks = of_disks see alike H H' g_held (with_stuck after) touched_in kept_held;
    each = touched_in.called.each;
  }

  kept2 : IsGroupKept see g2
  kept2 = on.kept

  abbrev pub h2 : House P ghosts
  h2 = with_group h_held g2

  pub keeps2 : Keeps see (at shelf h2)
  keeps2 = touched_keeps see shelf h_held g_held refl H H' g2 on keeps_held

  faults2 : FaultsGoOn (scene see (at shelf h)) (scene see (at shelf h2))
  faults2 = faults_trans (scene see (at shelf h)) (scene see (at shelf h_held)) (scene see (at shelf h2)) faults_held (touched_faults see shelf h_held g_held refl H H' g2 on keeps_held)

  -- ---- its pieces are put back

  swapped : SameSectors (O ++ H') (H' ++ O)
  swapped = subst (λ ps. SameSectors ps (H' ++ O)) (append-nil (O ++ H')) (subst (λ ps. SameSectors ((O ++ H') ++ []) (H' ++ ps)) (append-nil O) (turned O H' []))

  together : SameSectors (behind_of see (with_stuck after)) (behind_of see new.public)
  together = subst (λ ps. SameSectors ps (behind_of see new.public)) (sym (behind_is after)) (same_trans (O ++ H') (H' ++ O) (behind_of see new.public) swapped healed.back.together)

  abbrev pub g3 : Imported P ghosts
  g3 = record g2 { public = new.public }

  abbrev pub h3 : House P ghosts
  h3 = with_group h2 g3

  same_devices : group_holders see (Some g3) ≡ group_holders see (Some g2)
  same_devices = holders_laid see alike g2 g3 refl kept2.whole.parted together

  held3 : IsHeldOtherwise see g2 g3
  held3 = record { config = refl; base = refl; holders = same_devices }

  abbrev hs : List DiskSeen
  hs = members see mid.base

  entries3 : new.public.running.entries ≡ opened.public.running.entries
  entries3 = healed.back.entries

  pub kept3 : IsGroupKept see g3
  kept3 = record {
    named = kept2.named;
    text = kept2.text;
    first = kept2.first;
    carries = kept2.carries;
    sized = sized_by (rests_of (behind_of see (with_stuck after)) []) (rests_of (behind_of see new.public) []) hs same_devices kept2.sized;
    slots = kept2.slots;
    recorded = kept2.recorded;
    whole = record {
      parted = parted_laid see alike g2 g3 refl kept2.whole.parted together;
      volumes = subst (AreRunningVolumes see) (sym entries3) kept2.whole.volumes;
      stuck = healed.back.stuck;
    };
    placed = subst (AllInPlace see hs mid.config (good_of see mid)) (sym entries3) kept2.placed;
  }

  pub keeps3 : Keeps see (at shelf h3)
  keeps3 = otherwise_keeps see shelf h2 g2 g3 refl held3 keeps2 kept3

  pub faults3 : FaultsGoOn (scene see (at shelf h)) (scene see (at shelf h3))
  faults3 = subst (λ s. FaultsGoOn (scene see (at shelf h)) s) (sym (otherwise_scene see shelf h2 g2 g3 refl held3)) faults2

  -- it is the group as it was left
  pub g3_is : g3 ≡ new
  g3_is = sym (healed.back.same ∙ ap (λ (x : Imported P ghosts). (let y : Imported P ghosts = record x { public = new.public } in y)) opens.same.group)

  -- ---- the moment

  abbrev pub disks : List Record
  disks = good_disks (good_of see mid) mid.config.disks

  pub slots_are : (slot : ℕ) → IsSlotOf disks slot → IsNumbered opens.numbers hs gm.members slot
  slots_are slot on = is_numbered opens.numbers hs gm.members slot (good_slots slot (slot_is_good (good_of see mid) mid.config.disks slot on))

  pub own_sectors : AreOwnSectors mid.config v.name disks opens.numbers H
  own_sectors = own gm v of sync opens.numbers mid.public opened.public running opens.form opens.started opens.numbered

  pub some_pieces : All HasSome H
  some_pieces = some see alike H H' g_held (with_stuck after) touched_in kept_held

  module _ (m : Moment) (at_m : IsMoment see (at shelf h) m) where
    abbrev pub t : IsTouchedAt see shelf h_held gm v.name m
    t = touched_at m at_m

    abbrev pub n : Moment
    n = next see shelf h_held g_held refl H H' g2 on keeps_held mid.config v.name disks opens.numbers slots_are own_sectors some_pieces refl refl t.then t.is

    pub at2 : IsMoment see (at shelf h2) n
    at2 = moment_now see shelf h_held g_held refl H H' g2 on keeps_held mid.config v.name disks opens.numbers slots_are own_sectors some_pieces refl refl t.then t.is

    pub later2 : AreLater m.counts n.counts
    later2 = later_trans m.counts t.then.counts n.counts t.later
        (counts_are_later see shelf h_held g_held refl H H' g2 on keeps_held mid.config v.name disks opens.numbers slots_are own_sectors some_pieces refl refl t.then t.is)

    pub touched2 : IsTouched gm v.name m n
    touched2 = touched_then gm v.name m t.then n t.touched
        (touched see shelf h_held g_held refl H H' g2 on keeps_held mid.config v.name disks opens.numbers slots_are own_sectors some_pieces refl refl t.then t.is)

    runs3 : AreRuns see (Some g3) n.world.group n.world.volumes
    runs3 x =
        subst (λ r. IsAtRun see hs n.world.group x r (grouped (n.world.volumes x)))
        (ap (λ (es : List (Word × Running P ghosts)). lookup (is_at (slice_cmp nat_cmp x)) es) (sym healed.back.entries)) (at2.runs_are x)

    -- so it is once it is put back
    pub at3 : IsMoment see (at shelf h3) n
    at3 = otherwise_moment see shelf h2 g2 g3 refl held3 n at2 n.world.volumes (λ name. refl) runs3

    -- ---- what has failed

    -- a plex of which a device failed has failed
    pub plex_fails : (q : Plex) → HasFailedOn mid.config disks opens.numbers H H' q → PlexHasFailed gm m.counts n.counts q
    plex_fails q f =
        let s = slots_are f.lies.slot f.lies.on in
        let number : f.device ≡ s.disk.seen.device = sym f.lies.number_is ∙ s.number in
        let up = disk_fails see shelf h_held g_held refl H H' g2 on keeps_held mid.config v.name disks opens.numbers slots_are own_sectors some_pieces refl refl t.then t.is s.disk s.there
        (subst (λ d. Rose (faults_on d H) (faults_on d H')) number f.rose) in
        (s.disk.device, device_named gm disks opens.numbers q f.device f.lies s.disk.device s.device, failed_since m.counts t.then.counts n.counts t.later s.disk.device up)

    -- the disk on a device on which its pieces failed is told
    pub disk_told : (x : DiskSeen) → IsOneOf hs x → Rose (faults_on x.seen.device H) (faults_on x.seen.device H') → FailsOn gm v.name m.counts n.counts x.name x.device
    disk_told x one rose =
        fails_since gm v.name m.counts t.then.counts n.counts t.later x.name x.device
        (disk_fault see shelf h_held g_held refl H H' g2 on keeps_held mid.config v.name disks opens.numbers slots_are own_sectors some_pieces refl refl t.then t.is x one rose)

    -- where one of its pieces is cut, a device of it is
    pub is_lost : SomeCut H' → IsCutOff gm v.name n.counts
    is_lost cut = some_lost see shelf h_held g_held refl H H' g2 on keeps_held mid.config v.name disks opens.numbers slots_are own_sectors some_pieces refl refl t.then t.is cut

  -- so it is blamed
  pub disk_blamed : (x : DiskSeen) → IsOneOf hs x → Rose (faults_on x.seen.device H) (faults_on x.seen.device H') → HasFailed x.device (scene see (at shelf h)) (scene see (at shelf h3))
  disk_blamed x one rose =
      subst (λ s. HasFailed x.device (scene see (at shelf h)) s) (sym (otherwise_scene see shelf h2 g2 g3 refl held3))
      (blamed_since (scene see (at shelf h)) (scene see (at shelf h_held)) (scene see (at shelf h2)) faults_held x.device
      (disk_failed see shelf h_held g_held refl H H' g2 on keeps_held x one rose))
