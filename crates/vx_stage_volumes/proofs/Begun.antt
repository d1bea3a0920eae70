-- A volume that was opened, by a start or as a recovery ends, is recorded as active, and begins to run: each moment of the house goes to one in which it
-- does.
use Rattle.std.proofs.Common.{◌≡◌, ◌∙◌, ℕ, suc, ◌+◌, ◌<◌, ◌≤◌, ◌&&◌, Bool, true, false, cond, List, [], ◌∷◌, ◌++◌, map, length, Option, Some, None, refl, sym, ap, subst, arith, append_assoc}
use Rattle.std.specs.Prelude.{IsSome, is_some}
use Rattle.std.specs.BTreeMap.{get}
use Rattle.std.specs.Cmp.Lexicographic.{slice_cmp}
use Rattle.std.specs.List.{All, flat_map}
use Rattle.std.specs.Ordering.{nat_cmp}
use Rattle.std.proofs.lemmas.Grind.{flat_map-append}
use Rattle.std.specs.Str.{bytes_eq}
use Rattle.std.proofs.lemmas.Bool.{and_parts}
use Rattle.vx_pages.specs.declared.local_piece.LocalPiece.{Ghosts}
use Rattle.vx_base.specs.Blocks.{Contents}
use Rattle.vx_base.specs.Named.{Word, put}
use Rattle.vx_base.proofs.NamedLemmas.{bytes_eq_same, bytes_eq_self}
use Rattle.vx_mask.specs.Mask.{has as has_slot}
use Rattle.vx_piece.specs.Seen.{Seen, AreCounts, EndsThere}
use Rattle.vx_carve.specs.Together.{Holds, SameSectors}
use Rattle.vx_carve.proofs.Runs.{same_after}
use Rattle.vx_config_parts.specs.declared.plex.Plex.{Plex}
use Rattle.vx_config_parts.specs.declared.state.VolState.{VolState}
use Rattle.vx_config_parts.specs.declared.state.VolState.TheVariants as vol
use Rattle.vx_config_parts.specs.declared.vol.Vol.{Vol}
use Rattle.vx_copies.specs.Disks.{CommitGoes, DiskSeen, good_mask}
use Rattle.vx_copies.specs.Lists.{AllOf, Each}
use Rattle.vx_confdb.specs.Groups.{members}
use Rattle.vx_fronts.specs.Rests.{rests_of}
use Rattle.vx_image.proofs.PlexMembers.{IsIn, any_in}
use Rattle.vx_objects.specs.declared.edit.Edit.{Edit}
use Rattle.vx_state_edits.specs.Edits.{is_new}
use Rattle.vx_image.specs.Bytes.{Sectors, map_or_zero}
use Rattle.vx_image.specs.UsedPlexes.{IsVolOf}
use Rattle.vx_moments.specs.Commit.{IsCommitted, Writing}
use Rattle.vx_moments.specs.Leaving.{grouped, lone}
use Rattle.vx_moments.specs.Moment.{Moment, AreLater}
use Rattle.vx_moments.specs.World.{Group, OnPlexes, Volume, World}
use Rattle.vx_moments.specs.Group.{image_on, sectors_of}
use Rattle.vx_volume.specs.Volume.{IsVolume, volume_seen}
use Rattle.vx_volume_laws.specs.Contents.{AreSectorsOf}
use Rattle.vx_lending.specs.Form.{IsFormOf}
use Rattle.vx_lending.proofs.Rules.{one_plex}
use Rattle.vx_volume_laws.specs.Keeping.{ChangesStates, IsRestated}
use Rattle.vx_volume_laws.proofs.Plexes.{zip_left}
use Rattle.vx_lending.specs.Left.{held_pieces}
use Rattle.vx_lending.specs.declared.public.Public.{Public}
use Rattle.vx_lending.specs.declared.public.Running.{Running}
use Rattle.vx_lending.specs.Public.{lent_pieces, running_at, running_pieces, still_pieces, stuck_pieces}
use Rattle.vx_group_start.specs.Fresh.{is_fresh}
use Rattle.vx_group_volumes.specs.Copies.{AreTight}
use Rattle.vx_group_volumes.proofs.Firsts.{fresh_tight}
use Rattle.vx_stages.specs.Ends.{IsChange}
use Rattle.vx_stages.specs.Starting.{BeginsIn, is_copied, is_copied_plex, plexes_started, volume_started}
use Rattle.vx_stages.specs.Touching.{IsTouched, Narrows}
use Rattle.vx_house.specs.Holders.{group_holders}
use Rattle.vx_house.specs.Runs.{AllInPlace, AreInPlace, AreRuns, IsAtRun, IsInPlace, IsRunOf}
use Rattle.vx_house.specs.Scene.{FaultsGoOn, Shelved}
use Rattle.vx_house.specs.View.{IsGroupKept, IsMoment, Keeps, at, member_of, scene}
use Rattle.vx_house.specs.declared.house.House.{House}
use Rattle.vx_house.specs.declared.house.Imported.{Imported}
use Rattle.vx_house.proofs.AllLaws.{all_front}
use Rattle.vx_house.proofs.Ends.{keeps_but_group, moment_but_group}
use Rattle.vx_house.proofs.Laid.{holders_laid, parted_laid}
use Rattle.vx_house.proofs.Moments.{faults_trans, later_trans}
use Rattle.vx_house_calls.specs.Passes.{with_group}
use Rattle.vx_house_calls.proofs.Moments.{grouped_lies, lone_lies}
use Rattle.vx_stage_changes.specs.Committing.{IsFinished}
use Rattle.vx_stage_changes.proofs.Alone.{low_by, went_by}
use Rattle.vx_stage_changes.proofs.Holders.{same_members}
use Rattle.vx_stage_changes.proofs.Runners.{disks_on, seen_members}
use Rattle.vx_stage_changes.proofs.CommitSlots.{mask_was}
use Rattle.vx_stage_changes.specs.Changing.{IsMeant}
use Rattle.vx_stage_changes.specs.declared.planning.NextConfig.{NextConfig}
use Rattle.vx_stage_volumes.specs.Opening.{OpensIn}
use Rattle.vx_stage_volumes.specs.Recording.{IsRecordedIn}
use Rattle.vx_stage_volumes.proofs.Commit.{IsCommittedAt, KeepsRunning, committed_at, done_keeps, written_faults}
use Rattle.vx_stage_volumes.proofs.Held.{held, hold_still, public_there}
use Rattle.vx_stage_volumes.proofs.HeldOpen.{at1, faults1, g1, h1, k, kept1, keeps1, mid_at, mid_keeps, narrows1, slots1}
use Rattle.vx_stage_volumes.proofs.HeldStart.{IsHeldPublic, IsTouchedAt, world_of}
use Rattle.vx_stage_volumes.proofs.Inserted.{IsInserted, all_between, flat_between, flat_last, inserted}
use Rattle.vx_stage_volumes.proofs.Narrowed.{HaveNarrowing}
use Rattle.vx_stage_volumes.proofs.Otherwise.{IsHeldOtherwise, otherwise_keeps, otherwise_moment, otherwise_scene, sized_by}
use Rattle.vx_stage_volumes.proofs.Prepared.{IsOpenable, changes_states, meant, named, of_v, others_stay, same_disks, v_name}
use Rattle.vx_stage_volumes.proofs.Slots.{IsAtSlot, at_slot_on, is_numbered}
use Rattle.vx_stage_volumes.proofs.StillSectors.{sectors_are}
use Rattle.vx_stage_volumes.proofs.StartRun.{BeginsAs, HaveLifeLaws, Runs as RunsBy, begins, in_place, run_of, w_lies}
use Rattle.vx_stage_volumes.proofs.TouchedBy.{put_back}

-- What laws promise of a volume that is opened and begins to run.
pub record HaveBegunLaws {P : Type 0} (see : P → Seen) : Type 0 where
  pub lives : HaveLifeLaws
  pub ends : (p : P) → EndsThere (see p)
  pub counts : (p : P) → AreCounts (see p)

empty_of : (s : VolState) → is_new s ≡ true → s ≡ vol.Empty
empty_of vol.Empty is = refl
empty_of vol.Clean is = cc
empty_of vol.Active is = cc
empty_of vol.NeedSync is = cc
empty_of vol.Sync is = cc

-- ---- a place for it

pub length_end : {X : Type 0} (xs : List X) (x : X) → length (xs ++ x ∷ []) ≡ suc (length xs)
length_end [] x = refl
length_end (y ∷ xs) x = ap suc (length_end xs x)

-- The moment in which the volume runs, those before it, and the volume of the world that it runs as: sectors of it alone have changed as it was opened,
-- and then these edits are committed.
pub record IsBegunAt {P : Type 0} {ghosts : Ghosts P} (see : P → Seen) (shelf : Shelved) (h : House P ghosts) (edits : List Edit) (before now : Group) (v : Vol) (m : Moment) : Type 0 where
  pub then : Moment
  pub is : IsMoment see (at shelf h) then
  pub later : AreLater m.counts then.counts
  pub free : m.world.volumes v.name ≡ None
  pub opened : Moment
  pub touched : IsTouched before v.name m opened
  pub narrows : HaveNarrowing see → Narrows before v m opened
  pub first : AreLater m.counts opened.counts
  pub writing : Writing
  pub change : IsChange edits opened.world writing
  pub recorded : Moment
  pub committed : IsCommitted writing opened recorded
  pub rest : AreLater opened.counts recorded.counts
  pub begins : BeginsIn before v (image_on m.world.devices before v) recorded then
  pub volume : Volume
  pub there : then.world.volumes v.name ≡ Some volume
  pub lies : volume.lies ≡ OnPlexes (plexes_started before v)
  pub group : then.world.group ≡ Some now

module _ {P : Type 0} {ghosts : Ghosts P} (alike : (p q : P) → is_some (ghosts.seen p).told ≡ is_some (ghosts.seen q).told) (laws : HaveBegunLaws ghosts.seen) (shelf : Shelved) (h : House P ghosts)
    (keeps : Keeps ghosts.seen (at shelf h)) {edits : List Edit} {name : Word} {v : Vol} {next : NextConfig} {g mid : Imported P ghosts} (has : h.group ≡ Some g) (openable : IsOpenable ghosts.seen edits name v next g mid)
    {opened : Imported P ghosts} {running : Running P ghosts} (opens : OpensIn ghosts.seen v mid opened running) {recorded : Imported P ghosts} (records : IsRecordedIn ghosts.seen name running next opened recorded) where
  abbrev pub see : P → Seen
  see = ghosts.seen

  abbrev pub hk : House P ghosts
  hk = k alike shelf h keeps has openable.parts

  abbrev gm : Group
  gm = world_of see mid

  keeps_mid : Keeps see (at shelf hk)
  keeps_mid = mid_keeps alike shelf h keeps has openable.parts

  v_named : v.name ≡ name
  v_named = v_name openable

  -- ---- held among those that could not be put back

  -- it would have had a place there
  pub stuck_room : suc opened.public.stuck.len ≤ opened.public.stuck.cap
  stuck_room = let room = subst (λ s. s.len < s.cap) (sym opens.same.stuck) openable.ready.room in omega (arith, room)

  abbrev pub p1 : Public P ghosts
  p1 = record opened.public {
    stuck = record opened.public.stuck {
      len = suc opened.public.stuck.len;
      items = opened.public.stuck.items ++ running ∷ [];
      ok = (ap suc opened.public.stuck.ok.0 ∙ sym (length_end opened.public.stuck.items running), stuck_room);
    };
  }

  pub held1 : IsHeldPublic mid.public opened.public running p1
  held1 = record { pool = refl; left = refl; entries = ap (λ r. r.entries) opens.same.running; stuck = ap (λ s. s.items ++ running ∷ []) opens.same.stuck }

  abbrev pub g_held : Imported P ghosts
  g_held = g1 alike shelf h keeps has openable.parts opens held1

  abbrev pub h_held : House P ghosts
  h_held = h1 alike shelf h keeps has openable.parts opens held1

  keeps_held : Keeps see (at shelf h_held)
  keeps_held = keeps1 alike shelf h keeps has openable.parts opens held1

  kept_held : IsGroupKept see g_held
  kept_held = kept1 alike shelf h keeps has openable.parts opens held1

  abbrev touched_at : (m : Moment) → IsMoment see (at shelf h) m → IsTouchedAt see shelf h_held gm v.name m
  touched_at m is = at1 alike shelf h keeps has openable.parts opens held1 m is

  -- ---- the commit

  is_meant : IsMeant edits mid.config next.config next.text.items
  is_meant = meant openable

  of_mid : IsVolOf mid.config v
  of_mid = of_v openable

  -- nothing of the name runs
  absent : running_at opened.public name ≡ None
  absent = ap (λ r. get (slice_cmp nat_cmp) r name) (opens.same.running ∙ openable.parts.running) ∙ openable.absent

  stays_running : KeepsRunning g_held next.config
  stays_running = record {
    group = named openable;
    disks = same_disks openable;
    stays = λ u of_u runs good good' fewer. others_stay openable u of_u (λ same. none (running_at p1 u.name) (ap (running_at opened.public) (same ∙ v_named) ∙ absent) runs) good good' fewer;
  }
    where
      none : (o : Option (Running P ghosts)) → o ≡ None → IsSome o → ⊥
      none o e some = cc

  -- the group whose commit is done
  abbrev pub g2 : Imported P ghosts
  g2 = record { config = next.config; base = recorded.base; public = p1 }

  abbrev pub h2 : House P ghosts
  h2 = with_group h_held g2

  finished : IsFinished see next.text.items mid.base recorded.base
  finished = subst (λ b. IsFinished see next.text.items b recorded.base) (ap (λ (x : Imported P ghosts). x.base) opens.same.group) records.finished

  keeps2 : Keeps see (at shelf h2)
  keeps2 = done_keeps see shelf h_held g_held g2 refl keeps_held kept_held next.text.items refl finished edits is_meant stays_running

  kept2 : IsGroupKept see g2
  kept2 = keeps2.house.group

  faults2 : FaultsGoOn (scene see (at shelf h)) (scene see (at shelf h2))
  faults2 = faults_trans (scene see (at shelf h)) (scene see (at shelf h_held)) (scene see (at shelf h2))
      (faults1 alike shelf h keeps has openable.parts opens held1)
      (written_faults see shelf h_held g_held g2 refl keeps_held kept_held next.text.items refl finished.tried)

  abbrev done_at : (m : Moment) (is : IsMoment see (at shelf h) m) → IsCommittedAt see shelf h2 edits next.config (touched_at m is).then
  done_at m is = committed_at see shelf h_held g_held g2 refl keeps_held kept_held next.text.items refl finished edits is_meant stays_running (touched_at m is).then (touched_at m is).is

  -- ---- the disks afterwards

  abbrev hs : List DiskSeen
  hs = members see mid.base

  abbrev ns : List DiskSeen
  ns = members see recorded.base

  goes : Each (CommitGoes (mid.base.sequence + 1) recorded.base.sequence next.text.items) hs ns
  goes = finished.tried.committed.goes

  same_named : map member_of recorded.base.disks.items ≡ map member_of mid.base.disks.items
  same_named = sym (seen_members see recorded.base.disks.items) ∙ same_members (mid.base.sequence + 1) recorded.base.sequence next.text.items hs ns goes ∙ seen_members see mid.base.disks.items

  fewer : (slot : ℕ) → has_slot (good_mask ns) slot ≡ true → has_slot (good_mask hs) slot ≡ true
  fewer slot e = mask_was hs ns (went_by (mid.base.sequence + 1) recorded.base.sequence next.text.items hs ns goes) (low_by hs kept_held.carries.alive.ready) slot e

  slot_before : (slot : ℕ) → has_slot (good_mask hs) slot ≡ true → IsAtSlot opens.numbers hs gm.members slot
  slot_before slot good = slots1 alike shelf h keeps has openable.parts opens held1 slot good

  slot_after : (slot : ℕ) → has_slot (good_mask hs) slot ≡ true → IsAtSlot opens.numbers ns (map member_of recorded.base.disks.items) slot
  slot_after slot good = at_slot_on opens.numbers hs ns gm.members (map member_of recorded.base.disks.items) (disks_on (mid.base.sequence + 1) recorded.base.sequence next.text.items hs ns goes) same_named slot (slot_before slot good)

  -- ---- it runs by the new configuration

  abbrev v_started : Vol
  v_started = record v { state = vol.Active }

  both : IsVolOf next.config v_started × ChangesStates mid.config (good_mask hs) v (is_fresh v.state) next.config (good_mask hs) v_started
  both = changes_states openable next.config is_meant.edited (good_mask hs)

  changes : ChangesStates mid.config (good_mask hs) v (is_fresh v.state) next.config (good_mask ns) v_started
  changes = record { vol = both.1.vol; disks = both.1.disks; subdisks = both.1.subdisks; snaps = both.1.snaps; plexes = both.1.plexes; failed = fewer }

  new_in_place : IsInPlace see ns next.config (good_mask ns) name running
  new_in_place = in_place laws.lives gm v of_mid openable.may opens.numbers mid.public opened.public running opens.form opens.started opens.numbered opens.are.own next.config (good_mask ns) ns (map member_of recorded.base.disks.items) both.0 changes slot_after name v_named

  -- a plex that is copied to, by its name in the new configuration
  pub to_copy : (q : Plex) → IsIn next.config.plexes q → is_copied gm v q.name ≡ true → (p : Plex) × IsIn mid.config.plexes p × (is_copied_plex gm v p ≡ true) × (map_or_zero q.map ≡ map_or_zero p.map)
  to_copy q there is =
      let p = any_in (λ (x : Plex). bytes_eq x.name q.name && is_copied_plex gm v x) mid.config.plexes is in
      let two = and_parts (bytes_eq p.0.name q.name) (is_copied_plex gm v p.0) p.2 in
      let now = zip_left (IsRestated v.name (is_fresh v.state)) mid.config.plexes next.config.plexes both.1.plexes p.0 p.1 in
      let name_is : now.0.name ≡ q.name = ap (λ (x : Plex). x.name) now.2.same ∙ bytes_eq_same p.0.name q.name two.0 in
      let one : now.0 ≡ q = one_plex next.config now.0 q now.1 there name_is in
      (p.0, p.1, two.1, ap (λ (x : Plex). map_or_zero x.map) (sym one) ∙ ap (λ (x : Plex). map_or_zero x.map) now.2.same)

  -- ---- among the running ones

  abbrev pub p3 : Public P ghosts
  p3 = record opened.public { running = recorded.public.running }

  put_in : IsInserted opened.public.running.entries recorded.public.running.entries name running
  put_in = subst (λ es. IsInserted opened.public.running.entries es name running) (sym records.entries) (inserted opened.public.running.entries name running absent)

  abbrev A : List Seen
  A = flat_map (running_pieces see) put_in.before

  abbrev B : List Seen
  B = flat_map (running_pieces see) put_in.behind

  abbrev H : List Seen
  H = held_pieces see running.volume

  abbrev S : List Seen
  S = flat_map (stuck_pieces see) opened.public.stuck.items

  lent1 : lent_pieces see p1 ≡ (A ++ B) ++ (S ++ H)
  lent1 = ap (λ ps. ps ++ flat_map (stuck_pieces see) p1.stuck.items) (ap (flat_map (running_pieces see)) put_in.was ∙ flat_map-append (running_pieces see) put_in.before put_in.behind)
      ∙ ap (λ ps. (A ++ B) ++ ps) (flat_last (stuck_pieces see) opened.public.stuck.items running)

  lent3 : lent_pieces see p3 ≡ (A ++ (H ++ B)) ++ S
  lent3 = ap (λ ps. ps ++ S) (ap (flat_map (running_pieces see)) put_in.is ∙ flat_between (running_pieces see) put_in.before (name, running) put_in.behind)

  regrouped : (a b s c : List Seen) → (a ++ (b ++ s)) ++ c ≡ (a ++ b) ++ (s ++ c)
  regrouped a b s c = simp append_assoc

  lent_same : SameSectors ((A ++ B) ++ (S ++ H)) ((A ++ (H ++ B)) ++ S)
  lent_same = subst (λ ps. SameSectors ps ((A ++ (H ++ B)) ++ S)) (regrouped A B S H) (put_back A H B S)

  together : SameSectors (still_pieces see p1 ++ lent_pieces see p1) (still_pieces see p3 ++ lent_pieces see p3)
  together = subst (λ ps. SameSectors (still_pieces see p1 ++ ps) (still_pieces see p3 ++ lent_pieces see p3)) (sym lent1)
      (subst (λ ps. SameSectors (still_pieces see p1 ++ ((A ++ B) ++ (S ++ H))) (still_pieces see p1 ++ ps)) (sym lent3) (same_after (still_pieces see p1) ((A ++ B) ++ (S ++ H)) ((A ++ (H ++ B)) ++ S) lent_same))

  abbrev pub g3 : Imported P ghosts
  g3 = record g2 { public = p3 }

  abbrev pub h3 : House P ghosts
  h3 = with_group h2 g3

  same_devices : group_holders see (Some g3) ≡ group_holders see (Some g2)
  same_devices = holders_laid see alike g2 g3 refl kept2.whole.parted together

  held3 : IsHeldOtherwise see g2 g3
  held3 = record { config = refl; base = refl; holders = same_devices }

  placed3 : AreInPlace see g3
  placed3 = subst (AllInPlace see ns next.config (good_mask ns)) (sym put_in.is)
      (all_between (λ (e : Word × Running P ghosts). IsInPlace see ns next.config (good_mask ns) e.0 e.1) put_in.before (name, running) put_in.behind (subst (AllInPlace see ns next.config (good_mask ns)) put_in.was kept2.placed) new_in_place)

  pub kept3 : IsGroupKept see g3
  kept3 = record {
    named = kept2.named;
    text = kept2.text;
    first = kept2.first;
    carries = kept2.carries;
    sized = sized_by (rests_of (still_pieces see p1 ++ lent_pieces see p1) []) (rests_of (still_pieces see p3 ++ lent_pieces see p3) []) ns same_devices kept2.sized;
    slots = kept2.slots;
    recorded = kept2.recorded;
    whole = record {
      parted = parted_laid see alike g2 g3 refl kept2.whole.parted together;
      volumes = subst (λ es. AllOf Whole es) (sym put_in.is) (all_between Whole put_in.before (name, running) put_in.behind (subst (λ es. AllOf Whole es) put_in.was kept2.whole.volumes) opens.started.whole);
      stuck = all_front (λ (r : Running P ghosts). IsVolume (volume_seen see r.volume)) opened.public.stuck.items (running ∷ []) kept2.whole.stuck;
    };
    placed = placed3;
  }
    where
      Whole : Word × Running P ghosts → Type 0
      Whole e = IsVolume (volume_seen see e.1.volume)

  pub keeps3 : Keeps see (at shelf h3)
  keeps3 = otherwise_keeps see shelf h2 g2 g3 refl held3 keeps2 kept3

  pub faults3 : FaultsGoOn (scene see (at shelf h)) (scene see (at shelf h3))
  faults3 = subst (λ s. FaultsGoOn (scene see (at shelf h)) s) (sym (otherwise_scene see shelf h2 g2 g3 refl held3)) faults2

  -- ---- the moment in which it runs

  module _ (m : Moment) (at_m : IsMoment see (at shelf h) m) (none : m.world.volumes name ≡ None) where
    abbrev t : IsTouchedAt see shelf (h_held) gm v.name m
    t = touched_at m at_m

    abbrev d : IsCommittedAt see shelf (h2) edits next.config t.then
    d = done_at m at_m

    at_k : IsMoment see (at shelf hk) m
    at_k = mid_at alike shelf h keeps has openable.parts m at_m

    -- ---- its bytes, as they were

    abbrev contents : ℕ → Contents
    contents = held see laws.ends laws.counts (at shelf hk) (keeps_but_group see (at shelf hk) keeps_mid) m (moment_but_group see (at shelf hk) m at_k) mid refl

    still : All (Holds contents) (still_pieces see mid.public)
    still = hold_still see laws.ends laws.counts (at shelf hk) (keeps_but_group see (at shelf hk) keeps_mid) m (moment_but_group see (at shelf hk) m at_k) mid refl

    abbrev bytes : Sectors
    bytes = sectors_of m.world.devices gm.members

    sectors : AreSectorsOf (good_mask hs) opens.numbers contents bytes
    sectors =
        sectors_are m.world.devices hs gm.members (good_mask hs) opens.numbers contents
        (public_there see laws.ends laws.counts (at shelf hk) (keeps_but_group see (at shelf hk) keeps_mid) m (moment_but_group see (at shelf hk) m at_k) mid refl)
        (λ slot good. is_numbered opens.numbers hs gm.members slot (slot_before slot good))

    begun : BeginsAs gm v (image_on m.world.devices gm v) (RunsBy laws.lives gm v of_mid openable.may opens.numbers mid.public opened.public running opens.form opens.started bytes)
    begun = begins laws.lives gm v of_mid openable.may opens.numbers mid.public opened.public running opens.form opens.started bytes contents still sectors

    -- of a volume that was never started no mark is loose
    pub none_loose : is_new v.state ≡ true → AreTight (volume_seen see running.volume)
    none_loose never =
        let empty = empty_of v.state never in
        fresh_tight mid.config (good_mask hs) v opens.numbers mid.public opened.public running of_mid empty (subst (λ s. IsFormOf mid.config (good_mask hs) v (is_fresh s) running.form) empty opens.form) opens.started contents still bytes sectors

    -- ---- the volume that begins

    abbrev w : Volume
    w = volume_started gm v (image_on m.world.devices gm v) begun.sound

    lies_w : w.lies ≡ OnPlexes (plexes_started gm v)
    lies_w = w_lies laws.lives gm v of_mid openable.may opens.numbers mid.public opened.public running opens.form opens.started opens.numbered opens.are.own next.config (good_mask ns) ns (map member_of recorded.base.disks.items)
        (both).0
        (changes)
        (slot_after) recorded.base.sequence bytes begun

    abbrev gn : Group
    gn = record { config = next.config; good = good_mask ns; members = map member_of recorded.base.disks.items; sequence = recorded.base.sequence }

    run_w : (x : Word) → v.name ≡ x → IsRunOf see ns gn x running w
    run_w = run_of laws.lives gm v of_mid openable.may opens.numbers mid.public opened.public running opens.form opens.started opens.numbered opens.are.own next.config (good_mask ns) ns (map member_of recorded.base.disks.items)
        (both).0
        (changes)
        (slot_after) recorded.base.sequence bytes begun

    -- ---- the moment

    same_volumes : d.then.world.volumes ≡ m.world.volumes
    same_volumes = d.committed.committing.volumes ∙ ap (λ (x : World). x.volumes) t.touched.world

    none_v : m.world.volumes v.name ≡ None
    none_v = ap m.world.volumes v_named ∙ none

    none_then : d.then.world.volumes v.name ≡ None
    none_then = ap (λ (f : Word → Option Volume). f v.name) same_volumes ∙ none_v

    abbrev volumes_now : Word → Option Volume
    volumes_now = put v.name (Some w) d.then.world.volumes

    group_then : d.then.world.group ≡ Some gn
    group_then = d.is.group_is

    alone : (x : Word) → lone (volumes_now x) ≡ lone (d.then.world.volumes x)
    alone x = by (bytes_eq v.name x) refl
      where
        by : (b : Bool) → bytes_eq v.name x ≡ b → lone (cond b (Some w) (d.then.world.volumes x)) ≡ lone (d.then.world.volumes x)
        by false e = refl
        by true e = lone_lies w (plexes_started gm v) lies_w ∙ ap lone (sym none_then) ∙ ap (λ n. lone (d.then.world.volumes n)) (bytes_eq_same v.name x e)

    puts_v : (x : Word) → running_at recorded.public x ≡ cond (bytes_eq v.name x) (Some running) (running_at opened.public x)
    puts_v x = records.puts x ∙ ap (λ n. cond (bytes_eq n x) (Some running) (running_at opened.public x)) (sym v_named)

    runs_now : AreRuns see (Some (g3)) d.then.world.group volumes_now
    runs_now x = subst (λ o. IsAtRun see ns d.then.world.group x o (grouped (volumes_now x))) (sym (puts_v x)) (by (bytes_eq v.name x) refl)
      where
        by : (b : Bool) → bytes_eq v.name x ≡ b → IsAtRun see ns d.then.world.group x (cond b (Some running) (running_at opened.public x)) (grouped (cond b (Some w) (d.then.world.volumes x)))
        by false e = d.is.runs_are x
        by true e =
            subst (λ o. IsAtRun see ns o x (Some running) (grouped (Some w))) (sym group_then)
            (subst (IsAtRun see ns (Some gn) x (Some running)) (sym (grouped_lies w (plexes_started gm v) lies_w)) (run_w x (bytes_eq_same v.name x e)))

    abbrev now : Moment
    now = record { world = record d.then.world { volumes = volumes_now }; counts = d.then.counts }

    pub begun_at : IsBegunAt see shelf h3 edits gm gn v m
    begun_at = record {
      then = now;
      is = otherwise_moment see shelf h2 g2 g3 refl held3 d.then d.is volumes_now alone runs_now;
      later = later_trans m.counts t.then.counts d.then.counts t.later d.later;
      free = none_v;
      opened = t.then;
      touched = t.touched;
      narrows = λ near. narrows1 alike shelf h keeps has openable.parts opens held1 near m at_m;
      first = t.later;
      writing = d.writing;
      change = d.change;
      recorded = d.then;
      committed = d.committed;
      rest = d.later;
      begins = record { sound = begun.sound; if_sound = begun.if_sound; if_new = begun.if_new; world = refl; counts = refl };
      volume = w;
      there = ap (λ b. cond b (Some w) (d.then.world.volumes v.name)) (bytes_eq_self v.name);
      lies = lies_w;
      group = group_then;
    }
