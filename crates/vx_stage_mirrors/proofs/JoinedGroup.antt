-- A group that a plex has joined is kept.
use Rattle.std.proofs.Common.{◌≡◌, ◌≢◌, ◌∙◌, ℕ, ◌+◌, true, List, [], ◌∷◌, ◌++◌, map, Some, refl, sym, ap, subst, inl}
use Rattle.std.specs.Prelude.{IfSome, is_some}
use Rattle.vx_base.specs.Named.{Word}
use Rattle.vx_mask.specs.Mask.{has as has_slot}
use Rattle.vx_piece.specs.Seen.{Seen}
use Rattle.vx_pages.specs.declared.local_piece.LocalPiece.{Ghosts}
use Rattle.vx_layout.specs.declared.layout.Layout.{Layout}
use Rattle.vx_config_parts.specs.declared.object.Object.{Object}
use Rattle.vx_config_parts.specs.declared.vol.Vol.{Vol}
use Rattle.vx_objects.specs.declared.edit.Edit.TheVariants.{Make}
use Rattle.vx_copies.specs.Disks.{CommitGoes, DiskSeen, good_mask}
use Rattle.vx_copies.specs.Lists.{Each}
use Rattle.vx_confdb.specs.Groups.{CarriesText, members}
use Rattle.vx_fronts.specs.Rests.{rests_of}
use Rattle.vx_fronts.proofs.Parted.{private_parted}
use Rattle.vx_moments.specs.Copies.{IsTextOf}
use Rattle.vx_volume.specs.Opening.{regions_seen}
use Rattle.vx_lending.specs.RegionsTaken.{AreTakenRegions}
use Rattle.vx_lending.specs.Public.{lent_pieces, running_at, still_pieces}
use Rattle.vx_lending.specs.declared.public.Remains.{Remains}
use Rattle.vx_lending.specs.declared.public.Running.{Running}
use Rattle.vx_group_edits.proofs.OfVolume.{plex_keeps_others}
use Rattle.vx_added_records.proofs.SameDisks.{group_kept}
use Rattle.vx_group_edits.specs.Joins.{Joins}
use Rattle.vx_group_edits.proofs.Joined.{plex_joins}
use Rattle.vx_joined_volumes.specs.Joined.{HasJoined, plex_of_run}
use Rattle.vx_house.specs.Holders.{AreHeld, group_holders, hand_holder, holders, volume_holder}
use Rattle.vx_house.specs.Runs.{AllInPlace, IsInPlace}
use Rattle.vx_house.specs.Scene.{FaultsGoOn, Shelved}
use Rattle.vx_house.specs.View.{IsGroupKept, IsGroupWhole, Keeps, at, scene}
use Rattle.vx_house.specs.declared.house.House.{House}
use Rattle.vx_house.specs.declared.house.Imported.{Imported}
use Rattle.vx_house.proofs.Laid.{holders_laid}
use Rattle.vx_house_calls.specs.Passes.{with_group}
use Rattle.vx_stage_changes.proofs.Alone.{IsWrittenIn, alone, low_by, sized_after, went_by}
use Rattle.vx_stage_changes.proofs.CommitJoins.{faults_on, held_on}
use Rattle.vx_stage_changes.proofs.Owns.{AreDisksOf, place_kept}
use Rattle.vx_stage_changes.proofs.Runners.{disks_on}
use Rattle.vx_stage_changes.proofs.CommitSlots.{mask_was}
use Rattle.vx_stage_changes.proofs.Stillness.{recorded_now, slots_now}
use Rattle.vx_stage_changes.specs.declared.planning.NextConfig.{NextConfig}
use Rattle.vx_stage_volumes.proofs.Absent.{one_vol}
use Rattle.vx_stage_volumes.proofs.Entries.{entry_found}
use Rattle.vx_stage_volumes.proofs.Otherwise.{IsHeldOtherwise, otherwise_scene, sized_by}
use Rattle.vx_stage_mirrors.specs.Joins.{AreNumbersOn, IsJoinedBy}
use Rattle.vx_stage_mirrors.specs.Joining.{IsJoinedIn, MayJoin, MayPut, runs_left}
use Rattle.vx_stage_mirrors.specs.Moments.{IsPlannedFor}
use Rattle.vx_stage_mirrors.proofs.JoinedWhole.{commit_goes, last_same, may_put, now_is, now_whole, same_pieces, whole_committed}
use Rattle.vx_stage_mirrors.proofs.Numbers.{numbers_on}
use Rattle.vx_stage_mirrors.proofs.Others.{all_put}
use Rattle.vx_stage_mirrors.proofs.Parked.{same_regions}
use Rattle.vx_stage_mirrors.proofs.Places.{place_joined}

module _ {P : Type 0} {ghosts : Ghosts P} (see : P → Seen) (alike : (p q : P) → is_some (see p).told ≡ is_some (see q).told) (shelf : Shelved) (h : House P ghosts) (g new : Imported P ghosts) (has_group : h.group ≡ Some g) (keeps : Keeps see (at shelf h))
    (name : Word) (m : ℕ) (l : Layout) (next : NextConfig) (room : ℕ) (may : MayJoin see m room g.public.left.items (running_at g.public name)) (plan : IsPlannedFor see g name m l next may.last) (joined : IsJoinedIn see name m l next g new) where
  pub kept : IsGroupKept see g
  kept = subst (λ o. IfSome o (IsGroupKept see)) has_group keeps.house.group

  abbrev pub before : Running P ghosts
  before = joined.runs.before

  abbrev pub after : Running P ghosts
  after = joined.runs.after

  abbrev pub hs : List DiskSeen
  hs = members see g.base

  abbrev pub ns : List DiskSeen
  ns = members see new.base

  abbrev pub good : ℕ
  good = good_mask (members see g.base)

  abbrev pub good' : ℕ
  good' = good_mask (members see new.base)

  abbrev pub runs : List (List Seen)
  runs = runs_left see joined.last

  abbrev pub added : List Object
  added = plan.added

  -- ---- what was parked

  taken : AreTakenRegions plan.numbers (m ∷ []) (l ∷ []) plan.vol.len plan.vol.region (regions_seen see joined.last.regions.items)
  taken = subst (λ (x : Remains P ghosts). AreTakenRegions plan.numbers (m ∷ []) (l ∷ []) plan.vol.len plan.vol.region (regions_seen see x.regions.items)) (last_same see alike g new kept.whole name m l next room may joined) plan.taken

  same_plexes : map (plex_of_run m) runs ≡ regions_seen see joined.last.regions.items
  same_plexes = same_regions m (regions_seen see joined.last.regions.items) (λ r lt. (taken r lt).maps_are)

  pub put_free : MayPut see m runs before
  put_free = may_put see alike g new kept.whole name m l next room may joined

  has_joined : HasJoined see plan.numbers plan.vol m l runs before.volume after.volume
  has_joined = record {
    fits = put_free.plex;
    puts = joined.runs.has.puts;
    taken = subst (AreTakenRegions plan.numbers (m ∷ []) (l ∷ []) plan.vol.len plan.vol.region) (sym same_plexes) taken;
    whole = joined.runs.has.whole;
    shape = joined.runs.has.shape;
    log = joined.runs.has.log;
  }

  pub joined_by : (v : Vol) → plan.vol ≡ v → IsJoinedBy see g.config good v plan.numbers added next.config plan.plex m l runs before after
  joined_by v same = subst (λ (x : Vol). IsJoinedBy see g.config good x plan.numbers added next.config plan.plex m l runs before after) same
      (record { joins = plan.joins; layout = plan.layout; form = joined.runs.has.form; volume = has_joined })

  -- ---- the commit

  -- the group whose commit is done
  abbrev pub g2 : Imported P ghosts
  g2 = record { config = next.config; base = new.base; public = g.public }

  abbrev pub h2 : House P ghosts
  h2 = with_group h g2

  abbrev pub text : List ℕ
  text = next.text.items

  pub wd : IsWrittenIn see shelf h g g2 text
  wd = record {
    has = has_group;
    held = keeps.devices;
    writable = record { slots = kept.slots; ready = kept.carries.alive.ready; private = private_parted (members see g.base) (still_pieces see g.public ++ lent_pieces see g.public) kept.whole.parted };
    tried = joined.finished.tried;
    public = refl;
  }

  goes : Each (CommitGoes (g.base.sequence + 1) new.base.sequence text) hs ns
  goes = commit_goes see alike g new kept.whole name m l next room may joined

  pub still_disks : AreDisksOf hs ns
  still_disks = disks_on (g.base.sequence + 1) new.base.sequence text hs ns goes

  pub fewer : (slot : ℕ) → has_slot good' slot ≡ true → has_slot good slot ≡ true
  fewer slot e = mask_was hs ns (went_by (g.base.sequence + 1) new.base.sequence text hs ns goes) (low_by hs kept.carries.alive.ready) slot e

  pub joins : Joins g.config plan.vol.name added next.config
  joins = plex_joins g.config next.config plan.vol.name added plan.joins.of plan.joins.edited

  pub group_same : next.config.group ≡ g.config.group
  group_same = group_kept (Make added ∷ []) g.config next.config plan.joins.edited

  whole2 : IsGroupWhole see g2
  whole2 = whole_committed see alike g new kept.whole name m l next room may joined

  -- ---- the pieces

  abbrev pub g3 : Imported P ghosts
  g3 = record { config = next.config; base = new.base; public = new.public }

  abbrev pub h3 : House P ghosts
  h3 = with_group h g3

  same_devices : group_holders see (Some g3) ≡ group_holders see (Some g2)
  same_devices = holders_laid see alike g2 g3 refl whole2.parted (same_pieces see alike g new kept.whole name m l next room may joined)

  pub held3 : IsHeldOtherwise see g2 g3
  held3 = record { config = refl; base = refl; holders = same_devices }

  -- ---- its volumes

  pub numbers_here : AreNumbersOn plan.numbers (members see g.base) (good_mask (members see g.base))
  numbers_here = numbers_on see g.base.disks.items (low_by hs kept.carries.alive.ready) _ plan.numbers plan.slots kept.slots

  -- the joined one
  joined_place : IsInPlace see ns next.config good' name after
  joined_place =
      let is = entry_found (λ n r. IsInPlace see (members see g.base) g.config (good_mask (members see g.base)) n r) name g.public.running.entries before kept.placed joined.runs.was in
      let same : plan.vol ≡ is.of = one_vol g.config plan.vol is.of plan.of is.placed.runs.recorded (plan.named ∙ sym is.named) in
      place_joined see before after hs ns still_disks g.config good name is plan.numbers numbers_here added next.config plan.plex m l runs (joined_by is.of same) good' fewer

  -- each other one
  other_place : (key : Word) (r : Running P ghosts) → key ≢ name → IsInPlace see hs g.config good key r → IsInPlace see ns next.config good' key r
  other_place key r other is =
      place_kept see hs ns still_disks g.config good key r is next.config good'
      (plex_keeps_others g.config next.config plan.vol.name added plan.joins.of plan.joins.edited is.of is.placed.runs.recorded (λ same. other (sym is.named ∙ same ∙ plan.named)) good good' (λ slot e. inl (fewer slot e)))

  placed3 : AllInPlace see ns next.config good' new.public.running.entries
  placed3 = subst (AllInPlace see ns next.config good') (sym joined.runs.entries)
      (all_put (λ n r. IsInPlace see (members see g.base) g.config (good_mask (members see g.base)) n r) (λ n r. IsInPlace see (members see new.base) next.config (good_mask (members see new.base)) n r) name other_place
      g.public.running.entries after joined.runs.ordered kept.placed joined_place)

  -- ---- the group

  kept3 : IsGroupKept see g3
  kept3 = record {
    named = joined.finished.tried.committed.name ∙ kept.named ∙ sym group_same;
    text = subst (IsTextOf next.config) (sym joined.finished.carries.holds) plan.printed.0;
    first = g.base.sequence + 1;
    carries = subst (λ t. CarriesText see (g.base.sequence + 1) t new.base) (sym joined.finished.carries.holds) joined.finished.carries;
    sized = sized_by (rests_of (still_pieces see g.public ++ lent_pieces see g.public) []) (rests_of (still_pieces see new.public ++ lent_pieces see new.public) []) ns same_devices (sized_after wd kept.sized);
    slots = slots_now (g.base.sequence + 1) new.base.sequence text see g.base.disks.items new.base.disks.items goes kept.slots;
    recorded = recorded_now (g.base.sequence + 1) new.base.sequence text see g.config next.config joins.disks g.base.disks.items new.base.disks.items goes kept.recorded;
    whole = now_whole see alike g new kept.whole name m l next room may joined;
    placed = placed3;
  }

  same_holders : holders see h3 ≡ holders see h2
  same_holders = ap (λ os. map (volume_holder see) h.volumes.entries ++ (os ++ map (hand_holder see) h.hand.items)) same_devices

  keeps3 : Keeps see (at shelf h3)
  keeps3 = record {
    devices = subst (AreHeld shelf.held) (sym same_holders) (held_on (alone wd));
    house = record { ordered = keeps.house.ordered; hand = keeps.house.hand; volumes = keeps.house.volumes; group = kept3 };
  }

  -- the group is the one that was left
  pub house_is : with_group h new ≡ h3
  house_is = ap (with_group h) (now_is see alike g new kept.whole name m l next room may joined)

  pub keeps_joined : Keeps see (at shelf (with_group h new))
  keeps_joined = subst (λ x. Keeps see (at shelf x)) (sym house_is) keeps3

  pub scene_joined : scene see (at shelf h3) ≡ scene see (at shelf h2)
  scene_joined = otherwise_scene see shelf h2 g2 g3 refl held3

  pub faults_joined : FaultsGoOn (scene see (at shelf h)) (scene see (at shelf (with_group h new)))
  faults_joined = subst (λ x. FaultsGoOn (scene see (at shelf h)) (scene see (at shelf x))) (sym house_is) (subst (FaultsGoOn (scene see (at shelf h))) (sym scene_joined) (faults_on (alone wd)))
