-- A group of which a running volume has a plex on or off, once its state is recorded, is kept.
use Rattle.std.proofs.Common.{◌≡◌, ◌≢◌, ◌∙◌, ℕ, ◌+◌, Bool, true, List, [], ◌++◌, map, Some, refl, sym, ap, subst, inl}
use Rattle.std.proofs.lemmas.Bool.{and_parts}
use Rattle.vx_base.specs.Named.{Word}
use Rattle.vx_mask.specs.Mask.{has as has_slot}
use Rattle.vx_piece.specs.Seen.{Seen}
use Rattle.vx_pages.specs.declared.local_piece.LocalPiece.{Ghosts}
use Rattle.vx_config_parts.specs.declared.plex.Plex.{Plex}
use Rattle.vx_config_parts.specs.declared.state.PlexState.{PlexState}
use Rattle.vx_config_parts.specs.declared.vol.Vol.{Vol}
use Rattle.vx_config_parts.specs.Objects.{is_data, refers}
use Rattle.vx_image.proofs.Members.{is_in}
use Rattle.vx_copies.specs.Disks.{CommitGoes, DiskSeen, good_mask}
use Rattle.vx_copies.specs.Lists.{Each}
use Rattle.vx_confdb.specs.Groups.{CarriesText, members}
use Rattle.vx_fronts.specs.Rests.{rests_of}
use Rattle.vx_fronts.proofs.Parted.{private_parted}
use Rattle.vx_moments.specs.Copies.{IsTextOf}
use Rattle.vx_lending.specs.Public.{lent_pieces, still_pieces}
use Rattle.vx_lending.specs.declared.public.Running.{Running}
use Rattle.vx_group_edits.specs.OfVolume.{AreEditsOf}
use Rattle.vx_group_edits.proofs.DcoEdits.{own_group, own_name}
use Rattle.vx_group_edits.proofs.OfVolume.{own_edit_keeps_others}
use Rattle.vx_house.specs.Holders.{AreHeld, group_holders, hand_holder, holders, volume_holder}
use Rattle.vx_house.specs.Runs.{AllInPlace, IsInPlace}
use Rattle.vx_house.specs.Scene.{FaultsGoOn, Shelved}
use Rattle.vx_house.specs.View.{IsGroupKept, Keeps, at, scene}
use Rattle.vx_house.specs.declared.house.House.{House}
use Rattle.vx_house.specs.declared.house.Imported.{Imported}
use Rattle.vx_house.proofs.Laid.{holders_laid}
use Rattle.vx_house_calls.specs.Passes.{with_group}
use Rattle.vx_stage_changes.proofs.Alone.{IsWrittenIn, alone, low_by, sized_after, went_by}
use Rattle.vx_stage_changes.proofs.CommitJoins.{faults_on, held_on}
use Rattle.vx_stage_changes.proofs.CommitSlots.{mask_was}
use Rattle.vx_stage_changes.proofs.Owns.{AreDisksOf, place_kept}
use Rattle.vx_stage_changes.proofs.Runners.{disks_on}
use Rattle.vx_stage_changes.proofs.Stillness.{recorded_now, slots_now}
use Rattle.vx_stage_changes.specs.declared.planning.NextConfig.{NextConfig}
use Rattle.vx_stage_volumes.proofs.Absent.{one_vol}
use Rattle.vx_stage_volumes.proofs.Entries.{entry_found}
use Rattle.vx_stage_volumes.proofs.Otherwise.{IsHeldOtherwise, otherwise_scene, sized_by}
use Rattle.vx_stage_volumes.proofs.Owned.{own_by}
use Rattle.vx_stage_mirrors.specs.Joins.{AreNumbersOn}
use Rattle.vx_stage_mirrors.proofs.Numbers.{numbers_on}
use Rattle.vx_stage_mirrors.proofs.Others.{all_put}
use Rattle.vx_stage_mirrors.proofs.SlotNumbers.{HasNumbers, numbers_for}
use Rattle.vx_stage_mirrors.proofs.SwitchPlaces.{IsSwitchedBy, place_switched}
use Rattle.vx_stage_mirrors.proofs.SwitchWhole.{IsSwitch, commit_goes, kept, now_is, now_whole, same_pieces, whole_committed}
use Rattle.vx_stages.specs.Plexes.{state_edits}

module _ {P : Type 0} {ghosts : Ghosts P} {shelf : Shelved} {h : House P ghosts} {g new : Imported P ghosts} {name : Word} {v : Vol} {p : Plex} {state : PlexState} {on : Bool} {next : NextConfig} (it : IsSwitch shelf h g new name v p state on next) where
  abbrev see : P → Seen
  see = ghosts.seen

  abbrev before : Running P ghosts
  before = it.switches.runs.before

  abbrev after : Running P ghosts
  after = it.switches.runs.after

  abbrev hs : List DiskSeen
  hs = members ghosts.seen g.base

  abbrev ns : List DiskSeen
  ns = members ghosts.seen new.base

  abbrev good : ℕ
  good = good_mask (members ghosts.seen g.base)

  abbrev good' : ℕ
  good' = good_mask (members ghosts.seen new.base)

  -- ---- the edit

  -- it is of the volume alone
  pub own : AreEditsOf g.config v.name (state_edits v.name p state)
  own = ((refl, own_name g.config v.name p (is_in g.config.plexes p it.plan.sets.there) (and_parts (refers p.vol v.name) (is_data p.kind) it.plan.sets.data_is).0), tt)

  pub group_same : next.config.group ≡ g.config.group
  group_same = (own_group g.config next.config v.name (state_edits v.name p state) own it.plan.sets.edited).0

  disks_same : next.config.disks ≡ g.config.disks
  disks_same = (own_group g.config next.config v.name (state_edits v.name p state) own it.plan.sets.edited).1

  -- ---- the volume

  place : IsInPlace see hs g.config good name before
  place = entry_found (λ n r. IsInPlace see (members see g.base) g.config (good_mask (members see g.base)) n r) name g.public.running.entries before (kept it).placed it.switches.runs.was

  pub switched_by : (x : Vol) → v ≡ x → IsSwitchedBy ghosts.seen g.config x p state on next.config it.switches.runs.before it.switches.runs.after
  switched_by x same = subst (λ (y : Vol). IsSwitchedBy see g.config y p state on next.config before after) same
      (record { sets = it.plan.sets; available = it.plan.available; ready = it.ready; form = it.switches.runs.form; volume = it.switches.runs.volume })

  -- ---- the commit

  abbrev g2 : Imported P ghosts
  g2 = record { config = next.config; base = new.base; public = g.public }

  abbrev h2 : House P ghosts
  h2 = with_group h (record { config = next.config; base = new.base; public = g.public })

  abbrev text : List ℕ
  text = next.text.items

  pub wd : IsWrittenIn ghosts.seen shelf h g (record { config = next.config; base = new.base; public = g.public }) next.text.items
  wd = record {
    has = it.has_group;
    held = it.keeps.devices;
    writable = record { slots = (kept it).slots; ready = (kept it).carries.alive.ready; private = private_parted (members see g.base) (still_pieces see g.public ++ lent_pieces see g.public) (kept it).whole.parted };
    tried = it.switches.finished.tried;
    public = refl;
  }

  goes : Each (CommitGoes (g.base.sequence + 1) new.base.sequence text) hs ns
  goes = commit_goes it

  pub still_disks : AreDisksOf (members ghosts.seen g.base) (members ghosts.seen new.base)
  still_disks = disks_on (g.base.sequence + 1) new.base.sequence text hs ns goes

  pub fewer : (slot : ℕ) → has_slot (good_mask (members ghosts.seen new.base)) slot ≡ true → has_slot (good_mask (members ghosts.seen g.base)) slot ≡ true
  fewer slot e = mask_was hs ns (went_by (g.base.sequence + 1) new.base.sequence text hs ns goes) (low_by hs (kept it).carries.alive.ready) slot e

  -- ---- the pieces

  abbrev g3 : Imported P ghosts
  g3 = record { config = next.config; base = new.base; public = new.public }

  abbrev h3 : House P ghosts
  h3 = with_group h (record { config = next.config; base = new.base; public = new.public })

  same_devices : group_holders see (Some g3) ≡ group_holders see (Some g2)
  same_devices = holders_laid see it.alike g2 g3 refl (whole_committed it).parted (same_pieces it)

  held3 : IsHeldOtherwise see g2 g3
  held3 = record { config = refl; base = refl; holders = same_devices }

  -- ---- its volumes

  -- all slots have numbers
  pub slots : HasNumbers ghosts.seen g.base.disks.items 32
  slots = numbers_for see g.base.disks.items (own_by see g (kept it)) 32

  numbers_here : AreNumbersOn slots.numbers (members see g.base) (good_mask (members see g.base))
  numbers_here = numbers_on see g.base.disks.items (low_by hs (kept it).carries.alive.ready) slots.top slots.numbers slots.are (kept it).slots

  -- the one that has the plex on or off
  own_place : IsInPlace see ns next.config good' name after
  own_place =
      let same : v ≡ place.of = one_vol g.config v place.of it.plan.of place.placed.runs.recorded (it.plan.named ∙ sym place.named) in
      place_switched see before after hs ns still_disks g.config good name place slots.numbers numbers_here next.config p state on (switched_by place.of same) good' fewer

  -- each other one
  other_place : (key : Word) (r : Running P ghosts) → key ≢ name → IsInPlace see hs g.config good key r → IsInPlace see ns next.config good' key r
  other_place key r other is =
      place_kept see hs ns still_disks g.config good key r is next.config good'
      (own_edit_keeps_others g.config next.config v.name (state_edits v.name p state) own it.plan.sets.edited is.of is.placed.runs.recorded (λ same. other (sym is.named ∙ same ∙ it.plan.named)) good good' (λ slot e. inl (fewer slot e)))

  placed3 : AllInPlace see ns next.config good' new.public.running.entries
  placed3 = subst (AllInPlace see ns next.config good') (sym it.switches.runs.entries)
      (all_put (λ n r. IsInPlace see (members see g.base) g.config (good_mask (members see g.base)) n r) (λ n r. IsInPlace see (members see new.base) next.config (good_mask (members see new.base)) n r) name other_place
      g.public.running.entries after it.switches.runs.ordered (kept it).placed own_place)

  -- ---- the group

  kept3 : IsGroupKept see g3
  kept3 = record {
    named = it.switches.finished.tried.committed.name ∙ (kept it).named ∙ sym group_same;
    text = subst (IsTextOf next.config) (sym it.switches.finished.carries.holds) it.plan.printed.0;
    first = g.base.sequence + 1;
    carries = subst (λ t. CarriesText see (g.base.sequence + 1) t new.base) (sym it.switches.finished.carries.holds) it.switches.finished.carries;
    sized = sized_by (rests_of (still_pieces see g.public ++ lent_pieces see g.public) []) (rests_of (still_pieces see new.public ++ lent_pieces see new.public) []) ns same_devices (sized_after wd (kept it).sized);
    slots = slots_now (g.base.sequence + 1) new.base.sequence text see g.base.disks.items new.base.disks.items goes (kept it).slots;
    recorded = recorded_now (g.base.sequence + 1) new.base.sequence text see g.config next.config disks_same g.base.disks.items new.base.disks.items goes (kept it).recorded;
    whole = now_whole it;
    placed = placed3;
  }

  same_holders : holders see h3 ≡ holders see h2
  same_holders = ap (λ os. map (volume_holder see) h.volumes.entries ++ (os ++ map (hand_holder see) h.hand.items)) same_devices

  keeps3 : Keeps see (at shelf h3)
  keeps3 = record {
    devices = subst (AreHeld shelf.held) (sym same_holders) (held_on (alone wd));
    house = record { ordered = it.keeps.house.ordered; hand = it.keeps.house.hand; volumes = it.keeps.house.volumes; group = kept3 };
  }

  -- the group is the one that was left
  pub house_is : with_group h new ≡ with_group h (record { config = next.config; base = new.base; public = new.public })
  house_is = ap (with_group h) (now_is it)

  pub keeps_switched : Keeps ghosts.seen (at shelf (with_group h new))
  keeps_switched = subst (λ x. Keeps see (at shelf x)) (sym house_is) keeps3

  pub scene_switched : scene ghosts.seen (at shelf (with_group h (record { config = next.config; base = new.base; public = new.public }))) ≡ scene ghosts.seen (at shelf (with_group h (record { config = next.config; base = new.base; public = g.public })))
  scene_switched = otherwise_scene see shelf h2 g2 g3 refl held3

  pub faults_switched : FaultsGoOn (scene ghosts.seen (at shelf h)) (scene ghosts.seen (at shelf (with_group h new)))
  faults_switched = subst (λ x. FaultsGoOn (scene see (at shelf h)) (scene see (at shelf x))) (sym house_is) (subst (FaultsGoOn (scene see (at shelf h))) (sym scene_switched) (faults_on (alone wd)))
