-- A group of which a running volume has lost a log plex, once that is recorded, is kept.
use Rattle.std.proofs.Common.{◌≡◌, ◌≢◌, ◌∙◌, ℕ, ◌+◌, Bool, true, List, [], ◌∷◌, ◌++◌, map, Some, refl, sym, ap, subst, inl}
use Rattle.vx_base.specs.Named.{Word}
use Rattle.vx_mask.specs.Mask.{has as has_slot}
use Rattle.vx_piece.specs.Seen.{Seen}
use Rattle.vx_pages.specs.declared.local_piece.LocalPiece.{Ghosts}
use Rattle.vx_config_parts.specs.declared.plex.Plex.{Plex}
use Rattle.vx_config_parts.specs.declared.vol.Vol.{Vol}
use Rattle.vx_objects.specs.declared.edit.Edit.{Edit}
use Rattle.vx_copies.specs.Disks.{CommitGoes, DiskSeen, good_mask}
use Rattle.vx_copies.specs.Lists.{Each}
use Rattle.vx_confdb.specs.Groups.{CarriesText, members}
use Rattle.vx_fronts.specs.Rests.{rests_of}
use Rattle.vx_fronts.proofs.Parted.{private_parted}
use Rattle.vx_moments.specs.Copies.{IsTextOf}
use Rattle.vx_lending.specs.Public.{lent_pieces, still_pieces}
use Rattle.vx_lending.specs.declared.public.Running.{Running}
use Rattle.vx_group_edits.specs.OfVolume.{AreEditsOf}
use Rattle.vx_group_edits.proofs.DcoEdits.{own_group}
use Rattle.vx_group_edits.proofs.OfVolume.{own_edit_keeps_others}
use Rattle.vx_joined_volumes.specs.Parted.{leaving_edit}
use Rattle.vx_yielded_volumes.proofs.Edits.{each_log_leaving_own}
use Rattle.vx_house.specs.Holders.{AreHeld, group_holders, hand_holder, holders, volume_holder}
use Rattle.vx_house.specs.Runs.{AllInPlace, IsInPlace}
use Rattle.vx_house.specs.Scene.{FaultsGoOn, Shelved}
use Rattle.vx_house.specs.View.{IsGroupKept, Keeps, at, scene}
use Rattle.vx_house.specs.declared.house.House.{House}
use Rattle.vx_house.specs.declared.house.Imported.{Imported}
use Rattle.vx_house.proofs.Laid.{holders_laid}
use Rattle.vx_house_calls.specs.Passes.{with_group}
use Rattle.vx_stage_changes.proofs.Alone.{IsWrittenIn, alone, low_by, sized_after, went_by}
use Rattle.vx_stage_changes.proofs.CommitJoins.{faults_on, held_on}
use Rattle.vx_stage_changes.proofs.CommitSlots.{mask_was}
use Rattle.vx_stage_changes.proofs.Owns.{AreDisksOf, place_kept}
use Rattle.vx_stage_changes.proofs.Runners.{disks_on}
use Rattle.vx_stage_changes.proofs.Stillness.{recorded_now, slots_now}
use Rattle.vx_stage_changes.specs.declared.planning.NextConfig.{NextConfig}
use Rattle.vx_stage_volumes.proofs.Absent.{one_vol}
use Rattle.vx_stage_volumes.proofs.Entries.{entry_found}
use Rattle.vx_stage_volumes.proofs.Otherwise.{IsHeldOtherwise, otherwise_scene, sized_by}
use Rattle.vx_stage_volumes.proofs.Owned.{own_by}
use Rattle.vx_stage_mirrors.specs.Joins.{AreNumbersOn}
use Rattle.vx_stage_mirrors.proofs.Numbers.{numbers_on}
use Rattle.vx_stage_mirrors.proofs.Others.{all_put}
use Rattle.vx_stage_mirrors.proofs.RelogWhole.{committed_by}
use Rattle.vx_stage_mirrors.proofs.SlotNumbers.{HasNumbers, numbers_for}
use Rattle.vx_stage_dissociation.proofs.YieldPlaces.{IsYieldedBy, place_yielded}
use Rattle.vx_stage_dissociation.proofs.YieldWhole.{IsYielding, commit_goes, kept, now_is, now_whole, same_pieces, whole_committed}

module _ {P : Type 0} {ghosts : Ghosts P} {shelf : Shelved} {h : House P ghosts} {g new : Imported P ghosts} {v : Vol} {p : Plex} {remove : Bool} {next : NextConfig} (it : IsYielding shelf h g new v p remove next) where
  abbrev see : P → Seen
  see = ghosts.seen

  abbrev before : Running P ghosts
  before = it.before

  abbrev after : Running P ghosts
  after = it.after

  abbrev hs : List DiskSeen
  hs = members ghosts.seen g.base

  abbrev ns : List DiskSeen
  ns = members ghosts.seen it.base

  abbrev good : ℕ
  good = good_mask (members ghosts.seen g.base)

  abbrev good' : ℕ
  good' = good_mask (members ghosts.seen it.base)

  -- ---- the edit

  abbrev edits : List Edit
  edits = leaving_edit remove p ∷ []

  -- it is of the volume alone
  pub own : AreEditsOf g.config v.name (leaving_edit remove p ∷ [])
  own = each_log_leaving_own g.config v p remove next.config it.plan.takes

  pub group_same : next.config.group ≡ g.config.group
  group_same = (own_group g.config next.config v.name edits own it.plan.takes.edited).0

  disks_same : next.config.disks ≡ g.config.disks
  disks_same = (own_group g.config next.config v.name edits own it.plan.takes.edited).1

  -- ---- the volume

  place : IsInPlace see hs g.config good v.name before
  place = entry_found (λ n r. IsInPlace see (members see g.base) g.config (good_mask (members see g.base)) n r) v.name g.public.running.entries before (kept it).placed it.puts.was

  pub yielded_by : (x : Vol) → v ≡ x → IsYieldedBy ghosts.seen g.config x p remove next.config it.plan.layout it.before it.after
  yielded_by x same = subst (λ (y : Vol). IsYieldedBy ghosts.seen g.config y p remove next.config it.plan.layout it.before it.after) same (record { takes = it.plan.takes; lies = it.plan.lies; off = it.off })

  -- ---- the commit

  abbrev g2 : Imported P ghosts
  g2 = committed_by g next it.base

  abbrev h2 : House P ghosts
  h2 = with_group h (committed_by g next it.base)

  abbrev text : List ℕ
  text = next.text.items

  pub wd : IsWrittenIn ghosts.seen shelf h g (committed_by g next it.base) next.text.items
  wd = record {
    has = it.has_group;
    held = it.keeps.devices;
    writable = record { slots = (kept it).slots; ready = (kept it).carries.alive.ready; private = private_parted (members see g.base) (still_pieces see g.public ++ lent_pieces see g.public) (kept it).whole.parted };
    tried = it.finished.tried;
    public = refl;
  }

  goes : Each (CommitGoes (g.base.sequence + 1) it.base.sequence text) hs ns
  goes = commit_goes it

  pub still_disks : AreDisksOf (members ghosts.seen g.base) (members ghosts.seen it.base)
  still_disks = disks_on (g.base.sequence + 1) it.base.sequence text hs ns goes

  pub fewer : (slot : ℕ) → has_slot (good_mask (members ghosts.seen it.base)) slot ≡ true → has_slot (good_mask (members ghosts.seen g.base)) slot ≡ true
  fewer slot e = mask_was hs ns (went_by (g.base.sequence + 1) it.base.sequence text hs ns goes) (low_by hs (kept it).carries.alive.ready) slot e

  -- ---- the pieces

  abbrev g3 : Imported P ghosts
  g3 = record { config = next.config; base = it.base; public = new.public }

  abbrev h3 : House P ghosts
  h3 = with_group h (record { config = next.config; base = it.base; public = new.public })

  same_devices : group_holders see (Some g3) ≡ group_holders see (Some g2)
  same_devices = holders_laid see it.alike g2 g3 refl (whole_committed it).parted (same_pieces it)

  held3 : IsHeldOtherwise see g2 g3
  held3 = record { config = refl; base = refl; holders = same_devices }

  -- ---- its volumes

  -- all slots have numbers
  pub slots : HasNumbers ghosts.seen g.base.disks.items 32
  slots = numbers_for see g.base.disks.items (own_by see g (kept it)) 32

  numbers_here : AreNumbersOn slots.numbers (members see g.base) (good_mask (members see g.base))
  numbers_here = numbers_on see g.base.disks.items (low_by hs (kept it).carries.alive.ready) slots.top slots.numbers slots.are (kept it).slots

  -- the one that the plex has left
  own_place : IsInPlace see ns next.config good' v.name after
  own_place =
      let same : v ≡ place.of = one_vol g.config v place.of it.plan.of place.placed.runs.recorded (sym place.named) in
      place_yielded before after hs ns still_disks g.config good v.name place slots.numbers numbers_here next.config p remove it.plan.layout (yielded_by place.of same) good' fewer

  -- each other one
  other_place : (key : Word) (r : Running P ghosts) → key ≢ v.name → IsInPlace see hs g.config good key r → IsInPlace see ns next.config good' key r
  other_place key r other is =
      place_kept see hs ns still_disks g.config good key r is next.config good'
      (own_edit_keeps_others g.config next.config v.name edits own it.plan.takes.edited is.of is.placed.runs.recorded (λ same. other (sym is.named ∙ same)) good good' (λ slot e. inl (fewer slot e)))

  placed3 : AllInPlace see ns next.config good' new.public.running.entries
  placed3 = subst (AllInPlace see ns next.config good') (sym it.puts.entries)
      (all_put (λ n r. IsInPlace see (members see g.base) g.config (good_mask (members see g.base)) n r) (λ n r. IsInPlace see (members see it.base) next.config (good_mask (members see it.base)) n r) v.name other_place
      g.public.running.entries after it.puts.ordered (kept it).placed own_place)

  -- ---- the group

  kept3 : IsGroupKept see g3
  kept3 = record {
    named = it.finished.tried.committed.name ∙ (kept it).named ∙ sym group_same;
    text = subst (IsTextOf next.config) (sym it.finished.carries.holds) it.plan.printed.0;
    first = g.base.sequence + 1;
    carries = subst (λ t. CarriesText see (g.base.sequence + 1) t it.base) (sym it.finished.carries.holds) it.finished.carries;
    sized = sized_by (rests_of (still_pieces see g.public ++ lent_pieces see g.public) []) (rests_of (still_pieces see new.public ++ lent_pieces see new.public) []) ns same_devices (sized_after wd (kept it).sized);
    slots = slots_now (g.base.sequence + 1) it.base.sequence text see g.base.disks.items it.base.disks.items goes (kept it).slots;
    recorded = recorded_now (g.base.sequence + 1) it.base.sequence text see g.config next.config disks_same g.base.disks.items it.base.disks.items goes (kept it).recorded;
    whole = now_whole it;
    placed = placed3;
  }

  same_holders : holders see h3 ≡ holders see h2
  same_holders = ap (λ os. map (volume_holder see) h.volumes.entries ++ (os ++ map (hand_holder see) h.hand.items)) same_devices

  keeps3 : Keeps see (at shelf h3)
  keeps3 = record {
    devices = subst (AreHeld shelf.held) (sym same_holders) (held_on (alone wd));
    house = record { ordered = it.keeps.house.ordered; hand = it.keeps.house.hand; volumes = it.keeps.house.volumes; group = kept3 };
  }

  -- the group is the one that was left
  pub house_is : with_group h new ≡ with_group h (record { config = next.config; base = it.base; public = new.public })
  house_is = ap (with_group h) (now_is it)

  pub keeps_yielded : Keeps ghosts.seen (at shelf (with_group h new))
  keeps_yielded = subst (λ x. Keeps see (at shelf x)) (sym house_is) keeps3

  pub scene_yielded : scene ghosts.seen (at shelf (with_group h (record { config = next.config; base = it.base; public = new.public }))) ≡ scene ghosts.seen (at shelf (with_group h (committed_by g next it.base)))
  scene_yielded = otherwise_scene see shelf h2 g2 g3 refl held3

  pub faults_yielded : FaultsGoOn (scene ghosts.seen (at shelf h)) (scene ghosts.seen (at shelf (with_group h new)))
  faults_yielded = subst (λ x. FaultsGoOn (scene see (at shelf h)) (scene see (at shelf x))) (sym house_is) (subst (FaultsGoOn (scene see (at shelf h))) (sym scene_yielded) (faults_on (alone wd)))
