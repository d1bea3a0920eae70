-- A running volume that a log plex has left is in its place by the new configuration.
use Rattle.std.proofs.Common.{◌≡◌, ◌∙◌, ℕ, ◌<◌, Bool, true, List, length, sym, ap, subst, inl, inr}
use Rattle.std.specs.Prelude.{slice_index}
use Rattle.vx_base.specs.Named.{Word}
use Rattle.vx_mask.specs.Mask.{has}
use Rattle.vx_piece.specs.Seen.{Seen}
use Rattle.vx_pages.specs.declared.local_piece.LocalPiece.{Ghosts}
use Rattle.vx_layout.specs.declared.layout.Layout.{Layout}
use Rattle.vx_config_parts.specs.declared.plex.Plex.{Plex}
use Rattle.vx_config_parts.specs.declared.vol.Vol.{Vol}
use Rattle.vx_objects.specs.declared.config.Config.{Config}
use Rattle.vx_copies.specs.Disks.{DiskSeen}
use Rattle.vx_volume.specs.Volume.{VolumeSeen, volume_seen}
use Rattle.vx_lending.specs.Form.{IsLayoutOf}
use Rattle.vx_lending.specs.FormLaws.{AreNumbered}
use Rattle.vx_lending.specs.declared.public.Running.{Running}
use Rattle.vx_change_laws.specs.Laws.{IsCutIfDead}
use Rattle.vx_change_laws.proofs.Yieldings.{yielding_cut}
use Rattle.vx_group_volumes.specs.Places.{IsSlotOf, RunsInPlace, disks_at}
use Rattle.vx_group_volumes.specs.Runs.{Opening}
use Rattle.vx_joined_volumes.specs.Joined.{good_joined, opening_joined}
use Rattle.vx_joined_volumes.specs.Laws.{AgreeOn}
use Rattle.vx_joined_volumes.proofs.Numbers.{numbering_agrees}
use Rattle.vx_yielded_volumes.specs.Yielded.{TakesLogOut}
use Rattle.vx_yielded_volumes.proofs.Runs.{each_volume_unlogged, each_volume_yielded}
use Rattle.vx_house.specs.Runs.{IsInPlace, IsOnDisk}
use Rattle.vx_stage_mirrors.specs.Joins.{AreNumbersOn, AreOfSlots, AreStillDisks}
use Rattle.vx_stage_mirrors.proofs.Opened.{all_numbered}
use Rattle.vx_stage_mirrors.proofs.RelogPlaces.{opened_relogged, still_on}
use Rattle.vx_stage_dissociation.proofs.YieldWhole.{IsCopyGone, IsLogOff}

-- ---- the volume

-- By its own new records the log plex, which lies so, has left a running volume.
pub record IsYieldedBy {P : Type 0} {ghosts : Ghosts P} (see : P → Seen) (c : Config) (v : Vol) (p : Plex) (remove : Bool) (c' : Config) (l : Layout) (before after : Running P ghosts) : Type 0 where
  pub takes : TakesLogOut c v p remove c'
  pub lies : IsLayoutOf c p l
  pub off : IsLogOff see l before after

-- a region is dead after it only where it is cut: none is
cut_gone : {P : Type 0} {ghosts : Ghosts P} (see : P → Seen) (l : Layout) (before after : Running P ghosts) → IsCopyGone see l before after → (r : ℕ) → r < length (volume_seen see after.volume).cells → IsCutIfDead (volume_seen see after.volume) r
cut_gone see l before after gone r lt =
    let here : r < length (volume_seen see before.volume).cells = subst (λ (x : VolumeSeen). r < length x.cells) gone.volume.yields.same lt in
    yielding_cut gone.copy (volume_seen see before.volume) (volume_seen see after.volume) gone.volume.yields r here (gone.powered r here)

module _ {P : Type 0} {ghosts : Ghosts P} (before after : Running P ghosts) (c : Config) (good : ℕ) (was_numbers : List ℕ) (v : Vol) (placed : RunsInPlace ghosts.seen c good was_numbers v before)
    (numbers : List ℕ) (slots : AreOfSlots numbers) (agree : AgreeOn (disks_at placed.runs.opening) was_numbers numbers)
    (c' : Config) (p : Plex) (remove : Bool) (l : Layout) (one : IsYieldedBy ghosts.seen c v p remove c' l before after) where
  abbrev see : P → Seen
  see = ghosts.seen

  -- it runs in its place by numbers that all slots have
  renumbered : (now : RunsInPlace see c good numbers v before) × (now.runs.opening ≡ placed.runs.opening)
  renumbered = numbering_agrees see before c good was_numbers v placed numbers agree (all_numbered numbers slots.long placed.runs.opening.config placed.runs.opening.good)

  module _ (good' : ℕ) (fewer : (slot : ℕ) → has good' slot ≡ true → has good slot ≡ true) (now : RunsInPlace see c good numbers v before) where
    all : AreNumbered numbers (good_joined now.runs.opening good) c'.disks
    all = all_numbered numbers slots.long c' (good_joined now.runs.opening good)

    placed_by : IsLogOff see l before after → (then : RunsInPlace see c' good' numbers v after) × (then.runs.opening ≡ opening_joined now.runs.opening c' good v)
    placed_by (inl gone) = each_volume_yielded before after c good numbers v now p remove c' one.takes l one.lies gone.copy gone.on gone.form gone.volume (cut_gone see l before after gone) all good' fewer
    placed_by (inr nowhere) =
        subst (λ (x : Running P ghosts). (then : RunsInPlace see c' good' numbers v x) × (then.runs.opening ≡ opening_joined now.runs.opening c' good v)) (sym nowhere.same)
        (each_volume_unlogged ghosts.seen before c good numbers v now p remove c' one.takes l one.lies nowhere.none all good' fewer)

  -- .. and so without the plex
  pub placed_yielded : (good' : ℕ) → ((slot : ℕ) → has good' slot ≡ true → has good slot ≡ true) → (now : RunsInPlace ghosts.seen c' good' numbers v after) × (now.runs.opening ≡ opening_joined placed.runs.opening c' good v)
  placed_yielded good' fewer =
      let r = renumbered in
      let j = placed_by good' fewer r.0 one.off in
      (j.0, j.1 ∙ ap (λ (o : Opening). opening_joined o c' good v) r.1)

-- ---- in the house

module _ {P : Type 0} {ghosts : Ghosts P} (before after : Running P ghosts) (hs ks : List DiskSeen) (same : AreStillDisks hs ks) (c : Config) (good : ℕ) (name : Word) (is : IsInPlace ghosts.seen hs c good name before)
    (numbers : List ℕ) (are : AreNumbersOn numbers hs good)
    (c' : Config) (p : Plex) (remove : Bool) (l : Layout) (one : IsYieldedBy ghosts.seen c is.of p remove c' l before after)
    (good' : ℕ) (fewer : (slot : ℕ) → has good' slot ≡ true → has good slot ≡ true) where
  -- a slot that it was opened on has the number that it had
  number_same : (slot : ℕ) (n : IsOnDisk is.numbers hs slot) → slice_index numbers slot ≡ n.disk.seen.device
  number_same slot n = ap (slice_index numbers) (sym n.slot_is) ∙ are.each n.disk n.there

  agree : AgreeOn (disks_at is.placed.runs.opening) is.numbers numbers
  agree slot there = let n = is.opened slot there in number_same slot n ∙ sym n.number_is

  on_opened : (slot : ℕ) → IsSlotOf (disks_at is.placed.runs.opening) slot → IsOnDisk numbers ks slot
  on_opened slot there =
      let n = is.opened slot there in
      still_on hs ks same numbers slot (record { disk = n.disk; there = n.there; slot_is = n.slot_is; number_is = number_same slot n })

  pub place_yielded : IsInPlace ghosts.seen ks c' good' name after
  place_yielded =
      let j = placed_yielded before after c good is.numbers is.of is.placed numbers are.slots agree c' p remove l one good' fewer in
      record {
        of = is.of;
        named = is.named;
        started = is.started;
        numbers = numbers;
        own = are.slots.own;
        placed = j.0;
        opened = opened_relogged is.placed.runs.opening c' good is.of j.0.runs.opening j.1 (IsOnDisk numbers ks) on_opened (λ slot here. still_on hs ks same numbers slot (are.some slot here));
        numbered = λ place of here. still_on hs ks same numbers place.disk (are.some place.disk (fewer place.disk here));
      }
