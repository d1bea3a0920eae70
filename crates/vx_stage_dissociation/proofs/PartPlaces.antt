-- A running volume that a plex has left is in its place by the new configuration.
use Rattle.std.proofs.Common.{◌≡◌, ℕ, ◌<◌, Bool, true, List, length, sym, ◌∙◌, ap, subst}
use Rattle.std.specs.Prelude.{slice_index}
use Rattle.vx_mask.specs.Mask.{has}
use Rattle.vx_base.specs.Named.{Word}
use Rattle.vx_piece.specs.Seen.{Seen}
use Rattle.vx_pages.specs.declared.local_piece.LocalPiece.{Ghosts}
use Rattle.vx_config_parts.specs.declared.plex.Plex.{Plex}
use Rattle.vx_config_parts.specs.declared.vol.Vol.{Vol}
use Rattle.vx_objects.specs.declared.config.Config.{Config}
use Rattle.vx_image.specs.Bytes.{map_or_zero}
use Rattle.vx_copies.specs.Disks.{DiskSeen}
use Rattle.vx_volume.specs.Volume.{volume_seen}
use Rattle.vx_lending.specs.declared.public.Running.{Running}
use Rattle.vx_change_laws.specs.Laws.{IsCutIfDead}
use Rattle.vx_change_laws.proofs.Partings.{parting_cut}
use Rattle.vx_group_volumes.specs.Places.{IsSlotOf, RunsInPlace, disks_at}
use Rattle.vx_group_volumes.specs.Runs.{Opening}
use Rattle.vx_joined_volumes.specs.Joined.{good_joined, opening_joined}
use Rattle.vx_joined_volumes.specs.Laws.{AgreeOn}
use Rattle.vx_joined_volumes.specs.Parted.{HasParted, IsFormParted, TakesOut}
use Rattle.vx_joined_volumes.proofs.Numbers.{numbering_agrees}
use Rattle.vx_joined_volumes.proofs.PartRuns.{each_volume_parted}
use Rattle.vx_house.specs.Runs.{IsInPlace, IsOnDisk}
use Rattle.vx_stage_mirrors.specs.Joins.{AreNumbersOn, AreOfSlots, AreStillDisks}
use Rattle.vx_stage_mirrors.proofs.Opened.{all_numbered}
use Rattle.vx_stage_mirrors.proofs.RelogPlaces.{opened_relogged, still_on}
use Rattle.vx_stage_dissociation.proofs.PartWhole.{IsReadyToLeave}

-- ---- the volume

-- By its own new records the plex has left a running volume that was ready for it.
pub record IsPartedBy {P : Type 0} {ghosts : Ghosts P} (see : P → Seen) (c : Config) (v : Vol) (p : Plex) (remove : Bool) (c' : Config) (before after : Running P ghosts) : Type 0 where
  pub takes : TakesOut c v p remove c'
  pub ready : IsReadyToLeave (map_or_zero p.map) (volume_seen see before.volume)
  pub form : IsFormParted (map_or_zero p.map) before.form after.form
  pub volume : HasParted see (map_or_zero p.map) before.volume after.volume

module _ {P : Type 0} {ghosts : Ghosts P} (see : P → Seen) (before after : Running P ghosts) (c : Config) (good : ℕ) (was_numbers : List ℕ) (v : Vol) (placed : RunsInPlace see c good was_numbers v before)
    (numbers : List ℕ) (slots : AreOfSlots numbers) (agree : AgreeOn (disks_at placed.runs.opening) was_numbers numbers)
    (c' : Config) (p : Plex) (remove : Bool) (one : IsPartedBy see c v p remove c' before after) where
  -- it runs in its place by numbers that all slots have
  renumbered : (now : RunsInPlace see c good numbers v before) × (now.runs.opening ≡ placed.runs.opening)
  renumbered = numbering_agrees see before c good was_numbers v placed numbers agree (all_numbered numbers slots.long placed.runs.opening.config placed.runs.opening.good)

  -- no region is dead
  cut : (r : ℕ) → r < length (volume_seen see after.volume).cells → IsCutIfDead (volume_seen see after.volume) r
  cut r lt =
      parting_cut (map_or_zero p.map) (volume_seen see before.volume) (volume_seen see after.volume) one.volume.loses one.ready.settled r (subst (λ n. r < n) one.volume.loses.cells.size lt)

  -- .. and so without the plex
  pub placed_parted : (good' : ℕ) → ((slot : ℕ) → has good' slot ≡ true → has good slot ≡ true) → (now : RunsInPlace see c' good' numbers v after) × (now.runs.opening ≡ opening_joined placed.runs.opening c' good v)
  placed_parted good' fewer =
      let r = renumbered in
      let j = each_volume_parted see before after c good numbers v r.0 p remove c' one.takes one.form one.volume cut (all_numbered numbers slots.long c' (good_joined r.0.runs.opening good)) good' fewer in
      (j.0, j.1 ∙ ap (λ (o : Opening). opening_joined o c' good v) r.1)

-- ---- in the house

module _ {P : Type 0} {ghosts : Ghosts P} (see : P → Seen) (before after : Running P ghosts) (hs ks : List DiskSeen) (same : AreStillDisks hs ks) (c : Config) (good : ℕ) (name : Word) (is : IsInPlace see hs c good name before)
    (numbers : List ℕ) (are : AreNumbersOn numbers hs good)
    (c' : Config) (p : Plex) (remove : Bool) (one : IsPartedBy see c is.of p remove c' before after)
    (good' : ℕ) (fewer : (slot : ℕ) → has good' slot ≡ true → has good slot ≡ true) where
  -- a slot that it was opened on has the number that it had
  number_same : (slot : ℕ) (n : IsOnDisk is.numbers hs slot) → slice_index numbers slot ≡ n.disk.seen.device
  number_same slot n = ap (slice_index numbers) (sym n.slot_is) ∙ are.each n.disk n.there

  agree : AgreeOn (disks_at is.placed.runs.opening) is.numbers numbers
  agree slot there = let n = is.opened slot there in number_same slot n ∙ sym n.number_is

  on_opened : (slot : ℕ) → IsSlotOf (disks_at is.placed.runs.opening) slot → IsOnDisk numbers ks slot
  on_opened slot there =
      let n = is.opened slot there in
      still_on hs ks same numbers slot (record { disk = n.disk; there = n.there; slot_is = n.slot_is; number_is = number_same slot n })

  pub place_parted : IsInPlace see ks c' good' name after
  place_parted =
      let j = placed_parted see before after c good is.numbers is.of is.placed numbers are.slots agree c' p remove one good' fewer in
      record {
        of = is.of;
        named = is.named;
        started = is.started;
        numbers = numbers;
        own = are.slots.own;
        placed = j.0;
        opened = opened_relogged is.placed.runs.opening c' good is.of j.0.runs.opening j.1 (IsOnDisk numbers ks) on_opened (λ slot here. still_on hs ks same numbers slot (are.some slot here));
        numbered = λ place of here. still_on hs ks same numbers place.disk (are.some place.disk (fewer place.disk here));
      }
