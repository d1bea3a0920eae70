-- A running volume that a plex has joined is in its place.
use Rattle.std.proofs.Common.{◌≡◌, inl, inr, ℕ, true, List, sym, ◌∙◌, ap, subst}
use Rattle.std.specs.Prelude.{slice_index}
use Rattle.vx_mask.specs.Mask.{has}
use Rattle.vx_base.specs.Named.{Word}
use Rattle.vx_piece.specs.Seen.{Seen}
use Rattle.vx_pages.specs.declared.local_piece.LocalPiece.{Ghosts}
use Rattle.vx_layout.specs.declared.layout.Layout.{Layout}
use Rattle.vx_config_parts.specs.declared.object.Object.{Object}
use Rattle.vx_config_parts.specs.declared.plex.Plex.{Plex}
use Rattle.vx_config_parts.specs.declared.vol.Vol.{Vol}
use Rattle.vx_objects.specs.declared.config.Config.{Config}
use Rattle.vx_copies.specs.Disks.{DiskSeen}
use Rattle.vx_lending.specs.declared.public.Running.{Running}
use Rattle.vx_group_volumes.specs.Places.{IsSlotOf, RunsInPlace, disks_at}
use Rattle.vx_group_volumes.specs.Runs.{Opening}
use Rattle.vx_joined_volumes.specs.Joined.{good_joined, opening_joined}
use Rattle.vx_joined_volumes.specs.Laws.{AgreeOn}
use Rattle.vx_joined_volumes.proofs.Numbers.{numbering_agrees}
use Rattle.vx_joined_volumes.proofs.Runs.{each_volume_joined}
use Rattle.vx_house.specs.Runs.{IsInPlace, IsOnDisk}
use Rattle.vx_stage_mirrors.specs.Joins.{AreNumbersOn, AreOfSlots, AreStillDisks, IsJoinedBy}
use Rattle.vx_stage_mirrors.specs.JoiningLaws.{EachJoinedPlexIsInPlace}
use Rattle.vx_stage_mirrors.proofs.Opened.{all_numbered, opened_on}

-- ---- the volume

module _ {P : Type 0} {ghosts : Ghosts P} (see : P → Seen) (before after : Running P ghosts) (c : Config) (good : ℕ) (was_numbers : List ℕ) (v : Vol) (placed : RunsInPlace see c good was_numbers v before)
    (numbers : List ℕ) (slots : AreOfSlots numbers) (agree : AgreeOn (disks_at placed.runs.opening) was_numbers numbers)
    (added : List Object) (c' : Config) (p : Plex) (m : ℕ) (l : Layout) (runs : List (List Seen)) (one : IsJoinedBy see c good v numbers added c' p m l runs before after) where
  -- it runs in its place by the numbers with which the plex was taken
  renumbered : (now : RunsInPlace see c good numbers v before) × (now.runs.opening ≡ placed.runs.opening)
  renumbered = numbering_agrees see before c good was_numbers v placed numbers agree (all_numbered numbers slots.long placed.runs.opening.config placed.runs.opening.good)

  -- .. and so with the plex
  pub placed_joined : (good' : ℕ) → ((slot : ℕ) → has good' slot ≡ true → has good slot ≡ true) → (now : RunsInPlace see c' good' numbers v after) × (now.runs.opening ≡ opening_joined placed.runs.opening c' good v)
  placed_joined good' fewer =
      let r = renumbered in
      let j = each_volume_joined see before after c good numbers v r.0 added c' p m one.joins l one.layout one.form runs one.volume (all_numbered numbers slots.long c' (good_joined r.0.runs.opening good)) good' fewer in
      (j.0, j.1 ∙ ap (λ (o : Opening). opening_joined o c' good v) r.1)

  -- the slots that it counts as opened on
  pub opened_joined : (o : Opening) → o ≡ opening_joined placed.runs.opening c' good v → (Q : ℕ → Type 0) → ((slot : ℕ) → IsSlotOf (disks_at placed.runs.opening) slot → Q slot) → ((slot : ℕ) → has good slot ≡ true → Q slot) →
      (slot : ℕ) → IsSlotOf (disks_at o) slot → Q slot
  opened_joined o same Q then now slot there = elim (opened_on placed.runs.opening c' good v slot (subst (λ (x : Opening). IsSlotOf (disks_at x) slot) same there)) [
    | inl was ↦ then slot was
    | inr is ↦ now slot is
  ]

-- ---- in the house

still_on : (hs ks : List DiskSeen) → AreStillDisks hs ks → (numbers : List ℕ) (slot : ℕ) → IsOnDisk numbers hs slot → IsOnDisk numbers ks slot
still_on hs ks same numbers slot n =
    let k = same n.disk n.there in
    record { disk = k.0; there = k.1; slot_is = k.4 ∙ n.slot_is; number_is = n.number_is ∙ sym k.3 }

module _ {P : Type 0} {ghosts : Ghosts P} (see : P → Seen) (before after : Running P ghosts) (hs ks : List DiskSeen) (same : AreStillDisks hs ks) (c : Config) (good : ℕ) (name : Word) (is : IsInPlace see hs c good name before)
    (numbers : List ℕ) (are : AreNumbersOn numbers hs good)
    (added : List Object) (c' : Config) (p : Plex) (m : ℕ) (l : Layout) (runs : List (List Seen)) (one : IsJoinedBy see c good is.of numbers added c' p m l runs before after)
    (good' : ℕ) (fewer : (slot : ℕ) → has good' slot ≡ true → has good slot ≡ true) where
  -- a slot that it was opened on has the number that it had
  number_same : (slot : ℕ) (n : IsOnDisk is.numbers hs slot) → slice_index numbers slot ≡ n.disk.seen.device
  number_same slot n = ap (slice_index numbers) (sym n.slot_is) ∙ are.each n.disk n.there

  agree : AgreeOn (disks_at is.placed.runs.opening) is.numbers numbers
  agree slot there = let n = is.opened slot there in number_same slot n ∙ sym n.number_is

  on_opened : (slot : ℕ) → IsSlotOf (disks_at is.placed.runs.opening) slot → IsOnDisk numbers ks slot
  on_opened slot there =
      let n = is.opened slot there in
      still_on hs ks same numbers slot (record { disk = n.disk; there = n.there; slot_is = n.slot_is; number_is = number_same slot n })

  pub place_joined : IsInPlace see ks c' good' name after
  place_joined =
      let j = placed_joined see before after c good is.numbers is.of is.placed numbers are.slots agree added c' p m l runs one good' fewer in
      record {
        of = is.of;
        named = is.named;
        started = is.started;
        numbers = numbers;
        own = are.slots.own;
        placed = j.0;
        opened = opened_joined see before after c good is.numbers is.of is.placed numbers are.slots agree added c' p m l runs one j.0.runs.opening j.1 (IsOnDisk numbers ks) on_opened
            (λ slot here. still_on hs ks same numbers slot (are.some slot here));
        numbered = λ place of here. still_on hs ks same numbers place.disk (are.some place.disk (fewer place.disk here));
      }

pub each_place_joined : {P : Type 0} {ghosts : Ghosts P} (see : P → Seen) (before after : Running P ghosts) → EachJoinedPlexIsInPlace see before after
each_place_joined see before after hs ks same c good name is numbers are added c' p m l runs one good' fewer =
    place_joined see before after hs ks same c good name is numbers are added c' p m l runs one good' fewer
