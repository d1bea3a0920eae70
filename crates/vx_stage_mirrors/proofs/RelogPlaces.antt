-- A running volume of one plex that has another log is in its place by the new configuration.
use Rattle.std.proofs.Common.{◌≡◌, inl, inr, ℕ, ◌<◌, true, false, List, [], length, sym, ◌∙◌, ap, subst, arith}
use Rattle.std.specs.Prelude.{is_some, nat_lt, slice_index}
use Rattle.vx_block.specs.declared.geometry.Geometry.{Geometry}
use Rattle.vx_mask.specs.Mask.{has}
use Rattle.vx_mask.proofs.Sets.{in_union}
use Rattle.vx_base.specs.Named.{Word}
use Rattle.vx_piece.specs.Seen.{Seen}
use Rattle.vx_pages.specs.Sector.{KeepsPiece}
use Rattle.vx_pages.specs.declared.local_piece.LocalPiece.{Ghosts}
use Rattle.vx_layout.specs.declared.layout.Layout.{Layout}
use Rattle.vx_maps.specs.Going.{CutCopiesGo}
use Rattle.vx_cell.specs.Changes.{CellSeen}
use Rattle.vx_config_parts.specs.declared.plex.Plex.{Plex}
use Rattle.vx_config_parts.specs.declared.vol.Vol.{Vol}
use Rattle.vx_objects.specs.declared.config.Config.{Config}
use Rattle.vx_image.specs.Image.{WasStarted}
use Rattle.vx_image.specs.UsedPlexes.{used_logs}
use Rattle.vx_copies.specs.Disks.{DiskSeen}
use Rattle.vx_volume.specs.declared.log.VolumeLog.{VolumeLog}
use Rattle.vx_volume.specs.declared.log.VolumeLog.TheVariants.{Absent, Maps}
use Rattle.vx_volume.specs.declared.volume.VolumeShape.{VolumeShape}
use Rattle.vx_volume.specs.Log.{log_seen}
use Rattle.vx_volume.specs.Logging.{ChangesLog}
use Rattle.vx_volume.specs.Opening.{count_of}
use Rattle.vx_volume.specs.Volume.{log_of, shape_of, volume_seen}
use Rattle.vx_lending.specs.Form.{AreLayouts}
use Rattle.vx_lending.specs.Logs.{log_copies}
use Rattle.vx_lending.specs.Taken.{AreTakenCopies, log_sectors}
use Rattle.vx_lending.specs.declared.public.Running.{Running}
use Rattle.vx_volume_laws.specs.Lying.{IsLogFor}
use Rattle.vx_volume_laws.proofs.LeftLogs.{log_over}
use Rattle.vx_change_laws.specs.Laws.{IsCutIfDead}
use Rattle.vx_group_edits.specs.Dcos.{ChangesDco}
use Rattle.vx_group_volumes.specs.Places.{IsSlotOf, RunsInPlace, disks_at}
use Rattle.vx_group_volumes.specs.Runs.{Opening}
use Rattle.vx_joined_volumes.specs.Joined.{good_joined, mask_of_slots, opening_joined}
use Rattle.vx_joined_volumes.specs.Laws.{AgreeOn}
use Rattle.vx_joined_volumes.specs.Relogged.{HasRelogged, IsFormRelogged}
use Rattle.vx_joined_volumes.proofs.Numbers.{numbering_agrees}
use Rattle.vx_joined_volumes.proofs.RelogRuns.{each_volume_relogged}
use Rattle.vx_house.specs.Runs.{IsInPlace, IsOnDisk}
use Rattle.vx_stage_mirrors.specs.Joins.{AreNumbersOn, AreOfSlots, AreStillDisks}
use Rattle.vx_stage_mirrors.proofs.Opened.{all_numbered, opened_on}
use Rattle.vx_stage_mirrors.specs.Relogging.{HasNewLog, IsNewLog, IsPowered}

-- ---- its log

-- the copies of a log lie so, each cut and gone on since it was taken
record IsLogThere {P : Type 0} {ghosts : Ghosts P} (see : P → Seen) (numbers : List ℕ) (geometry : Geometry) (layouts : List Layout) (log : VolumeLog P ghosts) : Type 0 where
  copies : List (List Seen)
  taken : AreTakenCopies numbers layouts (log_sectors geometry) copies
  cut : CutCopiesGo KeepsPiece copies (log_copies see log)
  log_for : IsLogFor geometry log

log_there : {P : Type 0} {ghosts : Ghosts P} (see : P → Seen) (numbers : List ℕ) (geometry : Geometry) (layouts : List Layout) (log : VolumeLog P ghosts) → IsNewLog see numbers geometry layouts log → IsLogThere see numbers geometry layouts log
log_there see numbers geometry layouts Absent none =
    let long : length layouts ≡ 0 = ap (λ (ls : List Layout). length ls) none in
    record { copies = []; taken = record { long = sym long; cut = λ k d lt. absurd (omega (arith, lt, long)) }; cut = record { cut = []; same = tt; goes = tt }; log_for = tt }
log_there see numbers geometry layouts (Maps store) new = record { copies = new.copies; taken = new.taken; cut = new.cut; log_for = new.fresh.geometry_is }

-- the volume of the code has it
pub has_relogged : {P : Type 0} {ghosts : Ghosts P} (numbers : List ℕ) (log : VolumeLog P ghosts) (layouts : List Layout) (before after : Running P ghosts) → shape_of before.volume ≡ before.form.shape → 0 < count_of before.form.shape →
    IsNewLog ghosts.seen numbers before.form.shape.geometry layouts log → HasNewLog ghosts.seen log layouts before after → HasRelogged ghosts.seen numbers layouts before.volume after.volume
has_relogged {P = P} {ghosts = ghosts} numbers log layouts before after shape some fresh has =
    let see = ghosts.seen in
    let now : IsNewLog see numbers (shape_of before.volume).geometry layouts (log_of after.volume) =
    subst (λ (s : VolumeShape). IsNewLog see numbers s.geometry layouts (log_of after.volume)) (sym shape) (subst (λ (l : VolumeLog P ghosts). IsNewLog see numbers before.form.shape.geometry layouts l) (sym has.log_is) fresh) in
    let there = log_there see numbers (shape_of before.volume).geometry layouts (log_of after.volume) now in
    record {
      changes = subst (λ (l : VolumeLog P ghosts). ChangesLog (log_seen see l) (volume_seen see before.volume) (volume_seen see after.volume)) (sym has.log_is) has.changes;
      whole = has.whole;
      shape = has.shape;
      copies = there.copies;
      taken = there.taken;
      cut = there.cut;
      log_for = there.log_for;
      over = log_over (shape_of before.volume).geometry (log_of after.volume) there.log_for (subst (λ (s : VolumeShape). 0 < count_of s) (sym shape) some);
    }

-- ---- the volume

-- By its own new records a running volume of one plex has other logs, which lie so, by these numbers of the slots, and by the good ones or
-- more. Each region had its power.
pub record IsReloggedBy {P : Type 0} {ghosts : Ghosts P} (see : P → Seen) (c : Config) (good : ℕ) (v : Vol) (numbers : List ℕ) (c' : Config) (v' : Vol) (p p' : Plex) (logs : List Layout) (before after : Running P ghosts) : Type 0 where
  pub changes : ChangesDco c v c' v' p p'
  pub region : v'.region ≡ v.region
  pub logged : nat_lt 0 (length logs) ≡ is_some v'.dco
  pub lie : (more : ℕ) → ((slot : ℕ) → has good slot ≡ true → has more slot ≡ true) → AreLayouts c' (used_logs v'.dco c' more false v.name) logs
  pub form : IsFormRelogged logs before.form after.form
  pub volume : HasRelogged see numbers logs before.volume after.volume
  pub powered : IsPowered see before

module _ {P : Type 0} {ghosts : Ghosts P} (see : P → Seen) (before after : Running P ghosts) (c : Config) (good : ℕ) (was_numbers : List ℕ) (v : Vol) (placed : RunsInPlace see c good was_numbers v before)
    (numbers : List ℕ) (slots : AreOfSlots numbers) (agree : AgreeOn (disks_at placed.runs.opening) was_numbers numbers)
    (c' : Config) (v' : Vol) (p p' : Plex) (logs : List Layout) (one : IsReloggedBy see c good v numbers c' v' p p' logs before after) where
  -- it runs in its place by the numbers with which the log was taken
  renumbered : (now : RunsInPlace see c good numbers v before) × (now.runs.opening ≡ placed.runs.opening)
  renumbered = numbering_agrees see before c good was_numbers v placed numbers agree (all_numbered numbers slots.long placed.runs.opening.config placed.runs.opening.good)

  -- no region is dead
  alive : (r : ℕ) → r < length (volume_seen see after.volume).cells → IsCutIfDead (volume_seen see after.volume) r
  alive r lt dead =
      let size = one.volume.changes.cells.size in
      let inside : r < length (volume_seen see before.volume).cells = omega (arith, lt, size) in
      absurd (one.powered r inside (sym (ap (λ (x : CellSeen). x.stage.phase) (one.volume.changes.cells.each r inside)) ∙ dead))

  -- .. and so with the log
  pub placed_relogged : (good' : ℕ) → ((slot : ℕ) → has good' slot ≡ true → has good slot ≡ true) → (now : RunsInPlace see c' good' numbers v' after) × (now.runs.opening ≡ opening_joined placed.runs.opening c' good v')
  placed_relogged good' fewer =
      let r = renumbered in
      let more = good_joined r.0.runs.opening good in
      let j = each_volume_relogged see before after c good numbers v r.0 c' v' p p' one.changes one.region logs (one.lie more (λ slot here. in_union (mask_of_slots (disks_at r.0.runs.opening)) good slot (inr here))) one.logged one.form one.volume alive
      (all_numbered numbers slots.long c' more) good' fewer in
      (j.0, j.1 ∙ ap (λ (o : Opening). opening_joined o c' good v') r.1)

-- the slots that it counts as opened on
pub opened_relogged : (before : Opening) (c : Config) (good : ℕ) (v : Vol) (now : Opening) → now ≡ opening_joined before c good v → (Q : ℕ → Type 0) → ((slot : ℕ) → IsSlotOf (disks_at before) slot → Q slot) → ((slot : ℕ) → has good slot ≡ true → Q slot) →
    (slot : ℕ) → IsSlotOf (disks_at now) slot → Q slot
opened_relogged before c good v now same Q then here slot there = elim (opened_on before c good v slot (subst (λ (x : Opening). IsSlotOf (disks_at x) slot) same there)) [
  | inl was ↦ then slot was
  | inr is ↦ here slot is
]

-- ---- in the house

pub still_on : (hs ks : List DiskSeen) → AreStillDisks hs ks → (numbers : List ℕ) (slot : ℕ) → IsOnDisk numbers hs slot → IsOnDisk numbers ks slot
still_on hs ks same numbers slot n =
    let k = same n.disk n.there in
    record { disk = k.0; there = k.1; slot_is = k.4 ∙ n.slot_is; number_is = n.number_is ∙ sym k.3 }

module _ {P : Type 0} {ghosts : Ghosts P} (see : P → Seen) (before after : Running P ghosts) (hs ks : List DiskSeen) (same : AreStillDisks hs ks) (c : Config) (good : ℕ) (name : Word) (is : IsInPlace see hs c good name before)
    (numbers : List ℕ) (are : AreNumbersOn numbers hs good)
    (c' : Config) (v' : Vol) (p p' : Plex) (logs : List Layout) (one : IsReloggedBy see c good is.of numbers c' v' p p' logs before after)
    (good' : ℕ) (fewer : (slot : ℕ) → has good' slot ≡ true → has good slot ≡ true) where
  -- a slot that it was opened on has the number that it had
  number_same : (slot : ℕ) (n : IsOnDisk is.numbers hs slot) → slice_index numbers slot ≡ n.disk.seen.device
  number_same slot n = ap (slice_index numbers) (sym n.slot_is) ∙ are.each n.disk n.there

  agree : AgreeOn (disks_at is.placed.runs.opening) is.numbers numbers
  agree slot there = let n = is.opened slot there in number_same slot n ∙ sym n.number_is

  on_opened : (slot : ℕ) → IsSlotOf (disks_at is.placed.runs.opening) slot → IsOnDisk numbers ks slot
  on_opened slot there =
      let n = is.opened slot there in
      still_on hs ks same numbers slot (record { disk = n.disk; there = n.there; slot_is = n.slot_is; number_is = number_same slot n })

  pub place_relogged : IsInPlace see ks c' good' name after
  place_relogged =
      let j = placed_relogged see before after c good is.numbers is.of is.placed numbers are.slots agree c' v' p p' logs one good' fewer in
      record {
        of = v';
        named = ap (λ (x : Vol). x.name) one.changes.volume ∙ is.named;
        started = subst WasStarted (sym (ap (λ (x : Vol). x.state) one.changes.volume)) is.started;
        numbers = numbers;
        own = are.slots.own;
        placed = j.0;
        opened = opened_relogged is.placed.runs.opening c' good v' j.0.runs.opening j.1 (IsOnDisk numbers ks) on_opened (λ slot here. still_on hs ks same numbers slot (are.some slot here));
        numbered = λ place of here. still_on hs ks same numbers place.disk (are.some place.disk (fewer place.disk here));
      }
