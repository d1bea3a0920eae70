-- A group of which a running volume has a plex on or off, once its state is recorded, has the pieces that it had, and is whole.
use Rattle.std.proofs.Common.{◌≡◌, ◌∙◌, ℕ, suc, ◌+◌, ◌<◌, Bool, List, [], ◌∷◌, ◌++◌, length, refl, sym, ap, subst, arith}
use Rattle.std.specs.BTreeMap.{is_at}
use Rattle.std.specs.Cmp.Lexicographic.{slice_cmp}
use Rattle.std.specs.List.{flat_map}
use Rattle.std.specs.Ordering.{nat_cmp}
use Rattle.vx_base.specs.Named.{Word}
use Rattle.vx_piece.specs.Seen.{Seen}
use Rattle.vx_pages.specs.declared.local_piece.LocalPiece.{Ghosts}
use Rattle.vx_pages.specs.Items.{item_at}
use Rattle.vx_cell.specs.Changes.{CellSeen}
use Rattle.vx_copies.specs.Lists.{AllOf}
use Rattle.vx_confdb.specs.Groups.{members}
use Rattle.vx_fronts.specs.Parted.{AreParted}
use Rattle.vx_lending.specs.RegionPieces.{all_pieces}
use Rattle.vx_lending.specs.Left.{held_pieces, region_plexes}
use Rattle.vx_lending.specs.Logs.{log_pieces}
use Rattle.vx_lending.specs.Public.{lent_pieces, running_pieces, still_pieces, stuck_pieces}
use Rattle.vx_lending.specs.declared.public.Public.{Public}
use Rattle.vx_lending.specs.declared.public.Running.{Running}
use Rattle.vx_group_start.specs.Laying.{AreStuckVolumes}
use Rattle.vx_volume.specs.Switching.{IsSwitched}
use Rattle.vx_volume.specs.Volume.{IsVolume, log_of, no_cell, volume_seen}
use Rattle.vx_house.specs.View.{IsGroupWhole}
use Rattle.vx_house.specs.declared.house.Imported.{Imported}
use Rattle.vx_house_calls.proofs.Entries.{IsSetAt, flat_around, set_at}
use Rattle.vx_stage_changes.proofs.Stillness.{whole_now}
use Rattle.vx_stage_changes.specs.declared.planning.NextConfig.{NextConfig}
use Rattle.vx_stage_mirrors.specs.Switching.{SwitchesIn}
use Rattle.vx_stage_mirrors.proofs.Others.{all_put}

-- each region has the plexes that it had
same_plexes : (m : ℕ) (on : Bool) (xs ys : List CellSeen) → length ys ≡ length xs → ((r : ℕ) → r < length xs → IsSwitched m on (item_at no_cell xs r) (item_at no_cell ys r)) → region_plexes ys ≡ region_plexes xs
same_plexes m on [] [] long each = refl
same_plexes m on [] (y ∷ ys) long each = absurd (omega (arith, long))
same_plexes m on (x ∷ xs) [] long each = absurd (omega (arith, long))
same_plexes m on (x ∷ xs) (y ∷ ys) long each =
    let rest = same_plexes m on xs ys (omega (arith, long)) (λ r lt. each (suc r) (omega (arith, lt))) in
    let first : y.plexes ≡ x.plexes = ap (λ (c : CellSeen). c.plexes) (each 0 (omega arith)) in
    ap (λ ps. ps ∷ region_plexes ys) first ∙ ap (λ rs. x.plexes ∷ rs) rest

module _ {P : Type 0} {ghosts : Ghosts P} (see : P → Seen) (g new : Imported P ghosts) (whole : IsGroupWhole see g) (name : Word) (m : ℕ) (on : Bool) (next : NextConfig) (switches : SwitchesIn see name m on next g new) where
  abbrev before : Running P ghosts
  before = switches.runs.before

  abbrev after : Running P ghosts
  after = switches.runs.after

  -- the group whose commit is done
  abbrev committed : Imported P ghosts
  committed = record { config = next.config; base = new.base; public = g.public }

  pub whole_committed : IsGroupWhole see (record { config = next.config; base = new.base; public = g.public })
  whole_committed = whole_now see g committed (g.base.sequence + 1) new.base.sequence next.text.items switches.finished.tried.committed.goes refl whole

  -- ---- its pieces

  held_same : held_pieces see after.volume ≡ held_pieces see before.volume
  held_same =
      let cells = switches.runs.volume.switches.cells in
      ap (λ rs. all_pieces rs ++ log_pieces see (log_of after.volume)) (same_plexes m on (volume_seen see before.volume).cells (volume_seen see after.volume).cells cells.size cells.each)
      ∙ ap (λ l. all_pieces (region_plexes (volume_seen see before.volume).cells) ++ log_pieces see l) switches.runs.volume.log

  spot : IsSetAt g.public.running.entries new.public.running.entries before after
  spot = subst (λ es. IsSetAt g.public.running.entries es before after) (sym switches.runs.entries) (set_at (is_at (slice_cmp nat_cmp name)) before after g.public.running.entries switches.runs.was)

  pub lent_same : lent_pieces see new.public ≡ lent_pieces see g.public
  lent_same =
      let F = flat_map (running_pieces see) spot.before in
      let B = flat_map (running_pieces see) spot.behind in
      let S = flat_map (stuck_pieces see) g.public.stuck.items in
      ap (λ (p : Public P ghosts). flat_map (running_pieces see) new.public.running.entries ++ flat_map (stuck_pieces see) p.stuck.items) switches.public
      ∙ ap (λ es. flat_map (running_pieces see) es ++ S) spot.is
      ∙ flat_around (running_pieces see) spot.before (spot.key, after) spot.behind S
      ∙ ap (λ h. F ++ (h ++ (B ++ S))) held_same
      ∙ sym (ap (λ es. flat_map (running_pieces see) es ++ S) spot.was ∙ flat_around (running_pieces see) spot.before (spot.key, before) spot.behind S)

  pub still_same : still_pieces see new.public ≡ still_pieces see g.public
  still_same = ap (λ (p : Public P ghosts). still_pieces see p) switches.public

  -- ---- its volumes

  volumes : AllOf (λ (e : Word × Running P ghosts). IsVolume (volume_seen see e.1.volume)) new.public.running.entries
  volumes = subst (λ es. AllOf (λ (e : Word × Running P ghosts). IsVolume (volume_seen see e.1.volume)) es) (sym switches.runs.entries)
      (all_put (λ n (r : Running P ghosts). IsVolume (volume_seen see r.volume)) (λ n (r : Running P ghosts). IsVolume (volume_seen see r.volume)) name (λ key r other is. is) g.public.running.entries after switches.runs.ordered whole.volumes switches.runs.volume.whole)

  pub whole_switched : IsGroupWhole see new
  whole_switched = record {
    parted =
        subst (λ ps. AreParted (members see new.base) (ps ++ lent_pieces see new.public)) (sym still_same)
        (subst (λ ps. AreParted (members see new.base) (still_pieces see g.public ++ ps)) (sym lent_same) whole_committed.parted);
    volumes = volumes;
    stuck = subst (λ (p : Public P ghosts). AreStuckVolumes see p.stuck.items) (sym switches.public) whole.stuck;
  }
