-- Where a volume lies is said by the numbers of the slots alone that its plexes lie on.
use Rattle.std.proofs.Common.{◌≡◌, ℕ, ◌+◌, ◌<◌, Option, Some, None, List, [], ◌∷◌, length, refl, sym, ap, ◌∙◌, subst}
use Rattle.std.specs.Prelude.{slice_index_or}
use Rattle.vx_piece.specs.Seen.{Seen}
use Rattle.vx_layout.specs.declared.layout.Layout.{Layout}
use Rattle.vx_layout.specs.declared.place.Place.{Place}
use Rattle.vx_layout.specs.declared.run.Run.{Run}
use Rattle.vx_layout.specs.declared.strip.Strip.{Strip}
use Rattle.vx_layout.specs.Columns.{place_of}
use Rattle.vx_layout.specs.Runs.{AreRuns}
use Rattle.vx_carve.specs.Carved.{AreCut, ArePieces}
use Rattle.vx_carve.specs.Together.{IsRunOf}
use Rattle.vx_cell.specs.Plexes.{PlexSeen}
use Rattle.vx_pages.specs.declared.local_piece.LocalPiece.{Ghosts}
use Rattle.vx_config_parts.specs.declared.disk.Disk.{Disk}
use Rattle.vx_config_parts.specs.declared.plex.Plex.{Plex}
use Rattle.vx_config_parts.specs.declared.vol.Vol.{Vol}
use Rattle.vx_objects.specs.declared.config.Config.{Config}
use Rattle.vx_image.specs.Lies.{columns_of}
use Rattle.vx_image.specs.UsedPlexes.{held_plexes, used_logs}
use Rattle.vx_volume.specs.Volume.{log_of}
use Rattle.vx_lending.specs.RegionsTaken.{IsTakenRegion}
use Rattle.vx_lending.specs.Form.{IsLayoutOf}
use Rattle.vx_lending.specs.FormLaws.{AreNumbered}
use Rattle.vx_lending.proofs.Places.{IsTaken, columns_lie, held_taken, log_taken}
use Rattle.vx_lending.specs.declared.public.Running.{Running}
use Rattle.vx_lending.specs.Logs.{log_copies}
use Rattle.vx_lending.specs.Taken.{log_sectors}
use Rattle.vx_volume_laws.specs.Places.{LieOnLogs, spot, spot_of}
use Rattle.vx_group_volumes.specs.Places.{IsSlotOf, RunsInPlace, disks_at}
use Rattle.vx_group_volumes.specs.Runs.{Opening}
use Rattle.vx_group_volumes.proofs.Held.{layout_plex}
use Rattle.vx_group_volumes.proofs.Strips.{place_own}
use Rattle.vx_joined_volumes.specs.Laws.{AgreeOn, EachNumberingAgrees}

-- ---- pieces on disks

module _ (numbers other : List ℕ) (disks : List Disk) (agree : AgreeOn disks numbers other) where
  -- the blocks of the layout lie on these disks
  abbrev LieOnDisks : ℕ → List (List Strip) → Type 0
  LieOnDisks unit columns = (b : ℕ) (place : Place) → place_of unit columns b ≡ Some place → IsSlotOf disks place.disk

  pieces_agree : (unit : ℕ) (columns : List (List Strip)) → LieOnDisks unit columns → (start end : ℕ) (runs : List Run) (ps : List Seen) → AreRuns unit columns start end runs → ArePieces numbers runs ps → ArePieces other runs ps
  pieces_agree unit columns on start end [] [] are pieces = tt
  pieces_agree unit columns on start end [] (p ∷ ps) are pieces = absurd pieces
  pieces_agree unit columns on start end (run ∷ runs) [] are pieces = absurd pieces
  pieces_agree unit columns on start end (run ∷ runs) (p ∷ ps) are pieces =
      let slot : IsSlotOf disks run.disk = on (run.block + 0) (record { disk = run.disk; sector = run.sector + 0 }) (are.1.places 0 are.1.some) in
      (subst (λ n. IsRunOf n (2048 + run.sector) run.count p) (sym (agree run.disk slot)) pieces.0, pieces_agree unit columns on (start + run.count) end runs ps are.3 pieces.1)

  cut_agrees : (unit : ℕ) (columns : List (List Strip)) → LieOnDisks unit columns → (start end : ℕ) (ps : List Seen) → AreCut numbers unit columns start end ps → AreCut other unit columns start end ps
  cut_agrees unit columns on start end ps cut = record { runs = cut.runs; are_runs = cut.are_runs; pieces = pieces_agree unit columns on start end cut.runs ps cut.are_runs cut.pieces }

  region_agrees : (maps : List ℕ) (layouts : List Layout) → ((k : ℕ) (d : Layout) → k < length layouts → LieOnDisks (slice_index_or layouts k d).unit (slice_index_or layouts k d).columns) →
      (start count : ℕ) (plexes : List PlexSeen) → IsTakenRegion numbers maps layouts start count plexes → IsTakenRegion other maps layouts start count plexes
  region_agrees maps layouts on start count plexes taken = record {
    maps_are = taken.maps_are;
    cut = λ k d lt. cut_agrees (slice_index_or layouts k d).unit (slice_index_or layouts k d).columns (on k d lt) start (start + count) _ (taken.cut k d lt);
    cover = taken.cover;
    held = taken.held;
    differ = taken.differ;
  }

  spot_agrees : (at : Option Place) → ((place : Place) → at ≡ Some place → IsSlotOf disks place.disk) → spot_of numbers at ≡ spot_of other at
  spot_agrees None on = refl
  spot_agrees (Some place) on = ap (λ n. Some (spot n (2048 + place.sector))) (sym (agree place.disk (on place refl)))

  logs_agree : (layouts : List Layout) → ((k : ℕ) (d : Layout) → k < length layouts → LieOnDisks (slice_index_or layouts k d).unit (slice_index_or layouts k d).columns) → (count : ℕ) (copies : List (List Seen)) →
      LieOnLogs numbers layouts count copies → LieOnLogs other layouts count copies
  logs_agree layouts on count copies lie = record {
    long = lie.long;
    sectors = lie.sectors;
    each = λ k d lt i below. lie.each k d lt i below ∙ spot_agrees (place_of (slice_index_or layouts k d).unit (slice_index_or layouts k d).columns (0 + i)) (λ place at. on k d lt (0 + i) place at);
  }

-- ---- the volume

module _ {P : Type 0} {ghosts : Ghosts P} (see : P → Seen) (running : Running P ghosts) (c : Config) (good : ℕ) (numbers : List ℕ) (v : Vol) (placed : RunsInPlace see c good numbers v running)
    (other : List ℕ) (agree : AgreeOn (disks_at placed.runs.opening) numbers other) where
  abbrev o : Opening
  o = placed.runs.opening

  -- a plex of which all disks were good lies on these
  plex_on : (p : Plex) → IsTaken o.config o.good o.vol p → (l : Layout) → IsLayoutOf o.config p l → (b : ℕ) (place : Place) → place_of l.unit l.columns b ≡ Some place → IsSlotOf (disks_at o) place.disk
  plex_on p taken l lay b place at =
      (place_own o.config (disks_at o) p b place (columns_lie o.config o.good p taken.held p.ncol 0)
      (subst (λ u. place_of u (columns_of o.config p) b ≡ Some place) lay.unit (subst (λ columns. place_of l.unit columns b ≡ Some place) lay.columns at))).1

  data_on : (k : ℕ) (d : Layout) → k < length running.form.layouts.items → (b : ℕ) (place : Place) → place_of (slice_index_or running.form.layouts.items k d).unit (slice_index_or running.form.layouts.items k d).columns b ≡ Some place → IsSlotOf (disks_at o) place.disk
  data_on k d lt =
      let r = layout_plex o.config (held_plexes o.config o.good o.vol.name) running.form.layouts.items k d placed.runs.form.layouts lt in
      plex_on r.0 (held_taken o.config o.good o.vol r.0 r.1).0 (slice_index_or running.form.layouts.items k d) r.2

  log_on : (k : ℕ) (d : Layout) → k < length running.form.logs.items → (b : ℕ) (place : Place) → place_of (slice_index_or running.form.logs.items k d).unit (slice_index_or running.form.logs.items k d).columns b ≡ Some place → IsSlotOf (disks_at o) place.disk
  log_on k d lt =
      let r = layout_plex o.config (used_logs o.vol.dco o.config o.good o.fresh o.vol.name) running.form.logs.items k d placed.runs.form.logs lt in
      plex_on r.0 (log_taken o.config o.good o.vol o.fresh o.vol.dco r.0 r.1).0 (slice_index_or running.form.logs.items k d) r.2

  pub runs_by : AreNumbered other placed.runs.opening.good placed.runs.opening.config.disks → (now : RunsInPlace see c good other v running) × (now.runs.opening ≡ placed.runs.opening)
  runs_by numbered =
      let lies = placed.runs.lies.lies in (
        record {
          runs = record {
            recorded = placed.runs.recorded;
            filled = placed.runs.filled;
            opening = placed.runs.opening;
            of = placed.runs.of;
            form = placed.runs.form;
            keeps = placed.runs.keeps;
            logged = placed.runs.logged;
            whole = placed.runs.whole;
            shape = placed.runs.shape;
            lies = record {
              some = placed.runs.lies.some;
              log_for = placed.runs.lies.log_for;
              lies = record {
                length_is = lies.length_is;
                region_is = lies.region_is;
                regions = λ r lt. region_agrees numbers other (disks_at o) agree running.form.maps.items running.form.layouts.items data_on _ _ _ (lies.regions r lt);
                masks = lies.masks;
                logs = logs_agree numbers other (disks_at o) agree running.form.logs.items log_on (log_sectors running.form.shape.geometry) (log_copies see (log_of running.volume)) lies.logs;
                log = lies.log;
              };
            };
            cut = placed.runs.cut;
          };
          places = placed.places;
          numbered = numbered;
          were_good = placed.were_good;
        },
        refl,
      )

pub numbering_agrees : {P : Type 0} {ghosts : Ghosts P} (see : P → Seen) (running : Running P ghosts) → EachNumberingAgrees see running
numbering_agrees see running c good numbers v placed other agree = runs_by see running c good numbers v placed other agree
