-- A running volume that a plex has left runs as the one of the world, which lies on its other plexes then.
use Rattle.std.proofs.Common.{◌≡◌, ◌≢◌, ℕ, Bool, true, List, Some, sym, ◌∙◌, ap, subst}
use Rattle.std.specs.Prelude.{Contains}
use Rattle.std.proofs.lemmas.Bool.{false≢true}
use Rattle.vx_base.specs.Named.{Word}
use Rattle.vx_piece.specs.Seen.{Seen}
use Rattle.vx_pages.specs.declared.local_piece.LocalPiece.{Ghosts}
use Rattle.vx_config_parts.specs.declared.plex.Plex.{Plex}
use Rattle.vx_config_parts.specs.Objects.{is_data_plex_of, is_log_plex_of}
use Rattle.vx_image.specs.Bytes.{image_of, map_or_zero}
use Rattle.vx_image.specs.Image.{PlexImage}
use Rattle.vx_copies.specs.Disks.{DiskSeen}
use Rattle.vx_moments.specs.World.{Group, OnPlexes, Volume}
use Rattle.vx_volume.specs.Volume.{VolumeSeen, volume_seen}
use Rattle.vx_lending.specs.declared.public.Running.{Running}
use Rattle.vx_volume_laws.specs.Leaving.{AreNamedIn}
use Rattle.vx_change_laws.specs.Laws.{RunsStill}
use Rattle.vx_change_laws.specs.Parting.{EachPartingRunsOn, volume_parted}
use Rattle.vx_change_laws.proofs.Partings.{parting_exact}
use Rattle.vx_group_edits.proofs.DcoEdits.{log_no_data}
use Rattle.vx_group_volumes.specs.Opened.{opened_plexes}
use Rattle.vx_group_volumes.specs.Places.{IsSlotOf, disks_at}
use Rattle.vx_group_volumes.specs.Runs.{Opening}
use Rattle.vx_joined_volumes.specs.Joined.{opening_joined}
use Rattle.vx_joined_volumes.specs.Laws.{AgreeOn}
use Rattle.vx_joined_volumes.specs.Parted.{IsTakenOut}
use Rattle.vx_joined_volumes.specs.PartLaws.{AreNamedWithout, images_without, names_without}
use Rattle.vx_joined_volumes.proofs.PartEdits.{each_taken_out}
use Rattle.vx_joined_volumes.proofs.PartNamed.{each_parting_named}
use Rattle.vx_house.specs.Runs.{IsNumbered, IsRunOf}
use Rattle.vx_house.proofs.Logs.{IsLogPlexStill, spared_before}
use Rattle.vx_stage_mirrors.specs.Joins.{AreNumbersIn, AreStillDisks, GoesOn}
use Rattle.vx_stage_mirrors.proofs.RelogPlaces.{opened_relogged}
use Rattle.vx_stage_dissociation.proofs.PartPlaces.{IsPartedBy, placed_parted}

module _ {P : Type 0} {ghosts : Ghosts P} (see : P → Seen) (before after : Running P ghosts) (parting : EachPartingRunsOn)
    (hs ks : List DiskSeen) (same : AreStillDisks hs ks) (g g' : Group) (goes : GoesOn g g') (name : Word) (w : Volume) (run : IsRunOf see hs g name before w) (numbers : List ℕ) (are : AreNumbersIn numbers hs g)
    (p : Plex) (remove : Bool) (one : IsPartedBy see g.config run.of p remove g'.config before after) where
  abbrev old : VolumeSeen
  old = volume_seen see before.volume

  abbrev new : VolumeSeen
  new = volume_seen see after.volume

  abbrev m : ℕ
  m = map_or_zero p.map

  -- the plexes that it lies on then
  abbrev lies : List Word
  lies = names_without p.name (opened_plexes run.placed.runs.opening)

  abbrev images : List PlexImage
  images = images_without (map_or_zero p.map) run.plexes

  -- ---- its disks

  still_there : (slot : ℕ) → IsNumbered numbers hs g.members slot → IsNumbered numbers ks g'.members slot
  still_there slot n =
      let k = same n.disk n.there in
      record { disk = k.0; there = k.1; device = goes.devices slot n.disk.device n.device ∙ ap (λ (d : Word). Some d) (sym k.2); number = n.number ∙ sym k.3 }

  agree : AgreeOn (disks_at run.placed.runs.opening) run.numbers numbers
  agree slot there = let n = run.opened slot there in are.each slot n.disk n.there n.device ∙ sym n.number

  on_opened : (slot : ℕ) → IsSlotOf (disks_at run.placed.runs.opening) slot → IsNumbered numbers ks g'.members slot
  on_opened slot there =
      let n = run.opened slot there in
      still_there slot (record { disk = n.disk; there = n.there; device = n.device; number = are.each slot n.disk n.there n.device })

  -- ---- its plexes

  abbrev opening : Opening
  opening = opening_joined run.placed.runs.opening g'.config g.good run.of

  taken : IsTakenOut g.config run.of p g'.config
  taken = each_taken_out g.config run.of run.placed.runs.recorded p remove g'.config one.takes

  names_then : opened_plexes opening ≡ lies
  names_then = (each_parting_named see before g.config g.good run.numbers run.of run.placed p remove g'.config one.takes).0

  named : AreNamedWithout opening g'.config run.of p run.plexes
  named = (each_parting_named see before g.config g.good run.numbers run.of run.placed p remove g'.config one.takes).1 run.plexes run.plexes_then run.plexes_of

  -- a log plex is another one, and stays
  log_still : (q : Plex) → Contains g.config.plexes q → is_log_plex_of name q ≡ true → IsLogPlexStill g g' name q
  log_still q there log_is =
      let other : q ≢ p = λ e. false≢true (sym (log_no_data name q log_is) ∙ ap (is_data_plex_of name) e ∙ ap (λ (n : Word). is_data_plex_of n p) (sym run.named) ∙ one.takes.data_is) in
      record { plex = q; there = taken.others q there other; log_is = log_is; columns = (taken.lies q there other).columns }

  -- ---- so it runs

  runs_still : w.sound ≡ true → RunsStill run.plexes images old new w (volume_parted lies w)
  runs_still sound = parting m old new one.volume.loses run.placed.runs.whole one.ready.spare one.ready.settled one.ready.tight run.plexes images named.left w (run.runs_as sound) lies

  pub run_parted : IsRunOf see ks g' name after (volume_parted (names_without p.name (opened_plexes run.placed.runs.opening)) w)
  run_parted =
      let j = placed_parted see before after g.config g.good run.numbers run.of run.placed numbers are.slots agree g'.config p remove one g'.good goes.fewer in
      record {
        of = run.of;
        named = run.named;
        started = run.started;
        numbers = numbers;
        own = are.slots.own;
        placed = j.0;
        opened = opened_relogged run.placed.runs.opening g'.config g.good run.of j.0.runs.opening j.1 (IsNumbered numbers ks g'.members) on_opened (λ slot here. still_there slot (are.some slot here));
        numbered = λ place of here. still_there place.disk (are.some place.disk (goes.fewer place.disk here));
        lies = ap (λ (ns : List Word). OnPlexes ns) (sym names_then) ∙ ap (λ (x : Opening). OnPlexes (opened_plexes x)) (sym j.1);
        length_is = run.length_is;
        region_is = run.region_is;
        plexes = images;
        plexes_of = λ bytes. named.are g'.good bytes;
        plexes_then = λ bytes. subst (λ (x : Opening). AreNamedIn images (image_of x.config x.good bytes x.vol).plexes) (sym j.1) (named.were bytes);
        runs_as = λ sound. (runs_still sound).runs;
        sure = λ sound. (runs_still sound).sure (run.sure sound);
        exact = λ sound spared. parting_exact m old new one.volume.loses (run.exact sound (spared_before g g' goes.devices name w.failed log_still spared));
      }
