-- A running volume of which a plex went on or off runs as the one of the world, of which nothing is sure of a plex that went on.
use Rattle.std.proofs.Common.{◌≡◌, ◌≢◌, ℕ, Bool, true, false, List, Some, refl, sym, ◌∙◌, ap, subst}
use Rattle.std.specs.Prelude.{Contains}
use Rattle.std.proofs.lemmas.Bool.{false≢true}
use Rattle.vx_base.specs.Named.{Word}
use Rattle.vx_piece.specs.Seen.{Seen}
use Rattle.vx_pages.specs.declared.local_piece.LocalPiece.{Ghosts}
use Rattle.vx_pages.proofs.Settlement.{each_is}
use Rattle.vx_config_parts.specs.declared.plex.Plex.{Plex}
use Rattle.vx_config_parts.specs.declared.state.PlexState.{PlexState}
use Rattle.vx_config_parts.specs.Objects.{is_data_plex_of, is_log_plex_of}
use Rattle.vx_image.specs.Bytes.{image_of, map_or_zero}
use Rattle.vx_copies.specs.Disks.{DiskSeen}
use Rattle.vx_moments.specs.World.{Group, OnPlexes, Track, Volume}
use Rattle.vx_cell.specs.Changes.{CellSeen, stage_with}
use Rattle.vx_volume.specs.Switching.{Switches}
use Rattle.vx_volume.specs.Volume.{VolumeSeen, no_cell, volume_seen}
use Rattle.vx_lending.specs.RegionsTaken.{is_among as is_map_among}
use Rattle.vx_lending.specs.declared.public.Running.{Running}
use Rattle.vx_image.specs.Image.{PlexImage}
use Rattle.vx_volume_laws.specs.Leaving.{AreNamedIn}
use Rattle.vx_volume_laws.specs.Running.{IsSureOfOthers, RunsAsVolume}
use Rattle.vx_change_laws.specs.Laws.{RunsStill}
use Rattle.vx_change_laws.specs.Switching.{EachPlexOffRunsOn, EachPlexOnRunsOn, unsure}
use Rattle.vx_change_laws.proofs.Switchings.{switch_exact}
use Rattle.vx_group_edits.proofs.DcoEdits.{log_no_data}
use Rattle.vx_group_volumes.specs.Opened.{opened_plexes}
use Rattle.vx_group_volumes.specs.Places.{IsSlotOf, disks_at}
use Rattle.vx_group_volumes.specs.Runs.{Opening}
use Rattle.vx_joined_volumes.specs.Joined.{opening_joined}
use Rattle.vx_joined_volumes.specs.Laws.{AgreeOn}
use Rattle.vx_joined_volumes.specs.Switched.{IsStateSet}
use Rattle.vx_joined_volumes.specs.SwitchLaws.{AreNamedStill, IsKnownPlex}
use Rattle.vx_joined_volumes.proofs.SwitchEdits.{each_state_set}
use Rattle.vx_joined_volumes.proofs.SwitchNamed.{each_switch_named}
use Rattle.vx_joined_volumes.proofs.SwitchPlexes.{each_plex_known, each_plex_left_out}
use Rattle.vx_house.specs.Runs.{IsNumbered, IsRunOf}
use Rattle.vx_house.proofs.Logs.{IsLogPlexStill, spared_before}
use Rattle.vx_stage_mirrors.specs.Joins.{AreNumbersIn, AreStillDisks, GoesOn}
use Rattle.vx_stage_mirrors.specs.SwitchMoments.{IsReadyToSwitch}
use Rattle.vx_stage_mirrors.proofs.RelogPlaces.{opened_relogged}
use Rattle.vx_stage_mirrors.proofs.SwitchPlaces.{IsSwitchedBy, placed_switched}

-- ---- the volume of the world

-- nothing is sure of a plex that went on
abbrev pub tracks_then : Bool → Word → (Word → Track) → Word → Track
tracks_then false plex tracks = tracks
tracks_then true plex tracks = unsure plex tracks

abbrev pub volume_then : Bool → Word → Volume → Volume
volume_then on plex w = record w { tracks = tracks_then on plex w.tracks }

-- ---- a plex that was not there

-- a volume that is as with the plex off is the same where the plex goes off
off_same : (map : ℕ) (old new : VolumeSeen) → Switches map false old old → Switches map false old new → new ≡ old
off_same map old new still gone =
    let off : CellSeen → CellSeen = λ c. record c { stage = stage_with c.stage map false } in
    let cells : new.cells ≡ old.cells = each_is no_cell off old.cells new.cells gone.cells ∙ sym (each_is no_cell off old.cells old.cells still.cells) in
    gone.same ∙ ap (λ (cs : List CellSeen). record old { cells = cs }) cells

-- a volume goes on as it is
runs_same : (old new : VolumeSeen) → new ≡ old → (plexes : List PlexImage) (w : Volume) → RunsAsVolume plexes old w → RunsStill plexes plexes old new w w
runs_same old new same plexes w runs =
    record {
      runs = subst (λ (v : VolumeSeen). RunsAsVolume plexes v w) (sym same) runs;
      sure = λ sure. subst (λ (v : VolumeSeen). IsSureOfOthers plexes v w) (sym same) sure;
    }

-- ---- the run

module _ {P : Type 0} {ghosts : Ghosts P} (see : P → Seen) (before after : Running P ghosts) (offs : EachPlexOffRunsOn) (ons : EachPlexOnRunsOn)
    (hs ks : List DiskSeen) (same : AreStillDisks hs ks) (g g' : Group) (goes : GoesOn g g') (name : Word) (w : Volume) (run : IsRunOf see hs g name before w) (numbers : List ℕ) (are : AreNumbersIn numbers hs g)
    (p : Plex) (state : PlexState) (on : Bool) (one : IsSwitchedBy see g.config run.of p state on g'.config before after) where
  abbrev old : VolumeSeen
  old = volume_seen see before.volume

  abbrev new : VolumeSeen
  new = volume_seen see after.volume

  abbrev m : ℕ
  m = map_or_zero p.map

  -- ---- its disks

  still_there : (slot : ℕ) → IsNumbered numbers hs g.members slot → IsNumbered numbers ks g'.members slot
  still_there slot n =
      let k = same n.disk n.there in
      record { disk = k.0; there = k.1; device = goes.devices slot n.disk.device n.device ∙ ap (λ (d : Word). Some d) (sym k.2); number = n.number ∙ sym k.3 }

  agree : AgreeOn (disks_at run.placed.runs.opening) run.numbers numbers
  agree slot there = let n = run.opened slot there in are.each slot n.disk n.there n.device ∙ sym n.number

  on_opened : (slot : ℕ) → IsSlotOf (disks_at run.placed.runs.opening) slot → IsNumbered numbers ks g'.members slot
  on_opened slot there =
      let n = run.opened slot there in
      still_there slot (record { disk = n.disk; there = n.there; device = n.device; number = are.each slot n.disk n.there n.device })

  -- ---- its plexes

  abbrev opening : Opening
  opening = opening_joined run.placed.runs.opening g'.config g.good run.of

  set_so : IsStateSet g.config run.of p state g'.config
  set_so = each_state_set g.config run.of run.placed.runs.recorded p state g'.config one.sets

  names_same : opened_plexes opening ≡ opened_plexes run.placed.runs.opening
  names_same = (each_switch_named see before g.config g.good run.numbers run.of run.placed p state g'.config one.sets).0

  named_still : AreNamedStill opening g'.config run.of p run.plexes
  named_still = (each_switch_named see before g.config g.good run.numbers run.of run.placed p state g'.config one.sets).1 run.plexes run.plexes_then run.plexes_of

  known : IsKnownPlex see before run.placed.runs.opening g.config g.good p
  known = each_plex_known see before g.config g.good run.numbers run.of run.placed p one.sets.there one.sets.data_is

  -- a log plex is another one, and stays
  log_still : (q : Plex) → Contains g.config.plexes q → is_log_plex_of name q ≡ true → IsLogPlexStill g g' name q
  log_still q there log_is =
      let other : q ≢ p = λ e. false≢true (sym (log_no_data name q log_is) ∙ ap (is_data_plex_of name) e ∙ ap (λ (n : Word). is_data_plex_of n p) (sym run.named) ∙ one.sets.data_is) in
      record { plex = q; there = set_so.others q there other; log_is = log_is; columns = (set_so.lies q).columns }

  -- ---- so it runs

  runs_on : (on : Bool) → IsReadyToSwitch see p on before → Switches m on old new → w.sound ≡ true → RunsStill run.plexes run.plexes old new w (volume_then on p.name w)
  runs_on false ready switches sound = by (is_map_among m before.form.maps.items) refl
    where
      by : (b : Bool) → is_map_among m before.form.maps.items ≡ b → RunsStill run.plexes run.plexes old new w w
      by true taken = offs m old new switches run.placed.runs.whole (known.there taken) ready.1.1 ready.0 ready.1.0 run.plexes w (run.runs_as sound) (run.sure sound)
      by false none =
          let left = each_plex_left_out see before g.config g.good run.numbers run.of run.placed p one.sets.there one.sets.data_is none in
          runs_same old new (off_same m old new left.1.switches switches) run.plexes w (run.runs_as sound)
  runs_on true ready switches sound = ons m old new switches run.placed.runs.whole (known.there ready) run.plexes p.name named_still.named w (run.runs_as sound)

  runs_still : w.sound ≡ true → RunsStill run.plexes run.plexes old new w (volume_then on p.name w)
  runs_still sound = runs_on on one.ready one.volume.switches sound

  pub run_switched : IsRunOf see ks g' name after (volume_then on p.name w)
  run_switched =
      let j = placed_switched see before after g.config g.good run.numbers run.of run.placed numbers are.slots agree g'.config p state on one g'.good goes.fewer in
      record {
        of = run.of;
        named = run.named;
        started = run.started;
        numbers = numbers;
        own = are.slots.own;
        placed = j.0;
        opened = opened_relogged run.placed.runs.opening g'.config g.good run.of j.0.runs.opening j.1 (IsNumbered numbers ks g'.members) on_opened (λ slot here. still_there slot (are.some slot here));
        numbered = λ place of here. still_there place.disk (are.some place.disk (goes.fewer place.disk here));
        lies = run.lies ∙ ap (λ (ns : List Word). OnPlexes ns) (sym names_same) ∙ ap (λ (x : Opening). OnPlexes (opened_plexes x)) (sym j.1);
        length_is = run.length_is;
        region_is = run.region_is;
        plexes = run.plexes;
        plexes_of = λ bytes. named_still.are g'.good bytes;
        plexes_then = λ bytes. subst (λ (x : Opening). AreNamedIn run.plexes (image_of x.config x.good bytes x.vol).plexes) (sym j.1) (named_still.were bytes);
        runs_as = λ sound. (runs_still sound).runs;
        sure = λ sound. (runs_still sound).sure (run.sure sound);
        exact = λ sound spared. switch_exact m on old new one.volume.switches (run.exact sound (spared_before g g' goes.devices name w.failed log_still spared));
      }
