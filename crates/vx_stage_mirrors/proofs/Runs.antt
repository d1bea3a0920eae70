-- A running volume that a plex has joined runs as the one of the world that the plex has joined.
use Rattle.std.proofs.Common.{◌≡◌, ℕ, true, List, [], ◌∷◌, ◌++◌, Some, refl, sym, ◌∙◌, ap, subst}
use Rattle.std.specs.Prelude.{Contains}
use Rattle.vx_base.specs.Named.{Word}
use Rattle.vx_piece.specs.Seen.{Seen}
use Rattle.vx_pages.specs.declared.local_piece.LocalPiece.{Ghosts}
use Rattle.vx_layout.specs.declared.layout.Layout.{Layout}
use Rattle.vx_config_parts.specs.declared.object.Object.{Object}
use Rattle.vx_config_parts.specs.declared.plex.Plex.{Plex}
use Rattle.vx_config_parts.specs.Objects.{is_log_plex_of}
use Rattle.vx_image.specs.Bytes.{image_of}
use Rattle.vx_image.specs.Image.{PlexImage}
use Rattle.vx_copies.specs.Disks.{DiskSeen}
use Rattle.vx_moments.specs.World.{Group, OnPlexes, Volume}
use Rattle.vx_stages.specs.Logs.{LogIsSpared}
use Rattle.vx_volume.specs.Volume.{volume_seen}
use Rattle.vx_lending.specs.declared.public.Running.{Running}
use Rattle.vx_volume_laws.specs.Exact.{IsExactVolume}
use Rattle.vx_volume_laws.specs.Leaving.{AreNamedIn}
use Rattle.vx_change_laws.specs.Joining.{volume_joined}
use Rattle.vx_change_laws.specs.Laws.{EachJoiningRunsOn, RunsStill}
use Rattle.vx_change_laws.proofs.Exactness.{joining_exact}
use Rattle.vx_group_edits.proofs.Joined.{plex_joins}
use Rattle.vx_group_volumes.specs.Opened.{opened_plexes}
use Rattle.vx_group_volumes.specs.Places.{IsSlotOf, disks_at}
use Rattle.vx_group_volumes.specs.Runs.{Opening}
use Rattle.vx_joined_volumes.specs.Joined.{opening_joined}
use Rattle.vx_joined_volumes.specs.Laws.{AgreeOn, IsNamedSo}
use Rattle.vx_joined_volumes.proofs.Named.{each_volume_named}
use Rattle.vx_house.specs.Runs.{IsNumbered, IsRunOf}
use Rattle.vx_house.proofs.Logs.{IsLogPlexStill, spared_before}
use Rattle.vx_stage_mirrors.specs.Joins.{AreNewIn, AreNumbersIn, AreStillDisks, GoesOn, IsJoinedBy}
use Rattle.vx_stage_mirrors.specs.JoiningLaws.{EachJoinedPlexRuns}
use Rattle.vx_stage_mirrors.proofs.Places.{opened_joined, placed_joined}

-- what is seen of the new plex by its name and map
abbrev image_new : Plex → ℕ → PlexImage
image_new p m = record { name = p.name; map = m; state = p.state; held = true; values = λ k. [] }

module _ {P : Type 0} {ghosts : Ghosts P} (see : P → Seen) (before after : Running P ghosts) (on : EachJoiningRunsOn) (hs ks : List DiskSeen) (same : AreStillDisks hs ks) (g g' : Group) (goes : GoesOn g g')
    (name : Word) (w : Volume) (run : IsRunOf see hs g name before w) (numbers : List ℕ) (are : AreNumbersIn numbers hs g)
    (added : List Object) (p : Plex) (m : ℕ) (l : Layout) (runs : List (List Seen)) (one : IsJoinedBy see g.config g.good run.of numbers added g'.config p m l runs before after)
    (new : AreNewIn see m runs before) where
  abbrev o : Opening
  o = run.placed.runs.opening

  abbrev opening : Opening
  opening = opening_joined run.placed.runs.opening g'.config g.good run.of

  abbrev lies : List Word
  lies = opened_plexes (opening_joined run.placed.runs.opening g'.config g.good run.of)

  abbrev joined : Volume
  joined = volume_joined (opened_plexes (opening_joined run.placed.runs.opening g'.config g.good run.of)) p.name w

  -- ---- its disks

  still_on : (slot : ℕ) → IsNumbered numbers hs g.members slot → IsNumbered numbers ks g'.members slot
  still_on slot n =
      let k = same n.disk n.there in
      record { disk = k.0; there = k.1; device = goes.devices slot n.disk.device n.device ∙ ap (λ (d : Word). Some d) (sym k.2); number = n.number ∙ sym k.3 }

  agree : AgreeOn (disks_at run.placed.runs.opening) run.numbers numbers
  agree slot there = let n = run.opened slot there in are.each slot n.disk n.there n.device ∙ sym n.number

  on_opened : (slot : ℕ) → IsSlotOf (disks_at run.placed.runs.opening) slot → IsNumbered numbers ks g'.members slot
  on_opened slot there =
      let n = run.opened slot there in
      still_on slot (record { disk = n.disk; there = n.there; device = n.device; number = are.each slot n.disk n.there n.device })

  -- ---- its plexes

  abbrev later : List PlexImage
  later = run.plexes ++ image_new p m ∷ []

  named : IsNamedSo opening g'.config run.of p m run.plexes later
  named = (each_volume_named see before g.config g.good run.numbers run.of run.placed added g'.config p m one.joins).1 run.plexes run.plexes_then run.plexes_of (image_new p m) refl refl

  runs_still : w.sound ≡ true → RunsStill run.plexes later (volume_seen see before.volume) (volume_seen see after.volume) w joined
  runs_still sound =
      on m runs (volume_seen see before.volume) (volume_seen see after.volume) one.volume.puts run.placed.runs.whole new.free one.volume.fits new.told
      run.plexes later p.name named.map named.name named.joined w (run.runs_as sound) lies

  -- ---- its log

  log_still : (q : Plex) → Contains g.config.plexes q → is_log_plex_of name q ≡ true → IsLogPlexStill g g' name q
  log_still q there log_is =
      let stays = (plex_joins g.config g'.config run.of.name added one.joins.of one.joins.edited).old q there in
      record { plex = q; there = stays.there; log_is = log_is; columns = stays.lies.columns }

  exact : w.sound ≡ true → LogIsSpared g' name w.failed → IsExactVolume (volume_seen see after.volume)
  exact sound spared = joining_exact m runs (volume_seen see before.volume) (volume_seen see after.volume) one.volume.puts (run.exact sound (spared_before g g' goes.devices name w.failed log_still spared))

  -- ---- the run

  pub run_joined : IsRunOf see ks g' name after joined
  run_joined =
      let j = placed_joined see before after g.config g.good run.numbers run.of run.placed numbers are.slots agree added g'.config p m l runs one g'.good goes.fewer in
      record {
        of = run.of;
        named = run.named;
        started = run.started;
        numbers = numbers;
        own = are.slots.own;
        placed = j.0;
        opened = opened_joined see before after g.config g.good run.numbers run.of run.placed numbers are.slots agree added g'.config p m l runs one j.0.runs.opening j.1 (IsNumbered numbers ks g'.members) on_opened
            (λ slot here. still_on slot (are.some slot here));
        numbered = λ place of here. still_on place.disk (are.some place.disk (goes.fewer place.disk here));
        lies = ap (λ (x : Opening). OnPlexes (opened_plexes x)) (sym j.1);
        length_is = run.length_is;
        region_is = run.region_is;
        plexes = later;
        plexes_of = λ bytes. named.are g'.good bytes;
        plexes_then = λ bytes. subst (λ (x : Opening). AreNamedIn later (image_of x.config x.good bytes x.vol).plexes) (sym j.1) (named.were bytes);
        runs_as = λ sound. (runs_still sound).runs;
        sure = λ sound. (runs_still sound).sure (run.sure sound);
        exact = exact;
      }

pub each_run_joined : {P : Type 0} {ghosts : Ghosts P} (see : P → Seen) (before after : Running P ghosts) → EachJoiningRunsOn → EachJoinedPlexRuns see before after
each_run_joined see before after on hs ks same g g' goes name w run numbers are added p m l runs one new =
    run_joined see before after on hs ks same g g' goes name w run numbers are added p m l runs one new
