-- A running volume that a log plex has left runs as the one of the world, which lies on its other plexes then.
use Rattle.std.proofs.Common.{◌≡◌, ◌∙◌, ℕ, ◌<◌, Bool, true, false, List, Some, length, refl, sym, ap, subst, inl, inr, arith}
use Rattle.std.specs.Prelude.{Contains}
use Rattle.std.specs.List.{list_any}
use Rattle.vx_base.specs.Named.{Word}
use Rattle.vx_piece.specs.Seen.{Seen}
use Rattle.vx_pages.specs.declared.local_piece.LocalPiece.{Ghosts}
use Rattle.vx_layout.specs.declared.layout.Layout.{Layout}
use Rattle.vx_config_parts.specs.declared.plex.Plex.{Plex}
use Rattle.vx_image.specs.Bytes.{image_of}
use Rattle.vx_image.specs.Image.{PlexImage}
use Rattle.vx_copies.specs.Disks.{DiskSeen}
use Rattle.vx_core.specs.Region.{RegionState}
use Rattle.vx_moments.specs.Owners.{devices_on}
use Rattle.vx_moments.specs.World.{Group, Lies, OnPlexes, Volume}
use Rattle.vx_volume.specs.Volume.{VolumeSeen, log_of, volume_seen}
use Rattle.vx_lending.specs.Logs.{log_copies}
use Rattle.vx_lending.specs.declared.public.Running.{Running}
use Rattle.vx_volume_laws.specs.Exact.{IsExactVolume}
use Rattle.vx_volume_laws.specs.Leaving.{AreNamedIn}
use Rattle.vx_volume_laws.specs.Running.{IsSureOfOthers, RegionRunsAs, RunsAsVolume, state_at}
use Rattle.vx_change_laws.specs.Laws.{RunsStill}
use Rattle.vx_change_laws.specs.Yielding.{EachCopyGivenUpRunsOn}
use Rattle.vx_change_laws.proofs.Yieldings.{yielding_exact}
use Rattle.vx_group_volumes.specs.Opened.{opened_plexes}
use Rattle.vx_group_volumes.specs.Places.{IsSlotOf, RunsInPlace, disks_at}
use Rattle.vx_group_volumes.specs.Runs.{Opening}
use Rattle.vx_joined_volumes.specs.Joined.{opening_joined}
use Rattle.vx_joined_volumes.specs.Laws.{AgreeOn}
use Rattle.vx_joined_volumes.specs.PartLaws.{names_without}
use Rattle.vx_yielded_volumes.specs.YieldLaws.{AreNamedYet}
use Rattle.vx_yielded_volumes.proofs.Named.{each_yielding_named}
use Rattle.vx_stages.specs.Left.{failed_without, volume_left}
use Rattle.vx_stages.specs.Logs.{LogIsSpared}
use Rattle.vx_house.specs.Runs.{IsNumbered, IsRunOf}
use Rattle.vx_stage_mirrors.specs.Joins.{AreNumbersIn, AreStillDisks, GoesOn}
use Rattle.vx_stage_mirrors.proofs.RelogPlaces.{opened_relogged}
use Rattle.vx_stage_dissociation.proofs.YieldExact.{not_spared, spared_then}
use Rattle.vx_stage_dissociation.proofs.YieldLogs.{IsLogUsed, log_used}
use Rattle.vx_stage_dissociation.proofs.YieldPlaces.{IsYieldedBy, placed_yielded}
use Rattle.vx_stage_dissociation.proofs.YieldWhole.{IsCopyGone, IsCopyNowhere, IsLogOff}

-- ---- as what a volume runs says nothing of where it lies, or of what has failed

module _ (w : Volume) (lies : Lies) (failed : Word → Bool) where
  abbrev other : Volume
  other = record w { lies = lies; failed = failed }

  region_elsewhere : (plexes : List PlexImage) (s : RegionState) (r : ℕ) → RegionRunsAs plexes s r w → RegionRunsAs plexes s r other
  region_elsewhere plexes s r x = record { kept = x.kept; here = x.here; candidates = x.candidates; last = x.last; tracks = x.tracks; dirty = x.dirty; unsettled = x.unsettled }

  pub runs_elsewhere : (plexes : List PlexImage) (v : VolumeSeen) → RunsAsVolume plexes v w → RunsAsVolume plexes v (record w { lies = lies; failed = failed })
  runs_elsewhere plexes v run = record {
    fixed = run.fixed;
    some = run.some;
    sized = run.sized;
    length_is = run.length_is;
    region_is = run.region_is;
    epoch = run.epoch;
    told = run.told;
    held = run.held;
    copies = run.copies;
    each = λ r lt. region_elsewhere plexes (state_at v run.fixed w.life.entries r) r (run.each r lt);
  }

-- ---- the run

module _ {P : Type 0} {ghosts : Ghosts P} (before after : Running P ghosts) (gives : EachCopyGivenUpRunsOn)
    (hs ks : List DiskSeen) (same : AreStillDisks hs ks) (g g' : Group) (goes : GoesOn g g') (name : Word) (w : Volume) (run : IsRunOf ghosts.seen hs g name before w) (numbers : List ℕ) (are : AreNumbersIn numbers hs g)
    (p : Plex) (remove : Bool) (l : Layout) (one : IsYieldedBy ghosts.seen g.config run.of p remove g'.config l before after) where
  abbrev see : P → Seen
  see = ghosts.seen

  abbrev old : VolumeSeen
  old = volume_seen ghosts.seen before.volume

  abbrev new : VolumeSeen
  new = volume_seen ghosts.seen after.volume

  -- the plexes that it lies on then, and what it is in the world
  abbrev names : List Word
  names = opened_plexes run.placed.runs.opening

  abbrev later : Volume
  later = volume_left g name p (opened_plexes run.placed.runs.opening) w

  -- ---- its disks

  numbered_here : (slot : ℕ) → IsNumbered run.numbers hs g.members slot → IsNumbered numbers hs g.members slot
  numbered_here slot n = record { disk = n.disk; there = n.there; device = n.device; number = are.each slot n.disk n.there n.device }

  still_there : (slot : ℕ) → IsNumbered numbers hs g.members slot → IsNumbered numbers ks g'.members slot
  still_there slot n =
      let k = same n.disk n.there in
      record { disk = k.0; there = k.1; device = goes.devices slot n.disk.device n.device ∙ ap (λ (d : Word). Some d) (sym k.2); number = n.number ∙ sym k.3 }

  agree : AgreeOn (disks_at run.placed.runs.opening) run.numbers numbers
  agree slot there = let n = run.opened slot there in are.each slot n.disk n.there n.device ∙ sym n.number

  on_opened : (slot : ℕ) → IsSlotOf (disks_at run.placed.runs.opening) slot → IsNumbered numbers hs g.members slot
  on_opened slot there = numbered_here slot (run.opened slot there)

  -- ---- its place

  abbrev opening : Opening
  opening = opening_joined run.placed.runs.opening g'.config g.good run.of

  placed : (now : RunsInPlace ghosts.seen g'.config g'.good numbers run.of after) × (now.runs.opening ≡ opening_joined run.placed.runs.opening g'.config g.good run.of)
  placed = placed_yielded before after g.config g.good run.numbers run.of run.placed numbers are.slots agree g'.config p remove l one g'.good goes.fewer

  opened_here : (slot : ℕ) → IsSlotOf (disks_at placed.0.runs.opening) slot → IsNumbered numbers hs g.members slot
  opened_here = opened_relogged run.placed.runs.opening g'.config g.good run.of placed.0.runs.opening placed.1 (IsNumbered numbers hs g.members) on_opened are.some

  -- ---- its plexes

  names_then : opened_plexes opening ≡ names_without p.name names
  names_then = (each_yielding_named see before g.config g.good run.numbers run.of run.placed p remove g'.config one.takes).0

  named : AreNamedYet opening g'.config run.of run.plexes
  named = (each_yielding_named see before g.config g.good run.numbers run.of run.placed p remove g'.config one.takes).1 run.plexes run.plexes_then run.plexes_of

  -- ---- so it runs

  runs_by : IsLogOff ghosts.seen l before after → w.sound ≡ true → RunsStill run.plexes run.plexes old new w w
  runs_by (inl gone) sound = gives gone.copy old new gone.volume.yields run.plexes w (run.runs_as sound)
  runs_by (inr nowhere) sound = subst (λ (x : Running P ghosts). RunsStill run.plexes run.plexes old (volume_seen ghosts.seen x.volume) w w) (sym nowhere.same) (record { runs = run.runs_as sound; sure = λ sure. sure })

  runs_still : w.sound ≡ true → RunsStill run.plexes run.plexes old new w w
  runs_still sound = runs_by one.off sound

  -- ---- its log

  exact_by : IsLogOff ghosts.seen l before after → w.sound ≡ true → IsExactVolume old → IsExactVolume new
  exact_by (inl gone) sound exact = yielding_exact gone.copy old new gone.volume.yields (run.runs_as sound).told exact
  exact_by (inr nowhere) sound exact = subst (λ (x : Running P ghosts). IsExactVolume (volume_seen ghosts.seen x.volume)) (sym nowhere.same) exact

  -- where it has a copy, a log plex of it lies on a device
  some_log : (n : ℕ) → n < new.log.copies → 0 < length after.form.logs.items
  some_log n lt =
      let count : new.log.copies ≡ length (log_copies ghosts.seen (log_of after.volume)) = placed.0.runs.lies.lies.log.count in
      let long : length (log_copies ghosts.seen (log_of after.volume)) ≡ length after.form.logs.items = placed.0.runs.lies.lies.logs.long in
      omega (arith, lt, count, long)

  unspared : (n : ℕ) → n < new.log.copies → list_any w.failed (devices_on g p) ≡ true → LogIsSpared g' name (failed_without g name p w.failed) → ⊥
  unspared n lt has spared =
      let u = log_used after g'.config g'.good numbers run.of placed.0 (some_log n lt) in
      let on = elim u.slot as (λ s. IsNumbered numbers hs g.members u.strip.disk) [ inl then ↦ opened_here u.strip.disk then | inr now ↦ are.some u.strip.disk (goes.fewer u.strip.disk now) ] in
      not_spared g g' goes name w.failed run.of run.named run.placed.runs.recorded p remove one.takes g'.good placed.0.runs.opening u on.disk.device on.device has spared

  exact_then : w.sound ≡ true → LogIsSpared g' name (failed_without g name p w.failed) → IsExactVolume new
  exact_then sound spared = by (list_any w.failed (devices_on g p)) refl
    where
      by : (b : Bool) → list_any w.failed (devices_on g p) ≡ b → IsExactVolume new
      by false none = exact_by one.off sound (run.exact sound (spared_then g g' goes name w.failed run.of run.named run.placed.runs.recorded p remove one.takes spared none))
      by true has = λ r n lt alive few. absurd (unspared n few has spared)

  pub run_yielded : IsRunOf ghosts.seen ks g' name after (volume_left g name p (opened_plexes run.placed.runs.opening) w)
  run_yielded = record {
    of = run.of;
    named = run.named;
    started = run.started;
    numbers = numbers;
    own = are.slots.own;
    placed = placed.0;
    opened = λ slot there. still_there slot (opened_here slot there);
    numbered = λ place of here. still_there place.disk (are.some place.disk (goes.fewer place.disk here));
    lies = ap (λ (ns : List Word). OnPlexes ns) (sym names_then) ∙ ap (λ (x : Opening). OnPlexes (opened_plexes x)) (sym placed.1);
    length_is = run.length_is;
    region_is = run.region_is;
    plexes = run.plexes;
    plexes_of = λ bytes. named.are g'.good bytes;
    plexes_then = λ bytes. subst (λ (x : Opening). AreNamedIn run.plexes (image_of x.config x.good bytes x.vol).plexes) (sym placed.1) (named.were bytes);
    runs_as = λ sound. runs_elsewhere w (OnPlexes (names_without p.name names)) (failed_without g name p w.failed) run.plexes new (runs_still sound).runs;
    sure = λ sound. (runs_still sound).sure (run.sure sound);
    exact = exact_then;
  }
