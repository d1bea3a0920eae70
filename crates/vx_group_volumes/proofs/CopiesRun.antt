-- A volume whose plexes are copied to runs on as the volume of the world whose devices have failed too.
use Rattle.std.proofs.Common.{◌≡◌, ◌⊎◌, inl, inr, ℕ, zero, suc, ◌*◌, ◌<◌, Bool, List, length, Option, Some, None, Result, Ok, Err, refl, sym, ◌∙◌, subst}
use Rattle.vx_base.specs.Named.{Word}
use Rattle.vx_mask.specs.Mask.{has}
use Rattle.vx_mask.proofs.Tests.{true_or_false}
use Rattle.vx_cell.specs.declared.fault.CellFault.{CellFault}
use Rattle.vx_cell.proofs.Changes.{rose_now, rose_still}
use Rattle.vx_image.specs.Image.{PlexImage}
use Rattle.vx_moments.specs.World.{Volume}
use Rattle.vx_moments.specs.Tracks.{TrackOwner, volume_failed}
use Rattle.vx_volume.specs.declared.fault.IoFault.{IoFault}
use Rattle.vx_volume.specs.Calls.{io_stop}
use Rattle.vx_volume.specs.Loop.{AreDone, AreMade}
use Rattle.vx_volume.specs.Passes.{CopiesTo, CopyEnds, Copying}
use Rattle.vx_volume.specs.Volume.{IsVolume, VolumeSeen, blocks_in, cell_at, region_at}
use Rattle.vx_volume.proofs.Regions.{IsLeft, copied_left}
use Rattle.vx_volume.proofs.Steps.{step_volume, volume_ready}
use Rattle.vx_volume_laws.specs.Calls.{KeepsPlaces}
use Rattle.vx_volume_laws.specs.RunLaws.{EachCopyRunsOn, FailuresAreTold, OwnersFit}
use Rattle.vx_volume_laws.specs.Running.{IsSureOfOthers, RunsAsVolume}
use Rattle.vx_volume_laws.proofs.Keepings.{each_copy_keeps, keeping_keeps, keeps_same}
use Rattle.vx_group_calls.proofs.Failures.{copying_gone}
use Rattle.vx_group_calls.proofs.Keeping.{HasGone, gone_same, gone_then}
use Rattle.vx_group_start.specs.Copying.{AreCopied, CopiesMap}
use Rattle.vx_group_volumes.proofs.Rests.{failed_twice, same_map}

-- ---- it is a volume still

-- a region that is copied leaves a volume
region_volume : (map r : ℕ) (stop : Option CellFault) (old new : Copying) → CopiesTo map r stop old new → IsVolume old.volume → IsVolume new.volume
region_volume map r stop old new step is =
    let a = old.volume in
    let b = new.volume in
    let changes = step.ends in
    let cell = is.each r changes.inside in
    let ready = volume_ready a r is changes.inside in
    let l = copied_left (region_at a r) (region_at b r) ready a.most cell.below changes.goes in
    let here : IsLeft a.most r (r * a.region) (blocks_in a r) a.log (region_at b r) =
    record { idle = l.idle; whole = l.whole; region = l.region ∙ cell.index; start = l.start ∙ cell.start; size = l.size ∙ cell.size; number = l.number; log = l.log } in
    subst IsVolume (sym changes.same) (step_volume a r is changes.inside b.cells b.log changes.count changes.others (cell_at b r) refl here)

regions_volume : (map n : ℕ) (old new : Copying) → AreDone (CopiesTo map) n old new → IsVolume old.volume → IsVolume new.volume
regions_volume map zero old new same is = subst (λ (c : Copying). IsVolume c.volume) (sym same) is
regions_volume map (suc n) old new (mid, done, last) is = region_volume map n None mid new last (regions_volume map n old mid done is)

made_volume : (map total : ℕ) (stop : Option CellFault) (old new : Copying) → AreMade (CopiesTo map) total stop old new → IsVolume old.volume → IsVolume new.volume
made_volume map total None old new done is = regions_volume map total old new done is
made_volume map total (Some fault) old new (n, mid, low, done, last) is = region_volume map n (Some fault) mid new last (regions_volume map n old mid done is)

pub pass_volume : (map : ℕ) (old new : VolumeSeen) (result : Result ℕ IoFault) → CopyEnds map old new result → IsVolume old → IsVolume new
pass_volume map old new (Ok n) ends is = made_volume map (length old.cells) None (record { volume = old; copied = 0 }) (record { volume = new; copied = n }) ends is
pass_volume map old new (Err fault) ends is = made_volume map (length old.cells) (io_stop {T = ℕ} (Err fault)) (record { volume = old; copied = 0 }) (record { volume = new; copied = ends.0 }) ends.1 is

map_volume : (mask map : ℕ) (stop : Option CellFault) (old new : VolumeSeen) → CopiesMap mask map stop old new → IsVolume old → IsVolume new
map_volume mask map stop old new copies is = elim (true_or_false (has mask map)) [
  | inl there ↦ let pass = copies.pass there in pass_volume map old new pass.result pass.ends is
  | inr away ↦ subst IsVolume (sym (copies.none away).1) is
]

maps_volume : (mask n : ℕ) (old new : VolumeSeen) → AreDone (CopiesMap mask) n old new → IsVolume old → IsVolume new
maps_volume mask zero old new same is = subst IsVolume (sym same) is
maps_volume mask (suc n) old new (mid, done, last) is = map_volume mask n None mid new last (maps_volume mask n old mid done is)

-- once all copies were made it is one
pub copied_volume : (mask n : ℕ) (old new : VolumeSeen) → AreCopied mask old new (Ok n) → IsVolume old → IsVolume new
copied_volume mask n old new copied is = maps_volume mask copied.maps old new copied.made is

-- ---- it runs on

-- the volume runs as this one, of which nothing is sure of plexes that are written to if nothing was of the other before
abbrev pub RunsAfter : List PlexImage → VolumeSeen → Volume → VolumeSeen → Volume → Type 0
RunsAfter plexes old w new later = RunsAsVolume plexes new later × (IsSureOfOthers plexes old w → IsSureOfOthers plexes new later)

module _ (law : EachCopyRunsOn) (mask : ℕ) (old new : VolumeSeen) (was : IsVolume old) (plexes : List PlexImage) (w : Volume) (run : RunsAsVolume plexes old w)
    (owners : Word → TrackOwner) (failed : Word → Bool) (fit : OwnersFit plexes old owners) (told : FailuresAreTold plexes owners failed old new) where
  abbrev later : Volume
  later = volume_failed owners failed w

  -- So far is the volume: nothing was called, or it runs on.
  record IsAt (mid : VolumeSeen) : Type 0 where
    gone : HasGone old mid
    places : KeepsPlaces old mid
    volume : IsVolume mid
    runs : (mid ≡ old) ⊎ RunsAfter plexes old w mid later

  fit_at : (mid : VolumeSeen) → IsAt mid → OwnersFit plexes mid owners
  fit_at mid at p there r inside =
      let inside_old = subst (λ (n : ℕ). r < n) at.gone.kept.count inside in
      same_map (cell_at old r).stage (cell_at mid r).stage (at.places.masks r inside_old) p.map (owners p.name) (fit p there r inside_old)

  told_at : (mid next : VolumeSeen) → IsAt mid → HasGone mid next → HasGone next new → FailuresAreTold plexes owners failed mid next
  told_at mid next at step rest p there r inside rose =
      let inside_old = subst (λ (n : ℕ). r < n) at.gone.kept.count inside in
      let inside_next = subst (λ (n : ℕ). r < n) (sym step.kept.count) inside in
      told p there r inside_old
      (rose_still p.map (cell_at old r).plexes (cell_at next r).plexes (cell_at new r).plexes
      (rose_now p.map (cell_at old r).plexes (cell_at mid r).plexes (cell_at next r).plexes (at.gone.kept.plexes r inside_old) rose)
      (rest.kept.plexes r inside_next))

  passes : (map : ℕ) (mid next : VolumeSeen) (result : Result ℕ IoFault) → CopyEnds map mid next result → IsAt mid → HasGone next new → IsAt next
  passes map mid next result ends at rest = record {
    gone = gone_then old mid next at.gone step;
    places = keeping_keeps old mid next at.places (each_copy_keeps map mid next result ends);
    volume = whole;
    runs = inr (by at.runs);
  }
    where
      step : HasGone mid next
      step = copying_gone map mid next result ends

      whole : IsVolume next
      whole = pass_volume map mid next result ends at.volume

      on : (x : Volume) → RunsAsVolume plexes mid x → RunsAfter plexes mid x next (volume_failed owners failed x)
      on x runs = law map mid next result ends at.volume whole plexes x runs owners failed (fit_at mid at) (told_at mid next at step rest)

      by : (mid ≡ old) ⊎ RunsAfter plexes old w mid later → RunsAfter plexes old w next later
      by (inl same) =
          let r = on w (subst (λ (v : VolumeSeen). RunsAsVolume plexes v w) (sym same) run) in
          (r.0, λ sure. r.1 (subst (λ (v : VolumeSeen). IsSureOfOthers plexes v w) (sym same) sure))
      by (inr (runs, sure)) =
          let r = on later runs in
          (subst (RunsAsVolume plexes next) (failed_twice owners failed w) r.0, λ s. subst (IsSureOfOthers plexes next) (failed_twice owners failed w) (r.1 (sure s)))

  one_map : (map : ℕ) (stop : Option CellFault) (mid next : VolumeSeen) → CopiesMap mask map stop mid next → IsAt mid → HasGone next new → IsAt next
  one_map map stop mid next copies at rest = elim (true_or_false (has mask map)) [
    | inl there ↦ let pass = copies.pass there in passes map mid next pass.result pass.ends at rest
    | inr away ↦ subst IsAt (sym (copies.none away).1) at
  ]

  gone_map : (map : ℕ) (stop : Option CellFault) (mid next : VolumeSeen) → CopiesMap mask map stop mid next → HasGone mid next
  gone_map map stop mid next copies = elim (true_or_false (has mask map)) [
    | inl there ↦ let pass = copies.pass there in copying_gone map mid next pass.result pass.ends
    | inr away ↦ subst (HasGone mid) (sym (copies.none away).1) (gone_same mid)
  ]

  maps_done : (n : ℕ) (mid : VolumeSeen) → AreDone (CopiesMap mask) n old mid → HasGone mid new → IsAt mid
  maps_done zero mid same rest = subst IsAt (sym same) (record { gone = gone_same old; places = keeps_same old; volume = was; runs = inl refl })
  maps_done (suc n) mid (before, done, last) rest =
      let step = gone_map n None before mid last in
      one_map n None before mid last (maps_done n before done (gone_then before mid new step rest)) rest

  maps_made : (total : ℕ) (stop : Option CellFault) → AreMade (CopiesMap mask) total stop old new → IsAt new
  maps_made total None done = maps_done total new done (gone_same new)
  maps_made total (Some fault) (n, mid, low, done, last) =
      let step = gone_map n (Some fault) mid new last in
      one_map n (Some fault) mid new last (maps_done n mid done (gone_then mid new new step (gone_same new))) (gone_same new)

  -- nothing was called, or it runs on
  pub copies_run_on : (result : Result ℕ IoFault) → AreCopied mask old new result → (new ≡ old) ⊎ RunsAfter plexes old w new later
  copies_run_on result copied = (maps_made copied.maps (io_stop result) copied.made).runs
