-- A volume is one still through the passes that bring it to rest, and runs on as the volume of the world whose devices have failed too.
use Rattle.std.proofs.Common.{◌≡◌, ◌∙◌, ℕ, zero, suc, ◌*◌, ◌<◌, ◌≤◌, ◌||◌, ◌&&◌, Bool, true, false, List, length, Option, None, Result, Ok, Err, refl, sym, ap, subst, inl, inr}
use Rattle.std.specs.Prelude.{if◌then◌else◌}
use Rattle.vx_base.specs.Named.{Word}
use Rattle.vx_mask.specs.Mask.{has}
use Rattle.vx_core.specs.declared.stage.Stage.{Stage}
use Rattle.vx_core.specs.Follow.{SameMasks}
use Rattle.vx_cell.specs.declared.fault.CellFault.{CellFault}
use Rattle.vx_cell.specs.Region.{RegionSeen}
use Rattle.vx_cell.proofs.Changes.{rose_now, rose_still}
use Rattle.vx_image.specs.Image.{PlexImage}
use Rattle.vx_moments.specs.World.{Track, Volume}
use Rattle.vx_moments.specs.Tracks.{TrackOwner, has_failed, volume_failed, was_unsettled}
use Rattle.vx_volume.specs.declared.fault.IoFault.{IoFault}
use Rattle.vx_volume.specs.declared.fault.IoFault.TheVariants.{PowerLost}
use Rattle.vx_volume.specs.Calls.{ChangesRegion, IsReady}
use Rattle.vx_volume.specs.Loop.{AreDone}
use Rattle.vx_volume.specs.Passes.{Clears, IsSettledAt, PassEnds, Settles}
use Rattle.vx_volume.specs.Volume.{IsVolume, VolumeSeen, blocks_in, cell_at, region_at}
use Rattle.vx_volume.proofs.Regions.{IsLeft, settled_left}
use Rattle.vx_volume.proofs.Steps.{step_volume, volume_ready}
use Rattle.vx_volume_laws.specs.Tracks.{HasMap}
use Rattle.vx_volume_laws.specs.RunLaws.{EachClearingRunsOn, EachSettlingRunsOn, FailuresAreTold, OwnersFit}
use Rattle.vx_volume_laws.specs.Running.{IsSureOfOthers, RunsAsVolume}
use Rattle.vx_volume_laws.proofs.Keepings.{each_settling_keeps}
use Rattle.vx_group_calls.proofs.Failures.{clearing_gone, settling_gone}
use Rattle.vx_group_calls.proofs.Keeping.{HasGone}
use Rattle.vx_group_volumes.specs.RestLaws.{EachRestRunsOn}

-- ---- it is a volume still

-- what a call on a region leaves of it
abbrev Leaves : VolumeSeen → RegionSeen → RegionSeen → Type 0
Leaves v old new = IsLeft v.most old.region old.start old.size old.log new

step : (Goes : RegionSeen → RegionSeen → Type 0) (r : ℕ) (old new : VolumeSeen) → IsVolume old → ChangesRegion r Goes old new →
    ((ready : IsReady (region_at old r)) → (region_at old r).number ≤ old.most → Goes (region_at old r) (region_at new r) → Leaves old (region_at old r) (region_at new r)) → IsVolume new
step Goes r old new is changes leaves =
    let cell = is.each r changes.inside in
    let l = leaves (volume_ready old r is changes.inside) cell.below changes.goes in
    let here : IsLeft old.most r (r * old.region) (blocks_in old r) old.log (region_at new r) =
    record { idle = l.idle; whole = l.whole; region = l.region ∙ cell.index; start = l.start ∙ cell.start; size = l.size ∙ cell.size; number = l.number; log = l.log } in
    subst IsVolume (sym changes.same) (step_volume old r is changes.inside new.cells new.log changes.count changes.others (cell_at new r) refl here)

settles_volume : (r : ℕ) (stop : Option CellFault) (old new : VolumeSeen) → Settles r stop old new → IsVolume old → IsVolume new
settles_volume r stop old new changes is = step (IsSettledAt stop) r old new is changes (λ ready few goes. settled_left (region_at old r) (region_at new r) ready old.most few goes)

module _ (Call : ℕ → Option CellFault → VolumeSeen → VolumeSeen → Type 0) (keeps : (r : ℕ) (stop : Option CellFault) (old new : VolumeSeen) → Call r stop old new → IsVolume old → IsVolume new) where
  done_volume : (n : ℕ) (old new : VolumeSeen) → AreDone Call n old new → IsVolume old → IsVolume new
  done_volume zero old new same is = subst IsVolume (sym same) is
  done_volume (suc n) old new done is = keeps n None done.0 new done.2 (done_volume n old done.0 done.1 is)

-- once all regions were settled it is one
pub settled_volume : (old new : VolumeSeen) → PassEnds Settles old new (Ok tt) → IsVolume old → IsVolume new
settled_volume old new ends is = done_volume Settles settles_volume (length old.cells) old new ends.0 is

-- ---- devices that failed, told twice

or_twice : (a b : Bool) → (a || (a || b)) ≡ (a || b)
or_twice true b = refl
or_twice false b = refl

-- the track of a plex, which may differ in these regions too where it failed
abbrev track_failed : Bool → (ℕ → Bool) → Track → Track
track_failed failed regions t = if failed then record t { possible = λ r. regions r || t.possible r } else t

track_twice : (failed : Bool) (regions : ℕ → Bool) (t : Track) → track_failed failed regions (track_failed failed regions t) ≡ track_failed failed regions t
track_twice true regions t = λ i. record t { possible = λ r. or_twice (regions r) (t.possible r) i }
track_twice false regions t = refl

pub failed_twice : (owners : Word → TrackOwner) (f : Word → Bool) (w : Volume) → volume_failed owners f (volume_failed owners f w) ≡ volume_failed owners f w
failed_twice owners f w = λ i. record w {
  failed = λ name. or_twice (f name) (w.failed name) i;
  tracks = λ name. track_twice ((owners name).available && has_failed f (owners name)) (was_unsettled w) (w.tracks name) i;
}

-- ---- it runs on

pub same_map : (s t : Stage) → SameMasks s t → (k : ℕ) (o : TrackOwner) → HasMap s k o → HasMap t k o
same_map s t same k o is = record {
  available = is.available ∙ ap (λ m. has m k) (sym same.0);
  known = elim is.known [
    | inl on ↦ inl (ap (λ m. has m k) same.0 ∙ on)
    | inr (inl off) ↦ inr (inl (ap (λ m. has m k) same.1 ∙ off))
    | inr (inr snap) ↦ inr (inr (ap (λ m. has m k) same.2 ∙ snap))
  ];
  not_dirty = is.not_dirty;
}

module _ (settling : EachSettlingRunsOn) (clearing : EachClearingRunsOn) (old mid new : VolumeSeen) (was : IsVolume old) (is : IsVolume new) (cleared : Result (Unit {0}) IoFault)
    (settled : PassEnds Settles old mid (Ok tt)) (clears : PassEnds Clears mid new cleared) (plexes : List PlexImage) (w : Volume) (run : RunsAsVolume plexes old w)
    (owners : Word → TrackOwner) (failed : Word → Bool) (fit : OwnersFit plexes old owners) (told : FailuresAreTold plexes owners failed old new) where
  first : HasGone old mid
  first = settling_gone old mid (Ok tt) settled

  after : HasGone mid new
  after = clearing_gone mid new cleared clears

  inside_first : (r : ℕ) → r < length mid.cells → r < length old.cells
  inside_first r inside = subst (λ (n : ℕ). r < n) first.kept.count inside

  told_first : FailuresAreTold plexes owners failed old mid
  told_first p there r inside rose = told p there r inside
      (rose_still p.map (cell_at old r).plexes (cell_at mid r).plexes (cell_at new r).plexes rose (after.kept.plexes r (subst (λ (n : ℕ). r < n) (sym first.kept.count) inside)))

  told_after : FailuresAreTold plexes owners failed mid new
  told_after p there r inside rose = told p there r (inside_first r inside)
      (rose_now p.map (cell_at old r).plexes (cell_at mid r).plexes (cell_at new r).plexes (first.kept.plexes r (inside_first r inside)) rose)

  fit_mid : OwnersFit plexes mid owners
  fit_mid p there r inside =
      same_map (cell_at old r).stage (cell_at mid r).stage ((each_settling_keeps old mid (Ok tt) settled).masks r (inside_first r inside)) p.map (owners p.name) (fit p there r (inside_first r inside))

  runs_both : RunsAsVolume plexes new (volume_failed owners failed w) × (IsSureOfOthers plexes old w → IsSureOfOthers plexes new (volume_failed owners failed w))
  runs_both =
      let whole = settled_volume old mid settled was in
      let once = settling old mid (Ok tt) settled was whole plexes w run owners failed fit told_first in
      let again = clearing mid new cleared clears whole is plexes (volume_failed owners failed w) once.0 owners failed fit_mid told_after in
      (subst (RunsAsVolume plexes new) (failed_twice owners failed w) again.0, λ sure. subst (IsSureOfOthers plexes new) (failed_twice owners failed w) (again.1 (once.1 sure)))

pub rest_runs_on : EachSettlingRunsOn → EachClearingRunsOn → EachRestRunsOn
rest_runs_on settling clearing old new (Ok marks) rest was is plexes w run owners failed fit told =
    runs_both settling clearing old rest.mid new was is rest.cleared rest.settled rest.clears plexes w run owners failed fit told
rest_runs_on settling clearing old new (Err fault) (inl ends) was is plexes w run owners failed fit told = settling old new (Err fault) ends was is plexes w run owners failed fit told
rest_runs_on settling clearing old new (Err fault) (inr lost) was is plexes w run owners failed fit told =
    runs_both settling clearing old lost.1.mid new was is (Err PowerLost) lost.1.settled lost.1.clears plexes w run owners failed fit told
