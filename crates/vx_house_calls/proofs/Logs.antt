-- Where no device of the log of a called volume has failed, no count of the log rose; so the log stays exact.
use Rattle.std.proofs.Common.{◌≡◌, ℕ, ◌+◌, ◌-◌, ◌^◌, min, Bool, true, false, List, [], ◌∷◌, ◌++◌, length, refl, sym, ◌∙◌, subst, arith, length-append}
use Rattle.std.specs.List.{All}
use Rattle.vx_base.specs.Counts.{Rose}
use Rattle.vx_base.specs.Named.{Word}
use Rattle.vx_piece.specs.Seen.{Keeps, Seen}
use Rattle.vx_runs.specs.Run.{EachPiece}
use Rattle.vx_carve.specs.Together.{HasSome}
use Rattle.vx_pages.specs.declared.local_piece.LocalPiece.{Ghosts}
use Rattle.vx_cell.specs.Region.{LogRose}
use Rattle.vx_copies.specs.Disks.{DiskSeen}
use Rattle.vx_moments.specs.Moment.{Moment}
use Rattle.vx_moments.specs.Moment.{HasFailed as FailsAt}
use Rattle.vx_volume.specs.declared.volume.Volume.{Volume}
use Rattle.vx_volume.specs.Log.{LogGoes}
use Rattle.vx_volume.specs.Volume.{VolumeSeen, log_of, volume_seen}
use Rattle.vx_lending.specs.RegionPieces.{all_pieces}
use Rattle.vx_lending.specs.Left.{held_pieces, region_plexes}
use Rattle.vx_lending.specs.Logs.{log_pieces}
use Rattle.vx_lending.specs.declared.public.Running.{Running}
use Rattle.vx_volume_laws.specs.Exact.{IsExactVolume, LogIsWell}
use Rattle.vx_group_calls.specs.Causes.{LogPiecesRose}
use Rattle.vx_group_calls.proofs.HeldPieces.{SumRose, log_stays}
use Rattle.vx_group_calls.proofs.LogFaults.{beside_then, log_rose}
use Rattle.vx_group_volumes.specs.Devices.{LogHasFailed}
use Rattle.vx_group_volumes.specs.Places.{disks_at}
use Rattle.vx_group_volumes.proofs.Failures.{log_failures}
use Rattle.vx_stages.specs.Logs.{LogIsSpared}
use Rattle.vx_house.specs.Scene.{counts_of}
use Rattle.vx_house.specs.View.{View, scene}
use Rattle.vx_house_calls.specs.Passes.{RunsOn}

-- ---- a count of the log is among those of its pieces

each_size : (ps qs : List Seen) → EachPiece Keeps ps qs → length qs ≡ length ps
each_size [] [] each = refl
each_size [] (q ∷ qs) each = absurd each
each_size (p ∷ ps) [] each = absurd each
each_size (p ∷ ps) (q ∷ qs) each = let rest = each_size ps qs each.1 in omega (arith, rest)

-- the first of two lists one behind the other, where the second ones have one size
each_first : (ps qs rs ss : List Seen) → EachPiece Keeps (ps ++ rs) (qs ++ ss) → length ss ≡ length rs → EachPiece Keeps ps qs
each_first [] [] rs ss each size = tt
each_first [] (q ∷ qs) rs ss each size =
    let whole = each_size rs (q ∷ (qs ++ ss)) each in
    let parts = length-append qs ss in
    absurd (omega (arith, whole, parts, size))
each_first (p ∷ ps) [] rs ss each size =
    let whole = each_size (p ∷ (ps ++ rs)) ss each in
    let parts = length-append ps rs in
    absurd (omega (arith, whole, parts, size))
each_first (p ∷ ps) (q ∷ qs) rs ss each size = (each.0, each_first ps qs rs ss each.1 size)

clipped : (a b : ℕ) → SumRose a b → Rose (min a (2 ^ 64 - 1)) (min b (2 ^ 64 - 1))
clipped a b rose = omega (arith, rose)

module _ {P : Type 0} {ghosts : Ghosts P} (old new : Volume P ghosts) (stays : EachPiece Keeps (held_pieces ghosts.seen old) (held_pieces ghosts.seen new)) (follows : LogGoes ghosts.seen (log_of old) (log_of new)) where
  abbrev was : VolumeSeen
  was = volume_seen ghosts.seen old

  abbrev now : VolumeSeen
  now = volume_seen ghosts.seen new

  pub log_rises : LogRose was.log now.log → LogPiecesRose ghosts.seen old new
  log_rises (copy, device, rose) =
      let logs = log_stays (log_of old) (log_of new) follows in
      let pieces = log_pieces ghosts.seen (log_of old) in
      let pieces' = log_pieces ghosts.seen (log_of new) in
      let cells = each_first (all_pieces (region_plexes was.cells)) (all_pieces (region_plexes now.cells)) pieces pieces' stays (each_size pieces pieces' logs) in
      let sum = log_rose (log_of old) (log_of new) follows copy device rose in
      record {
        device = device;
        log = clipped _ _ sum;
        held = clipped _ _ (beside_then device (all_pieces (region_plexes was.cells)) (all_pieces (region_plexes now.cells)) pieces pieces' cells sum);
      }

-- ---- a called volume

true_or_not : (a b : Bool) → (a ≡ true → b ≡ true) → b ≡ false → a ≡ false
true_or_not true b more none = absurd (let no : true ≡ false = sym (more refl) ∙ none in cc)
true_or_not false b more none = refl

module _ {P : Type 0} {ghosts : Ghosts P} (v v' : View P ghosts) (hs : List DiskSeen) (name : Word) (r after : Running P ghosts) (m : Moment) (on : RunsOn ghosts.seen v v' hs name r after m)
    (stays : EachPiece Keeps (held_pieces ghosts.seen r.volume) (held_pieces ghosts.seen after.volume)) (follows : LogGoes ghosts.seen (log_of r.volume) (log_of after.volume)) (some : All HasSome (held_pieces ghosts.seen r.volume))
    (failed : Word → Bool) (told : (device : Word) → FailsAt m.counts (counts_of (scene ghosts.seen v')) device → failed device ≡ true) (spared : LogIsSpared on.group name failed) where
  -- where the failed devices have each that failed in the call, and none of them is one of the log's, no count of the log rose
  pub log_well : LogIsWell (volume_seen ghosts.seen r.volume) (volume_seen ghosts.seen after.volume)
  log_well rose =
      let run = on.run in
      let held = held_pieces ghosts.seen r.volume in
      let held' = held_pieces ghosts.seen after.volume in
      let f = subst (λ n. LogHasFailed on.group.config n (disks_at run.placed.runs.opening) run.numbers held held') run.named
      (log_failures r after.volume on.group.config on.group.good run.numbers run.of run.placed some follows (log_rises r.volume after.volume stays follows rose)) in
      let lies = f.failed.lies in
      let up = on.plex_failed f.plex lies.slot f.failed.device (lies.strip, lies.there, lies.disk_is) lies.on lies.number_is f.failed.rose in
      let no : true ≡ false = sym (told up.0 up.2) ∙ spared f.plex f.there f.log_is up.0 up.1 in
      cc

  -- so the log stays exact
  pub exact_still : on.volume.sound ≡ true → ((device : Word) → on.volume.failed device ≡ true → failed device ≡ true) →
      (LogIsWell (volume_seen ghosts.seen r.volume) (volume_seen ghosts.seen after.volume) → IsExactVolume (volume_seen ghosts.seen r.volume) → IsExactVolume (volume_seen ghosts.seen after.volume)) → IsExactVolume (volume_seen ghosts.seen after.volume)
  exact_still sound more stay =
      stay log_well (on.run.exact sound (λ p there log_is device on_it. true_or_not (on.volume.failed device) (failed device) (more device) (spared p there log_is device on_it)))
