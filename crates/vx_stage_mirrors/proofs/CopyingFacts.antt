-- Copying to plexes is a pass on one running volume of the group.
use Rattle.std.proofs.Common.{◌≡◌, ◌⊎◌, ℕ, Bool, List, [], ◌∷◌, map, Result, Ok, Err, sym, subst, inl, inr}
use Rattle.std.specs.Prelude.{is_some}
use Rattle.std.specs.List.{All}
use Rattle.vx_pages.specs.declared.local_piece.LocalPiece.{Ghosts}
use Rattle.vx_base.specs.Named.{Word}
use Rattle.vx_piece.specs.Seen.{Seen}
use Rattle.vx_copies.specs.Disks.{disk_seen}
use Rattle.vx_copies.specs.Lists.{AnyOf}
use Rattle.vx_copies.specs.declared.disk.Disk.{Disk}
use Rattle.vx_confdb.specs.Groups.{members}
use Rattle.vx_fronts.specs.Parted.{IsOfSome}
use Rattle.vx_image.specs.Image.{PlexImage}
use Rattle.vx_moments.specs.World.{Volume}
use Rattle.vx_volume.specs.declared.fault.IoFault.{IoFault}
use Rattle.vx_volume.specs.declared.fault.IoFault.TheVariants.{Fault, PowerLost, Range}
use Rattle.vx_volume.specs.Volume.{VolumeSeen, volume_seen}
use Rattle.vx_lending.specs.Left.{held_pieces}
use Rattle.vx_lending.specs.declared.public.Running.{Running}
use Rattle.vx_moments.specs.Tracks.{TrackOwner, volume_failed}
use Rattle.vx_volume_laws.specs.Lying.{LiesIn}
use Rattle.vx_volume_laws.specs.RunLaws.{EachCopyRunsOn}
use Rattle.vx_volume_laws.specs.Running.{RunsAsVolume}
use Rattle.vx_change_laws.specs.Laws.{EachFailureIsNoted, RunsStill}
use Rattle.vx_group_calls.specs.Ending.{device_of}
use Rattle.vx_group_calls.proofs.Sources.{tell_still}
use Rattle.vx_group_volumes.specs.Laws.{GoesOn}
use Rattle.vx_group_volumes.specs.RestLaws.{RestHasReason}
use Rattle.vx_group_volumes.proofs.CopiesRun.{RunsAfter, copies_run_on}
use Rattle.vx_group_volumes.proofs.ExactPasses.{copying_exact}
use Rattle.vx_group_volumes.proofs.Passes.{copies_go_on}
use Rattle.vx_group_volumes.proofs.Reasons.{copy_reason}
use Rattle.vx_house.specs.View.{IsGroupWhole}
use Rattle.vx_house.specs.declared.house.Imported.{Imported}
use Rattle.vx_house_calls.specs.Passes.{IsCalledIn}
use Rattle.vx_house_calls.proofs.Counts.{of_kept}
use Rattle.vx_house_calls.proofs.Groups.{of_disks}
use Rattle.vx_house_calls.proofs.Houses.{disk_of, rose_there}
use Rattle.vx_stage_mirrors.proofs.MarkingMoments.{PassFacts}
use Rattle.vx_stage_mirrors.specs.Copying.{CopiesOne, IsTellable}

-- the laws of copies
pub record CopyLaws : Type 0 where
  pub runs : EachCopyRunsOn
  pub noted : EachFailureIsNoted

any_disk : {P : Type 0} (see : P → Seen) (number : ℕ) (ds : List (Disk P)) → AnyOf (λ h. h.seen.device ≡ number) (map (disk_seen see) ds) → AnyOf (λ d. (see d.piece).device ≡ number) ds
any_disk see number [] any = any
any_disk see number (d ∷ ds) (inl is) = inl is
any_disk see number (d ∷ ds) (inr more) = inr (any_disk see number ds more)

module _ {P : Type 0} {ghosts : Ghosts P} (g now : Imported P ghosts) (name : Word) (mask : ℕ) (result : Result ℕ IoFault)
    (one : CopiesOne ghosts.seen name mask result g.public.running now.public.running) (same : now ≡ record g { public = record g.public { running = now.public.running } }) where
  abbrev see : P → Seen
  see = ghosts.seen

  abbrev before : Running P ghosts
  before = one.before

  abbrev after : Running P ghosts
  after = one.after

  abbrev was : VolumeSeen
  was = volume_seen see before.volume

  abbrev becomes : VolumeSeen
  becomes = volume_seen see after.volume

  pub copy_goes : GoesOn see before.volume after.volume
  copy_goes = copies_go_on before.volume after.volume mask result one.copied one.follows

  pub reason : RestHasReason see result before.volume after.volume
  reason = copy_reason before.volume after.volume mask result one.copied one.follows

  module _ (alike : (p q : P) → is_some (see p).told ≡ is_some (see q).told) where
    abbrev pub copy_called : IsCalledIn see name g now
    copy_called = record {
      before = before;
      after = after;
      was = one.was;
      entries = one.entries;
      puts = one.puts;
      same = same;
      called = record { each = copy_goes.together.stays; goes = copy_goes.together.goes };
      tells = tell_still before.volume after.volume alike copy_goes.together.stays;
      whole = one.whole;
      form = one.form;
      shape = one.shape;
      lies = λ numbers was. subst (λ f. LiesIn see numbers f after.volume) (sym one.form) (copy_goes.lies numbers before.form was);
      dead = copy_goes.cut;
    }

    -- a device that failed is that of one of the disks
    pub copy_tellable : IsGroupWhole see g → IsTellable see g.base.disks.items result
    copy_tellable whole = by result reason
      where
        disks : All (IsOfSome (members see g.base)) (held_pieces see before.volume)
        disks = subst (λ x. (is : IsCalledIn see name g x) → All (IsOfSome (members see g.base)) (held_pieces see is.before.volume)) (sym same) (λ is. of_disks see name g now.public.running is whole) copy_called

        by : (r : Result ℕ IoFault) → RestHasReason see r before.volume after.volume → IsTellable see g.base.disks.items r
        by (Ok n) why = tt
        by (Err (Fault place)) rose =
            let held = held_pieces see before.volume in
            let held' = held_pieces see after.volume in
            any_disk see (device_of place) g.base.disks.items
            (disk_of (members see g.base) held (device_of place) disks (rose_there held held' (device_of place) (of_kept held held' (device_of place) copy_goes.together.stays) rose))
        by (Err PowerLost) why = tt
        by (Err Range) why = absurd why

    abbrev pub facts : CopyLaws → PassFacts see name g now
    facts laws = record {
      called = copy_called;
      goes = copy_goes;
      follows = one.follows;
      runs = λ plexes w run owners failed fit told. by plexes w run owners failed (copies_run_on laws.runs mask was becomes one.original plexes w run owners failed fit told result one.copied);
      exact = λ plexes w run well exact. copying_exact mask was becomes result one.copied one.original one.whole plexes w run well exact;
    }
      where
        by : (plexes : List PlexImage) (w : Volume) → RunsAsVolume plexes was w → (owners : Word → TrackOwner) (failed : Word → Bool) →
            (becomes ≡ was) ⊎ RunsAfter plexes was w becomes (volume_failed owners failed w) → RunsStill plexes plexes was becomes w (volume_failed owners failed w)
        by plexes w run owners failed (inl still) = subst (λ v. RunsStill plexes plexes was v w (volume_failed owners failed w)) (sym still) (laws.noted plexes was w run owners failed)
        by plexes w run owners failed (inr runs) = record { runs = runs.0; sure = runs.1 }
