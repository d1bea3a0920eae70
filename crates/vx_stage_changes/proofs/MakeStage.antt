-- Records that are added, as a stage.
use Rattle.std.proofs.Common.{◌≡◌, ◌∙◌, ◌||◌, inl, inr, Bool, List, [], ◌∷◌, Some, None, Option, is_some, Result, Err, refl, sym, ap, subst}
use Rattle.vx_pages.specs.declared.local_piece.LocalPiece.{Ghosts}
use Rattle.vx_base.specs.Named.{Word}
use Rattle.vx_piece.specs.Seen.{Seen}
use Rattle.vx_config_parts.specs.declared.object.Object.{Object}
use Rattle.vx_objects.specs.declared.edit.Edit.TheVariants.{Make}
use Rattle.vx_answers.specs.declared.answer.End.TheVariants as ends
use Rattle.vx_answers.specs.declared.refusal.Refusal.{Refusal}
use Rattle.vx_script_words.specs.declared.value.DiskAt.{DiskAt}
use Rattle.vx_started.specs.declared.started.Started.{Started}
use Rattle.vx_moments.specs.World.{World, Group}
use Rattle.vx_moments.specs.Moment.{Moment}
use Rattle.vx_moments.specs.Commit.{Writing}
use Rattle.vx_stages.specs.Making.{is_started}
use Rattle.vx_stages.specs.Sources.{Denies, growth}
use Rattle.vx_stages.specs.declared.stage.Source.{Source}
use Rattle.vx_stages.specs.Ends.{IsChange}
use Rattle.vx_stages.specs.Stages.{IsMaking, MakingRefused}
use Rattle.vx_stages.specs.declared.stage.Stage.TheVariants as stage
use Rattle.vx_house.specs.Goes.{StageGoes}
use Rattle.vx_house.specs.Holders.{holders, volume_at, AreHeld}
use Rattle.vx_house.specs.Scene.{Shelved}
use Rattle.vx_house.specs.View.{at, group_of, IsMoment, KeepsHouse}
use Rattle.vx_house.specs.declared.house.House.{House}
use Rattle.vx_house.specs.declared.house.Imported.{Imported}
use Rattle.vx_house.specs.declared.stop.Stop.{Stop}
use Rattle.vx_house.specs.declared.stop.Stop.TheVariants as stops
use Rattle.vx_house.proofs.Takes.{rests_self}
use Rattle.vx_stage_changes.proofs.EditStage.{IsStage, grown_refused, unchanged, refused_here, house, same_house, edits_go}
use Rattle.vx_stage_changes.specs.Planning.{IsUnplannedBy}
use Rattle.vx_added_records.specs.Started.{is_either}
use Rattle.vx_added_records.proofs.SameDisks.{group_kept, disks_beside}
use Rattle.vx_stage_changes.specs.Judging.{IsReady, IsUnready, StopsAs, MakeEnds, group_now}
use Rattle.vx_group_edits.proofs.Added.{making_keeps}
use Rattle.vx_group_edits.proofs.Fresh.{each_fresh}
use Rattle.vx_stage_changes.proofs.Own.{no_disk}
use Rattle.vx_house.specs.Plain.{told_volume}
use Rattle.vx_house.specs.Runs.{run_in}
use Rattle.vx_house.proofs.Runs.{started_same}
use Rattle.vx_lending.specs.declared.public.Running.{Running}

-- what is told as started is on a whole device, or runs
told_either : {P : Type 0} {ghosts : Ghosts P} (b : Option (Started P)) (r : Option (Running P ghosts)) → is_some (told_volume b r) ≡ (is_some b || is_some r)
told_either None None = refl
told_either None (Some r) = refl
told_either (Some b) r = refl

pub denied_is_unready : (is_started : Word → Bool) (from : Source) (g : Group) (stop : Stop) → StopsAs (Denies from is_started g) stop → StopsAs (IsUnready is_started from g) stop
denied_is_unready is_started from g (stops.Ended end) (r, is, denied) = (r, is, inl denied)
denied_is_unready is_started from g stops.OutOfMemory why = tt

making_refused : (from : Source) (w : World) (g : Group) (r : Refusal) → IsUnready (is_started w) from g r → MakingRefused from w g (ends.Refused r)
making_refused from w g r (inl denied) = inl (r, denied, refl)
making_refused from w g r (inr (added, adds, is)) = inr (added, adds, inl (r, is, refl))

module _ {P : Type 0} {ghosts : Ghosts P} (see : P → Seen) (from : Source) (disks : List DiskAt) (shelf : Shelved) (old : House P ghosts) (keeps : KeepsHouse see old) (are_held : AreHeld shelf.held (holders see old)) (g : Imported P ghosts) (has : old.group ≡ Some g) where
  -- the group of each of the house's moments
  here : (m : Moment) → IsMoment see (at shelf old) m → m.world.group ≡ Some (group_now see g)
  here m is = is.group_is ∙ ap (group_of see) has

  -- what the house's started names have, those of each of its moments have
  there : (Has : (Word → Bool) → Type 0) → Has (is_either old.volumes g.public.running) → (m : Moment) → IsMoment see (at shelf old) m → Has (is_started m.world)
  there Has has_names m is = subst Has (λ i vol. (sym (started_same see old m.world is.volumes_are is.runs_are vol ∙ told_either (volume_at old vol) (run_in old.group vol) ∙ ap (λ o. is_some (volume_at old vol) || is_some (run_in o vol)) has)) i) has_names

  module _ (added : List Object) (ready : IsReady (is_either old.volumes g.public.running) from (group_now see g) added) where
    ready_at : (m : Moment) → IsMoment see (at shelf old) m → IsReady (is_started m.world) from (group_now see g) added
    ready_at m is = there (λ names. IsReady names from (group_now see g) added) ready m is

    making : (m : Moment) (x : Writing) → IsMoment see (at shelf old) m → IsChange (Make added ∷ []) m.world x → IsMaking from m.world x
    making m x is change =
        let same : group_now see g ≡ x.group = cc (change.group, here m is) in
        let now = subst (λ w. IsReady (is_started m.world) from w added) same (ready_at m is) in
        record { added = added; adds = now.adds; fine = now.fine; change = change }

    abbrev IsTooLong : Stop → Type 0
    IsTooLong = IsUnplannedBy (growth from added) (Make added ∷ []) g.config

    is_stage : IsStage see (stage.Make from) disks shelf old g (Make added ∷ []) IsTooLong
    is_stage = record {
      writes = refl;
      wants = λ m. refl;
      gives = λ h. tt;
      group = λ next edited. group_kept (Make added ∷ []) g.config next edited;
      keeps_disks = λ next edited. disks_beside added g.config next (no_disk added (each_fresh from (is_either old.volumes g.public.running) (group_now see g) added ready.adds)) edited;
      stays = λ next edited v of runs good good' fewer. making_keeps g.config next from (group_now see g) added (is_either old.volumes g.public.running) ready.adds ready.fine edited v of tt good good' fewer;
      done = λ m n x is change committed. (x, making m x is change, committed);
      stops = λ m n end x is change stopped. inr (inr (x, making m x is change, stopped));
      refused = grown_refused (growth from added) (Make added ∷ []) g.config;
      refuses = λ m r is refused. inr (inl ((group_now see g, here m is, inr (added, (ready_at m is).adds, inr ((ready_at m is).fine, refused))), rests_self m));
    }

  -- nothing is added, and the house is as before
  unready : (stop : Stop) → StopsAs (IsUnready (is_either old.volumes g.public.running) from (group_now see g)) stop → StageGoes {T = Unit {0}} see (stage.Make from) disks (Err stop) (at shelf old) (at shelf old)
  unready stops.OutOfMemory why = unchanged see (stage.Make from) disks shelf old keeps are_held (λ m. refl)
  unready (stops.Ended end) (r, is, why) =
      subst (λ e. StageGoes {T = Unit {0}} see (stage.Make from) disks (Err (stops.Ended e)) (at shelf old) (at shelf old)) (sym is)
      (refused_here see (stage.Make from) disks shelf old keeps are_held r (λ m at_m.
      inr (inl ((group_now see g, here m at_m, making_refused from m.world (group_now see g) r (there (λ names. IsUnready names from (group_now see g) r) why m at_m)), rests_self m))))

  pub make_goes : (result : Result (Unit {0}) Stop) (g' : Imported P ghosts) → MakeEnds see (is_either old.volumes g.public.running) from result g g' → StageGoes see (stage.Make from) disks result (at shelf old) (at shelf (house see (stage.Make from) disks shelf old keeps are_held g has g'))
  make_goes result g' (inl (added, ready, ends)) = edits_go see (stage.Make from) disks shelf old keeps are_held g has (Make added ∷ []) (IsUnplannedBy (growth from added) (Make added ∷ []) g.config) (is_stage added ready) result g' ends
  make_goes result g' (inr (same, stop, is, why)) =
      subst (λ h. StageGoes see (stage.Make from) disks result (at shelf old) (at shelf h)) (same_house see (stage.Make from) disks shelf old keeps are_held g has g' same)
      (subst (λ r. StageGoes see (stage.Make from) disks r (at shelf old) (at shelf old)) (sym is) (unready stop why))
