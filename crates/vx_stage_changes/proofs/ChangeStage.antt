-- A change of the configuration as a stage.
use Rattle.std.proofs.Common.{◌≡◌, ◌∙◌, inl, inr, Bool, true, false, if◌then◌else◌, List, Option, Some, None, Result, Err, refl, sym, ap, subst}
use Rattle.std.specs.Prelude.{is_some, IsSome}
use Rattle.vx_pages.specs.declared.local_piece.LocalPiece.{Ghosts}
use Rattle.vx_piece.specs.Seen.{Seen}
use Rattle.vx_answers.specs.declared.answer.End.TheVariants as ends
use Rattle.vx_answers.specs.declared.refusal.Refusal.TheVariants as refusal
use Rattle.vx_script_words.specs.declared.value.DiskAt.{DiskAt}
use Rattle.vx_moments.specs.World.{Group}
use Rattle.vx_moments.specs.Moment.{Moment}
use Rattle.vx_moments.specs.Commit.{Writing}
use Rattle.vx_stages.specs.Ends.{IsChange}
use Rattle.vx_stages.specs.Stages.{EditsRefused, edits_of}
use Rattle.vx_stages.specs.declared.stage.Change.{Change}
use Rattle.vx_stages.specs.declared.stage.Change.TheVariants as changes
use Rattle.vx_stages.specs.declared.stage.Stage.TheVariants as stage
use Rattle.vx_config_parts.specs.declared.vol.Vol.{Vol}
use Rattle.vx_answers.specs.declared.refusal.Refusal.{Refusal}
use Rattle.vx_objects.specs.Applied.{IsEdited}
use Rattle.vx_started.specs.declared.started.Started.{Started}
use Rattle.vx_lending.specs.declared.public.Running.{Running}
use Rattle.vx_stages.specs.Tests.{fails, recorded, state_of, unless}
use Rattle.vx_group_edits.specs.Laws.{StaysBy}
use Rattle.vx_group_edits.proofs.Commands.{change_keeps}
use Rattle.vx_stage_changes.proofs.Owns.{Runs}
use Rattle.vx_house.specs.Plain.{plain, told_volume}
use Rattle.vx_house.specs.Runs.{run_in}
use Rattle.vx_house.specs.Goes.{IsReady, StageGoes}
use Rattle.vx_house.specs.Holders.{holders, volume_at, AreHeld}
use Rattle.vx_house.specs.Scene.{Shelved}
use Rattle.vx_house.specs.View.{at, group_of, IsMoment, KeepsHouse}
use Rattle.vx_house.specs.declared.house.House.{House}
use Rattle.vx_house.specs.declared.house.Imported.{Imported}
use Rattle.vx_house.specs.declared.stop.Stop.{Stop}
use Rattle.vx_house.specs.declared.stop.Stop.TheVariants as stops
use Rattle.vx_house.proofs.Takes.{rests_self}
use Rattle.vx_stage_changes.proofs.Holders.{world_group, group_before}
use Rattle.vx_stage_changes.specs.Changing.{ChangeEnds}
use Rattle.vx_stage_changes.specs.Planning.{change_edits, IsUnplanned}
use Rattle.vx_stage_changes.proofs.Configs.{disks_kept, group_kept}
use Rattle.vx_stage_changes.proofs.EditStage.{IsStage, unplanned_refused, refused_here, house, edits_go}

-- the edits of a change go by the configuration alone
edits_same : (c : Change) (w : Group) → edits_of c (Some w) ≡ change_edits c w.config
edits_same (changes.Policy vol policy) w = refl
edits_same (changes.Remove vol) w = refl

-- a test that passes: the volume is not started, where it is recorded
not_started : (r : Option Vol) (started : Bool) (why : Refusal) → unless (is_some r) why ≡ None → (if started then state_of r else None) ≡ None → started ≡ false
not_started None started why has is = absurd (cc)
not_started (Some v) true why has is = absurd (cc)
not_started (Some v) false why has is = refl

-- what is not told as started does not run
not_running : {P : Type 0} {ghosts : Ghosts P} (b : Option (Started P)) (r : Option (Running P ghosts)) → is_some (told_volume b r) ≡ false → IsSome r → ⊥
not_running None None told run = absurd (cc)
not_running None (Some r) told run = absurd (cc)
not_running (Some b) r told run = absurd (cc)

-- a change does not remove a volume that runs
stays_by : {P : Type 0} {ghosts : Ghosts P} (see : P → Seen) (c : Change) (disks : List DiskAt) (old : House P ghosts) (g : Imported P ghosts) → old.group ≡ Some g → IsReady see (stage.Change c) disks old → (v : Vol) → Runs g v.name → StaysBy c v
unfolding fails
stays_by see (changes.Policy vol policy) disks old g has ready v runs = tt
stays_by see (changes.Remove vol) disks old g has ready v runs = λ same.
    not_running (volume_at old vol) (run_in old.group vol)
    (not_started (recorded vol (plain see old).group) (is_some ((plain see old).volumes vol)) (refusal.NoObject vol) ready.wants.0 ready.wants.1.0)
    (subst (λ n. IsSome (run_in old.group n)) same (subst (λ o. IsSome (run_in o v.name)) (sym has) runs))

module _ {P : Type 0} {ghosts : Ghosts P} (see : P → Seen) (c : Change) (disks : List DiskAt) (shelf : Shelved) (old : House P ghosts) (keeps : KeepsHouse see old) (are_held : AreHeld shelf.held (holders see old)) where
  -- no group is imported
  pub no_group : old.group ≡ None → StageGoes {T = Unit {0}} see (stage.Change c) disks (Err (stops.Ended (ends.Refused (refusal.NoGroup None)))) (at shelf old) (at shelf old)
  no_group none = refused_here see (stage.Change c) disks shelf old keeps are_held (refusal.NoGroup None) (λ m is. inl (is.group_is ∙ ap (group_of see) none, (refl, rests_self m)))

  module _ (g : Imported P ghosts) (has : old.group ≡ Some g) (ready : IsReady see (stage.Change c) disks old) where
    edits_here : (m : Moment) → IsMoment see (at shelf old) m → edits_of c m.world.group ≡ change_edits c g.config
    edits_here m is = ap (edits_of c) (group_before see shelf old g has m is) ∙ edits_same c (world_group see g)

    is_change : (m : Moment) (x : Writing) → IsMoment see (at shelf old) m → IsChange (change_edits c g.config) m.world x → IsChange (edits_of c m.world.group) m.world x
    is_change m x is change = subst (λ es. IsChange es m.world x) (sym (edits_here m is)) change

    is_stage : IsStage see (stage.Change c) disks shelf old g (change_edits c g.config) (IsUnplanned (change_edits c g.config) g.config)
    is_stage = record {
      writes = refl;
      wants = λ m. refl;
      gives = λ h. tt;
      group = λ next edited. group_kept c g.config next edited;
      keeps_disks = λ next edited. disks_kept c g.config next edited;
      stays = λ next edited v of runs good good' fewer.
          change_keeps (world_group see g) c next (subst (λ es. IsEdited es g.config next) (sym (edits_same c (world_group see g))) edited) v of (stays_by see c disks old g has ready v runs) good good' fewer;
      done = λ m n x is change committed. (x, is_change m x is change, committed);
      stops = λ m n end x is change stopped. inr (inr (x, is_change m x is change, stopped));
      refused = unplanned_refused (change_edits c g.config) g.config;
      refuses = λ m r is refused. inr (inl ((world_group see g, group_before see shelf old g has m is, subst (λ es. EditsRefused es (world_group see g) (ends.Refused r)) (sym (edits_same c (world_group see g))) refused), rests_self m));
    }

    pub change_goes : (result : Result (Unit {0}) Stop) (g' : Imported P ghosts) → ChangeEnds see (change_edits c g.config) result g g' → StageGoes see (stage.Change c) disks result (at shelf old) (at shelf (house see (stage.Change c) disks shelf old keeps are_held g has g'))
    change_goes result g' ends = edits_go see (stage.Change c) disks shelf old keeps are_held g has (change_edits c g.config) (IsUnplanned (change_edits c g.config) g.config) is_stage result g' ends
