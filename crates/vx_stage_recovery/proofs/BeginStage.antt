-- The step that begins a recovery, in the moments of a house.
use Rattle.std.proofs.Common.{◌≡◌, ◌∙◌, false, true, ℕ, List, [], map, Option, Some, None, Result, Ok, Err, refl, sym, ap, subst}
use Rattle.std.specs.Prelude.{IfSome, IsSome, is_some}
use Rattle.vx_pages.specs.declared.local_piece.LocalPiece.{Ghosts}
use Rattle.vx_base.specs.Named.{Word}
use Rattle.vx_piece.specs.Seen.{Seen}
use Rattle.vx_config_parts.specs.declared.state.VolState.TheVariants as vol
use Rattle.vx_config_parts.specs.declared.vol.Vol.{Vol}
use Rattle.vx_objects.specs.declared.config.Config.{Config}
use Rattle.vx_objects.specs.declared.edit.Edit.{Edit}
use Rattle.vx_answers.specs.declared.answer.End.{End}
use Rattle.vx_answers.specs.declared.answer.End.TheVariants as ends
use Rattle.vx_state_edits.specs.Edits.{recovery_edits}
use Rattle.vx_state_edits.specs.Laws.{EachRecoveryRestates, Restates, in_state}
use Rattle.vx_group_edits.proofs.Restated.{restated_untouched}
use Rattle.vx_group_edits.proofs.Untouched.{stays}
use Rattle.vx_lending.specs.Public.{running_at}
use Rattle.vx_lending.specs.declared.public.Running.{Running}
use Rattle.vx_moments.specs.Moment.{AreLater, Moment}
use Rattle.vx_stages.specs.Tests.{volume_in}
use Rattle.vx_house.specs.Holders.{AreHeld, holders}
use Rattle.vx_house.specs.Plain.{plain}
use Rattle.vx_house.specs.Scene.{Shelved}
use Rattle.vx_house.specs.View.{IsGroupKept, IsMoment, IsMomentButGroup, Keeps, KeepsHouse, at, group_of, scene}
use Rattle.vx_house.specs.declared.house.House.{House}
use Rattle.vx_house.specs.declared.house.Imported.{Imported}
use Rattle.vx_house.specs.declared.stop.Stop.{Stop}
use Rattle.vx_house.specs.declared.stop.Stop.TheVariants as stops
use Rattle.vx_house.proofs.Moments.{faults_refl, later_refl}
use Rattle.vx_house_calls.specs.Passes.{with_group}
use Rattle.vx_stage_changes.specs.Changing.{IsMeant}
use Rattle.vx_stage_volumes.proofs.Commit.{IsStoppedAt, KeepsRunning, committed_at, done_keeps, group_is_lost, power_is_lost, written_but_group, written_faults}
use Rattle.vx_stage_volumes.specs.Stopping.{RecordEnds}
use Rattle.vx_stage_volumes.proofs.HeldStart.{world_of}
use Rattle.vx_stage_volumes.proofs.Named.{found_in_state, found_name, found_recorded}
use Rattle.vx_recovery.specs.Recovering.{IsOf, StopsAtBegin, is_recovered}
use Rattle.vx_recovery.specs.Steps.{HasBegun}
use Rattle.vx_stage_recovery.specs.Beginning.{BeginEnds}
use Rattle.vx_stage_recovery.specs.Steps.{IsUnchanged, StepGoes}
use Rattle.vx_stage_recovery.proofs.NotStarted.{absent_in, none_in}

-- ---- the group

module _ {P : Type 0} {ghosts : Ghosts P} (see : P → Seen) (restates : EachRecoveryRestates) (name : Word) (h : House P ghosts) (house : KeepsHouse see h) (none : is_some ((plain see h).volumes name) ≡ false) (g : Imported P ghosts) (has : h.group ≡ Some g) where
  kept : IsGroupKept see g
  kept = subst (λ o. IfSome o (IsGroupKept see)) has house.group

  module _ (v : Vol) (found : volume_in name g.config.volumes ≡ Some v) where
    abbrev edits : List Edit
    edits = recovery_edits g.config v

    named : v.name ≡ name
    named = found_name g.config name v found

    module _ (next : Config) (text : List ℕ) (meant : IsMeant edits g.config next text) where
      restated : Restates v.name vol.Sync (λ p. p.state) g.config next
      restated = restates g.config v (found_recorded g.config name v found) next meant.edited

      runs : KeepsRunning g next
      runs = record {
        group = restated.group;
        disks = restated.disks;
        stays = λ u of_u is good good' fewer.
            stays g.config u next good good' fewer
            (restated_untouched g.config u of_u v.name (λ same. absent u same is) vol.Sync (λ p. p.state) next restated);
      }
        where
          -- nothing runs of the volume itself
          absent : (u : Vol) → u.name ≡ v.name → IsSome (running_at g.public u.name) → ⊥
          absent u same is = no (running_at g.public u.name) (ap (running_at g.public) (same ∙ named) ∙ absent_in see name h none g has) is
            where
              no : (o : Option (Running P ghosts)) → o ≡ None → IsSome o → ⊥
              no o e some = (let is : false ≡ true = subst IsSome e some in cc)

      found_next : volume_in name next.volumes ≡ Some (record v { state = vol.Sync })
      found_next = subst (λ vs. volume_in name vs ≡ Some (record v { state = vol.Sync })) (sym restated.volumes)
          (subst (λ u. volume_in name (map (in_state u vol.Sync) g.config.volumes) ≡ Some (record v { state = vol.Sync })) (sym named) (found_in_state name vol.Sync g.config.volumes v found))

-- ---- the house

module _ {P : Type 0} {ghosts : Ghosts P} (see : P → Seen) (restates : EachRecoveryRestates) (name : Word) (shelf : Shelved) (h : House P ghosts) (house : KeepsHouse see h) (held : AreHeld shelf.held (holders see h)) where
  keeps : Keeps see (at shelf h)
  keeps = record { devices = held; house = house }

  abbrev GoesTo : Result (Unit {0}) Stop → House P ghosts → Type 0
  GoesTo result h' = StepGoes see (λ told. HasBegun name) (StopsAtBegin name) IsUnchanged result (at shelf h) (at shelf h')

  -- nothing was done
  pub nothing_done : GoesTo (Err stops.OutOfMemory) h
  nothing_done = record { keeps = keeps; goes = λ m is. (m, is, later_refl m.counts, refl); faults = faults_refl (scene see (at shelf h)); blamed = tt }

  module _ (none : is_some ((plain see h).volumes name) ≡ false) (g : Imported P ghosts) (has : h.group ≡ Some g) where
    abbrev kept_g : IsGroupKept see g
    kept_g = kept see restates name h house none g has

    -- the group of a moment is that of the house
    here : (m : Moment) → IsMoment see (at shelf h) m → m.world.group ≡ group_of see (Some g)
    here m is = is.group_is ∙ ap (group_of see) has

    module _ (v : Vol) (found : volume_in name g.config.volumes ≡ Some v) (state : is_recovered v.state ≡ true) where
      abbrev E : List Edit
      E = edits see restates name h house none g has v found

      was : (m : Moment) → IsMoment see (at shelf h) m → IsOf name m.world (world_of see g) v
      was m is = record { group = here m is; volume = found }

      abbrev stay : (next : Config) (text : List ℕ) → IsMeant (recovery_edits g.config v) g.config next text → KeepsRunning g next
      stay next text meant = runs see restates name h house none g has v found next text meant

      -- the commit is done
      done : (g' : Imported P ghosts) → RecordEnds see E (Ok tt) g g' → GoesTo (Ok tt) (with_group h g')
      done g' (public, (text, meant, finished)) = record {
        keeps = done_keeps see shelf h g g' has keeps kept_g text public finished E meant (stay g'.config text meant);
        goes = λ m is.
            let c = committed_at see shelf h g g' has keeps kept_g text public finished E meant (stay g'.config text meant) m is in (
              c.then,
              c.is,
              c.later,
              (
                world_of see g',
                record v { state = vol.Sync },
                record {
                  group = world_of see g;
                  of = v;
                  was = was m is;
                  state = state;
                  free = none_in see name h none shelf m is;
                  writing = c.writing;
                  change = c.change;
                  committed = c.committed;
                  is = record { group = c.is.group_is; volume = found_next see restates name h house none g has v found g'.config text meant };
                  later = c.later;
                },
              ),
            );
        faults = written_faults see shelf h g g' has keeps kept_g text public finished.tried;
        blamed = tt;
      }

      -- it is stopped
      stopped : (g' : Imported P ghosts) (end : End) (m : Moment) → IsMoment see (at shelf h) m → IsStoppedAt see shelf (with_group h g') E end m →
          (n : Moment) × IsMomentButGroup see (at shelf (with_group h g')) n × AreLater m.counts n.counts × StopsAtBegin name m end n
      stopped g' end m is s = (
        s.then,
        s.is,
        s.later,
        record { group = world_of see g; of = v; was = was m is; state = state; free = none_in see name h none shelf m is; stops = (s.writing, s.change, s.stopped) },
      )

      by : (result : Result (Unit {0}) Stop) (g' : Imported P ghosts) → RecordEnds see E result g g' → GoesTo result (with_group h g')
      by (Ok u) g' is = done g' is
      by (Err stops.OutOfMemory) g' is = subst (λ x. GoesTo (Err stops.OutOfMemory) x) same nothing_done
        where
          same : h ≡ with_group h g'
          same = ap (λ o. record h { group = o }) (has ∙ ap Some (sym is))
      by (Err (stops.Ended ends.GroupLost)) g' (public, (next, text, meant, tried, risen)) = record {
        keeps = written_but_group see shelf h g g' has keeps kept_g text public tried;
        goes = λ m is. stopped g' ends.GroupLost m is (group_is_lost see shelf h g g' has keeps kept_g text public tried E next meant (stay next text meant).group m is risen);
        faults = written_faults see shelf h g g' has keeps kept_g text public tried;
        blamed = tt;
      }
      by (Err (stops.Ended (ends.Lost parts))) g' (none_told, public, (next, text, meant, tried, cut)) = subst (λ p. GoesTo (Err (stops.Ended (ends.Lost p))) (with_group h g')) (sym none_told) (record {
        keeps = written_but_group see shelf h g g' has keeps kept_g text public tried;
        goes = λ m is. stopped g' (ends.Lost []) m is (power_is_lost see shelf h g g' has keeps kept_g text public tried E next meant (stay next text meant).group m is cut);
        faults = written_faults see shelf h g g' has keeps kept_g text public tried;
        blamed = tt;
      })
      by (Err (stops.Ended (ends.Done copied parts blocks))) g' is = absurd is
      by (Err (stops.Ended (ends.Refused r))) g' is = absurd is
      by (Err (stops.Ended (ends.Fault told device parts))) g' is = absurd is
      by (Err (stops.Ended ends.ShelfFailed)) g' is = absurd is

    pub begin_goes : (result : Result (Unit {0}) Stop) (g' : Imported P ghosts) → BeginEnds see name result g g' → GoesTo result (with_group h g')
    begin_goes (Ok u) g' is = by is.volume is.found is.state (Ok u) g' is.ends
    begin_goes (Err stops.OutOfMemory) g' is = subst (λ x. GoesTo (Err stops.OutOfMemory) x) (ap (λ o. record h { group = o }) (has ∙ ap Some (sym is))) nothing_done
    begin_goes (Err (stops.Ended end)) g' is = by is.volume is.found is.state (Err (stops.Ended end)) g' is.ends
