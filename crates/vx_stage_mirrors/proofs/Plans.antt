-- A mirror that is planned for a group, or not, and what that says of how it ends.
use Rattle.std.proofs.Common.{◌≡◌, ◌∙◌, ℕ, Bool, true, List, Some, None, Result, Ok, Err, sym, ap, subst, inr}
use Rattle.std.specs.Prelude.{IsErrAnd, is_some}
use Rattle.std.specs.BTreeMap.{get}
use Rattle.std.specs.Cmp.Lexicographic.{slice_cmp}
use Rattle.std.specs.Ordering.{nat_cmp}
use Rattle.vx_pages.specs.declared.local_piece.LocalPiece.{Ghosts}
use Rattle.vx_base.specs.Named.{Word}
use Rattle.vx_piece.specs.Seen.{Seen}
use Rattle.vx_config_parts.specs.declared.vol.Vol.{Vol}
use Rattle.vx_lending.specs.Public.{running_at}
use Rattle.vx_stages.specs.Mirroring.{IsMirrorUnplanned, mirror_refusal}
use Rattle.vx_stages.specs.Tests.{volume_in}
use Rattle.vx_stage_mirrors.specs.Planned.{EndsAs, IsMirrorPlanned}
use Rattle.vx_stage_mirrors.specs.declared.planning.PlannedMirror.{PlannedMirror}
use Rattle.vx_house.specs.declared.house.Imported.{Imported}
use Rattle.vx_house.specs.declared.stop.Stop.{Stop}
use Rattle.vx_house.specs.declared.stop.Stop.TheVariants as stops
use Rattle.vx_stage_volumes.specs.Opening.{good_of}
use Rattle.vx_stage_volumes.specs.Parting.{PartsGroup}
use Rattle.vx_stage_mirrors.specs.Ending.{IsPlannedMirror, IsRefusedHere, JoinStopsIn, MirrorEnds}
use Rattle.vx_stage_mirrors.proofs.Free.{runs_by}

pub on_err : {S : Type 0} (r : Result (Unit {0}) S) (A B : S → Type 0) → ((s : S) → A s → B s) → IsErrAnd r A → IsErrAnd r B
on_err (Ok u) A B then h = absurd h
on_err (Err s) A B then h = then s h

module _ {P : Type 0} {ghosts : Ghosts P} (see : P → Seen) (g : Imported P ghosts) (name : Word) (disks ds : List Word) (same : ds ≡ disks) (v : Vol) (found : volume_in name g.config.volumes ≡ Some v)
    (runs : Bool) (runs_is : runs ≡ is_some (running_at g.public name)) (fits : mirror_refusal runs g.config name ds ≡ None) (good : ℕ) (good_is : good ≡ good_of see g) where
  fits_here : mirror_refusal runs g.config name disks ≡ None
  fits_here = subst (λ x. mirror_refusal runs g.config name x ≡ None) same fits

  runs_true : runs ≡ true
  runs_true = runs_by runs g.config name disks v found fits_here

  pub runs_ready : (ready : Imported P ghosts) → PartsGroup see g ready → is_some (running_at ready.public name) ≡ true
  runs_ready ready parts = ap (λ m. is_some (get (slice_cmp nat_cmp) m name)) parts.running ∙ sym runs_is ∙ runs_true

  pub planned_by : (p : PlannedMirror) → IsMirrorPlanned g.config good v ds p → IsPlannedMirror see name disks p g
  planned_by p planned = record {
    volume = v;
    found = found;
    fits = subst (λ b. mirror_refusal b g.config name disks ≡ None) runs_true fits_here;
    planned = subst (λ n. IsMirrorPlanned g.config n v disks p) good_is (subst (λ x. IsMirrorPlanned g.config good v x p) same planned);
  }

  pub refused_by : (stop : Stop) → EndsAs (IsMirrorUnplanned g.config good v ds) stop → IsRefusedHere see name disks g stop
  refused_by (stops.Ended end) unplanned =
      inr (
        v,
        found,
        subst (λ b. mirror_refusal b g.config name disks ≡ None) runs_is fits_here,
        subst (λ n. IsMirrorUnplanned g.config n v disks end) good_is (subst (λ x. IsMirrorUnplanned g.config good v x end) same unplanned),
      )
  refused_by stops.OutOfMemory unplanned = tt

  pub ends_by : (p : PlannedMirror) → IsMirrorPlanned g.config good v ds p → (ready new : Imported P ghosts) → PartsGroup see g ready → (stop : Stop) → JoinStopsIn see name p stop ready new → MirrorEnds see name disks stop g new
  ends_by p planned ready new parts stop ends = inr (inr (record { plan = p; planned = planned_by p planned; ready = ready; parts = parts; ends = ends }))
