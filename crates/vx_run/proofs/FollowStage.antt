-- A change of the configuration, behind which a running volume reads by another policy.
use Rattle.std.proofs.Common.{◌≡◌, ◌∙◌, List, Option, Some, refl, sym, ap, subst, inl, inr}
use Rattle.std.specs.Prelude.{Result, Ok}
use Rattle.std.specs.BTreeMap.{BTreeMap}
use Rattle.vx_pages.specs.declared.local_piece.LocalPiece.{Ghosts}
use Rattle.vx_base.specs.Named.{Word}
use Rattle.vx_piece.specs.Seen.{Seen}
use Rattle.vx_script_words.specs.declared.value.DiskAt.{DiskAt}
use Rattle.vx_lending.specs.declared.public.Running.{Running}
use Rattle.vx_stages.specs.declared.stage.Change.{Change}
use Rattle.vx_stages.specs.declared.stage.Stage.TheVariants as stages
use Rattle.vx_house.specs.Goes.{StageGoes}
use Rattle.vx_house.specs.Scene.{FaultsGoOn, Scene, Shelved}
use Rattle.vx_house.specs.View.{at, scene}
use Rattle.vx_house.specs.declared.house.House.{House}
use Rattle.vx_house.specs.declared.house.Imported.{Imported}
use Rattle.vx_house.specs.declared.stop.Stop.{Stop}
use Rattle.vx_house_calls.specs.Passes.{with_group}
use Rattle.vx_house_calls.specs.Unseen.{StaysAsItIs}
use Rattle.vx_house_calls.proofs.Unseen.{unseen_stays}
use Rattle.vx_run.specs.Policies.{MayReadBy, ReadsAmong, ReadsBy}

-- ---- from the running volumes to the house

module _ {P : Type 0} {ghosts : Ghosts P} (see : P → Seen) (name : Word) where
  abbrev with_running : Imported P ghosts → BTreeMap Word (Running P ghosts) → Imported P ghosts
  with_running g running = record g { public = record g.public { running = running } }

  pub may_read : (g : Imported P ghosts) (running : BTreeMap Word (Running P ghosts)) → ReadsAmong see name g.public.running running → MayReadBy see name g (with_running g running)
  may_read g running (inl same) = inl (ap (with_running g) same)
  may_read g running (inr is) =
      inr (record { before = is.before; after = is.after; was = is.was; entries = is.entries; puts = is.puts; same = refl; seen = is.seen })

  pub reads_by : (h : House P ghosts) (g g' : Imported P ghosts) → h.group ≡ Some g → MayReadBy see name g g' → ReadsBy see h (with_group h g')
  reads_by h g g' has (inl same) = inl (ap (with_group h) same ∙ sym (ap (λ (o : Option (Imported P ghosts)). (let x : House P ghosts = record { volumes = h.volumes; group = o; hand = h.hand } in x)) has))
  reads_by h g g' has (inr unseen) = inr (record { before = g; after = g'; name = name; has = has; is = refl; unseen = unseen })

-- ---- the stage

module _ {P : Type 0} {ghosts : Ghosts P} (see : P → Seen) (edit : Change) (disks : List DiskAt) (shelf : Shelved) (old mid : House P ghosts) where
  abbrev Goes : House P ghosts → Type 0
  Goes h = (let done : Result (Unit {0}) Stop = Ok tt in StageGoes see (stages.Change edit) disks done (at shelf old) (at shelf h))

  stays : (h : House P ghosts) → StaysAsItIs see shelf mid h → Goes mid → Goes h
  stays h st goes =
      record {
        keeps = st.keeps goes.keeps;
        goes = λ m is. (let n = goes.goes m is in (n.0, st.moments n.0 n.1, n.2, n.3));
        gives = tt;
        still = λ reads. cc;
        faults = subst (λ (s : Scene). FaultsGoOn (scene see (at shelf old)) s) (sym st.scene_is) goes.faults;
        blamed = tt;
      }

  pub stage_follows : (new : House P ghosts) → ReadsBy see mid new → Goes mid → Goes new
  stage_follows new (inl same) goes = subst (λ (h : House P ghosts). Goes h) (sym same) goes
  stage_follows new (inr r) goes =
      subst (λ (h : House P ghosts). Goes h) (sym r.is)
      (stays (with_group mid r.after) (unseen_stays see mid r.before r.after shelf r.name r.has r.unseen) goes)
