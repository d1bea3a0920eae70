-- A volume that may be started does not run.
use Rattle.std.proofs.Common.{◌≡◌, ◌∙◌, false, true, [], Option, Some, None, refl, sym, subst}
use Rattle.vx_pages.specs.declared.local_piece.LocalPiece.{Ghosts}
use Rattle.vx_base.specs.Named.{Word}
use Rattle.vx_piece.specs.Seen.{Seen}
use Rattle.vx_config_parts.specs.declared.object.Object.TheVariants.{VolRecord}
use Rattle.vx_config_parts.specs.declared.state.VolState.{VolState}
use Rattle.vx_config_parts.specs.declared.state.VolState.TheVariants as vol
use Rattle.vx_config_parts.specs.declared.vol.Vol.{Vol}
use Rattle.vx_rules.proofs.InOrder.{names_differ}
use Rattle.vx_objects.specs.declared.config.Config.{Config}
use Rattle.vx_objects.specs.Config.{objects_of}
use Rattle.vx_image.proofs.PlexMembers.{one_in, one_named}
use Rattle.vx_image.proofs.Plexes.{config_valid}
use Rattle.vx_image.specs.Image.{WasStarted}
use Rattle.vx_image.specs.UsedPlexes.{IsVolOf}
use Rattle.vx_stages.specs.Starting.{may_start}
use Rattle.vx_stages.specs.Tests.{volume_in}
use Rattle.vx_lending.specs.declared.public.Running.{Running}
use Rattle.vx_lending.specs.Public.{running_at}
use Rattle.vx_house.specs.View.{IsGroupKept}
use Rattle.vx_house.specs.declared.house.Imported.{Imported}
use Rattle.vx_stage_volumes.proofs.Entries.{entry_found}
use Rattle.vx_stage_volumes.proofs.Named.{found_name, found_of}

-- no state is that of a volume that runs, and of one that may be started
not_both : (s : VolState) → WasStarted s → may_start s ≡ true → ⊥
not_both vol.Empty was may = absurd was
not_both vol.Clean was may = absurd was
not_both vol.Active was may = let no : false ≡ true = may in cc
not_both vol.NeedSync was may = let no : false ≡ true = may in cc
not_both vol.Sync was may = let no : false ≡ true = may in cc

-- two volumes of one name are one
pub one_vol : (c : Config) (v w : Vol) → IsVolOf c v → IsVolOf c w → v.name ≡ w.name → v ≡ w
one_vol c v w one other same = by (one_named [] (objects_of c) (VolRecord v) (VolRecord w) (names_differ (objects_of c) (config_valid c)) (one_in (objects_of c) (VolRecord v) one) (one_in (objects_of c) (VolRecord w) other) same)
  where
    by : VolRecord v ≡ VolRecord w → v ≡ w
    by e = cc

pub not_running : {P : Type 0} {ghosts : Ghosts P} (see : P → Seen) (g : Imported P ghosts) → IsGroupKept see g → (name : Word) (v : Vol) → volume_in name g.config.volumes ≡ Some v → may_start v.state ≡ true → running_at g.public name ≡ None
not_running {P = P} {ghosts = ghosts} see g kept name v found may = by (running_at g.public name) refl
  where
    by : (o : Option (Running P ghosts)) → running_at g.public name ≡ o → o ≡ None
    by None e = refl
    by (Some r) e =
        let is = entry_found _ name g.public.running.entries r kept.placed e in
        let same : is.of ≡ v = one_vol g.config is.of v is.placed.runs.recorded (found_of g.config name v found) (is.named ∙ sym (found_name g.config name v found)) in
        absurd (not_both v.state (subst (λ (x : Vol). WasStarted x.state) same is.started) may)
