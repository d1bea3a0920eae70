-- A running volume without a DCO has no log.
use Rattle.std.proofs.Common.{◌≡◌, ◌∙◌, ℕ, false, List, None, Option, refl, sym, ap}
use Rattle.std.specs.Prelude.{is_some, nat_lt}
use Rattle.std.proofs.lemmas.Bool.{false≢true}
use Rattle.vx_base.specs.Named.{Word}
use Rattle.vx_piece.specs.Seen.{Seen}
use Rattle.vx_pages.specs.declared.local_piece.LocalPiece.{Ghosts}
use Rattle.vx_config_parts.specs.declared.vol.Vol.{Vol}
use Rattle.vx_objects.specs.declared.config.Config.{Config}
use Rattle.vx_volume.specs.declared.log.VolumeLog.{VolumeLog}
use Rattle.vx_volume.specs.declared.log.VolumeLog.TheVariants.{Absent, Maps}
use Rattle.vx_volume.specs.Log.{log_seen}
use Rattle.vx_volume.specs.Volume.{log_of}
use Rattle.vx_lending.specs.declared.public.Running.{Running}
use Rattle.vx_group_volumes.specs.Runs.{RunsIn}

-- a log that is not there is none
absent_as : {P : Type 0} {ghosts : Ghosts P} (see : P → Seen) (log : VolumeLog P ghosts) → (log_seen see log).there ≡ false → log ≡ Absent
absent_as see Absent gone = refl
absent_as see (Maps store) gone = absurd (false≢true (sym gone))

pub has_no_log : {P : Type 0} {ghosts : Ghosts P} (see : P → Seen) (c : Config) (good : ℕ) (numbers : List ℕ) (v : Vol) (r : Running P ghosts) → RunsIn see c good numbers v r → v.dco ≡ None → log_of r.volume ≡ Absent
has_no_log see c good numbers v r runs none =
    absent_as see (log_of r.volume)
    (runs.lies.lies.log.there ∙ ap (λ (n : ℕ). nat_lt 0 n) runs.lies.lies.logs.long ∙ runs.logged ∙ ap (λ (o : Option Word). is_some o) none)
