-- The records, step by step.
use Rattle.std.proofs.Common.{◌≡◌, Option, Some, None, List, sym, ap, ◌∙◌}
use Rattle.vx_base.specs.Named.{Word}
use Rattle.vx_config_parts.specs.declared.object.Object.{Object}
use Rattle.vx_new_volumes.specs.declared.parts.Plan.{Plan}
use Rattle.vx_new_volumes.specs.declared.volume.NewVolume.{NewVolume}
use Rattle.vx_new_volumes.specs.Naming.{and_then}
use Rattle.vx_new_volumes.specs.Records.{dco_name, names_known, records_named, records_of}
use Rattle.vx_new_records.specs.Named.{plex_names, log_names}

with_logs : List Word → NewVolume → Plan → Word → List Word → List Word → Option (List Object)
with_logs known n plan dco plexes logs = records_named known n dco plexes logs plan

with_plexes : List Word → NewVolume → Plan → Word → List Word → Option (List Object)
with_plexes known n plan dco plexes = and_then (log_names known n plan) (with_logs known n plan dco plexes)

with_names : List Word → NewVolume → Plan → Word → Option (List Object)
with_names known n plan dco = and_then (plex_names known n plan) (with_plexes known n plan dco)

with_dco : List Object → NewVolume → Plan → Word → Option (List Object)
with_dco group n plan dco = with_names (names_known group n dco) n plan dco

module _ (group : List Object) (n : NewVolume) (plan : Plan) where
  pub no_dco : dco_name n.vol ≡ None → records_of group n plan ≡ None
  unfolding records_of with_dco with_names with_plexes with_logs
  no_dco e = ap (λ (o : Option Word). and_then o (with_dco group n plan)) e

  by_dco : (dco : Word) → dco_name n.vol ≡ Some dco → records_of group n plan ≡ with_dco group n plan dco
  unfolding records_of with_dco with_names with_plexes with_logs
  by_dco dco e = ap (λ (o : Option Word). and_then o (with_dco group n plan)) e

  by_names : (dco : Word) (known : List Word) → dco_name n.vol ≡ Some dco → known ≡ names_known group n dco → records_of group n plan ≡ with_names known n plan dco
  unfolding with_dco
  by_names dco known e h = by_dco dco e ∙ ap (λ (names : List Word). with_names names n plan dco) (sym h)

  pub no_plexes : (dco : Word) (known : List Word) → dco_name n.vol ≡ Some dco → known ≡ names_known group n dco → plex_names known n plan ≡ None → records_of group n plan ≡ None
  unfolding with_names
  no_plexes dco known e h p = by_names dco known e h ∙ ap (λ (o : Option (List Word)). and_then o (with_plexes known n plan dco)) p

  by_plexes : (dco : Word) (known plexes : List Word) → dco_name n.vol ≡ Some dco → known ≡ names_known group n dco → plex_names known n plan ≡ Some plexes → records_of group n plan ≡ with_plexes known n plan dco plexes
  unfolding with_names
  by_plexes dco known plexes e h p = by_names dco known e h ∙ ap (λ (o : Option (List Word)). and_then o (with_plexes known n plan dco)) p

  pub no_logs : (dco : Word) (known plexes : List Word) → dco_name n.vol ≡ Some dco → known ≡ names_known group n dco → plex_names known n plan ≡ Some plexes → log_names known n plan ≡ None → records_of group n plan ≡ None
  unfolding with_plexes
  no_logs dco known plexes e h p q = by_plexes dco known plexes e h p ∙ ap (λ (o : Option (List Word)). and_then o (with_logs known n plan dco plexes)) q

  pub all_named : (dco : Word) (known plexes logs : List Word) → dco_name n.vol ≡ Some dco → known ≡ names_known group n dco → plex_names known n plan ≡ Some plexes → log_names known n plan ≡ Some logs →
      records_of group n plan ≡ records_named known n dco plexes logs plan
  unfolding with_plexes with_logs
  all_named dco known plexes logs e h p q = by_plexes dco known plexes e h p ∙ ap (λ (o : Option (List Word)). and_then o (with_logs known n plan dco plexes)) q
