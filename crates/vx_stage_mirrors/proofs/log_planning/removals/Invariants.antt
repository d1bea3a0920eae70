use Rattle.std.proofs.Common.{◌≡◌, ◌++◌, drop, map}
use Rattle.std.specs.List.{filter}
use Rattle.vx_config_parts.specs.declared.plex.Plex.{Plex}
use Rattle.vx_config_parts.specs.Objects.{is_log_plex_of}
use Rattle.vx_objects.specs.declared.edit.Edit.TheVariants.{RemovePlex}
use Rattle.vx_stage_mirrors.proofs.log_planning.removals.Given as goal

abbrev pub invariant-loop-plex : goal.invariant-loop-plex
invariant-loop-plex l =
    l.edits.items ++ map (λ (p : Plex). RemovePlex p.name) (filter (is_log_plex_of l.vol) (drop l.plex-index l.plexes)) ≡ map (λ (p : Plex). RemovePlex p.name) (filter (is_log_plex_of l.vol) l.plexes)
