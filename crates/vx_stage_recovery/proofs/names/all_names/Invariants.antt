use Rattle.std.proofs.Common.{◌≡◌, map, take}
use Rattle.vx_config_parts.specs.declared.vol.Vol.{Vol}
use Rattle.vx_stage_recovery.proofs.names.all_names.Given as goal

-- the names of the volumes so far
abbrev pub invariant-loop-vol : goal.invariant-loop-vol
invariant-loop-vol l = l.names.items ≡ map (λ (v : Vol). v.name) (take l.vol-index l.config.volumes)
