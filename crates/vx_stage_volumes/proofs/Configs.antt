-- A configuration is its records: that it is valid can be said in one way alone.
use Rattle.std.proofs.Common.{◌≡◌, ap}
use Rattle.std.specs.Prelude.{IsTrue}
use Rattle.std.proofs.Math.Bool.{Bool-set}
use Rattle.vx_rules.specs.Rules.{is_valid}
use Rattle.vx_objects.specs.declared.config.Config.{Config}
use Rattle.vx_objects.specs.Parts.{records_of}

pub same_config : (c : Config) (valid : IsTrue (is_valid (records_of c.group c.version c.disks c.subdisks c.plexes c.volumes c.dcos c.snaps))) →
    (let d : Config = record { group = c.group; version = c.version; disks = c.disks; subdisks = c.subdisks; plexes = c.plexes; volumes = c.volumes; dcos = c.dcos; snaps = c.snaps; valid = valid } in d) ≡ c
same_config c valid = ap (λ v. (let d : Config = record { group = c.group; version = c.version; disks = c.disks; subdisks = c.subdisks; plexes = c.plexes; volumes = c.volumes; dcos = c.dcos; snaps = c.snaps; valid = v } in d)) (Bool-set _ _ valid c.valid)
