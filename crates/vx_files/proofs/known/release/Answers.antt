use Rattle.std.proofs.Common.{None, rules}
use Rattle.vx_files.proofs.Handles.{held_put, counted_put}
use Rattle.vx_files.proofs.Numbers.{numbered_known}
use Rattle.vx_files.specs.declared.known.Known.{Known}
use Rattle.vx_files.proofs.known.release.Goals as goal

pub returns-clause-given : goal.returns-clause-given
returns-clause-given c = let one : Known = record { device = c.in-Some.one.device; held = None; faults = c.args.faults } in held_put c.args.known.now c.insert.new.self c.args.name.now one c.in-Ok.ensures.updates.0

pub returns-clause-counts : goal.returns-clause-counts
returns-clause-counts c = let one : Known = record { device = c.in-Some.one.device; held = None; faults = c.args.faults } in counted_put c.args.known.now c.insert.new.self c.args.name.now one c.in-Ok.ensures.updates.0

pub returns-clause-numbered : goal.returns-clause-numbered
returns-clause-numbered c = let one : Known = record { device = c.in-Some.one.device; held = None; faults = c.args.faults } in numbered_known c.args.known.now c.insert.new.self c.args.name.now one c.in-Ok.field-0 c.in-Ok.ensures.old c.in-Ok.ensures.updates.0 c.in-Ok.ensures.len (search rules)
