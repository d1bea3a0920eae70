use Rattle.std.proofs.Common.{Some}
use Rattle.vx_files.proofs.Handles.{held_put, counted_kept}
use Rattle.vx_files.proofs.Numbers.{numbered_known}
use Rattle.vx_files.specs.declared.known.Known.{Known}
use Rattle.vx_files.proofs.known.hold.Goals as goal

pub returns-clause-held : goal.returns-clause-held
returns-clause-held c = let one : Known = record c.in_ok-one.one { held = Some c.args.sectors } in held_put c.args.known.now c.insert.new.self c.args.name.now one c.in-Ok.ensures.updates.0

pub returns-clause-counts : goal.returns-clause-counts
returns-clause-counts c = let one : Known = record c.in_ok-one.one { held = Some c.args.sectors } in counted_kept c.args.known.now c.insert.new.self c.args.name.now one c.in-Ok.ensures.updates.0 c.in_ok-one.ensures.faults

pub returns-clause-numbered : goal.returns-clause-numbered
returns-clause-numbered c = let one : Known = record c.in_ok-one.one { held = Some c.args.sectors } in numbered_known c.args.known.now c.insert.new.self c.args.name.now one c.in-Ok.field-0 c.in-Ok.ensures.old c.in-Ok.ensures.updates.0 c.in-Ok.ensures.len c.in_ok-one.ensures.device
