-- The log that the volume had is left over.
use Rattle.std.proofs.Common.{◌∙◌, ◌++◌, [], refl, sym, ap, subst}
use Rattle.vx_carve.specs.Together.{SameSectors}
use Rattle.vx_carve.proofs.Same.{same_refl}
use Rattle.vx_lending.specs.Logs.{log_pieces}
use Rattle.vx_lending.specs.Public.{still_pieces}
use Rattle.vx_volume.specs.declared.log.VolumeLog.TheVariants.{Absent}
use Rattle.vx_stage_mirrors.proofs.Entries.{public_but}
use Rattle.vx_stage_mirrors.proofs.Relogs.{log_was, relogs_in}
use Rattle.vx_stage_mirrors.proofs.unpreparing.part.Goals as goal

pub returns-in-Maps : goal.returns-in-Maps
returns-in-Maps g c =
    let see = g.P.Piece.seen in
    let group = c.args.group.now in
    let left = c.leave_log.new.public in
    let relogs = c.relog.ensures.relogs in
    let was = sym c.in-Maps.is ∙ log_was see c.args.name.now Absent c.new-none.result.items group.public.running c.relog.new.running relogs c.relog.result c.relog.ensures.was in
    record {
      parted =
          relogs_in see c.args.name.now Absent c.new-none.result.items group.public.running c.relog.new.running relogs [] group (record group { public = left }) refl c.leave_log.ensures.running c.new-none.ensures.items
          (subst (λ l. SameSectors (log_pieces see l ++ still_pieces see group.public) (still_pieces see left)) was c.leave_log.ensures.still)
          (ap (λ p. record group { public = p }) (public_but group.public left.pool left.left left.running left.stuck c.leave_log.ensures.pool c.leave_log.ensures.stuck));
    }

pub returns-in-Absent : goal.returns-in-Absent
returns-in-Absent g c =
    let see = g.P.Piece.seen in
    let group = c.args.group.now in
    let relogs = c.relog.ensures.relogs in
    let was = sym c.in-Absent.is ∙ log_was see c.args.name.now Absent c.new-none.result.items group.public.running c.relog.new.running relogs c.relog.result c.relog.ensures.was in
    record {
      parted =
          relogs_in see c.args.name.now Absent c.new-none.result.items group.public.running c.relog.new.running relogs [] group (record group { public = record group.public { running = c.relog.new.running } }) refl refl c.new-none.ensures.items
          (subst (λ l. SameSectors (log_pieces see l ++ still_pieces see group.public) (still_pieces see group.public)) was (same_refl (still_pieces see group.public)))
          refl;
    }
