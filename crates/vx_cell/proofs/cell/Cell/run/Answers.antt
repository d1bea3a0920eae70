use Rattle.std.proofs.Common.{refl}
use Rattle.vx_cell.specs.Plexes.{plexes_seen}
use Rattle.vx_cell.specs.Calls.{region_of}
use Rattle.vx_cell.proofs.Steps.{running_starts, running_next, running_smaller, askable_now, maps_fit}
use Rattle.vx_cell.proofs.LogLaws.{carried_may}
use Rattle.vx_cell.proofs.cell.Cell.run.Goals as goal

pub loop-self-init : goal.loop-self-init
loop-self-init g c =
    record {
      running =
          running_starts c.args.self.now.stage c.args.self.now.region c.args.self.now.span.start c.args.self.now.span.count c.args.self.now.number c.args.self.now.epoch
          (plexes_seen g.P.Piece.seen c.args.self.now.plexes.items) (g.M.Marker.log c.args.log.now) c.args.job
          (record { at = c.args.at; into = c.args.into.now; from = c.args.from.now; scratch = c.args.scratch.now }) c.next-begun.result
          c.requires.may c.requires.whole c.next-begun.ensures.named c.next-begun.ensures.form c.next-begun.ensures.possible c.next-begun.ensures.causes c.next-begun.ensures.follows c.next-begun.ensures.fails
          c.next-begun.ensures.reads c.next-begun.ensures.table;
      same = record { region = refl; span = refl; number = refl; epoch = refl };
      follows = g.met.M.Marker.follows_same c.args.log.now;
    }

pub carry_out-requires-clause-maps : goal.carry_out-requires-clause-maps
carry_out-requires-clause-maps g c κs within = maps_fit (region_of g.P.Piece.seen c.loop-self.self (g.M.Marker.log c.loop-self.log)) c.loop-self.invariant.running.whole

pub carry_out-requires-clause-askable : goal.carry_out-requires-clause-askable
carry_out-requires-clause-askable g c κs within =
    askable_now c.args.job (record { at = c.args.at; into = c.args.into.now; from = c.args.from.now; scratch = c.args.scratch.now }) (region_of g.P.Piece.seen c.args.self.now (g.M.Marker.log c.args.log.now))
    (region_of g.P.Piece.seen c.loop-self.self (g.M.Marker.log c.loop-self.log)) c.loop-self.first c.loop-self.act
    (record { at = c.args.at; into = c.loop-self.into; from = c.args.from.now; scratch = c.loop-self.scratch }) c.in-Busy.work c.in-Busy.is c.loop-self.invariant.running c.requires.callable

pub loop-self-smaller : goal.loop-self-smaller
loop-self-smaller g c =
    running_smaller c.loop-self.self.stage (plexes_seen g.P.Piece.seen c.loop-self.self.plexes.items) c.loop-self.act c.in-Busy.work c.in-Some.answer.event c.next-moved.result c.in-Busy.is
    c.loop-self.invariant.running.named c.loop-self.invariant.running.whole.formed
    (carried_may c.loop-self.self.region (plexes_seen g.P.Piece.seen c.loop-self.self.plexes.items) _ (g.M.Marker.log c.loop-self.log) _ _ _ c.loop-self.act c.in-Some.answer.event c.in-Some.ensures.carries)
    c.next-moved.ensures.form

pub loop-self-preserved : goal.loop-self-preserved
loop-self-preserved g c =
    record {
      running =
          running_next c.args.job (record { at = c.args.at; into = c.args.into.now; from = c.args.from.now; scratch = c.args.scratch.now }) (region_of g.P.Piece.seen c.args.self.now (g.M.Marker.log c.args.log.now))
          c.loop-self.self.stage c.loop-self.self.region c.loop-self.self.span.start c.loop-self.self.span.count c.loop-self.self.number c.loop-self.self.epoch
          (plexes_seen g.P.Piece.seen c.loop-self.self.plexes.items) (g.M.Marker.log c.loop-self.log) c.loop-self.first c.loop-self.act
          (record { at = c.args.at; into = c.loop-self.into; from = c.args.from.now; scratch = c.loop-self.scratch }) c.in-Busy.work c.in-Some.answer
          (plexes_seen g.P.Piece.seen c.carry_out.new.plexes.items) (g.M.Marker.log c.carry_out.new.log)
          (record { at = c.args.at; into = c.carry_out.new.into; from = c.args.from.now; scratch = c.carry_out.new.scratch }) c.next-moved.result
          c.in-Busy.is c.loop-self.invariant.running c.requires.callable c.requires.scratch c.in-Some.ensures.carries c.in-Some.ensures.placed
          (record { same_at = refl; same_from = refl; same_into = c.in-Some.ensures.into; same_scratch = c.in-Some.ensures.scratch })
          c.next-moved.ensures.named c.next-moved.ensures.form c.next-moved.ensures.possible c.next-moved.ensures.causes c.next-moved.ensures.follows c.next-moved.ensures.fails c.next-moved.ensures.reads
          c.next-moved.ensures.table c.earlier-first.result c.earlier-first.ensures;
      same = let k = c.loop-self.invariant.same in record { region = k.region; span = k.span; number = k.number; epoch = k.epoch };
      follows = g.met.M.Marker.follows_on c.args.log.now c.loop-self.log c.carry_out.new.log c.loop-self.invariant.follows c.in-Some.ensures.follows;
    }
