use Rattle.std.proofs.Common.{sym, subst}
use Rattle.std.specs.Prelude.{IfErr}
use Rattle.vx_added_records.specs.Started.{is_either}
use Rattle.vx_stages.specs.Sources.{Denies}
use Rattle.vx_stage_changes.specs.Judging.{StopsAs, group_now}
use Rattle.vx_stage_changes.proofs.sources.added_from.Goals as goal

pub returns-in-Volume-clause-denied : goal.returns-in-Volume-clause-denied
returns-in-Volume-clause-denied g c =
    subst (λ s. IfErr c.laid.result (StopsAs (Denies s (is_either c.args.volumes.now c.args.group.now.public.running) (group_now g.P.Piece.seen c.args.group.now)))) (sym c.in-Volume.is) c.laid.ensures.unlaid
