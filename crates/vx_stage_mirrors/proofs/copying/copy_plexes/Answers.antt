use Rattle.std.proofs.Common.{refl, sym, subst}
use Rattle.vx_stage_mirrors.specs.Copying.{CopyStops, IsTellable}
use Rattle.vx_stage_mirrors.proofs.CopyingFacts.{copy_tellable}
use Rattle.vx_stage_mirrors.proofs.copying.copy_plexes.Goals as goal

pub ended-requires-after_bounds : goal.ended-requires-after_bounds
ended-requires-after_bounds g c κs within =
    let group = c.args.group.now in
    let new = record group { public = record group.public { running = c.copy_running-outcome.new.running } } in
    subst (λ ds. IsTellable g.P.Piece.seen ds c.copy_running-outcome.result) (sym c.disks.ensures)
    (copy_tellable group new c.args.name.now c.args.mask c.copy_running-outcome.result c.copy_running-outcome.ensures refl c.requires.alike c.requires.whole)

pub returns : goal.returns
returns g c = record {
  result = c.copy_running-outcome.result;
  one = c.copy_running-outcome.ensures;
  same = refl;
  stop_is = subst (λ ds. CopyStops g.P.Piece.seen ds c.copy_running-outcome.result c.ended.result) c.disks.ensures c.ended.ensures;
}
