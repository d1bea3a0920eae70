use Rattle.vx_layout.proofs.RunLemmas.{first_place}
use Rattle.vx_layout.proofs.layout.Layout.place.Goals as goal

pub returns : goal.returns
returns c = first_place c.args.self.now.unit c.args.self.now.columns c.run_at-run.result c.args.block c.run_at-run.ensures.run c.run_at-run.ensures.block
