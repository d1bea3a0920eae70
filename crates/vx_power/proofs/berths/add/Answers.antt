use Rattle.std.proofs.Common.{◌≡◌, ◌++◌, [], ◌∷◌}
use Rattle.vx_power.specs.Berths.{empty_berth}
use Rattle.vx_power.proofs.BerthLemmas.{first_has, gone_push, here_push}
use Rattle.vx_power.proofs.berths.add.Goals as goal

pub returns-in-Some-clause-here : goal.returns-in-Some-clause-here
returns-in-Some-clause-here c = let found = rw c.as_slice.ensures.value at c.in-Some.ensures in first_has c.args.name.now c.args.berths.now.items c.in-Some.field-0 found.1

pub returns-in_ok-push-in-None-clause-here : goal.returns-in_ok-push-in-None-clause-here
returns-in_ok-push-in-None-clause-here c = let items : c.push.new.self.items ≡ c.args.berths.now.items ++ empty_berth c.args.name.now ∷ [] = c.in_ok-push-in-None.ensures.items in rw items (here_push c.args.berths.now.items c.args.name.now)

pub returns-in_ok-push-in-None-clause-gone : goal.returns-in_ok-push-in-None-clause-gone
returns-in_ok-push-in-None-clause-gone c = λ other. let items : c.push.new.self.items ≡ c.args.berths.now.items ++ empty_berth c.args.name.now ∷ [] = c.in_ok-push-in-None.ensures.items in rw items (gone_push c.args.berths.now.items c.args.name.now other)
