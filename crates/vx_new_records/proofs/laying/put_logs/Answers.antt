use Rattle.std.proofs.Common.{rules, length, refl}
use Rattle.std.proofs.lemmas.Slice.Zip.{zip_end}
use Rattle.vx_new_volumes.specs.Laying.{put_logs}
use Rattle.vx_new_records.specs.Laid.{laid}
use Rattle.vx_new_records.proofs.Pairs.{ends, no_log}
use Rattle.vx_new_records.proofs.laying.put_logs.Goals as goal

pub returns : goal.returns
returns c =
    let names = c.args.names.now in
    let parts = c.args.logs.now in
    let known = c.args.known.now.names.items in
    ends (put_logs known) (λ _ _. refl) (no_log known) names parts (length c.loop-name.yielded) (laid c.loop-name.made) _
    (zip_end names parts c.loop-name.yielded c.into_iter-name-iterator.result c.loop-name.name-iterator c.next.new.self _ (search rules) (search rules) c.loop-name.yielded_by c.in-None.is c.next.ensures.steps)
    c.loop-name.invariant
