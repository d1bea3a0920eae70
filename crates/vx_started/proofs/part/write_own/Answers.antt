use Rattle.std.proofs.Common.{◌≡◌, ◌+◌, ◌-◌, ◌*◌, rules, arith, length, take, drop, length-drop}
use Rattle.std.proofs.lemmas.List.{length-take-le}
use Rattle.vx_started.proofs.part.write_own.Goals as goal

pub write-requires : goal.write-requires
write-requires g c =
    let size : 512 * (c.args.span.start - c.args.start) + 512 * c.args.span.count - 512 * (c.args.span.start - c.args.start) ≡ 512 * c.args.span.count = omega arith in
    let long : length (take (512 * c.args.span.count) (drop (512 * (c.args.span.start - c.args.start)) c.args.bytes.now)) ≡ 512 * c.args.span.count = length-take-le _ _ (omega (arith, length-drop (512 * (c.args.span.start - c.args.start)) c.args.bytes.now, c.requires.from, c.requires.holds)) in
    rw size (rw long (search (rules, arith)))
