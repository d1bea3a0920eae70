use Rattle.std.proofs.Common.{◌≡◌, ◌+◌, ◌-◌, ℕ, arith, subst, IfSome}
use Rattle.std.proofs.lemmas.Result.{on_ok_weaker}
use Rattle.vx_base.specs.Blocks.{AreBlocks}
use Rattle.vx_started.specs.Buffers.{HoldsFirst}
use Rattle.vx_started.proofs.Fills.{holds_more}
use Rattle.vx_started.proofs.part.read_behind.Goals as goal

pub returns-clause-ok : goal.returns-clause-ok
returns-clause-ok g c =
    let told = (g.P.Piece.seen c.args.piece.now).told in
    let read = c.read_between.ensures.between in
    let o : ℕ = c.args.span.start - c.args.start in
    let place : c.args.span.start ≡ c.args.start + o = omega (arith, c.requires.from) in
    let end : o + c.args.span.count ≡ c.args.span.start + c.args.span.count - c.args.start = omega (arith, c.requires.from) in
    on_ok_weaker c.read_between.result
    (λ fits (holds : HoldsFirst c.args.blocks.now.items told c.args.start o). subst (λ m. HoldsFirst c.read_between.new.blocks.items told c.args.start m) end
    (holds_more c.args.blocks.now.items c.read_between.new.blocks.items read.0 told c.args.start o c.args.span.count _ (omega (arith, read.1)) (omega (arith, c.requires.room, end)) (omega arith) read.2 (subst (λ a. IfSome told (λ contents. AreBlocks read.0 contents a)) place fits) holds))
    read.3
