-- A part of a range is read to its place.
use Rattle.std.proofs.Common.{◌≡◌, ◌-◌, ◌*◌, ◌/◌, ◌+◌, ◌≤◌, List, ℕ, length, sym, subst, rules}
use Rattle.vx_volume.specs.Calls.{ChangesRegion, IsRead}
use Rattle.vx_volume.specs.Loop.{stop_of}
use Rattle.vx_volume.specs.Volume.{volume_seen}
use Rattle.vx_volume.proofs.Buffers.{put_before, put_there}
use Rattle.vx_volume.proofs.volume.Volume.read_part.Goals as goal

pub returns-clause-reads : goal.returns-clause-reads
returns-clause-reads g c =
    let long : length c.read_span.new.into ≡ 512 * c.args.span.count = search rules in
    let room : 512 * (c.args.span.start - c.args.start) + 512 * c.args.span.count ≤ length c.args.blocks.now.items = search rules in
    subst (λ (b : List ℕ). ChangesRegion (c.args.span.start / c.args.self.now.shape.geometry.region) (IsRead c.args.span b (stop_of c.read_span.result)) (volume_seen g.P.Piece.seen c.args.self.now) (volume_seen g.P.Piece.seen c.read_span.new.self))
    (sym (put_there (512 * (c.args.span.start - c.args.start)) (512 * c.args.span.count) c.stretch-from.result.0 c.stretch-from.result.1 c.args.blocks.now.len c.deref_mut.result.now c.read_span.new.into c.args.blocks.now.items c.stretch-from.ensures.from c.stretch-from.ensures.to c.deref_mut.ensures.value room long (search rules)))
    c.read_span.ensures.reads

pub returns-clause-before : goal.returns-clause-before
returns-clause-before g c =
    let long : length c.read_span.new.into ≡ 512 * c.args.span.count = search rules in
    let room : 512 * (c.args.span.start - c.args.start) + 512 * c.args.span.count ≤ length c.args.blocks.now.items = search rules in
    put_before (512 * (c.args.span.start - c.args.start)) (512 * c.args.span.count) c.stretch-from.result.0 c.stretch-from.result.1 c.args.blocks.now.len c.deref_mut.result.now c.read_span.new.into c.args.blocks.now.items c.stretch-from.ensures.from c.stretch-from.ensures.to c.deref_mut.ensures.value room long (search rules)
