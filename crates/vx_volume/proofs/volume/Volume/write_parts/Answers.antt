-- One part more is written.
use Rattle.std.proofs.Common.{◌≡◌, ◌-◌, ◌*◌, Err, sym, ap, ◌∙◌, arith}
use Rattle.std.proofs.lemmas.Result.{err_from_is_err_and}
use Rattle.vx_volume.specs.declared.volume.VolumeShape.{VolumeShape}
use Rattle.vx_volume.specs.Calls.{CallsPart, IsWritten, parts_in}
use Rattle.vx_volume.specs.Log.{log_kept_on}
use Rattle.vx_volume.specs.Volume.{volume_seen}
use Rattle.vx_volume.proofs.Buffers.{stretch_is, stretch_long}
use Rattle.vx_volume.proofs.Loops.{done_more, made_all, made_stopped}
use Rattle.vx_volume.proofs.Parts.{fresh_here, fresh_next, part_called, told_few}
use Rattle.vx_volume.proofs.Ranges.{part_inside, parts_all, parts_within, region_some}
use Rattle.vx_volume.proofs.volume.Volume.write_parts.Goals as goal

pub write_span-requires-clause-one : goal.write_span-requires-clause-one
write_span-requires-clause-one g c κs within =
    let place = rw c.unwrap-span.ensures at c.part.ensures.place in
    part_inside _ _ _ c.args.start c.args.count c.loop-index.index c.unwrap-span.result (ap (λ (s : VolumeShape). s.geometry.region) c.loop-index.invariant.shape) (ap (λ (s : VolumeShape). s.geometry.length) c.loop-index.invariant.shape) (region_some c.args.self.now.shape.geometry) c.requires.inside place

pub write_span-requires-clause-fresh : goal.write_span-requires-clause-fresh
write_span-requires-clause-fresh g c κs within =
    let place = rw c.unwrap-span.ensures at c.part.ensures.place in
    fresh_here _ c.args.start c.args.count c.loop-index.index c.unwrap-span.result _ (ap (λ (s : VolumeShape). s.geometry.region) c.loop-index.invariant.shape) place c.loop-index.invariant.fresh

pub write_span-requires-clause-bytes : goal.write_span-requires-clause-bytes
write_span-requires-clause-bytes g c κs within =
    let place = rw c.unwrap-span.ensures at c.part.ensures.place in
    stretch_long c.args.bytes.now (512 * (c.unwrap-span.result.start - c.args.start)) (512 * c.unwrap-span.result.count) c.stretch-from.result.0 c.stretch-from.result.1 c.stretch-from.ensures.from c.stretch-from.ensures.to (omega (arith, place.from, place.to, c.requires.bytes))

pub write_span-requires-clause-spare : goal.write_span-requires-clause-spare
write_span-requires-clause-spare g c κs within =
    omega (arith, parts_within c.args.self.now.shape.geometry c.args.start c.args.count c.part_count-total.result c.requires.some c.part_count-total.ensures.each c.part_count-total.ensures.end, c.loop-index.invariant.few, c.loop-index.invariant.spare, c.loop-index-test.true, c.requires.spare)

pub returns-in_err-write_span-clause-made : goal.returns-in_err-write_span-clause-made
returns-in_err-write_span-clause-made g c =
    let place = rw c.unwrap-span.ensures at c.part.ensures.place in
    let told = err_from_is_err_and c.from_residual.result c.from_residual.ensures.1 in
    made_stopped (CallsPart IsWritten c.args.start c.args.count c.args.bytes.now) (parts_in c.args.self.now.shape.geometry.region c.args.start c.args.count) c.loop-index.index _ _ _ c.in_err-write_span.field-0.0 c.from_residual.result (told.1 ∙ ap Err told.2) (omega (arith, parts_all c.args.self.now.shape.geometry c.args.start c.args.count c.part_count-total.result c.requires.some c.part_count-total.ensures.each c.part_count-total.ensures.end, c.loop-index-test.true)) c.loop-index.invariant.done
    (part_called _ c.args.start c.args.count c.loop-index.index c.unwrap-span.result _ (ap (λ (s : VolumeShape). s.geometry.region) c.loop-index.invariant.shape) place IsWritten _ _ _ (rw c.in_err-write_span.was at c.write_span.ensures.writes) c.args.bytes.now _ _ (sym c.part.ensures.value ∙ c.unwrap-span.ensures) (stretch_is c.args.bytes.now (512 * (c.unwrap-span.result.start - c.args.start)) (512 * c.unwrap-span.result.count) c.stretch-from.result.0 c.stretch-from.result.1 c.stretch-from.ensures.from c.stretch-from.ensures.to) c.write_span.ensures.told)

pub returns-in_err-write_span-clause-follows : goal.returns-in_err-write_span-clause-follows
returns-in_err-write_span-clause-follows g c = log_kept_on _ _ _ c.loop-index.invariant.follows c.write_span.ensures.follows

pub returns-in_err-write_span-clause-shape : goal.returns-in_err-write_span-clause-shape
returns-in_err-write_span-clause-shape g c = c.write_span.ensures.shape ∙ c.loop-index.invariant.shape

pub loop-index-preserved : goal.loop-index-preserved
loop-index-preserved g c =
    let place = rw c.unwrap-span.ensures at c.part.ensures.place in
    record {
      done = done_more (CallsPart IsWritten c.args.start c.args.count c.args.bytes.now) c.loop-index.index _ _ _ c.loop-index.invariant.done
          (part_called _ c.args.start c.args.count c.loop-index.index c.unwrap-span.result _ (ap (λ (s : VolumeShape). s.geometry.region) c.loop-index.invariant.shape) place IsWritten _ _ _ (rw c.in_ok-write_span.was at c.write_span.ensures.writes) c.args.bytes.now _ _ (sym c.part.ensures.value ∙ c.unwrap-span.ensures) (stretch_is c.args.bytes.now (512 * (c.unwrap-span.result.start - c.args.start)) (512 * c.unwrap-span.result.count) c.stretch-from.result.0 c.stretch-from.result.1 c.stretch-from.ensures.from c.stretch-from.ensures.to) c.write_span.ensures.told);
      whole = c.write_span.ensures.whole;
      fresh = fresh_next _ c.args.start c.args.count c.loop-index.index c.unwrap-span.result _ (ap (λ (s : VolumeShape). s.geometry.region) c.loop-index.invariant.shape) place IsWritten _ _ _ c.write_span.ensures.writes c.loop-index.invariant.fresh;
      shape = c.write_span.ensures.shape ∙ c.loop-index.invariant.shape;
      few = omega (arith, told_few _ (volume_seen g.P.Piece.seen c.loop-index.self) (volume_seen g.P.Piece.seen c.write_span.new.self) c.loop-index.parts.items c.write_span.new.parts.items c.write_span.ensures.told, c.loop-index.invariant.few);
      spare = c.write_span.ensures.room ∙ c.loop-index.invariant.spare;
      follows = log_kept_on _ _ _ c.loop-index.invariant.follows c.write_span.ensures.follows;
    }

pub returns-clause-made : goal.returns-clause-made
returns-clause-made g c =
    let all : c.loop-index.index ≡ parts_in c.args.self.now.shape.geometry.region c.args.start c.args.count = omega (arith, parts_all c.args.self.now.shape.geometry c.args.start c.args.count c.part_count-total.result c.requires.some c.part_count-total.ensures.each c.part_count-total.ensures.end, c.loop-index-test.false, c.loop-index.auto.index-end) in
    made_all (CallsPart IsWritten c.args.start c.args.count c.args.bytes.now) _ _ _ _ all c.loop-index.invariant.done
