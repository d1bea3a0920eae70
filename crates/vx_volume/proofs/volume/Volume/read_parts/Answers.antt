-- One part more is read.
use Rattle.std.proofs.Common.{◌≡◌, Err, refl, sym, ap, ◌∙◌, arith}
use Rattle.std.proofs.lemmas.Result.{err_from_is_err_and}
use Rattle.vx_volume.specs.declared.volume.VolumeShape.{VolumeShape}
use Rattle.vx_volume.specs.Calls.{CallsPart, IsRead, parts_in}
use Rattle.vx_volume.specs.Log.{log_kept_on}
use Rattle.vx_volume.specs.Volume.{volume_seen}
use Rattle.vx_volume.proofs.Loops.{done_more, made_all, made_stopped}
use Rattle.vx_volume.proofs.Parts.{done_before, fresh_here, fresh_next, part_called, told_few}
use Rattle.vx_volume.proofs.Ranges.{part_inside, parts_all, parts_within, region_some}
use Rattle.vx_volume.proofs.volume.Volume.read_parts.Goals as goal

pub read_part-requires-clause-one : goal.read_part-requires-clause-one
read_part-requires-clause-one g c κs within =
    let place = rw c.unwrap-span.ensures at c.part.ensures.place in
    part_inside _ _ _ c.args.start c.args.count c.loop-index.index c.unwrap-span.result (ap (λ (s : VolumeShape). s.geometry.region) c.loop-index.invariant.shape) (ap (λ (s : VolumeShape). s.geometry.length) c.loop-index.invariant.shape) (region_some c.args.self.now.shape.geometry) c.requires.inside place

pub read_part-requires-clause-fresh : goal.read_part-requires-clause-fresh
read_part-requires-clause-fresh g c κs within =
    let place = rw c.unwrap-span.ensures at c.part.ensures.place in
    fresh_here _ c.args.start c.args.count c.loop-index.index c.unwrap-span.result _ (ap (λ (s : VolumeShape). s.geometry.region) c.loop-index.invariant.shape) place c.loop-index.invariant.fresh

pub read_part-requires-clause-from : goal.read_part-requires-clause-from
read_part-requires-clause-from g c κs within =
    let place = rw c.unwrap-span.ensures at c.part.ensures.place in
    place.from

pub read_part-requires-clause-to : goal.read_part-requires-clause-to
read_part-requires-clause-to g c κs within =
    let place = rw c.unwrap-span.ensures at c.part.ensures.place in
    omega (arith, place.from, place.to, c.requires.bytes, c.loop-index.invariant.bytes)

pub read_part-requires-clause-spare : goal.read_part-requires-clause-spare
read_part-requires-clause-spare g c κs within =
    omega (arith, parts_within c.args.self.now.shape.geometry c.args.start c.args.count c.part_count-total.result c.requires.some c.part_count-total.ensures.each c.part_count-total.ensures.end, c.loop-index.invariant.few, c.loop-index.invariant.spare, c.loop-index-test.true, c.requires.spare)

pub returns-in_err-read_part-clause-made : goal.returns-in_err-read_part-clause-made
returns-in_err-read_part-clause-made g c =
    let place = rw c.unwrap-span.ensures at c.part.ensures.place in
    let told = err_from_is_err_and c.from_residual.result c.from_residual.ensures.1 in
    made_stopped (CallsPart IsRead c.args.start c.args.count c.read_part.new.blocks.items) (parts_in c.args.self.now.shape.geometry.region c.args.start c.args.count) c.loop-index.index _ _ _ c.in_err-read_part.field-0.0 c.from_residual.result (told.1 ∙ ap Err told.2) (omega (arith, parts_all c.args.self.now.shape.geometry c.args.start c.args.count c.part_count-total.result c.requires.some c.part_count-total.ensures.each c.part_count-total.ensures.end, c.loop-index-test.true)) (done_before IsRead c.args.self.now.shape.geometry.region c.args.start c.args.count (region_some c.args.self.now.shape.geometry) c.requires.some c.loop-index.blocks.items c.read_part.new.blocks.items _ (sym c.read_part.ensures.before) c.loop-index.index _ _ c.unwrap-span.result (ap (λ (s : VolumeShape). s.geometry.region) c.loop-index.invariant.shape) place refl c.loop-index.invariant.done)
    (part_called _ c.args.start c.args.count c.loop-index.index c.unwrap-span.result _ (ap (λ (s : VolumeShape). s.geometry.region) c.loop-index.invariant.shape) place IsRead _ _ _ (rw c.in_err-read_part.was at c.read_part.ensures.reads) c.read_part.new.blocks.items _ _ (sym c.part.ensures.value ∙ c.unwrap-span.ensures) refl c.read_part.ensures.told)

pub returns-in_err-read_part-clause-follows : goal.returns-in_err-read_part-clause-follows
returns-in_err-read_part-clause-follows g c = log_kept_on _ _ _ c.loop-index.invariant.follows c.read_part.ensures.follows

pub returns-in_err-read_part-clause-shape : goal.returns-in_err-read_part-clause-shape
returns-in_err-read_part-clause-shape g c = c.read_part.ensures.shape ∙ c.loop-index.invariant.shape

pub loop-index-preserved : goal.loop-index-preserved
loop-index-preserved g c =
    let place = rw c.unwrap-span.ensures at c.part.ensures.place in
    record {
      done = done_more (CallsPart IsRead c.args.start c.args.count c.read_part.new.blocks.items) c.loop-index.index _ _ _ (done_before IsRead c.args.self.now.shape.geometry.region c.args.start c.args.count (region_some c.args.self.now.shape.geometry) c.requires.some c.loop-index.blocks.items c.read_part.new.blocks.items _ (sym c.read_part.ensures.before) c.loop-index.index _ _ c.unwrap-span.result (ap (λ (s : VolumeShape). s.geometry.region) c.loop-index.invariant.shape) place refl c.loop-index.invariant.done)
          (part_called _ c.args.start c.args.count c.loop-index.index c.unwrap-span.result _ (ap (λ (s : VolumeShape). s.geometry.region) c.loop-index.invariant.shape) place IsRead _ _ _ (rw c.in_ok-read_part.was at c.read_part.ensures.reads) c.read_part.new.blocks.items _ _ (sym c.part.ensures.value ∙ c.unwrap-span.ensures) refl c.read_part.ensures.told);
      whole = c.read_part.ensures.whole;
      fresh = fresh_next _ c.args.start c.args.count c.loop-index.index c.unwrap-span.result _ (ap (λ (s : VolumeShape). s.geometry.region) c.loop-index.invariant.shape) place IsRead _ _ _ c.read_part.ensures.reads c.loop-index.invariant.fresh;
      shape = c.read_part.ensures.shape ∙ c.loop-index.invariant.shape;
      few = omega (arith, told_few _ (volume_seen g.P.Piece.seen c.loop-index.self) (volume_seen g.P.Piece.seen c.read_part.new.self) c.loop-index.parts.items c.read_part.new.parts.items c.read_part.ensures.told, c.loop-index.invariant.few);
      spare = c.read_part.ensures.room ∙ c.loop-index.invariant.spare;
      bytes = c.read_part.ensures.bytes ∙ c.loop-index.invariant.bytes;
      follows = log_kept_on _ _ _ c.loop-index.invariant.follows c.read_part.ensures.follows;
    }

pub returns-clause-made : goal.returns-clause-made
returns-clause-made g c =
    let all : c.loop-index.index ≡ parts_in c.args.self.now.shape.geometry.region c.args.start c.args.count = omega (arith, parts_all c.args.self.now.shape.geometry c.args.start c.args.count c.part_count-total.result c.requires.some c.part_count-total.ensures.each c.part_count-total.ensures.end, c.loop-index-test.false, c.loop-index.auto.index-end) in
    made_all (CallsPart IsRead c.args.start c.args.count c.loop-index.blocks.items) _ _ _ _ all c.loop-index.invariant.done
