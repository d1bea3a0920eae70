use Rattle.std.proofs.Common.{rules, ◌≡◌, ◌∷◌, ◌++◌, [], map, refl}
use Rattle.vx_copies.specs.Disks.{disk_seen}
use Rattle.vx_copies.specs.Lists.{AllOf}
use Rattle.vx_fronts.specs.Forms.{HasForm}
use Rattle.vx_fronts.proofs.Steps.{loop_formed, loop_goes, loop_joinable, loop_starts, on_ok, reparts_none}
use Rattle.vx_fronts.proofs.parting.part_disks.Goals as goal

pub returns-in_default-clause-parts : goal.returns-in_default-clause-parts
returns-in_default-clause-parts g c = reparts_none _ _

pub left-init : goal.left-init
left-init g c =
    let none : c.in-Ok.parted.items ≡ [] = search rules in
    record {
      parts = loop_starts g.P.Piece.seen c.args.disks.items c.reverse.new.self.items c.in-Ok.parted.items _ _ c.reverse.ensures.items none refl;
      formed = search rules;
      room = search rules;
    }

pub part_disk-requires-clause-joinable : goal.part_disk-requires-clause-joinable
part_disk-requires-clause-joinable g c κs within = λ close.
    let left : c.left.left.items ≡ c.pop.new.self.items ++ c.in-Some.disk ∷ [] = search rules in
    loop_joinable g.P.Piece.seen _ c.left.parted.items c.left.left.items c.pop.new.self.items c.in-Some.disk _ _ left (c.requires.joinable close) c.left.invariant.parts

pub left-preserved-in-Ok-part_disk : goal.left-preserved-in-Ok-part_disk
left-preserved-in-Ok-part_disk g c =
    let left : c.left.left.items ≡ c.pop.new.self.items ++ c.in-Some.disk ∷ [] = search rules in
    record {
      parts = loop_goes g.P.Piece.seen (map (disk_seen g.P.Piece.seen) c.args.disks.items) c.left.parted.items c.left.left.items c.pop.new.self.items c.push_reserved.new.self.items c.in-Some.disk c.in-Ok-part_disk.disk (map g.P.Piece.seen c.args.pool.now.items.items) (map g.P.Piece.seen c.left.pool.items.items) (map g.P.Piece.seen c.part_disk.new.pool.items.items) left c.push_reserved.ensures.items c.left.invariant.parts c.in-Ok-part_disk.ensures.parts;
      formed = on_ok c.left.result (AllOf (HasForm c.args.parting) (map (disk_seen g.P.Piece.seen) c.left.parted.items)) (AllOf (HasForm c.args.parting) (map (disk_seen g.P.Piece.seen) c.push_reserved.new.self.items)) (λ all. loop_formed g.P.Piece.seen (HasForm c.args.parting) c.left.parted.items c.push_reserved.new.self.items c.in-Ok-part_disk.disk c.push_reserved.ensures.items all c.in-Ok-part_disk.ensures.formed) c.left.invariant.formed;
      room = search rules;
    }

pub left-preserved : goal.left-preserved
left-preserved g c =
    let left : c.left.left.items ≡ c.pop.new.self.items ++ c.in-Some.disk ∷ [] = search rules in
    record {
      parts = loop_goes g.P.Piece.seen (map (disk_seen g.P.Piece.seen) c.args.disks.items) c.left.parted.items c.left.left.items c.pop.new.self.items c.push_reserved-in-Err.new.self.items c.in-Some.disk c.in-Err.disk (map g.P.Piece.seen c.args.pool.now.items.items) (map g.P.Piece.seen c.left.pool.items.items) (map g.P.Piece.seen c.part_disk.new.pool.items.items) left c.push_reserved-in-Err.ensures.items c.left.invariant.parts c.in-Err.ensures.kept;
      formed = tt;
      room = search rules;
    }
