use Rattle.std.proofs.Common.{◌∙◌, ℕ, true, refl, sym, ap}
use Rattle.vx_mask.specs.Mask.{has}
use Rattle.vx_copies.specs.Disks.{DiskSeen}
use Rattle.vx_import.specs.Looks.{looked}
use Rattle.vx_house.specs.Scene.{shelved}
use Rattle.vx_stage_import.proofs.Returns.{sorted_good}
use Rattle.vx_stage_import.proofs.sorting.sort_one.Goals as goal

pub returns-clause-sorted : goal.returns-clause-sorted
returns-clause-sorted g c =
    sorted_good g.S.P.Piece.seen (has c.args.good c.args.one.header.slot) (looked g.S.P.Piece.seen c.args.one) c.args.disks.now.items c.put_first.new.disks.items
    (shelved g.S.Shelf.free g.S.Shelf.held g.S.Shelf.counted g.S.Shelf.faults c.args.shelf.now) (shelved g.S.Shelf.free g.S.Shelf.held g.S.Shelf.counted g.S.Shelf.faults c.args.shelf.now)
    (sym c.contains.ensures ∙ c.if-not-contains.false)
    (record {
      disk = record { name = c.args.one.header.disk; device = c.args.one.device; slot = c.args.one.header.slot; sectors = c.args.one.header.sectors; good = true; half = c.half_of-half.result; piece = c.args.one.piece };
      disks_are = c.put_first.ensures.put;
      disk_is = ap (λ (h : ℕ). (let x : DiskSeen = record { name = c.args.one.header.disk; device = c.args.one.device; slot = c.args.one.header.slot; sectors = c.args.one.header.sectors; good = true; half = h; seen = g.S.P.Piece.seen c.args.one.piece } in x)) c.half_of-half.ensures.names;
      still = refl;
    })
