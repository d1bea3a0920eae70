use Rattle.std.proofs.Common.{ℕ, ◌+◌, ap}
use Rattle.vx_mapfmt.specs.Sizes.{parts_of}
use Rattle.vx_mapfmt.proofs.SizeLemmas.{slots_before, page_in_slot}
use Rattle.vx_mapfmt.proofs.shape.DcoShape.sector_of.Goals as goal

pub returns-clause-value : goal.returns-clause-value
returns-clause-value c =
    let shape = c.args.self.now in
    ap (λ (n : ℕ). n + 1 + c.args.page) (slots_before (3 + c.args.map) shape.map_bytes (parts_of 8192 (512 + parts_of 8 shape.regions)) shape.map_sized)

pub returns-clause-in_slot : goal.returns-clause-in_slot
returns-clause-in_slot c =
    let shape = c.args.self.now in
    page_in_slot shape.regions shape.map_bytes c.args.map c.args.page (parts_of 8192 (512 + parts_of 8 shape.regions)) shape.map_sized shape.map_sized c.requires.page
