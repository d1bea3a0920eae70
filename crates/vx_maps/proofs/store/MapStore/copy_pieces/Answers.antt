use Rattle.std.proofs.Common.{◌≡◌, ◌/◌, ap, sym, subst, arith, length, ℕ}
use Rattle.std.specs.Option.{option_map}
use Rattle.std.proofs.lemmas.List.{length-map}
use Rattle.vx_pages.specs.Pages.{grid_seen}
use Rattle.vx_maps.specs.Loading.{copy_at}
use Rattle.vx_maps.specs.Sheets.{sheets_seen}
use Rattle.vx_maps.specs.Slots.{slots_seen}
use Rattle.vx_maps.specs.Wholes.{store_copies}
use Rattle.vx_maps.proofs.OnlyPieces.{first_count, second_count}
use Rattle.vx_maps.proofs.store.MapStore.copy_pieces.Goals as goal

pub returns-then-copy-eq0 : goal.returns-then-copy-eq0
returns-then-copy-eq0 g c =
    let size = length-map c.args.self.now.base.sheets.first.items (option_map g.P.LocalPiece.seen) in
    let count = first_count (c.args.self.now.base.shape.map_bytes / 512) (grid_seen g.P.LocalPiece.seen c.args.self.now.pages.items) (sheets_seen g.P.LocalPiece.seen c.args.self.now.base.sheets) in
    subst (λ (n : ℕ). c.len.result ≡ length (copy_at (store_copies g.P.LocalPiece.seen c.args.self.now) n)) (sym c.if-copy-eq0.true) (omega (arith, size, count, c.len.ensures, c.args.self.now.base.sheets.first.ok.0))

pub returns-in-Some : goal.returns-in-Some
returns-in-Some g c =
    let one : c.args.copy ≡ 1 = omega (arith, c.requires, c.if-copy-eq0.false) in
    let size = length-map c.in-Some.slots.items (option_map g.P.LocalPiece.seen) in
    let count =
    second_count (c.args.self.now.base.shape.map_bytes / 512) (grid_seen g.P.LocalPiece.seen c.args.self.now.pages.items) (sheets_seen g.P.LocalPiece.seen c.args.self.now.base.sheets)
    (slots_seen g.P.LocalPiece.seen c.in-Some.slots.items) (ap (option_map (λ x. slots_seen g.P.LocalPiece.seen x.items)) c.in-Some.is) in
    subst (λ (n : ℕ). c.len-in-Some.result ≡ length (copy_at (store_copies g.P.LocalPiece.seen c.args.self.now) n)) (sym one) (omega (arith, size, count, c.len-in-Some.ensures, c.in-Some.slots.ok.0))
