-- Each slot of a copy has a piece, its own or that of a page.
use Rattle.std.proofs.Common.{rules, ◌≡◌, ◌+◌, ℕ, List, length, sym, subst, arith}
use Rattle.std.specs.Prelude.{IfSome, ◌/◌}
use Rattle.std.specs.List.{sum_by}
use Rattle.std.specs.Option.{option_map}
use Rattle.std.proofs.lemmas.List.{length-map}
use Rattle.vx_piece.specs.Seen.{Seen}
use Rattle.vx_pages.specs.Pages.{grid_seen}
use Rattle.vx_maps.specs.Copies.{copies_list}
use Rattle.vx_maps.specs.Slots.{filled, slots_seen}
use Rattle.vx_maps.specs.Wholes.{store_copies}
use Rattle.vx_maps.proofs.PieceCounts.{one_copy, two_copies}
use Rattle.vx_maps.proofs.counting.store_pieces.Goals as goal

pub returns-in-Some : goal.returns-in-Some
returns-in-Some g c =
    let size : ℕ = c.args.store.now.base.shape.map_bytes / 512 in
    let pages = grid_seen g.P.LocalPiece.seen c.args.store.now.pages.items in
    let first = slots_seen g.P.LocalPiece.seen c.args.store.now.base.sheets.first.items in
    let second = slots_seen g.P.LocalPiece.seen c.in-Some.slots.items in
    let same : sum_by (λ copy. length copy) (store_copies g.P.LocalPiece.seen c.args.store.now) ≡ length first + length second =
    subst (λ slots. sum_by (λ (copy : List Seen). length copy) (copies_list (filled size 0 pages 0 first) (option_map (filled size 1 pages 0) (option_map (λ x. slots_seen g.P.LocalPiece.seen x.items) slots))) ≡ length first + length second) (sym c.in-Some.is)
    (two_copies size pages first second) in
    let a = length-map c.args.store.now.base.sheets.first.items (option_map g.P.LocalPiece.seen) in
    let b = length-map c.in-Some.slots.items (option_map g.P.LocalPiece.seen) in
    let sum : sum_by (λ copy. length copy) (store_copies g.P.LocalPiece.seen c.args.store.now) ≡ c.len-first.result + c.len.result = (
    let x = c.len-first.ensures in
    let y = c.len.ensures in
    omega (arith, same, a, b, x, y)
    ) in
    subst (λ m. IfSome c.checked_add.result (λ n. n ≡ m)) (sym sum) (search rules)

pub returns-in-None : goal.returns-in-None
returns-in-None g c =
    let size : ℕ = c.args.store.now.base.shape.map_bytes / 512 in
    let pages = grid_seen g.P.LocalPiece.seen c.args.store.now.pages.items in
    let first = slots_seen g.P.LocalPiece.seen c.args.store.now.base.sheets.first.items in
    let same : sum_by (λ copy. length copy) (store_copies g.P.LocalPiece.seen c.args.store.now) ≡ length first =
    subst (λ slots. sum_by (λ (copy : List Seen). length copy) (copies_list (filled size 0 pages 0 first) (option_map (filled size 1 pages 0) (option_map (λ x. slots_seen g.P.LocalPiece.seen x.items) slots))) ≡ length first) (sym c.in-None.is)
    (one_copy size pages first) in
    let a = length-map c.args.store.now.base.sheets.first.items (option_map g.P.LocalPiece.seen) in
    let x = c.len-first.ensures in
    omega (arith, same, a, x)
