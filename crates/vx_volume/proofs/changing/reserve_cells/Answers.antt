-- Room is made in the cells one after the other.
use Rattle.std.proofs.Common.{◌≡◌, ◌+◌, ◌<◌, ◌∙◌, ℕ, List, ap, arith, get_or, length, rules, set, subst, sym, take}
use Rattle.std.specs.List.{All}
use Rattle.std.proofs.lemmas.List.{get_or-set_same, length-set, take-set, take_all}
use Rattle.std.proofs.lemmas.List.Elements.{All-more}
use Rattle.std.proofs.Math.Seq.{map-set_same}
use Rattle.vx_piece.specs.Seen.{Seen}
use Rattle.vx_cell.specs.declared.cell.Cell.{Cell}
use Rattle.vx_cell.specs.Changes.{HasRoom, cell_seen}
use Rattle.vx_volume.specs.Volume.{cells_seen}
use Rattle.vx_volume.proofs.changing.reserve_cells.Goals as goal

same_seen : {P : Type 0} (seen : P → Seen) (cells : List (Cell P)) (i : ℕ) (p q : Cell P) → p ≡ get_or cells i p → cell_seen seen q ≡ cell_seen seen p → cells_seen seen (set cells i q) ≡ cells_seen seen cells
same_seen seen cells i p q is same = map-set_same (cell_seen seen) cells i q p (same ∙ ap (cell_seen seen) is)

more_room : {P : Type 0} (cells : List (Cell P)) (i : ℕ) (q : Cell P) → i < length cells → All HasRoom (take i cells) → HasRoom q → All HasRoom (take (i + 1) (set cells i q))
more_room cells i q lt each room =
    All-more HasRoom (set cells i q) i q (subst (λ (n : ℕ). i < n) (sym (length-set cells i q)) lt)
    (subst (λ (xs : List (Cell _)). All HasRoom xs) (sym (take-set cells i q)) each)
    (subst (λ (x : Cell _). HasRoom x) (sym (get_or-set_same cells i q q lt)) room)

pub loop-index-preserved : goal.loop-index-preserved
loop-index-preserved g c =
    let lt : c.loop-index.index < length c.loop-index.cells.items = let f = c.loop-index.invariant.size in omega (arith, c.len-index-end.ensures, f, c.args.cells.now.ok.0) in
    record {
      same = same_seen g.P.Piece.seen c.loop-index.cells.items c.loop-index.index c.index_mut-cell.result.now c.reserve_plex.new.self c.index_mut-cell.ensures.value c.reserve_plex.ensures.same ∙ c.loop-index.invariant.same;
      size = search rules;
      room = more_room c.loop-index.cells.items c.loop-index.index c.reserve_plex.new.self lt c.loop-index.invariant.room c.in_ok-reserve_plex.ensures.room;
    }

pub returns-in_err-reserve_plex-clause-same : goal.returns-in_err-reserve_plex-clause-same
returns-in_err-reserve_plex-clause-same g c =
    same_seen g.P.Piece.seen c.loop-index.cells.items c.loop-index.index c.index_mut-cell.result.now c.reserve_plex.new.self c.index_mut-cell.ensures.value c.reserve_plex.ensures.same ∙ c.loop-index.invariant.same

pub returns-clause-room : goal.returns-clause-room
returns-clause-room g c =
    subst (λ (xs : List (Cell _)). All HasRoom xs) (take_all c.loop-index.index c.loop-index.cells.items (let f = c.loop-index.invariant.size in omega (arith, f, c.len-index-end.ensures, c.args.cells.now.ok.0))) c.loop-index.invariant.room
