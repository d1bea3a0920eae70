-- The marks of a map are asked for one region after the other.
use Rattle.std.proofs.Common.{◌≡◌, ◌<◌, ◌∙◌, ℕ, Bool, true, false, refl, arith, below_more, length, sym, ap}
use Rattle.std.specs.Prelude.{not}
use Rattle.std.proofs.Math.Bool.{beq}
use Rattle.std.proofs.lemmas.List.{length-map}
use Rattle.vx_mask.specs.Mask.{has}
use Rattle.vx_cell.specs.Changes.{CellSeen, cell_seen}
use Rattle.vx_core.specs.declared.stage.Stage.{Stage}
use Rattle.vx_volume.specs.Log.{log_seen}
use Rattle.vx_volume.specs.Volume.{cell_at, volume_seen}
use Rattle.vx_volume.proofs.Remarks.{known_region, seen_at}
use Rattle.vx_volume.proofs.volume.Volume.knows_map.Goals as goal

apart_by : (a b : Bool) → not (beq a b) ≡ true → a ≡ b → ⊥
apart_by true true test e = cc
apart_by true false test e = cc
apart_by false true test e = cc
apart_by false false test e = cc

same_by : (a b : Bool) → not (beq a b) ≡ false → a ≡ b
same_by true true test = refl
same_by true false test = cc
same_by false true test = cc
same_by false false test = refl

pub marked-requires : goal.marked-requires
marked-requires g c =
    known_region c.args.map (volume_seen g.P.Piece.seen c.args.self.now) c.requires.whole c.requires.free c.loop-index.index
    (let e = length-map c.args.self.now.cells.items (cell_seen g.P.Piece.seen) in omega (arith, e, c.loop-index-test.true, c.len-index-end.ensures, c.args.self.now.cells.ok.0))

pub returns-then-there-claimed : goal.returns-then-there-claimed
returns-then-there-claimed g c =
    let lt : c.loop-index.index < length c.args.self.now.cells.items = omega (arith, c.loop-index-test.true, c.len-index-end.ensures, c.args.self.now.cells.ok.0) in
    let claimed : c.contains-claimed.result ≡ (log_seen g.P.Piece.seen c.args.self.now.log).claims c.loop-index.index c.args.map = c.contains-claimed.ensures ∙ c.marked.ensures c.args.map in
    let there : c.contains-there.result ≡ has (cell_at (volume_seen g.P.Piece.seen c.args.self.now) c.loop-index.index).stage.bits c.args.map =
    c.contains-there.ensures
    ∙ ap (λ (s : Stage). has s.bits c.args.map) (c.stage.ensures ∙ ap (λ (x : CellSeen). x.stage) (sym (seen_at g.P.Piece.seen c.args.self.now.cells.items c.loop-index.index c.index.result.now lt c.index.ensures))) in (
      c.loop-index.index,
      (let e = length-map c.args.self.now.cells.items (cell_seen g.P.Piece.seen) in omega (arith, e, lt)),
      λ same. apart_by c.contains-there.result c.contains-claimed.result c.if-there-claimed.true (there ∙ sym same ∙ sym claimed),
    )

pub loop-index-preserved : goal.loop-index-preserved
loop-index-preserved g c =
    let lt : c.loop-index.index < length c.args.self.now.cells.items = omega (arith, c.loop-index-test.true, c.len-index-end.ensures, c.args.self.now.cells.ok.0) in
    let claimed : c.contains-claimed.result ≡ (log_seen g.P.Piece.seen c.args.self.now.log).claims c.loop-index.index c.args.map = c.contains-claimed.ensures ∙ c.marked.ensures c.args.map in
    let there : c.contains-there.result ≡ has (cell_at (volume_seen g.P.Piece.seen c.args.self.now) c.loop-index.index).stage.bits c.args.map =
    c.contains-there.ensures
    ∙ ap (λ (s : Stage). has s.bits c.args.map) (c.stage.ensures ∙ ap (λ (x : CellSeen). x.stage) (sym (seen_at g.P.Piece.seen c.args.self.now.cells.items c.loop-index.index c.index.result.now lt c.index.ensures))) in
    below_more (λ (r : ℕ). (log_seen g.P.Piece.seen c.args.self.now.log).claims r c.args.map ≡ has (cell_at (volume_seen g.P.Piece.seen c.args.self.now) r).stage.bits c.args.map) c.loop-index.index c.loop-index.invariant
    (sym claimed ∙ sym (same_by c.contains-there.result c.contains-claimed.result c.if-there-claimed.false) ∙ there)
