use Rattle.std.proofs.Common.{ℕ, ◌∙◌, sym, ap, subst, refl, List, map}
use Rattle.std.specs.List.{remove}
use Rattle.vx_mask.specs.Mask.{only, without}
use Rattle.vx_cell.specs.declared.plex.Plex.{Plex}
use Rattle.vx_cell.specs.Plexes.{plexes_seen}
use Rattle.vx_cell.specs.Changes.{IsTaken}
use Rattle.vx_cell.proofs.Members.{taken_at, seen_as}
use Rattle.vx_cell.proofs.cell.Cell.take_plex.Goals as goal

pub returns-in-Some-clause-ok : goal.returns-in-Some-clause-ok
returns-in-Some-clause-ok g c =
    let found = rw c.as_slice.ensures.value at c.in-Some.ensures in
    let taken : IsTaken c.args.map (plexes_seen g.P.Piece.seen c.args.self.now.plexes.items) (plexes_seen g.P.Piece.seen (remove c.args.self.now.plexes.items c.in-Some.index)) (map g.P.Piece.seen c.remove-plex.result.pieces.items) =
    subst (λ (p : Plex _). IsTaken c.args.map (plexes_seen g.P.Piece.seen c.args.self.now.plexes.items) (plexes_seen g.P.Piece.seen (remove c.args.self.now.plexes.items c.in-Some.index)) (map g.P.Piece.seen p.pieces.items))
    (sym c.remove-plex.ensures.value) (taken_at g.P.Piece.seen c.args.map c.args.self.now.plexes.items c.in-Some.index c.remove-plex.result found.1 found.0) in
    record {
      other = sym c.has_other.ensures ∙ c.if-not-has_other.false;
      taken =
          subst (λ (xs : List (Plex _)). IsTaken c.args.map (plexes_seen g.P.Piece.seen c.args.self.now.plexes.items) (plexes_seen g.P.Piece.seen xs) (map g.P.Piece.seen c.remove-plex.result.pieces.items))
          (sym c.remove-plex.ensures.items) taken;
      same =
          seen_as c.args.self.now.stage c.args.self.now.region c.args.self.now.span.start c.args.self.now.span.count c.args.self.now.number c.args.self.now.epoch _ _
          (without c.args.self.now.stage.on (only c.args.map)) (without c.args.self.now.stage.off (only c.args.map))
          (plexes_seen g.P.Piece.seen c.remove-plex.new.self.items) (plexes_seen g.P.Piece.seen c.remove-plex.new.self.items)
          (c.less-self.ensures ∙ ap (λ (m : ℕ). without c.args.self.now.stage.on m) c.of-mask.ensures)
          (c.less-self-in-Some.ensures ∙ ap (λ (m : ℕ). without c.args.self.now.stage.off m) c.of-mask.ensures) refl;
    }
