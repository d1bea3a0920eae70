use Rattle.std.proofs.Common.{ℕ, ◌∙◌, ap, refl, List}
use Rattle.vx_mask.specs.Mask.{only, union}
use Rattle.vx_cell.specs.declared.plex.Plex.{Plex}
use Rattle.vx_cell.specs.Plexes.{plexes_seen}
use Rattle.vx_cell.proofs.Members.{seen_more, seen_as}
use Rattle.vx_cell.proofs.cell.Cell.put_plex.Goals as goal

pub returns-in-Ok-clause-ok : goal.returns-in-Ok-clause-ok
returns-in-Ok-clause-ok g c =
    let items = rw c.in-Ok.is at c.push.ensures.items in
    seen_as c.args.self.now.stage c.args.self.now.region c.args.self.now.span.start c.args.self.now.span.count c.args.self.now.number c.args.self.now.epoch
    c.args.self.now.stage.on _ c.args.self.now.stage.on (union c.args.self.now.stage.off (only c.args.map))
    (plexes_seen g.P.Piece.seen c.push.new.self.items) _
    refl (c.with-self.ensures ∙ ap (λ (m : ℕ). union c.args.self.now.stage.off m) c.of.ensures)
    (ap (λ (xs : List (Plex _)). plexes_seen g.P.Piece.seen xs) items ∙ seen_more g.P.Piece.seen c.args.self.now.plexes.items _)
