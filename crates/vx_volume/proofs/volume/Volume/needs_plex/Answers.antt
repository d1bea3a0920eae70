-- A plex is needed in some region, or can be spared in each.
use Rattle.std.proofs.Common.{◌≡◌, Bool, true, false, sym, ◌∙◌, ap}
use Rattle.std.specs.Prelude.{MatchBool}
use Rattle.std.specs.List.{list_any}
use Rattle.vx_volume.specs.Switching.{CanSpare, Needs}
use Rattle.vx_volume.specs.Volume.{volume_seen}
use Rattle.vx_volume.proofs.Switchings.{needed_at, needs, spared_at}
use Rattle.vx_volume.proofs.volume.Volume.needs_plex.Goals as goal

pub returns : goal.returns
returns g c = by c.needs_among.result (c.needs_among.ensures ∙ ap (λ cells. list_any (needs g.P.Piece.seen c.args.map) cells) c.as_slice.ensures.value)
  where
    by : (b : Bool) → b ≡ list_any (needs g.P.Piece.seen c.args.map) c.args.self.now.cells.items →
        MatchBool b (Needs c.args.map (volume_seen g.P.Piece.seen c.args.self.now)) (CanSpare c.args.map (volume_seen g.P.Piece.seen c.args.self.now))
    by true is = needed_at g.P.Piece.seen c.args.map c.args.self.now.cells.items (sym is)
    by false is = spared_at g.P.Piece.seen c.args.map c.args.self.now.cells.items (sym is)
