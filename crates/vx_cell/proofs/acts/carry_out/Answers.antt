use Rattle.std.proofs.Common.{length, refl, sym, subst}
use Rattle.vx_core.specs.declared.stage.Act.{Act}
use Rattle.vx_core.specs.declared.stage.Event.TheVariants.{WriteFailed, ReadFailed}
use Rattle.vx_cell.specs.declared.fault.Place.TheVariants.{Data}
use Rattle.vx_cell.specs.Plexes.{plexes_seen}
use Rattle.vx_cell.specs.Acts.{IsAskable, FailsAt}
use Rattle.vx_cell.proofs.Rises.{placed_write, placed_read}
use Rattle.vx_cell.proofs.acts.carry_out.Goals as goal

pub returns-in-WriteCall-clause-placed : goal.returns-in-WriteCall-clause-placed
returns-in-WriteCall-clause-placed g c =
    placed_write c.args.act c.in-WriteCall.map c.args.at c.args.from.now _ _ _ _ _ _ (λ piece device. subst (λ (a : Act). FailsAt a WriteFailed (Data c.in-WriteCall.map piece device)) (sym c.in-WriteCall.is) refl) c.wrote.ensures.event
    (c.wrote.ensures.place (c.requires.maps c.in-WriteCall.map (subst (λ (a : Act). IsAskable c.args.region c.args.size c.args.at (length c.args.into.now) (length c.args.from.now) (plexes_seen g.P.Piece.seen c.args.plexes.now.items) (g.M.Marker.log c.args.log.now) a) c.in-WriteCall.is c.requires.askable).0))
    c.write_plex.ensures

pub returns-in-WriteRegion-clause-placed : goal.returns-in-WriteRegion-clause-placed
returns-in-WriteRegion-clause-placed g c =
    placed_write c.args.act c.in-WriteRegion.map 0 c.args.scratch.now _ _ _ _ _ _ (λ piece device. subst (λ (a : Act). FailsAt a WriteFailed (Data c.in-WriteRegion.map piece device)) (sym c.in-WriteRegion.is) refl) c.wrote-in-WriteRegion.ensures.event
    (c.wrote-in-WriteRegion.ensures.place (c.requires.maps c.in-WriteRegion.map (subst (λ (a : Act). IsAskable c.args.region c.args.size c.args.at (length c.args.into.now) (length c.args.from.now) (plexes_seen g.P.Piece.seen c.args.plexes.now.items) (g.M.Marker.log c.args.log.now) a) c.in-WriteRegion.is c.requires.askable)))
    c.write_plex-in-WriteRegion.ensures

pub returns-in-ReadCall-clause-placed : goal.returns-in-ReadCall-clause-placed
returns-in-ReadCall-clause-placed g c =
    placed_read c.args.act c.pick-map.result c.args.at c.read_plex.new.into _ _ _ _ _ _ (λ piece device. subst (λ (a : Act). FailsAt a (ReadFailed c.pick-map.result) (Data c.pick-map.result piece device)) (sym c.in-ReadCall.is) refl) c.got.ensures.event
    (c.got.ensures.place (c.requires.maps c.pick-map.result ((subst (λ (a : Act). IsAskable c.args.region c.args.size c.args.at (length c.args.into.now) (length c.args.from.now) (plexes_seen g.P.Piece.seen c.args.plexes.now.items) (g.M.Marker.log c.args.log.now) a) c.in-ReadCall.is c.requires.askable).1 c.pick-map.result c.pick-map.ensures.member)))
    c.read_plex.ensures.changes

pub returns-in-ReadRegion-clause-placed : goal.returns-in-ReadRegion-clause-placed
returns-in-ReadRegion-clause-placed g c =
    placed_read c.args.act c.in-ReadRegion.map 0 c.read_plex-in-ReadRegion.new.into _ _ _ _ _ _ (λ piece device. subst (λ (a : Act). FailsAt a (ReadFailed c.in-ReadRegion.map) (Data c.in-ReadRegion.map piece device)) (sym c.in-ReadRegion.is) refl) c.got-in-ReadRegion.ensures.event
    (c.got-in-ReadRegion.ensures.place (c.requires.maps c.in-ReadRegion.map (subst (λ (a : Act). IsAskable c.args.region c.args.size c.args.at (length c.args.into.now) (length c.args.from.now) (plexes_seen g.P.Piece.seen c.args.plexes.now.items) (g.M.Marker.log c.args.log.now) a) c.in-ReadRegion.is c.requires.askable)))
    c.read_plex-in-ReadRegion.ensures.changes
