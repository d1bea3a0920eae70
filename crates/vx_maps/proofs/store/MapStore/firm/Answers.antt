use Rattle.std.proofs.Common.{refl, ◌/◌}
use Rattle.vx_pages.specs.Sector.{KeepsPiece}
use Rattle.vx_pages.specs.Stays.{piece_same}
use Rattle.vx_maps.specs.Sheets.{sheets_seen}
use Rattle.vx_maps.proofs.CopyLaws.{whole_goes}
use Rattle.vx_maps.proofs.Steps.{sheets_same}
use Rattle.vx_maps.proofs.Alike.{copies_firm}
use Rattle.vx_maps.proofs.Firmness.{store_firm_kept, store_firm_told, store_firm_still, store_firm_claims, store_firm_cause}
use Rattle.vx_maps.proofs.store.MapStore.firm.Goals as goal

pub invariant_of-self : goal.invariant_of-self
invariant_of-self g c = record { paged = store_firm_still c.args.self.now.base.shape.regions _ _ c.firm_pages.result c.firm_pages.ensures.each c.args.self.now.paged; copied = copies_firm _ _ _ c.firm_pages.result c.firm_pages.ensures.each c.args.self.now.copied }

pub returns-clause-kept : goal.returns-clause-kept
returns-clause-kept g c = store_firm_kept c.args.self.now.base.shape.regions _ _ c.firm_pages.result c.firm_pages.ensures.each

pub returns-clause-told : goal.returns-clause-told
returns-clause-told g c = store_firm_told c.args.self.now.base.shape.regions _ _ c.firm_pages.result c.firm_pages.ensures.each

pub returns-clause-claims : goal.returns-clause-claims
returns-clause-claims g c = store_firm_claims c.args.self.now.base.shape.regions _ _ c.firm_pages.result c.firm_pages.ensures.each

pub returns-clause-cause : goal.returns-clause-cause
returns-clause-cause g c = store_firm_cause c.args.self.now.base.shape.regions _ _ c.firm_pages.result c.firm_pages.ensures.cause

pub returns-clause-goes : goal.returns-clause-goes
returns-clause-goes g c = record { shape = refl; places = c.firm_pages.ensures.places; sheets = sheets_same KeepsPiece piece_same _; grid = c.firm_pages.ensures.goes }

pub returns-clause-copies : goal.returns-clause-copies
returns-clause-copies g c =
    whole_goes KeepsPiece piece_same (c.args.self.now.base.shape.map_bytes / 512) _ _ (sheets_seen g.P.LocalPiece.seen c.args.self.now.base.sheets) (sheets_seen g.P.LocalPiece.seen c.args.self.now.base.sheets) (sheets_same KeepsPiece piece_same _) c.firm_pages.ensures.goes
