use Rattle.std.proofs.Common.{arith, sym, ap, subst, ◌∙◌, Err}
use Rattle.vx_marks.specs.Log.{LogSeen}
use Rattle.vx_maps.specs.Sheets.{sheets_seen}
use Rattle.vx_maps.specs.Spares.{HasRoom}
use Rattle.vx_maps.specs.Store.{pages_cut, pages_faults, pages_seen}
use Rattle.vx_maps.specs.Wholes.{sheet_faults, store_faults}
use Rattle.vx_maps.specs.Cutness.{sheets_cut, store_cut}
use Rattle.vx_pages.proofs.Whole.{cause_after}
use Rattle.vx_maps.proofs.Beginnings.{cause_add, or_right}
use Rattle.vx_maps.proofs.Refusals.{grid_pages, plain_cause}
use Rattle.vx_pages.specs.Sector.{KeepsPiece}
use Rattle.vx_pages.specs.Stays.{piece_then}
use Rattle.vx_maps.proofs.Steps.{store_then}
use Rattle.vx_maps.proofs.creating.write_new.Goals as goal

pub returns-in-Err-clause-claims : goal.returns-in-Err-clause-claims
returns-in-Err-clause-claims g c region map = ap (λ (log : LogSeen). log.claims region map) c.write_heads.ensures.log

pub returns-in-Err-firm-clause-claims : goal.returns-in-Err-firm-clause-claims
returns-in-Err-firm-clause-claims g c region map = c.firm.ensures.claims region map ∙ ap (λ (log : LogSeen). log.claims region map) c.write_heads.ensures.log

pub returns-in-Err-firm-clause-cause : goal.returns-in-Err-firm-clause-cause
returns-in-Err-firm-clause-cause g c =
    cause_after (store_faults g.P.LocalPiece.seen c.args.store.now) (store_faults g.P.LocalPiece.seen c.write_heads.new.store) (store_faults g.P.LocalPiece.seen c.firm.new.self) (store_cut g.P.LocalPiece.seen c.firm.new.self) (Err c.in-Err-firm.fault) c.in_default.ensures.cause
    (cause_add (pages_faults (pages_seen g.P.LocalPiece.seen c.write_heads.new.store.pages.items)) (pages_faults (pages_seen g.P.LocalPiece.seen c.firm.new.self.pages.items)) (λ copy device. sheet_faults copy device (sheets_seen g.P.LocalPiece.seen c.write_heads.new.store.base.sheets))
    (store_faults g.P.LocalPiece.seen c.write_heads.new.store) (store_faults g.P.LocalPiece.seen c.firm.new.self) (pages_cut (pages_seen g.P.LocalPiece.seen c.firm.new.self.pages.items)) (store_cut g.P.LocalPiece.seen c.firm.new.self) (Err c.in-Err-firm.fault)
    (λ copy device. let e = grid_pages c.write_heads.new.store.pages.items copy device in omega (arith, e))
    (λ copy device. let e = grid_pages c.firm.new.self.pages.items copy device in let b = ap (λ base. sheet_faults copy device (sheets_seen g.P.LocalPiece.seen base.sheets)) c.firm.ensures.base in omega (arith, e, b))
    (λ h. or_right (sheets_cut (sheets_seen g.P.LocalPiece.seen c.firm.new.self.base.sheets)) _ h)
    (plain_cause c.write_heads.new.store.base.shape.regions c.firm.new.self.base.shape.regions (pages_seen g.P.LocalPiece.seen c.write_heads.new.store.pages.items) (pages_seen g.P.LocalPiece.seen c.firm.new.self.pages.items) (Err c.in-Err-firm.fault) c.in-Err-firm.ensures.cause))

pub returns-clause-room : goal.returns-clause-room
returns-clause-room g c spares room =
    c.write_heads-2.ensures.room spares (subst (λ base. HasRoom (sheets_seen g.P.LocalPiece.seen base.sheets) spares) (sym c.firm.ensures.base) (c.write_heads.ensures.room spares room))

pub returns-clause-claims : goal.returns-clause-claims
returns-clause-claims g c region map =
    ap (λ (log : LogSeen). log.claims region map) c.write_heads-2.ensures.log ∙ c.firm.ensures.claims region map ∙ ap (λ (log : LogSeen). log.claims region map) c.write_heads.ensures.log

pub returns-clause-cause : goal.returns-clause-cause
returns-clause-cause g c =
    cause_after (store_faults g.P.LocalPiece.seen c.args.store.now) (store_faults g.P.LocalPiece.seen c.firm.new.self) (store_faults g.P.LocalPiece.seen c.write_heads-2.new.store) (store_cut g.P.LocalPiece.seen c.write_heads-2.new.store) c.write_heads-2.result
    (λ copy device.
    let a = grid_pages c.firm.new.self.pages.items copy device in
    let b = grid_pages c.write_heads.new.store.pages.items copy device in
    let e = c.in_default-firm.ensures.cause copy device in
    let s = ap (λ base. sheet_faults copy device (sheets_seen g.P.LocalPiece.seen base.sheets)) c.firm.ensures.base in
    let q = c.in_default.ensures.cause copy device in omega (arith, a, b, e, s, q))
    c.write_heads-2.ensures.cause

pub returns-clause-shape : goal.returns-clause-shape
returns-clause-shape g c = c.write_heads-2.ensures.shape ∙ ap (λ base. base.shape) c.firm.ensures.base ∙ c.write_heads.ensures.shape

pub returns-in-Err-firm-clause-shape : goal.returns-in-Err-firm-clause-shape
returns-in-Err-firm-clause-shape g c = ap (λ base. base.shape) c.firm.ensures.base ∙ c.write_heads.ensures.shape

pub returns-in-Err-firm-clause-goes : goal.returns-in-Err-firm-clause-goes
returns-in-Err-firm-clause-goes g c = store_then KeepsPiece KeepsPiece KeepsPiece piece_then c.args.store.now c.write_heads.new.store c.firm.new.self c.write_heads.ensures.goes c.firm.ensures.goes

pub returns-clause-goes : goal.returns-clause-goes
returns-clause-goes g c =
    store_then KeepsPiece KeepsPiece KeepsPiece piece_then c.args.store.now c.firm.new.self c.write_heads-2.new.store
    (store_then KeepsPiece KeepsPiece KeepsPiece piece_then c.args.store.now c.write_heads.new.store c.firm.new.self c.write_heads.ensures.goes c.firm.ensures.goes) c.write_heads-2.ensures.goes
