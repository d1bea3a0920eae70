-- A store that was created is marked.
use Rattle.std.proofs.Common.{◌∙◌, ℕ, Bool, sym, ap, subst}
use Rattle.std.proofs.lemmas.Result.{IfErr-weaker, IfOk-weaker}
use Rattle.vx_mapfmt.specs.declared.shape.DcoShape.{DcoShape}
use Rattle.vx_pages.specs.Sector.{KeepsPiece}
use Rattle.vx_pages.specs.Stays.{piece_same}
use Rattle.vx_maps.specs.Spares.{copies_seen}
use Rattle.vx_maps.specs.Stores.{store_seen}
use Rattle.vx_maps.specs.Wholes.{store_copies, store_faults}
use Rattle.vx_maps.proofs.CopyLaws.{store_goes}
use Rattle.vx_lending.specs.Left.{left_copies, left_cut, left_faults}
use Rattle.vx_lending.specs.Logs.{AreShown, log_header, marked_maps}
use Rattle.vx_lending.proofs.NewLogs.{blank_shown, copies_then, heads_still, not_fresh}
use Rattle.vx_lending.proofs.fresh.fresh_store.Goals as goal

pub returns-in-Ok-clause-fresh : goal.returns-in-Ok-clause-fresh
returns-in-Ok-clause-fresh g c =
    IfOk-weaker c.mark_store.result _ _
    (λ new m. record {
      geometry_is = ap (λ base. base.shape.geometry) m.base ∙ ap (λ (shape : DcoShape). shape.geometry) c.in-Ok.ensures.shape;
      claims = λ region map known. m.claims region map (sym (ap (λ (f : ℕ → Bool). f region) m.kept.has_region) ∙ known);
      told = λ tell.
          subst (λ (known : ℕ → Bool). AreShown (marked_maps c.args.marked) known (store_seen g.P.Piece.seen new).told) (sym m.kept.has_region)
          (m.shown (blank_shown (store_seen g.P.Piece.seen c.in-Ok.store).has_region (store_seen g.P.Piece.seen c.in-Ok.store).told (c.in-Ok.ensures.told tell)));
      heads = heads_still (log_header c.args.shape.geometry) c.in-Ok.store new m.base c.in-Ok.ensures.headed;
    })
    c.mark_store.ensures.marked

pub returns-in-Ok-clause-goes : goal.returns-in-Ok-clause-goes
returns-in-Ok-clause-goes g c =
    IfOk-weaker c.mark_store.result _ _
    (λ new m. record {
      cut = c.in-Ok.ensures.goes.cut;
      same = c.in-Ok.ensures.goes.same;
      goes = copies_then c.in-Ok.ensures.goes.cut (store_copies g.P.Piece.seen c.in-Ok.store) (store_copies g.P.Piece.seen new) c.in-Ok.ensures.goes.goes (store_goes KeepsPiece piece_same c.in-Ok.store new m.goes);
    })
    c.mark_store.ensures.marked

pub returns-in-Ok-clause-refused : goal.returns-in-Ok-clause-refused
returns-in-Ok-clause-refused g c =
    IfErr-weaker c.mark_store.result _ _
    (λ x h. not_fresh x.fault (copies_seen g.P.Piece.seen c.args.copies.items) (left_copies g.P.Piece.seen x.left) (store_faults g.P.Piece.seen c.in-Ok.store) (left_faults g.P.Piece.seen x.left) (left_cut g.P.Piece.seen x.left) c.in-Ok.ensures.counts h)
    c.mark_store.ensures.refused

pub returns-in-Ok-clause-back : goal.returns-in-Ok-clause-back
returns-in-Ok-clause-back g c =
    IfErr-weaker c.mark_store.result _ _
    (λ x go. record {
      cut = c.in-Ok.ensures.goes.cut;
      same = c.in-Ok.ensures.goes.same;
      goes = copies_then c.in-Ok.ensures.goes.cut (store_copies g.P.Piece.seen c.in-Ok.store) (left_copies g.P.Piece.seen x.left) c.in-Ok.ensures.goes.goes go;
    })
    c.mark_store.ensures.back
