use Rattle.std.proofs.Common.{◌∙◌, ◌+◌, ap, refl, Err}
use Rattle.std.specs.Prelude.{if◌then◌else◌}
use Rattle.vx_mapfmt.specs.Bits.{bit_in}
use Rattle.vx_mapfmt.specs.declared.shape.DcoShape.{DcoShape}
use Rattle.vx_mapfmt.specs.Sizes.{page_count}
use Rattle.vx_pages.specs.Setting.{Begun, Done, Torn, come_to}
use Rattle.vx_maps.specs.Onward.{store_kept_on}
use Rattle.vx_maps.specs.Stores.{store_seen}
use Rattle.vx_volume.specs.Bytes.{map_bit}
use Rattle.vx_volume.proofs.PageByPage.{cause_then, come_before, ends, goes_on, in_pages, kept_then, known_bit, next, page_now, stops}
use Rattle.vx_volume.proofs.setting.set_from.Goals as goal

pub returns-in-Err-clause-kept : goal.returns-in-Err-clause-kept
returns-in-Err-clause-kept g c = kept_then _ _ _ c.loop-page.invariant.kept c.in-Err.ensures.kept

pub returns-in-Err-clause-set : goal.returns-in-Err-clause-set
returns-in-Err-clause-set g c = (
  c.loop-page.page,
  c.in-Err.ensures.set.0,
  next c.args.map c.loop-page.page _ (map_bit c.args.bits.now) (bit_in c.page_of-image.result) (come_to c.loop-page.page (if c.in-Err.ensures.set.0 then Torn else Begun)) (if c.in-Err.ensures.set.0 then Torn else Begun) (store_seen g.P.LocalPiece.seen c.args.store.now) (store_seen g.P.LocalPiece.seen c.loop-page.store) (store_seen g.P.LocalPiece.seen c.set_page.new.self) c.loop-page.invariant.kept c.loop-page.invariant.sets (page_now c.loop-page.page) c.in-Err.ensures.set.1
      (λ region known same. c.page_of-image.ensures region same ∙ known_bit _ region _ _ (ap (λ (s : DcoShape). s.regions) c.shape-shape.ensures) known) (stops c.loop-page.page (if c.in-Err.ensures.set.0 then Torn else Begun)),
)

pub returns-in-Err-clause-cause : goal.returns-in-Err-clause-cause
returns-in-Err-clause-cause g c =
    cause_then (store_seen g.P.LocalPiece.seen c.args.store.now) (store_seen g.P.LocalPiece.seen c.loop-page.store) (store_seen g.P.LocalPiece.seen c.set_page.new.self) (Err c.in-Err.fault) c.loop-page.invariant.quiet refl c.in-Err.ensures.cause

pub returns-in-Err-clause-goes : goal.returns-in-Err-clause-goes
returns-in-Err-clause-goes g c = store_kept_on _ _ _ c.loop-page.invariant.goes c.in-Err.ensures.goes

pub loop-page-preserved : goal.loop-page-preserved
loop-page-preserved g c =
    record {
      kept = kept_then _ _ _ c.loop-page.invariant.kept c.in_default.ensures.kept;
      sets = next c.args.map c.loop-page.page _ (map_bit c.args.bits.now) (bit_in c.page_of-image.result) (come_before (c.loop-page.page + 1)) Done (store_seen g.P.LocalPiece.seen c.args.store.now) (store_seen g.P.LocalPiece.seen c.loop-page.store) (store_seen g.P.LocalPiece.seen c.set_page.new.self) c.loop-page.invariant.kept c.loop-page.invariant.sets (page_now c.loop-page.page) c.in_default.ensures.set.1
          (λ region known same. c.page_of-image.ensures region same ∙ known_bit _ region _ _ (ap (λ (s : DcoShape). s.regions) c.shape-shape.ensures) known) (goes_on c.loop-page.page);
      quiet = λ copy device. c.in_default.ensures.cause copy device ∙ c.loop-page.invariant.quiet copy device;
      goes = store_kept_on _ _ _ c.loop-page.invariant.goes c.in_default.ensures.goes;
      base = c.set_page.ensures.base ∙ c.loop-page.invariant.base;
    }

pub returns-clause-set : goal.returns-clause-set
returns-clause-set g c =
    ends c.args.map c.loop-page.page (map_bit c.args.bits.now) _ _
    (λ region known. in_pages region c.args.store.now.base.shape.regions c.pages-page-end.result c.loop-page.page (c.pages-page-end.ensures ∙ ap (λ (s : DcoShape). page_count s.regions) c.shape-shape.ensures) c.loop-page-test.false known)
    c.loop-page.invariant.sets
