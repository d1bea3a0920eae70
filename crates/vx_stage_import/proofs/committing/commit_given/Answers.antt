use Rattle.std.proofs.Common.{map, subst}
use Rattle.vx_import.specs.Looks.{looked}
use Rattle.vx_confdb.specs.Texts.{text_of}
use Rattle.vx_house.specs.Holders.{holders}
use Rattle.vx_house.specs.Scene.{shelved}
use Rattle.vx_stage_import.specs.Judging.{TextJudged, is_started}
use Rattle.vx_stage_import.specs.declared.judging.Judged.TheVariants.{Ready}
use Rattle.vx_stage_import.proofs.Inspections.{few_looked}
use Rattle.vx_stage_import.proofs.Readiness.{committable}
use Rattle.vx_stage_import.proofs.Refusals.{starves_back, few_disks}
use Rattle.vx_stage_import.proofs.Holders.{takes_in, found_labels}
use Rattle.vx_stage_import.proofs.committing.commit_given.Goals as goal

pub returns-in_default : goal.returns-in_default
returns-in_default g c = record {
  goes = λ disks names first since. starves_back g.S.P.Piece.seen c.args.dg names disks first _ _ c.args.house.now (map (looked g.S.P.Piece.seen) c.args.finds.items) since (c.give_finds.ensures.goes (holders g.S.P.Piece.seen c.args.house.now) c.requires.held);
}

pub sort_out-requires-clause-few : goal.sort_out-requires-clause-few
sort_out-requires-clause-few g c κs within = few_looked g.S.P.Piece.seen c.args.dg c.args.finds.items c.requires.looks

pub commit_disks-requires-clause-held : goal.commit_disks-requires-clause-held
commit_disks-requires-clause-held g c κs within = (c.sort_out.ensures.goes (holders g.S.P.Piece.seen c.args.house.now) c.requires.held).held

pub commit_disks-requires-clause-few : goal.commit_disks-requires-clause-few
commit_disks-requires-clause-few g c κs within = few_disks g.S.P.Piece.seen c.args.dg c.args.given.good c.args.finds.items c.sort_out.new.disks.items c.requires.looks c.sort_out.ensures.disks

pub commit_disks-requires-clause-can : goal.commit_disks-requires-clause-can
commit_disks-requires-clause-can g c κs within = committable g.S.P.Piece.seen c.args.dg c.args.finds.items c.requires.looks c.args.given c.requires.given c.sort_out.new.disks.items c.sort_out.ensures.disks

pub returns : goal.returns
returns g c = record {
  goes = λ disks names first since.
      takes_in g.S.P.Piece.seen c.args.dg names disks first (shelved g.S.Shelf.free g.S.Shelf.held g.S.Shelf.counted g.S.Shelf.faults c.args.shelf.now) (shelved g.S.Shelf.free g.S.Shelf.held g.S.Shelf.counted g.S.Shelf.faults c.sort_out.new.shelf) c.args.house.now c.args.finds.items c.sort_out.new.disks c.args.given c.args.config c.args.text c.deref.result.now c.deref.ensures.value
      since c.requires.looks c.requires.given
      (subst (λ ls. TextJudged c.args.dg (text_of c.args.given.text) c.args.given.good ls (is_started c.args.house.now.volumes) (Ready c.args.config c.args.text)) (found_labels g.S.P.Piece.seen c.args.finds.items) c.requires.judged)
      (c.sort_out.ensures.goes (holders g.S.P.Piece.seen c.args.house.now) c.requires.held) c.sort_out.ensures.disks
      c.commit_disks.result (shelved g.S.Shelf.free g.S.Shelf.held g.S.Shelf.counted g.S.Shelf.faults c.commit_disks.new.shelf) c.commit_disks.new.house c.commit_disks.ensures.takes;
}
