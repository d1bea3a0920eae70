use Rattle.std.proofs.Common.{map}
use Rattle.vx_confdb.specs.Texts.{text_of}
use Rattle.vx_import.specs.Looks.{looked}
use Rattle.vx_house.specs.Holders.{holders}
use Rattle.vx_stage_import.specs.Judging.{is_started}
use Rattle.vx_stage_import.specs.declared.judging.Judged.TheVariants as judged
use Rattle.vx_stage_import.proofs.Refusals.{starves_back, refused_back, judged_same, judged_labels}
use Rattle.vx_stage_import.proofs.importing.import_given.Goals as goal

pub commit_given-requires-clause-judged : goal.commit_given-requires-clause-judged
commit_given-requires-clause-judged g c κs within =
    judged_same c.args.dg c.args.given.good (is_started c.args.house.now.volumes) (judged.Ready c.in-Ok-Ready.config c.in-Ok-Ready.text) (text_of c.args.given.text) c.text.result.now c.args.finds.items c.deref.result.now c.text.ensures c.deref.ensures.value (rw c.in-Ok-Ready.field-0-is at c.in-Ok-Ready.ensures)

pub returns-in-Ok-Refused : goal.returns-in-Ok-Refused
returns-in-Ok-Refused g c = rw c.refused.ensures (record {
  goes = λ disks names first since.
      refused_back g.S.P.Piece.seen c.args.dg names disks first _ _ c.args.house.now (map (looked g.S.P.Piece.seen) c.args.finds.items) since (c.give_finds.ensures.goes (holders g.S.P.Piece.seen c.args.house.now) c.requires.held) c.args.given c.in-Ok-Refused.refusal c.requires.given
      (judged_labels g.S.P.Piece.seen c.args.dg c.args.given.good (is_started c.args.house.now.volumes) (judged.Refused c.in-Ok-Refused.refusal) (text_of c.args.given.text) c.args.finds.items
      (judged_same c.args.dg c.args.given.good (is_started c.args.house.now.volumes) (judged.Refused c.in-Ok-Refused.refusal) (text_of c.args.given.text) c.text.result.now c.args.finds.items c.deref.result.now c.text.ensures c.deref.ensures.value (rw c.in-Ok-Refused.field-0-is at c.in-Ok-Refused.ensures)));
})

pub returns-in-Err : goal.returns-in-Err
returns-in-Err g c = record {
  goes = λ disks names first since. starves_back g.S.P.Piece.seen c.args.dg names disks first _ _ c.args.house.now (map (looked g.S.P.Piece.seen) c.args.finds.items) since (c.give_finds-in-Err.ensures.goes (holders g.S.P.Piece.seen c.args.house.now) c.requires.held);
}
