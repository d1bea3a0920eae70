use Rattle.std.proofs.Common.{◌∙◌}
use Rattle.vx_cell_rows.proofs.Claims.{claims_less, claims_elsewhere}
use Rattle.vx_cell_rows.proofs.notes.NotesMarker.unmark.Goals as goal

pub returns-in-Good-clause-claims : goal.returns-in-Good-clause-claims
returns-in-Good-clause-claims c = λ there. record {
  here = claims_less c.args.self.now.bits c.args.bits _ c.args._region c.requires.known (c.next_fate.ensures.bits ∙ c.less-self.ensures);
  elsewhere = claims_elsewhere c.args.self.now.bits _ c.args._region c.requires.known;
}

pub returns-in-Fails-clause-claims : goal.returns-in-Fails-clause-claims
returns-in-Fails-clause-claims c = λ there. record {
  here = claims_less c.args.self.now.bits c.args.bits _ c.args._region c.requires.known (c.next_fate.ensures.bits ∙ c.less-self.ensures);
  elsewhere = claims_elsewhere c.args.self.now.bits _ c.args._region c.requires.known;
}

pub returns-in-Cuts-clause-claims : goal.returns-in-Cuts-clause-claims
returns-in-Cuts-clause-claims c = λ there. record {
  here = claims_less c.args.self.now.bits c.args.bits _ c.args._region c.requires.known (c.next_fate.ensures.bits ∙ c.less-self.ensures);
  elsewhere = claims_elsewhere c.args.self.now.bits _ c.args._region c.requires.known;
}
