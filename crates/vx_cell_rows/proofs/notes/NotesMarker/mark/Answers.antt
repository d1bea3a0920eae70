use Rattle.std.proofs.Common.{◌∙◌, ap, ℕ}
use Rattle.vx_mask.specs.Mask.{union}
use Rattle.vx_cell_rows.proofs.Claims.{claims_more, claims_elsewhere}
use Rattle.vx_cell_rows.proofs.notes.NotesMarker.mark.Goals as goal

pub returns-in-Good-clause-claims : goal.returns-in-Good-clause-claims
returns-in-Good-clause-claims c = λ there. record {
  here = claims_more c.args.self.now.bits c.args.bits c.with-self.result c.args._region c.requires.known (c.with-self.ensures ∙ ap (λ (x : ℕ). union x c.args.bits) c.next_fate.ensures.bits);
  elsewhere = claims_elsewhere c.args.self.now.bits c.with-self.result c.args._region c.requires.known;
}
