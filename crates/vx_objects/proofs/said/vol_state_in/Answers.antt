use Rattle.std.specs.Prelude.{codes}
use Rattle.std.proofs.Common.{◌∷◌, [], ◌∙◌, sym, refl}
use Rattle.vx_objects.proofs.Fields.{last_word}
use Rattle.vx_objects.proofs.said.vol_state_in.Goals as goal

pub returns-else-is-4 : goal.returns-else-is-4
returns-else-is-4 c =
    let f0 = sym c.is.ensures ∙ c.if-is.false in
    let f1 = sym c.is-else-is.ensures ∙ c.if-is-2.false in
    let f2 = sym c.is-else-is-2.ensures ∙ c.if-is-3.false in
    let f3 = sym c.is-else-is-3.ensures ∙ c.if-is-4.false in
    last_word (codes "EMPTY" ∷ codes "CLEAN" ∷ codes "ACTIVE" ∷ codes "NEEDSYNC" ∷ []) (codes "SYNC") c.args.word.now (rw (f0, f1, f2, f3) refl) c.requires
