use Rattle.std.proofs.Common.{◌≡◌, ◌∙◌, ◌++◌, ◌∷◌, [], ap, sym, subst, rules}
use Rattle.vx_script_words.specs.Packed.{paired, ArePaired}
use Rattle.vx_script_words.proofs.Packs.{more_paired}
use Rattle.vx_script_words.proofs.disks.Disks.with.Goals as goal

pub invariant_of-result : goal.invariant_of-result
invariant_of-result c =
    let all : c.in_ok-names-2.names ≡ (c.self.inside.names ++ c.args.pair.disk ∷ []) ++ c.args.pair.device ∷ [] = search rules in
    subst ArePaired (sym all) (more_paired c.self.inside.names c.args.pair c.self.invariant).1

pub returns : goal.returns
returns c =
    let all : c.in_ok-names-2.names ≡ (c.self.inside.names ++ c.args.pair.disk ∷ []) ++ c.args.pair.device ∷ [] = search rules in
    ap paired all ∙ (more_paired c.self.inside.names c.args.pair c.self.invariant).0 ∙ ap (λ ds. ds ++ c.args.pair ∷ []) c.self.view_is
