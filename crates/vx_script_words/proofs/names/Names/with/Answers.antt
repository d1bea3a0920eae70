use Rattle.std.proofs.Common.{◌≡◌, ◌∙◌, ◌++◌, ◌∷◌, [], ap, sym, subst, rules}
use Rattle.vx_script_words.specs.Packed.{names_in, ArePacked}
use Rattle.vx_script_words.proofs.Packs.{more_packed}
use Rattle.vx_script_words.proofs.names.Names.with.Goals as goal

pub invariant_of-result : goal.invariant_of-result
invariant_of-result c =
    let all : c.push.new.self.items ≡ (c.self.inside.bytes.items ++ c.args.name) ++ 0 ∷ [] = search rules in
    subst ArePacked (sym all) (more_packed c.self.inside.bytes.items c.args.name c.self.invariant c.put.ensures.form).1

pub returns : goal.returns
returns c =
    let all : c.push.new.self.items ≡ (c.self.inside.bytes.items ++ c.args.name) ++ 0 ∷ [] = search rules in
    ap names_in all ∙ (more_packed c.self.inside.bytes.items c.args.name c.self.invariant c.put.ensures.form).0 ∙ ap (λ ns. ns ++ c.args.name ∷ []) c.self.view_is
