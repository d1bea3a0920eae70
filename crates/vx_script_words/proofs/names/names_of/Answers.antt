use Rattle.std.proofs.Common.{◌≡◌, ◌∙◌, ◌++◌, ◌∷◌, [], ap, sym, subst, rules, arith}
use Rattle.std.specs.Bool.{IsTrue}
use Rattle.std.proofs.lemmas.List.{append-nil, append_assoc}
use Rattle.vx_names.specs.Form.{is_name}
use Rattle.vx_script_words.specs.Packed.{names_in}
use Rattle.vx_script_words.proofs.Packs.{first_name, no_bytes}
use Rattle.vx_script_words.proofs.names.names_of.Goals as goal

pub returns-in_default : goal.returns-in_default
returns-in_default c =
    let first = first_name c.loop-rest.rest.now c.loop-rest.invariant.packed (omega arith) in
    let named : is_name c.up_to.result.now ≡ Rattle.std.specs.Prelude.true = ap is_name (c.up_to.ensures ∙ first.word) ∙ first.good in
    grind (arith, named)

pub loop-rest-preserved : goal.loop-rest-preserved
loop-rest-preserved c =
    let first = first_name c.loop-rest.rest.now c.loop-rest.invariant.packed (omega arith) in
    let name : c.in-Ok.name ≡ first.name = c.in-Ok.ensures.bytes ∙ c.up_to.ensures ∙ first.word in
    let one : c.push.new.self.items ≡ c.loop-rest.names.items ++ first.name ∷ [] = search (rules, name) in
    let rest : names_in c.past-rest.result.now ≡ first.more = ap names_in c.past-rest.ensures ∙ first.rest in
    record {
      so_far = ap (λ ns. ns ++ names_in c.past-rest.result.now) one ∙ ap (λ ns. (c.loop-rest.names.items ++ first.name ∷ []) ++ ns) rest ∙ append_assoc c.loop-rest.names.items (first.name ∷ []) first.more ∙ ap (λ ns. c.loop-rest.names.items ++ ns) (sym first.all) ∙ c.loop-rest.invariant.so_far;
      packed = subst Rattle.vx_script_words.specs.Packed.ArePacked (sym c.past-rest.ensures) first.packed_rest;
    }

pub returns : goal.returns
returns c = sym (append-nil c.loop-rest.names.items) ∙ ap (λ ns. c.loop-rest.names.items ++ ns) (sym (no_bytes c.loop-rest.rest.now (omega arith))) ∙ c.loop-rest.invariant.so_far
