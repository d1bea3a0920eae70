use Rattle.std.proofs.Common.{◌≡◌, ◌∙◌, ap, sym, rules, length, replicate, get_or}
use Rattle.std.specs.List.{list_all}
use Rattle.std.specs.Prelude.{◌==◌, true}
use Rattle.vx_script_words.proofs.BlockLists.{all_same}
use Rattle.vx_script_words.proofs.hex.kept.Goals as goal

pub returns-then-are_equal-clause-bytes : goal.returns-then-are_equal-clause-bytes
returns-then-are_equal-clause-bytes c =
    let all : list_all (λ x. x == get_or c.args.bytes 0 0) c.args.bytes ≡ true = sym c.are_equal.ensures ∙ c.if-are_equal.true in
    let size : length c.args.bytes ≡ 512 = search rules in
    ap (λ n. replicate n (get_or c.args.bytes 0 0)) (sym size) ∙ sym (all_same c.args.bytes (get_or c.args.bytes 0 0) all)
