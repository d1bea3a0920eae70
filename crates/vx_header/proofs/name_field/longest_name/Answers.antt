use Rattle.std.proofs.Common.{◌≡◌, ◌<◌, ◌≤◌, ◌+◌, ℕ, List, length, take, IsTrue, arith, sym, subst}
use Rattle.vx_header.specs.Sectors.{is_short_name}
use Rattle.vx_header.proofs.NameLemmas.{longer_is_short, longer_is_longest, length_of_short}
use Rattle.vx_header.proofs.name_field.longest_name.Goals as goal

pub loop-len-preserved : goal.loop-len-preserved
loop-len-preserved c =
    let field : List ℕ = c.args.field.now in
    let Short : List ℕ → Type 0 = λ xs. IsTrue (is_short_name xs) in
    let Longest : List ℕ → Type 0 = λ xs.
    (name : List ℕ) → length name < c.loop-len.len + 1 → IsTrue (is_short_name name) → take (length name) field ≡ name → (length name ≤ length xs) × (xs ≡ take (length xs) field) in
    record {
      short = subst Short (sym c.longer-longest.ensures) (longer_is_short field c.loop-len.longest c.loop-len.len (omega arith) (omega arith) c.loop-len.invariant.short);
      longest = subst Longest (sym c.longer-longest.ensures) (longer_is_longest field c.loop-len.longest c.loop-len.len (omega arith) c.loop-len.invariant.longest);
    }

pub returns-clause-longest : goal.returns-clause-longest
returns-clause-longest c name short begins =
    c.loop-len.invariant.longest name (omega (arith, length_of_short name short)) short begins
