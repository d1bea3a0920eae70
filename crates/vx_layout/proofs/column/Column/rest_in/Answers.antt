use Rattle.std.proofs.Common.{◌≡◌, length, arith, sym}
use Rattle.vx_layout.proofs.column.Column.rest_in.Goals as goal
use Rattle.vx_layout.proofs.EndLemmas.{rest_found, nothing_found, end_there}

pub returns-then-passed-len : goal.returns-then-passed-len
returns-then-passed-len c =
    let column = c.self.inside in
    let all : c.count_passed-passed.result ≡ length column.strips.items = omega (arith, c.if-passed-len.true, c.len.ensures, column.strips.ok) in
    sym (nothing_found column.strips.items c.args.self.now column.ends.items c.args.sector c.count_passed-passed.result c.self.view_is column.summed c.count_passed-passed.ensures all)

pub index-requires : goal.index-requires
index-requires c =
    let column = c.self.inside in
    let more : c.count_passed-passed.result ≡ length column.strips.items → ⊥ = λ e. c.if-passed-len.false (omega (arith, e, c.len.ensures, column.strips.ok)) in
    let there = end_there column.strips.items c.args.self.now column.ends.items c.args.sector c.count_passed-passed.result c.self.view_is column.summed c.count_passed-passed.ensures more in
    omega (arith, there, column.ends.ok)

pub overflow_sub-count : goal.overflow_sub-count
overflow_sub-count c =
    let column = c.self.inside in
    let more : c.count_passed-passed.result ≡ length column.strips.items → ⊥ = λ e. c.if-passed-len.false (omega (arith, e, c.len.ensures, column.strips.ok)) in
    let rest = rest_found column.strips.items c.args.self.now column.ends.items c.args.sector c.count_passed-passed.result c.self.view_is column.summed c.count_passed-passed.ensures
    c.index.result.now c.index-strip.result.now more c.index-strip.ensures c.index.ensures in
    omega (arith, rest.below)

pub overflow_sub-result : goal.overflow_sub-result
overflow_sub-result c =
    let column = c.self.inside in
    let more : c.count_passed-passed.result ≡ length column.strips.items → ⊥ = λ e. c.if-passed-len.false (omega (arith, e, c.len.ensures, column.strips.ok)) in
    let rest = rest_found column.strips.items c.args.self.now column.ends.items c.args.sector c.count_passed-passed.result c.self.view_is column.summed c.count_passed-passed.ensures
    c.index.result.now c.index-strip.result.now more c.index-strip.ensures c.index.ensures in
    omega (arith, rest.within)

pub returns : goal.returns
returns c =
    let column = c.self.inside in
    let more : c.count_passed-passed.result ≡ length column.strips.items → ⊥ = λ e. c.if-passed-len.false (omega (arith, e, c.len.ensures, column.strips.ok)) in
    let rest = rest_found column.strips.items c.args.self.now column.ends.items c.args.sector c.count_passed-passed.result c.self.view_is column.summed c.count_passed-passed.ensures
    c.index.result.now c.index-strip.result.now more c.index-strip.ensures c.index.ensures in
    sym rest.is
