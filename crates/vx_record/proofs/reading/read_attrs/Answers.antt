use Rattle.std.proofs.Common.{ℕ, ◌+◌, ap, ◌∙◌, take, drop, get_or, arith}
use Rattle.std.proofs.lemmas.List.{take_more}
use Rattle.std.proofs.lemmas.Result.{err_from_is_err_and}
use Rattle.vx_record.specs.Grammar.{lines}
use Rattle.vx_record.specs.Reading.{AddsAttr}
use Rattle.vx_record.specs.declared.column.Column.{Column}
use Rattle.vx_record.specs.declared.column.Form.TheVariants as forms
use Rattle.vx_record.specs.declared.label.Label.TheVariants as labels
use Rattle.vx_record.proofs.ReadSteps.{more_lines, more_names, more_fit, more_count, attrs_fault, cut_at}
use Rattle.vx_record.proofs.reading.read_attrs.Goals as goal

abbrev first : Column
first = record { label = labels.Version; form = forms.Number }

pub returns-in_err-used-clause-fault : goal.returns-in_err-used-clause-fault
returns-in_err-used-clause-fault c =
    let p = err_from_is_err_and c.from_residual.result c.from_residual.ensures.1 in
    rw (p.1, p.2)
    (attrs_fault c.args.line c.loop-index.index (get_or c.args.columns.now c.loop-index.index first) (take c.loop-index.index c.args.columns.now) (drop (c.loop-index.index + 1) c.args.columns.now) c.args.columns.now
    c.loop-index.attrs.items (lines c.args.text.now) (lines (drop c.loop-index.used c.args.text.now)) c.in_err-used.field-0.0
    c.loop-index.invariant.lines c.loop-index.invariant.names c.loop-index.invariant.fit c.loop-index.invariant.count (cut_at c.args.columns.now c.loop-index.index first (omega arith))
    (rw c.split_at.ensures.back at c.in_err-used.ensures.fault))

pub loop-index-preserved : goal.loop-index-preserved
loop-index-preserved c =
    let column : Column = get_or c.args.columns.now c.loop-index.index first in
    let adds : AddsAttr c.loop-index.attrs.items c.take_attr.new.attrs.items (get_or c.args.columns.now c.loop-index.index first) (drop c.loop-index.used c.args.text.now) c.in_ok-used.field-0 = rw c.split_at.ensures.back at c.in_ok-used.ensures.ok in
    record {
      inside = omega (arith, c.in_ok-used.ensures.inside, c.split_at.ensures.back_len, c.loop-index.invariant.inside);
      lines = more_lines c.args.text.now c.loop-index.used c.in_ok-used.field-0 (get_or c.args.columns.now c.loop-index.index first) c.loop-index.attrs.items c.take_attr.new.attrs.items c.loop-index.invariant.lines adds;
      names = more_names (get_or c.args.columns.now c.loop-index.index first) (drop c.loop-index.used c.args.text.now) c.in_ok-used.field-0 c.loop-index.attrs.items c.take_attr.new.attrs.items c.loop-index.invariant.names adds;
      fit = more_fit (get_or c.args.columns.now c.loop-index.index first) (drop c.loop-index.used c.args.text.now) c.in_ok-used.field-0 c.loop-index.attrs.items c.take_attr.new.attrs.items (take c.loop-index.index c.args.columns.now) (take (c.loop-index.index + 1) c.args.columns.now) c.loop-index.invariant.fit adds
          (take_more c.args.columns.now c.loop-index.index first (omega arith));
      count = more_count (get_or c.args.columns.now c.loop-index.index first) (drop c.loop-index.used c.args.text.now) c.in_ok-used.field-0 c.loop-index.attrs.items c.take_attr.new.attrs.items adds ∙ ap (λ (n : ℕ). n + 1) c.loop-index.invariant.count;
    }
