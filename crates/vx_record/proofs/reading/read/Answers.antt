use Rattle.std.proofs.Common.{◌≡◌, ◌+◌, ◌++◌, ◌∷◌, [], drop, arith}
use Rattle.std.proofs.lemmas.Result.{err_from_is_err_and}
use Rattle.vx_record.specs.Grammar.{lines, record_lines}
use Rattle.vx_record.specs.Reading.{IsRecordFault}
use Rattle.vx_record.proofs.Faults.{read_fault, read_only, spells_one, few_lines, more_records, more_length, whole_text}
use Rattle.vx_record.proofs.ValidRecords.{AreRecords-push}
use Rattle.vx_record.proofs.reading.read.Goals as goal

pub read_record-requires-clause-room : goal.read_record-requires-clause-room
read_record-requires-clause-room c = omega (arith, c.loop-at.invariant.count, few_lines c.args.text.now c.loop-at.records.items (lines (drop c.loop-at.at c.args.text.now)) c.loop-at.invariant.lines)

pub returns-in_err-found-clause-only : goal.returns-in_err-found-clause-only
returns-in_err-found-clause-only c =
    let p = err_from_is_err_and c.from_residual.result c.from_residual.ensures.1 in
    let fault : IsRecordFault c.loop-at.line (lines (drop c.loop-at.at c.args.text.now)) c.in_err-found.field-0.0 = rw c.split_at.ensures.back at c.in_err-found.ensures.fault in
    rw (p.1, p.2) (read_only c.args.text.now c.in_err-found.field-0.0 (read_fault c.args.text.now c.loop-at.records.items (lines (drop c.loop-at.at c.args.text.now)) c.loop-at.line c.in_err-found.field-0.0 c.loop-at.invariant.valid c.loop-at.invariant.lines c.loop-at.invariant.count fault))

pub returns-in_err-found-clause-fault : goal.returns-in_err-found-clause-fault
returns-in_err-found-clause-fault c =
    let p = err_from_is_err_and c.from_residual.result c.from_residual.ensures.1 in
    let fault : IsRecordFault c.loop-at.line (lines (drop c.loop-at.at c.args.text.now)) c.in_err-found.field-0.0 = rw c.split_at.ensures.back at c.in_err-found.ensures.fault in
    rw (p.1, p.2) (read_fault c.args.text.now c.loop-at.records.items (lines (drop c.loop-at.at c.args.text.now)) c.loop-at.line c.in_err-found.field-0.0 c.loop-at.invariant.valid c.loop-at.invariant.lines c.loop-at.invariant.count fault)

pub loop-at-preserved : goal.loop-at-preserved
loop-at-preserved c =
    let found : lines (drop c.loop-at.at c.args.text.now) ≡ record_lines c.in_ok-found.found.record ++ lines (drop c.in_ok-found.found.used (drop c.loop-at.at c.args.text.now)) = rw c.split_at.ensures.back at c.in_ok-found.ensures.lines in
    record {
      inside = omega (arith, c.in_ok-found.ensures.used.1, c.split_at.ensures.back_len, c.loop-at.invariant.inside);
      lines = rw c.in_ok-push.ensures.items (more_records c.args.text.now c.loop-at.records.items c.in_ok-found.found.record c.loop-at.at c.in_ok-found.found.used c.loop-at.invariant.lines found);
      valid = rw c.in_ok-push.ensures.items (AreRecords-push c.loop-at.records.items c.in_ok-found.found.record c.loop-at.invariant.valid c.in_ok-found.ensures.valid);
      count = rw c.in_ok-push.ensures.items (omega (arith, c.in_ok-found.ensures.count, c.loop-at.invariant.count, more_length c.loop-at.records.items c.in_ok-found.found.record));
    }

pub returns-clause-spelled : goal.returns-clause-spelled
returns-clause-spelled c = rw c.from_vec.ensures (whole_text c.args.text.now c.loop-at.records.items c.loop-at.at c.loop-at-test.false c.loop-at.invariant.valid c.loop-at.invariant.lines)

pub returns-clause-only : goal.returns-clause-only
returns-clause-only c = λ records h. rw c.from_vec.ensures (spells_one c.args.text.now c.loop-at.records.items records (whole_text c.args.text.now c.loop-at.records.items c.loop-at.at c.loop-at-test.false c.loop-at.invariant.valid c.loop-at.invariant.lines) h)

pub overflow_add-line : goal.overflow_add-line
overflow_add-line c =
    let found : lines (drop c.loop-at.at c.args.text.now) ≡ record_lines c.in_ok-found.found.record ++ lines (drop c.in_ok-found.found.used (drop c.loop-at.at c.args.text.now)) = rw c.split_at.ensures.back at c.in_ok-found.ensures.lines in
    omega (
      arith,
      c.in_ok-found.ensures.count,
      c.loop-at.invariant.count,
      more_length c.loop-at.records.items c.in_ok-found.found.record,
      few_lines c.args.text.now (c.loop-at.records.items ++ c.in_ok-found.found.record ∷ []) (lines (drop (c.loop-at.at + c.in_ok-found.found.used) c.args.text.now))
          (more_records c.args.text.now c.loop-at.records.items c.in_ok-found.found.record c.loop-at.at c.in_ok-found.found.used c.loop-at.invariant.lines found),
    )
