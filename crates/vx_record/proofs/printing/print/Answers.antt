use Rattle.std.proofs.Common.{◌≡◌, ℕ, ◌+◌, ◌++◌, ◌∷◌, [], List, sym, ap, subst, ◌∙◌, take, arith}
use Rattle.std.proofs.lemmas.List.{take_more, flat_map_more}
use Rattle.vx_record.specs.Content.{Content}
use Rattle.vx_record.specs.Grammar.{AreRecords, record_text, records_text}
use Rattle.vx_record.proofs.ValidRecords.{AreRecords-push}
use Rattle.vx_record.proofs.printing.print.Goals as goal

pub loop-record-preserved : goal.loop-record-preserved
loop-record-preserved c =
    let more : take (c.loop-record.record-index + 1) c.args.records.now ≡ take c.loop-record.record-index c.args.records.now ++ c.record-item.result ∷ [] =
    take_more c.args.records.now c.loop-record.record-index c.record-item.result (omega arith) ∙ ap (λ (r : Content). take c.loop-record.record-index c.args.records.now ++ r ∷ []) (sym c.record-item.is) in
    record {
      text = c.in_ok-put_record.ensures.text ∙ ap (λ (x : List ℕ). x ++ record_text c.record-item.result) c.loop-record.invariant.text
          ∙ flat_map_more record_text c.args.out.now.items (take c.loop-record.record-index c.args.records.now) c.record-item.result ∙ ap (λ (rs : List Content). c.args.out.now.items ++ records_text rs) (sym more);
      form = subst AreRecords (sym more) (AreRecords-push (take c.loop-record.record-index c.args.records.now) c.record-item.result c.loop-record.invariant.form c.in_ok-put_record.ensures.form);
    }
