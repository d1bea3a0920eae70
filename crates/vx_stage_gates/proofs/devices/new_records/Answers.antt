use Rattle.std.proofs.Common.{◌≡◌, ◌∙◌, ◌+◌, ◌++◌, ◌∷◌, [], ℕ, sym, ap, take, rules, arith}
use Rattle.std.proofs.lemmas.List.{take_more, length-take-le}
use Rattle.vx_stages.specs.Records.{disk_record, sectors_at}
use Rattle.vx_house.specs.Plain.{plain}
use Rattle.vx_stage_gates.proofs.DiskLists.{records_next}
use Rattle.vx_stage_gates.proofs.devices.new_records.Goals as goal

pub loop-disk-preserved : goal.loop-disk-preserved
loop-disk-preserved g c =
    let i : ℕ = c.loop-disk.disk-index in
    let more : take (i + 1) c.args.disks.now ≡ take i c.args.disks.now ++ c.disk-item.result ∷ [] = take_more c.args.disks.now i c.disk-item.result c.loop-disk-test.true ∙ ap (λ x. take i c.args.disks.now ++ x ∷ []) (sym c.disk-item.is) in
    record {
      slot = search rules;
      records = c.in_ok-push-2.ensures.items ∙ records_next c.args.dg.now (plain g.P.Piece.seen c.args.house.now) c.args.disks.now i c.disk-item.result c.loop-disk.records.items c.disk_record.result more (length-take-le i c.args.disks.now (omega (arith, c.loop-disk-test.true))) c.loop-disk.invariant.records (c.disk_record.ensures ∙ ap (λ n. disk_record c.disk-item.result n (sectors_at (plain g.P.Piece.seen c.args.house.now) c.disk-item.result.device)) c.loop-disk.invariant.slot);
    }
