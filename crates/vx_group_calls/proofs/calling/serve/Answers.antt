use Rattle.std.proofs.Common.{◌/◌, ◌*◌, length, replicate, sym, subst}
use Rattle.std.specs.Prelude.{IfOk}
use Rattle.std.proofs.lemmas.Result.{IfOk-weaker}
use Rattle.vx_script_forms.specs.declared.call.Call.{Call}
use Rattle.vx_volume.specs.Volume.{volume_seen}
use Rattle.vx_group_calls.specs.Serving.{IsWithinLimits, ServesVolume}
use Rattle.vx_lending.specs.Left.{held_pieces}
use Rattle.vx_group_calls.proofs.Service.{cause_by, counted_by, same_counted, data_serves, dead_by, each_same, fill_serves, goes_by, read_all, read_serves, stays_by, write_all}
use Rattle.vx_group_calls.proofs.Lying.{lies_read, lies_written}
use Rattle.vx_group_calls.proofs.calling.serve.Goals as goal

pub returns-then-most-gt-MOST_NUMBERS-clause-stays : goal.returns-then-most-gt-MOST_NUMBERS-clause-stays
returns-then-most-gt-MOST_NUMBERS-clause-stays g c = each_same (held_pieces g.P.Piece.seen c.args.running.now.volume)

pub returns-then-most-gt-MOST_NUMBERS-clause-counted : goal.returns-then-most-gt-MOST_NUMBERS-clause-counted
returns-then-most-gt-MOST_NUMBERS-clause-counted g c = same_counted c.args.running.now.volume

pub returns-in-Read-clause-served : goal.returns-in-Read-clause-served
returns-in-Read-clause-served g c =
    let valid = subst IsWithinLimits c.in-Read.is c.requires.valid in
    subst (λ (call : Call). IfOk c.read_blocks.result (λ served. ServesVolume call served (volume_seen g.P.Piece.seen c.args.running.now.volume) (volume_seen g.P.Piece.seen c.read_blocks.new.volume))) (sym c.in-Read.is)
    (IfOk-weaker c.read_blocks.result _ _ (λ served h. read_serves c.each_call_runs_on.ensures.read c.in-Read.vol c.in-Read.start c.in-Read.count served (volume_seen g.P.Piece.seen c.args.running.now.volume) (volume_seen g.P.Piece.seen c.read_blocks.new.volume) valid.1 c.requires.volume c.read_blocks.ensures.continues.whole h) c.read_blocks.ensures.served)

pub returns-in-Read-clause-stays : goal.returns-in-Read-clause-stays
returns-in-Read-clause-stays g c = stays_by c.args.running.now.volume c.read_blocks.new.volume c.read_blocks.result c.read_blocks.ensures.refused (read_all c.args.running.now.volume c.read_blocks.new.volume c.read_blocks.result c.in-Read.start c.in-Read.count c.requires.volume c.read_blocks.ensures.continues.follows c.read_blocks.ensures.served)

pub returns-in-Read-clause-goes : goal.returns-in-Read-clause-goes
returns-in-Read-clause-goes g c = goes_by c.args.running.now.volume c.read_blocks.new.volume c.read_blocks.result c.read_blocks.ensures.refused (read_all c.args.running.now.volume c.read_blocks.new.volume c.read_blocks.result c.in-Read.start c.in-Read.count c.requires.volume c.read_blocks.ensures.continues.follows c.read_blocks.ensures.served)

pub returns-in-Read-clause-counted : goal.returns-in-Read-clause-counted
returns-in-Read-clause-counted g c = counted_by c.args.running.now.volume c.read_blocks.new.volume c.read_blocks.result c.read_blocks.ensures.refused (read_all c.args.running.now.volume c.read_blocks.new.volume c.read_blocks.result c.in-Read.start c.in-Read.count c.requires.volume c.read_blocks.ensures.continues.follows c.read_blocks.ensures.served)

pub returns-in-Read-clause-cause : goal.returns-in-Read-clause-cause
returns-in-Read-clause-cause g c = cause_by c.args.running.now.volume c.read_blocks.new.volume c.read_blocks.result (read_all c.args.running.now.volume c.read_blocks.new.volume c.read_blocks.result c.in-Read.start c.in-Read.count c.requires.volume c.read_blocks.ensures.continues.follows c.read_blocks.ensures.served)

pub returns-in-Read-clause-dead : goal.returns-in-Read-clause-dead
returns-in-Read-clause-dead g c = dead_by c.args.running.now.volume c.read_blocks.new.volume c.read_blocks.result c.read_blocks.ensures.refused (read_all c.args.running.now.volume c.read_blocks.new.volume c.read_blocks.result c.in-Read.start c.in-Read.count c.requires.volume c.read_blocks.ensures.continues.follows c.read_blocks.ensures.served)

pub returns-in-Fill-clause-served : goal.returns-in-Fill-clause-served
returns-in-Fill-clause-served g c =
    let valid = subst IsWithinLimits c.in-Fill.is c.requires.valid in
    subst (λ (call : Call). IfOk c.fill_blocks.result (λ served. ServesVolume call served (volume_seen g.P.Piece.seen c.args.running.now.volume) (volume_seen g.P.Piece.seen c.fill_blocks.new.volume))) (sym c.in-Fill.is)
    (IfOk-weaker c.fill_blocks.result _ _ (λ served h. fill_serves c.each_call_runs_on.ensures.written c.in-Fill.vol c.in-Fill.start c.in-Fill.count c.in-Fill.byte served (volume_seen g.P.Piece.seen c.args.running.now.volume) (volume_seen g.P.Piece.seen c.fill_blocks.new.volume) valid.1 c.requires.volume c.fill_blocks.ensures.continues.whole h) c.fill_blocks.ensures.served)

pub returns-in-Fill-clause-stays : goal.returns-in-Fill-clause-stays
returns-in-Fill-clause-stays g c = stays_by c.args.running.now.volume c.fill_blocks.new.volume c.fill_blocks.result c.fill_blocks.ensures.refused (write_all c.args.running.now.volume c.fill_blocks.new.volume c.fill_blocks.result c.in-Fill.start c.in-Fill.count (replicate (512 * c.in-Fill.count) c.in-Fill.byte) c.requires.volume c.fill_blocks.ensures.continues.follows c.fill_blocks.ensures.served)

pub returns-in-Fill-clause-goes : goal.returns-in-Fill-clause-goes
returns-in-Fill-clause-goes g c = goes_by c.args.running.now.volume c.fill_blocks.new.volume c.fill_blocks.result c.fill_blocks.ensures.refused (write_all c.args.running.now.volume c.fill_blocks.new.volume c.fill_blocks.result c.in-Fill.start c.in-Fill.count (replicate (512 * c.in-Fill.count) c.in-Fill.byte) c.requires.volume c.fill_blocks.ensures.continues.follows c.fill_blocks.ensures.served)

pub returns-in-Fill-clause-counted : goal.returns-in-Fill-clause-counted
returns-in-Fill-clause-counted g c = counted_by c.args.running.now.volume c.fill_blocks.new.volume c.fill_blocks.result c.fill_blocks.ensures.refused (write_all c.args.running.now.volume c.fill_blocks.new.volume c.fill_blocks.result c.in-Fill.start c.in-Fill.count (replicate (512 * c.in-Fill.count) c.in-Fill.byte) c.requires.volume c.fill_blocks.ensures.continues.follows c.fill_blocks.ensures.served)

pub returns-in-Fill-clause-cause : goal.returns-in-Fill-clause-cause
returns-in-Fill-clause-cause g c = cause_by c.args.running.now.volume c.fill_blocks.new.volume c.fill_blocks.result (write_all c.args.running.now.volume c.fill_blocks.new.volume c.fill_blocks.result c.in-Fill.start c.in-Fill.count (replicate (512 * c.in-Fill.count) c.in-Fill.byte) c.requires.volume c.fill_blocks.ensures.continues.follows c.fill_blocks.ensures.served)

pub returns-in-Fill-clause-dead : goal.returns-in-Fill-clause-dead
returns-in-Fill-clause-dead g c = dead_by c.args.running.now.volume c.fill_blocks.new.volume c.fill_blocks.result c.fill_blocks.ensures.refused (write_all c.args.running.now.volume c.fill_blocks.new.volume c.fill_blocks.result c.in-Fill.start c.in-Fill.count (replicate (512 * c.in-Fill.count) c.in-Fill.byte) c.requires.volume c.fill_blocks.ensures.continues.follows c.fill_blocks.ensures.served)

pub returns-in-Data-clause-served : goal.returns-in-Data-clause-served
returns-in-Data-clause-served g c =
    let valid = subst IsWithinLimits c.in-Data.is c.requires.valid in
    subst (λ (call : Call). IfOk c.write_blocks.result (λ served. ServesVolume call served (volume_seen g.P.Piece.seen c.args.running.now.volume) (volume_seen g.P.Piece.seen c.write_blocks.new.volume))) (sym c.in-Data.is)
    (IfOk-weaker c.write_blocks.result _ _ (λ served h. data_serves c.each_call_runs_on.ensures.written c.in-Data.vol c.in-Data.start c.in-Data.blocks served (volume_seen g.P.Piece.seen c.args.running.now.volume) (volume_seen g.P.Piece.seen c.write_blocks.new.volume) valid.2 c.requires.volume c.write_blocks.ensures.continues.whole h) c.write_blocks.ensures.served)

pub returns-in-Data-clause-stays : goal.returns-in-Data-clause-stays
returns-in-Data-clause-stays g c = stays_by c.args.running.now.volume c.write_blocks.new.volume c.write_blocks.result c.write_blocks.ensures.refused (write_all c.args.running.now.volume c.write_blocks.new.volume c.write_blocks.result c.in-Data.start (length c.in-Data.blocks / 512) c.in-Data.blocks c.requires.volume c.write_blocks.ensures.continues.follows c.write_blocks.ensures.served)

pub returns-in-Data-clause-goes : goal.returns-in-Data-clause-goes
returns-in-Data-clause-goes g c = goes_by c.args.running.now.volume c.write_blocks.new.volume c.write_blocks.result c.write_blocks.ensures.refused (write_all c.args.running.now.volume c.write_blocks.new.volume c.write_blocks.result c.in-Data.start (length c.in-Data.blocks / 512) c.in-Data.blocks c.requires.volume c.write_blocks.ensures.continues.follows c.write_blocks.ensures.served)

pub returns-in-Data-clause-counted : goal.returns-in-Data-clause-counted
returns-in-Data-clause-counted g c = counted_by c.args.running.now.volume c.write_blocks.new.volume c.write_blocks.result c.write_blocks.ensures.refused (write_all c.args.running.now.volume c.write_blocks.new.volume c.write_blocks.result c.in-Data.start (length c.in-Data.blocks / 512) c.in-Data.blocks c.requires.volume c.write_blocks.ensures.continues.follows c.write_blocks.ensures.served)

pub returns-in-Data-clause-cause : goal.returns-in-Data-clause-cause
returns-in-Data-clause-cause g c = cause_by c.args.running.now.volume c.write_blocks.new.volume c.write_blocks.result (write_all c.args.running.now.volume c.write_blocks.new.volume c.write_blocks.result c.in-Data.start (length c.in-Data.blocks / 512) c.in-Data.blocks c.requires.volume c.write_blocks.ensures.continues.follows c.write_blocks.ensures.served)

pub returns-in-Data-clause-dead : goal.returns-in-Data-clause-dead
returns-in-Data-clause-dead g c = dead_by c.args.running.now.volume c.write_blocks.new.volume c.write_blocks.result c.write_blocks.ensures.refused (write_all c.args.running.now.volume c.write_blocks.new.volume c.write_blocks.result c.in-Data.start (length c.in-Data.blocks / 512) c.in-Data.blocks c.requires.volume c.write_blocks.ensures.continues.follows c.write_blocks.ensures.served)

pub returns-in-Read-clause-lies : goal.returns-in-Read-clause-lies
returns-in-Read-clause-lies g c numbers was = lies_read numbers c.args.running.now.form c.args.running.now.volume c.read_blocks.new.volume was c.in-Read.start c.in-Read.count c.read_blocks.result c.read_blocks.ensures.refused c.read_blocks.ensures.continues.follows c.read_blocks.ensures.served

pub returns-in-Fill-clause-lies : goal.returns-in-Fill-clause-lies
returns-in-Fill-clause-lies g c numbers was = lies_written numbers c.args.running.now.form c.args.running.now.volume c.fill_blocks.new.volume was c.in-Fill.start c.in-Fill.count (replicate (512 * c.in-Fill.count) c.in-Fill.byte) c.fill_blocks.result c.fill_blocks.ensures.refused c.fill_blocks.ensures.continues.follows c.fill_blocks.ensures.served

pub returns-in-Data-clause-lies : goal.returns-in-Data-clause-lies
returns-in-Data-clause-lies g c numbers was = lies_written numbers c.args.running.now.form c.args.running.now.volume c.write_blocks.new.volume was c.in-Data.start (length c.in-Data.blocks / 512) c.in-Data.blocks c.write_blocks.result c.write_blocks.ensures.refused c.write_blocks.ensures.continues.follows c.write_blocks.ensures.served
