use Rattle.vx_house.specs.Scene.{shelved}
use Rattle.vx_house.specs.View.{at}
use Rattle.vx_house.proofs.Ends.{keeps_but_group}
use Rattle.vx_run.proofs.Ends.{carried_out, holds_some, left_or_held, none_holds, stopped_short}
use Rattle.vx_run.proofs.Soundly.{carried_sound, short_sound}
use Rattle.vx_run.proofs.lines.run_commands.Goals as goal

pub returns-in-Ok-shut-clause-run : goal.returns-in-Ok-shut-clause-run
returns-in-Ok-shut-clause-run g c =
    carried_out g.S.P.Piece.seen c.args.commands.now c.new-house.result c.new-house.ensures.volumes c.new-house.ensures.group c.new-house.ensures.hand (shelved g.S.Shelf.free g.S.Shelf.held g.S.Shelf.counted g.S.Shelf.faults c.args.shelf.now) (shelved g.S.Shelf.free g.S.Shelf.held g.S.Shelf.counted g.S.Shelf.faults c.shut.new.shelf) (at (shelved g.S.Shelf.free g.S.Shelf.held g.S.Shelf.counted g.S.Shelf.faults c.all_lines.new.shelf) c.all_lines.new.house) c.shut.new.house
    (keeps_but_group g.S.P.Piece.seen _ c.in-Ok.ensures.keeps.keeps) c.in-Ok-shut.ensures.gone (g.B.Sink.taken c.args.sink.now) (g.B.Sink.taken c.all_lines.new.sink) c.in-Ok.fine c.in-Ok.ensures.run

pub returns-in-Ok-shut-clause-sound : goal.returns-in-Ok-shut-clause-sound
returns-in-Ok-shut-clause-sound g c none =
    carried_sound c.each_run_keeps_all_devices_sound.ensures.kept c.args.commands.now (shelved g.S.Shelf.free g.S.Shelf.held g.S.Shelf.counted g.S.Shelf.faults c.args.shelf.now) (g.B.Sink.taken c.args.sink.now) (shelved g.S.Shelf.free g.S.Shelf.held g.S.Shelf.counted g.S.Shelf.faults c.shut.new.shelf) (g.B.Sink.taken c.all_lines.new.sink) c.in-Ok.fine
    (returns-in-Ok-shut-clause-run g c)

pub returns-in-Err-HeldUp-clause-partly : goal.returns-in-Err-HeldUp-clause-partly
returns-in-Err-HeldUp-clause-partly g c none = let held = rw c.in-Err-HeldUp.field-0-is at c.in-Err-HeldUp.ensures.keeps in
    none_holds (g.S.Shelf.held c.all_lines.new.shelf) (holds_some g.S.P.Piece.seen (shelved g.S.Shelf.free g.S.Shelf.held g.S.Shelf.counted g.S.Shelf.faults c.all_lines.new.shelf) c.all_lines.new.house held.held held.some held.disks) none

pub returns-in-Err-HeldUp-clause-sound : goal.returns-in-Err-HeldUp-clause-sound
returns-in-Err-HeldUp-clause-sound g c none = let held = rw c.in-Err-HeldUp.field-0-is at c.in-Err-HeldUp.ensures.keeps in
    none_holds (g.S.Shelf.held c.all_lines.new.shelf) (holds_some g.S.P.Piece.seen (shelved g.S.Shelf.free g.S.Shelf.held g.S.Shelf.counted g.S.Shelf.faults c.all_lines.new.shelf) c.all_lines.new.house held.held held.some held.disks) none

pub returns-in-Err-OutOfMemory-clause-partly : goal.returns-in-Err-OutOfMemory-clause-partly
returns-in-Err-OutOfMemory-clause-partly g c none =
    stopped_short g.S.P.Piece.seen c.args.commands.now c.new-house.result c.new-house.ensures.volumes c.new-house.ensures.group c.new-house.ensures.hand (shelved g.S.Shelf.free g.S.Shelf.held g.S.Shelf.counted g.S.Shelf.faults c.args.shelf.now) (shelved g.S.Shelf.free g.S.Shelf.held g.S.Shelf.counted g.S.Shelf.faults c.shut-in-Err-OutOfMemory.new.shelf) (at (shelved g.S.Shelf.free g.S.Shelf.held g.S.Shelf.counted g.S.Shelf.faults c.all_lines.new.shelf) c.all_lines.new.house) c.shut-in-Err-OutOfMemory.new.house
    (rw c.in-Err-OutOfMemory.field-0-is at c.in-Err-OutOfMemory.ensures.keeps).keeps
    (left_or_held g.S.P.Piece.seen c.shut-in-Err-OutOfMemory.result (g.S.Shelf.held c.shut-in-Err-OutOfMemory.new.shelf) (at (shelved g.S.Shelf.free g.S.Shelf.held g.S.Shelf.counted g.S.Shelf.faults c.all_lines.new.shelf) c.all_lines.new.house) (shelved g.S.Shelf.free g.S.Shelf.held g.S.Shelf.counted g.S.Shelf.faults c.shut-in-Err-OutOfMemory.new.shelf) c.shut-in-Err-OutOfMemory.new.house c.shut-in-Err-OutOfMemory.ensures.gone c.shut-in-Err-OutOfMemory.ensures.stuck none)
    (g.B.Sink.taken c.args.sink.now) (g.B.Sink.taken c.all_lines.new.sink) (rw c.in-Err-OutOfMemory.field-0-is at c.in-Err-OutOfMemory.ensures.partly)

pub returns-in-Err-OutOfMemory-clause-sound : goal.returns-in-Err-OutOfMemory-clause-sound
returns-in-Err-OutOfMemory-clause-sound g c none =
    short_sound c.each_run_keeps_all_devices_sound.ensures.kept c.each_run_keeps_all_devices_sound.ensures.left_off c.args.commands.now (shelved g.S.Shelf.free g.S.Shelf.held g.S.Shelf.counted g.S.Shelf.faults c.args.shelf.now) (g.B.Sink.taken c.args.sink.now) (shelved g.S.Shelf.free g.S.Shelf.held g.S.Shelf.counted g.S.Shelf.faults c.shut-in-Err-OutOfMemory.new.shelf) (g.B.Sink.taken c.all_lines.new.sink)
    (returns-in-Err-OutOfMemory-clause-partly g c none)

pub returns-clause-partly : goal.returns-clause-partly
returns-clause-partly g c none =
    stopped_short g.S.P.Piece.seen c.args.commands.now c.new-house.result c.new-house.ensures.volumes c.new-house.ensures.group c.new-house.ensures.hand (shelved g.S.Shelf.free g.S.Shelf.held g.S.Shelf.counted g.S.Shelf.faults c.args.shelf.now) (shelved g.S.Shelf.free g.S.Shelf.held g.S.Shelf.counted g.S.Shelf.faults c.shut-in-Err-SinkFailed.new.shelf) (at (shelved g.S.Shelf.free g.S.Shelf.held g.S.Shelf.counted g.S.Shelf.faults c.all_lines.new.shelf) c.all_lines.new.house) c.shut-in-Err-SinkFailed.new.house
    (rw c.in-Err-SinkFailed.field-0-is at c.in-Err-SinkFailed.ensures.keeps).keeps
    (left_or_held g.S.P.Piece.seen c.shut-in-Err-SinkFailed.result (g.S.Shelf.held c.shut-in-Err-SinkFailed.new.shelf) (at (shelved g.S.Shelf.free g.S.Shelf.held g.S.Shelf.counted g.S.Shelf.faults c.all_lines.new.shelf) c.all_lines.new.house) (shelved g.S.Shelf.free g.S.Shelf.held g.S.Shelf.counted g.S.Shelf.faults c.shut-in-Err-SinkFailed.new.shelf) c.shut-in-Err-SinkFailed.new.house c.shut-in-Err-SinkFailed.ensures.gone c.shut-in-Err-SinkFailed.ensures.stuck none)
    (g.B.Sink.taken c.args.sink.now) (g.B.Sink.taken c.all_lines.new.sink) (rw c.in-Err-SinkFailed.field-0-is at c.in-Err-SinkFailed.ensures.partly)

pub returns-clause-sound : goal.returns-clause-sound
returns-clause-sound g c none =
    short_sound c.each_run_keeps_all_devices_sound.ensures.kept c.each_run_keeps_all_devices_sound.ensures.left_off c.args.commands.now (shelved g.S.Shelf.free g.S.Shelf.held g.S.Shelf.counted g.S.Shelf.faults c.args.shelf.now) (g.B.Sink.taken c.args.sink.now) (shelved g.S.Shelf.free g.S.Shelf.held g.S.Shelf.counted g.S.Shelf.faults c.shut-in-Err-SinkFailed.new.shelf) (g.B.Sink.taken c.all_lines.new.sink)
    (returns-clause-partly g c none)
