-- What contracts see of the rows' log. It does not tell what its copy holds.
use Rattle.std.specs.Prelude.{◌==◌, ◌&&◌, true, false, None, if◌then◌else◌}
use Rattle.vx_mask.specs.Mask.{has}
use Rattle.vx_marks.specs.Log.{LogSeen}
use Rattle.vx_cell_rows.specs.declared.notes.Notes.{Notes}

abbrev pub notes_log : Notes → LogSeen
notes_log n = record {
  there = true;
  has_region = λ region. region == 0;
  maps = 64;
  copies = 1;
  lent = false;
  claims = λ region k. (region == 0) && has n.bits k;
  told = None;
  faults = λ copy device. if (copy == 0) && (device == 9) then n.faults else 0;
  cut = n.cut;
}
