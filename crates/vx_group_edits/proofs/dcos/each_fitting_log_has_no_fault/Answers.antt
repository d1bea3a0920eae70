-- Logs that fit have no fault.
use Rattle.vx_group_edits.proofs.DcoEdits.{fits_logs}
use Rattle.vx_group_edits.proofs.dcos.each_fitting_log_has_no_fault.Goals as goal

pub returns : goal.returns
returns c = fits_logs
