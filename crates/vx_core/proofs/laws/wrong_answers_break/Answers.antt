use Rattle.vx_core.proofs.WrongLaws.{a_marked_plex_may_lie, writes_before_the_mark, takes_a_failed_mark, forgets_a_mark, unmarks_before_the_copy, reads_a_marked_plex, settles_from_a_marked_plex, leaves_the_failed_plex_unmarked, settles_though_a_write_failed}
use Rattle.vx_core.proofs.laws.wrong_answers_break.Goals as goal

pub returns-clause-unmarked_write : goal.returns-clause-unmarked_write
returns-clause-unmarked_write c = writes_before_the_mark

pub returns-clause-failed_mark : goal.returns-clause-failed_mark
returns-clause-failed_mark c = takes_a_failed_mark

pub returns-clause-forgotten_mark : goal.returns-clause-forgotten_mark
returns-clause-forgotten_mark c = forgets_a_mark

pub returns-clause-early_unmark : goal.returns-clause-early_unmark
returns-clause-early_unmark c = unmarks_before_the_copy

pub returns-clause-marked_read : goal.returns-clause-marked_read
returns-clause-marked_read c = reads_a_marked_plex

pub returns-clause-marked_source : goal.returns-clause-marked_source
returns-clause-marked_source c = settles_from_a_marked_plex

pub returns-clause-missed_plex : goal.returns-clause-missed_plex
returns-clause-missed_plex c = leaves_the_failed_plex_unmarked

pub returns-clause-missed_settling : goal.returns-clause-missed_settling
returns-clause-missed_settling c = settles_though_a_write_failed

pub returns-clause-marked_contents : goal.returns-clause-marked_contents
returns-clause-marked_contents c = a_marked_plex_may_lie
