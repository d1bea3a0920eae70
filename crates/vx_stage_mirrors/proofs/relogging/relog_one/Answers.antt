use Rattle.vx_stage_mirrors.proofs.relogging.relog_one.Goals as goal

pub change_log-requires-clause-alone : goal.change_log-requires-clause-alone
change_log-requires-clause-alone g c κs within = (c.requires.may.map, c.requires.may.alone)
