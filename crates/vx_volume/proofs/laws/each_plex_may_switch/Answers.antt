-- A plex goes on or off.
use Rattle.vx_volume.proofs.Switchings.{plex_goes_off, plex_goes_on, switch_tells}
use Rattle.vx_volume.proofs.laws.each_plex_may_switch.Goals as goal

pub returns-clause-on : goal.returns-clause-on
returns-clause-on c = plex_goes_on

pub returns-clause-off : goal.returns-clause-off
returns-clause-off c = plex_goes_off

pub returns-clause-told : goal.returns-clause-told
returns-clause-told c = switch_tells
