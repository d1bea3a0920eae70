use Rattle.vx_group_volumes.proofs.Devices.{device_named, own_named}
use Rattle.vx_group_volumes.proofs.each_device_is_named.Goals as goal

pub returns-clause-plex : goal.returns-clause-plex
returns-clause-plex c = device_named

pub returns-clause-volume : goal.returns-clause-volume
returns-clause-volume c = own_named
