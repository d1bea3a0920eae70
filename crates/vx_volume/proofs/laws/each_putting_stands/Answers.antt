-- A plex is put into all regions.
use Rattle.vx_volume.proofs.Puttings.{putting_stands, putting_tells}
use Rattle.vx_volume.proofs.laws.each_putting_stands.Goals as goal

pub returns-clause-stands : goal.returns-clause-stands
returns-clause-stands c = putting_stands

pub returns-clause-told : goal.returns-clause-told
returns-clause-told c = putting_tells
