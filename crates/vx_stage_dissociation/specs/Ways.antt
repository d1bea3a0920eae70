-- The ways of the code are those of the world.
use Rattle.vx_stages.specs.Leaving.{ByLog, ByRecord, FromLog, FromRest, Way}
use Rattle.vx_stage_dissociation.specs.declared.ways.LeavingWay.{LeavingWay}
use Rattle.vx_stage_dissociation.specs.declared.ways.LeavingWay.TheVariants as ways

abbrev pub as_way : LeavingWay → Way
as_way ways.ByRecord = ByRecord
as_way ways.FromLog = FromLog
as_way ways.FromRest = FromRest
as_way ways.ByLog = ByLog
