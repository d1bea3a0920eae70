-- What contracts see of no log.
use Rattle.std.specs.Prelude.{true, false, None}
use Rattle.vx_marks.specs.Log.{LogSeen}
use Rattle.vx_marks.specs.declared.no_log.NoLog.{NoLog as NoLogIs}

abbrev pub no_log : NoLogIs → LogSeen
no_log n = record {
  there = false;
  has_region = λ region. true;
  maps = 64;
  copies = 0;
  lent = false;
  claims = λ region map. false;
  told = None;
  faults = λ copy device. 0;
  cut = false;
}
