use Rattle.std.proofs.Common.{take}
use Rattle.vx_lending.specs.Form.{AreLayouts}
use Rattle.vx_lending.proofs.form.layouts_of.Given as goal

abbrev pub invariant-loop-plex : goal.invariant-loop-plex
invariant-loop-plex l = AreLayouts l.config (take l.plex-index l.plexes) l.layouts.items
