-- The refusal that a broken rule of a configuration gives. Want of memory ends the run, and is none.
use Rattle.std.specs.Prelude.{Option, Some, None}
use Rattle.vx_config_parts.specs.declared.fault.ObjectFault.{ObjectFault}
use Rattle.vx_config_parts.specs.declared.fault.ObjectFault.TheVariants as fault
use Rattle.vx_answers.specs.declared.refusal.Refusal.{Refusal}
use Rattle.vx_answers.specs.declared.refusal.Refusal.TheVariants as refusal

abbrev pub refusal_by : ObjectFault → Option Refusal
refusal_by (fault.Exists name) = Some (refusal.Exists name)
refusal_by (fault.NoObject name) = Some (refusal.NoObject name)
refusal_by (fault.InUse name) = Some (refusal.InUse name)
refusal_by (fault.Overlap name) = Some (refusal.Overlap name)
refusal_by (fault.Outside name) = Some (refusal.Outside name)
refusal_by (fault.NoMap name) = Some (refusal.NoMap name)
refusal_by (fault.Limit which) = Some (refusal.Limit which)
refusal_by (fault.NotWhole name) = Some (refusal.NotWhole name)
refusal_by (fault.NoLog name) = Some (refusal.NoLog name)
refusal_by fault.OutOfMemory = None

-- the refusal that the first broken rule gives, if one is broken
abbrev pub refusal_from : Option ObjectFault → Option Refusal
refusal_from None = None
refusal_from (Some f) = refusal_by f
