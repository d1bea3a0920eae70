-- Reading and printing the records of a configuration are inverse.
use Rattle.std.specs.Prelude.{◌≡◌, ℕ, nat_lt, List}
use Rattle.std.specs.List.Sorted.{IsSortedBy}
use Rattle.vx_record.specs.Content.{Content}
use Rattle.vx_record.specs.declared.kind.Kind.{Kind}
use Rattle.vx_record.specs.declared.kind.Kind.TheVariants as kinds
use Rattle.vx_config_parts.specs.declared.fault.ObjectFault.{ObjectFault}
use Rattle.vx_config_parts.specs.declared.fault.ObjectFault.TheVariants.{OutOfMemory}
use Rattle.vx_objects.specs.declared.config.Config.{Config}
use Rattle.vx_objects.specs.Printed.{IsReadOf, IsUnreadOf, records_in}

-- the place of a kind in print
abbrev pub place_of : Kind → ℕ
place_of kinds.Dg = 0
place_of kinds.Dm = 1
place_of kinds.Sd = 2
place_of kinds.Plex = 3
place_of kinds.Vol = 4
place_of kinds.Dco = 5
place_of kinds.Snap = 6

-- no record is of a kind before that of the record in front of it
abbrev pub AreInOrder : List Content → Type 0
AreInOrder records = IsSortedBy (λ a b. nat_lt (place_of a.kind) (place_of b.kind)) records

-- what is read from the records of a configuration is that configuration
abbrev pub ReadsBack : Type 0
ReadsBack = (config read : Config) → IsReadOf (records_in config) read → read ≡ config

-- the records of a configuration are refused for want of memory alone
abbrev pub RefusesNone : Type 0
RefusesNone = (config : Config) (fault : ObjectFault) → IsUnreadOf (records_in config) fault → fault ≡ OutOfMemory

-- records in the order of print, from which a configuration is read, are its records
abbrev pub PrintsBack : Type 0
PrintsBack = (records : List Content) (config : Config) → AreInOrder records → IsReadOf records config → records_in config ≡ records
