-- What a shelf with a power switch shows of the devices that nobody holds.
use Rattle.std.specs.Prelude.{Bool, not, ◌&&◌, ◌||◌, false, is_some, Option, Some, None}
use Rattle.std.specs.Option.{option_map}
use Rattle.vx_base.specs.Named.{Word}
use Rattle.vx_piece.specs.Seen.{Seen}
use Rattle.vx_shelf.specs.Shelf.{Held}
use Rattle.vx_power.specs.declared.board.Wire.{Wire}
use Rattle.vx_power.specs.Fused.{powerless}

-- a device as its fuse showed it as it came back
abbrev pub returned : Option Wire → Seen → Seen
returned None seen = seen
returned (Some wire) seen = powerless wire.seat.me.0 seen

-- the devices as their fuses showed them
abbrev pub shown : (Word → Option Wire) → (Word → Option Seen) → Word → Option Seen
shown gone devices name = option_map (returned (gone name)) (devices name)

-- the same, where the shelf tells its devices
abbrev pub shown_free : (Word → Option Wire) → Option (Word → Option Seen) → Option (Word → Option Seen)
shown_free gone None = None
shown_free gone (Some devices) = Some (shown gone devices)

-- the shelf tells that nobody holds the device of the name
abbrev pub is_told : Option (Word → Option Seen) → Word → Bool
is_told None name = false
is_told (Some devices) name = is_some (devices name)

-- a device of the name is told, or held
abbrev pub is_known : Option (Word → Option Seen) → (Word → Option Held) → Word → Bool
is_known free held name = is_told free name || is_some (held name)

-- nobody holds the device of the name, and it is told where the shelf tells its devices
abbrev pub is_free : Option (Word → Option Seen) → (Word → Option Held) → Word → Bool
is_free None held name = not (is_some (held name))
is_free (Some devices) held name = is_some (devices name) && not (is_some (held name))
