-- What holds of each piece holds of it once a switch has taken its power.
use Rattle.std.specs.Prelude.{◌≡◌, ℕ, is_some, Option, Some, None, IfSome}
use Rattle.std.specs.Option.{option_map}
use Rattle.std.proofs.Common.{arith, refl, sym, ap, ◌∙◌}
use Rattle.vx_base.specs.Named.{Word}
use Rattle.vx_piece.specs.Seen.{Seen, EndsThere, AreCounts}
use Rattle.vx_power.specs.declared.views.View.{View}
use Rattle.vx_power.specs.declared.board.Acted.{Acted}
use Rattle.vx_power.specs.declared.board.Wire.{Wire}
use Rattle.vx_shelf.specs.Shelf.{AreCounted}
use Rattle.vx_power.specs.Fused.{powerless, powered_by, wired}
use Rattle.vx_power.specs.Shown.{returned, shown_free}

-- nothing is told behind its last sector, whether the fuse has acted or not
powered_ends : (acted : Option Acted) (view : View) (seen : Seen) → EndsThere seen → EndsThere (powered_by acted view seen)
powered_ends None view seen ends = ends
powered_ends (Some acted) view seen ends = ends

-- nothing is told behind its last sector
pub wired_ends : (wire : Option Wire) (seen : Seen) → EndsThere seen → EndsThere (wired wire seen)
wired_ends None seen ends = ends
wired_ends (Some wire) seen ends = powered_ends wire.acted wire.seat.me.0 seen ends

-- the counts of a piece without power are numbers of 64 bits
powerless_counts : (view : View) (seen : Seen) → AreCounts seen → AreCounts (powerless view seen)
powerless_counts view seen are = record { faults = are.faults; writes = omega arith; reads = omega arith }

-- so they are whether the fuse has acted or not
powered_counts : (acted : Option Acted) (view : View) (seen : Seen) → AreCounts seen → AreCounts (powered_by acted view seen)
powered_counts None view seen are = are
powered_counts (Some acted) view seen are = powerless_counts view seen are

-- its counts are numbers of 64 bits
pub wired_counts : (wire : Option Wire) (seen : Seen) → AreCounts seen → AreCounts (wired wire seen)
wired_counts None seen are = are
wired_counts (Some wire) seen are = powered_counts wire.acted wire.seat.me.0 seen are

-- it tells what it told, whether the fuse has acted or not
powered_tells : (acted : Option Acted) (view : View) (seen : Seen) → (powered_by acted view seen).told ≡ seen.told
powered_tells None view seen = refl
powered_tells (Some acted) view seen = refl

-- it tells what it told
pub wired_tells : (wire : Option Wire) (seen : Seen) → (wired wire seen).told ≡ seen.told
wired_tells None seen = refl
wired_tells (Some wire) seen = powered_tells wire.acted wire.seat.me.0 seen

-- two pieces tell what they hold, or none does
pub wires_tell : (v w : Option Wire) (x y : Seen) → is_some x.told ≡ is_some y.told → is_some (wired v x).told ≡ is_some (wired w y).told
wires_tell v w x y same = ap is_some (wired_tells v x) ∙ same ∙ sym (ap is_some (wired_tells w y))

-- the faults of a device that came back are those that it shows
returned_counted : (wire : Option Wire) (device : Option Seen) (count : ℕ) → IfSome device (λ seen. seen.faults ≡ count) → IfSome (option_map (returned wire) device) (λ seen. seen.faults ≡ count)
returned_counted wire None count is = tt
returned_counted None (Some seen) count is = is
returned_counted (Some wire) (Some seen) count is = is

-- a device that nobody holds has the count of its name
pub shown_counted : (gone : Word → Option Wire) (free : Option (Word → Option Seen)) (counted : Word → ℕ) → AreCounted free counted → AreCounted (shown_free gone free) counted
shown_counted gone None counted are = tt
shown_counted gone (Some devices) counted are = λ name. returned_counted (gone name) (devices name) (counted name) (are name)
