-- Calls on one volume of the group, one after the other: its sectors alone have changed, and a device that failed has failed.
use Rattle.std.proofs.Common.{◌∙◌, ◌≤◌, inl, inr, ℕ, Option, Some, None, ap, arith}
use Rattle.vx_base.specs.Counts.{Rose}
use Rattle.vx_base.specs.Named.{Word}
use Rattle.vx_moments.specs.Group.{DeviceStaysBut}
use Rattle.vx_moments.specs.Moment.{AreLater, Counts, Moment}
use Rattle.vx_moments.specs.Moment.{HasFailed as FailsAt}
use Rattle.vx_moments.specs.World.{Device, Group, World}
use Rattle.vx_stages.specs.Touching.{FailsOn, IsTouched}
use Rattle.vx_house.specs.Scene.{FaultsGoOn, HasFailed, Scene}

-- a count that rises later has risen
rose_later : (x y z : ℕ) → x ≤ y → Rose y z → Rose x z
rose_later x y z le rose = omega (arith, le, rose)

device_then : (Q : ℕ → Type 0) (a b c : Option Device) → DeviceStaysBut Q a b → DeviceStaysBut Q b c → DeviceStaysBut Q a c
device_then Q None None None x y = tt
device_then Q None None (Some e) x y = absurd y
device_then Q None (Some d) c x y = absurd x
device_then Q (Some d) None c x y = absurd x
device_then Q (Some d) (Some e) None x y = absurd y
device_then Q (Some d) (Some e) (Some f) x y = (y.0 ∙ x.0, λ k other. y.1 k other ∙ x.1 k other)

pub touched_then : (g : Group) (vol : Word) (a b c : Moment) → IsTouched g vol a b → IsTouched g vol b c → IsTouched g vol a c
touched_then g vol a b c x y = record {
  world = y.world ∙ ap (λ (w : World). (let n : World = record w { devices = c.world.devices } in n)) x.world;
  changes = λ name. device_then _ (a.world.devices name) (b.world.devices name) (c.world.devices name) (x.changes name) (y.changes name);
  calls = record {
    reads = λ device away. y.calls.reads device away ∙ x.calls.reads device away;
    writes = λ device away. y.calls.writes device away ∙ x.calls.writes device away;
    faults = λ device away. y.calls.faults device away ∙ x.calls.faults device away;
    shelf = y.calls.shelf ∙ x.calls.shelf;
  };
}

-- what has failed since has failed
pub failed_since : (a b c : Counts) → AreLater a b → (device : Word) → FailsAt b c device → FailsAt a c device
failed_since a b c later device up = rose_later (a.faults device) (b.faults device) (c.faults device) (later.faults device) up

pub fails_since : (g : Group) (vol : Word) (a b c : Counts) → AreLater a b → (told device : Word) → FailsOn g vol b c told device → FailsOn g vol a c told device
fails_since g vol a b c later told device on = record {
  member = on.member;
  there = on.there;
  device_is = on.device_is;
  disk_is = on.disk_is;
  own = on.own;
  failed = failed_since a b c later device on.failed;
}

pub blamed_since : (a b c : Scene) → FaultsGoOn a b → (device : Word) → HasFailed device b c → HasFailed device a c
blamed_since a b c on device (inl up) = inl (rose_later _ _ _ (on.devices device) up)
blamed_since a b c on device (inr up) = inr (rose_later _ _ _ on.shelf up)
