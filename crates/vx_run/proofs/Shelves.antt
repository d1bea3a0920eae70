-- A shelf that tells all its devices is a moment of the world.
use Rattle.std.proofs.Common.{◌≡◌, ◌∙◌, false, [], Option, Some, None, refl, sym, ap, subst}
use Rattle.std.specs.Prelude.{IsSome}
use Rattle.vx_base.specs.Blocks.{Contents}
use Rattle.vx_piece.specs.Seen.{Seen}
use Rattle.vx_moments.specs.World.{World, Device}
use Rattle.vx_moments.specs.Moment.{Moment}
use Rattle.vx_house.specs.Scene.{Shelved, seen_in, counts_of}
use Rattle.vx_house.specs.View.{IsDeviceOf}
use Rattle.vx_house.proofs.Moments.{counts_own}
use Rattle.vx_run.specs.Ends.{bare, IsShelfOf}
use Rattle.vx_run.specs.Told.{TellsAll}

-- what a device holds that tells it
abbrev contents_of : Option Contents → Contents
contents_of None k = []
contents_of (Some contents) k = contents k

abbrev device_of : Option Seen → Option Device
device_of None = None
device_of (Some seen) = Some (record { sectors = seen.sectors; contents = contents_of seen.told })

is_device : (o : Option Seen) → ((seen : Seen) → o ≡ Some seen → (contents : Contents) × (seen.told ≡ Some contents)) → IsDeviceOf false o (device_of o)
is_device None each = tt
is_device (Some seen) each =
    let (contents, told) = each seen refl in
    (refl, λ free. told ∙ ap Some (sym (ap contents_of told)))

pub told_shelf : (s : Shelved) → TellsAll s → (m : Moment) × IsShelfOf s m
told_shelf s told =
    let w : World = record { devices = λ name. device_of (told.devices name); volumes = λ vol. None; group = None } in (
      record { world = w; counts = counts_of (bare s) },
      record {
        told = subst (λ f. IsSome f) (sym told.free) refl;
        devices_are = λ name. subst (λ f. IsDeviceOf false (seen_in None f name) (w.devices name)) (sym told.free) (is_device (told.devices name) (told.each name));
        no_volumes = λ vol. refl;
        no_group = refl;
        counts = counts_own (bare s);
      },
    )
