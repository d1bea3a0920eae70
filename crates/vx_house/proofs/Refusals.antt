-- What is told of a device that a shelf did not hand over.
use Rattle.std.proofs.Common.{◌≡◌, ◌≤◌, List, Option, Some, None, refl, sym, ap, subst, arith}
use Rattle.std.specs.Prelude.{IsSome, IfSome, IsErrOf, Result, Err, ◌↔◌}
use Rattle.vx_base.specs.Named.{Word, SameUnder}
use Rattle.vx_piece.specs.Seen.{Seen}
use Rattle.vx_shelf.specs.Shelf.{Held, IsNowhere, SameCounts}
use Rattle.vx_shelf.specs.declared.shelf.ShelfFault.{ShelfFault}
use Rattle.vx_shelf.specs.declared.shelf.ShelfFault.TheVariants.{NoDisk}
use Rattle.vx_shelf.specs.declared.shelf.ShelfFault.TheVariants.{Held as ShelfHeld}
use Rattle.vx_house.specs.Holders.{Holder, held_as, AreHeld}
use Rattle.vx_house.specs.Reading.{OnlyRead}
use Rattle.vx_house.specs.Scene.{Shelved, seen_in, faults_in}
use Rattle.vx_house.proofs.Holders.{same_held}
use Rattle.vx_house.proofs.Readings.{stays_same}
use Rattle.vx_house.proofs.Scenes.{scene_of}

-- what is told of a device that nobody took is told by the shelf
pub told_free : (o : Option Seen) (free : Option (Word → Option Seen)) (name : Word) (seen : Seen) → o ≡ None → seen_in o free name ≡ Some seen → IsSome free
told_free None None name seen none is = cc
told_free None (Some d) name seen none is = refl
told_free (Some s) free name seen none is = cc

pub not_told : (o : Option Seen) (free : Option (Word → Option Seen)) (name : Word) (seen : Seen) → IfSome free (λ d. d name ≡ None) → o ≡ None → seen_in o free name ≡ Some seen → ⊥
not_told None None name seen gone none is = cc
not_told None (Some d) name seen gone none is = cc
not_told (Some s) free name seen gone none is = cc

module _ (old new : Shelved) (same : SameUnder old.held new.held) (stays : new.free ≡ old.free) (counts : SameCounts old.counted new.counted) (later : old.faults ≤ new.faults) where
  -- nothing was taken
  pub only_asked : (hs : List Holder) → OnlyRead (scene_of old hs) (scene_of new hs)
  only_asked hs = record {
    told = λ told. subst IsSome (sym stays) told;
    seen = λ told name. stays_same (seen_in (held_as hs name) old.free name) (seen_in (held_as hs name) new.free name) (ap (λ f. seen_in (held_as hs name) f name) stays);
    faults = record { devices = λ name. let e = ap (faults_in (held_as hs name)) (counts name) in omega (arith, e); shelf = later };
  }

  pub held_asked : (hs : List Holder) → AreHeld old.held hs → AreHeld new.held hs
  held_asked hs are = same_held old.held new.held hs same are

pub nowhere_gone : (name : Word) (free : Option (Word → Option Seen)) (held : Word → Option Held) {T : Type 0} (r : Result T ShelfFault) → r ≡ Err NoDisk → IfSome free (λ d. IsErrOf r NoDisk ↔ IsNowhere name d held) → IfSome free (λ d. d name ≡ None)
nowhere_gone name None held r e is = tt
nowhere_gone name (Some d) held r e is = (is.0 e).not_free

pub held_gone : (name : Word) (free : Option (Word → Option Seen)) {T : Type 0} (r : Result T ShelfFault) → r ≡ Err ShelfHeld → IfSome free (λ d. IsErrOf r ShelfHeld → d name ≡ None) → IfSome free (λ d. d name ≡ None)
held_gone name None r e is = tt
held_gone name (Some d) r e is = is e
