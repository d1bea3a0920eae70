-- Devices that are taken or given back: nothing is seen otherwise.
use Rattle.std.specs.Prelude.{◌≡◌, ◌≤◌, IsSome}
use Rattle.vx_base.specs.Named.{Word}
use Rattle.vx_house.specs.Scene.{Scene, seen_at, faults_at}

-- A shelf that tells its devices goes on to, and they are seen as before. No count falls, and where they are told each stays.
pub record Unmoved (old new : Scene) : Type 0 where
  pub told : IsSome old.shelf.free → IsSome new.shelf.free
  pub seen : IsSome old.shelf.free → (name : Word) → seen_at new name ≡ seen_at old name
  pub same : IsSome old.shelf.free → (name : Word) → faults_at new name ≡ faults_at old name
  pub faults : (name : Word) → faults_at old name ≤ faults_at new name
  pub shelf : new.shelf.faults ≡ old.shelf.faults
