-- Moments that a house is, as devices are taken, given back and called.
use Rattle.std.proofs.Common.{◌≡◌, ◌∙◌, false, Option, Some, None, refl, sym, ap, subst, arith}
use Rattle.std.specs.Prelude.{IsSome, IsTrue}
use Rattle.vx_pages.specs.declared.local_piece.LocalPiece.{Ghosts}
use Rattle.vx_base.specs.Named.{Word}
use Rattle.vx_piece.specs.Seen.{Seen}
use Rattle.vx_moments.specs.World.{World}
use Rattle.vx_moments.specs.Moment.{Moment, Counts, AreLater}
use Rattle.vx_house.specs.Holders.{volume_at}
use Rattle.vx_house.specs.Scene.{Scene, seen_at, count_in, AreCountsOf, counts_of, FaultsGoOn}
use Rattle.vx_house.specs.Unmoved.{Unmoved}
use Rattle.vx_house.specs.View.{is_lent, IsDeviceOf, IsAtVolume, group_of, IsMomentIn}
use Rattle.vx_house.specs.Runs.{AreRuns}
use Rattle.vx_moments.specs.Leaving.{lone}
use Rattle.vx_house.specs.declared.house.House.{House}

pub later_refl : (c : Counts) → AreLater c c
later_refl c = record { faults = λ name. omega arith; cut = λ name t. t; shelf = omega arith }

pub later_trans : (a b c : Counts) → AreLater a b → AreLater b c → AreLater a c
later_trans a b c p q = record {
  faults = λ name. let x = p.faults name in let y = q.faults name in omega (arith, x, y);
  cut = λ name t. q.cut name (p.cut name t);
  shelf = let x = p.shelf in let y = q.shelf in omega (arith, x, y);
}

pub counts_own : (s : Scene) → AreCountsOf s (counts_of s)
counts_own s = record { faults = λ name. refl; reads = λ name. refl; writes = λ name. refl; cut = λ name. refl; shelf = refl }

pub counts_moved : (s t : Scene) (c : Counts) → Unmoved s t → IsSome s.shelf.free → AreCountsOf s c → AreCountsOf t c
counts_moved s t c moved told are = record {
  faults = λ name. are.faults name ∙ sym (moved.same told name);
  reads = λ name. are.reads name ∙ ap (count_in (λ (seen : Seen). seen.reads) 0) (sym (moved.seen told name));
  writes = λ name. are.writes name ∙ ap (count_in (λ (seen : Seen). seen.writes) 0) (sym (moved.seen told name));
  cut = λ name. are.cut name ∙ ap (count_in (λ (seen : Seen). seen.cut) false) (sym (moved.seen told name));
  shelf = are.shelf ∙ sym moved.shelf;
}

pub faults_moved : (s t : Scene) → Unmoved s t → FaultsGoOn s t
faults_moved s t moved = record { devices = moved.faults; shelf = let e = moved.shelf in omega (arith, e) }

pub faults_refl : (s : Scene) → FaultsGoOn s s
faults_refl s = record { devices = λ name. omega arith; shelf = omega arith }

pub faults_trans : (a b c : Scene) → FaultsGoOn a b → FaultsGoOn b c → FaultsGoOn a c
faults_trans a b c p q = record {
  devices = λ name. let x = p.devices name in let y = q.devices name in omega (arith, x, y);
  shelf = let x = p.shelf in let y = q.shelf in omega (arith, x, y);
}

-- the same moment, where nothing is seen otherwise, and the volumes and the group are the same
pub moment_moved : {P : Type 0} {ghosts : Ghosts P} (see : P → Seen) (s t : Scene) (h k : House P ghosts) (m : Moment) → Unmoved s t → k.volumes ≡ h.volumes → k.group ≡ h.group → IsMomentIn see s h m → IsMomentIn see t k m
moment_moved {P = P} see s t h k m moved volumes group is = record {
  told = moved.told is.told;
  devices_are = λ name. subst (λ b. IsDeviceOf b (seen_at t name) (m.world.devices name)) (ap (λ v. is_lent (record { volumes = v; group = h.group; hand = h.hand }) name) (sym volumes))
      (subst (λ o. IsDeviceOf (is_lent h name) o (m.world.devices name)) (sym (moved.seen is.told name)) (is.devices_are name));
  volumes_are = λ vol. subst (λ o. IsAtVolume see o (lone (m.world.volumes vol))) (ap (λ v. volume_at (record { volumes = v; group = h.group; hand = h.hand }) vol) (sym volumes)) (is.volumes_are vol);
  runs_are = subst (λ o. AreRuns see o m.world.group m.world.volumes) (sym group) is.runs_are;
  group_is = is.group_is ∙ ap (group_of see) (sym group);
  counts = counts_moved s t m.counts moved is.told is.counts;
}

-- the power of a device does not come back
abbrev pub SeenGoesOn : Seen → Seen → Type 0
SeenGoesOn old new = IsTrue old.cut → IsTrue new.cut

-- a device does not go away
abbrev pub PlaceGoesOn : Option Seen → Option Seen → Type 0
PlaceGoesOn None new = Unit {0}
PlaceGoesOn (Some old) None = ⊥
PlaceGoesOn (Some old) (Some new) = SeenGoesOn old new

pub place_refl : (o : Option Seen) → PlaceGoesOn o o
place_refl None = tt
place_refl (Some s) = λ t. t

cut_on : (a b : Option Seen) → PlaceGoesOn a b → IsTrue (count_in (λ (seen : Seen). seen.cut) false a) → IsTrue (count_in (λ (seen : Seen). seen.cut) false b)
cut_on None b on t = cc
cut_on (Some a) None on t = absurd on
cut_on (Some a) (Some b) on t = on t

-- the counts are later where each device goes on
pub counts_later : (s t : Scene) (c : Counts) → AreCountsOf s c → ((name : Word) → PlaceGoesOn (seen_at s name) (seen_at t name)) → FaultsGoOn s t → AreLater c (counts_of t)
counts_later s t c are on faults = record {
  faults = λ name. let e = are.faults name in let x = faults.devices name in omega (arith, e, x);
  cut = λ name is. cut_on (seen_at s name) (seen_at t name) (on name) (subst IsTrue (are.cut name) is);
  shelf = let e = are.shelf in let x = faults.shelf in omega (arith, e, x);
}

-- the moment with this world, and the counts that are seen
abbrev pub moment_at : World → Scene → Moment
moment_at w s = record { world = w; counts = counts_of s }
