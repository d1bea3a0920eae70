-- What is seen of one device goes on, as the pieces of a volume are called, and the world's device with it.
use Rattle.std.proofs.Common.{◌≡◌, ◌∙◌, ℕ, Bool, true, false, Option, Some, None, refl, sym, ap}
use Rattle.std.specs.Prelude.{is_some}
use Rattle.vx_base.specs.Blocks.{Contents}
use Rattle.vx_base.specs.Named.{Word}
use Rattle.vx_piece.specs.Seen.{Seen, Keeps}
use Rattle.vx_fronts.specs.Rests.{told_at}
use Rattle.vx_moments.specs.World.{Device, Group}
use Rattle.vx_moments.specs.Group.{DeviceStaysBut, IsSectorOf}
use Rattle.vx_moments.specs.Owners.{IsDeviceOfVolume}
use Rattle.vx_house.specs.Scene.{count_in}
use Rattle.vx_house.specs.View.{IsDeviceOf}
use Rattle.vx_house.proofs.Steps.{HeldStep}
use Rattle.vx_house_calls.proofs.Counts.{SameCounts, keeps_self}

-- The device of the name is where it was: it holds what it did in each sector that is not the volume's, and where it is none of the
-- volume's it was not called.
pub record SeenStep (g : Group) (vol : Word) (name : Word) (old new : Seen) : Type 0 where
  pub keeps : Keeps old new
  pub tells : is_some new.told ≡ is_some old.told
  pub told : (k : ℕ) → (IsSectorOf g vol name k → ⊥) → told_at new.told k ≡ told_at old.told k
  pub still : (IsDeviceOfVolume g vol name → ⊥) → SameCounts old new

pub step_self : (g : Group) (vol name : Word) (s : Seen) → SeenStep g vol name s s
step_self g vol name s = record { keeps = keeps_self s; tells = refl; told = λ k other. refl; still = λ away. record { faults = refl; reads = refl; writes = refl; cut = refl } }

pub place_self : (g : Group) (vol name : Word) (o : Option Seen) → HeldStep (SeenStep g vol name) o o
place_self g vol name None = tt
place_self g vol name (Some s) = step_self g vol name s

-- the world's device, by what is told of it now; one that a bare volume has stays
abbrev pub told_device : ℕ → Option Contents → Option Device → Option Device
told_device sectors None d = d
told_device sectors (Some contents) d = Some (record { sectors = sectors; contents = contents })

abbrev pub device_seen : Bool → Option Seen → Option Device → Option Device
device_seen true o d = d
device_seen false None d = d
device_seen false (Some s) d = told_device s.sectors s.told d

stays_self : (Q : ℕ → Type 0) (o : Option Device) → DeviceStaysBut Q o o
stays_self Q None = tt
stays_self Q (Some d) = (refl, λ k other. refl)

not_none : (o : Option Contents) (b : Bool) → is_some o ≡ b → b ≡ true → o ≡ None → ⊥
not_none o b e t none = cc

module _ (g : Group) (vol name : Word) where
  free_device : (s t : Seen) (d : Device) → SeenStep g vol name s t → s.told ≡ Some d.contents → (o : Option Contents) → t.told ≡ o →
      IsDeviceOf false (Some t) (told_device t.sectors o (Some d))
  free_device s t d step was (Some contents) is = (refl, λ free. is)
  free_device s t d step was None is = absurd (not_none t.told (is_some s.told) step.tells (ap is_some was) is)

  -- it is seen so
  pub device_now : (lent : Bool) (a b : Option Seen) (d : Option Device) → HeldStep (SeenStep g vol name) a b → IsDeviceOf lent a d →
      IsDeviceOf lent b (device_seen lent b d)
  device_now lent None (Some t) d step of = absurd step
  device_now lent (Some s) None d step of = absurd step
  device_now lent None None (Some d) step of = absurd of
  device_now true None None None step of = tt
  device_now false None None None step of = tt
  device_now lent (Some s) (Some t) None step of = absurd of
  device_now true (Some s) (Some t) (Some d) step of = (of.0 ∙ sym step.keeps.sectors, λ free. cc)
  device_now false (Some s) (Some t) (Some d) step of = free_device s t d step (of.1 refl) t.told refl

  free_stays : (s t : Seen) (d : Device) → SeenStep g vol name s t → d.sectors ≡ s.sectors → s.told ≡ Some d.contents → (o : Option Contents) → t.told ≡ o →
      DeviceStaysBut (IsSectorOf g vol name) (Some d) (told_device t.sectors o (Some d))
  free_stays s t d step size was None is = absurd (not_none t.told (is_some s.told) step.tells (ap is_some was) is)
  free_stays s t d step size was (Some contents) is = (
    step.keeps.sectors ∙ sym size,
    λ k other. ap (λ o. told_at o k) (sym is) ∙ step.told k other ∙ ap (λ o. told_at o k) was,
  )

  -- it has changed in the sectors of the volume alone
  pub device_stays : (lent : Bool) (a b : Option Seen) (d : Option Device) → HeldStep (SeenStep g vol name) a b → IsDeviceOf lent a d →
      DeviceStaysBut (IsSectorOf g vol name) d (device_seen lent b d)
  device_stays true a b d step of = stays_self (IsSectorOf g vol name) d
  device_stays false None None d step of = stays_self (IsSectorOf g vol name) d
  device_stays false None (Some t) d step of = absurd step
  device_stays false (Some s) None d step of = absurd step
  device_stays false (Some s) (Some t) None step of = absurd of
  device_stays false (Some s) (Some t) (Some d) step of = free_stays s t d step of.0 (of.1 refl) t.told refl

  -- a count of it stays where it is none of the volume's
  pub count_stays : {X : Type 0} (count : Seen → X) (none : X) → ((s t : Seen) → SameCounts s t → count t ≡ count s) → (IsDeviceOfVolume g vol name → ⊥) →
      (a b : Option Seen) → HeldStep (SeenStep g vol name) a b → count_in count none b ≡ count_in count none a
  count_stays count none same away None None step = refl
  count_stays count none same away None (Some t) step = absurd step
  count_stays count none same away (Some s) None step = absurd step
  count_stays count none same away (Some s) (Some t) step = same s t (step.still away)
