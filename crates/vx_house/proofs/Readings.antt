-- Devices that are held, or were taken and given back, and were read at most.
use Rattle.std.proofs.Common.{◌≡◌, ◌∙◌, Bool, List, [], ◌∷◌, ◌++◌, Option, Some, None, refl, sym, subst}
use Rattle.vx_base.specs.Named.{Word}
use Rattle.vx_piece.specs.Seen.{Seen, Keeps, IsRead}
use Rattle.vx_copies.specs.Lists.{Each}
use Rattle.vx_copies.proofs.StepLaws.{keeps_refl, keeps_trans}
use Rattle.vx_moments.specs.World.{Device}
use Rattle.vx_house.specs.Holders.{Holder, held_as}
use Rattle.vx_house.specs.Reading.{Stays, OnlyRead}
use Rattle.vx_house.specs.Scene.{Shelved, Scene, seen_in, seen_at, count_in}
use Rattle.vx_house.specs.Unmoved.{Unmoved}
use Rattle.vx_house.specs.View.{IsDeviceOf}
use Rattle.vx_house.proofs.Holders.{IsLater}
use Rattle.vx_house.proofs.Lists.{each_append}
use Rattle.vx_house.proofs.Moments.{PlaceGoesOn, faults_moved, faults_refl, faults_trans}
use Rattle.vx_house.proofs.Scenes.{scene_of}
use Rattle.vx_house.proofs.Steps.{IsStep, HeldStep, held_steps, steps_self, steps_later, steps_faults}

-- a device that was read at most
pub record IsReadOn (name : Word) (old new : Seen) : Type 0 where
  pub kept : Keeps old new
  pub same : IsRead old new

pub read_on : (name : Word) (s t : Seen) → IsReadOn name s t → Keeps s t
read_on name s t read = read.kept

pub read_told : (name : Word) (s t : Seen) → IsReadOn name s t → t.told ≡ s.told
read_told name s t read = read.same.told

pub read_self : (name : Word) (s : Seen) → IsReadOn name s s
read_self name s = record { kept = keeps_refl s; same = record { told = refl; writes = refl } }

-- what is seen of a place
pub stays_refl : (o : Option Seen) → Stays o o
stays_refl None = tt
stays_refl (Some seen) = (keeps_refl seen, (read_self [] seen).same)

pub stays_trans : (a b c : Option Seen) → Stays a b → Stays b c → Stays a c
stays_trans None None None p q = tt
stays_trans None None (Some c) p q = absurd q
stays_trans None (Some b) c p q = absurd p
stays_trans (Some a) None c p q = absurd p
stays_trans (Some a) (Some b) None p q = absurd q
stays_trans (Some a) (Some b) (Some c) p q = (keeps_trans a b c p.0 q.0, record { told = q.1.told ∙ p.1.told; writes = q.1.writes ∙ p.1.writes })

pub stays_same : (a b : Option Seen) → b ≡ a → Stays a b
stays_same a b e = subst (Stays a) (sym e) (stays_refl a)

pub stays_device : (lent : Bool) (a b : Option Seen) (d : Option Device) → Stays a b → IsDeviceOf lent a d → IsDeviceOf lent b d
stays_device lent None None d stays of = of
stays_device lent None (Some b) d stays of = absurd stays
stays_device lent (Some a) None d stays of = absurd stays
stays_device lent (Some a) (Some b) None stays of = absurd of
stays_device lent (Some a) (Some b) (Some d) stays of = (of.0 ∙ sym stays.0.sectors, λ own. stays.1.told ∙ of.1 own)

pub stays_place : (a b : Option Seen) → Stays a b → PlaceGoesOn a b
stays_place None b stays = tt
stays_place (Some a) None stays = absurd stays
stays_place (Some a) (Some b) stays = stays.0.cut

pub stays_writes : (a b : Option Seen) → Stays a b → count_in (λ (seen : Seen). seen.writes) 0 b ≡ count_in (λ (seen : Seen). seen.writes) 0 a
stays_writes None None stays = refl
stays_writes None (Some b) stays = absurd stays
stays_writes (Some a) None stays = absurd stays
stays_writes (Some a) (Some b) stays = stays.1.writes

-- what is seen of all places
pub only_refl : (s : Scene) → OnlyRead s s
only_refl s = record { told = λ t. t; seen = λ t name. stays_refl (seen_at s name); faults = faults_refl s }

pub only_trans : (a b c : Scene) → OnlyRead a b → OnlyRead b c → OnlyRead a c
only_trans a b c p q = record {
  told = λ t. q.told (p.told t);
  seen = λ t name. stays_trans (seen_at a name) (seen_at b name) (seen_at c name) (p.seen t name) (q.seen (p.told t) name);
  faults = faults_trans a b c p.faults q.faults;
}

pub only_unmoved : (s t : Scene) → Unmoved s t → OnlyRead s t
only_unmoved s t moved = record {
  told = moved.told;
  seen = λ told name. stays_same (seen_at s name) (seen_at t name) (moved.seen told name);
  faults = faults_moved s t moved;
}

-- devices that are held were read
pub each_later : (hs ns : List Holder) → Each (IsStep IsReadOn) hs ns → Each IsLater hs ns
each_later hs ns each = steps_later IsReadOn read_on hs ns each

pub each_behind : (xs hs ns : List Holder) → Each (IsStep IsReadOn) hs ns → Each (IsStep IsReadOn) (xs ++ hs) (xs ++ ns)
each_behind xs hs ns each = each_append (IsStep IsReadOn) xs xs hs ns (steps_self IsReadOn read_self xs) each

pub each_one : (xs : List Holder) (h k : Holder) (ys : List Holder) → IsStep IsReadOn h k → Each (IsStep IsReadOn) (xs ++ h ∷ ys) (xs ++ k ∷ ys)
each_one xs h k ys on = each_behind xs (h ∷ ys) (k ∷ ys) (on, steps_self IsReadOn read_self ys)

seen_stays : (name : Word) (a b : Option Seen) (free : Option (Word → Option Seen)) → HeldStep (IsReadOn name) a b → Stays (seen_in a free name) (seen_in b free name)
seen_stays name None None free step = stays_refl (seen_in None free name)
seen_stays name None (Some b) free step = absurd step
seen_stays name (Some a) None free step = absurd step
seen_stays name (Some a) (Some b) free step = (step.kept, step.same)

pub only_each : (shelf : Shelved) (hs ns : List Holder) → Each (IsStep IsReadOn) hs ns → OnlyRead (scene_of shelf hs) (scene_of shelf ns)
only_each shelf hs ns each = record {
  told = λ t. t;
  seen = λ t name. seen_stays name (held_as hs name) (held_as ns name) shelf.free (held_steps IsReadOn hs ns name each);
  faults = steps_faults IsReadOn read_on hs ns each shelf;
}
