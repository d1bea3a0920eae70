-- The only device in hand was called.
use Rattle.std.proofs.Common.{◌≡◌, ◌∙◌, Bool, true, false, List, [], ◌∷◌, map, get_or, Some, refl, sym, ap, subst}
use Rattle.std.proofs.Math.ListN.{set}
use Rattle.std.specs.Str.{bytes_eq}
use Rattle.vx_pages.specs.declared.local_piece.LocalPiece.{Ghosts}
use Rattle.vx_base.specs.Named.{Word, put}
use Rattle.vx_base.proofs.NamedLemmas.{bytes_eq_self, put_same, put_other}
use Rattle.vx_piece.specs.Seen.{Seen}
use Rattle.vx_piece.specs.Seen.{Keeps as StaysDevice}
use Rattle.vx_copies.specs.Lists.{Each, AllOf}
use Rattle.vx_moments.specs.World.{World, Device}
use Rattle.vx_moments.specs.Moment.{Moment, AreLater}
use Rattle.vx_house.specs.Holders.{Holder, holders, hand_holder, held_as, AreHeld}
use Rattle.vx_house.specs.Scene.{Shelved, seen_in, seen_at, faults_in, faults_at, FaultsGoOn, counts_of}
use Rattle.vx_house.specs.View.{at, scene, is_lent, IsDeviceOf, IsMoment, Keeps, KeepsHouse}
use Rattle.vx_house.specs.declared.house.House.{House}
use Rattle.vx_house.specs.declared.house.Taken.{Taken}
use Rattle.vx_house.proofs.Moments.{moment_at, counts_own}
use Rattle.vx_house.proofs.Steps.{each_name, IsStep, held_steps, place_by, faults_by}
use Rattle.vx_copies.proofs.StepLaws.{keeps_refl}
use Rattle.vx_house.proofs.Hands.{IsInWorld, volumes_held, group_held, hand_held, hand_in_world, hand_steps, hand_keeps, hand_faults, hand_later, after}

-- the only one of a list of that name
pub record IsOnly {P : Type 0} (ts : List (Taken P)) (name : Word) (t : Taken P) : Type 0 where
  pub list : ts ≡ t ∷ []
  pub device : t.device ≡ name

pub only_one : {P : Type 0} (ts : List (Taken P)) (name : Word) (d : Taken P) → map (λ t. t.device) ts ≡ name ∷ [] → IsOnly ts name (get_or ts 0 d)
only_one [] name d e = cc
only_one (t ∷ []) name d e = record { list = refl; device = let same : t.device ≡ name = cc in same }
only_one (t ∷ t2 ∷ ts) name d e = cc

pub only_set : {P : Type 0} (ts : List (Taken P)) (t u : Taken P) → ts ≡ t ∷ [] → set ts 0 u ≡ u ∷ []
only_set ts t u e = ap (λ xs. set xs 0 u) e

-- any but the one of the name are as they were
pub record IsElse (one name : Word) (old new : Seen) : Type 0 where
  pub kept : StaysDevice old new
  pub other : bytes_eq one name ≡ false → new ≡ old

else_on : (one name : Word) (s t : Seen) → IsElse one name s t → StaysDevice s t
else_on one name s t e = e.kept

else_self : (one : Word) (hs : List Holder) → AllOf (λ o. IsElse one o.name o.seen o.seen) hs
else_self one [] = tt
else_self one (h ∷ hs) = (record { kept = keeps_refl h.seen; other = λ e. refl }, else_self one hs)

not_both : (b : Bool) → b ≡ true → b ≡ false → ⊥
not_both b t f = cc

-- the only device in hand was called, and a house that keeps holds all that was taken
pub record IsOneCalled {P : Type 0} {ghosts : Ghosts P} (see : P → Seen) (h k : House P ghosts) (t u : Taken P) (shelf : Shelved) : Type 0 where
  pub was : h.hand.items ≡ t ∷ []
  pub is : k.hand.items ≡ u ∷ []
  pub device : u.device ≡ t.device
  pub kept : StaysDevice (see t.piece) (see u.piece)
  pub are : AreHeld shelf.held (holders see h)
  pub keeps : KeepsHouse see h

module _ {P : Type 0} {ghosts : Ghosts P} {see : P → Seen} {h k : House P ghosts} {t u : Taken P} {shelf : Shelved} (called : IsOneCalled see h k t u shelf) where
  one_step : Each (IsStep (IsElse t.device)) (map (hand_holder see) h.hand.items) (map (hand_holder see) k.hand.items)
  one_step =
      subst (λ ts. Each (IsStep (IsElse t.device)) (map (hand_holder see) ts) (map (hand_holder see) k.hand.items)) (sym called.was)
      (subst (λ us. Each (IsStep (IsElse t.device)) (hand_holder see t ∷ []) (map (hand_holder see) us)) (sym called.is)
      (record { name = called.device; goes = record { kept = called.kept; other = λ e. absurd (not_both (bytes_eq t.device t.device) (bytes_eq_self t.device) e) } }, tt))

  all_steps : Each (IsStep (IsElse t.device)) (holders see h) (holders see (after h k))
  all_steps = hand_steps see h k (IsElse t.device) (else_on t.device) (else_self t.device (volumes_held see h)) (else_self t.device (group_held see h)) one_step

  pub one_keeps : Keeps see (at shelf (after h k))
  one_keeps = hand_keeps see h k (IsElse t.device) (else_on t.device) (else_self t.device (volumes_held see h)) (else_self t.device (group_held see h)) one_step shelf called.are called.keeps

  pub one_faults : FaultsGoOn (scene see (at shelf h)) (scene see (at shelf (after h k)))
  one_faults = hand_faults see h k (IsElse t.device) (else_on t.device) (else_self t.device (volumes_held see h)) (else_self t.device (group_held see h)) one_step shelf

  pub one_later : (m : Moment) → IsMoment see (at shelf h) m → AreLater m.counts (counts_of (scene see (at shelf (after h k))))
  one_later m moment = hand_later see h k (IsElse t.device) (else_on t.device) (else_self t.device (volumes_held see h)) (else_self t.device (group_held see h)) one_step shelf m moment

  -- the device is held under its name
  pub held_before : held_as (holders see h) t.device ≡ Some (see t.piece)
  held_before = (subst (AllOf (λ x. held_as (holders see h) x.device ≡ Some (see x.piece))) called.was (hand_held see h called.are.apart)).0

  pub held_behind : held_as (holders see (after h k)) u.device ≡ Some (see u.piece)
  held_behind = (subst (AllOf (λ x. held_as (holders see (after h k)) x.device ≡ Some (see x.piece))) called.is (hand_held see (after h k) one_keeps.devices.apart)).0

  pub held_now : held_as (holders see (after h k)) t.device ≡ Some (see u.piece)
  held_now = ap (held_as (holders see (after h k))) (sym called.device) ∙ held_behind

  pub seen_now : seen_at (scene see (at shelf (after h k))) t.device ≡ Some (see u.piece)
  seen_now = ap (λ o. seen_in o shelf.free t.device) held_now

  pub faults_now : faults_at (scene see (at shelf (after h k))) t.device ≡ (see u.piece).faults
  faults_now = ap (λ o. faults_in o (shelf.counted t.device)) held_now

  pub seen_before : seen_at (scene see (at shelf h)) t.device ≡ Some (see t.piece)
  seen_before = ap (λ o. seen_in o shelf.free t.device) held_before

  pub faults_before : faults_at (scene see (at shelf h)) t.device ≡ (see t.piece).faults
  faults_before = ap (λ o. faults_in o (shelf.counted t.device)) held_before

  -- the others are seen as before
  pub seen_other : (name : Word) → bytes_eq t.device name ≡ false → seen_at (scene see (at shelf (after h k))) name ≡ seen_at (scene see (at shelf h)) name
  seen_other name e =
      place_by (IsElse t.device name) (λ a b. b ≡ a) (held_as (holders see h) name) (held_as (holders see (after h k)) name) shelf.free name (held_steps (IsElse t.device) (holders see h) (holders see (after h k)) name all_steps)
      (λ none o. refl) (λ a b q. ap Some (q.other e))

  pub faults_other : (name : Word) → bytes_eq t.device name ≡ false → faults_at (scene see (at shelf (after h k))) name ≡ faults_at (scene see (at shelf h)) name
  faults_other name e =
      faults_by (IsElse t.device name) (λ a b. b ≡ a) (held_as (holders see h) name) (held_as (holders see (after h k)) name) (shelf.counted name) (held_steps (IsElse t.device) (holders see h) (holders see (after h k)) name all_steps)
      refl (λ a b q. ap (λ (s : Seen). s.faults) (q.other e))

  pub one_in_world : (m : Moment) → IsMoment see (at shelf h) m → IsInWorld m.world t.device (see t.piece)
  one_in_world m moment = (subst (AllOf (λ x. IsInWorld m.world x.device (see x.piece))) called.was (hand_in_world see h shelf m called.are.apart moment)).0

  -- the device has other contents
  module _ (m : Moment) (moment : IsMoment see (at shelf h) m) (d : Device) (told : (see u.piece).told ≡ Some d.contents) (sectors : d.sectors ≡ (see u.piece).sectors) where
    abbrev pub changed : World
    changed = record m.world { devices = put t.device (Some d) m.world.devices }

    put_away : (name : Word) → bytes_eq t.device name ≡ false → put t.device (Some d) m.world.devices name ≡ m.world.devices name
    put_away name e = put_other t.device name (Some d) m.world.devices e

    pub changed_moment : IsMoment see (at shelf (after h k)) (moment_at changed (scene see (at shelf (after h k))))
    changed_moment = record {
      told = moment.told;
      devices_are = each_name t.device (λ name. IsDeviceOf (is_lent h name) (seen_at (scene see (at shelf (after h k))) name) (put t.device (Some d) m.world.devices name))
          (subst (λ o. IsDeviceOf (is_lent h t.device) o (put t.device (Some d) m.world.devices t.device)) (sym seen_now)
          (subst (λ o. IsDeviceOf (is_lent h t.device) (Some (see u.piece)) o) (sym (put_same t.device (Some d) m.world.devices)) (sectors, λ free. told)))
          (λ name e. subst (λ o. IsDeviceOf (is_lent h name) o (put t.device (Some d) m.world.devices name)) (sym (seen_other name e))
          (subst (λ o. IsDeviceOf (is_lent h name) (seen_at (scene see (at shelf h)) name) o) (sym (put_away name e)) (moment.devices_are name)));
      volumes_are = moment.volumes_are;
      runs_are = moment.runs_are;
      group_is = moment.group_is;
      counts = counts_own (scene see (at shelf (after h k)));
    }
