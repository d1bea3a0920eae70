-- Devices in hand: what the world has of them, and what becomes of a house as they are called.
use Rattle.std.proofs.Common.{◌≡◌, ◌∙◌, ◌<◌, Bool, true, false, cond, ◌||◌, List, [], ◌∷◌, ◌++◌, map, Option, Some, None, refl, sym, ap, subst, arith}
use Rattle.std.specs.List.{list_any}
use Rattle.std.specs.Str.{bytes_eq}
use Rattle.vx_pages.specs.declared.local_piece.LocalPiece.{Ghosts}
use Rattle.vx_base.specs.Named.{Word}
use Rattle.vx_piece.specs.Seen.{Seen}
use Rattle.vx_piece.specs.Seen.{Keeps as StaysDevice}
use Rattle.vx_copies.specs.Lists.{Each, AllOf}
use Rattle.vx_started.specs.declared.started.Started.{Started}
use Rattle.vx_moments.specs.World.{World, Device}
use Rattle.vx_moments.specs.Moment.{Moment, AreLater}
use Rattle.vx_moments.specs.Holding.{is_among}
use Rattle.vx_house.specs.Holders.{Holder, holders, volume_holder, group_holders, hand_holder, hand_names, held_as, AreApart, AreHeld}
use Rattle.vx_house.specs.Scene.{Shelved, seen_in, seen_at, FaultsGoOn, counts_of}
use Rattle.vx_house.specs.View.{at, scene, is_lent, IsDeviceOf, IsMoment, Keeps, KeepsHouse}
use Rattle.vx_house.specs.declared.house.House.{House}
use Rattle.vx_house.specs.declared.house.Taken.{Taken}
use Rattle.vx_house.proofs.Holders.{IsApart, apart_turned, later_held}
use Rattle.vx_house.proofs.AllLaws.{all_back, all_two, all_unmapped, held_each}
use Rattle.vx_house.proofs.Moments.{moment_at, counts_own}
use Rattle.vx_house.proofs.Steps.{IsStep, held_steps, place_by, steps_later, steps_faults, steps_counts}
use Rattle.vx_house.proofs.Lists.{each_append}

-- the world has the device as it is seen
pub record IsInWorld (w : World) (name : Word) (seen : Seen) : Type 0 where
  pub device : Device
  pub was : w.devices name ≡ Some device
  pub sectors : device.sectors ≡ seen.sectors
  pub told : seen.told ≡ Some device.contents

pub in_world : (w : World) (name : Word) (seen : Seen) (lent : Bool) (o : Option Seen) (d : Option Device) → w.devices name ≡ d → lent ≡ false → o ≡ Some seen → IsDeviceOf lent o d → IsInWorld w name seen
in_world w name seen lent None d at free is of = cc
in_world w name seen lent (Some s) None at free is of = absurd of
in_world w name seen lent (Some s) (Some d) at free is of =
    let same : s ≡ seen = cc in
    record { device = d; was = at; sectors = of.0 ∙ ap (λ (x : Seen). x.sectors) same; told = ap (λ (x : Seen). x.told) (sym same) ∙ of.1 free }

all_any : {X : Type 0} (Q : X → Type 0) → ((x : X) → Q x) → (xs : List X) → AllOf Q xs
all_any Q f [] = tt
all_any Q f (x ∷ xs) = (f x, all_any Q f xs)

neither : (a b : Bool) → a ≡ false → b ≡ false → (a || b) ≡ false
neither false b e f = f
neither true b e f = cc

-- no volume has the device of one behind them
pub volumes_apart : {P : Type 0} (see : P → Seen) (es : List (Word × Started P)) (hs : List Holder) → AreApart (map (volume_holder see) es ++ hs) → AllOf (λ o. list_any (λ e. bytes_eq e.1.device o.name) es ≡ false) hs
volumes_apart see [] hs apart = all_any (λ o. false ≡ false) (λ o. refl) hs
volumes_apart see (e ∷ es) hs apart =
    all_two (IsApart (volume_holder see e)) (λ o. list_any (λ e. bytes_eq e.1.device o.name) es ≡ false) (λ o. list_any (λ e. bytes_eq e.1.device o.name) (e ∷ es) ≡ false)
    (λ o away rest. neither (bytes_eq e.1.device o.name) (list_any (λ e. bytes_eq e.1.device o.name) es) away rest)
    hs (all_back (IsApart (volume_holder see e)) (map (volume_holder see) es) hs apart.0) (volumes_apart see es hs apart.1)

-- none of the first has a name of those behind them
among_none : (hs : List Holder) (name : Word) → AllOf (λ o. bytes_eq o.name name ≡ false) hs → is_among name (map (λ (o : Holder). o.name) hs) ≡ false
among_none [] name all = refl
among_none (h ∷ hs) name all = neither (bytes_eq h.name name) (is_among name (map (λ (o : Holder). o.name) hs)) all.0 (among_none hs name all.1)

first_apart : (hs ks : List Holder) → AreApart (hs ++ ks) → AllOf (λ o. is_among o.name (map (λ (o : Holder). o.name) ks) ≡ false) hs
first_apart [] ks apart = tt
first_apart (h ∷ hs) ks apart =
    (among_none ks h.name (all_turned ks (all_back (IsApart h) hs ks apart.0)), first_apart hs ks apart.1)
  where
    all_turned : (xs : List Holder) → AllOf (IsApart h) xs → AllOf (λ o. bytes_eq o.name h.name ≡ false) xs
    all_turned [] all = tt
    all_turned (x ∷ xs) all = (apart_turned h.name x.name all.0, all_turned xs all.1)

same_names : {P : Type 0} (see : P → Seen) (ts : List (Taken P)) → map (λ (o : Holder). o.name) (map (hand_holder see) ts) ≡ map (λ t. t.device) ts
same_names see [] = refl
same_names see (t ∷ ts) = ap (λ ns. t.device ∷ ns) (same_names see ts)

-- one that is held under no name of the last is not among them
hand_none : {P : Type 0} (see : P → Seen) (hs : List Holder) (ts : List (Taken P)) (name : Word) → held_as (hs ++ map (hand_holder see) ts) name ≡ None → is_among name (map (λ t. t.device) ts) ≡ false
hand_none see [] [] name none = refl
hand_none see [] (t ∷ ts) name none = by_test (bytes_eq t.device name) (hand_none see [] ts name) none
  where
    by_test : (b : Bool) → (held_as (map (hand_holder see) ts) name ≡ None → is_among name (map (λ t. t.device) ts) ≡ false) → cond b (Some (see t.piece)) (held_as (map (hand_holder see) ts) name) ≡ None → (b || is_among name (map (λ t. t.device) ts)) ≡ false
    by_test true rest e = cc
    by_test false rest e = rest e
hand_none see (h ∷ hs) ts name none = by_test (bytes_eq h.name name) (hand_none see hs ts name) none
  where
    by_test : (b : Bool) → (held_as (hs ++ map (hand_holder see) ts) name ≡ None → is_among name (map (λ t. t.device) ts) ≡ false) → cond b (Some h.seen) (held_as (hs ++ map (hand_holder see) ts) name) ≡ None → is_among name (map (λ t. t.device) ts) ≡ false
    by_test true rest e = cc
    by_test false rest e = rest e

module _ {P : Type 0} {ghosts : Ghosts P} (see : P → Seen) (h : House P ghosts) where
  abbrev pub volumes_held : List Holder
  volumes_held = map (volume_holder see) h.volumes.entries

  abbrev pub group_held : List Holder
  group_held = group_holders see h.group

  -- each in hand is held under its name
  pub hand_held : AreApart (holders see h) → AllOf (λ t. held_as (holders see h) t.device ≡ Some (see t.piece)) h.hand.items
  hand_held apart =
      let all = held_each (holders see h) apart in
      let behind = all_back (λ o. held_as (holders see h) o.name ≡ Some o.seen) volumes_held (group_held ++ map (hand_holder see) h.hand.items) all in
      all_unmapped (λ o. held_as (holders see h) o.name ≡ Some o.seen) (hand_holder see) h.hand.items (all_back (λ o. held_as (holders see h) o.name ≡ Some o.seen) group_held (map (hand_holder see) h.hand.items) behind)

  -- no started volume has a device in hand
  hand_not_lent : AreApart (holders see h) → AllOf (λ t. is_lent h t.device ≡ false) h.hand.items
  hand_not_lent apart =
      all_unmapped (λ o. is_lent h o.name ≡ false) (hand_holder see) h.hand.items
      (all_back (λ o. is_lent h o.name ≡ false) group_held (map (hand_holder see) h.hand.items) (volumes_apart see h.volumes.entries (group_held ++ map (hand_holder see) h.hand.items) apart))

  pub hand_in_world : (shelf : Shelved) (m : Moment) → AreApart (holders see h) → IsMoment see (at shelf h) m → AllOf (λ t. IsInWorld m.world t.device (see t.piece)) h.hand.items
  hand_in_world shelf m apart is =
      all_two (λ t. held_as (holders see h) t.device ≡ Some (see t.piece)) (λ t. is_lent h t.device ≡ false) (λ t. IsInWorld m.world t.device (see t.piece))
      (λ t held free. in_world m.world t.device (see t.piece) (is_lent h t.device) (seen_at (scene see (at shelf h)) t.device) (m.world.devices t.device) refl free (ap (λ o. seen_in o shelf.free t.device) held) (is.devices_are t.device))
      h.hand.items (hand_held apart) (hand_not_lent apart)

  -- the others are not among those in hand
  pub volumes_others : AreApart (holders see h) → AllOf (λ o. is_among o.name (hand_names h) ≡ false) volumes_held
  volumes_others apart = others volumes_held (first_apart_of volumes_held group_held apart)
    where
      others : (hs : List Holder) → AllOf (λ o. is_among o.name (map (λ (o : Holder). o.name) (map (hand_holder see) h.hand.items)) ≡ false) hs → AllOf (λ o. is_among o.name (hand_names h) ≡ false) hs
      others hs all = subst (λ ns. AllOf (λ (o : Holder). is_among o.name ns ≡ false) hs) (same_names see h.hand.items) all

      first_apart_of : (vs gs : List Holder) → AreApart (vs ++ (gs ++ map (hand_holder see) h.hand.items)) → AllOf (λ o. is_among o.name (map (λ (o : Holder). o.name) (map (hand_holder see) h.hand.items)) ≡ false) vs
      first_apart_of [] gs apart = tt
      first_apart_of (v ∷ vs) gs apart = (among_none (map (hand_holder see) h.hand.items) v.name (turned (map (hand_holder see) h.hand.items) (all_back (IsApart v) gs (map (hand_holder see) h.hand.items) (all_back (IsApart v) vs (gs ++ map (hand_holder see) h.hand.items) apart.0))), first_apart_of vs gs apart.1)
        where
          turned : (xs : List Holder) → AllOf (IsApart v) xs → AllOf (λ o. bytes_eq o.name v.name ≡ false) xs
          turned [] all = tt
          turned (x ∷ xs) all = (apart_turned v.name x.name all.0, turned xs all.1)

  pub group_others : AreApart (holders see h) → AllOf (λ o. is_among o.name (hand_names h) ≡ false) group_held
  group_others apart =
      subst (λ ns. AllOf (λ (o : Holder). is_among o.name ns ≡ false) group_held) (same_names see h.hand.items)
      (first_apart group_held (map (hand_holder see) h.hand.items) (behind volumes_held apart))
    where
      behind : (vs : List Holder) → AreApart (vs ++ (group_held ++ map (hand_holder see) h.hand.items)) → AreApart (group_held ++ map (hand_holder see) h.hand.items)
      behind [] apart = apart
      behind (v ∷ vs) apart = behind vs apart.1

  -- what is held under no name is not in hand
  pub none_in_hand : (name : Word) → held_as (holders see h) name ≡ None → is_among name (hand_names h) ≡ false
  none_in_hand name none = behind volumes_held none
    where
      behind : (vs : List Holder) → held_as (vs ++ (group_held ++ map (hand_holder see) h.hand.items)) name ≡ None → is_among name (hand_names h) ≡ false
      behind [] e = hand_none see group_held h.hand.items name e
      behind (v ∷ vs) e = by_test (bytes_eq v.name name) (behind vs) e
        where
          by_test : (b : Bool) → (held_as (vs ++ (group_held ++ map (hand_holder see) h.hand.items)) name ≡ None → is_among name (hand_names h) ≡ false) → cond b (Some v.seen) (held_as (vs ++ (group_held ++ map (hand_holder see) h.hand.items)) name) ≡ None → is_among name (hand_names h) ≡ false
          by_test true rest e = cc
          by_test false rest e = rest e

-- a house whose hand is as in another, and all else stays
abbrev pub after : {P : Type 0} {ghosts : Ghosts P} → House P ghosts → House P ghosts → House P ghosts
after h k = record { volumes = h.volumes; group = h.group; hand = k.hand }

-- The devices in hand were called, and the volumes and the group are as they were.
module _ {P : Type 0} {ghosts : Ghosts P} (see : P → Seen) (h k : House P ghosts) (Q : Word → Seen → Seen → Type 0) (on : (name : Word) (s t : Seen) → Q name s t → StaysDevice s t)
    (volumes : AllOf (λ o. Q o.name o.seen o.seen) (volumes_held see h)) (group : AllOf (λ o. Q o.name o.seen o.seen) (group_held see h))
    (hand : Each (IsStep Q) (map (hand_holder see) h.hand.items) (map (hand_holder see) k.hand.items)) where
  same_step : (hs : List Holder) → AllOf (λ o. Q o.name o.seen o.seen) hs → Each (IsStep Q) hs hs
  same_step [] all = tt
  same_step (x ∷ xs) all = (record { name = refl; goes = all.0 }, same_step xs all.1)

  pub hand_steps : Each (IsStep Q) (holders see h) (holders see (after h k))
  hand_steps = each_append (IsStep Q) (volumes_held see h) (volumes_held see h) (group_held see h ++ map (hand_holder see) h.hand.items) (group_held see h ++ map (hand_holder see) k.hand.items) (same_step (volumes_held see h) volumes)
      (each_append (IsStep Q) (group_held see h) (group_held see h) (map (hand_holder see) h.hand.items) (map (hand_holder see) k.hand.items) (same_step (group_held see h) group) hand)

  sized : (ts us : List (Taken P)) → Each (IsStep Q) (map (hand_holder see) ts) (map (hand_holder see) us) → AllOf (λ t. 0 < (see t.piece).sectors) ts → AllOf (λ t. 0 < (see t.piece).sectors) us
  sized [] [] each all = tt
  sized [] (u ∷ us) each all = absurd each
  sized (t ∷ ts) [] each all = absurd each
  sized (t ∷ ts) (u ∷ us) each all = (let e = (on t.device (see t.piece) (see u.piece) each.0.goes).sectors in let x = all.0 in omega (arith, e, x), sized ts us each.1 all.1)

  pub hand_keeps : (shelf : Shelved) → AreHeld shelf.held (holders see h) → KeepsHouse see h → Keeps see (at shelf (after h k))
  hand_keeps shelf are keeps = record {
    devices = later_held shelf.held (holders see h) (holders see (after h k)) (steps_later Q on (holders see h) (holders see (after h k)) hand_steps) are;
    house = record { ordered = keeps.ordered; hand = sized h.hand.items k.hand.items hand keeps.hand; volumes = keeps.volumes; group = keeps.group };
  }

  pub hand_faults : (shelf : Shelved) → FaultsGoOn (scene see (at shelf h)) (scene see (at shelf (after h k)))
  hand_faults shelf = steps_faults Q on (holders see h) (holders see (after h k)) hand_steps shelf

  pub hand_later : (shelf : Shelved) (m : Moment) → IsMoment see (at shelf h) m → AreLater m.counts (counts_of (scene see (at shelf (after h k))))
  hand_later shelf m is = steps_counts Q on (holders see h) (holders see (after h k)) hand_steps shelf m.counts is.counts

  same_device : (lent : Bool) (s t : Seen) (d : Option Device) → t.sectors ≡ s.sectors → t.told ≡ s.told → IsDeviceOf lent (Some s) d → IsDeviceOf lent (Some t) d
  same_device lent s t None sectors told of = of
  same_device lent s t (Some d) sectors told of = (of.0 ∙ sym sectors, λ free. told ∙ of.1 free)

  -- the same world, where no contents have changed
  pub hand_moment : ((name : Word) (s t : Seen) → Q name s t → t.told ≡ s.told) → (shelf : Shelved) (m : Moment) → IsMoment see (at shelf h) m → IsMoment see (at shelf (after h k)) (moment_at m.world (scene see (at shelf (after h k))))
  hand_moment told shelf m is = record {
    told = is.told;
    devices_are = λ name. place_by (Q name) (λ a b. IsDeviceOf (is_lent h name) a (m.world.devices name) → IsDeviceOf (is_lent h name) b (m.world.devices name))
        (held_as (holders see h) name) (held_as (holders see (after h k)) name) shelf.free name (held_steps Q (holders see h) (holders see (after h k)) name hand_steps)
        (λ none o of. of) (λ s t q of. same_device (is_lent h name) s t (m.world.devices name) (on name s t q).sectors (told name s t q) of)
        (is.devices_are name);
    volumes_are = is.volumes_are;
    runs_are = is.runs_are;
    group_is = is.group_is;
    counts = counts_own (scene see (at shelf (after h k)));
  }
