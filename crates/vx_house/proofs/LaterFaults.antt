-- One of the devices that are held was called.
use Rattle.std.proofs.Common.{◌≡◌, ◌∙◌, ◌≤◌, ◌⊎◌, Bool, true, false, cond, List, [], ◌∷◌, ◌++◌, map, Option, Some, None, refl, sym, ap, subst, arith, inl, inr, append_assoc}
use Rattle.std.specs.Str.{bytes_eq}
use Rattle.std.proofs.lemmas.Bool.{cond-true}
use Rattle.std.proofs.lemmas.List.{map-append}
use Rattle.vx_pages.specs.declared.local_piece.LocalPiece.{Ghosts}
use Rattle.vx_base.specs.Named.{Word}
use Rattle.vx_base.proofs.NamedLemmas.{bytes_eq_self, bytes_eq_same}
use Rattle.vx_piece.specs.Seen.{Seen, Keeps}
use Rattle.vx_shelf.specs.Shelf.{Held}
use Rattle.vx_copies.specs.Lists.{Each}
use Rattle.vx_house.specs.Holders.{Holder, holders, volume_holder, group_holders, hand_holder, held_as, AreApart, AreHeld}
use Rattle.vx_house.specs.Scene.{Shelved, Scene, seen_in, seen_at, faults_in, faults_at, FaultsGoOn}
use Rattle.vx_house.specs.declared.house.House.{House}
use Rattle.vx_house.specs.declared.house.Taken.{Taken}
use Rattle.vx_house.proofs.Holders.{held_at, IsLater, later_held, later_apart}
use Rattle.vx_house.proofs.Scenes.{scene_of}
use Rattle.vx_house.proofs.Moments.{SeenGoesOn, PlaceGoesOn, place_refl}

keeps_self : (s : Seen) → Keeps s s
keeps_self s = record { device = refl; start = refl; sectors = refl; stop = refl; faults = omega arith; cut = λ t. t }

pub later_self : (hs : List Holder) → Each IsLater hs hs
later_self [] = tt
later_self (h ∷ hs) = (record { name = refl; kept = keeps_self h.seen }, later_self hs)

pub later_one : (xs : List Holder) (h k : Holder) (ys : List Holder) → IsLater h k → Each IsLater (xs ++ h ∷ ys) (xs ++ k ∷ ys)
later_one [] h k ys later = (later, later_self ys)
later_one (x ∷ xs) h k ys later = (record { name = refl; kept = keeps_self x.seen }, later_one xs h k ys later)

-- what is held under a name is of the same device, as it is seen now
pub each_later : (hs ns : List Holder) (name : Word) → Each IsLater hs ns → ((held_as hs name ≡ None) × (held_as ns name ≡ None)) ⊎ ((a : Seen) × ((b : Seen) × ((held_as hs name ≡ Some a) × ((held_as ns name ≡ Some b) × Keeps a b))))
each_later [] [] name later = inl (refl, refl)
each_later [] (n ∷ ns) name later = absurd later
each_later (h ∷ hs) [] name later = absurd later
each_later (h ∷ hs) (n ∷ ns) name later =
    subst (λ b. ((cond (bytes_eq h.name name) (Some h.seen) (held_as hs name) ≡ None) × (cond b (Some n.seen) (held_as ns name) ≡ None)) ⊎ ((a : Seen) × ((c : Seen) × ((cond (bytes_eq h.name name) (Some h.seen) (held_as hs name) ≡ Some a) × ((cond b (Some n.seen) (held_as ns name) ≡ Some c) × Keeps a c)))))
    (sym (ap (λ x. bytes_eq x name) later.0.name))
    (by_test (bytes_eq h.name name) (each_later hs ns name later.1))
  where
    by_test : (b : Bool) → ((held_as hs name ≡ None) × (held_as ns name ≡ None)) ⊎ ((a : Seen) × ((c : Seen) × ((held_as hs name ≡ Some a) × ((held_as ns name ≡ Some c) × Keeps a c))))
        → ((cond b (Some h.seen) (held_as hs name) ≡ None) × (cond b (Some n.seen) (held_as ns name) ≡ None)) ⊎ ((a : Seen) × ((c : Seen) × ((cond b (Some h.seen) (held_as hs name) ≡ Some a) × ((cond b (Some n.seen) (held_as ns name) ≡ Some c) × Keeps a c))))
    by_test true rest = inr (h.seen, (n.seen, (refl, (refl, later.0.kept))))
    by_test false rest = rest

-- no count of faults falls where devices are called
pub later_faults : (shelf : Shelved) (hs ns : List Holder) → Each IsLater hs ns → FaultsGoOn (scene_of shelf hs) (scene_of shelf ns)
later_faults shelf hs ns later = record { devices = λ name. by name (each_later hs ns name later); shelf = omega arith }
  where
    by : (name : Word) → ((held_as hs name ≡ None) × (held_as ns name ≡ None)) ⊎ ((a : Seen) × ((b : Seen) × ((held_as hs name ≡ Some a) × ((held_as ns name ≡ Some b) × Keeps a b)))) → faults_in (held_as hs name) (shelf.counted name) ≤ faults_in (held_as ns name) (shelf.counted name)
    by name (inl (one, two)) =
        let e : faults_in (held_as hs name) (shelf.counted name) ≡ shelf.counted name = ap (λ o. faults_in o (shelf.counted name)) one in
        let f : faults_in (held_as ns name) (shelf.counted name) ≡ shelf.counted name = ap (λ o. faults_in o (shelf.counted name)) two in
        omega (arith, e, f)
    by name (inr (a, (b, (one, (two, kept))))) =
        let e : faults_in (held_as hs name) (shelf.counted name) ≡ a.faults = ap (λ o. faults_in o (shelf.counted name)) one in
        let f : faults_in (held_as ns name) (shelf.counted name) ≡ b.faults = ap (λ o. faults_in o (shelf.counted name)) two in
        omega (arith, e, f, kept.faults)

module _ (shelf : Shelved) (xs : List Holder) (h k : Holder) (ys : List Holder) (apart : AreApart (xs ++ h ∷ ys)) (later : IsLater h k) where
  abbrev old : Scene
  old = scene_of shelf (xs ++ h ∷ ys)

  abbrev new : Scene
  new = scene_of shelf (xs ++ k ∷ ys)

  apart_now : AreApart (xs ++ k ∷ ys)
  apart_now = later_apart (xs ++ h ∷ ys) (xs ++ k ∷ ys) (later_one xs h k ys later) apart

  -- the device was seen so
  pub seen_here : seen_at old h.name ≡ Some h.seen
  seen_here = ap (λ o. seen_in o shelf.free h.name) (held_at xs h ys h.name apart ∙ cond-true _ _ _ (bytes_eq_self h.name))

  pub faults_here : faults_at old h.name ≡ h.seen.faults
  faults_here = ap (λ o. faults_in o (shelf.counted h.name)) (held_at xs h ys h.name apart ∙ cond-true _ _ _ (bytes_eq_self h.name))

  pub faults_now : faults_at new h.name ≡ k.seen.faults
  faults_now = ap (λ o. faults_in o (shelf.counted h.name)) (held_at xs k ys h.name apart_now ∙ cond-true _ _ _ (ap (λ n. bytes_eq n h.name) later.name ∙ bytes_eq_self h.name))

  -- it is seen as it is now, and the others as before
  pub seen_called : (name : Word) → seen_at new name ≡ cond (bytes_eq h.name name) (Some k.seen) (seen_at old name)
  seen_called name =
      subst (λ o. seen_in o shelf.free name ≡ cond (bytes_eq h.name name) (Some k.seen) (seen_at old name)) (sym (held_at xs k ys name apart_now ∙ ap (λ n. cond (bytes_eq n name) (Some k.seen) (held_as (xs ++ ys) name)) later.name))
      (subst (λ o. seen_in (cond (bytes_eq h.name name) (Some k.seen) (held_as (xs ++ ys) name)) shelf.free name ≡ cond (bytes_eq h.name name) (Some k.seen) (seen_in o shelf.free name)) (sym (held_at xs h ys name apart))
      (by_test (bytes_eq h.name name)))
    where
      by_test : (b : Bool) → seen_in (cond b (Some k.seen) (held_as (xs ++ ys) name)) shelf.free name ≡ cond b (Some k.seen) (seen_in (cond b (Some h.seen) (held_as (xs ++ ys) name)) shelf.free name)
      by_test true = refl
      by_test false = refl

  pub held_called : (held : Word → Option Held) → AreHeld held (xs ++ h ∷ ys) → AreHeld held (xs ++ k ∷ ys)
  held_called held are = later_held held (xs ++ h ∷ ys) (xs ++ k ∷ ys) (later_one xs h k ys later) are

  pub faults_called : FaultsGoOn old new
  faults_called = later_faults shelf (xs ++ h ∷ ys) (xs ++ k ∷ ys) (later_one xs h k ys later)

  pub places_called : SeenGoesOn h.seen k.seen → (name : Word) → PlaceGoesOn (seen_at old name) (seen_at new name)
  places_called on name = subst (PlaceGoesOn (seen_at old name)) (sym (seen_called name)) (by_test (bytes_eq h.name name) refl)
    where
      by_test : (b : Bool) → bytes_eq h.name name ≡ b → PlaceGoesOn (seen_at old name) (cond b (Some k.seen) (seen_at old name))
      by_test true e = subst (λ o. PlaceGoesOn o (Some k.seen)) (sym (ap (seen_at old) (sym (bytes_eq_same h.name name e)) ∙ seen_here)) on
      by_test false e = place_refl (seen_at old name)

-- the devices before one in hand, and those behind it
abbrev pub before_hand : {P : Type 0} {ghosts : Ghosts P} → (P → Seen) → House P ghosts → List (Taken P) → List Holder
before_hand see h xs = map (volume_holder see) h.volumes.entries ++ (group_holders see h.group ++ map (hand_holder see) xs)

pub hand_split : {P : Type 0} {ghosts : Ghosts P} (see : P → Seen) (h : House P ghosts) (xs : List (Taken P)) (t : Taken P) (ys : List (Taken P)) → h.hand.items ≡ xs ++ t ∷ ys → holders see h ≡ before_hand see h xs ++ hand_holder see t ∷ map (hand_holder see) ys
hand_split see h xs t ys is =
    let vs = map (volume_holder see) h.volumes.entries in
    let gs = group_holders see h.group in
    let behind = hand_holder see t ∷ map (hand_holder see) ys in
    ap (λ ts. vs ++ (gs ++ map (hand_holder see) ts)) is
    ∙ ap (λ hs. vs ++ (gs ++ hs)) (map-append (hand_holder see) xs (t ∷ ys))
    ∙ ap (λ hs. vs ++ hs) (sym (append_assoc gs (map (hand_holder see) xs) behind))
    ∙ sym (append_assoc vs (gs ++ map (hand_holder see) xs) behind)
