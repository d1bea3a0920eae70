-- A piece goes from its slot into a page's sector, or back, and the copy stays the same pieces.
use Rattle.std.proofs.Common.{◌≡◌, ◌≢◌, inl, inr, ℕ, suc, ◌+◌, ◌<◌, refl, sym, ◌∙◌, ap, subst, arith, List, [], ◌∷◌, ◌++◌, length, Option, Some, None}
use Rattle.std.specs.Prelude.{is_some, not}
use Rattle.std.proofs.lemmas.Bool.{cases_order}
use Rattle.vx_piece.specs.Seen.{Seen}
use Rattle.vx_pages.specs.Sector.{SectorSeen, copy_of, faults_on, faults_at}
use Rattle.vx_maps.specs.Slots.{slot_at, grid_at, place_of, cell_piece, part_at, filled, slots_faults, grid_faults, Moved, MovedBoth, MovedSecond, SheetsSeen, HasCut, HasCuts, HasCutSecond, Whole, Wholes}
use Rattle.vx_maps.proofs.PlaceLaws.{grid_there, grid_gone, grid_else, grid_empty, grid_faults_more, grid_faults_empty}

pub filled_same : (size copy : ℕ) (pages pages' : List (List SectorSeen)) (k : ℕ) (xs ys : List (Option Seen)) → length ys ≡ length xs →
    ((i : ℕ) → i < length xs → part_at copy (slot_at ys i) (grid_at size pages' (k + i)) ≡ part_at copy (slot_at xs i) (grid_at size pages (k + i))) → filled size copy pages' k ys ≡ filled size copy pages k xs
filled_same size copy pages pages' k [] [] e same = refl
filled_same size copy pages pages' k [] (y ∷ ys) e same = absurd (omega (arith, e))
filled_same size copy pages pages' k (x ∷ xs) [] e same = absurd (omega (arith, e))
filled_same size copy pages pages' k (x ∷ xs) (y ∷ ys) e same =
    let here : k + 0 ≡ k = omega arith in
    let first : part_at copy y (grid_at size pages' k) ≡ part_at copy x (grid_at size pages k) =
    subst (λ (n : ℕ). part_at copy y (grid_at size pages' n) ≡ part_at copy x (grid_at size pages n)) here (same 0 (omega arith)) in
    let rest : filled size copy pages' (k + 1) ys ≡ filled size copy pages (k + 1) xs = filled_same size copy pages pages' (k + 1) xs ys (omega (arith, e))
    (λ i lt. let place : k + suc i ≡ k + 1 + i = omega arith in
    subst (λ (n : ℕ). part_at copy (slot_at ys i) (grid_at size pages' n) ≡ part_at copy (slot_at xs i) (grid_at size pages n)) place (same (suc i) (omega (arith, lt)))) in
    ap (λ (p : Seen). p ∷ filled size copy pages' (k + 1) ys) first ∙ ap (λ (ps : List Seen). part_at copy x (grid_at size pages k) ∷ ps) rest

module _ (size copy : ℕ) (pages : List (List SectorSeen)) (xs : List SectorSeen) (s : SectorSeen) (at : ℕ) (out in' : List (Option Seen)) (moved : Moved at (copy_of s.copies copy) out in')
    (place : at ≡ place_of size (length xs) (length pages)) (fits : 1 + length pages < size) (counts : (device : ℕ) → faults_at s.copies copy device ≡ faults_on (copy_of s.copies copy) device) where
  there : grid_at size (pages ++ (xs ++ s ∷ []) ∷ []) at ≡ Some s
  there = ap (grid_at size (pages ++ (xs ++ s ∷ []) ∷ [])) place ∙ grid_there size pages xs s (length xs) (length pages) refl refl fits

  gone : grid_at size (pages ++ xs ∷ []) at ≡ None
  gone = ap (grid_at size (pages ++ xs ∷ [])) place ∙ grid_gone size pages xs (length xs) (length pages) (omega arith) refl fits

  elsewhere : (k : ℕ) → k ≢ at → grid_at size (pages ++ (xs ++ s ∷ []) ∷ []) k ≡ grid_at size (pages ++ xs ∷ []) k
  elsewhere k apart = grid_else size pages xs s (length xs) (length pages) k refl refl (λ e. apart (e ∙ sym place))

  same_part : (k : ℕ) → part_at copy (slot_at in' k) (grid_at size (pages ++ (xs ++ s ∷ []) ∷ []) k) ≡ part_at copy (slot_at out k) (grid_at size (pages ++ xs ∷ []) k)
  same_part k =
      elim (cases_order k at) [
        | inl same ↦
            ap (λ (n : ℕ). part_at copy (slot_at in' n) (grid_at size (pages ++ (xs ++ s ∷ []) ∷ []) n)) same
            ∙ ap (λ (x : Option Seen). part_at copy x (grid_at size (pages ++ (xs ++ s ∷ []) ∷ []) at)) moved.gone ∙ ap (cell_piece copy) there
            ∙ sym (ap (λ (n : ℕ). part_at copy (slot_at out n) (grid_at size (pages ++ xs ∷ []) n)) same ∙ ap (λ (x : Option Seen). part_at copy x (grid_at size (pages ++ xs ∷ []) at)) moved.was)
        | inr other ↦
            let apart : k ≢ at = λ e. elim other [ inl low ↦ omega (arith, low, e) | inr high ↦ omega (arith, high, e) ] in
            ap (λ (x : Option Seen). part_at copy x (grid_at size (pages ++ (xs ++ s ∷ []) ∷ []) k)) (moved.others k apart) ∙ ap (part_at copy (slot_at out k)) (elsewhere k apart)
      ]

  same_filled : filled size copy (pages ++ (xs ++ s ∷ []) ∷ []) 0 in' ≡ filled size copy (pages ++ xs ∷ []) 0 out
  same_filled = filled_same size copy (pages ++ xs ∷ []) (pages ++ (xs ++ s ∷ []) ∷ []) 0 out in' moved.size
      (λ i lt. let e : 0 + i ≡ i = omega arith in
      subst (λ (n : ℕ). part_at copy (slot_at in' i) (grid_at size (pages ++ (xs ++ s ∷ []) ∷ []) n) ≡ part_at copy (slot_at out i) (grid_at size (pages ++ xs ∷ []) n)) (sym e) (same_part i))

  abbrev Holes : List (Option Seen) → List (List SectorSeen) → Type 0
  Holes slots grid = (k : ℕ) → k < length slots → is_some (slot_at slots k) ≡ not (is_some (grid_at size grid k))

  holes_in : Holes out (pages ++ xs ∷ []) → Holes in' (pages ++ (xs ++ s ∷ []) ∷ [])
  holes_in holes k lt =
      elim (cases_order k at) [
        | inl same ↦
            ap (λ (n : ℕ). is_some (slot_at in' n)) same ∙ ap (λ (x : Option Seen). is_some x) moved.gone
            ∙ sym (ap (λ (n : ℕ). not (is_some (grid_at size (pages ++ (xs ++ s ∷ []) ∷ []) n))) same ∙ ap (λ (x : Option SectorSeen). not (is_some x)) there)
        | inr other ↦
            let apart : k ≢ at = λ e. elim other [ inl low ↦ omega (arith, low, e) | inr high ↦ omega (arith, high, e) ] in
            let e = moved.size in
            ap (λ (x : Option Seen). is_some x) (moved.others k apart) ∙ holes k (omega (arith, lt, e)) ∙ sym (ap (λ (x : Option SectorSeen). not (is_some x)) (elsewhere k apart))
      ]

  holes_out : Holes in' (pages ++ (xs ++ s ∷ []) ∷ []) → Holes out (pages ++ xs ∷ [])
  holes_out holes k lt =
      elim (cases_order k at) [
        | inl same ↦
            ap (λ (n : ℕ). is_some (slot_at out n)) same ∙ ap (λ (x : Option Seen). is_some x) moved.was
            ∙ sym (ap (λ (n : ℕ). not (is_some (grid_at size (pages ++ xs ∷ []) n))) same ∙ ap (λ (x : Option SectorSeen). not (is_some x)) gone)
        | inr other ↦
            let apart : k ≢ at = λ e. elim other [ inl low ↦ omega (arith, low, e) | inr high ↦ omega (arith, high, e) ] in
            let e = moved.size in
            ap (λ (x : Option Seen). is_some x) (sym (moved.others k apart)) ∙ holes k (omega (arith, lt, e)) ∙ ap (λ (x : Option SectorSeen). not (is_some x)) (elsewhere k apart)
      ]

  same_faults : (device : ℕ) → slots_faults device in' + grid_faults copy device (pages ++ (xs ++ s ∷ []) ∷ []) ≡ slots_faults device out + grid_faults copy device (pages ++ xs ∷ [])
  same_faults device =
      let a = moved.faults device in
      let b = grid_faults_more pages xs s copy device in
      let c = counts device in
      omega (arith, a, b, c)

  pub cut_in : (whole : Whole) → HasCut size copy (pages ++ xs ∷ []) whole out → HasCut size copy (pages ++ (xs ++ s ∷ []) ∷ []) whole in'
  cut_in whole h = record {
    holed = record { long = (let e = moved.size in let l = h.holed.long in omega (arith, e, l)); holes = holes_in h.holed.holes };
    pieces = same_filled ∙ h.pieces;
    faults = λ device. same_faults device ∙ h.faults device;
  }

  pub cut_out : (whole : Whole) → HasCut size copy (pages ++ (xs ++ s ∷ []) ∷ []) whole in' → HasCut size copy (pages ++ xs ∷ []) whole out
  cut_out whole h = record {
    holed = record { long = (let e = moved.size in let l = h.holed.long in omega (arith, e, l)); holes = holes_out h.holed.holes };
    pieces = sym same_filled ∙ h.pieces;
    faults = λ device. sym (same_faults device) ∙ h.faults device;
  }

-- a row without sectors is as good as none
pub cut_empty : (size copy : ℕ) (pages : List (List SectorSeen)) (whole : Whole) (slots : List (Option Seen)) → HasCut size copy pages whole slots → HasCut size copy (pages ++ [] ∷ []) whole slots
cut_empty size copy pages whole slots h = record {
  holed = record { long = h.holed.long; holes = λ k lt. h.holed.holes k lt ∙ sym (ap (λ (x : Option SectorSeen). not (is_some x)) (grid_empty size pages k)) };
  pieces = filled_same size copy pages (pages ++ [] ∷ []) 0 slots slots refl (λ i lt. ap (part_at copy (slot_at slots i)) (grid_empty size pages (0 + i))) ∙ h.pieces;
  faults = λ device. ap (λ (n : ℕ). slots_faults device slots + n) (grid_faults_empty pages copy device) ∙ h.faults device;
}

pub cut_full : (size copy : ℕ) (pages : List (List SectorSeen)) (whole : Whole) (slots : List (Option Seen)) → HasCut size copy (pages ++ [] ∷ []) whole slots → HasCut size copy pages whole slots
cut_full size copy pages whole slots h = record {
  holed = record { long = h.holed.long; holes = λ k lt. h.holed.holes k lt ∙ ap (λ (x : Option SectorSeen). not (is_some x)) (grid_empty size pages k) };
  pieces = sym (filled_same size copy pages (pages ++ [] ∷ []) 0 slots slots refl (λ i lt. ap (part_at copy (slot_at slots i)) (grid_empty size pages (0 + i)))) ∙ h.pieces;
  faults = λ device. sym (ap (λ (n : ℕ). slots_faults device slots + n) (grid_faults_empty pages copy device)) ∙ h.faults device;
}

-- ---- one copy or two

second_in : (size : ℕ) (pages : List (List SectorSeen)) (xs : List SectorSeen) (first : Seen) (pieces : Option Seen) (sure loose : List ℕ) (at : ℕ) (out in' : Option (List (Option Seen))) →
    MovedSecond at pieces out in' → at ≡ place_of size (length xs) (length pages) → 1 + length pages < size → (whole : Option Whole) →
    HasCutSecond size (pages ++ xs ∷ []) whole out → HasCutSecond size (pages ++ (xs ++ record { copies = record { first = first; second = pieces }; sure = sure; loose = loose } ∷ []) ∷ []) whole in'
second_in size pages xs first None sure loose at None None moved place fits None h = tt
second_in size pages xs first None sure loose at None None moved place fits (Some w) h = absurd h
second_in size pages xs first None sure loose at None (Some y) moved place fits whole h = absurd moved
second_in size pages xs first None sure loose at (Some x) y moved place fits whole h = absurd moved
second_in size pages xs first (Some p) sure loose at None y moved place fits whole h = absurd moved
second_in size pages xs first (Some p) sure loose at (Some x) None moved place fits whole h = absurd moved
second_in size pages xs first (Some p) sure loose at (Some x) (Some y) moved place fits None h = absurd h
second_in size pages xs first (Some p) sure loose at (Some x) (Some y) moved place fits (Some w) h =
    cut_in size 1 pages xs (record { copies = record { first = first; second = Some p }; sure = sure; loose = loose }) at x y moved place fits (λ device. refl) w h

second_out : (size : ℕ) (pages : List (List SectorSeen)) (xs : List SectorSeen) (first : Seen) (pieces : Option Seen) (sure loose : List ℕ) (at : ℕ) (out in' : Option (List (Option Seen))) →
    MovedSecond at pieces out in' → at ≡ place_of size (length xs) (length pages) → 1 + length pages < size → (whole : Option Whole) →
    HasCutSecond size (pages ++ (xs ++ record { copies = record { first = first; second = pieces }; sure = sure; loose = loose } ∷ []) ∷ []) whole in' → HasCutSecond size (pages ++ xs ∷ []) whole out
second_out size pages xs first None sure loose at None None moved place fits None h = tt
second_out size pages xs first None sure loose at None None moved place fits (Some w) h = absurd h
second_out size pages xs first None sure loose at None (Some y) moved place fits whole h = absurd moved
second_out size pages xs first None sure loose at (Some x) y moved place fits whole h = absurd moved
second_out size pages xs first (Some p) sure loose at None y moved place fits whole h = absurd moved
second_out size pages xs first (Some p) sure loose at (Some x) None moved place fits whole h = absurd moved
second_out size pages xs first (Some p) sure loose at (Some x) (Some y) moved place fits None h = absurd h
second_out size pages xs first (Some p) sure loose at (Some x) (Some y) moved place fits (Some w) h =
    cut_out size 1 pages xs (record { copies = record { first = first; second = Some p }; sure = sure; loose = loose }) at x y moved place fits (λ device. refl) w h

pub cuts_in : (size : ℕ) (pages : List (List SectorSeen)) (xs : List SectorSeen) (s : SectorSeen) (at : ℕ) (out in' : SheetsSeen) → MovedBoth at s.copies out in' → at ≡ place_of size (length xs) (length pages) → 1 + length pages < size →
    (wholes : Wholes) → HasCuts size (pages ++ xs ∷ []) wholes out → HasCuts size (pages ++ (xs ++ s ∷ []) ∷ []) wholes in'
cuts_in size pages xs s at out in' moved place fits wholes h = record {
  first = cut_in size 0 pages xs s at out.first in'.first moved.first place fits (λ device. refl) wholes.first h.first;
  second = second_in size pages xs s.copies.first s.copies.second s.sure s.loose at out.second in'.second moved.second place fits wholes.second h.second;
}

pub cuts_out : (size : ℕ) (pages : List (List SectorSeen)) (xs : List SectorSeen) (s : SectorSeen) (at : ℕ) (out in' : SheetsSeen) → MovedBoth at s.copies out in' → at ≡ place_of size (length xs) (length pages) → 1 + length pages < size →
    (wholes : Wholes) → HasCuts size (pages ++ (xs ++ s ∷ []) ∷ []) wholes in' → HasCuts size (pages ++ xs ∷ []) wholes out
cuts_out size pages xs s at out in' moved place fits wholes h = record {
  first = cut_out size 0 pages xs s at out.first in'.first moved.first place fits (λ device. refl) wholes.first h.first;
  second = second_out size pages xs s.copies.first s.copies.second s.sure s.loose at out.second in'.second moved.second place fits wholes.second h.second;
}

second_empty : (size : ℕ) (pages : List (List SectorSeen)) (whole : Option Whole) (slots : Option (List (Option Seen))) → HasCutSecond size pages whole slots → HasCutSecond size (pages ++ [] ∷ []) whole slots
second_empty size pages None None h = tt
second_empty size pages None (Some x) h = absurd h
second_empty size pages (Some w) None h = absurd h
second_empty size pages (Some w) (Some x) h = cut_empty size 1 pages w x h

second_full : (size : ℕ) (pages : List (List SectorSeen)) (whole : Option Whole) (slots : Option (List (Option Seen))) → HasCutSecond size (pages ++ [] ∷ []) whole slots → HasCutSecond size pages whole slots
second_full size pages None None h = tt
second_full size pages None (Some x) h = absurd h
second_full size pages (Some w) None h = absurd h
second_full size pages (Some w) (Some x) h = cut_full size 1 pages w x h

pub cuts_empty : (size : ℕ) (pages : List (List SectorSeen)) (wholes : Wholes) (sheets : SheetsSeen) → HasCuts size pages wholes sheets → HasCuts size (pages ++ [] ∷ []) wholes sheets
cuts_empty size pages wholes sheets h = record { first = cut_empty size 0 pages wholes.first sheets.first h.first; second = second_empty size pages wholes.second sheets.second h.second }

pub cuts_full : (size : ℕ) (pages : List (List SectorSeen)) (wholes : Wholes) (sheets : SheetsSeen) → HasCuts size (pages ++ [] ∷ []) wholes sheets → HasCuts size pages wholes sheets
cuts_full size pages wholes sheets h = record { first = cut_full size 0 pages wholes.first sheets.first h.first; second = second_full size pages wholes.second sheets.second h.second }
