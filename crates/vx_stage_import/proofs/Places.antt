-- Places in the order of slots.
use Rattle.std.proofs.Common.{◌≡◌, ℕ, zero, suc, ◌+◌, ◌<◌, ◌≤◌, List, [], ◌∷◌, length, take, drop, get_or, insert, refl, sym, arith, inl, inr, subst, ap}
use Rattle.vx_copies.specs.Lists.{AllOf, AnyOf}
use Rattle.vx_import.specs.declared.device.GroupDevice.{GroupDevice}
use Rattle.vx_stage_import.specs.Places.{slots_of, ArePlaced, IsPlace}

module _ {P : Type 0} where
  pub lower_more : (Q : ℕ → Type 0) (fs : List (GroupDevice P)) (i : ℕ) (d : GroupDevice P) → i < length fs → AllOf Q (take i (slots_of fs)) → Q (get_or fs i d).header.slot → AllOf Q (take (suc i) (slots_of fs))
  lower_more Q [] i d lt all here = absurd (omega (arith, lt))
  lower_more Q (f ∷ fs) zero d lt all here = (here, tt)
  lower_more Q (f ∷ fs) (suc i) d lt all here = (all.0, lower_more Q fs i d (omega (arith, lt)) all.1 here)

  pub any_at : (slot : ℕ) (fs : List (GroupDevice P)) (i : ℕ) (d : GroupDevice P) → i < length fs → (get_or fs i d).header.slot ≡ slot → AnyOf (λ n. n ≡ slot) (slots_of fs)
  any_at slot [] i d lt here = absurd (omega (arith, lt))
  any_at slot (f ∷ fs) zero d lt here = inl here
  any_at slot (f ∷ fs) (suc i) d lt here = inr (any_at slot fs i d (omega (arith, lt)) here)

  pub higher_from : (slot : ℕ) (fs : List (GroupDevice P)) (i : ℕ) (d : GroupDevice P) → i < length fs → ArePlaced (slots_of fs) → slot < (get_or fs i d).header.slot → AllOf (λ n. slot < n) (drop i (slots_of fs))
  higher_from slot [] i d lt placed here = absurd (omega (arith, lt))
  higher_from slot (f ∷ fs) zero d lt placed here = (here, above (slots_of fs) placed.0)
    where
      above : (ns : List ℕ) → AllOf (λ m. f.header.slot < m) ns → AllOf (λ n. slot < n) ns
      above [] all = tt
      above (n ∷ ns) all = (let le = all.0 in omega (arith, le, here), above ns all.1)
  higher_from slot (f ∷ fs) (suc i) d lt placed here = higher_from slot fs i d (omega (arith, lt)) placed.1 here

  pub higher_end : (Q : ℕ → Type 0) (fs : List (GroupDevice P)) (i : ℕ) → length fs ≤ i → AllOf Q (drop i (slots_of fs))
  higher_end Q [] zero le = tt
  higher_end Q [] (suc i) le = tt
  higher_end Q (f ∷ fs) zero le = absurd (omega (arith, le))
  higher_end Q (f ∷ fs) (suc i) le = higher_end Q fs i (omega (arith, le))

  pub slots_long : (fs : List (GroupDevice P)) → length (slots_of fs) ≡ length fs
  slots_long [] = refl
  slots_long (f ∷ fs) = let e = slots_long fs in omega (arith, e)

  pub slots_insert : (fs : List (GroupDevice P)) (i : ℕ) (f : GroupDevice P) → slots_of (insert fs i f) ≡ insert (slots_of fs) i f.header.slot
  slots_insert fs zero f = refl
  slots_insert [] (suc i) f = refl
  slots_insert (g ∷ fs) (suc i) f = ap (λ ns. g.header.slot ∷ ns) (slots_insert fs i f)

  pub all_low : (fs : List (GroupDevice P)) → AllOf (λ n. n < 32) (slots_of fs)
  all_low [] = tt
  all_low (f ∷ fs) = (f.header.slot_below, all_low fs)

all_insert : (Q : ℕ → Type 0) (ns : List ℕ) (i n : ℕ) → AllOf Q ns → Q n → AllOf Q (insert ns i n)
all_insert Q ns zero n all here = (here, all)
all_insert Q [] (suc i) n all here = (here, tt)
all_insert Q (m ∷ ns) (suc i) n all here = (all.0, all_insert Q ns i n all.1 here)

pub placed_insert : (ns : List ℕ) (i n : ℕ) → ArePlaced ns → IsPlace i n ns → ArePlaced (insert ns i n)
placed_insert ns zero n placed at = (at.higher, placed)
placed_insert [] (suc i) n placed at = (tt, tt)
placed_insert (m ∷ ns) (suc i) n placed at =
    let rest : IsPlace i n ns = record { within = let w = at.within in omega (arith, w); lower = at.lower.1; higher = at.higher } in
    (all_insert (λ k. m < k) ns i n placed.0 at.lower.0, placed_insert ns i n placed.1 rest)

-- as many as there are slots from a first one on
few_from : (ns : List ℕ) (first : ℕ) → first ≤ 32 → AllOf (λ n. first ≤ n) ns → AllOf (λ n. n < 32) ns → ArePlaced ns → first + length ns ≤ 32
few_from [] first le from low placed = omega (arith, le)
few_from (n ∷ ns) first le from low placed =
    let a = from.0 in let b = low.0 in
    let more : suc n + length ns ≤ 32 = few_from ns (suc n) (omega (arith, b)) (next ns placed.0) low.1 placed.1 in
    omega (arith, more, a, b)
  where
    next : (ms : List ℕ) → AllOf (λ m. n < m) ms → AllOf (λ m. suc n ≤ m) ms
    next [] all = tt
    next (m ∷ ms) all = (let c = all.0 in omega (arith, c), next ms all.1)

all_any : (ns : List ℕ) → AllOf (λ n. 0 ≤ n) ns
all_any [] = tt
all_any (n ∷ ns) = (omega arith, all_any ns)

pub few : (ns : List ℕ) → AllOf (λ n. n < 32) ns → ArePlaced ns → length ns ≤ 32
few ns low placed = let is = few_from ns 0 (omega arith) (all_any ns) low placed in omega (arith, is)

insert_long : (ns : List ℕ) (i n : ℕ) → length (insert ns i n) ≡ suc (length ns)
insert_long ns zero n = omega arith
insert_long [] (suc i) n = omega arith
insert_long (m ∷ ns) (suc i) n = let e = insert_long ns i n in omega (arith, e)

-- where a slot has a place there is room for one more
pub room_for : (ns : List ℕ) (i n : ℕ) → n < 32 → AllOf (λ m. m < 32) ns → ArePlaced ns → IsPlace i n ns → length ns < 32
room_for ns i n lt low placed at =
    let le = few (insert ns i n) (all_insert (λ m. m < 32) ns i n low lt) (placed_insert ns i n placed at) in
    let long = insert_long ns i n in omega (arith, le, long)

module _ {P : Type 0} (fs ds : List (GroupDevice P)) (same : ds ≡ fs) where
  pub place_in : (place slot : ℕ) → IsPlace place slot (slots_of ds) → IsPlace place slot (slots_of fs)
  place_in place slot at = subst (λ (xs : List (GroupDevice P)). IsPlace place slot (slots_of xs)) same at

  pub room_in : (place slot : ℕ) → slot < 32 → ArePlaced (slots_of fs) → IsPlace place slot (slots_of ds) → length fs < 32
  room_in place slot lt placed at =
      let less = room_for (slots_of fs) place slot lt (all_low fs) placed (place_in place slot at) in
      let long = slots_long fs in omega (arith, less, long)

  pub placed_in : (place : ℕ) (f : GroupDevice P) → ArePlaced (slots_of fs) → IsPlace place f.header.slot (slots_of ds) → ArePlaced (slots_of (insert fs place f))
  placed_in place f placed at = subst ArePlaced (sym (slots_insert fs place f)) (placed_insert (slots_of fs) place f.header.slot placed (place_in place f.header.slot at))
