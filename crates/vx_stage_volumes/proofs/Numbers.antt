-- Numbers of slots, one slot after the other.
use Rattle.std.proofs.Common.{◌≡◌, ◌∙◌, ◌⊎◌, inl, inr, ℕ, ◌+◌, ◌<◌, ◌≤◌, ◌==◌, Bool, true, false, cond, List, [], ◌∷◌, ◌++◌, length, Some, None, refl, sym, ap, subst, arith}
use Rattle.std.specs.Prelude.{◌||◌, Decides, slice_index}
use Rattle.std.proofs.lemmas.Bool.{false≢true}
use Rattle.std.proofs.lemmas.Bool.Decides.{Decides-eqb}
use Rattle.std.proofs.lemmas.List.{get_or_append_left, get_or_push, length-append}
use Rattle.vx_piece.specs.Seen.{Seen}
use Rattle.vx_copies.specs.declared.disk.Disk.{Disk}
use Rattle.vx_stage_volumes.specs.Numbers.{AreNumbersOf, HaveOwnNumbers, IsSpare, is_taken, number_at}

-- a list with one number more
long_push : (ns : List ℕ) (x : ℕ) → length (ns ++ x ∷ []) ≡ length ns + 1
long_push ns x = length-append ns (x ∷ [])

-- it is the last one, or one of those before
at_push : (ns : List ℕ) (x k : ℕ) → k < length ns + 1 → (k ≡ length ns) ⊎ (k < length ns)
at_push ns x k low = by (k == length ns) (Decides-eqb k (length ns))
  where
    by : (b : Bool) → Decides b (k ≡ length ns) → (k ≡ length ns) ⊎ (k < length ns)
    by true decides = inl (decides.0 refl)
    by false decides = let other : k ≡ length ns → ⊥ = λ same. false≢true (decides.1 same) in inr (omega (arith, low, other))

module _ {P : Type 0} (see : P → Seen) where
  -- the number of a disk's device is taken
  pub taken_at : (ds : List (Disk P)) (slot number : ℕ) → number_at see ds slot ≡ Some number → is_taken see ds number ≡ true
  taken_at [] slot number is = absurd (let no : None ≡ Some number = is in cc)
  taken_at (d ∷ ds) slot number is = by (d.slot == slot) is (taken_at ds slot number)
    where
      same : (a b : ℕ) → Some a ≡ Some b → (a == b) ≡ true
      same a b e = let is : a ≡ b = cc in (Decides-eqb a b).1 is

      or_left : (x y : Bool) → x ≡ true → (x || y) ≡ true
      or_left true y e = refl
      or_left false y e = absurd (let no : false ≡ true = e in cc)

      or_right : (x y : Bool) → y ≡ true → (x || y) ≡ true
      or_right true y e = refl
      or_right false y e = e

      by : (b : Bool) → cond b (Some (see d.piece).device) (number_at see ds slot) ≡ Some number → (number_at see ds slot ≡ Some number → is_taken see ds number ≡ true) → is_taken see (d ∷ ds) number ≡ true
      by true e rest = or_left ((see d.piece).device == number) (is_taken see ds number) (same (see d.piece).device number e)
      by false e rest = or_right ((see d.piece).device == number) (is_taken see ds number) (rest e)

  module _ (ds : List (Disk P)) (own : HaveOwnNumbers see ds) where
    -- the kind of a number: that of a disk's device, or a spare one
    abbrev IsOfSlot : ℕ → ℕ → ℕ → Type 0
    IsOfSlot next slot number = (number_at see ds slot ≡ Some number) ⊎ IsSpare see ds next slot number

    -- one number more, that no slot before has
    with_one : (count next later : ℕ) (ns : List ℕ) (x : ℕ) → next ≤ later → AreNumbersOf see ds count next ns → IsOfSlot later count x → ((k : ℕ) → k < count → slice_index ns k ≡ x → ⊥) → AreNumbersOf see ds (count + 1) later (ns ++ x ∷ [])
    with_one count next later ns x more are one other = record {
      long = long_push ns x ∙ ap (λ n. n + 1) are.long;
      each = λ slot low. each slot (at_push ns x slot (subst (λ n. slot < n + 1) (sym are.long) low));
      own = λ i j low high same. differ i j (at_push ns x i (subst (λ n. i < n) (long_push ns x) low)) (at_push ns x j (subst (λ n. j < n) (long_push ns x) high)) same;
    }
      where
        last : (k : ℕ) → k ≡ length ns → slice_index (ns ++ x ∷ []) k ≡ x
        last k is = get_or_push ns x 0 k (sym is)

        early : (k : ℕ) → k < length ns → slice_index (ns ++ x ∷ []) k ≡ slice_index ns k
        early k low = get_or_append_left ns (x ∷ []) 0 k low

        lift : (slot number : ℕ) → IsOfSlot next slot number → IsOfSlot later slot number
        lift slot number (inl is) = inl is
        lift slot number (inr spare) = let low = spare.low in inr (record { bare = spare.bare; unused = spare.unused; low = omega (arith, low, more) })

        each : (slot : ℕ) → (slot ≡ length ns) ⊎ (slot < length ns) → IsOfSlot later slot (slice_index (ns ++ x ∷ []) slot)
        each slot (inl is) = subst (IsOfSlot later slot) (sym (last slot is)) (subst (λ k. IsOfSlot later k x) (sym (is ∙ are.long)) one)
        each slot (inr low) = subst (IsOfSlot later slot) (sym (early slot low)) (lift slot (slice_index ns slot) (are.each slot (subst (λ n. slot < n) are.long low)))

        differ : (i j : ℕ) → (i ≡ length ns) ⊎ (i < length ns) → (j ≡ length ns) ⊎ (j < length ns) → slice_index (ns ++ x ∷ []) i ≡ slice_index (ns ++ x ∷ []) j → i ≡ j
        differ i j (inl a) (inl b) same = a ∙ sym b
        differ i j (inl a) (inr b) same = absurd (other j (subst (λ n. j < n) are.long b) (sym (early j b) ∙ sym same ∙ last i a))
        differ i j (inr a) (inl b) same = absurd (other i (subst (λ n. i < n) are.long a) (sym (early i a) ∙ same ∙ last j b))
        differ i j (inr a) (inr b) same = are.own i j a b (sym (early i a) ∙ same ∙ early j b)

    no_both : (number : ℕ) → is_taken see ds number ≡ true → is_taken see ds number ≡ false → ⊥
    no_both number t f = cc

    -- .. of a slot that has a disk, ..
    pub with_disk : (count next : ℕ) (ns : List ℕ) (x : ℕ) → AreNumbersOf see ds count next ns → number_at see ds count ≡ Some x → AreNumbersOf see ds (count + 1) next (ns ++ x ∷ [])
    with_disk count next ns x are is = with_one count next next ns x (omega arith) are (inl is) (λ k low same. other k low same (are.each k low))
      where
        other : (k : ℕ) → k < count → slice_index ns k ≡ x → IsOfSlot next k (slice_index ns k) → ⊥
        other k low same (inl at) = let one : k ≡ count = own k count x (at ∙ ap (λ n. Some n) same) is in omega (arith, low, one)
        other k low same (inr spare) = no_both x (taken_at ds count x is) (subst (λ n. is_taken see ds n ≡ false) same spare.unused)

    -- .. and of one that has none
    pub with_spare : (count next : ℕ) (ns : List ℕ) (x : ℕ) → AreNumbersOf see ds count next ns → number_at see ds count ≡ None → is_taken see ds x ≡ false → next ≤ x → AreNumbersOf see ds (count + 1) (x + 1) (ns ++ x ∷ [])
    with_spare count next ns x are none unused from = with_one count next (x + 1) ns x (omega (arith, from)) are (inr (record { bare = none; unused = unused; low = omega arith })) (λ k low same. other k low same (are.each k low))
      where
        other : (k : ℕ) → k < count → slice_index ns k ≡ x → IsOfSlot next k (slice_index ns k) → ⊥
        other k low same (inl at) = no_both x (taken_at ds k x (at ∙ ap (λ n. Some n) same)) unused
        other k low same (inr spare) = let below : x < next = subst (λ n. n < next) same spare.low in omega (arith, below, from)

    pub none_yet : AreNumbersOf see ds 0 0 []
    none_yet = record { long = refl; each = λ slot low. absurd (omega (arith, low)); own = λ i j low high same. absurd (omega (arith, low)) }

  -- a higher bound
  pub up_to : (ds : List (Disk P)) (count next later : ℕ) (ns : List ℕ) → next ≤ later → AreNumbersOf see ds count next ns → AreNumbersOf see ds count later ns
  up_to ds count next later ns more are = record {
    long = are.long;
    each = λ slot low. elim (are.each slot low) [
      | inl is ↦ inl is
      | inr spare ↦ let below = spare.low in inr (record { bare = spare.bare; unused = spare.unused; low = omega (arith, below, more) })
    ];
    own = are.own;
  }
