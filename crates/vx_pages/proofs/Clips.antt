-- How the bits behind the last region are taken away.
use Rattle.std.proofs.Common.{◌≡◌, ◌⊎◌, inl, inr, ℕ, ◌+◌, ◌<◌, ◌≤◌, Bool, true, false, refl, sym, ◌∙◌, ap, arith, List, [], length, get_or, set}
use Rattle.std.specs.Prelude.{◌%◌, ◌==◌, ◌&&◌, ◌||◌, nat_lt, nat_le, min, if◌then◌else◌}
use Rattle.std.specs.Global.{Vec}
use Rattle.std.proofs.lemmas.Bool.{cases_order, cond-true, cond-false, eq-eqb, ne_eqb}
use Rattle.std.proofs.lemmas.Bool.Decides.{nat_tests}
use Rattle.vx_mapfmt.specs.Bits.{bit_in}
use Rattle.vx_pages.specs.Images.{images_seen}
use Rattle.vx_pages.specs.Reading.{image_at}
use Rattle.vx_pages.proofs.Items.{at_set, at_other}
use Rattle.vx_pages.proofs.Settlement.{image_is}

-- whether a bit is still there, where those from a place on are not looked at yet
abbrev pub stays : ℕ → ℕ → ℕ → Bool
stays inside place bit = nat_lt bit inside || nat_le place bit

pub stays_first : (inside bit : ℕ) → bit < 4096 → stays inside (min inside 4096) bit ≡ true
stays_first inside bit lt = grind (arith, nat_tests)

pub stays_last : (inside place bit : ℕ) → bit < 4096 → 4096 ≤ place → stays inside place bit ≡ nat_lt bit inside
stays_last inside place bit lt le = grind (arith, nat_tests)

stays_here : (inside place : ℕ) → min inside 4096 ≤ place → place < 4096 → stays inside (place + 1) place ≡ false
stays_here inside place low high = grind (arith, nat_tests)

stays_other : (inside place bit : ℕ) → (bit < place) ⊎ (place < bit) → stays inside (place + 1) bit ≡ stays inside place bit
stays_other inside place bit (inl low) = grind (arith, nat_tests)
stays_other inside place bit (inr high) = grind (arith, nat_tests)

and_false : (x : Bool) → (x && false) ≡ false
and_false true = refl
and_false false = refl

pub and_true : (x : Bool) → (x && true) ≡ x
and_true true = refl
and_true false = refl

pub step : (inside place bit : ℕ) (first old new : Bool) → min inside 4096 ≤ place → place < 4096 → old ≡ (first && stays inside place bit) → new ≡ (if (place % 4096) == bit then false else old) →
    new ≡ (first && stays inside (place + 1) bit)
step inside place bit first old new low high was is =
    elim (cases_order bit place) [
      | inl same ↦
          is ∙ cond-true _ _ _ (eq-eqb (place % 4096) bit (omega arith))
          ∙ sym (ap (λ b. first && stays inside (place + 1) b) same ∙ ap (λ b. first && b) (stays_here inside place low high) ∙ and_false first)
      | inr other ↦
          is ∙ cond-false _ _ _ (ne_eqb (place % 4096) bit (λ e. apart other (omega (arith, e)))) ∙ was ∙ sym (ap (λ b. first && b) (stays_other inside place bit other))
    ]
  where
    apart : (bit < place) ⊎ (place < bit) → bit ≡ place → ⊥
    apart (inl low) e = omega (arith, low, e)
    apart (inr high) e = omega (arith, high, e)

-- ---- the images of a page

module _ (old : List (List ℕ)) (images : List (Vec ℕ)) (i inside : ℕ) (p q : Vec ℕ) (lt : i < length images) (is : p ≡ get_or images i p) (rest : (m : ℕ) → i ≤ m → image_at (images_seen images) m ≡ image_at old m)
    (clips : (region : ℕ) → bit_in q.items region ≡ (bit_in p.items region && nat_lt (region % 4096) inside)) where
  pub below_next : ((m region : ℕ) → m < i → bit_in (image_at (images_seen images) m) region ≡ (bit_in (image_at old m) region && nat_lt (region % 4096) inside)) →
      (m region : ℕ) → m < i + 1 → bit_in (image_at (images_seen (set images i q)) m) region ≡ (bit_in (image_at old m) region && nat_lt (region % 4096) inside)
  below_next below m region in' =
      elim (cases_order m i) [
        | inl same ↦
            ap (λ (k : ℕ). bit_in (image_at (images_seen (set images i q)) k) region) same ∙ ap (λ (x : List ℕ). bit_in x region) (at_set [] (λ (image : Vec ℕ). image.items) images i q lt) ∙ clips region
            ∙ ap (λ (x : List ℕ). bit_in x region && nat_lt (region % 4096) inside) (sym (image_is images i p lt is) ∙ rest i (omega arith) ∙ ap (λ (k : ℕ). image_at old k) (sym same))
        | inr (inl low) ↦ ap (λ (x : List ℕ). bit_in x region) (at_other [] (λ (image : Vec ℕ). image.items) images i m q (λ e. absurd (omega arith))) ∙ below m region low
        | inr (inr high) ↦ absurd (omega arith)
      ]

  pub rest_next : (m : ℕ) → i + 1 ≤ m → image_at (images_seen (set images i q)) m ≡ image_at old m
  rest_next m le = at_other [] (λ (image : Vec ℕ). image.items) images i m q (λ e. absurd (omega arith)) ∙ rest m (omega arith)
