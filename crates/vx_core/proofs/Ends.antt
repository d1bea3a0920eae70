-- Soundness under every choice of the marks follows from its two ends: the fewest marks, and for a readable plex the most.
use Rattle.std.proofs.Common.{◌≡◌, ℕ, ◌<◌, ◌⊎◌, inl, inr, Bool, true, false, refl}
use Rattle.std.specs.Prelude.{◌||◌}
use Rattle.vx_core.specs.declared.stage.Phase.{Phase}
use Rattle.vx_core.specs.declared.stage.Stage.{Stage}
use Rattle.vx_mask.specs.Mask.{has}
use Rattle.vx_mask.proofs.Tests.{not_both, true_or_false}
use Rattle.vx_core.specs.Region.{Around}
use Rattle.vx_core.specs.Soundness.{MayHold, freeing, IsStray, IsBetween, IsUnmarked, Agree, IsDirty, IsOpen, IsSound, IsSoundUnder, MarkedIn}

-- no mark is seen at k by anyone
pub record IsClean (s : Stage) (phase : Phase) (a : Around) (k : ℕ) : Type 0 where
  pub bits : has s.bits k ≡ false
  pub loose : a.disks.marks.loose k ≡ false
  pub freeing : freeing phase k ≡ false

-- soundness by its two ends
pub record IsSoundAtEnds (s : Stage) (phase : Phase) (a : Around) : Type 0 where
  pub shown : (n k : ℕ) → n < a.fixed.copies → has s.bits k ≡ true → a.disks.marks.shows n k ≡ true
  pub bounded : (n k : ℕ) → n < a.fixed.copies → a.disks.marks.shows n k ≡ true → (has s.bits k ≡ true) ⊎ IsStray phase a k
  pub readable : (k : ℕ) × (has s.on k ≡ true) × IsClean s phase a k
  pub candidates : (k i : ℕ) → IsUnmarked a (has s.bits) k → MayHold a i (a.disks.blocks k i)
  pub agree : Agree a (has s.bits) ⊎ (IsOpen phase × IsDirty s a.fixed.held (has s.bits))
  pub tracked : (m k i : ℕ) → has s.snaps m ≡ true → has s.bits m ≡ false → IsUnmarked a (has s.bits) k → a.disks.blocks k i ≡ a.fixed.base m i
  pub marked : MarkedIn s phase

-- what is outside the set is outside `bits`
outside : {s : Stage} {phase : Phase} {a : Around} {B : ℕ → Bool} → IsBetween s phase a B → (k : ℕ) → B k ≡ false → has s.bits k ≡ false
outside {s} between k out =
    elim (true_or_false (has s.bits k)) [
      | inl bit ↦ not_both (between.least k bit) out
      | inr none ↦ none
    ]

clean_outside : {s : Stage} {phase : Phase} {a : Around} {B : ℕ → Bool} → IsBetween s phase a B → (k : ℕ) → IsClean s phase a k → B k ≡ false
clean_outside {B = B} between k clean =
    elim (true_or_false (B k)) [
      | inr none ↦ none
      | inl in_it ↦
          elim (between.most k in_it) [
            | inl bit ↦ not_both bit clean.bits
            | inr rest ↦ elim rest [ inl loose ↦ not_both loose clean.loose | inr freed ↦ not_both freed clean.freeing ]
          ]
    ]

under_all : {s : Stage} {phase : Phase} {a : Around} → IsSoundAtEnds s phase a → (B : ℕ → Bool) → IsBetween s phase a B → IsSoundUnder s phase a B
under_all ends B between =
    record {
      readable = (ends.readable.0, ends.readable.1, clean_outside between ends.readable.0 ends.readable.2);
      candidates = λ k i unmarked. ends.candidates k i (unmarked.0, outside between k unmarked.1);
      agree =
          elim ends.agree [
            | inl same ↦ inl (λ j k i at_j at_k. same j k i (at_j.0, outside between j at_j.1) (at_k.0, outside between k at_k.1))
            | inr may ↦ inr (
              may.0,
              record {
                two = may.1.two;
                dirty = between.least 30 may.1.dirty;
                off = λ k is_off is_held. between.least k (may.1.off k is_off is_held);
              },
            )
          ];
      tracked = λ m k i snap out unmarked. ends.tracked m k i snap (outside between m out) (unmarked.0, outside between k unmarked.1);
    }

pub sound_from_ends : {s : Stage} {phase : Phase} {a : Around} → IsSoundAtEnds s phase a → IsSound s phase a
sound_from_ends ends =
    record { shown = ends.shown; bounded = ends.bounded; under = under_all ends; marked = ends.marked }

-- every mark that a copy may show
most_marks : Stage → Phase → Around → ℕ → Bool
most_marks s phase a k = has s.bits k || (a.disks.marks.loose k || freeing phase k)

or_left : (x y : Bool) → x ≡ true → (x || y) ≡ true
or_left x y h = rw h refl

or_true : (x y z : Bool) → (x || (y || z)) ≡ true → (x ≡ true) ⊎ ((y ≡ true) ⊎ (z ≡ true))
or_true true y z h = inl refl
or_true false true z h = inr (inl refl)
or_true false false z h = inr (inr h)

or_false : (x y z : Bool) → (x || (y || z)) ≡ false → (x ≡ false) × (y ≡ false) × (z ≡ false)
or_false true y z h = cc
or_false false true z h = cc
or_false false false z h = (refl, refl, h)

most_between : (s : Stage) (phase : Phase) (a : Around) → IsBetween s phase a (most_marks s phase a)
unfolding most_marks
most_between s phase a =
    record {
      least = λ k bit. or_left _ _ bit;
      most = λ k shown. or_true _ _ _ shown;
    }

least_between : (s : Stage) (phase : Phase) (a : Around) → IsBetween s phase a (has s.bits)
least_between s phase a = record { least = λ k bit. bit; most = λ k bit. inl bit }

clean_from_most : (s : Stage) (phase : Phase) (a : Around) (k : ℕ) → most_marks s phase a k ≡ false → IsClean s phase a k
unfolding most_marks
clean_from_most s phase a k none =
    let parts = or_false _ _ _ none in
    record { bits = parts.0; loose = parts.1; freeing = parts.2 }

pub ends_from_sound : {s : Stage} {phase : Phase} {a : Around} → IsSound s phase a → IsSoundAtEnds s phase a
ends_from_sound {s} {phase} {a} sound =
    let low = sound.under (has s.bits) (least_between s phase a) in
    let high = sound.under (most_marks s phase a) (most_between s phase a) in
    record {
      shown = sound.shown;
      bounded = sound.bounded;
      readable = (high.readable.0, high.readable.1, clean_from_most s phase a high.readable.0 high.readable.2);
      candidates = low.candidates;
      agree = low.agree;
      tracked = low.tracked;
      marked = sound.marked;
    }
