-- Each sector but the toggle's is as it was, or the text's in a half: one write after another.
use Rattle.std.proofs.Common.{◌≡◌, ◌⊎◌, ℕ, zero, suc, ◌-◌, ◌<◌, ◌≤◌, Bool, true, false, cond, List, Option, Some, None, refl, sym, ap, ◌∙◌, arith, inl, inr}
use Rattle.vx_base.specs.Blocks.{Contents, block_at, blocks_in, written, IsTorn, is_in}
use Rattle.vx_base.proofs.BlockLemmas.{is_in_cases, is_in-before, is_in-after, written_in, written_out}
use Rattle.vx_copies.specs.Image.{half_start, filled}
use Rattle.vx_copies.specs.Written.{BothTell, OldOrText, in_both}

module _ (text : List ℕ) where
  pub only_refl : (c : Contents) → OldOrText text c c
  only_refl c k not = inl refl

  twice : (a b : Bool) (x y z : List ℕ) → cond a x (cond b y (cond a x (cond b y z))) ≡ cond a x (cond b y z)
  twice true b x y z = refl
  twice false true x y z = refl
  twice false false x y z = refl

  pub both_same : (c d : Contents) (k : ℕ) → (d k ≡ c k) ⊎ (d k ≡ in_both text c k) → in_both text d k ≡ in_both text c k
  both_same c d k (inl e) = ap (λ x. cond (is_in (half_start 1) (blocks_in (filled text)) k) (block_at (filled text) (k - half_start 1)) (cond (is_in (half_start 0) (blocks_in (filled text)) k) (block_at (filled text) (k - half_start 0)) x)) e
  both_same c d k (inr e) =
      ap (λ x. cond (is_in (half_start 1) (blocks_in (filled text)) k) (block_at (filled text) (k - half_start 1)) (cond (is_in (half_start 0) (blocks_in (filled text)) k) (block_at (filled text) (k - half_start 0)) x)) e
      ∙ twice (is_in (half_start 1) (blocks_in (filled text)) k) (is_in (half_start 0) (blocks_in (filled text)) k) (block_at (filled text) (k - half_start 1)) (block_at (filled text) (k - half_start 0)) (c k)

  one_more : (c d e : Contents) (k : ℕ) → (d k ≡ c k) ⊎ (d k ≡ in_both text c k) → (e k ≡ d k) ⊎ (e k ≡ in_both text d k) → (e k ≡ c k) ⊎ (e k ≡ in_both text c k)
  one_more c d e k (inl p) (inl q) = inl (q ∙ p)
  one_more c d e k (inr p) (inl q) = inr (q ∙ p)
  one_more c d e k p (inr q) = inr (q ∙ both_same c d k p)

  pub only_trans : (c d e : Contents) → OldOrText text c d → OldOrText text d e → OldOrText text c e
  only_trans c d e p q k not = one_more c d e k (p k not) (q k not)

  -- a write of the text into one half, torn or not
  pub torn_only : (half : ℕ) (c d : Contents) → blocks_in (filled text) ≤ 1020 → half < 2 → IsTorn (half_start half) (filled text) c d → OldOrText text c d
  torn_only zero c d few lt torn = λ k not. by k (torn k)
    where
      by : (k : ℕ) → (d k ≡ c k) ⊎ (d k ≡ written (half_start 0) (filled text) c k) → (d k ≡ c k) ⊎ (d k ≡ in_both text c k)
      by k (inl e) = inl e
      by k (inr e) = elim (is_in_cases (half_start 0) (blocks_in (filled text)) k) [
        | inl h ↦ inr (e ∙ sym (written_out (half_start 1) (filled text) (written (half_start 0) (filled text) c) k (is_in-before (half_start 1) _ k (omega (arith, h.1, few)))))
        | inr out ↦ inl (e ∙ written_out (half_start 0) (filled text) c k (elim out [ inl b ↦ is_in-before (half_start 0) _ k b | inr a ↦ is_in-after (half_start 0) _ k a ]))
      ]
  torn_only (suc zero) c d few lt torn = λ k not. by k (torn k)
    where
      by : (k : ℕ) → (d k ≡ c k) ⊎ (d k ≡ written (half_start 1) (filled text) c k) → (d k ≡ c k) ⊎ (d k ≡ in_both text c k)
      by k (inl e) = inl e
      by k (inr e) = elim (is_in_cases (half_start 1) (blocks_in (filled text)) k) [
        | inl h ↦ inr (e ∙ written_in (half_start 1) (filled text) c k h.0 h.1 ∙ sym (written_in (half_start 1) (filled text) (written (half_start 0) (filled text) c) k h.0 h.1))
        | inr out ↦ inl (e ∙ written_out (half_start 1) (filled text) c k (elim out [ inl b ↦ is_in-before (half_start 1) _ k b | inr a ↦ is_in-after (half_start 1) _ k a ]))
      ]
  torn_only (suc (suc h)) c d few lt torn = absurd (omega (arith, lt))

-- where the disk tells, or not
pub tell_refl : (R : Contents → Contents → Type 0) → ((c : Contents) → R c c) → (t : Option Contents) → BothTell R t t
tell_refl R one None = tt
tell_refl R one (Some c) = one c

pub tell_trans : (R S T : Contents → Contents → Type 0) → ((c d e : Contents) → R c d → S d e → T c e) → (t u v : Option Contents) → BothTell R t u → BothTell S u v → BothTell T t v
tell_trans R S T one None None None p q = tt
tell_trans R S T one None None (Some e) p q = absurd q
tell_trans R S T one None (Some d) v p q = absurd p
tell_trans R S T one (Some c) None v p q = absurd p
tell_trans R S T one (Some c) (Some d) None p q = absurd q
tell_trans R S T one (Some c) (Some d) (Some e) p q = one c d e p q

pub tell_map : (R S : Contents → Contents → Type 0) → ((c d : Contents) → R c d → S c d) → (t u : Option Contents) → BothTell R t u → BothTell S t u
tell_map R S one None None p = tt
tell_map R S one None (Some d) p = absurd p
tell_map R S one (Some c) None p = absurd p
tell_map R S one (Some c) (Some d) p = one c d p
