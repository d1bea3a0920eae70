-- The plexes that are on and unmarked in a region, by the masks and what the log claims.
use Rattle.std.proofs.Common.{◌≡◌, ◌≢◌, ℕ, ◌<◌, ◌^◌, ◌&&◌, not, Bool, true, false, sym, subst, ◌∙◌}
use Rattle.vx_mask.specs.Mask.{has, without, lowest}
use Rattle.vx_mask.proofs.MaskLemmas.{has-without, has-zero, lowest_there, without-lt}
use Rattle.vx_marks.specs.Log.{AreClaimed}

both : (a b : Bool) → (a && not b) ≡ true → (a ≡ true) × (b ≡ false)
both true false e = (cc, cc)
both true true e = cc
both false b e = cc

none : (a b : Bool) → (a && not b) ≡ false → a ≡ true → b ≡ true
none true true e is = cc
none true false e is = cc
none false b e is = cc

module _ (on bits : ℕ) (claims : ℕ → Bool) (claimed : AreClaimed claims bits) where
  pub current_there : on < 2 ^ 64 → without on bits ≢ 0 → (k : ℕ) × (has on k ≡ true) × (claims k ≡ false)
  current_there fits some =
      let there = lowest_there (without on bits) some (without-lt on bits fits) in
      let parts = both (has on (lowest (without on bits))) (has bits (lowest (without on bits))) (sym (has-without on bits (lowest (without on bits))) ∙ there.0) in
      (lowest (without on bits), parts.0, sym (claimed (lowest (without on bits))) ∙ parts.1)

  pub current_none : without on bits ≡ 0 → (k : ℕ) → has on k ≡ true → claims k ≡ true
  current_none empty k is =
      sym (claimed k) ∙ none (has on k) (has bits k) (sym (has-without on bits k) ∙ subst (λ (m : ℕ). has m k ≡ false) (sym empty) (has-zero k)) is
