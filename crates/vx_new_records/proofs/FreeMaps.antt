-- The search for a free map, one step further.
use Rattle.std.proofs.Common.{◌≡◌, ℕ, zero, suc, ◌+◌, ◌-◌, ◌<◌, ◌≤◌, Bool, true, false, if◌then◌else◌, Option, Some, None, List, refl, sym, ap, ◌∙◌, arith}
use Rattle.std.specs.Prelude.{◌==◌}
use Rattle.vx_base.specs.Named.{Word}
use Rattle.vx_config_parts.specs.declared.object.Object.{Object}
use Rattle.vx_rules.specs.Maps.{map_uses}
use Rattle.vx_new_volumes.specs.Mirrors.{free_map_from, free_map}

pub starts : (group : List Object) (vol : Word) → free_map_from 30 0 group vol ≡ free_map group vol
unfolding free_map
starts group vol = refl

module _ (n i : ℕ) (group : List Object) (vol : Word) (all : Option ℕ) (h : free_map_from (n - i) i group vol ≡ all) where
  one_less : i < n → n - i ≡ suc (n - (i + 1))
  one_less lt = omega (arith, lt)

  none_left : n ≤ i → n - i ≡ zero
  none_left le = omega (arith, le)

  by_test : Bool → Option ℕ
  by_test b = if b then Some i else free_map_from (n - (i + 1)) (i + 1) group vol

  turn : (b : Bool) → i < n → (map_uses group vol i == 0) ≡ b → free_map_from (n - i) i group vol ≡ by_test b
  unfolding by_test
  turn b lt is = ap (λ (m : ℕ). free_map_from m i group vol) (one_less lt) ∙ ap by_test is

  pub map_taken : i < n → (map_uses group vol i == 0) ≡ false → free_map_from (n - (i + 1)) (i + 1) group vol ≡ all
  unfolding by_test
  map_taken lt is = sym (turn false lt is) ∙ h

  pub map_free : i < n → (map_uses group vol i == 0) ≡ true → Some i ≡ all
  unfolding by_test
  map_free lt is = sym (turn true lt is) ∙ h

  pub no_map : n ≤ i → None ≡ all
  no_map le = sym (ap (λ (m : ℕ). free_map_from m i group vol) (none_left le)) ∙ h
