-- The free map is below 30, and nothing of the volume uses it.
use Rattle.std.proofs.Common.{◌≡◌, ℕ, zero, suc, ◌+◌, ◌<◌, Bool, true, false, cond, Some, List, refl, arith, subst}
use Rattle.std.specs.Prelude.{◌==◌}
use Rattle.std.specs.List.{count_by}
use Rattle.std.proofs.lemmas.Bool.{eqb-true}
use Rattle.vx_base.specs.Named.{Word}
use Rattle.vx_config_parts.specs.declared.object.Object.{Object}
use Rattle.vx_rules.specs.Maps.{map_uses}
use Rattle.vx_image.proofs.PlexMembers.{IsIn, count_some}
use Rattle.vx_new_volumes.specs.Mirrors.{free_map, free_map_from}

found_from : (n m : ℕ) (group : List Object) (vol : Word) (k : ℕ) → free_map_from n m group vol ≡ Some k → (k < m + n) × (map_uses group vol k ≡ 0)
found_from zero m group vol k e = absurd cc
found_from (suc n) m group vol k e = by (found_from n (m + 1) group vol k) (map_uses group vol m == 0) refl e
  where
    by : (free_map_from n (m + 1) group vol ≡ Some k → (k < m + 1 + n) × (map_uses group vol k ≡ 0)) → (b : Bool) → (map_uses group vol m == 0) ≡ b → cond b (Some m) (free_map_from n (m + 1) group vol) ≡ Some k → (k < m + suc n) × (map_uses group vol k ≡ 0)
    by more true is e = let same : m ≡ k = cc in subst (λ x. (x < m + suc n) × (map_uses group vol x ≡ 0)) same (omega arith, eqb-true (map_uses group vol m) 0 is)
    by more false is e = let r = more e in let lt = r.0 in (omega (arith, lt), r.1)

pub free_found : (group : List Object) (vol : Word) (k : ℕ) → free_map group vol ≡ Some k → (k < 30) × (map_uses group vol k ≡ 0)
unfolding free_map
free_found group vol k e = found_from 30 0 group vol k e

pub none_passes : (test : Object → Bool) (os : List Object) (o : Object) → count_by test os ≡ 0 → IsIn os o → test o ≡ true → ⊥
none_passes test os o none there passes = let some = count_some test os o there passes in omega (arith, some, none)
