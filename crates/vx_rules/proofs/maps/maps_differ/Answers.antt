use Rattle.std.proofs.Common.{◌≡◌, ℕ, ◌<◌, nat_le, List, true, false, sym, arith}
use Rattle.std.proofs.lemmas.Bool.{lt-leb}
use Rattle.vx_base.specs.Named.{Word}
use Rattle.vx_config_parts.specs.declared.object.Object.{Object}
use Rattle.vx_rules.specs.Below.{all_below}
use Rattle.vx_rules.specs.Maps.{map_uses, maps_differ}
use Rattle.vx_rules.proofs.Below.{all_below_fails}
use Rattle.vx_rules.proofs.maps.maps_differ.Goals as goal

differ_fails : (all : List Object) (vol : Word) (m : ℕ) → m < 30 → 1 < map_uses all vol m → maps_differ all vol ≡ false
unfolding maps_differ
differ_fails all vol m lt many = all_below_fails (λ k. nat_le (map_uses all vol k) 1) m 30 lt (lt-leb (map_uses all vol m) 1 many)

differ_holds : (all : List Object) (vol : Word) (n : ℕ) → n ≡ 30 → all_below n (λ k. nat_le (map_uses all vol k) 1) ≡ true → maps_differ all vol ≡ true
unfolding maps_differ
differ_holds all vol n e h = rw e at h

pub returns-then-uses-map-gt1 : goal.returns-then-uses-map-gt1
returns-then-uses-map-gt1 c =
    let uses = c.uses_of_maps-uses.ensures c.loop-map.map (omega arith) in
    sym (differ_fails _ _ c.loop-map.map (omega arith) (omega arith))

pub returns : goal.returns
returns c = sym (differ_holds _ _ c.loop-map.map (omega arith) c.loop-map.invariant)
