-- A header that was written field by field from the front on.
use Rattle.std.proofs.Common.{◌≡◌, ℕ, List, ◌++◌, length, take, arith, sym, ◌∙◌, ap}
use Rattle.std.specs.Prelude.{codes}
use Rattle.std.proofs.lemmas.List.{take_all}
use Rattle.vx_sector.specs.Fields.{zeros, eight_bytes, four_bytes}
use Rattle.vx_mapfmt.specs.Header.{maps_header}

behind : (a b field start : List ℕ) → a ≡ b ++ field → b ≡ start → a ≡ start ++ field
behind a b field start e f = e ∙ ap (λ (xs : List ℕ). xs ++ field) f

pub header_is_put : (o1 o2 o3 o4 o5 : List ℕ) (volume region maps : ℕ) →
    take 8 o1 ≡ codes "vxdco020" →
    take 16 o2 ≡ take 8 o1 ++ eight_bytes volume →
    take 24 o3 ≡ take 16 o2 ++ eight_bytes region →
    take 28 o4 ≡ take 24 o3 ++ four_bytes maps →
    take 512 o5 ≡ take 28 o4 ++ zeros 484 →
    length o5 ≡ 512 → o5 ≡ maps_header volume region maps
unfolding maps_header
header_is_put o1 o2 o3 o4 o5 volume region maps e1 e2 e3 e4 e5 len =
    sym (take_all 512 o5 (omega (arith, len))) ∙ behind _ _ _ _ e5 (behind _ _ _ _ e4 (behind _ _ _ _ e3 (behind _ _ _ _ e2 e1)))
