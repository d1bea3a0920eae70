-- A sector that was written field by field from the front on.
use Rattle.std.proofs.Common.{◌≡◌, ℕ, List, [], ◌∷◌, ◌++◌, length, take, arith, sym, ◌∙◌, ap}
use Rattle.std.specs.Prelude.{codes}
use Rattle.std.proofs.lemmas.List.{take_all}
use Rattle.vx_sector.specs.Fields.{zeros, eight_bytes, four_bytes}
use Rattle.vx_header.specs.Sectors.{name_field, header_sector, toggle_sector}

behind : (a b field start : List ℕ) → a ≡ b ++ field → b ≡ start → a ≡ start ++ field
behind a b field start e f = e ∙ ap (λ (xs : List ℕ). xs ++ field) f

pub header_is_put : (o1 o2 o3 o4 o5 o6 o7 o8 group disk : List ℕ) (slot sectors : ℕ) →
    take 8 o1 ≡ codes "vxprv001" →
    take 40 o2 ≡ take 8 o1 ++ name_field group →
    take 72 o3 ≡ take 40 o2 ++ name_field disk →
    take 73 o4 ≡ take 72 o3 ++ slot ∷ [] →
    take 80 o5 ≡ take 73 o4 ++ zeros 7 →
    take 88 o6 ≡ take 80 o5 ++ eight_bytes sectors →
    take 96 o7 ≡ take 88 o6 ++ eight_bytes 2048 →
    take 512 o8 ≡ take 96 o7 ++ zeros 416 →
    length o8 ≡ 512 → o8 ≡ header_sector group disk slot sectors
unfolding header_sector
header_is_put o1 o2 o3 o4 o5 o6 o7 o8 group disk slot sectors e1 e2 e3 e4 e5 e6 e7 e8 len =
    sym (take_all 512 o8 (omega (arith, len)))
    ∙ behind _ _ _ _ e8 (behind _ _ _ _ e7 (behind _ _ _ _ e6 (behind _ _ _ _ e5 (behind _ _ _ _ e4 (behind _ _ _ _ e3 (behind _ _ _ _ e2 e1))))))

pub toggle_is_put : (o1 o2 o3 o4 o5 o6 o7 : List ℕ) (sequence half text good : ℕ) →
    take 8 o1 ≡ codes "vxtog001" →
    take 16 o2 ≡ take 8 o1 ++ eight_bytes sequence →
    take 17 o3 ≡ take 16 o2 ++ half ∷ [] →
    take 20 o4 ≡ take 17 o3 ++ zeros 3 →
    take 24 o5 ≡ take 20 o4 ++ four_bytes text →
    take 28 o6 ≡ take 24 o5 ++ four_bytes good →
    take 512 o7 ≡ take 28 o6 ++ zeros 484 →
    length o7 ≡ 512 → o7 ≡ toggle_sector sequence half text good
unfolding toggle_sector
toggle_is_put o1 o2 o3 o4 o5 o6 o7 sequence half text good e1 e2 e3 e4 e5 e6 e7 len =
    sym (take_all 512 o7 (omega (arith, len)))
    ∙ behind _ _ _ _ e7 (behind _ _ _ _ e6 (behind _ _ _ _ e5 (behind _ _ _ _ e4 (behind _ _ _ _ e3 (behind _ _ _ _ e2 e1)))))
