-- What is left of a strip, and where the blocks of a unit lie.
use Rattle.std.proofs.Common.{◌≡◌, ℕ, ◌+◌, ◌-◌, ◌*◌, ◌/◌, ◌%◌, ◌<◌, ◌≤◌, true, false, List, [], ◌∷◌, Option, Some, None, arith, refl, ◌∙◌, ap, ltb}
use Rattle.std.specs.Prelude.{IsSome}
use Rattle.std.proofs.lemmas.Bool.{cond-true, cond-false, cond_both, ltb-true, ltb-false, lt-ltb, le-ltb}
use Rattle.std.proofs.lemmas.Nat.{div-mul-add, mod-mul-add}
use Rattle.std.proofs.Math.Nat.{mul_comm}
use Rattle.vx_layout.specs.declared.strip.Strip.{Strip}
use Rattle.vx_layout.specs.declared.place.Place.{Place}
use Rattle.vx_layout.specs.Columns.{column_length, place_in, rest_in}

-- the sectors of the rest are those that follow in the column
abbrev pub Follows : List Strip → ℕ → Option Strip → Type 0
Follows strips sector None = Unit {0}
Follows strips sector (Some rest) = (0 < rest.count) × ((i : ℕ) → i < rest.count → place_in strips (sector + i) ≡ Some (record { disk = rest.disk; sector = rest.start + i }))

behind : (strip : Strip) (strips : List Strip) (sector : ℕ) (rest : Option Strip) → strip.count ≤ sector →
    Follows strips (sector - strip.count) rest → Follows (strip ∷ strips) sector rest
behind strip strips sector None le follows = follows
behind strip strips sector (Some rest) le follows = (
  follows.0,
  λ i lt.
      let past : ltb (sector + i) strip.count ≡ false = le-ltb (sector + i) strip.count (omega arith) in
      let place : sector + i - strip.count ≡ sector - strip.count + i = omega arith in
      cond-false _ _ _ past ∙ ap (place_in strips) place ∙ follows.1 i lt,
)

pub rest_follows : (strips : List Strip) (sector : ℕ) → Follows strips sector (rest_in strips sector)
rest_follows [] sector = tt
rest_follows (strip ∷ strips) sector =
    let P : Option Strip → Type 0 = λ o. Follows (strip ∷ strips) sector o in
    cond_both (ltb sector strip.count) (Some (record { disk = strip.disk; start = strip.start + sector; count = strip.count - sector })) (rest_in strips (sector - strip.count)) P
    (λ yes.
    let inside : sector < strip.count = ltb-true sector strip.count yes in (
      omega arith,
      λ i lt.
          let here : ltb (sector + i) strip.count ≡ true = lt-ltb (sector + i) strip.count (omega arith) in
          let place : strip.start + (sector + i) ≡ strip.start + sector + i = omega arith in
          let At : ℕ → Option Place = λ n. Some (record { disk = strip.disk; sector = n }) in
          cond-true _ _ _ here ∙ ap At place,
    ))
    (λ no. behind strip strips sector (rest_in strips (sector - strip.count)) (ltb-false sector strip.count no) (rest_follows strips (sector - strip.count)))

-- each sector of a column has a strip
pub rest_some : (strips : List Strip) (sector : ℕ) → sector < column_length strips → IsSome (rest_in strips sector)
rest_some [] sector lt = absurd (omega arith)
rest_some (strip ∷ strips) sector lt =
    let P : Option Strip → Type 0 = λ o. IsSome o in
    cond_both (ltb sector strip.count) (Some (record { disk = strip.disk; start = strip.start + sector; count = strip.count - sector })) (rest_in strips (sector - strip.count)) P
    (λ yes. refl)
    (λ no. rest_some strips (sector - strip.count) (omega (arith, ltb-false sector strip.count no)))

-- the row of a number and its place in the row
pub rows : (unit block : ℕ) → 0 < unit → block ≡ block / unit * unit + block % unit
rows unit block some = omega (arith, mul_comm (block / unit) unit)

-- a block further on in the unit
pub same_unit : (unit block i : ℕ) → block % unit + i < unit → ((block + i) / unit ≡ block / unit) × ((block + i) % unit ≡ block % unit + i)
same_unit unit block i lt =
    let is : block + i ≡ block / unit * unit + (block % unit + i) = omega (arith, rows unit block (omega arith)) in (
      ap (λ (n : ℕ). n / unit) is ∙ div-mul-add (block / unit) unit (block % unit + i) lt,
      ap (λ (n : ℕ). n % unit) is ∙ mod-mul-add (block / unit) unit (block % unit + i) lt,
    )
