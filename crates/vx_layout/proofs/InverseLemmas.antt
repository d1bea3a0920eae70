-- Which block lies at a place.
use Rattle.std.proofs.Common.{◌≡◌, ◌⊎◌, ℕ, ◌+◌, ◌-◌, ◌*◌, ◌/◌, ◌%◌, ◌<◌, ◌≤◌, true, false, List, [], ◌∷◌, ◌++◌, length, Option, Some, None, arith, refl, sym, ◌∙◌, ap, inl, inr, ltb, subst, zero, suc}
use Rattle.std.specs.Prelude.{is_some, option_map, ◌==◌, ◌&&◌, nat_lt, nat_le}
use Rattle.std.specs.List.{list_all, flat_map}
use Rattle.std.proofs.lemmas.Bool.{cases_lt, cond-true, cond-false, ltb-true, lt-ltb, le-ltb, and_parts, both_ways, cond_both, eqb-true, leb-true}
use Rattle.std.proofs.lemmas.Nat.{div-mul-add, mod-mul-add}
use Rattle.std.proofs.Math.Nat.{suc-mul}
use Rattle.std.proofs.lemmas.Bool.Decides.{nat_tests}
use Rattle.vx_layout.specs.declared.strip.Strip.{Strip}
use Rattle.vx_layout.specs.declared.place.Place.{Place}
use Rattle.vx_layout.specs.Columns.{column_length, column_at, place_in, has_place, sector_at}
use Rattle.vx_layout.specs.Valid.{is_apart, are_apart, is_column, is_strip}

-- the place is that sector of the column
abbrev pub Lies : List Strip → ℕ → Place → Type 0
Lies [] sector place = ⊥
Lies (strip ∷ strips) sector place =
    ((sector < strip.count) × (place.disk ≡ strip.disk) × (place.sector ≡ strip.start + sector))
    ⊎ ((strip.count ≤ sector) × Lies strips (sector - strip.count) place)

lies_here : (strip : Strip) (sector : ℕ) (place : Place) → (let there : Place = record { disk = strip.disk; sector = strip.start + sector } in Some there) ≡ Some place →
    (place.disk ≡ strip.disk) × (place.sector ≡ strip.start + sector)
lies_here strip sector place e =
    let there : Place = record { disk = strip.disk; sector = strip.start + sector } in
    let same : there ≡ place = cc in
    (ap (λ (p : Place). p.disk) (sym same), ap (λ (p : Place). p.sector) (sym same))

pub lies_from_place : (strips : List Strip) (sector : ℕ) (place : Place) → place_in strips sector ≡ Some place → Lies strips sector place
lies_from_place [] sector place e = cc
lies_from_place (strip ∷ strips) sector place e = elim (cases_lt sector strip.count) [
  | inl inside ↦
      let here = lies_here strip sector place (sym (cond-true _ _ _ (lt-ltb sector strip.count inside)) ∙ e) in
      inl (inside, here.0, here.1)
  | inr past ↦ inr (past, lies_from_place strips (sector - strip.count) place (sym (cond-false _ _ _ (le-ltb sector strip.count past)) ∙ e))
]

-- another strip that is apart does not have it
apart_lacks : (other strip : Strip) (sector : ℕ) (place : Place) → sector < strip.count → place.disk ≡ strip.disk → place.sector ≡ strip.start + sector →
    is_apart other strip ≡ true → has_place other place ≡ false
apart_lacks other strip sector place inside d s apart = grind (arith, nat_tests)

all_lack : (other : Strip) (strips : List Strip) (sector : ℕ) (place : Place) → list_all (is_apart other) strips ≡ true → Lies strips sector place → has_place other place ≡ false
all_lack other [] sector place apart lies = absurd lies
all_lack other (strip ∷ strips) sector place apart lies =
    let parts = and_parts (is_apart other strip) (list_all (is_apart other) strips) apart in
    elim lies [
      | inl here ↦ apart_lacks other strip sector place here.0 here.1 here.2 parts.0
      | inr past ↦ all_lack other strips (sector - strip.count) place parts.1 past.1
    ]

has_it : (strip : Strip) (sector : ℕ) (place : Place) → sector < strip.count → place.disk ≡ strip.disk → place.sector ≡ strip.start + sector → has_place strip place ≡ true
has_it strip sector place inside d s = grind (arith, nat_tests)

-- where the strips are apart, no other sector lies there
pub sector_found : (strips : List Strip) (sector : ℕ) (place : Place) → are_apart strips ≡ true → Lies strips sector place → sector_at strips place ≡ Some sector
sector_found [] sector place apart lies = absurd lies
sector_found (strip ∷ strips) sector place apart lies =
    let parts = and_parts (list_all (is_apart strip) strips) (are_apart strips) apart in
    elim lies [
      | inl here ↦
          let at : place.sector - strip.start ≡ sector = omega (arith, here.2) in
          cond-true _ _ _ (has_it strip sector place here.0 here.1 here.2) ∙ ap (λ (n : ℕ). Some n) at
      | inr past ↦
          let at : strip.count + (sector - strip.count) ≡ sector = omega (arith, past.0) in
          cond-false _ _ _ (all_lack strip strips (sector - strip.count) place parts.0 past.1)
          ∙ ap (option_map (λ s. strip.count + s)) (sector_found strips (sector - strip.count) place parts.1 past.1) ∙ ap (λ (n : ℕ). Some n) at
    ]

some_map : (f : ℕ → ℕ) (o : Option ℕ) → is_some o ≡ true → is_some (option_map f o) ≡ true
some_map f None e = e
some_map f (Some n) e = refl

-- what lies there is found
pub something_found : (strips : List Strip) (sector : ℕ) (place : Place) → Lies strips sector place → is_some (sector_at strips place) ≡ true
something_found [] sector place lies = absurd lies
something_found (strip ∷ strips) sector place lies =
    let P : Option ℕ → Type 0 = λ o. is_some o ≡ true in
    cond_both (has_place strip place) (Some (place.sector - strip.start)) (option_map (λ s. strip.count + s) (sector_at strips place)) P
    (λ yes. refl)
    (λ no. elim lies [
      | inl here ↦ absurd (both_ways (has_place strip place) no (has_it strip sector place here.0 here.1 here.2))
      | inr past ↦ some_map (λ s. strip.count + s) (sector_at strips place) (something_found strips (sector - strip.count) place past.1)
    ])

-- what is found lies there
abbrev pub IsFound : List Strip → Place → Option ℕ → Type 0
IsFound strips place None = Unit {0}
IsFound strips place (Some sector) = (sector < column_length strips) × (place_in strips sector ≡ Some place)

found_behind : (strip : Strip) (strips : List Strip) (place : Place) (o : Option ℕ) → IsFound strips place o → IsFound (strip ∷ strips) place (option_map (λ s. strip.count + s) o)
found_behind strip strips place None found = tt
found_behind strip strips place (Some sector) found =
    let past : ltb (strip.count + sector) strip.count ≡ false = le-ltb (strip.count + sector) strip.count (omega arith) in
    let at : strip.count + sector - strip.count ≡ sector = omega arith in
    (omega (arith, found.0), cond-false _ _ _ past ∙ ap (place_in strips) at ∙ found.1)

one_place : (d e s t : ℕ) → d ≡ e → s ≡ t → (let place : Place = record { disk = d; sector = s } in Some place) ≡ Some (record { disk = e; sector = t })
one_place d e s t p q = λ i. Some (record { disk = p i; sector = q i })

pub found_lies : (strips : List Strip) (place : Place) → IsFound strips place (sector_at strips place)
found_lies [] place = tt
found_lies (strip ∷ strips) place =
    let P : Option ℕ → Type 0 = λ o. IsFound (strip ∷ strips) place o in
    cond_both (has_place strip place) (Some (place.sector - strip.start)) (option_map (λ s. strip.count + s) (sector_at strips place)) P
    (λ yes.
    let parts = and_parts (strip.disk == place.disk && nat_le strip.start place.sector) (nat_lt (place.sector - strip.start) strip.count) yes in
    let two = and_parts (strip.disk == place.disk) (nat_le strip.start place.sector) parts.0 in
    let inside : place.sector - strip.start < strip.count = ltb-true (place.sector - strip.start) strip.count parts.1 in
    let from : strip.start ≤ place.sector = leb-true strip.start place.sector two.1 in
    let at : strip.start + (place.sector - strip.start) ≡ place.sector = omega arith in (
      omega arith,
      cond-true _ _ _ (lt-ltb (place.sector - strip.start) strip.count inside)
          ∙ one_place strip.disk place.disk (strip.start + (place.sector - strip.start)) place.sector (eqb-true strip.disk place.disk two.0) at,
    ))
    (λ no. found_behind strip strips place (sector_at strips place) (found_lies strips place))

twice : (o : Option ℕ) (m n : ℕ) → option_map (λ s. m + n + s) o ≡ option_map (λ s. m + s) (option_map (λ s. n + s) o)
twice None m n = refl
twice (Some s) m n = let same : m + n + s ≡ m + (n + s) = omega arith in ap (λ (k : ℕ). Some k) same

-- one step of the search
pub next_strip : (strip : Strip) (strips : List Strip) (before : ℕ) (place : Place) (all : Option ℕ) → has_place strip place ≡ false →
    option_map (λ s. before + s) (sector_at (strip ∷ strips) place) ≡ all → option_map (λ s. before + strip.count + s) (sector_at strips place) ≡ all
next_strip strip strips before place all lacks told =
    twice (sector_at strips place) before strip.count ∙ ap (option_map (λ s. before + s)) (sym (cond-false _ _ _ lacks)) ∙ told

-- all strips as one column
lies_front : (xs ys : List Strip) (sector : ℕ) (place : Place) → Lies xs sector place → Lies (xs ++ ys) sector place
lies_front [] ys sector place lies = absurd lies
lies_front (x ∷ xs) ys sector place lies = elim lies [
  | inl here ↦ inl here
  | inr past ↦ inr (past.0, lies_front xs ys (sector - x.count) place past.1)
]

lies_back : (xs ys : List Strip) (sector : ℕ) (place : Place) → Lies ys sector place → Lies (xs ++ ys) (column_length xs + sector) place
lies_back [] ys sector place lies =
    let At : ℕ → Type 0 = λ n. Lies ys n place in
    let same : sector ≡ 0 + sector = omega arith in
    subst At same lies
lies_back (x ∷ xs) ys sector place lies =
    let At : ℕ → Type 0 = λ n. Lies (xs ++ ys) n place in
    let same : column_length xs + sector ≡ x.count + column_length xs + sector - x.count = omega arith in
    inr (omega arith, subst At same (lies_back xs ys sector place lies))

pub lies_flat : (size : ℕ) (columns : List (List Strip)) (k sector : ℕ) (place : Place) → list_all (is_column size) columns ≡ true → k < length columns → Lies (column_at columns k) sector place →
    Lies (flat_map (λ strips. strips) columns) (k * size + sector) place
lies_flat size [] k sector place each lt lies = absurd (omega arith)
lies_flat size (c ∷ cs) zero sector place each lt lies =
    let At : ℕ → Type 0 = λ n. Lies (c ++ flat_map (λ strips. strips) cs) n place in
    let same : sector ≡ 0 * size + sector = omega arith in
    subst At same (lies_front c (flat_map (λ strips. strips) cs) sector place lies)
lies_flat size (c ∷ cs) (suc k) sector place each lt lies =
    let parts = and_parts (is_column size c) (list_all (is_column size) cs) each in
    let length_is : column_length c ≡ size = eqb-true (column_length c) size (and_parts (column_length c == size) (list_all is_strip c) parts.0).0 in
    let At : ℕ → Type 0 = λ n. Lies (c ++ flat_map (λ strips. strips) cs) n place in
    let same : column_length c + (k * size + sector) ≡ suc k * size + sector = omega (arith, length_is, suc-mul k size) in
    subst At same (lies_back c (flat_map (λ strips. strips) cs) (k * size + sector) place (lies_flat size cs k sector place parts.1 (omega arith) lies))

-- two sectors of columns at one place are the same sector of the same column
pub same_sector : (size : ℕ) (columns : List (List Strip)) (k k' sector sector' : ℕ) (place : Place) → list_all (is_column size) columns ≡ true →
    are_apart (flat_map (λ strips. strips) columns) ≡ true → k < length columns → k' < length columns → sector < size → sector' < size →
    Lies (column_at columns k) sector place → Lies (column_at columns k') sector' place → (k ≡ k') × (sector ≡ sector')
same_sector size columns k k' sector sector' place each apart lt lt' below below' lies lies' =
    let all : List Strip = flat_map (λ strips. strips) columns in
    let one : sector_at all place ≡ Some (k * size + sector) = sector_found all (k * size + sector) place apart (lies_flat size columns k sector place each lt lies) in
    let other : sector_at all place ≡ Some (k' * size + sector') = sector_found all (k' * size + sector') place apart (lies_flat size columns k' sector' place each lt' lies') in
    let same : k * size + sector ≡ k' * size + sector' = cc in (
      sym (div-mul-add k size sector below) ∙ ap (λ (n : ℕ). n / size) same ∙ div-mul-add k' size sector' below',
      sym (mod-mul-add k size sector below) ∙ ap (λ (n : ℕ). n % size) same ∙ mod-mul-add k' size sector' below',
    )
