-- The blocks of a layout lie on its strips.
use Rattle.std.proofs.Common.{◌≡◌, ◌≢◌, ◌⊎◌, ℕ, zero, suc, ◌+◌, ◌-◌, ◌<◌, ◌≤◌, ◌^◌, Bool, true, List, [], ◌∷◌, length, get_or, Option, Some, None, refl, sym, ap, ◌∙◌, subst, arith, inl, inr}
use Rattle.std.specs.Prelude.{slice_index, slice_index_or, nat_le, nat_lt}
use Rattle.std.specs.List.{All, list_all, flat_map}
use Rattle.std.proofs.lemmas.Bool.{and_parts, cases_lt, cases_eq, cond-true, cond-false, lt-ltb, le-ltb, leb-true}
use Rattle.std.proofs.lemmas.Bool.Decides.{nat_tests}
use Rattle.std.proofs.lemmas.List.Folds.{list_all-append}
use Rattle.std.proofs.lemmas.List.Elements.{All-nil, All-cons, All-head, All-tail}
use Rattle.vx_piece.specs.Seen.{Seen}
use Rattle.vx_layout.specs.declared.strip.Strip.{Strip}
use Rattle.vx_layout.specs.declared.place.Place.{Place}
use Rattle.vx_layout.specs.declared.layout.Layout.{Layout}
use Rattle.vx_layout.specs.Columns.{capacity, column_length, column_at, column_of, sector_of, place_in, place_of}
use Rattle.vx_layout.specs.Valid.{is_strip, is_apart}
use Rattle.vx_layout.proofs.ValidLemmas.{parts_of_layout, column_is_one}
use Rattle.vx_layout.proofs.PlaceLemmas.{column_inside, sector_inside}
use Rattle.vx_carve.specs.Together.{owners}
use Rattle.vx_carve.specs.Carved.{IsOn, IsAt, IsFreeAt, HaveNumbers, AreOn, AreFreeBlocks, AreApartBlocks, StaysElsewhere, StaysBeside}
use Rattle.vx_carve.specs.Strips.{EachStrip, HasNumber, IsFreeStrip, AreApartStrips, ArePlexes}
use Rattle.vx_carve.proofs.Spans.{one_at}

-- the place is a sector of the strip
record IsOnStrip (strip : Strip) (place : Place) : Type 0 where
  disk : place.disk ≡ strip.disk
  from : strip.start ≤ place.sector
  below : place.sector < strip.start + strip.count

-- the place is a sector of a strip that is so
abbrev LiesOn : (Strip → Type 0) → Option Place → Type 0
LiesOn P None = ⊥
LiesOn P (Some place) = (strip : Strip) × P strip × IsOnStrip strip place

placed : (P : Strip → Type 0) (strips : List Strip) (sector : ℕ) → All P strips → sector < column_length strips → LiesOn P (place_in strips sector)
placed P [] sector all lt = absurd (omega (arith, lt))
placed P (strip ∷ strips) sector all lt = elim (cases_lt sector strip.count) [
  | inl inside ↦ subst (LiesOn P) (sym (cond-true _ _ _ (lt-ltb sector strip.count inside))) (strip, All-head P strip strips all, record { disk = refl; from = omega arith; below = omega (arith, inside) })
  | inr past ↦ subst (LiesOn P) (sym (cond-false _ _ _ (le-ltb sector strip.count past))) (placed P strips (sector - strip.count) (All-tail P strip strips all) (omega (arith, past, lt)))
]

block_lies : (l : Layout) (P : Strip → Type 0) (b : ℕ) → b < capacity l.columns → EachStrip P l.columns → LiesOn P (place_of l.unit l.columns b)
block_lies l P b lt all =
    let parts = parts_of_layout l.unit l.columns l.valid in
    placed P (column_at l.columns (column_of l.unit l.columns b)) (sector_of l.unit l.columns b) (all (column_of l.unit l.columns b) [] (column_inside l.unit l.columns b parts lt)) (sector_inside l.unit l.columns b parts lt)

-- a test that all pass, each passes
all_pass : {X : Type 0} (test : X → Bool) (xs : List X) → list_all test xs ≡ true → All (λ x. test x ≡ true) xs
all_pass test [] h = All-nil (λ x. test x ≡ true)
all_pass test (x ∷ xs) h = let parts = and_parts (test x) (list_all test xs) h in All-cons (λ x. test x ≡ true) x xs parts.0 (all_pass test xs parts.1)

-- .. of the strips of columns too
each_passes : (test : Strip → Bool) (columns : List (List Strip)) → list_all test (flat_map (λ strips. strips) columns) ≡ true → EachStrip (λ x. test x ≡ true) columns
each_passes test [] h = All-nil (λ strips. All (λ x. test x ≡ true) strips)
each_passes test (strips ∷ columns) h =
    let parts = and_parts (list_all test strips) (list_all test (flat_map (λ strips. strips) columns)) (sym (list_all-append test strips (flat_map (λ strips. strips) columns)) ∙ h) in
    All-cons (λ strips. All (λ x. test x ≡ true) strips) strips columns (all_pass test strips parts.0) (each_passes test columns parts.1)

both_each : (P Q : Strip → Type 0) (columns : List (List Strip)) → EachStrip P columns → EachStrip Q columns → EachStrip (λ x. P x × Q x) columns
both_each P Q columns h k i d lt j e lt' = (h i d lt j e lt', k i d lt j e lt')

short : (strip : Strip) → is_strip strip ≡ true → strip.start + strip.count ≤ 2 ^ 40
short strip h = leb-true (strip.start + strip.count) (2 ^ 40) (and_parts (nat_lt 0 strip.count) (nat_le (strip.start + strip.count) (2 ^ 40)) h).1

each_short : (l : Layout) → EachStrip (λ x. is_strip x ≡ true) l.columns
each_short l i d lt = all_pass is_strip (get_or l.columns i d) (subst (λ strips. list_all is_strip strips ≡ true) (same_default l.columns i lt d) (column_is_one l.unit l.columns i (parts_of_layout l.unit l.columns l.valid) lt).1)
  where
    same_default : (columns : List (List Strip)) (i : ℕ) → i < length columns → (d : List Strip) → column_at columns i ≡ get_or columns i d
    same_default [] i lt d = absurd (omega (arith, lt))
    same_default (c ∷ columns) zero lt d = refl
    same_default (c ∷ columns) (suc i) lt d = same_default columns i (omega (arith, lt)) d

-- ---- on the devices, and in pieces

on_of : (numbers : List ℕ) (o : Option Place) → LiesOn (λ x. HasNumber numbers x × (is_strip x ≡ true)) o → IsOn numbers o
on_of numbers None h = absurd h
on_of numbers (Some place) (strip, p, on) =
    let d = on.disk in
    let n = p.0 in
    let b = on.below in
    let s = short strip p.1 in
    (omega (arith, d, n), omega (arith, b, s))

pub blocks_on : (l : Layout) (numbers : List ℕ) (start end : ℕ) → end ≤ capacity l.columns → EachStrip (HasNumber numbers) l.columns → AreOn numbers l.unit l.columns start end
blocks_on l numbers start end le all b from below =
    on_of numbers (place_of l.unit l.columns b) (block_lies l (λ x. HasNumber numbers x × (is_strip x ≡ true)) b (omega (arith, below, le)) (both_each (HasNumber numbers) (λ x. is_strip x ≡ true) l.columns all (each_short l)))

free_of : (numbers : List ℕ) (ps : List Seen) (o : Option Place) → LiesOn (IsFreeStrip numbers ps) o → IsFreeAt numbers ps o
free_of numbers ps None h = absurd h
free_of numbers ps (Some place) (strip, free, on) =
    let f = on.from in
    let b = on.below in
    let k = place.sector - strip.start in
    let at : 2048 + strip.start + k ≡ 2048 + place.sector = omega (arith, f) in
    ap (λ d. owners (slice_index numbers d) (2048 + place.sector) ps) on.disk ∙ ap (λ s. owners (slice_index numbers strip.disk) s ps) (sym at) ∙ free k (omega (arith, f, b))

pub blocks_free : (l : Layout) (numbers : List ℕ) (ps : List Seen) (start end : ℕ) → end ≤ capacity l.columns → EachStrip (IsFreeStrip numbers ps) l.columns → AreFreeBlocks numbers l.unit l.columns start end ps
blocks_free l numbers ps start end le all b from below = free_of numbers ps (place_of l.unit l.columns b) (block_lies l (IsFreeStrip numbers ps) b (omega (arith, below, le)) all)

-- ---- apart

-- a strip of the one and one of the other have no sector in common
not_both : (x y : Strip) (sector : ℕ) → is_apart x y ≡ true → x.disk ≡ y.disk → x.start ≤ sector → sector < x.start + x.count → y.start ≤ sector → sector < y.start + y.count → ⊥
not_both x y sector apart same a b c d = grind (arith, nat_tests)

each_apart : (columns columns' : List (List Strip)) → AreApartStrips columns columns' → EachStrip (λ x. EachStrip (λ y. is_apart x y ≡ true) columns') columns
each_apart columns columns' h i d lt j e lt' =
    each_passes (is_apart (get_or (get_or columns i d) j e)) columns' (each_passes (λ x. list_all (is_apart x) (flat_map (λ strips. strips) columns')) columns h i d lt j e lt')

-- the place is this sector, so it is one of the strip
at_strip : (numbers : List ℕ) (strip : Strip) (place : Place) (device sector : ℕ) → HaveNumbers numbers → strip.disk < length numbers → IsOnStrip strip place → IsAt numbers device sector (Some place) →
    (slice_index numbers strip.disk ≡ device) × (2048 + strip.start ≤ sector) × (sector < 2048 + strip.start + strip.count)
at_strip numbers strip place device sector have lt on at =
    let f = on.from in
    let b = on.below in
    let s = at.1 in
    (ap (slice_index numbers) (sym on.disk) ∙ at.0, omega (arith, f, s), omega (arith, b, s))

-- two strips that are apart do not have one sector of a device
not_one : (numbers : List ℕ) (x y : Strip) (device sector : ℕ) → HaveNumbers numbers → is_apart x y ≡ true → x.disk < length numbers → y.disk < length numbers →
    (slice_index numbers x.disk ≡ device) × (2048 + x.start ≤ sector) × (sector < 2048 + x.start + x.count) →
    (slice_index numbers y.disk ≡ device) × (2048 + y.start ≤ sector) × (sector < 2048 + y.start + y.count) → ⊥
not_one numbers x y device sector have apart lt lt' (d, a, b) (d', a', b') =
    not_both x y (sector - 2048) apart (have x.disk y.disk lt lt' (d ∙ sym d')) (omega (arith, a)) (omega (arith, a, b)) (omega (arith, a')) (omega (arith, a', b'))

-- a block and a strip
block_not_at : (numbers : List ℕ) (o : Option Place) (y : Strip) (device sector : ℕ) → HaveNumbers numbers → LiesOn (λ x. HasNumber numbers x × (is_apart x y ≡ true)) o → y.disk < length numbers → IsAt numbers device sector o →
    (slice_index numbers y.disk ≡ device) × (2048 + y.start ≤ sector) × (sector < 2048 + y.start + y.count) → ⊥
block_not_at numbers None y device sector have lies lt at own = absurd at
block_not_at numbers (Some place) y device sector have (x, p, on) lt at own = not_one numbers x y device sector have p.1 p.0 lt (at_strip numbers x place device sector have p.0 on at) own

blocks_not_at : (numbers : List ℕ) (o o' : Option Place) (columns' : List (List Strip)) (device sector : ℕ) → HaveNumbers numbers → LiesOn (λ y. HasNumber numbers y × LiesOn (λ x. HasNumber numbers x × (is_apart x y ≡ true)) o) o' → IsAt numbers device sector o → IsAt numbers device sector o' → ⊥
blocks_not_at numbers o None columns' device sector have lies at at' = absurd at'
blocks_not_at numbers o (Some place) columns' device sector have (y, p, on) at at' = block_not_at numbers o y device sector have p.1 p.0 at (at_strip numbers y place device sector have p.0 on at')

module _ (numbers : List ℕ) (have : HaveNumbers numbers) (l m : Layout) (numbered : EachStrip (HasNumber numbers) l.columns) (numbered' : EachStrip (HasNumber numbers) m.columns) (apart : AreApartStrips l.columns m.columns) where
  -- each strip of the other is apart from that of a block
  lies_apart : (b : ℕ) → b < capacity l.columns → EachStrip (λ y. HasNumber numbers y × LiesOn (λ x. HasNumber numbers x × (is_apart x y ≡ true)) (place_of l.unit l.columns b)) m.columns
  lies_apart b lt i d lt' j e lt'' = (
    numbered' i d lt' j e lt'',
    block_lies l (λ x. HasNumber numbers x × (is_apart x (get_or (get_or m.columns i d) j e) ≡ true)) b lt
        (both_each (HasNumber numbers) (λ x. is_apart x (get_or (get_or m.columns i d) j e) ≡ true) l.columns numbered (λ i' d' h' j' e' h''. each_apart l.columns m.columns apart i' d' h' j' e' h'' i d lt' j e lt'')),
  )

  pub blocks_apart : (b b' device sector : ℕ) → b < capacity l.columns → b' < capacity m.columns → IsAt numbers device sector (place_of l.unit l.columns b) → IsAt numbers device sector (place_of m.unit m.columns b') → ⊥
  blocks_apart b b' device sector lt lt' at at' =
      blocks_not_at numbers (place_of l.unit l.columns b) (place_of m.unit m.columns b') m.columns device sector have
      (block_lies m (λ y. HasNumber numbers y × LiesOn (λ x. HasNumber numbers x × (is_apart x y ≡ true)) (place_of l.unit l.columns b)) b' lt' (lies_apart b lt)) at at'

  -- once blocks of the one were taken, the strips of the other are in pieces as before
  pub strips_stay : (start end : ℕ) (ps qs : List Seen) → end ≤ capacity l.columns → StaysElsewhere numbers l.unit l.columns start end ps qs → EachStrip (IsFreeStrip numbers ps) m.columns → EachStrip (IsFreeStrip numbers qs) m.columns
  strips_stay start end ps qs le stays free i d lt j e lt' k less =
      let y = get_or (get_or m.columns i d) j e in
      stays (slice_index numbers y.disk) (2048 + y.start + k)
      (λ b from below at. let both = lies_apart b (omega (arith, below, le)) i d lt j e lt' in block_not_at numbers (place_of l.unit l.columns b) y (slice_index numbers y.disk) (2048 + y.start + k) have both.1 both.0 at (refl, omega arith, omega (arith, less)))
      ∙ free i d lt j e lt' k less

-- ---- some plexes

at_list : (numbers : List ℕ) (ls : List Layout) → ArePlexes numbers ls → (k : ℕ) (d : Layout) → k < length ls → EachStrip (HasNumber numbers) (slice_index_or ls k d).columns
at_list numbers ls plexes k d lt = plexes.numbered k d lt

pub list_apart : (numbers : List ℕ) (ls : List Layout) → HaveNumbers numbers → ArePlexes numbers ls → (j k : ℕ) (d : Layout) → j < length ls → k < length ls → j ≢ k →
    (start end : ℕ) → end ≤ capacity (slice_index_or ls j d).columns → end ≤ capacity (slice_index_or ls k d).columns →
    AreApartBlocks numbers (slice_index_or ls j d).unit (slice_index_or ls j d).columns (slice_index_or ls k d).unit (slice_index_or ls k d).columns start end
list_apart numbers ls have plexes j k d lt lt' other start end le le' b b' device sector from below from' below' at at' =
    blocks_apart numbers have (slice_index_or ls j d) (slice_index_or ls k d) (at_list numbers ls plexes j d lt) (at_list numbers ls plexes k d lt') (plexes.apart j k d lt lt' other) b b' device sector (omega (arith, below, le)) (omega (arith, below', le')) at at'

pub list_stays : (numbers : List ℕ) (ls : List Layout) → HaveNumbers numbers → ArePlexes numbers ls → (j k : ℕ) (d : Layout) → j < length ls → k < length ls → j ≢ k →
    (start end : ℕ) (ps qs : List Seen) → end ≤ capacity (slice_index_or ls j d).columns → StaysElsewhere numbers (slice_index_or ls j d).unit (slice_index_or ls j d).columns start end ps qs →
    EachStrip (IsFreeStrip numbers ps) (slice_index_or ls k d).columns → EachStrip (IsFreeStrip numbers qs) (slice_index_or ls k d).columns
list_stays numbers ls have plexes j k d lt lt' other start end ps qs le stays free =
    strips_stay numbers have (slice_index_or ls j d) (slice_index_or ls k d) (at_list numbers ls plexes j d lt) (at_list numbers ls plexes k d lt') (plexes.apart j k d lt lt' other) start end ps qs le stays free

pub volumes_stay : (numbers : List ℕ) (ls : List Layout) (m : Layout) → HaveNumbers numbers → All (λ (l : Layout). EachStrip (HasNumber numbers) l.columns) ls → EachStrip (HasNumber numbers) m.columns →
    All (λ (l : Layout). AreApartStrips l.columns m.columns) ls →
    (start end : ℕ) (ps qs : List Seen) → ((j : ℕ) (d : Layout) → j < length ls → end ≤ capacity (slice_index_or ls j d).columns) → StaysBeside numbers ls start end ps qs →
    EachStrip (IsFreeStrip numbers ps) m.columns → EachStrip (IsFreeStrip numbers qs) m.columns
volumes_stay numbers ls m have numbered numbered' apart start end ps qs inside stays free i d lt j e lt' k less =
    let y = get_or (get_or m.columns i d) j e in
    stays (slice_index numbers y.disk) (2048 + y.start + k)
    (λ n f lt'' b from below at.
    let l = slice_index_or ls n f in
    let short = inside n f lt'' in
    let both = lies_apart numbers have l m (numbered n f lt'') numbered' (apart n f lt'') b (omega (arith, below, short)) i d lt j e lt' in
    block_not_at numbers (place_of l.unit l.columns b) y (slice_index numbers y.disk) (2048 + y.start + k) have both.1 both.0 at (refl, omega arith, omega (arith, less)))
    ∙ free i d lt j e lt' k less

-- a place at its own sector
stays_at : (numbers : List ℕ) (o : Option Place) (ps qs : List Seen) → ((device sector : ℕ) → IsAt numbers device sector o → owners device sector qs ≡ owners device sector ps) → IsFreeAt numbers ps o → IsFreeAt numbers qs o
stays_at numbers None ps qs same free = absurd free
stays_at numbers (Some place) ps qs same free = same (slice_index numbers place.disk) (2048 + place.sector) (refl, refl) ∙ free

out_of_range : (b c start end : ℕ) → b ≡ c → start ≤ c → c < end → (b < start) ⊎ (end ≤ b) → ⊥
out_of_range b c start end e from below (inl before) = omega (arith, e, from, before)
out_of_range b c start end e from below (inr behind) = omega (arith, e, below, behind)

pub blocks_stay : (numbers : List ℕ) (ls : List Layout) → HaveNumbers numbers → ArePlexes numbers ls → (start end : ℕ) (ps qs : List Seen) → ((j : ℕ) (d : Layout) → j < length ls → end ≤ capacity (slice_index_or ls j d).columns) → StaysBeside numbers ls start end ps qs →
    (k : ℕ) (d : Layout) → k < length ls → (b : ℕ) → b < capacity (slice_index_or ls k d).columns → (b < start) ⊎ (end ≤ b) →
    IsFreeAt numbers ps (place_of (slice_index_or ls k d).unit (slice_index_or ls k d).columns b) → IsFreeAt numbers qs (place_of (slice_index_or ls k d).unit (slice_index_or ls k d).columns b)
blocks_stay numbers ls have plexes start end ps qs inside stays k d lt b below out free =
    stays_at numbers (place_of m.unit m.columns b) ps qs (λ device sector at. stays device sector (λ j e lt' c from below' at'. none device sector at j e lt' c from below' at')) free
  where
    m : Layout
    m = slice_index_or ls k d

    on : AreOn numbers m.unit m.columns 0 (capacity m.columns)
    on = blocks_on m numbers 0 (capacity m.columns) (omega arith) (at_list numbers ls plexes k d lt)

    same_list : (j : ℕ) (e : Layout) → j < length ls → slice_index_or ls j e ≡ slice_index_or ls j d
    same_list j e lt' = read ls j e lt'
      where
        read : (xs : List Layout) (j : ℕ) (e : Layout) → j < length xs → slice_index_or xs j e ≡ slice_index_or xs j d
        read [] j e less = absurd (omega (arith, less))
        read (x ∷ xs) zero e less = refl
        read (x ∷ xs) (suc j) e less = read xs j e (omega (arith, less))

    none : (device sector : ℕ) → IsAt numbers device sector (place_of m.unit m.columns b) → (j : ℕ) (e : Layout) → j < length ls → (c : ℕ) → start ≤ c → c < end → IsAt numbers device sector (place_of (slice_index_or ls j e).unit (slice_index_or ls j e).columns c) → ⊥
    none device sector at j e lt' c from below' at' =
        let here : IsAt numbers device sector (place_of (slice_index_or ls j d).unit (slice_index_or ls j d).columns c) = subst (λ (l : Layout). IsAt numbers device sector (place_of l.unit l.columns c)) (same_list j e lt') at' in
        let room = inside j d lt' in
        elim (cases_eq j k) [
          | inl same ↦
              let own : IsAt numbers device sector (place_of m.unit m.columns c) = subst (λ n. IsAt numbers device sector (place_of (slice_index_or ls n d).unit (slice_index_or ls n d).columns c)) same here in
              let short : end ≤ capacity m.columns = inside k d lt in
              let less : c < capacity m.columns = omega (arith, below', short) in
              out_of_range b c start end (one_at m.unit m.columns (parts_of_layout m.unit m.columns m.valid) numbers have b c device sector below less (on b (omega arith) below) (on c (omega arith) less) at own) from below' out
          | inr other ↦ blocks_apart numbers have (slice_index_or ls j d) m (at_list numbers ls plexes j d lt') (at_list numbers ls plexes k d lt) (plexes.apart j k d lt' lt other) c b device sector (omega (arith, below', room)) below here at
        ]
