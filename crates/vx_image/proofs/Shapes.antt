-- The columns of a plex of a valid configuration are a layout that holds its volume.
use Rattle.std.proofs.Common.{◌≡◌, ℕ, zero, suc, ◌+◌, ◌*◌, ◌%◌, ◌<◌, ◌≤◌, ◌^◌, Bool, true, [], length, Option, Some, None, refl, sym, ◌∙◌, ap, subst, inl, inr, arith, ◌&&◌, ◌||◌, ◌==◌, nat_le, nat_lt}
use Rattle.std.specs.List.{list_all, flat_map}
use Rattle.std.specs.Str.{bytes_eq}
use Rattle.std.proofs.lemmas.Bool.{false≢true, and_parts, and_from, cases_lt, le-leb, leb-true, lt-ltb, ltb-true, eq-eqb, eqb-true, or_left, or_right}
use Rattle.vx_base.specs.Named.{Word}
use Rattle.vx_base.proofs.NamedLemmas.{bytes_eq_same}
use Rattle.vx_block.specs.Geometry.{is_geometry}
use Rattle.vx_layout.specs.Columns as layout
use Rattle.vx_layout.specs.Valid.{is_column, are_apart, is_layout}
use Rattle.vx_config_parts.specs.declared.object.Object.TheVariants.{PlexRecord, VolRecord}
use Rattle.vx_config_parts.specs.declared.plex.Plex.{Plex}
use Rattle.vx_config_parts.specs.declared.plex.PlexKind.{PlexKind}
use Rattle.vx_config_parts.specs.declared.plex.PlexKind.TheVariants.{Data, Log}
use Rattle.vx_config_parts.specs.declared.plex.PlexLayout.{PlexLayout}
use Rattle.vx_config_parts.specs.declared.plex.PlexLayout.TheVariants.{Concat, Stripe}
use Rattle.vx_config_parts.specs.declared.vol.Vol.{Vol}
use Rattle.vx_config_parts.specs.Objects.{refers, is_data, is_log, is_log_plex_of}
use Rattle.vx_rules.specs.Below.{all_below}
use Rattle.vx_rules.specs.Columns as extents
use Rattle.vx_rules.specs.Columns.{is_in_column, all_pieces_good, column_begins, columns_are_equal, columns_are_good, layout_is_good, plex_length}
use Rattle.vx_rules.specs.Sizes.{holds, layout_fits_kind, log_length}
use Rattle.vx_rules.specs.Limits.{is_short, fits_word, map_fits}
use Rattle.vx_rules.specs.Whole.{holds_volume}
use Rattle.vx_objects.specs.declared.config.Config.{Config}
use Rattle.vx_objects.specs.Config.{objects_of}
use Rattle.vx_image.specs.Lies.{strips_from, columns_from, columns_of, HoldsItsVolume}
use Rattle.vx_image.proofs.PlexMembers.{IsIn, one_in, one_named, subdisk_of, subdisk_any, vol_any}
use Rattle.vx_rules.proofs.InOrder.{names_differ}
use Rattle.vx_image.proofs.Valid.{numbers_are, plex_whole}
use Rattle.vx_image.proofs.Plexes.{IsValid, and3, and4, filled, column_end, column_sum, column_short}
use Rattle.vx_image.proofs.Apart.{strips_good, apart_columns}

-- what the rule of whole plexes says of one
pub record IsGood (c : Config) (p : Plex) : Type 0 where
  pub shape : layout_is_good (objects_of c) p p.layout ≡ true
  pub equal : columns_are_equal (objects_of c) p ≡ true
  pub pieces : list_all (λ o. all_pieces_good (objects_of c) p o) (objects_of c) ≡ true
  pub volume : holds_volume (objects_of c) p p.vol ≡ true

pub plex_good : (c : Config) → IsValid c → (p : Plex) → IsIn (objects_of c) (PlexRecord p) → IsGood c p
plex_good c v p h =
    let w = and3 (layout_fits_kind p.kind p.layout) (columns_are_good (objects_of c) p) (holds_volume (objects_of c) p p.vol) (plex_whole (objects_of c) p v h) in
    let g = and3 (layout_is_good (objects_of c) p p.layout) (columns_are_equal (objects_of c) p) (list_all (λ o. all_pieces_good (objects_of c) p o) (objects_of c)) w.1 in
    record { shape = g.0; equal = g.1; pieces = g.2; volume = w.2 }

-- the sectors of its first column
abbrev pub first_length : Config → Plex → ℕ
first_length c p = extents.column_length (objects_of c) p.name 0

record IsShape (c : Config) (p : Plex) : Type 0 where
  some : 0 < p.ncol
  unit : 0 < p.unit
  rows : (p.ncol == 1 || first_length c p % p.unit == 0) ≡ true

shape_of : (c : Config) (p : Plex) (l : PlexLayout) → layout_is_good (objects_of c) p l ≡ true → IsShape c p
shape_of c p Concat h =
    let parts = and_parts (p.ncol == 1) (p.unit == 128) h in
    let one = eqb-true p.ncol 1 parts.0 in
    let unit = eqb-true p.unit 128 parts.1 in
    record { some = omega (arith, one); unit = omega (arith, unit); rows = or_left _ _ parts.0 }
shape_of c p Stripe h =
    let parts = and4 (nat_le 2 p.ncol) (nat_le p.ncol 16) (nat_lt 0 p.unit) (first_length c p % p.unit == 0) h in
    let two = leb-true 2 p.ncol parts.0 in
    record { some = omega (arith, two); unit = ltb-true 0 p.unit parts.2; rows = or_right _ _ parts.3 }

below_at : (test : ℕ → Bool) (n k : ℕ) → k < n → all_below n test ≡ true → test k ≡ true
below_at test zero k lt h = absurd (omega (arith, lt))
below_at test (suc n) k lt h =
    let parts = and_parts (all_below n test) (test n) h in
    elim (cases_lt k n) [
      | inl less ↦ below_at test n k less parts.0
      | inr le ↦ let e : n ≡ k = omega (arith, le, lt) in subst (λ i. test i ≡ true) e parts.1
    ]

column_parts : (c : Config) (p : Plex) → columns_are_equal (objects_of c) p ≡ true → (col : ℕ) → col < p.ncol → (column_begins (objects_of c) p.name col ≡ true) × (extents.column_length (objects_of c) p.name col ≡ first_length c p)
column_parts c p h col lt =
    let parts = and_parts (column_begins (objects_of c) p.name col) (extents.column_length (objects_of c) p.name col == first_length c p) (below_at (λ k. column_begins (objects_of c) p.name k && extents.column_length (objects_of c) p.name k == first_length c p) p.ncol col lt h) in
    (parts.0, eqb-true (extents.column_length (objects_of c) p.name col) (first_length c p) parts.1)

first_some : (c : Config) → IsValid c → (p : Plex) → column_begins (objects_of c) p.name 0 ≡ true → 0 < first_length c p
first_some c v p h =
    let r = subdisk_any (λ s. is_in_column p.name 0 s && s.at == 0) (objects_of c) h in
    let there = subdisk_of c r.0 r.1 in
    let parts = and_parts (is_in_column p.name 0 r.0) (r.0.at == 0) r.2 in
    let end = column_end c p.name 0 in
    let reach = end.reaches r.0 (there, parts.0) in
    let long = filled c v r.0 there in
    omega (arith, reach, long)

-- ---- the columns

pub columns_length : (n : ℕ) (c : Config) (name : Word) (col : ℕ) → length (columns_from n c name col) ≡ n
columns_length zero c name col = refl
columns_length (suc n) c name col = ap suc (columns_length n c name (col + 1))

first_column : (n : ℕ) (c : Config) (name : Word) (col : ℕ) → 0 < n → layout.column_at (columns_from n c name col) 0 ≡ strips_from (length c.subdisks) c name col 0
first_column zero c name col lt = absurd (omega (arith, lt))
first_column (suc n) c name col lt = refl

columns_good : (c : Config) → IsValid c → (p : Plex) → IsGood c p → (n col : ℕ) → col + n ≤ p.ncol → list_all (is_column (first_length c p)) (columns_from n c p.name col) ≡ true
columns_good c v p g zero col le = refl
columns_good c v p g (suc n) col le =
    and_from _ _
    (and_from _ _ (eq-eqb (layout.column_length (strips_from (length c.subdisks) c p.name col 0)) (first_length c p) (column_sum c v p g.pieces col ∙ (column_parts c p g.equal col (omega (arith, le))).1)) (strips_good c v (length c.subdisks) p.name col 0))
    (columns_good c v p g n (col + 1) (omega (arith, le)))

size_is : (c : Config) → IsValid c → (p : Plex) → IsGood c p → 0 < p.ncol → layout.column_length (layout.column_at (columns_of c p) 0) ≡ first_length c p
size_is c v p g some = ap layout.column_length (first_column p.ncol c p.name 0 some) ∙ column_sum c v p g.pieces 0

and8 : (a b c d e f g h : Bool) → a ≡ true → b ≡ true → c ≡ true → d ≡ true → e ≡ true → f ≡ true → g ≡ true → h ≡ true → (a && b && c && d && e && f && g && h) ≡ true
and8 a b c d e f g h i j k l m n o p = rw i (rw j (rw k (rw l (rw m (rw n (rw o p))))))

layout_with : (c : Config) → IsValid c → (p : Plex) → IsGood c p → IsShape c p → p.unit < 2 ^ 40 → is_layout p.unit (columns_of c p) ≡ true
layout_with c v p g shape short =
    let columns = columns_of c p in
    let size = layout.column_length (layout.column_at (columns_of c p) 0) in
    let is : size ≡ first_length c p = size_is c v p g shape.some in
    let many : length columns ≡ p.ncol = columns_length p.ncol c p.name 0 in
    let some = shape.some in
    let pos = first_some c v p (column_parts c p g.equal 0 some).0 in
    let least = column_short c v p.name 0 in
    and8 (nat_lt 0 (length columns)) (nat_lt 0 p.unit) (nat_le p.unit (2 ^ 40)) (nat_lt 0 size) (list_all (is_column size) columns) (length columns == 1 || size % p.unit == 0) (are_apart (flat_map (λ strips. strips) columns)) (nat_lt size (2 ^ 64))
    (lt-ltb 0 (length columns) (omega (arith, many, some)))
    (lt-ltb 0 p.unit shape.unit)
    (le-leb p.unit (2 ^ 40) (omega (arith, short)))
    (lt-ltb 0 size (omega (arith, is, pos)))
    (subst (λ n. list_all (is_column n) columns ≡ true) (sym is) (columns_good c v p g p.ncol 0 (omega arith)))
    (subst (λ n. (n == 1 || size % p.unit == 0) ≡ true) (sym many) (subst (λ n. (p.ncol == 1 || n % p.unit == 0) ≡ true) (sym is) shape.rows))
    (apart_columns c v p.ncol p.name 0)
    (lt-ltb size (2 ^ 64) (omega (arith, is, least)))

pub lies : (c : Config) → IsValid c → (p : Plex) → IsIn (objects_of c) (PlexRecord p) → is_layout p.unit (columns_of c p) ≡ true
lies c v p h =
    let g = plex_good c v p h in
    layout_with c v p g (shape_of c p p.layout g.shape) (ltb-true p.unit (2 ^ 40) (and3 (is_short p.unit) (fits_word p.ncol) (map_fits p.map) (numbers_are (objects_of c) (PlexRecord p) v h)).0)

-- ---- the volume

data_holds : (k : PlexKind) (size : ℕ) (v : Vol) → is_data k ≡ true → holds k size v ≡ true → v.len ≤ size
data_holds Data size v h k = leb-true v.len size k
data_holds Log size v h k = absurd (false≢true h)

same_vol : (v w : Vol) → VolRecord v ≡ VolRecord w → v ≡ w
same_vol v w e = cc

volume_fits : (c : Config) → IsValid c → (p : Plex) (v : Vol) → IsIn (objects_of c) (VolRecord v) → is_data p.kind ≡ true → (o : Option Word) → refers o v.name ≡ true → holds_volume (objects_of c) p o ≡ true → v.len ≤ plex_length (objects_of c) p
volume_fits c e p v h kind None r w = absurd (false≢true r)
volume_fits c e p v h kind (Some vol) r w =
    let found = vol_any (λ x. bytes_eq x.name vol && holds p.kind (plex_length (objects_of c) p) x) (objects_of c) w in
    let parts = and_parts (bytes_eq found.0.name vol) (holds p.kind (plex_length (objects_of c) p) found.0) found.2 in
    let name = bytes_eq_same found.0.name vol parts.0 ∙ bytes_eq_same vol v.name r in
    let len = ap (λ (x : Vol). x.len) (same_vol found.0 v (one_named [] (objects_of c) (VolRecord found.0) (VolRecord v) (names_differ (objects_of c) e) found.1 h name)) in
    let fits = data_holds p.kind (plex_length (objects_of c) p) found.0 kind parts.1 in
    omega (arith, len, fits)

-- the blocks of its columns are the sectors of the plex
sectors_are : (c : Config) → IsValid c → (p : Plex) → IsGood c p → IsShape c p → layout.capacity (columns_of c p) ≡ plex_length (objects_of c) p
sectors_are c e p g shape =
    ap (λ n. n * layout.column_length (layout.column_at (columns_of c p) 0)) (columns_length p.ncol c p.name 0) ∙ ap (λ n. p.ncol * n) (size_is c e p g shape.some)

pub holds_its_volume : (c : Config) → IsValid c → (p : Plex) → IsIn (objects_of c) (PlexRecord p) → HoldsItsVolume c p (columns_of c p)
holds_its_volume c e p h = λ v there of.
    let g = plex_good c e p h in
    let parts = and_parts (refers p.vol v.name) (is_data p.kind) of in
    let fits = volume_fits c e p v (one_in (objects_of c) (VolRecord v) there) parts.1 p.vol parts.0 g.volume in
    subst (λ n. v.len ≤ n) (sym (sectors_are c e p g (shape_of c p p.layout g.shape))) fits

log_holds : (k : PlexKind) (size : ℕ) (v : Vol) → is_log k ≡ true → holds k size v ≡ true → log_length v.len v.region ≤ size
log_holds Data size v h k = absurd (false≢true h)
log_holds Log size v h k = leb-true (log_length v.len v.region) size (and_parts (is_geometry v.len v.region) (nat_le (log_length v.len v.region) size) k).1

log_fits : (c : Config) → IsValid c → (p : Plex) (v : Vol) → IsIn (objects_of c) (VolRecord v) → is_log p.kind ≡ true → (o : Option Word) → refers o v.name ≡ true → holds_volume (objects_of c) p o ≡ true → log_length v.len v.region ≤ plex_length (objects_of c) p
log_fits c e p v h kind None r w = absurd (false≢true r)
log_fits c e p v h kind (Some vol) r w =
    let found = vol_any (λ x. bytes_eq x.name vol && holds p.kind (plex_length (objects_of c) p) x) (objects_of c) w in
    let parts = and_parts (bytes_eq found.0.name vol) (holds p.kind (plex_length (objects_of c) p) found.0) found.2 in
    let name = bytes_eq_same found.0.name vol parts.0 ∙ bytes_eq_same vol v.name r in
    let same = same_vol found.0 v (one_named [] (objects_of c) (VolRecord found.0) (VolRecord v) (names_differ (objects_of c) e) found.1 h name) in
    subst (λ x. log_length x.len x.region ≤ plex_length (objects_of c) p) same (log_holds p.kind (plex_length (objects_of c) p) found.0 kind parts.1)

-- a log plex of a volume has room for its change maps
pub holds_its_log : (c : Config) → IsValid c → (p : Plex) → IsIn (objects_of c) (PlexRecord p) → (v : Vol) → IsIn (objects_of c) (VolRecord v) → is_log_plex_of v.name p ≡ true →
    log_length v.len v.region ≤ layout.capacity (columns_of c p)
holds_its_log c e p h v there of =
    let g = plex_good c e p h in
    let parts = and_parts (refers p.vol v.name) (is_log p.kind) of in
    subst (λ n. log_length v.len v.region ≤ n) (sym (sectors_are c e p g (shape_of c p p.layout g.shape))) (log_fits c e p v there parts.1 p.vol parts.0 g.volume)
