-- The pieces of a volume one by one: they stay in their places, and which of them has failed or is cut.
use Rattle.std.proofs.Common.{◌≡◌, ℕ, zero, suc, ◌+◌, ◌-◌, ◌^◌, ◌<◌, ◌≤◌, ◌==◌, min, Bool, true, false, List, [], ◌∷◌, ◌++◌, refl, ◌∙◌, ap, subst, inl, inr, arith}
use Rattle.std.specs.Prelude.{◌⊎◌, if◌then◌else◌, length}
use Rattle.std.specs.List.{sum_by}
use Rattle.std.proofs.lemmas.List.Sums.{sum_by-cons}
use Rattle.vx_base.specs.Counts.{Rose}
use Rattle.vx_piece.specs.Seen.{Keeps, Seen}
use Rattle.vx_runs.specs.Run.{EachPiece, SomeCut}
use Rattle.vx_carve.specs.Together.{faults_of}
use Rattle.vx_pages.specs.declared.local_piece.LocalPiece.{Ghosts}
use Rattle.vx_pages.specs.Items.{item_at}
use Rattle.vx_pages.specs.Sector.{KeepsPiece}
use Rattle.vx_pages.specs.Stays.{piece_same}
use Rattle.vx_maps.specs.Creating.{copies_cut, run_cut}
use Rattle.vx_maps.specs.Going.{CopiesGo}
use Rattle.vx_maps.proofs.CopyLaws.{store_goes}
use Rattle.vx_cell.specs.Changes.{CellSeen}
use Rattle.vx_cell.specs.Plexes.{KeepPlexes, PieceRose, PlexSeen, RoseAt, SomePieceCut}
use Rattle.vx_cell.proofs.Changes.{same_test}
use Rattle.vx_cell.proofs.LogLaws.{or_cases}
use Rattle.vx_volume.specs.declared.log.VolumeLog.{VolumeLog}
use Rattle.vx_volume.specs.declared.log.VolumeLog.TheVariants.{Absent, Maps}
use Rattle.vx_volume.specs.Log.{LogGoes}
use Rattle.vx_volume.specs.Volume.{no_cell}
use Rattle.vx_lending.specs.RegionPieces.{all_pieces, pieces_of}
use Rattle.vx_lending.specs.Left.{region_plexes}
use Rattle.vx_lending.specs.Logs.{log_pieces}
use Rattle.vx_lending.specs.Pieces.{copy_pieces}

-- ---- they stay in their places

pub each_beside : (ps qs rs ss : List Seen) → EachPiece Keeps ps qs → EachPiece Keeps rs ss → EachPiece Keeps (ps ++ rs) (qs ++ ss)
each_beside [] [] rs ss a b = b
each_beside [] (q ∷ qs) rs ss a b = absurd a
each_beside (p ∷ ps) [] rs ss a b = absurd a
each_beside (p ∷ ps) (q ∷ qs) rs ss a b = (a.0, each_beside ps qs rs ss a.1 b)

pub plexes_stay : (ps qs : List PlexSeen) → KeepPlexes ps qs → EachPiece Keeps (pieces_of ps) (pieces_of qs)
plexes_stay [] [] keep = tt
plexes_stay [] (q ∷ qs) keep = absurd keep
plexes_stay (p ∷ ps) [] keep = absurd keep
plexes_stay (p ∷ ps) (q ∷ qs) keep = each_beside p.pieces q.pieces (pieces_of ps) (pieces_of qs) keep.0.pieces (plexes_stay ps qs keep.1)

pub cells_stay : (xs ys : List CellSeen) → length ys ≡ length xs → ((r : ℕ) → r < length xs → KeepPlexes (item_at no_cell xs r).plexes (item_at no_cell ys r).plexes) → EachPiece Keeps (all_pieces (region_plexes xs)) (all_pieces (region_plexes ys))
cells_stay [] [] size each = tt
cells_stay [] (y ∷ ys) size each = absurd (omega (arith, size))
cells_stay (x ∷ xs) [] size each = absurd (omega (arith, size))
cells_stay (x ∷ xs) (y ∷ ys) size each =
    each_beside (pieces_of x.plexes) (pieces_of y.plexes) (all_pieces (region_plexes xs)) (all_pieces (region_plexes ys)) (plexes_stay x.plexes y.plexes (each 0 (omega arith)))
    (cells_stay xs ys (omega (arith, size)) (λ r lt. each (suc r) (omega (arith, lt))))

pub weaker : (ps qs : List Seen) → EachPiece KeepsPiece ps qs → EachPiece Keeps ps qs
weaker [] [] a = tt
weaker [] (q ∷ qs) a = absurd a
weaker (p ∷ ps) [] a = absurd a
weaker (p ∷ ps) (q ∷ qs) a = (a.0.kept, weaker ps qs a.1)

copies_stay : (xs ys : List (List Seen)) → CopiesGo KeepsPiece xs ys → EachPiece Keeps (copy_pieces xs) (copy_pieces ys)
copies_stay [] [] go = tt
copies_stay [] (y ∷ ys) go = absurd go
copies_stay (x ∷ xs) [] go = absurd go
copies_stay (x ∷ xs) (y ∷ ys) go = each_beside x y (copy_pieces xs) (copy_pieces ys) (weaker x y go.0) (copies_stay xs ys go.1)

pub log_stays : {P : Type 0} {ghosts : Ghosts P} (x y : VolumeLog P ghosts) → LogGoes ghosts.seen x y → EachPiece Keeps (log_pieces ghosts.seen x) (log_pieces ghosts.seen y)
log_stays Absent Absent go = tt
log_stays Absent (Maps y) go = absurd go
log_stays (Maps x) Absent go = absurd go
log_stays (Maps x) (Maps y) go = copies_stay _ _ (store_goes KeepsPiece piece_same x y go.0)

-- ---- one of them has failed

-- a piece of the device has counted a failure
abbrev pub SomeRose : ℕ → List Seen → List Seen → Type 0
SomeRose device [] qs = ⊥
SomeRose device (p ∷ ps) [] = ⊥
SomeRose device (p ∷ ps) (q ∷ qs) = ((p.device ≡ device) × Rose p.faults q.faults) ⊎ SomeRose device ps qs

pub rose_first : (device : ℕ) (ps qs rs ss : List Seen) → SomeRose device ps qs → SomeRose device (ps ++ rs) (qs ++ ss)
rose_first device [] qs rs ss rose = absurd rose
rose_first device (p ∷ ps) [] rs ss rose = absurd rose
rose_first device (p ∷ ps) (q ∷ qs) rs ss (inl here) = inl here
rose_first device (p ∷ ps) (q ∷ qs) rs ss (inr rest) = inr (rose_first device ps qs rs ss rest)

pub rose_then : (device : ℕ) (ps qs rs ss : List Seen) → EachPiece Keeps ps qs → SomeRose device rs ss → SomeRose device (ps ++ rs) (qs ++ ss)
rose_then device [] [] rs ss keep rose = rose
rose_then device [] (q ∷ qs) rs ss keep rose = absurd keep
rose_then device (p ∷ ps) [] rs ss keep rose = absurd keep
rose_then device (p ∷ ps) (q ∷ qs) rs ss keep rose = inr (rose_then device ps qs rs ss keep.1 rose)

piece_rose : (i device : ℕ) (ps qs : List Seen) → PieceRose i device ps qs → SomeRose device ps qs
piece_rose zero device [] qs rose = absurd rose
piece_rose zero device (p ∷ ps) [] rose = absurd rose
piece_rose zero device (p ∷ ps) (q ∷ qs) rose = inl (rose.0, rose.1)
piece_rose (suc i) device [] qs rose = absurd rose
piece_rose (suc i) device (p ∷ ps) [] rose = absurd rose
piece_rose (suc i) device (p ∷ ps) (q ∷ qs) rose = inr (piece_rose i device ps qs rose)

pub plex_rose : (map piece device : ℕ) (ps qs : List PlexSeen) → KeepPlexes ps qs → RoseAt map piece device ps qs → SomeRose device (pieces_of ps) (pieces_of qs)
plex_rose map piece device [] qs keep rose = absurd rose
plex_rose map piece device (p ∷ ps) [] keep rose = absurd rose
plex_rose map piece device (p ∷ ps) (q ∷ qs) keep (inl here) = rose_first device p.pieces q.pieces (pieces_of ps) (pieces_of qs) (piece_rose here.1 device p.pieces q.pieces here.3)
plex_rose map piece device (p ∷ ps) (q ∷ qs) keep (inr rest) = rose_then device p.pieces q.pieces (pieces_of ps) (pieces_of qs) keep.0.pieces (plex_rose map piece device ps qs keep.1 rest)

pub cell_rose : (device : ℕ) (xs ys : List CellSeen) (r : ℕ) → r < length xs → length ys ≡ length xs → ((i : ℕ) → i < length xs → KeepPlexes (item_at no_cell xs i).plexes (item_at no_cell ys i).plexes) →
    SomeRose device (pieces_of (item_at no_cell xs r).plexes) (pieces_of (item_at no_cell ys r).plexes) → SomeRose device (all_pieces (region_plexes xs)) (all_pieces (region_plexes ys))
cell_rose device [] ys r lt size each rose = absurd (omega (arith, lt))
cell_rose device (x ∷ xs) [] r lt size each rose = absurd (omega (arith, size))
cell_rose device (x ∷ xs) (y ∷ ys) zero lt size each rose = rose_first device (pieces_of x.plexes) (pieces_of y.plexes) (all_pieces (region_plexes xs)) (all_pieces (region_plexes ys)) rose
cell_rose device (x ∷ xs) (y ∷ ys) (suc r) lt size each rose =
    rose_then device (pieces_of x.plexes) (pieces_of y.plexes) (all_pieces (region_plexes xs)) (all_pieces (region_plexes ys)) (plexes_stay x.plexes y.plexes (each 0 (omega arith)))
    (cell_rose device xs ys r (omega (arith, lt)) (omega (arith, size)) (λ i less. each (suc i) (omega (arith, less))) rose)

-- ---- the counts of a device

abbrev counted_if : Bool → ℕ → ℕ
counted_if b n = if b then n else 0

if_less : (b : Bool) (m n : ℕ) → m ≤ n → counted_if b m ≤ counted_if b n
if_less true m n le = le
if_less false m n le = omega arith

same_device : (p q : Seen) (device : ℕ) → Keeps p q → faults_of device q ≡ counted_if (p.device == device) q.faults
same_device p q device keep = ap (λ (n : ℕ). counted_if (n == device) q.faults) keep.device

pub one_grows : (p q : Seen) (device : ℕ) → Keeps p q → faults_of device p ≤ faults_of device q
one_grows p q device keep = let e = same_device p q device keep in let f = if_less (p.device == device) p.faults q.faults keep.faults in omega (arith, e, f)

pub sums_grow : (device : ℕ) (ps qs : List Seen) → EachPiece Keeps ps qs → sum_by (faults_of device) ps ≤ sum_by (faults_of device) qs
sums_grow device [] [] keep = omega arith
sums_grow device [] (q ∷ qs) keep = absurd keep
sums_grow device (p ∷ ps) [] keep = absurd keep
sums_grow device (p ∷ ps) (q ∷ qs) keep =
    let a = sum_by-cons (faults_of device) p ps in
    let b = sum_by-cons (faults_of device) q qs in
    let e = same_device p q device keep.0 in
    let f = if_less (p.device == device) p.faults q.faults keep.0.faults in
    let rest = sums_grow device ps qs keep.1 in
    omega (arith, a, b, e, f, rest)

if_true : (b : Bool) (n : ℕ) → b ≡ true → counted_if b n ≡ n
if_true true n is = refl
if_true false n is = cc

-- the sum of the counts has risen
abbrev pub SumRose : ℕ → ℕ → Type 0
SumRose m n = min (m + 1) (2 ^ 64 - 1) ≤ n

rose_here : (a a' s s' : ℕ) → Rose a a' → s ≤ s' → SumRose (a + s) (a' + s')
rose_here a a' s s' rose le = omega (arith, rose, le)

rose_there : (a a' s s' : ℕ) → a ≤ a' → SumRose s s' → SumRose (a + s) (a' + s')
rose_there a a' s s' le rose = omega (arith, rose, le)

pub sum_rose : (device : ℕ) (ps qs : List Seen) → EachPiece Keeps ps qs → SomeRose device ps qs → SumRose (sum_by (faults_of device) ps) (sum_by (faults_of device) qs)
sum_rose device [] qs keep rose = absurd rose
sum_rose device (p ∷ ps) [] keep rose = absurd rose
sum_rose device (p ∷ ps) (q ∷ qs) keep (inl here) =
    let a = sum_by-cons (faults_of device) p ps in
    let b = sum_by-cons (faults_of device) q qs in
    let own : (p.device == device) ≡ true = subst (λ (n : ℕ). (p.device == n) ≡ true) here.0 (same_test p.device) in
    let e = if_true (p.device == device) p.faults own in
    let f : faults_of device q ≡ q.faults = same_device p q device keep.0 ∙ if_true (p.device == device) q.faults own in
    let rest = sums_grow device ps qs keep.1 in
    let both = rose_here p.faults q.faults (sum_by (faults_of device) ps) (sum_by (faults_of device) qs) here.1 rest in
    omega (arith, a, b, e, f, both)
sum_rose device (p ∷ ps) (q ∷ qs) keep (inr there) =
    let a = sum_by-cons (faults_of device) p ps in
    let b = sum_by-cons (faults_of device) q qs in
    let e = same_device p q device keep.0 in
    let f = if_less (p.device == device) p.faults q.faults keep.0.faults in
    let rest = sum_rose device ps qs keep.1 there in
    let both = rose_there (faults_of device p) (faults_of device q) (sum_by (faults_of device) ps) (sum_by (faults_of device) qs) (omega (arith, e, f)) rest in
    omega (arith, a, b, both)

-- ---- one of them is cut

pub cut_first : (ps rs : List Seen) → SomeCut ps → SomeCut (ps ++ rs)
cut_first [] rs cut = absurd cut
cut_first (p ∷ ps) rs (inl here) = inl here
cut_first (p ∷ ps) rs (inr rest) = inr (cut_first ps rs rest)

pub cut_then : (ps rs : List Seen) → SomeCut rs → SomeCut (ps ++ rs)
cut_then [] rs cut = cut
cut_then (p ∷ ps) rs cut = inr (cut_then ps rs cut)

plex_cut : (ps : List PlexSeen) → SomePieceCut ps → SomeCut (pieces_of ps)
plex_cut [] cut = absurd cut
plex_cut (p ∷ ps) (inl here) = cut_first p.pieces (pieces_of ps) here
plex_cut (p ∷ ps) (inr rest) = cut_then p.pieces (pieces_of ps) (plex_cut ps rest)

pub cell_cut : (xs : List CellSeen) (r : ℕ) → r < length xs → SomePieceCut (item_at no_cell xs r).plexes → SomeCut (all_pieces (region_plexes xs))
cell_cut [] r lt cut = absurd (omega (arith, lt))
cell_cut (x ∷ xs) zero lt cut = cut_first (pieces_of x.plexes) (all_pieces (region_plexes xs)) (plex_cut x.plexes cut)
cell_cut (x ∷ xs) (suc r) lt cut = cut_then (pieces_of x.plexes) (all_pieces (region_plexes xs)) (cell_cut xs r (omega (arith, lt)) cut)

some_cut : (ps : List Seen) → run_cut ps ≡ true → SomeCut ps
some_cut [] is = cc
some_cut (p ∷ ps) is = elim (or_cases p.cut (run_cut ps) is) [ inl here ↦ inl here | inr rest ↦ inr (some_cut ps rest) ]

pub copy_cut : (xs : List (List Seen)) → copies_cut xs ≡ true → SomeCut (copy_pieces xs)
copy_cut [] is = cc
copy_cut (x ∷ xs) is = elim (or_cases (run_cut x) (copies_cut xs) is) [ inl here ↦ cut_first x (copy_pieces xs) (some_cut x here) | inr rest ↦ cut_then x (copy_pieces xs) (copy_cut xs rest) ]
