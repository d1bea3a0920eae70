-- Where the sectors of pieces lie, and what they hold there.
use Rattle.std.proofs.Common.{◌≡◌, ℕ, ◌+◌, ◌-◌, ◌<◌, Bool, true, false, cond, Option, Some, None, List, [], ◌∷◌, ◌++◌, map, refl, sym, ap, ◌∙◌, arith}
use Rattle.std.specs.Prelude.{nat_lt, slice_index}
use Rattle.std.specs.List.{All}
use Rattle.std.proofs.lemmas.Bool.{ltb-true, ltb-false}
use Rattle.std.proofs.lemmas.List.Elements.{All-head, All-tail, All-nil, All-cons}
use Rattle.vx_base.specs.Blocks.{Contents}
use Rattle.vx_mask.specs.Mask.{has}
use Rattle.vx_piece.specs.Seen.{Seen}
use Rattle.vx_runs.specs.Part.{told_or}
use Rattle.vx_runs.specs.Run.{run_contents, run_sectors}
use Rattle.vx_cut.specs.Same.{run_at, sector_in}
use Rattle.vx_cut.specs.Same.{SectorSeen as CutSector}
use Rattle.vx_layout.specs.declared.run.Run.{Run}
use Rattle.vx_layout.specs.declared.strip.Strip.{Strip}
use Rattle.vx_layout.specs.declared.place.Place.{Place}
use Rattle.vx_layout.specs.Columns.{place_of}
use Rattle.vx_layout.specs.Runs.{AreRuns}
use Rattle.vx_carve.specs.Carved.{AreCut, ArePieces}
use Rattle.vx_carve.specs.Strips.{all_lie_in}
use Rattle.vx_carve.specs.Together.{Holds, HoldsTold, IsRunOf}
use Rattle.vx_config_parts.specs.declared.disk.Disk.{Disk}
use Rattle.vx_image.specs.Room.{public_of}
use Rattle.vx_image.specs.Bytes.{Sectors, bytes_at}
use Rattle.vx_lending.specs.FormLaws.{good_disks}
use Rattle.vx_volume_laws.specs.Contents.{AreSectorsOf}
use Rattle.vx_volume_laws.proofs.OpenedRuns.{good_place}
use Rattle.vx_volume_laws.specs.Places.{Spot, spot, spot_at, spot_of, LieOn, EachCutLies, EachKeptRunLies, EachSameRunLies}

-- ---- pieces of runs

spot_is : (d d' s s' : ℕ) → d ≡ d' → s ≡ s' → Some (spot d s) ≡ Some (spot d' s')
spot_is d d' s s' e f = ap (λ (n : ℕ). Some (spot n s)) e ∙ ap (λ (n : ℕ). Some (spot d' n)) f

module _ (numbers : List ℕ) (unit : ℕ) (columns : List (List Strip)) where
  runs_lie : (runs : List Run) (ps : List Seen) (start end k : ℕ) → AreRuns unit columns start end runs → ArePieces numbers runs ps → start + k < end → spot_at ps k ≡ spot_of numbers (place_of unit columns (start + k))
  runs_lie [] [] start end k are pieces lt = let same : start ≡ end = are in absurd (omega (arith, same, lt))
  runs_lie [] (p ∷ ps) start end k are pieces lt = absurd pieces
  runs_lie (run ∷ runs) [] start end k are pieces lt = absurd pieces
  runs_lie (run ∷ runs) (p ∷ ps) start end k are pieces lt = by (λ j more. runs_lie runs ps (start + run.count) end j are.3 pieces.1 more) (nat_lt k p.sectors) refl
    where
      is : IsRunOf (slice_index numbers run.disk) (2048 + run.sector) run.count p
      is = pieces.0

      at : k < run.count → place_of unit columns (start + k) ≡ Some (record { disk = run.disk; sector = run.sector + k })
      at low = ap (λ (n : ℕ). place_of unit columns (n + k)) (sym are.0) ∙ are.1.places k low

      by : ((j : ℕ) → start + run.count + j < end → spot_at ps j ≡ spot_of numbers (place_of unit columns (start + run.count + j))) → (b : Bool) → nat_lt k p.sectors ≡ b →
          cond b (Some (spot p.device (p.start + k))) (spot_at ps (k - p.sectors)) ≡ spot_of numbers (place_of unit columns (start + k))
      by rest true e =
          let low = ltb-true k p.sectors e in
          let count = is.count_is in
          let first = is.start_is in
          spot_is p.device (slice_index numbers run.disk) (p.start + k) (2048 + (run.sector + k)) is.device_is (omega (arith, first)) ∙ ap (spot_of numbers) (sym (at (omega (arith, low, count))))
      by rest false e =
          let high = ltb-false k p.sectors e in
          let count = is.count_is in
          let same : start + run.count + (k - p.sectors) ≡ start + k = omega (arith, high, count) in
          rest (k - p.sectors) (omega (arith, same, lt)) ∙ ap (λ (n : ℕ). spot_of numbers (place_of unit columns n)) same

  -- they have as many sectors as there are blocks
  runs_long : (runs : List Run) (ps : List Seen) (start end : ℕ) → AreRuns unit columns start end runs → ArePieces numbers runs ps → start + run_sectors ps ≡ end
  runs_long [] [] start end are pieces = let same : start ≡ end = are in omega (arith, same)
  runs_long [] (p ∷ ps) start end are pieces = absurd pieces
  runs_long (run ∷ runs) [] start end are pieces = absurd pieces
  runs_long (run ∷ runs) (p ∷ ps) start end are pieces =
      let rest = runs_long runs ps (start + run.count) end are.3 pieces.1 in
      let here = pieces.0.count_is in
      omega (arith, rest, here)

pub cut_long : (numbers : List ℕ) (unit : ℕ) (columns : List (List Strip)) (start end : ℕ) (ps : List Seen) → AreCut numbers unit columns start end ps → start + run_sectors ps ≡ end
cut_long numbers unit columns start end ps cut = runs_long numbers unit columns cut.runs ps start end cut.are_runs cut.pieces

pub cut_lies : EachCutLies
cut_lies numbers unit columns start end ps cut k lt = runs_lie numbers unit columns cut.runs ps start end k cut.are_runs cut.pieces lt

-- ---- the same run

spot_in : Option CutSector → Option Spot
spot_in None = None
spot_in (Some s) = Some (spot s.device s.place)

run_spot : (ps : List Seen) (k : ℕ) → spot_at ps k ≡ spot_in (run_at ps k)
unfolding spot_in
run_spot [] k = refl
run_spot (p ∷ ps) k = pick (nat_lt k p.sectors) (run_spot ps (k - p.sectors))
  where
    pick : (b : Bool) → spot_at ps (k - p.sectors) ≡ spot_in (run_at ps (k - p.sectors)) →
        cond b (Some (spot p.device (p.start + k))) (spot_at ps (k - p.sectors)) ≡ spot_in (cond b (Some (sector_in p k)) (run_at ps (k - p.sectors)))
    pick true rest = refl
    pick false rest = rest

pub same_lies : EachSameRunLies
same_lies old new same k = run_spot new k ∙ ap spot_in (same.each k) ∙ sym (run_spot old k)

-- ---- kept pieces

pub kept_lies : EachKeptRunLies
kept_lies [] [] kept k = refl
kept_lies [] (q ∷ qs) kept k = absurd kept
kept_lies (p ∷ ps) [] kept k = absurd kept
kept_lies (p ∷ ps) (q ∷ qs) kept k =
    ap (λ (n : ℕ). cond (nat_lt k n) (Some (spot q.device (q.start + k))) (spot_at qs (k - n))) kept.0.sectors
    ∙ ap (λ (s : Option Spot). cond (nat_lt k p.sectors) s (spot_at qs (k - p.sectors))) (spot_is q.device p.device (q.start + k) (p.start + k) kept.0.device (ap (λ (n : ℕ). n + k) kept.0.start))
    ∙ ap (λ (s : Option Spot). cond (nat_lt k p.sectors) (Some (spot p.device (p.start + k))) s) (kept_lies ps qs kept.1 (k - p.sectors))

-- ---- what they hold

-- what the devices hold there
abbrev value_at : (ℕ → Contents) → Option Spot → List ℕ
value_at contents None = []
value_at contents (Some s) = contents s.device s.sector

told_in : (contents : ℕ → Contents) (device start count : ℕ) (told : Option Contents) (k : ℕ) → HoldsTold contents device start count told → k < count → told_or told k ≡ contents device (start + k)
told_in contents device start count None k h lt = absurd h
told_in contents device start count (Some t) k h lt = h k lt

spot_holds : (contents : ℕ → Contents) (ps : List Seen) (k : ℕ) → All (Holds contents) ps → run_contents ps k ≡ value_at contents (spot_at ps k)
spot_holds contents [] k hold = refl
spot_holds contents (p ∷ ps) k hold = by (spot_holds contents ps (k - p.sectors) (All-tail (Holds contents) p ps hold)) (nat_lt k p.sectors) refl
  where
    by : run_contents ps (k - p.sectors) ≡ value_at contents (spot_at ps (k - p.sectors)) → (b : Bool) → nat_lt k p.sectors ≡ b →
        cond b (told_or p.told k) (run_contents ps (k - p.sectors)) ≡ value_at contents (cond b (Some (spot p.device (p.start + k))) (spot_at ps (k - p.sectors)))
    by rest true e = told_in contents p.device p.start p.sectors p.told k (All-head (Holds contents) p ps hold) (ltb-true k p.sectors e)
    by rest false e = rest

-- pieces that lie where blocks do hold what the blocks are
pub lies_holds : (good : ℕ) (disks : List Disk) (numbers : List ℕ) (contents : ℕ → Contents) (bytes : Sectors) → AreSectorsOf good numbers contents bytes →
    (unit : ℕ) (columns : List (List Strip)) → all_lie_in (map public_of (good_disks good disks)) columns ≡ true →
    (ps : List Seen) (start end i : ℕ) → LieOn numbers unit columns start end ps → All (Holds contents) ps → start + i < end → run_contents ps i ≡ bytes_at bytes (place_of unit columns (start + i))
lies_holds good disks numbers contents bytes sectors unit columns lie ps start end i lies hold lt =
    spot_holds contents ps i hold ∙ ap (value_at contents) (lies i lt) ∙ by (place_of unit columns (start + i)) (λ place at. good_place good disks unit columns (start + i) place lie at)
  where
    by : (o : Option Place) → ((place : Place) → o ≡ Some place → has good place.disk ≡ true) → value_at contents (spot_of numbers o) ≡ bytes_at bytes o
    by None fine = refl
    by (Some place) fine = sym (sectors place.disk place.sector (fine place refl))

-- ---- parts of lists

pub all_left : (P : Seen → Type 0) (xs ys : List Seen) → All P (xs ++ ys) → All P xs
all_left P [] ys all = All-nil P
all_left P (x ∷ xs) ys all = All-cons P x xs (All-head P x (xs ++ ys) all) (all_left P xs ys (All-tail P x (xs ++ ys) all))

pub all_right : (P : Seen → Type 0) (xs ys : List Seen) → All P (xs ++ ys) → All P ys
all_right P [] ys all = all
all_right P (x ∷ xs) ys all = all_right P xs ys (All-tail P x (xs ++ ys) all)
