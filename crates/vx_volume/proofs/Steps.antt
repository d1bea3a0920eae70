-- A volume of which one region has had a call is one still.
use Rattle.std.proofs.Common.{◌≡◌, ◌≢◌, ℕ, ◌+◌, ◌-◌, ◌*◌, ◌^◌, ◌≤◌, ◌<◌, zero, suc, [], ◌∷◌, min, List, length, take, refl, sym, ap, subst, ◌∙◌, inl, inr, arith}
use Rattle.std.specs.Prelude.{slice_index_or, slice_set}
use Rattle.std.proofs.lemmas.Bool.{cases_eq, cases_lt}
use Rattle.std.proofs.lemmas.List.{length-map, length-take-le}
use Rattle.vx_block.specs.Regions.{region_count}
use Rattle.vx_piece.specs.Seen.{Seen}
use Rattle.vx_marks.specs.Log.{LogSeen, KeepsLog}
use Rattle.vx_pages.specs.Items.{item_at}
use Rattle.vx_pages.proofs.Items.{at_is, at_set, at_other, set_size}
use Rattle.vx_core.specs.declared.stage.Stage.{Stage}
use Rattle.vx_core.specs.declared.stage.Phase.{Phase}
use Rattle.vx_core.specs.Schedule.{IsIdle}
use Rattle.vx_life.specs.declared.Part.{Part}
use Rattle.vx_volume.specs.Receipts.{with_part}
use Rattle.vx_cell.specs.declared.cell.Cell.{Cell}
use Rattle.vx_cell.specs.Changes.{CellSeen, cell_seen}
use Rattle.vx_cell.specs.Calls.{region_of}
use Rattle.vx_cell.specs.Region.{RegionSeen, IsLogOf, IsWhole}
use Rattle.vx_volume.specs.Calls.{AreFresh, ChangesRegion, IsReady, TellsPart, called}
use Rattle.vx_volume.specs.Volume.{IsCellOf, IsVolume, VolumeSeen, blocks_in, cell_at, cells_seen, no_cell, region_at, with_log}
use Rattle.vx_volume.proofs.Regions.{IsLeft}

-- ---- the log goes on, and a region that had no call stays whole

pub log_still : (old new : LogSeen) (index : ℕ) (stage : Stage) → KeepsLog old new → IsLogOf old index stage → IsLogOf new index stage
log_still old new index stage kept log =
    record {
      there = kept.there ∙ log.there;
      known = ap (λ (f : ℕ → _). f index) kept.has_region ∙ log.known;
      maps = λ k has. omega (arith, kept.maps, log.maps k has);
      dirty = omega (arith, kept.maps, log.dirty);
    }

pub whole_still : (cell : CellSeen) (old new : LogSeen) → KeepsLog old new → IsWhole (with_log cell old) → IsWhole (with_log cell new)
whole_still cell old new kept whole =
    record {
      formed = whole.formed;
      differ = whole.differ;
      cover = whole.cover;
      some = whole.some;
      fits = whole.fits;
      logged = λ is. log_still old new cell.region cell.stage kept (whole.logged is);
    }

-- ---- one region of a volume

pub size_seen : {P : Type 0} (seen : P → Seen) (cells : List (Cell P)) → length (cells_seen seen cells) ≡ length cells
size_seen seen cells = length-map cells (cell_seen seen)

-- the volume with other cells and another log
abbrev pub volume_with : VolumeSeen → List CellSeen → LogSeen → VolumeSeen
volume_with v cells log = record { length = v.length; region = v.region; cells = cells; log = log; scratch = v.scratch; most = v.most }

pub volume_ready : (v : VolumeSeen) (r : ℕ) → IsVolume v → r < length v.cells → IsReady (region_at v r)
volume_ready v r volume inside =
    let cell = volume.each r inside in
    record { idle = cell.idle; whole = cell.whole; own = volume.own }

module _ (v : VolumeSeen) (r : ℕ) (volume : IsVolume v) (inside : r < length v.cells) (cells : List CellSeen) (log : LogSeen) (size : length cells ≡ length v.cells) (others : (i : ℕ) → i ≢ r → item_at no_cell cells i ≡ cell_at v i) (cell : CellSeen) (here : item_at no_cell cells r ≡ cell) (left : IsLeft v.most r (r * v.region) (blocks_in v r) v.log (with_log cell log)) where
  kept : KeepsLog v.log log
  kept = left.log

  other_cell : (i : ℕ) → i < length v.cells → i ≢ r → IsCellOf (volume_with v cells log) i
  other_cell i lt apart =
      let was = volume.each i lt in
      let same : item_at no_cell cells i ≡ cell_at v i = others i apart in
      record {
        index = ap (λ (c : CellSeen). c.region) same ∙ was.index;
        start = ap (λ (c : CellSeen). c.start) same ∙ was.start;
        size = ap (λ (c : CellSeen). c.size) same ∙ was.size;
        idle = subst (λ (c : CellSeen). IsIdle c.stage.phase) (sym same) was.idle;
        whole = subst (λ (c : CellSeen). IsWhole (with_log c log)) (sym same) (whole_still (cell_at v i) v.log log kept was.whole);
        below = subst (λ (c : CellSeen). c.number ≤ v.most) (sym same) was.below;
      }

  this_cell : IsCellOf (volume_with v cells log) r
  this_cell =
      record {
        index = ap (λ (c : CellSeen). c.region) here ∙ left.region;
        start = ap (λ (c : CellSeen). c.start) here ∙ left.start;
        size = ap (λ (c : CellSeen). c.size) here ∙ left.size;
        idle = subst (λ (c : CellSeen). IsIdle c.stage.phase) (sym here) left.idle;
        whole = subst (λ (c : CellSeen). IsWhole (with_log c log)) (sym here) left.whole;
        below = subst (λ (c : CellSeen). c.number ≤ v.most) (sym here) left.number;
      }

  pub step_volume : IsVolume (volume_with v cells log)
  step_volume =
      record {
        count = size ∙ volume.count;
        each = λ i lt. elim (cases_eq i r) [
          | inl is ↦ subst (λ k. IsCellOf (volume_with v cells log) k) (sym is) this_cell
          | inr apart ↦ other_cell i (omega (arith, size, lt)) apart
        ];
        own = left.log.lent ∙ volume.own;
        scratch = volume.scratch;
      }

  pub step_changes : (Goes : RegionSeen → RegionSeen → Type 0) → Goes (region_at v r) (with_log cell log) → ChangesRegion r Goes v (volume_with v cells log)
  step_changes Goes goes =
      record {
        inside = inside;
        goes = subst (λ (c : CellSeen). Goes (region_at v r) (with_log c log)) (sym here) goes;
        others = others;
        same = refl;
        count = size;
      }

-- ---- a call begins

no_cell_past : (cells : List CellSeen) (r : ℕ) → length cells ≤ r → item_at no_cell cells r ≡ no_cell
no_cell_past [] r past = refl
no_cell_past (c ∷ cs) zero past = absurd (omega arith)
no_cell_past (c ∷ cs) (suc r) past = no_cell_past cs r (omega arith)

module _ (v : VolumeSeen) (volume : IsVolume v) where
  pub called_volume : IsVolume (called v)
  called_volume =
      record {
        count = volume.count;
        each = λ r lt.
            let cell = volume.each r lt in
            record { index = cell.index; start = cell.start; size = cell.size; idle = cell.idle; whole = cell.whole; below = omega (arith, cell.below) };
        own = volume.own;
        scratch = volume.scratch;
      }

  pub called_fresh : v.most + 1 < 2 ^ 64 → AreFresh 0 (called v)
  called_fresh room =
      record {
        numbers = λ r le. elim (cases_lt r (length v.cells)) [
          | inl inside ↦ let below : (cell_at v r).number ≤ v.most = (volume.each r inside).below in omega (arith, below)
          | inr past ↦ subst (λ (c : CellSeen). c.number < v.most + 1) (sym (no_cell_past v.cells r past)) (omega arith)
        ];
        bound = room;
      }

-- ---- the same of the cells of a volume, of which one is put in its place again

-- the volume of these cells
abbrev pub volume_of : {P : Type 0} → (P → Seen) → (length region scratch most : ℕ) → List (Cell P) → LogSeen → VolumeSeen
volume_of seen length region scratch most cells log = record { length = length; region = region; cells = cells_seen seen cells; log = log; scratch = scratch; most = most }

pub region_inside : {P : Type 0} {blocks region scratch most : ℕ} (seen : P → Seen) (cells : List (Cell P)) (log : LogSeen) (r : ℕ) → IsVolume (volume_of seen blocks region scratch most cells log) → r < region_count blocks region → r < length cells
region_inside seen cells log r volume below = omega (arith, size_seen seen cells, volume.count, below)

-- the bytes of a region fit the buffer, whose first ones are lent
pub bytes_lent : {P : Type 0} {blocks region scratch most : ℕ} (seen : P → Seen) (cells : List (Cell P)) (log : LogSeen) (r : ℕ) (buffer : List ℕ) (bytes size : ℕ) → IsVolume (volume_of seen blocks region scratch most cells log) → bytes ≡ 512 * min region (blocks - r * region) → size ≡ min region (blocks - r * region) → length buffer ≡ scratch → length (take bytes buffer) ≡ 512 * size
bytes_lent {blocks = blocks} {region = region} seen cells log r buffer bytes size volume count is whole =
    length-take-le bytes buffer (omega (arith, count, whole, volume.scratch)) ∙ count ∙ ap (λ n. 512 * n) (sym is)

module _ {P : Type 0} {blocks region scratch most : ℕ} (seen : P → Seen) (cells : List (Cell P)) (log : LogSeen) (r : ℕ) (cell : Cell P) (volume : IsVolume (volume_of seen blocks region scratch most cells log)) (inside : r < length cells) (at : cell ≡ slice_index_or cells r cell) where
  pub cell_inside : r < length (cells_seen seen cells)
  cell_inside = omega (arith, size_seen seen cells, inside)

  pub cell_is : cell_at (volume_of seen blocks region scratch most cells log) r ≡ cell_seen seen cell
  cell_is = at_is no_cell (cell_seen seen) cells r cell inside ∙ ap (cell_seen seen) (sym at)

  pub cell_ready : IsReady (region_of seen cell log)
  cell_ready = subst (λ (c : CellSeen). IsReady (with_log c log)) cell_is (volume_ready (volume_of seen blocks region scratch most cells log) r volume cell_inside)

  pub cell_size : cell.span.count ≡ min region (blocks - r * region)
  cell_size = ap (λ (c : CellSeen). c.size) (sym cell_is) ∙ (volume.each r cell_inside).size

  pub cell_start : cell.span.start ≡ r * region
  cell_start = ap (λ (c : CellSeen). c.start) (sym cell_is) ∙ (volume.each r cell_inside).start

  pub cell_below : cell.number ≤ most
  cell_below = subst (λ (c : CellSeen). c.number ≤ most) cell_is (volume.each r cell_inside).below

  pub cell_fresh : (place : ℕ) → r ≡ place → AreFresh place (volume_of seen blocks region scratch most cells log) → cell.number + 1 ≤ most
  cell_fresh place is fresh =
      let below : cell.number < most = subst (λ (c : CellSeen). c.number < most) cell_is (fresh.numbers r (omega (arith, is))) in
      omega arith

  module _ (cell' : Cell P) (log' : LogSeen) (scratch' : ℕ) (room : scratch' ≡ scratch) (left : IsLeft most cell.region cell.span.start cell.span.count log (region_of seen cell' log')) where
    left_at : IsLeft most r (r * region) (min region (blocks - r * region)) log (region_of seen cell' log')
    left_at =
        record {
          idle = left.idle;
          whole = left.whole;
          region = left.region ∙ ap (λ (c : CellSeen). c.region) (sym cell_is) ∙ (volume.each r cell_inside).index;
          start = left.start ∙ cell_start;
          size = left.size ∙ cell_size;
          number = left.number;
          log = left.log;
        }

    pub cell_volume : IsVolume (volume_of seen blocks region scratch' most (slice_set cells r cell') log')
    cell_volume =
        subst (λ n. IsVolume (volume_of seen blocks region n most (slice_set cells r cell') log')) (sym room)
        (step_volume (volume_of seen blocks region scratch most cells log) r volume cell_inside (cells_seen seen (slice_set cells r cell')) log'
        (set_size no_cell (cell_seen seen) cells r cell') (λ i apart. at_other no_cell (cell_seen seen) cells r i cell' apart) (cell_seen seen cell') (at_set no_cell (cell_seen seen) cells r cell' inside) left_at)

    changes_here : (Goes : RegionSeen → RegionSeen → Type 0) → Goes (region_of seen cell log) (region_of seen cell' log') → ChangesRegion r Goes (volume_of seen blocks region scratch most cells log) (volume_of seen blocks region scratch' most (slice_set cells r cell') log')
    changes_here Goes goes =
        subst (λ n. ChangesRegion r Goes (volume_of seen blocks region scratch most cells log) (volume_of seen blocks region n most (slice_set cells r cell') log')) (sym room)
        (step_changes (volume_of seen blocks region scratch most cells log) r volume cell_inside (cells_seen seen (slice_set cells r cell')) log'
        (set_size no_cell (cell_seen seen) cells r cell') (λ i apart. at_other no_cell (cell_seen seen) cells r i cell' apart) (cell_seen seen cell') (at_set no_cell (cell_seen seen) cells r cell' inside) left_at
        Goes (subst (λ (c : CellSeen). Goes (with_log c log) (region_of seen cell' log')) (sym cell_is) goes))

    pub cell_changes : (place : ℕ) → r ≡ place → (Goes : RegionSeen → RegionSeen → Type 0) → Goes (region_of seen cell log) (region_of seen cell' log') → ChangesRegion place Goes (volume_of seen blocks region scratch most cells log) (volume_of seen blocks region scratch' most (slice_set cells r cell') log')
    cell_changes place is Goes goes =
        subst (λ i. ChangesRegion i Goes (volume_of seen blocks region scratch most cells log) (volume_of seen blocks region scratch' most (slice_set cells r cell') log')) is (changes_here Goes goes)

    cell_new : cell_at (volume_of seen blocks region scratch' most (slice_set cells r cell') log') r ≡ cell_seen seen cell'
    cell_new = at_set no_cell (cell_seen seen) cells r cell' inside

    told_here : (phase : Phase) (part : Part) (before after : List Part) → phase ≡ cell.stage.phase → part ≡ record { region = r; epoch = cell'.epoch; number = cell'.number } → after ≡ with_part phase part before → TellsPart r (volume_of seen blocks region scratch most cells log) (volume_of seen blocks region scratch' most (slice_set cells r cell') log') before after
    told_here phase part before after was is told =
        told
        ∙ ap (λ (p : Phase). with_part p part before) (was ∙ ap (λ (c : CellSeen). c.stage.phase) (sym cell_is))
        ∙ ap (λ (p : Part). with_part (cell_at (volume_of seen blocks region scratch most cells log) r).stage.phase p before) (is ∙ ap (λ (c : CellSeen). let p : Part = record { region = r; epoch = c.epoch; number = c.number } in p) (sym cell_new))

    pub cell_told : (place : ℕ) → r ≡ place → (phase : Phase) (part : Part) (before after : List Part) → phase ≡ cell.stage.phase → part ≡ record { region = r; epoch = cell'.epoch; number = cell'.number } → after ≡ with_part phase part before → TellsPart place (volume_of seen blocks region scratch most cells log) (volume_of seen blocks region scratch' most (slice_set cells r cell') log') before after
    cell_told place at_place phase part before after was is told =
        subst (λ i. TellsPart i (volume_of seen blocks region scratch most cells log) (volume_of seen blocks region scratch' most (slice_set cells r cell') log') before after) at_place (told_here phase part before after was is told)
