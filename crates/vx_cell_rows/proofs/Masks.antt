-- The rows' mirror is whole.
use Rattle.std.proofs.Common.{◌≡◌, ℕ, ◌^◌, ◌<◌, Bool, true, false, refl, sym, ◌∙◌, ap, inl, inr, ◌⊎◌, arith, subst, List, [], ◌∷◌}
use Rattle.std.specs.Prelude.{◌||◌, ◌==◌, map as map_of}
use Rattle.std.proofs.lemmas.Bool.Decides.{nat_tests}
use Rattle.vx_mask.specs.Mask.{has, union, only}
use Rattle.vx_mask.proofs.MaskLemmas.{has-union, has-zero, has-lt, same_as_only, has-only_same, has-only_other, union-lt, only-lt}
use Rattle.vx_core.specs.declared.stage.Phase.{Phase}
use Rattle.vx_core.specs.declared.stage.Phase.TheVariants.{Settled, Unsettled, Dead, Busy}
use Rattle.vx_core.specs.declared.stage.Stage.{Stage}
use Rattle.vx_core.specs.Form.{AreMasks, IsFormed}
use Rattle.vx_core.specs.Schedule.{IsIdle}
use Rattle.vx_runs.specs.Run.{run_sectors}
use Rattle.vx_cell.specs.Plexes.{PlexSeen, holds, plex_seen, plexes_seen}
use Rattle.vx_cell.specs.declared.plex.Plex.{Plex}
use Rattle.vx_cell.specs.Region.{RegionSeen, IsWhole}
use Rattle.vx_cell.specs.Changes.{CellSeen, cell_seen}
use Rattle.vx_cell.specs.declared.cell.Cell.{Cell}
use Rattle.vx_cell_rows.specs.Piece.{row_seen}
use Rattle.vx_cell_rows.specs.declared.piece.RowPiece.{RowPiece}
use Rattle.vx_cell_rows.specs.Ready.{IsReady}
use Rattle.vx_cell_rows.specs.declared.notes.Notes.{Notes}
use Rattle.vx_cell_rows.specs.Notes.{notes_log}

true_or_false : (b : Bool) → (b ≡ true) ⊎ (b ≡ false)
true_or_false true = inl refl
true_or_false false = inr refl

abbrev pub both : ℕ
both = union (only 0) (only 1)

-- the maps 0 and 1 alone
both_maps : (k : ℕ) → has both k ≡ true → (k ≡ 0) ⊎ (k ≡ 1)
both_maps k h =
    elim (true_or_false (has (only 0) k)) [
      | inl zeroth ↦ inl (same_as_only 0 k zeroth)
      | inr not ↦ inr (same_as_only 1 k (rw not at (sym (has-union (only 0) (only 1) k) ∙ h)))
    ]

both_has : (k : ℕ) → (k ≡ 0) ⊎ (k ≡ 1) → has both k ≡ true
both_has k (inl e) = rw e (has-union (only 0) (only 1) 0 ∙ ap (λ x. x || has (only 1) 0) (has-only_same 0 (omega arith)))
both_has k (inr e) = rw e (has-union (only 0) (only 1) 1 ∙ (rw (has-only_other 0 1 (omega arith), has-only_same 1 (omega arith)) refl))

both_clean : has both 30 ≡ false
both_clean = has-union (only 0) (only 1) 30 ∙ (rw (has-only_other 0 30 (omega arith), has-only_other 1 30 (omega arith)) refl)

both_fits : both < 2 ^ 64
both_fits = union-lt (only 0) (only 1) (only-lt 0) (only-lt 1)

-- the mirror's maps are held
abbrev pub held : ℕ → ℕ → ℕ → Bool
held first second k = (first == k) || ((second == k) || false)

on_held : (first second k : ℕ) → first ≡ 0 → second ≡ 1 → (k ≡ 0) ⊎ (k ≡ 1) → held first second k ≡ true
on_held first second k e f (inl g) = rw (e, f, g) refl
on_held first second k e f (inr g) = rw (e, f, g) refl

zeroth_held : (k : ℕ) → (t : Bool) → (0 == k) ≡ t → held 0 1 k ≡ true → (k ≡ 0) ⊎ (k ≡ 1)
zeroth_held k t e h = grind (arith, nat_tests)

held_on : (first second k : ℕ) → first ≡ 0 → second ≡ 1 → held first second k ≡ true → (k ≡ 0) ⊎ (k ≡ 1)
held_on first second k e f h = zeroth_held k (0 == k) refl (rw (e, f) at h)

abbrev pub stage_of : ℕ → Phase → Stage
stage_of bits phase = record { on = both; off = 0; snaps = 0; bits = bits; logged = true; phase = phase }

masks : (bits first second : ℕ) → bits < 2 ^ 64 → first ≡ 0 → second ≡ 1 → AreMasks both 0 0 bits true (held first second)
masks bits first second fits e f = record {
  on_fits = both_fits;
  off_fits = omega arith;
  snaps_fit = omega arith;
  bits_fit = fits;
  off_apart = λ k h. has-zero k;
  snaps_apart = λ k h. has-zero k;
  off_snaps = λ k h. has-zero k;
  dirty_apart = (both_clean, has-zero 30, has-zero 30);
  held_on = λ k h. on_held first second k e f (both_maps k h);
  plexes = λ k h. inl (both_has k (held_on first second k e f h));
  alone = λ e. cc;
  unlogged = λ e. cc;
}

-- a plex that is unmarked can be read
one_readable : (bits : ℕ) → (has bits 0 ≡ false) ⊎ (has bits 1 ≡ false) → (k : ℕ) × (has both k ≡ true) × (has bits k ≡ false) × (false ≡ false)
one_readable bits (inl zeroth) = (0, both_has 0 (inl refl), zeroth, refl)
one_readable bits (inr other) = (1, both_has 1 (inr refl), other, refl)

formed : (bits first second : ℕ) (phase : Phase) → bits < 2 ^ 64 → (has bits 0 ≡ false) ⊎ (has bits 1 ≡ false) → first ≡ 0 → second ≡ 1 → IsIdle phase → IsFormed (stage_of bits phase) phase (held first second)
formed bits first second Settled fits free e f idle = record { stage = masks bits first second fits e f; readable = one_readable bits free; step = tt; marked = tt }
formed bits first second Unsettled fits free e f idle = record { stage = masks bits first second fits e f; readable = one_readable bits free; step = tt; marked = tt }
formed bits first second Dead fits free e f idle = record { stage = masks bits first second fits e f; readable = one_readable bits free; step = tt; marked = tt }
formed bits first second (Busy w) fits free e f idle = elim idle [ ]

small : (k : ℕ) → has (union (union both 0) 0) k ≡ true → k < 64
small k h = has-lt (union (union both 0) 0) k (union-lt (union both 0) 0 (union-lt both 0 both_fits (omega arith)) (omega arith)) h

pub mirror_whole : (bits : ℕ) (phase : Phase) (first second : PlexSeen) (log : Notes) → bits < 2 ^ 64 → (has bits 0 ≡ false) ⊎ (has bits 1 ≡ false) → IsIdle phase →
    first.map ≡ 0 → second.map ≡ 1 → run_sectors first.pieces ≡ 2 → run_sectors second.pieces ≡ 2 →
    IsWhole (record { stage = stage_of bits phase; region = 0; start = 0; size = 2; number = 0; epoch = 0; plexes = first ∷ second ∷ []; log = notes_log log })
mirror_whole bits phase first second log fits free idle e f covers covers' = record {
  formed = formed bits first.map second.map phase fits free e f idle;
  differ = (rw (e, f) refl, (refl, tt));
  cover = (covers, (covers', tt));
  some = omega arith;
  fits = omega arith;
  logged = λ logged. record { there = refl; known = refl; maps = small; dirty = omega arith };
}

-- the region of a cell, from what is seen of the cell
abbrev pub region_from : CellSeen → Notes → RegionSeen
region_from seen log = record { stage = seen.stage; region = seen.region; start = seen.start; size = seen.size; number = seen.number; epoch = seen.epoch; plexes = seen.plexes; log = notes_log log }

pub mirror_ready : (cell : Cell RowPiece) (bits on : ℕ) (phase : Phase) (first second : Plex RowPiece) (items : List (Plex RowPiece)) (log : Notes) → bits < 2 ^ 64 → (has bits 0 ≡ false) ⊎ (has bits 1 ≡ false) → IsIdle phase →
    first.map ≡ 0 → second.map ≡ 1 → run_sectors (map_of row_seen first.pieces.items) ≡ 2 → run_sectors (map_of row_seen second.pieces.items) ≡ 2 → on ≡ both → items ≡ first ∷ second ∷ [] →
    cell_seen row_seen cell ≡ record { stage = record { on = on; off = 0; snaps = 0; bits = bits; logged = true; phase = phase }; region = 0; start = 0; size = 2; number = 0; epoch = 0; plexes = plexes_seen row_seen items } →
    IsReady cell log
mirror_ready cell bits on phase first second items log fits free idle e f covers covers' same are seen = record {
  whole = subst (λ (s : CellSeen). IsWhole (region_from s log)) (sym seen) (rw (same, are) (mirror_whole bits phase (plex_seen row_seen first) (plex_seen row_seen second) log fits free idle e f covers covers'));
  idle = subst (λ (s : CellSeen). IsIdle s.stage.phase) (sym seen) idle;
  start = ap (λ (s : CellSeen). s.start) seen;
  size = ap (λ (s : CellSeen). s.size) seen;
  number = ap (λ (s : CellSeen). s.number) seen;
  second = subst (λ (s : CellSeen). holds s.plexes 1 ≡ true) (sym seen) (rw are (on_held first.map second.map 1 e f (inr refl)));
}
