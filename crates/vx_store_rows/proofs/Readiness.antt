-- A cell of masks and plexes that fit is ready.
use Rattle.std.proofs.Common.{◌≡◌, ◌≢◌, ℕ, ◌+◌, ◌-◌, ◌<◌, ◌^◌, Bool, true, refl, sym, ◌∙◌, ap, subst, arith, List}
use Rattle.vx_mask.specs.Mask.{has}
use Rattle.vx_core.specs.declared.stage.Phase.{Phase}
use Rattle.vx_core.specs.declared.stage.Phase.TheVariants.{Settled, Unsettled, Dead, Busy}
use Rattle.vx_core.specs.declared.stage.Stage.{Stage}
use Rattle.vx_core.specs.Form.{AreMasks, IsFormed}
use Rattle.vx_core.specs.Schedule.{IsIdle}
use Rattle.vx_piece.specs.Seen.{Seen}
use Rattle.vx_marks.specs.Log.{LogSeen}
use Rattle.vx_cell.specs.Plexes.{PlexSeen, holds, plexes_seen}
use Rattle.vx_cell.specs.declared.plex.Plex.{Plex}
use Rattle.vx_cell.specs.Region.{RegionSeen, IsWhole}
use Rattle.vx_cell.specs.Changes.{CellSeen, cell_seen}
use Rattle.vx_cell.specs.declared.cell.Cell.{Cell}
use Rattle.vx_store_rows.specs.Ready.{FitMaps, FitsPlexes, IsLogHere, IsReady}

held_so : (on off snaps bits maps : ℕ) (held : ℕ → Bool) → ((k : ℕ) → has maps k ≡ held k) → AreMasks on off snaps bits true (has maps) → AreMasks on off snaps bits true held
held_so on off snaps bits maps held same m = record {
  on_fits = m.on_fits;
  off_fits = m.off_fits;
  snaps_fit = m.snaps_fit;
  bits_fit = m.bits_fit;
  off_apart = m.off_apart;
  snaps_apart = m.snaps_apart;
  off_snaps = m.off_snaps;
  dirty_apart = m.dirty_apart;
  held_on = λ k h. sym (same k) ∙ m.held_on k h;
  plexes = λ k h. m.plexes k (same k ∙ h);
  alone = m.alone;
  unlogged = m.unlogged;
}

abbrev stage_of : (on off snaps bits : ℕ) → Phase → Stage
stage_of on off snaps bits phase = record { on = on; off = off; snaps = snaps; bits = bits; logged = true; phase = phase }

formed : (on off snaps bits maps : ℕ) (phase : Phase) (held : ℕ → Bool) → IsIdle phase → ((k : ℕ) → has maps k ≡ held k) → FitMaps on off snaps bits maps → IsFormed (stage_of on off snaps bits phase) phase held
formed on off snaps bits maps Settled held idle same f = record { stage = held_so on off snaps bits maps held same f.masks; readable = (f.readable.0, f.readable.1, f.readable.2, refl); step = tt; marked = tt }
formed on off snaps bits maps Unsettled held idle same f = record { stage = held_so on off snaps bits maps held same f.masks; readable = (f.readable.0, f.readable.1, f.readable.2, refl); step = tt; marked = tt }
formed on off snaps bits maps Dead held idle same f = record { stage = held_so on off snaps bits maps held same f.masks; readable = (f.readable.0, f.readable.1, f.readable.2, refl); step = tt; marked = tt }
formed on off snaps bits maps (Busy w) held idle same f = absurd idle

-- the region of a cell, from what is seen of the cell
abbrev region_from : CellSeen → LogSeen → RegionSeen
region_from seen log = record { stage = seen.stage; region = seen.region; start = seen.start; size = seen.size; number = seen.number; epoch = seen.epoch; plexes = seen.plexes; log = log }

abbrev seen_of : Stage → ℕ → List PlexSeen → CellSeen
seen_of s number ps = record { stage = s; region = 1; start = 32; size = 32; number = number; epoch = 0; plexes = ps }

whole : (on off snaps bits maps number : ℕ) (phase : Phase) (ps : List PlexSeen) (log : LogSeen) → IsIdle phase → FitMaps on off snaps bits maps → FitsPlexes maps ps → IsLogHere log → IsWhole (region_from (seen_of (stage_of on off snaps bits phase) number ps) log)
whole on off snaps bits maps number phase ps log idle f fits here = record {
  formed = formed on off snaps bits maps phase (holds ps) idle fits.held f;
  differ = fits.differ;
  cover = fits.cover;
  some = omega arith;
  fits = omega arith;
  logged = λ logged. record {
    there = here.there;
    known = here.known;
    maps = λ k h. let lt = f.small k h in let few = here.maps in omega (arith, lt, few);
    dirty = let few = here.maps in omega (arith, few);
  };
}

pub made_ready : {P : Type 0} (seen : P → Seen) (cell : Cell P) (s : Stage) (number maps : ℕ) (items : List (Plex P)) → number < 2 ^ 64 → number ≢ 2 ^ 64 - 1 → s.logged ≡ true → IsIdle s.phase → FitMaps s.on s.off s.snaps s.bits maps → FitsPlexes maps (plexes_seen seen items) →
    cell_seen seen cell ≡ record { stage = s; region = 1; start = 32; size = 32; number = number; epoch = 0; plexes = plexes_seen seen items } → (log : LogSeen) → IsLogHere log → IsReady seen cell log
made_ready seen cell s number maps items small apart logged idle f fits is log here =
    let same : seen_of (stage_of s.on s.off s.snaps s.bits s.phase) number (plexes_seen seen items) ≡ cell_seen seen cell =
    ap (λ (b : Bool). seen_of (record { on = s.on; off = s.off; snaps = s.snaps; bits = s.bits; logged = b; phase = s.phase }) number (plexes_seen seen items)) (sym logged) ∙ sym is in
    record {
      whole = subst (λ (x : CellSeen). IsWhole (region_from x log)) same (whole s.on s.off s.snaps s.bits maps number s.phase (plexes_seen seen items) log idle f fits here);
      idle = subst (λ (x : CellSeen). IsIdle x.stage.phase) (sym is) idle;
      start = ap (λ (x : CellSeen). x.start) is;
      size = ap (λ (x : CellSeen). x.size) is;
      number = subst (λ (x : CellSeen). x.number + 1 < 2 ^ 64) (sym is) (omega (arith, small, apart));
    }
