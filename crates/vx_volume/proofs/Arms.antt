-- A volume whose pieces are armed is one as before.
use Rattle.std.proofs.Common.{◌≡◌, ℕ, ◌<◌, ◌≤◌, Bool, refl, sym, ◌∙◌, ap, subst, arith, List, [], ◌∷◌, length, Option}
use Rattle.std.specs.Prelude.{◌==◌, ◌||◌, nat_lt}
use Rattle.vx_piece.specs.Seen.{Seen}
use Rattle.vx_runs.specs.Run.{EachPiece, IsArmed, run_sectors}
use Rattle.vx_marks.specs.Log.{LogSeen}
use Rattle.vx_mapfmt.specs.declared.shape.DcoShape.{DcoShape}
use Rattle.vx_core.specs.declared.stage.Stage.{Stage}
use Rattle.vx_core.specs.Schedule.{IsIdle}
use Rattle.vx_cell.specs.Plexes.{PlexSeen, holds, MapsDiffer, AllCover}
use Rattle.vx_cell.specs.Changes.{AreArmed, CellArmed, CellSeen}
use Rattle.vx_cell.specs.Region.{IsLogOf, IsWhole}
use Rattle.vx_cell.proofs.Work.{same_formed}
use Rattle.vx_pages.specs.declared.local_piece.LocalPiece.{Ghosts}
use Rattle.vx_pages.specs.Items.{EachItem}
use Rattle.vx_pages.proofs.Settlement.{sectors_if}
use Rattle.vx_volume.specs.declared.log.VolumeLog.{VolumeLog}
use Rattle.vx_volume.specs.declared.log.VolumeLog.TheVariants.{Absent, Maps}
use Rattle.vx_volume.specs.Arming.{LogArmed}
use Rattle.vx_volume.specs.Log.{log_seen}
use Rattle.vx_volume.specs.Volume.{IsCellOf, IsVolume, VolumeSeen, cell_at, no_cell, with_log}

-- ---- plexes

armed_sectors : (stop : Option ℕ) (ps qs : List Seen) → EachPiece (IsArmed stop) ps qs → run_sectors qs ≡ run_sectors ps
armed_sectors stop [] [] a = refl
armed_sectors stop [] (q ∷ qs) a = absurd a
armed_sectors stop (p ∷ ps) [] a = absurd a
armed_sectors stop (p ∷ ps) (q ∷ qs) a =
    let e : q.sectors ≡ p.sectors = ap (λ (x : Seen). x.sectors) a.0 ∙ sectors_if p.cut stop p in
    let f = armed_sectors stop ps qs a.1 in omega (arith, e, f)

abbrev held_by : ℕ → (ℕ → Bool) → ℕ → Bool
held_by m f k = (m == k) || f k

held_alike : (m m' : ℕ) (f f' : ℕ → Bool) → m' ≡ m → f' ≡ f → held_by m' f' ≡ held_by m f
held_alike m m' f f' em ef = rw (em, ef) refl

armed_holds : (stop : Option ℕ) (ps qs : List PlexSeen) → AreArmed stop ps qs → holds qs ≡ holds ps
armed_holds stop [] [] a = refl
armed_holds stop [] (q ∷ qs) a = absurd a
armed_holds stop (p ∷ ps) [] a = absurd a
armed_holds stop (p ∷ ps) (q ∷ qs) a = held_alike p.map q.map (holds ps) (holds qs) a.0 (armed_holds stop ps qs a.2)

armed_differ : (stop : Option ℕ) (ps qs : List PlexSeen) → AreArmed stop ps qs → MapsDiffer ps → MapsDiffer qs
armed_differ stop [] [] a d = tt
armed_differ stop [] (q ∷ qs) a d = absurd a
armed_differ stop (p ∷ ps) [] a d = absurd a
armed_differ stop (p ∷ ps) (q ∷ qs) a d = (ap (holds qs) a.0 ∙ ap (λ (f : ℕ → Bool). f p.map) (armed_holds stop ps qs a.2) ∙ d.0, armed_differ stop ps qs a.2 d.1)

armed_cover : (stop : Option ℕ) (size : ℕ) (ps qs : List PlexSeen) → AreArmed stop ps qs → AllCover size ps → AllCover size qs
armed_cover stop size [] [] a d = tt
armed_cover stop size [] (q ∷ qs) a d = absurd a
armed_cover stop size (p ∷ ps) [] a d = absurd a
armed_cover stop size (p ∷ ps) (q ∷ qs) a d = (armed_sectors stop p.pieces q.pieces a.1 ∙ d.0, armed_cover stop size ps qs a.2 d.1)

-- ---- the log

-- the log has the regions and maps that it had
pub record SameForm (old new : LogSeen) : Type 0 where
  pub there : new.there ≡ old.there
  pub regions : new.has_region ≡ old.has_region
  pub maps : new.maps ≡ old.maps
  pub lent : new.lent ≡ old.lent

same_regions : (a b : DcoShape) → a ≡ b → (let has : ℕ → Bool = λ region. nat_lt region a.regions in has) ≡ (λ region. nat_lt region b.regions)
same_regions a b e = rw e refl

pub log_same_form : {P : Type 0} {ghosts : Ghosts P} (seen : P → Seen) (stop : Option ℕ) (old new : VolumeLog P ghosts) → LogArmed seen stop old new → SameForm (log_seen seen old) (log_seen seen new)
log_same_form seen stop Absent Absent a = record { there = refl; regions = refl; maps = refl; lent = refl }
log_same_form seen stop (Maps old) (Maps new) a = record { there = refl; regions = same_regions new.base.shape old.base.shape a.0.shape; maps = refl; lent = refl }
log_same_form seen stop Absent (Maps new) a = absurd a
log_same_form seen stop (Maps old) Absent a = absurd a

log_of_region : (region : ℕ) (s : Stage) (old new : LogSeen) → SameForm old new → IsLogOf old region s → IsLogOf new region s
log_of_region region s old new same is =
    record {
      there = same.there ∙ is.there;
      known = ap (λ (f : ℕ → Bool). f region) same.regions ∙ is.known;
      maps = λ k h. subst (λ (n : ℕ). k < n) (sym same.maps) (is.maps k h);
      dirty = subst (λ (n : ℕ). 30 < n) (sym same.maps) is.dirty;
    }

-- ---- the cells

armed_whole : (stop : Option ℕ) (old : CellSeen) (qs : List PlexSeen) (log log' : LogSeen) → AreArmed stop old.plexes qs → SameForm log log' → IsWhole (with_log old log) → IsWhole (with_log (record old { plexes = qs }) log')
armed_whole stop old qs log log' a same w =
    record {
      formed = same_formed old.stage old.stage.phase (holds old.plexes) (holds qs) (armed_holds stop old.plexes qs a) w.formed;
      differ = armed_differ stop old.plexes qs a w.differ;
      cover = armed_cover stop old.size old.plexes qs a w.cover;
      some = w.some;
      fits = w.fits;
      logged = λ is. log_of_region old.region old.stage log log' same (w.logged is);
    }

armed_cell : (stop : Option ℕ) (v : VolumeSeen) (cells : List CellSeen) (log : LogSeen) (r : ℕ) → CellArmed stop (cell_at v r) (cell_at (record v { cells = cells; log = log }) r) → SameForm v.log log → IsCellOf v r → IsCellOf (record v { cells = cells; log = log }) r
armed_cell stop v cells log r a same c =
    let now : VolumeSeen = record v { cells = cells; log = log } in
    record {
      index = ap (λ (x : CellSeen). x.region) a.same ∙ c.index;
      start = ap (λ (x : CellSeen). x.start) a.same ∙ c.start;
      size = ap (λ (x : CellSeen). x.size) a.same ∙ c.size;
      idle = subst (λ (x : CellSeen). IsIdle x.stage.phase) (sym a.same) c.idle;
      whole = subst (λ (x : CellSeen). IsWhole (with_log x log)) (sym a.same) (armed_whole stop (cell_at v r) (cell_at now r).plexes v.log log a.plexes same c.whole);
      below = subst (λ (x : CellSeen). x.number ≤ v.most) (sym a.same) c.below;
    }

pub armed_volume : (stop : Option ℕ) (v : VolumeSeen) (cells : List CellSeen) (log : LogSeen) → EachItem no_cell (λ i. CellArmed stop) v.cells cells → SameForm v.log log → IsVolume v → IsVolume (record v { cells = cells; log = log })
armed_volume stop v cells log each same w =
    record {
      count = each.size ∙ w.count;
      each = λ r lt. let inside : r < length v.cells = subst (λ (n : ℕ). r < n) each.size lt in armed_cell stop v cells log r (each.each r inside) same (w.each r inside);
      own = same.lent ∙ w.own;
      scratch = w.scratch;
    }
