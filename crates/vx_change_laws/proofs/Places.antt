-- What stays of a volume when a map of its log is set, and when a plex joins.
use Rattle.std.proofs.Common.{◌≡◌, ℕ, ◌<◌, Bool, refl, sym, ◌∙◌, ap, subst, inl, inr, List, [], ◌∷◌, ◌++◌, length, Result, Ok, Err}
use Rattle.vx_core.specs.Follow.{SameMasks}
use Rattle.vx_marks.specs.Log.{LogSeen}
use Rattle.vx_marks.specs.declared.marker.MarkFault.{MarkFault}
use Rattle.vx_marks.specs.declared.marker.MarkFault.TheVariants.{Failed, PowerLost, Busy}
use Rattle.vx_cell.specs.Changes.{CellSeen}
use Rattle.vx_cell.specs.Plexes.{PlexSeen, SomePieceCut}
use Rattle.vx_cell.specs.Region.{IsCut}
use Rattle.vx_volume.specs.Changing.{IsFreeOf, SetsMap}
use Rattle.vx_volume.specs.Volume.{VolumeSeen, cell_at, region_at, with_log}
use Rattle.vx_volume_laws.specs.Calls.{StayPlexes}
use Rattle.vx_volume_laws.proofs.Stays.{stay_same}
use Rattle.vx_change_laws.specs.Laws.{EachJoiningStaysCut, EachSettingKeepsPlaces, EachSettingLeavesFree, EachSettingStaysCut}

-- ---- a map is set

pub setting_free : EachSettingLeavesFree
setting_free map bits result old new sets free =
    record {
      there = sets.kept.there ∙ free.there;
      low = free.low;
      each = λ r lt.
          let at : r < length old.cells = subst (λ (n : ℕ). r < n) sets.cells.size lt in
          let f = free.each r at in
          subst (λ (x : CellSeen). IsFreeOf map x.stage) (sym (sets.cells.each r at)) (record { on = f.on; off = f.off; snaps = f.snaps; logged = f.logged });
    }

pub setting_places : EachSettingKeepsPlaces
setting_places map bits result old new sets =
    record {
      length_is = ap (λ (v : VolumeSeen). v.length) sets.same;
      region_is = ap (λ (v : VolumeSeen). v.region) sets.same;
      count = sets.cells.size;
      plexes = λ r lt. subst (λ (x : CellSeen). StayPlexes (cell_at old r).plexes x.plexes) (sym (sets.cells.each r lt)) (stay_same (cell_at old r).plexes);
      masks = λ r lt. subst (λ (x : CellSeen). SameMasks (cell_at old r).stage x.stage) (sym (sets.cells.each r lt)) (refl, refl, refl, refl);
      there = sets.kept.there;
    }

-- what was cut is
cut_still : (map : ℕ) (bits : ℕ → Bool) (result : Result (Unit {0}) MarkFault) (old new : VolumeSeen) → SetsMap map bits result old new → (r : ℕ) → r < length old.cells → IsCut (region_at old r) → IsCut (region_at new r)
cut_still map bits result old new sets r lt (inl piece) = inl (subst (λ (x : CellSeen). SomePieceCut x.plexes) (sym (sets.cells.each r lt)) piece)
cut_still map bits result old new sets r lt (inr log) = inr (sets.kept.cut log)

pub setting_cut : EachSettingStaysCut
setting_cut map bits (Ok u) old new sets r lt was dead = cut_still map bits (Ok u) old new sets r lt (was (ap (λ (x : CellSeen). x.stage.phase) (sym (sets.cells.each r lt)) ∙ dead))
setting_cut map bits (Err (Failed copy device)) old new sets r lt was dead =
    cut_still map bits (Err (Failed copy device)) old new sets r lt (was (ap (λ (x : CellSeen). x.stage.phase) (sym (sets.cells.each r lt)) ∙ dead))
setting_cut map bits (Err PowerLost) old new sets r lt was dead = inr sets.cause
setting_cut map bits (Err Busy) old new sets r lt was dead = cut_still map bits (Err Busy) old new sets r lt (was (ap (λ (x : CellSeen). x.stage.phase) (sym (sets.cells.each r lt)) ∙ dead))

-- ---- a plex joins

cut_more : (ps qs : List PlexSeen) → SomePieceCut ps → SomePieceCut (ps ++ qs)
cut_more [] qs cut = absurd cut
cut_more (p ∷ ps) qs (inl here) = inl here
cut_more (p ∷ ps) qs (inr rest) = inr (cut_more ps qs rest)

pub joining_cut : EachJoiningStaysCut
joining_cut map runs old new puts r lt was dead =
    let is = puts.cells.each r lt in
    let same : new.log ≡ old.log = ap (λ (v : VolumeSeen). v.log) puts.same in
    subst (λ (log : LogSeen). IsCut (with_log (cell_at new r) log)) (sym same)
    (subst (λ (x : CellSeen). IsCut (with_log x old.log)) (sym is)
    (elim (was (ap (λ (x : CellSeen). x.stage.phase) (sym is) ∙ dead)) [ inl piece ↦ inl (cut_more (cell_at old r).plexes _ piece) | inr log ↦ inr log ]))
