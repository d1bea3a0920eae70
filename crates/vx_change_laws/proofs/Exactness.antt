-- The log of a volume stays exact when a map of it is set, and when a plex joins.
use Rattle.std.proofs.Common.{◌≡◌, ◌≢◌, ℕ, ◌<◌, Bool, true, false, refl, sym, ◌∙◌, ap, subst, inl, inr, length, Option, Some, None, Ok, Err}
use Rattle.std.specs.Prelude.{◌==◌, ◌&&◌, not}
use Rattle.std.proofs.lemmas.Bool.{cases_eq}
use Rattle.vx_mask.specs.Mask.{has}
use Rattle.vx_mask.specs.Marks.{Marks}
use Rattle.vx_mask.proofs.Tests.{not_both}
use Rattle.vx_core.specs.declared.stage.Phase.TheVariants.{Dead}
use Rattle.vx_marks.specs.Log.{LogSeen, OnMarks}
use Rattle.vx_marks.specs.declared.marker.MarkFault.TheVariants.{Failed, PowerLost, Busy}
use Rattle.vx_pages.specs.Setting.{AllShow, Done, MarksBy}
use Rattle.vx_cell.specs.Changes.{CellSeen}
use Rattle.vx_cell.specs.Region.{Tells, marks_or}
use Rattle.vx_cell.proofs.Changes.{other_number, same_test}
use Rattle.vx_volume.specs.Laws.{EachSettingMarks}
use Rattle.vx_volume.specs.Volume.{VolumeSeen, cell_at}
use Rattle.vx_volume.proofs.Remarks.{known_region}
use Rattle.vx_volume_laws.specs.Exact.{ShowsExactly}
use Rattle.vx_change_laws.specs.Laws.{EachJoiningStaysExact, EachSettingStaysExact}
use Rattle.vx_change_laws.proofs.Masks.{but_none, mark_other}

-- ---- a map is set

-- a copy that showed just the mask's marks shows just those of the new one
shows_set : (map : ℕ) (on : Bool) (bits bits' n : ℕ) (old new : Marks) → AllShow map on old new → has bits' map ≡ on → ((k : ℕ) → k ≢ map → has bits' k ≡ has bits k) → ShowsExactly bits n old → ShowsExactly bits' n new
shows_set map on bits bits' n old new all here others was =
    record {
      shows = λ k.
          elim (cases_eq k map) [
            | inl e ↦ subst (λ (m : ℕ). new.shows n m ≡ has bits' m) (sym e) (at_map ∙ sym here)
            | inr apart ↦ at_other k apart ∙ swept k ∙ was.shows k ∙ sym (others k apart)
          ];
      tight = all.loose;
    }
  where
    at_map : new.shows n map ≡ on
    at_map = all.shows n map ∙ (let test : (map == map) ≡ true = same_test map in rw test refl)

    at_other : (k : ℕ) → k ≢ map → new.shows n k ≡ (old.shows n k && not (old.loose k))
    at_other k apart = all.shows n k ∙ (let test : (k == map) ≡ false = other_number k map apart in rw test refl)

    swept : (k : ℕ) → (old.shows n k && not (old.loose k)) ≡ old.shows n k
    swept k = but_none (old.shows n k) (old.loose k) (was.tight k)

all_at : (map : ℕ) (bits : ℕ → Bool) (claims has_region : ℕ → Bool) (was is : Option (ℕ → Marks)) (r : ℕ) →
    OnMarks (λ a b. (region : ℕ) → has_region region ≡ true → MarksBy Done map (claims region) (bits region) (a region) (b region)) was is → Tells was → has_region r ≡ true →
    AllShow map (bits r) (marks_or was r) (marks_or is r)
all_at map bits claims has_region None is r marks tells known = absurd tells
all_at map bits claims has_region (Some a) None r marks tells known = absurd marks
all_at map bits claims has_region (Some a) (Some b) r marks tells known = marks r known

pub setting_exact : EachSettingMarks → EachSettingStaysExact
setting_exact marks map bits (Ok u) old new sets volume free told well exact r n lt alive few =
    let at : r < length old.cells = subst (λ (m : ℕ). r < m) sets.cells.size lt in
    let is = sets.cells.each r at in
    let alive_was : (cell_at old r).stage.phase ≡ Dead → ⊥ = λ dead. alive (ap (λ (x : CellSeen). x.stage.phase) is ∙ dead) in
    let all = all_at map bits (λ region. old.log.claims region map) old.log.has_region old.log.told new.log.told r sets.set.told (told r at).1 (known_region map old volume free r at) in
    shows_set map (bits r) (cell_at old r).stage.bits (cell_at new r).stage.bits n (marks_or old.log.told r) (marks_or new.log.told r) all
    (marks map bits old new sets volume free r lt)
    (λ k apart. ap (λ (x : CellSeen). has x.stage.bits k) is ∙ mark_other map (new.log.claims r map) (cell_at old r).stage.bits k apart)
    (exact r n at alive_was (subst (λ (m : ℕ). n < m) sets.kept.copies few))
setting_exact marks map bits (Err (Failed copy device)) old new sets volume free told well exact r n lt alive few = absurd (well (copy, device, sets.cause.rose))
setting_exact marks map bits (Err PowerLost) old new sets volume free told well exact r n lt alive few =
    let at : r < length old.cells = subst (λ (m : ℕ). r < m) sets.cells.size lt in
    absurd (alive (ap (λ (x : CellSeen). x.stage.phase) (sets.cells.each r at)))
setting_exact marks map bits (Err Busy) old new sets volume free told well exact r n lt alive few = not_both sets.cause.1 volume.own

-- ---- a plex joins

pub joining_exact : EachJoiningStaysExact
joining_exact map runs old new puts exact r n lt alive few =
    let at : r < length old.cells = subst (λ (m : ℕ). r < m) puts.cells.size lt in
    let is = puts.cells.each r at in
    let same : new.log ≡ old.log = ap (λ (v : VolumeSeen). v.log) puts.same in
    let alive_was : (cell_at old r).stage.phase ≡ Dead → ⊥ = λ dead. alive (ap (λ (x : CellSeen). x.stage.phase) is ∙ dead) in
    subst (λ (log : LogSeen). ShowsExactly (cell_at new r).stage.bits n (marks_or log.told r)) (sym same)
    (subst (λ (x : CellSeen). ShowsExactly x.stage.bits n (marks_or old.log.told r)) (sym is) (exact r n at alive_was (subst (λ (log : LogSeen). n < log.copies) same few)))
