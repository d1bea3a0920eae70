-- Where all bits of a map were set in the log of a running volume, each copy of it shows them.
use Rattle.std.proofs.Common.{◌≡◌, ◌∙◌, ℕ, ◌<◌, Bool, true, List, length, Option, Some, None, Ok, refl, sym, ap, subst}
use Rattle.std.specs.Prelude.{◌==◌}
use Rattle.std.proofs.lemmas.Bool.{false≢true}
use Rattle.vx_piece.specs.Seen.{Seen}
use Rattle.vx_pages.specs.declared.local_piece.LocalPiece.{Ghosts}
use Rattle.vx_pages.specs.Setting.{AllShow, Done, MarksBy}
use Rattle.vx_mask.specs.Marks.{Marks}
use Rattle.vx_marks.specs.Log.{OnMarks}
use Rattle.vx_config_parts.specs.declared.vol.Vol.{Vol}
use Rattle.vx_objects.specs.declared.config.Config.{Config}
use Rattle.vx_cell.specs.Region.{Tells, marks_or}
use Rattle.vx_cell.proofs.Changes.{same_test}
use Rattle.vx_volume.specs.declared.log.VolumeLog.{VolumeLog}
use Rattle.vx_volume.specs.declared.log.VolumeLog.TheVariants.{Absent, Maps}
use Rattle.vx_volume.specs.Laws.{AreTold}
use Rattle.vx_volume.specs.Log.{log_seen}
use Rattle.vx_volume.specs.Opening.{count_of}
use Rattle.vx_volume.specs.Volume.{VolumeSeen, log_of, volume_seen}
use Rattle.vx_lending.specs.declared.public.Running.{Running}
use Rattle.vx_group_volumes.specs.Runs.{RunsIn}
use Rattle.vx_stage_mirrors.specs.Marking.{SetsAll}
use Rattle.vx_stage_mirrors.specs.MarkedLaws.{EachMarkIsShown, IsShownIn}

-- a copy shows the mark as it was set
shows_mark : (map : ℕ) (on : Bool) (n : ℕ) (old new : Marks) → AllShow map on old new → new.shows n map ≡ on
shows_mark map on n old new all = all.shows n map ∙ (let test : (map == map) ≡ true = same_test map in rw test refl)

-- so it does where the copies tell what they hold, of a region that the log has
told_mark : (map : ℕ) (bits : ℕ → Bool) (claims has_region : ℕ → Bool) (was is : Option (ℕ → Marks)) →
    OnMarks (λ a b. (region : ℕ) → has_region region ≡ true → MarksBy Done map (claims region) (bits region) (a region) (b region)) was is → Tells was →
    Tells is × ((r n : ℕ) → has_region r ≡ true → (marks_or is r).shows n map ≡ bits r)
told_mark map bits claims has_region None is marks tells = absurd tells
told_mark map bits claims has_region (Some a) None marks tells = absurd marks
told_mark map bits claims has_region (Some a) (Some b) marks tells = (tt, λ r n known. shows_mark map (bits r) n (a r) (b r) (marks r known))

-- a log that claims a mark is there
there_by : {P : Type 0} {ghosts : Ghosts P} (see : P → Seen) (map r : ℕ) (log : VolumeLog P ghosts) → ((log_seen see log).has_region r ≡ true → (log_seen see log).claims r map ≡ true) → (log_seen see log).there ≡ true
there_by see map r Absent claimed = absurd (false≢true (claimed refl))
there_by see map r (Maps store) claimed = refl

module _ {P : Type 0} {ghosts : Ghosts P} (see : P → Seen) (before after : Running P ghosts) (c : Config) (good : ℕ) (numbers : List ℕ) (v : Vol) (runs : RunsIn see c good numbers v after)
    (map : ℕ) (marked : SetsAll map (Ok tt) (volume_seen see before.volume) (volume_seen see after.volume)) (told : AreTold (volume_seen see before.volume)) where
  abbrev old : VolumeSeen
  old = volume_seen see before.volume

  abbrev new : VolumeSeen
  new = volume_seen see after.volume

  was : (r : ℕ) → r < length new.cells → r < length old.cells
  was r lt = subst (λ (m : ℕ). r < m) marked.sets.cells.size lt

  known_before : (r : ℕ) → new.log.has_region r ≡ true → old.log.has_region r ≡ true
  known_before r known = sym (ap (λ (f : ℕ → Bool). f r) marked.sets.kept.has_region) ∙ known

  claim_is : (r : ℕ) → new.log.has_region r ≡ true → new.log.claims r map ≡ marked.bits r
  claim_is r known = marked.sets.set.claims r map (known_before r known) ∙ (let test : (map == map) ≡ true = same_test map in rw test refl)

  some : 0 < length new.cells
  some =
      let count : length new.cells ≡ count_of after.form.shape = runs.whole.count ∙ ap count_of runs.shape in
      subst (λ (m : ℕ). 0 < m) (sym count) runs.lies.some

  there : new.log.there ≡ true
  there = there_by see map 0 (log_of after.volume) (λ known. claim_is 0 known ∙ marked.all 0 (was 0 some))

  -- the log has each region of the volume
  known : (r : ℕ) → r < length new.cells → new.log.has_region r ≡ true
  known r lt =
      let here = runs.whole.each r lt in
      subst (λ (m : ℕ). new.log.has_region m ≡ true) here.index (here.whole.logged ((runs.lies.lies.masks r lt).logged_is ∙ there)).known

  shown : IsShownIn map new
  shown =
      let marks = told_mark map marked.bits (λ r. old.log.claims r map) old.log.has_region old.log.told new.log.told marked.sets.set.told (told 0 (was 0 some)).1 in
      record {
        there = there;
        told = marks.0;
        shows = λ r n lt few. marks.1 r n (known_before r (known r lt)) ∙ marked.all r (was r lt);
      }

pub mark_shown : {P : Type 0} {ghosts : Ghosts P} (see : P → Seen) (before after : Running P ghosts) → EachMarkIsShown see before after
mark_shown see before after c good numbers v runs map marked told = shown see before after c good numbers v runs map marked told
