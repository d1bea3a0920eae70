-- What calls on one region after the other keep of a volume's cells and its log.
use Rattle.std.proofs.Common.{◌≡◌, ◌≢◌, ℕ, zero, suc, ◌<◌, List, Option, Some, None, sym, ◌∙◌, subst, inl, inr, refl}
use Rattle.std.specs.Prelude.{◌⊎◌, length}
use Rattle.std.proofs.lemmas.Bool.{cases_eq}
use Rattle.vx_block.specs.declared.geometry.Span.{Span}
use Rattle.vx_core.specs.declared.stage.Phase.TheVariants.{Dead}
use Rattle.vx_core.specs.Schedule.{IsIdle}
use Rattle.vx_marks.specs.Log.{KeepsLog}
use Rattle.vx_cell.specs.declared.fault.CellFault.{CellFault}
use Rattle.vx_cell.specs.declared.fault.CellFault.TheVariants as cell
use Rattle.vx_cell.specs.declared.fault.Place.{Place}
use Rattle.vx_cell.specs.Acts.{PlaceRose}
use Rattle.vx_cell.specs.Changes.{CellSeen}
use Rattle.vx_cell.specs.Plexes.{KeepPlexes, SomePieceCut}
use Rattle.vx_cell.specs.Region.{AllFailed, IsCut, RegionSeen}
use Rattle.vx_cell.proofs.Changes.{keep_cut, keep_more, keep_same}
use Rattle.vx_cell.proofs.LogLaws.{log_more, log_same}
use Rattle.vx_volume.specs.Calls.{Calling, CallsPart, ChangesRegion}
use Rattle.vx_volume.specs.Laws.{StaysRegion}
use Rattle.vx_volume.specs.Loop.{AreDone, AreMade}
use Rattle.vx_volume.specs.Volume.{VolumeSeen, cell_at, region_at}
use Rattle.vx_group_calls.specs.Causes.{AreCutWhereDead}

-- the cells keep their plexes, and the log goes on
pub record IsKept (old new : VolumeSeen) : Type 0 where
  pub count : length new.cells ≡ length old.cells
  pub plexes : (r : ℕ) → r < length old.cells → KeepPlexes (cell_at old r).plexes (cell_at new r).plexes
  pub log : KeepsLog old.log new.log

-- and a region is dead only where it is cut, if that was so before
pub record HasGone (old new : VolumeSeen) : Type 0 where
  pub kept : IsKept old new
  pub cut : AreCutWhereDead old → AreCutWhereDead new

pub gone_same : (v : VolumeSeen) → HasGone v v
gone_same v = record { kept = record { count = refl; plexes = λ r lt. keep_same (cell_at v r).plexes; log = log_same v.log }; cut = λ h. h }

pub gone_then : (a b c : VolumeSeen) → HasGone a b → HasGone b c → HasGone a c
gone_then a b c first after =
    record {
      kept = record {
        count = after.kept.count ∙ first.kept.count;
        plexes = λ r lt. keep_more (cell_at a r).plexes (cell_at b r).plexes (cell_at c r).plexes (first.kept.plexes r lt) (after.kept.plexes r (subst (λ (n : ℕ). r < n) (sym first.kept.count) lt));
        log = log_more a.log b.log c.log first.kept.log after.kept.log;
      };
      cut = λ h. after.cut (first.cut h);
    }

-- ---- a way to call a region

-- what it keeps of the region, when it leaves it dead, and why it is stopped; a fault of one that begins here has its cause
pub record IsCalling (Way : Span → List ℕ → Option CellFault → RegionSeen → RegionSeen → Type 0) : Type 0 where
  pub stays : (span : Span) (bytes : List ℕ) (stop : Option CellFault) (old new : RegionSeen) → Way span bytes stop old new → StaysRegion old new
  pub dead : (span : Span) (bytes : List ℕ) (stop : Option CellFault) (old new : RegionSeen) → Way span bytes stop old new → new.stage.phase ≡ Dead → (old.stage.phase ≡ Dead) ⊎ IsCut new
  pub fault : (span : Span) (bytes : List ℕ) (place : Place) (old new : RegionSeen) → Way span bytes (Some (cell.Fault place)) old new → PlaceRose place old.plexes old.log new.plexes new.log
  pub failed : (span : Span) (bytes : List ℕ) (place : Place) (old new : RegionSeen) → Way span bytes (Some (cell.Fault place)) old new → IsIdle old.stage.phase → (old.stage.phase ≡ Dead → ⊥) × AllFailed old new
  pub lost : (span : Span) (bytes : List ℕ) (old new : RegionSeen) → Way span bytes (Some cell.PowerLost) old new → ((old.stage.phase ≡ Dead) × (new ≡ old)) ⊎ IsCut new

still_cut : (old new : RegionSeen) → StaysRegion old new → IsCut old → IsCut new
still_cut old new stays (inl piece) = inl (keep_cut old.plexes new.plexes stays.plexes piece)
still_cut old new stays (inr cut) = inr (stays.log.cut cut)

module _ (r : ℕ) (Goes : RegionSeen → RegionSeen → Type 0) (old new : VolumeSeen) (changes : ChangesRegion r Goes old new) (stays : StaysRegion (region_at old r) (region_at new r)) where
  one_kept : IsKept old new
  one_kept =
      record {
        count = changes.count;
        plexes = λ i lt.
            elim (cases_eq i r) [
              | inl is ↦ subst (λ (n : ℕ). KeepPlexes (cell_at old n).plexes (cell_at new n).plexes) (sym is) stays.plexes
              | inr apart ↦ subst (λ (c : CellSeen). KeepPlexes (cell_at old i).plexes c.plexes) (sym (changes.others i apart)) (keep_same (cell_at old i).plexes)
            ];
        log = stays.log;
      }

  other_cut : (i : ℕ) → i ≢ r → IsCut (region_at old i) → IsCut (region_at new i)
  other_cut i apart (inl piece) = inl (subst (λ (c : CellSeen). SomePieceCut c.plexes) (sym (changes.others i apart)) piece)
  other_cut i apart (inr cut) = inr (stays.log.cut cut)

  here_cut : (cell_at new r).stage.phase ≡ Dead → ((cell_at old r).stage.phase ≡ Dead) ⊎ IsCut (region_at new r) → AreCutWhereDead old → IsCut (region_at new r)
  here_cut phase (inl was) cut = still_cut (region_at old r) (region_at new r) stays (cut r changes.inside was)
  here_cut phase (inr is) cut = is

  cut_still : ((cell_at new r).stage.phase ≡ Dead → ((cell_at old r).stage.phase ≡ Dead) ⊎ IsCut (region_at new r)) → AreCutWhereDead old → AreCutWhereDead new
  cut_still dead cut i lt phase =
      let inside : i < length old.cells = subst (λ (n : ℕ). i < n) changes.count lt in
      elim (cases_eq i r) [
        | inl is ↦
            let here : (cell_at new r).stage.phase ≡ Dead = subst (λ (n : ℕ). (cell_at new n).stage.phase ≡ Dead) is phase in
            subst (λ (n : ℕ). IsCut (region_at new n)) (sym is) (here_cut here (dead here) cut)
        | inr apart ↦ other_cut i apart (cut i inside (subst (λ (c : CellSeen). c.stage.phase ≡ Dead) (changes.others i apart) phase))
      ]

  pub one_gone : ((cell_at new r).stage.phase ≡ Dead → ((cell_at old r).stage.phase ≡ Dead) ⊎ IsCut (region_at new r)) → HasGone old new
  one_gone dead = record { kept = one_kept; cut = cut_still dead }

-- ---- calls on one region after the other

-- a place of a region failed in the last call
pub record FailedIn (place : Place) (old new : VolumeSeen) : Type 0 where
  pub mid : VolumeSeen
  pub gone : HasGone old mid
  pub last : HasGone mid new
  pub region : ℕ
  pub inside : region < length mid.cells
  pub rose : PlaceRose place (cell_at mid region).plexes mid.log (cell_at new region).plexes new.log

-- a region is cut
pub record SomeRegionCut (v : VolumeSeen) : Type 0 where
  pub region : ℕ
  pub inside : region < length v.cells
  pub cut : IsCut (region_at v region)

-- calls of which each changes a volume so
module _ {S : Type 0} (volume_in : S → VolumeSeen) (Call : ℕ → Option CellFault → S → S → Type 0) (one : (n : ℕ) (stop : Option CellFault) (old new : S) → Call n stop old new → HasGone (volume_in old) (volume_in new)) where
  pub done_gone : (n : ℕ) (old new : S) → AreDone Call n old new → HasGone (volume_in old) (volume_in new)
  done_gone zero old new is = subst (λ (x : S). HasGone (volume_in old) (volume_in x)) (sym is) (gone_same (volume_in old))
  done_gone (suc n) old new (mid, done, call) = gone_then (volume_in old) (volume_in mid) (volume_in new) (done_gone n old mid done) (one n None mid new call)

  pub made_gone : (total : ℕ) (stop : Option CellFault) (old new : S) → AreMade Call total stop old new → HasGone (volume_in old) (volume_in new)
  made_gone total None old new done = done_gone total old new done
  made_gone total (Some fault) old new (n, mid, low, done, call) = gone_then (volume_in old) (volume_in mid) (volume_in new) (done_gone n old mid done) (one n (Some fault) mid new call)

abbrev volume_of : Calling → VolumeSeen
volume_of c = c.volume

module _ (Way : Span → List ℕ → Option CellFault → RegionSeen → RegionSeen → Type 0) (way : IsCalling Way) (start count : ℕ) (bytes : List ℕ) where
  call_gone : (index : ℕ) (stop : Option CellFault) (old new : Calling) → CallsPart Way start count bytes index stop old new → HasGone old.volume new.volume
  call_gone index stop old new call =
      one_gone call.region _ old.volume new.volume call.ends (way.stays _ _ _ _ _ call.ends.goes) (way.dead _ _ _ _ _ call.ends.goes)

  pub parts_done : (n : ℕ) (old new : Calling) → AreDone (CallsPart Way start count bytes) n old new → HasGone old.volume new.volume
  parts_done n old new done = done_gone volume_of (CallsPart Way start count bytes) call_gone n old new done

  pub parts_gone : (total : ℕ) (stop : Option CellFault) (old new : Calling) → AreMade (CallsPart Way start count bytes) total stop old new → HasGone old.volume new.volume
  parts_gone total stop old new made = made_gone volume_of (CallsPart Way start count bytes) call_gone total stop old new made

  pub made_fault : (total : ℕ) (place : Place) (old new : Calling) → AreMade (CallsPart Way start count bytes) total (Some (cell.Fault place)) old new → FailedIn place old.volume new.volume
  made_fault total place old new (n, mid, low, done, call) =
      record {
        mid = mid.volume;
        gone = parts_done n old mid done;
        last = call_gone n (Some (cell.Fault place)) mid new call;
        region = call.region;
        inside = call.ends.inside;
        rose = way.fault _ _ _ _ _ call.ends.goes;
      }

  lost_here : (r : ℕ) (old new : VolumeSeen) → r < length old.cells → length new.cells ≡ length old.cells → AreCutWhereDead old → (((cell_at old r).stage.phase ≡ Dead) × (region_at new r ≡ region_at old r)) ⊎ IsCut (region_at new r) → SomeRegionCut new
  lost_here r old new inside count cut (inl dead) =
      record { region = r; inside = subst (λ (n : ℕ). r < n) (sym count) inside; cut = subst (λ (x : RegionSeen). IsCut x) (sym dead.1) (cut r inside dead.0) }
  lost_here r old new inside count cut (inr is) = record { region = r; inside = subst (λ (n : ℕ). r < n) (sym count) inside; cut = is }

  pub made_lost : (total : ℕ) (old new : Calling) → AreMade (CallsPart Way start count bytes) total (Some cell.PowerLost) old new → AreCutWhereDead old.volume → SomeRegionCut new.volume
  made_lost total old new (n, mid, low, done, call) cut =
      lost_here call.region mid.volume new.volume call.ends.inside call.ends.count ((parts_done n old mid done).cut cut) (way.lost _ _ _ _ call.ends.goes)
