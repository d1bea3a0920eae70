-- A volume whose log gave up one of its two copies is one as before, and its regions stand for the histories that they stood for.
use Rattle.std.proofs.Common.{◌≡◌, ℕ, ◌-◌, ◌<◌, Bool, inl, inr, sym, ◌∙◌, ap, subst, arith, List, [], ◌∷◌, length, Option, Some, None}
use Rattle.std.specs.Global.{Vec}
use Rattle.vx_mask.specs.Marks.{Marks}
use Rattle.vx_mask.specs.Mask.{has}
use Rattle.vx_core.specs.declared.stage.Phase.{Phase}
use Rattle.vx_core.specs.declared.stage.Stage.{Stage}
use Rattle.vx_core.specs.History.{NoCall}
use Rattle.vx_core.specs.Kept.{IsKept}
use Rattle.vx_core.specs.Region.{Around}
use Rattle.vx_core.specs.Soundness.{IsSound, IsStray}
use Rattle.vx_marks.specs.Log.{LogSeen, OnMarks}
use Rattle.vx_piece.specs.Seen.{Seen}
use Rattle.vx_pages.specs.declared.local_piece.LocalPiece.{Ghosts}
use Rattle.vx_maps.specs.Loading.{copy_at}
use Rattle.vx_maps.specs.Parting.{AreOnly, GivesUp}
use Rattle.vx_maps.specs.Spares.{HasRoomOn}
use Rattle.vx_maps.specs.Stores.{shape_of, store_seen}
use Rattle.vx_maps.specs.Wholes.{store_copies}
use Rattle.vx_maps.specs.declared.store.MapStore.{MapStore}
use Rattle.vx_cell.specs.Changes.{CellSeen}
use Rattle.vx_cell.specs.Region.{IsTold, IsWhole, StandsFor, Tells, marks_or, state_of}
use Rattle.vx_volume.specs.declared.log.VolumeLog.{VolumeLog}
use Rattle.vx_volume.specs.declared.log.VolumeLog.TheVariants.{Absent, Maps}
use Rattle.vx_volume.specs.Laws.{EachCopyMayGo, EachYieldingTells}
use Rattle.vx_volume.specs.Log.{absent_log, log_seen}
use Rattle.vx_volume.specs.Volume.{IsVolume, VolumeSeen, cell_at, with_log}
use Rattle.vx_volume.specs.Yielding.{PartsLog, log_copies}
use Rattle.vx_volume.proofs.Switchings.{told_on}

-- ---- the log

module _ {P : Type 0} {ghosts : Ghosts P} where
  -- no log is on no copy
  pub absent_two : (log : VolumeLog P ghosts) → log ≡ Absent → (log_seen ghosts.seen log).copies ≡ 2 → ⊥
  absent_two log is two = let none : absent_log.copies ≡ 2 = ap (λ (l : VolumeLog P ghosts). (log_seen ghosts.seen l).copies) (sym is) ∙ two in absurd (omega (arith, none))

  pub maps_two : (log : VolumeLog P ghosts) (store : MapStore P ghosts) → log ≡ Maps store → (log_seen ghosts.seen log).copies ≡ 2 → (store_seen ghosts.seen store).copies ≡ 2
  maps_two log store is two = ap (λ (l : VolumeLog P ghosts). (log_seen ghosts.seen l).copies) (sym is) ∙ two

  pub maps_room : (copy : ℕ) (log : VolumeLog P ghosts) (store : MapStore P ghosts) (room : Vec P) → log ≡ Maps store → HasRoomOn (copy_at (log_copies ghosts.seen log) copy) room → HasRoomOn (copy_at (store_copies ghosts.seen store) copy) room
  maps_room copy log store room is has = subst (λ (l : VolumeLog P ghosts). HasRoomOn (copy_at (log_copies ghosts.seen l) copy) room) is has

  module _ (copy : ℕ) (log : VolumeLog P ghosts) (old new : MapStore P ghosts) (is : log ≡ Maps old) where
    pub maps_give : GivesUp copy (store_seen ghosts.seen old) (store_seen ghosts.seen new) → GivesUp copy (log_seen ghosts.seen log) (log_seen ghosts.seen (Maps new))
    maps_give gives = subst (λ (l : VolumeLog P ghosts). GivesUp copy (log_seen ghosts.seen l) (log_seen ghosts.seen (Maps new))) (sym is) gives

    pub maps_part : (gone : List Seen) → shape_of new ≡ shape_of old → gone ≡ copy_at (store_copies ghosts.seen old) copy → store_copies ghosts.seen new ≡ copy_at (store_copies ghosts.seen old) (1 - copy) ∷ [] →
        PartsLog ghosts.seen copy gone log (Maps new)
    maps_part gone shape out left = subst (λ (l : VolumeLog P ghosts). PartsLog ghosts.seen copy gone l (Maps new)) (sym is) (record { shape = shape; out = out; left = left })

-- ---- the volume

whole_yielded : (copy : ℕ) (c : CellSeen) (old new : LogSeen) → GivesUp copy old new → IsWhole (with_log c old) → IsWhole (with_log c new)
whole_yielded copy c old new gives w =
    record {
      formed = w.formed;
      differ = w.differ;
      cover = w.cover;
      some = w.some;
      fits = w.fits;
      logged = λ logged.
          let h = w.logged logged in
          let e = gives.maps in
          record {
            there = gives.there ∙ h.there;
            known = ap (λ (f : ℕ → Bool). f c.region) gives.has_region ∙ h.known;
            maps = λ k bit. let lt = h.maps k bit in omega (arith, e, lt);
            dirty = let lt = h.dirty in omega (arith, e, lt);
          };
    }

pub volume_yielded : (copy : ℕ) (v : VolumeSeen) (log : LogSeen) → GivesUp copy v.log log → IsVolume v → IsVolume (record v { log = log })
volume_yielded copy v log gives w =
    record {
      count = w.count;
      each = λ r lt.
          let c = w.each r lt in
          record { index = c.index; start = c.start; size = c.size; idle = c.idle; whole = whole_yielded copy (cell_at v r) v.log log gives c.whole; below = c.below };
      own = gives.lent ∙ w.own;
      scratch = w.scratch;
    }

-- ---- histories

-- a region whose log shows one copy of those that it showed
module _ (s : Stage) (phase : Phase) (a : Around) (kept : ℕ) (marks : Marks) (inside : kept < a.fixed.copies) (only : AreOnly kept a.disks.marks marks) where
  abbrev now : Around
  now = record { disks = record { blocks = a.disks.blocks; marks = marks }; fixed = record a.fixed { copies = 1 }; entries = a.entries; pending = a.pending; last = a.last }

  stray_was : (k : ℕ) → IsStray phase now k → IsStray phase a k
  stray_was k stray = elim stray [ inl loose ↦ inl (sym (only.loose k) ∙ loose) | inr freed ↦ inr freed ]

  stray_is : (k : ℕ) → IsStray phase a k → IsStray phase now k
  stray_is k stray = elim stray [ inl loose ↦ inl (only.loose k ∙ loose) | inr freed ↦ inr freed ]

  sound_alone : IsSound s phase a → IsSound s phase now
  sound_alone sound =
      record {
        shown = λ n k few bit. only.shows n k ∙ sound.shown kept k inside bit;
        bounded = λ n k few shown. elim (sound.bounded kept k inside (sym (only.shows n k) ∙ shown)) [ inl bit ↦ inl bit | inr stray ↦ inr (stray_is k stray) ];
        under = λ B between.
            let u = sound.under B (record { least = between.least; most = λ k in'. elim (between.most k in') [ inl bit ↦ inl bit | inr stray ↦ inr (stray_was k stray) ] }) in
            record { readable = u.readable; candidates = u.candidates; agree = u.agree; tracked = u.tracked };
        marked = sound.marked;
      }

  kept_alone : IsKept s phase a → IsKept s phase now
  kept_alone k = record { form = k.form; apart = λ m loose. k.apart m (sym (only.loose m) ∙ loose); sound = sound_alone k.sound; call = k.call; contents = k.contents; history = k.history }

pub only_marks : (kept : ℕ) (a b : Option (ℕ → Marks)) → OnMarks (λ was is. (region : ℕ) → AreOnly kept (was region) (is region)) a b → Tells a → (region : ℕ) → AreOnly kept (marks_or a region) (marks_or b region)
only_marks kept None b h tells region = absurd tells
only_marks kept (Some a) None h tells region = absurd h
only_marks kept (Some a) (Some b) h tells region = h region

pub copy_may_go : EachCopyMayGo
copy_may_go copy old new yields told fixed entries copies stood r lt =
    let cells : length new.cells ≡ length old.cells = ap (λ (v : VolumeSeen). length v.cells) yields.same in
    let inside : r < length old.cells = subst (λ (n : ℕ). r < n) cells lt in
    let c = cell_at old r in
    let two : (fixed r).copies ≡ 2 = copies r inside ∙ yields.gives.two in
    subst (λ (x : CellSeen). StandsFor (with_log x new.log) (record (fixed r) { copies = 1 }) (entries r) NoCall) (sym (ap (λ (v : VolumeSeen). cell_at v r) yields.same))
    (kept_alone c.stage c.stage.phase (state_of (with_log c old.log) (fixed r) (entries r) NoCall c.number).around (1 - copy) (marks_or new.log.told c.region) (omega (arith, two))
    (only_marks (1 - copy) old.log.told new.log.told yields.gives.told (told r inside).1 c.region) (stood r inside))

pub yielding_tells : EachYieldingTells
yielding_tells copy old new yields told r lt =
    let cells : length new.cells ≡ length old.cells = ap (λ (v : VolumeSeen). length v.cells) yields.same in
    let inside : r < length old.cells = subst (λ (n : ℕ). r < n) cells lt in
    let was = told r inside in
    subst (λ (x : CellSeen). IsTold (with_log x new.log)) (sym (ap (λ (v : VolumeSeen). cell_at v r) yields.same)) (was.0, told_on _ old.log.told new.log.told yields.gives.told was.1)
