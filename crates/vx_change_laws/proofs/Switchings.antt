-- A volume runs on where its log was made firm, and where a plex of it went on or off.
use Rattle.std.proofs.Common.{◌≡◌, ◌≢◌, ℕ, ◌<◌, ◌⊎◌, Bool, true, false, if◌then◌else◌, refl, sym, ◌∙◌, ap, subst, inl, inr, List, length, Option, Some, None, Result, Ok, Err}
use Rattle.std.specs.Prelude.{◌&&◌, not}
use Rattle.std.specs.Str.{bytes_eq}
use Rattle.std.proofs.lemmas.Bool.{cases_eq}
use Rattle.vx_base.specs.Named.{Word}
use Rattle.vx_base.proofs.NamedLemmas.{bytes_eq_self}
use Rattle.vx_life.specs.Entry.{Entry}
use Rattle.vx_mask.specs.Mask.{has, only}
use Rattle.vx_mask.specs.Marks.{Marks, MayTidy}
use Rattle.vx_mask.proofs.MaskLemmas.{has-lt, has-only_other, has-only_same, has-zero}
use Rattle.vx_mask.proofs.Sets.{in_union, in_without, out_of, out_union, out_without_left, without_parts}
use Rattle.vx_mask.proofs.Tests.{not_both, or_cases, true_or_false}
use Rattle.vx_core.specs.declared.stage.Phase.{Phase}
use Rattle.vx_core.specs.declared.stage.Stage.{Stage}
use Rattle.vx_core.specs.Form.{IsStage}
use Rattle.vx_core.specs.Soundness.{freeing}
use Rattle.vx_core.specs.History.{NoCall}
use Rattle.vx_core.specs.Region.{Fixed, RegionState}
use Rattle.vx_core_laws.specs.Course.{IsKeptState}
use Rattle.vx_core_laws.specs.Tracking.{IsOther, IsSeen}
use Rattle.vx_marks.specs.Log.{LogSeen, OnMarks}
use Rattle.vx_marks.specs.declared.marker.MarkFault.{MarkFault}
use Rattle.vx_pages.specs.Firm.{FirmsStore}
use Rattle.vx_cell.specs.Changes.{CellSeen, stage_with}
use Rattle.vx_cell.specs.Plexes.{SomePieceCut, holds}
use Rattle.vx_cell.specs.Region.{IsCut, Tells, marks_or, state_of}
use Rattle.vx_volume.specs.Laws.{EachFirmingGoesOn, EachGoingStands, EachPlexMayGoOff, EachPlexMayGoOn, EachSwitchTells}
use Rattle.vx_volume.specs.Switching.{Firms, Switches}
use Rattle.vx_volume.specs.Volume.{IsVolume, VolumeSeen, cell_at, region_at, with_log}
use Rattle.vx_moments.specs.World.{Track, Volume}
use Rattle.vx_image.specs.Image.{PlexImage}
use Rattle.vx_volume_laws.specs.Calls.{StayPlexes}
use Rattle.vx_volume_laws.specs.Exact.{ShowsExactly}
use Rattle.vx_volume_laws.specs.Running.{RegionRunsAs, RunsAsVolume, entries_in}
use Rattle.vx_volume_laws.specs.Tracks.{HasMap}
use Rattle.vx_volume_laws.proofs.Stays.{stay_same}
use Rattle.vx_change_laws.specs.Laws.{RunsStill}
use Rattle.vx_change_laws.specs.Switching.{EachFirmingFits, EachFirmingKeepsPlaces, EachFirmingRunsOn, EachFirmingStaysCut, EachFirmingStaysExact, EachPlexOffRunsOn, EachPlexOnRunsOn, EachSwitchFits, EachSwitchStaysCut, EachSwitchStaysExact, volume_unsure}

-- ---- marks that are tidied

-- none has become loose, ..
loose_was : (old new : Marks) → MayTidy old new → (k : ℕ) → new.loose k ≡ true → old.loose k ≡ true
loose_was old new (inl some) k h = elim (or_cases (old.loose k) (has 0 k) (sym (some.loose k) ∙ h)) [ inl loose ↦ loose | inr none ↦ not_both none (has-zero k) ]
loose_was old new (inr all) k h = not_both h (all.loose k)

-- .. and where none was, the copies show what they did
same_shown : (old new : Marks) → MayTidy old new → (n k : ℕ) → old.loose k ≡ false → new.shows n k ≡ old.shows n k
same_shown old new (inl some) n k tight = elim (some.shows n k) [ inl same ↦ same | inr gone ↦ not_both gone.0 tight ]
same_shown old new (inr all) n k tight =
    all.shows n k ∙ ap (λ (b : Bool). (old.shows n k && not b) && not (has 0 k)) tight ∙ ap (λ (b : Bool). (old.shows n k && true) && not b) (has-zero k) ∙ and_true (old.shows n k)
  where
    and_true : (b : Bool) → ((b && true) && true) ≡ b
    and_true true = refl
    and_true false = refl

tight_now : (old new : Marks) → MayTidy old new → (k : ℕ) → old.loose k ≡ false → new.loose k ≡ false
tight_now old new tidy k tight = elim (true_or_false (new.loose k)) [ inl loose ↦ not_both (loose_was old new tidy k loose) tight | inr none ↦ none ]

tidied : (result : Result (Unit {0}) MarkFault) (a b : Option (ℕ → Marks)) → OnMarks (FirmsStore result) a b → Tells a → (r : ℕ) → MayTidy (marks_or a r) (marks_or b r)
tidied result None b h tells r = absurd tells
tidied result (Some a) None h tells r = absurd h
tidied (Ok u) (Some a) (Some b) h tells r = inr (h r)
tidied (Err fault) (Some a) (Some b) h tells r = h r

-- ---- the log is made firm

module _ (goes : EachFirmingGoesOn) (stands : EachGoingStands) (result : Result (Unit {0}) MarkFault) (old new : VolumeSeen) (firms : Firms result old new) (volume : IsVolume old)
    (plexes : List PlexImage) (w : Volume) (run : RunsAsVolume plexes old w) where
  cells : (r : ℕ) → cell_at new r ≡ cell_at old r
  cells r = ap (λ (v : VolumeSeen). cell_at v r) firms.same

  inside : (r : ℕ) → r < length new.cells → r < length old.cells
  inside r lt = subst (λ (v : VolumeSeen). r < length v.cells) firms.same lt

  abbrev histories : ℕ → List Entry
  histories r = entries_in r w.life.entries

  kept_now : (r : ℕ) → r < length new.cells → IsKeptState (state_of (region_at new r) (run.fixed r) (histories r) NoCall (cell_at new r).number)
  kept_now r lt = stands old new run.fixed histories histories (goes result old new firms run.told run.fixed histories) (λ n at. (run.each n at).kept) r lt

  abbrev state_by : ℕ → CellSeen → RegionState
  state_by r c = state_of (with_log c new.log) (run.fixed r) (histories r) NoCall c.number

  seen_was : (r : ℕ) → r < length old.cells → (k : ℕ) → IsSeen (state_by r (cell_at old r)) k → IsSeen (state_of (region_at old r) (run.fixed r) (histories r) NoCall (cell_at old r).number) k
  seen_was r at k (inl bit) = inl bit
  seen_was r at k (inr (inl loose)) =
      inr (inl (loose_was (marks_or old.log.told (cell_at old r).region) (marks_or new.log.told (cell_at old r).region) (tidied result old.log.told new.log.told firms.told (run.told r at).1 (cell_at old r).region) k loose))
  seen_was r at k (inr (inr freed)) = inr (inr freed)

  region_now : (r : ℕ) → r < length new.cells → RegionRunsAs plexes (state_by r (cell_at new r)) r w
  region_now r lt =
      let at = inside r lt in
      let was = run.each r at in
      subst (λ (x : CellSeen). RegionRunsAs plexes (state_by r x) r w) (sym (cells r))
      (record {
        kept = subst (λ (x : CellSeen). IsKeptState (state_by r x)) (cells r) (kept_now r lt);
        here = was.here;
        candidates = was.candidates;
        last = was.last;
        tracks = λ p one. let g = was.tracks p one in record { sure = g.sure; possible = λ seen. g.possible (seen_was r at p.map seen) };
        dirty = λ seen. was.dirty (seen_was r at 30 seen);
        unsettled = was.unsettled;
      })

  still_firm : RunsStill plexes plexes old new w w
  still_firm =
      record {
        runs = record {
          fixed = run.fixed;
          some = subst (λ (v : VolumeSeen). 0 < v.length) (sym firms.same) run.some;
          sized = subst (λ (v : VolumeSeen). 0 < v.region) (sym firms.same) run.sized;
          length_is = run.length_is ∙ ap (λ (v : VolumeSeen). v.length) (sym firms.same);
          region_is = run.region_is ∙ ap (λ (v : VolumeSeen). v.region) (sym firms.same);
          epoch = λ r lt. ap (λ (x : CellSeen). x.epoch) (cells r) ∙ run.epoch r (inside r lt);
          told = (goes result old new firms run.told run.fixed histories).told;
          held = λ r k lt. run.held r k (inside r lt) ∙ ap (λ (x : CellSeen). holds x.plexes k) (sym (cells r));
          copies = λ r lt. run.copies r (inside r lt) ∙ sym firms.kept.copies;
          each = region_now;
        };
        sure = λ of p one r lt h. subst (λ (x : CellSeen). IsOther x.stage p.map) (sym (cells r)) (of p one r (inside r lt) h);
      }

pub firming_runs : EachFirmingGoesOn → EachGoingStands → EachFirmingRunsOn
firming_runs goes stands result old new firms volume plexes w run = still_firm goes stands result old new firms volume plexes w run

pub firming_fits : EachFirmingFits
firming_fits result old new firms plexes owners fit p one r lt =
    subst (λ (x : CellSeen). HasMap x.stage p.map (owners p.name)) (ap (λ (v : VolumeSeen). cell_at v r) (sym firms.same))
    (fit p one r (subst (λ (v : VolumeSeen). r < length v.cells) firms.same lt))

pub firming_exact : EachFirmingStaysExact
firming_exact result old new firms told exact r n lt alive few =
    let is : cell_at new r ≡ cell_at old r = ap (λ (v : VolumeSeen). cell_at v r) firms.same in
    let at : r < length old.cells = subst (λ (v : VolumeSeen). r < length v.cells) firms.same lt in
    let was : ShowsExactly (cell_at old r).stage.bits n (marks_or old.log.told r) =
    exact r n at (λ dead. alive (ap (λ (x : CellSeen). x.stage.phase) is ∙ dead)) (subst (λ (m : ℕ). n < m) firms.kept.copies few) in
    let tidy = tidied result old.log.told new.log.told firms.told (told r at).1 r in
    subst (λ (x : CellSeen). ShowsExactly x.stage.bits n (marks_or new.log.told r)) (sym is)
    (record {
      shows = λ k. same_shown (marks_or old.log.told r) (marks_or new.log.told r) tidy n k (was.tight k) ∙ was.shows k;
      tight = λ k. tight_now (marks_or old.log.told r) (marks_or new.log.told r) tidy k (was.tight k);
    })

pub firming_places : EachFirmingKeepsPlaces
firming_places result old new firms =
    record {
      length_is = ap (λ (v : VolumeSeen). v.length) firms.same;
      region_is = ap (λ (v : VolumeSeen). v.region) firms.same;
      count = ap (λ (v : VolumeSeen). length v.cells) firms.same;
      plexes = λ r lt. subst (λ (x : CellSeen). StayPlexes (cell_at old r).plexes x.plexes) (ap (λ (v : VolumeSeen). cell_at v r) (sym firms.same)) (stay_same (cell_at old r).plexes);
      masks = λ r lt. let is : cell_at new r ≡ cell_at old r = ap (λ (v : VolumeSeen). cell_at v r) firms.same in (
        ap (λ (x : CellSeen). x.stage.on) is,
        ap (λ (x : CellSeen). x.stage.off) is,
        ap (λ (x : CellSeen). x.stage.snaps) is,
        ap (λ (x : CellSeen). x.stage.logged) is,
      );
      there = firms.kept.there;
    }

pub firming_cut : EachFirmingStaysCut
firming_cut result old new firms r lt was dead =
    let is : cell_at new r ≡ cell_at old r = ap (λ (v : VolumeSeen). cell_at v r) firms.same in
    elim (was (ap (λ (x : CellSeen). x.stage.phase) (sym is) ∙ dead)) [
      | inl piece ↦ inl (subst (λ (x : CellSeen). SomePieceCut x.plexes) (sym is) piece)
      | inr log ↦ inr (firms.kept.cut log)
    ]

-- ---- a stage with a plex on or off

bits_stay : (s : Stage) (map : ℕ) (on : Bool) → (stage_with s map on).bits ≡ s.bits
bits_stay s map true = refl
bits_stay s map false = refl

phase_stays : (s : Stage) (map : ℕ) (on : Bool) → (stage_with s map on).phase ≡ s.phase
phase_stays s map true = refl
phase_stays s map false = refl

low_map : (s : Stage) (held : ℕ → Bool) (map : ℕ) → IsStage s held → held map ≡ true → map < 64
low_map s held map stage there = elim (stage.plexes map there) [ inl on ↦ has-lt s.on map stage.on_fits on | inr off ↦ has-lt s.off map stage.off_fits off ]

-- what is not written to is not where another plex went off, ..
other_off : (s : Stage) (map k : ℕ) → IsOther s k → IsOther (stage_with s map false) k
other_off s map k (inl off) = inl (in_union s.off (only map) k (inl off))
other_off s map k (inr snap) = inr snap

-- .. or another one on; and what is not then was not
other_on : (s : Stage) (map k : ℕ) → k ≢ map → IsOther s k → IsOther (stage_with s map true) k
other_on s map k apart (inl off) = inl (in_without s.off (only map) k off (has-only_other map k apart))
other_on s map k apart (inr snap) = inr snap

other_was : (s : Stage) (map k : ℕ) → IsOther (stage_with s map true) k → IsOther s k
other_was s map k (inl off) = inl (without_parts s.off (only map) k off).0
other_was s map k (inr snap) = inr snap

-- ---- a region of which a plex went off

module _ (map : ℕ) (old new : VolumeSeen) (on : Bool) (switches : Switches map on old new) where
  inside_old : (r : ℕ) → r < length new.cells → r < length old.cells
  inside_old r lt = subst (λ (n : ℕ). r < n) switches.cells.size lt

  same_length : new.length ≡ old.length
  same_length = ap (λ (v : VolumeSeen). v.length) switches.same

  same_region : new.region ≡ old.region
  same_region = ap (λ (v : VolumeSeen). v.region) switches.same

  same_log : new.log ≡ old.log
  same_log = ap (λ (v : VolumeSeen). v.log) switches.same

  abbrev switched : CellSeen → CellSeen
  switched c = record c { stage = stage_with c.stage map on }

  module _ (tells : EachSwitchTells) (plexes : List PlexImage) (w now : Volume) (run : RunsAsVolume plexes old w)
      (life : now.life ≡ w.life) (sizes : (now.length ≡ w.length) × (now.region ≡ w.region))
      (kept : (r : ℕ) → r < length new.cells → IsKeptState (state_of (region_at new r) (run.fixed r) (entries_in r w.life.entries) NoCall (cell_at new r).number))
      (each : (r : ℕ) → r < length old.cells → RegionRunsAs plexes (state_of (region_at old r) (run.fixed r) (entries_in r w.life.entries) NoCall (cell_at old r).number) r w →
      IsKeptState (state_of (with_log (switched (cell_at old r)) old.log) (run.fixed r) (entries_in r w.life.entries) NoCall (cell_at old r).number) →
      RegionRunsAs plexes (state_of (with_log (switched (cell_at old r)) old.log) (run.fixed r) (entries_in r w.life.entries) NoCall (cell_at old r).number) r now) where
    abbrev state_in : ℕ → List Entry → CellSeen → LogSeen → RegionState
    state_in r es c log = state_of (with_log c log) (run.fixed r) es NoCall c.number

    region_switched : (r : ℕ) → r < length new.cells → RegionRunsAs plexes (state_in r (entries_in r w.life.entries) (cell_at new r) new.log) r now
    region_switched r lt =
        let at = inside_old r lt in
        let is = switches.cells.each r at in
        let es = entries_in r w.life.entries in
        subst (λ (log : LogSeen). RegionRunsAs plexes (state_in r es (cell_at new r) log) r now) (sym same_log)
        (subst (λ (x : CellSeen). RegionRunsAs plexes (state_in r es x old.log) r now) (sym is)
        (each r at (run.each r at)
        (subst (λ (x : CellSeen). IsKeptState (state_in r es x old.log)) is (subst (λ (log : LogSeen). IsKeptState (state_in r es (cell_at new r) log)) same_log (kept r lt)))))

    runs_switched : RunsAsVolume plexes new now
    runs_switched =
        record {
          fixed = run.fixed;
          some = subst (λ (n : ℕ). 0 < n) (sym same_length) run.some;
          sized = subst (λ (n : ℕ). 0 < n) (sym same_region) run.sized;
          length_is = sizes.0 ∙ run.length_is ∙ sym same_length;
          region_is = sizes.1 ∙ run.region_is ∙ sym same_region;
          epoch = λ r lt. let at = inside_old r lt in ap (λ (x : CellSeen). x.epoch) (switches.cells.each r at) ∙ run.epoch r at ∙ ap (λ l. l.epoch) (sym life);
          told = tells map on old new switches run.told;
          held = λ r k lt. let at = inside_old r lt in run.held r k at ∙ ap (λ (x : CellSeen). holds x.plexes k) (sym (switches.cells.each r at));
          copies = λ r lt. run.copies r (inside_old r lt) ∙ ap (λ (log : LogSeen). log.copies) (sym same_log);
          each = λ r lt. subst (λ (es : List Entry). RegionRunsAs plexes (state_in r es (cell_at new r) new.log) r now) (ap (λ l. entries_in r l.entries) (sym life)) (region_switched r lt);
        }

-- nothing but its masks of plexes changes of a region
module _ (map : ℕ) (on : Bool) (c : CellSeen) (log : LogSeen) (fixed : Fixed) (es : List Entry) where
  abbrev state_was : RegionState
  state_was = state_of (with_log c log) fixed es NoCall c.number

  abbrev state_now : RegionState
  state_now = state_of (with_log (record c { stage = stage_with c.stage map on }) log) fixed es NoCall c.number

  pub seen_then : (k : ℕ) → IsSeen state_now k → IsSeen state_was k
  seen_then k (inl bit) = inl (subst (λ (b : ℕ). has b k ≡ true) (bits_stay c.stage map on) bit)
  seen_then k (inr (inl loose)) = inr (inl loose)
  seen_then k (inr (inr freed)) = inr (inr (subst (λ (q : Phase). freeing q k ≡ true) (phase_stays c.stage map on) freed))

-- ---- a plex goes off

pub plex_off_runs : EachPlexMayGoOff → EachSwitchTells → EachPlexOffRunsOn
plex_off_runs off tells map old new switches volume plex spare settled tight plexes w run sure =
    record {
      runs =
          runs_switched map old new false switches tells plexes w w run refl (refl, refl)
          (λ r lt. off map old new switches volume plex spare settled tight run.fixed (λ n. entries_in n w.life.entries) (λ n at. (run.each n at).kept) r lt)
          (λ r at was kept. record {
            kept = kept;
            here = was.here;
            candidates = was.candidates;
            last = was.last;
            tracks = λ p one. record {
              sure = λ other h. (was.tracks p one).sure (sure p one r at h) h;
              possible = λ seen. (was.tracks p one).possible (seen_then map false (cell_at old r) old.log (run.fixed r) (entries_in r w.life.entries) p.map seen);
            };
            dirty = λ seen. was.dirty (seen_then map false (cell_at old r) old.log (run.fixed r) (entries_in r w.life.entries) 30 seen);
            unsettled = was.unsettled;
          });
      sure = λ of p one r lt h.
          let at = inside_old map old new false switches r lt in
          subst (λ (x : CellSeen). IsOther x.stage p.map) (sym (switches.cells.each r at)) (other_off (cell_at old r).stage map p.map (of p one r at h));
    }

-- ---- a plex goes on

module _ (name : Word) (w : Volume) where
  abbrev now : Volume
  now = volume_unsure name w

  was_sure : (b : Bool) (t : Track) (r : ℕ) → (if b then record t { sure = λ n. false } else t).sure r ≡ true → (b ≡ false) × (t.sure r ≡ true)
  was_sure true t r h = cc
  was_sure false t r h = (refl, h)

  same_possible : (b : Bool) (t : Track) (r : ℕ) → t.possible r ≡ true → (if b then record t { sure = λ n. false } else t).possible r ≡ true
  same_possible true t r h = h
  same_possible false t r h = h

  pub sure_was : (other : Word) (r : ℕ) → (now.tracks other).sure r ≡ true → (other ≢ name) × ((w.tracks other).sure r ≡ true)
  sure_was other r h =
      let parts = was_sure (bytes_eq name other) (w.tracks other) r h in
      ((λ e. not_both (subst (λ (n : Word). bytes_eq name n ≡ true) (sym e) (bytes_eq_self name)) parts.0), parts.1)

  pub possible_now : (other : Word) (r : ℕ) → (w.tracks other).possible r ≡ true → (now.tracks other).possible r ≡ true
  possible_now other r h = same_possible (bytes_eq name other) (w.tracks other) r h

pub plex_on_runs : EachPlexMayGoOn → EachSwitchTells → EachPlexOnRunsOn
plex_on_runs on tells map old new switches volume plex plexes name named w run =
    record {
      runs =
          runs_switched map old new true switches tells plexes w (volume_unsure name w) run refl (refl, refl)
          (λ r lt. on map old new switches volume run.fixed (λ n. entries_in n w.life.entries) (λ n at. run.held n map at ∙ plex n at) (λ n at. (run.each n at).kept) r lt)
          (λ r at was kept. record {
            kept = kept;
            here = was.here;
            candidates = was.candidates;
            last = was.last;
            tracks = λ p one. record {
              sure = λ other h. (was.tracks p one).sure (other_was (cell_at old r).stage map p.map other) (sure_was name w p.name r h).1;
              possible = λ seen. possible_now name w p.name r ((was.tracks p one).possible (seen_then map true (cell_at old r) old.log (run.fixed r) (entries_in r w.life.entries) p.map seen));
            };
            dirty = λ seen. was.dirty (seen_then map true (cell_at old r) old.log (run.fixed r) (entries_in r w.life.entries) 30 seen);
            unsettled = was.unsettled;
          });
      sure = λ of p one r lt h.
          let at = inside_old map old new true switches r lt in
          let was = sure_was name w p.name r h in
          subst (λ (x : CellSeen). IsOther x.stage p.map) (sym (switches.cells.each r at))
          (other_on (cell_at old r).stage map p.map (λ e. was.0 ((named p one).0 e)) (of p one r at was.1));
    }

-- ---- owners

on_switched : (s : Stage) (map : ℕ) (on : Bool) → map < 64 → has (stage_with s map on).on map ≡ on
on_switched s map true low = in_union s.on (only map) map (inr (has-only_same map low))
on_switched s map false low = out_of s.on (only map) map (has-only_same map low)

on_other : (s : Stage) (map k : ℕ) (on : Bool) → k ≢ map → has (stage_with s map on).on k ≡ has s.on k
on_other s map k true apart =
    elim (true_or_false (has s.on k)) [
      | inl here ↦ in_union s.on (only map) k (inl here) ∙ sym here
      | inr none ↦ out_union s.on (only map) k none (has-only_other map k apart) ∙ sym none
    ]
on_other s map k false apart =
    elim (true_or_false (has s.on k)) [
      | inl here ↦ in_without s.on (only map) k here (has-only_other map k apart) ∙ sym here
      | inr none ↦ out_without_left s.on (only map) k none ∙ sym none
    ]

known_here : (s : Stage) (map : ℕ) (on : Bool) → map < 64 → (has (stage_with s map on).on map ≡ true) ⊎ IsOther (stage_with s map on) map
known_here s map true low = inl (on_switched s map true low)
known_here s map false low = inr (inl (in_union s.off (only map) map (inr (has-only_same map low))))

known_other : (s : Stage) (map k : ℕ) (on : Bool) → k ≢ map → (has s.on k ≡ true) ⊎ IsOther s k → (has (stage_with s map on).on k ≡ true) ⊎ IsOther (stage_with s map on) k
known_other s map k on apart (inl here) = inl (on_other s map k on apart ∙ here)
known_other s map k true apart (inr other) = inr (other_on s map k apart other)
known_other s map k false apart (inr other) = inr (other_off s map k other)

pub switch_fits : EachSwitchFits
switch_fits map on old new switches volume plex plexes owners owners' are fit p one r lt =
    let at : r < length old.cells = subst (λ (n : ℕ). r < n) switches.cells.size lt in
    let s = (cell_at old r).stage in
    let low : map < 64 = low_map s (holds (cell_at old r).plexes) map (volume.each r at).whole.formed.stage (plex r at) in
    let was = fit p one r at in
    subst (λ (x : CellSeen). HasMap x.stage p.map (owners' p.name)) (sym (switches.cells.each r at))
    (elim (cases_eq p.map map) [
      | inl e ↦
          record {
            available = (are p one).0 e ∙ sym (on_switched s map on low) ∙ ap (λ (k : ℕ). has (stage_with s map on).on k) (sym e);
            known = subst (λ (k : ℕ). (has (stage_with s map on).on k ≡ true) ⊎ IsOther (stage_with s map on) k) (sym e) (known_here s map on low);
            not_dirty = was.not_dirty;
          }
      | inr apart ↦
          record {
            available = (are p one).1 apart ∙ was.available ∙ sym (on_other s map p.map on apart);
            known = known_other s map p.map on apart was.known;
            not_dirty = was.not_dirty;
          }
    ])

-- ---- the log, and power

pub switch_exact : EachSwitchStaysExact
switch_exact map on old new switches exact r n lt alive few =
    let at : r < length old.cells = subst (λ (m : ℕ). r < m) switches.cells.size lt in
    let is = switches.cells.each r at in
    let same : new.log ≡ old.log = ap (λ (v : VolumeSeen). v.log) switches.same in
    let phase : (cell_at new r).stage.phase ≡ (cell_at old r).stage.phase = ap (λ (x : CellSeen). x.stage.phase) is ∙ phase_stays (cell_at old r).stage map on in
    let bits : (cell_at new r).stage.bits ≡ (cell_at old r).stage.bits = ap (λ (x : CellSeen). x.stage.bits) is ∙ bits_stay (cell_at old r).stage map on in
    subst (λ (log : LogSeen). ShowsExactly (cell_at new r).stage.bits n (marks_or log.told r)) (sym same)
    (subst (λ (b : ℕ). ShowsExactly b n (marks_or old.log.told r)) (sym bits) (exact r n at (λ dead. alive (phase ∙ dead)) (subst (λ (log : LogSeen). n < log.copies) same few)))

pub switch_cut : EachSwitchStaysCut
switch_cut map on old new switches r lt was dead =
    let is = switches.cells.each r lt in
    let same : new.log ≡ old.log = ap (λ (v : VolumeSeen). v.log) switches.same in
    let phase : (cell_at new r).stage.phase ≡ (cell_at old r).stage.phase = ap (λ (x : CellSeen). x.stage.phase) is ∙ phase_stays (cell_at old r).stage map on in
    subst (λ (log : LogSeen). IsCut (with_log (cell_at new r) log)) (sym same)
    (subst (λ (x : CellSeen). IsCut (with_log x old.log)) (sym is) (elim (was (sym phase ∙ dead)) [ inl piece ↦ inl piece | inr log ↦ inr log ]))
