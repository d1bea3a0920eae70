-- A recovery makes the available plexes equal.
use Rattle.std.proofs.Common.{◌≡◌, ℕ, ◌<◌, ◌/◌, refl, sym, ◌∙◌, subst, ap, List, [], inl}
use Rattle.std.specs.Prelude.{Contains}
use Rattle.vx_base.specs.Blocks.{Contents}
use Rattle.vx_life.specs.Candidates.{IsAmong}
use Rattle.vx_life.specs.Entry.{Entry, candidates_of}
use Rattle.vx_life.specs.Life.{Life}
use Rattle.vx_mask.proofs.Tests.{both_parts}
use Rattle.vx_config_parts.specs.declared.state.VolState.{VolState}
use Rattle.vx_core.specs.Region.{RegionState, Fixed, told}
use Rattle.vx_core.specs.Schedule.{Happening, run, AllFit, IsFresh}
use Rattle.vx_core.proofs.ScheduleLaws.{keeps_run, kept_from_fresh}
use Rattle.vx_core_laws.specs.Quiet.{AllQuiet, IsStill}
use Rattle.vx_core_laws.proofs.Beginnings.{settled_begins}
use Rattle.vx_core_laws.proofs.Stills.{quiet_schedule}
use Rattle.vx_image.specs.Image.{LogCopy, Image, WasStarted, is_available_state}
use Rattle.vx_image.specs.Meaning.{candidates_read, StandsForCandidates}
use Rattle.vx_image.specs.Soundness.{IsSoundImage}
use Rattle.vx_image.proofs.Imports.{filled, sound_recorded, stands_recorded}
use Rattle.vx_image.proofs.Readings.{read_stands, read_within}
use Rattle.vx_volume_laws.specs.Regions.{Regions, LeaveImage, IsLifeOf}
use Rattle.vx_volume_laws.specs.Opening.{IsOpened, IsWellFormed}
use Rattle.vx_volume_laws.specs.Recovery.{IsSettledAndCopied, HoldList, IsRecoveredAs, IsLastWritten, EachRecoveryAgrees, EachLossIsRecovered}
use Rattle.vx_volume_laws.proofs.Losses.{AreKept, list_of, sound_left, stands_left}
use Rattle.vx_volume_laws.proofs.Openings.{in_its_region, fresh_from}
use Rattle.vx_volume_laws.proofs.Histories.{last_written}

-- ---- recovery

told_nothing : (old now : RegionState) → IsStill old now → old.around.entries ≡ [] → told now.around ≡ []
told_nothing old now still none = rw (still.no_call, still.entries ∙ none) refl

pub each_recovery_agrees : EachRecoveryAgrees
each_recovery_agrees v candidates sound stands fill well c one regions opened recovery fits quiet equal now is =
    let fresh : ((r : ℕ) → IsFresh (regions r)) = λ r. fresh_from v candidates sound stands fill well c one r (regions r) (opened r) in
    let kept = keeps_run recovery regions (λ k. kept_from_fresh (regions k) (fresh k)) fits in
    let after = run recovery regions in
    let settled = λ (r : ℕ). (equal r).settled in
    let still = quiet_schedule regions recovery (λ n. (opened n).no_call) quiet in (
      list_of v.region after kept settled,
      record {
        among = λ b lt.
            let r = b / v.region in
            let here = in_its_region v b well.region (subst (λ (n : ℕ). b < n) is.length lt) in
            let may = (settled_begins (after r) (kept r) (settled r)).1.among b in
            let e : candidates_of (after r).around.fixed.first (told (after r).around) b ≡ candidates b =
            ap (λ (es : List Entry). candidates_of (after r).around.fixed.first es b) (told_nothing (regions r) (after r) (still r) (opened r).no_entries)
            ∙ ap (λ (fixed : Fixed). fixed.first b) (still r).fixed ∙ (opened r).first b here in
            subst (λ values. IsAmong values (list_of v.region after kept settled b)) e may;
        hold = λ p one_p there b lt.
            let plex = is.plexes p one_p in
            let r = b / v.region in
            let held = (both_parts p.held (is_available_state p.state) there).0 in
            subst (λ (size : ℕ). p.values b ≡ (after (b / size)).around.disks.blocks p.map b) is.region (plex.values held b lt)
            ∙ (settled_begins (after r) (kept r) (settled r)).1.hold p.map b (plex.held r held, (equal r).copied p.map (is.on p one_p there r));
      },
    )

-- ---- the headline

-- the life of the regions
life_of : ℕ → Regions → Life
life_of size regions =
    record {
      candidates = λ b. candidates_of (regions (b / size)).around.fixed.first (told (regions (b / size)).around) b;
      epoch = 0;
      last = λ r. (regions r).around.last;
      entries = [];
    }

lives : (length size : ℕ) (regions : Regions) → IsLifeOf length size (life_of size regions) regions
unfolding life_of
lives length size regions = record { candidates = λ b lt. refl; last = λ r. refl }

recovered_from : (left : Image) (state : VolState) (started : Regions) (kept : AreKept started) → LeaveImage started left → WasStarted left.state → IsWellFormed left → WasStarted state →
    (c : LogCopy) → Contains left.copies c →
    (opened : Regions) → ((r : ℕ) → IsOpened (record left { state = state }) c (candidates_read (record left { state = state })) r (opened r)) →
    (recovery : List (ℕ × Happening)) → AllFit recovery opened → AllQuiet recovery →
    ((r : ℕ) → IsSettledAndCopied (run recovery opened r)) →
    (now : Image) → IsRecoveredAs (record left { state = state }) now (run recovery opened) →
    (list : Contents) × HoldList now (candidates_read (record left { state = state })) list
    × ((b : ℕ) (value : List ℕ) → b < left.length → IsLastWritten b value (told (started (b / left.region)).around) → list b ≡ value)
unfolding life_of
recovered_from left state started kept is_left was whole is c one opened opens recovery fits quiet equal now is_now =
    let v : Image = record left { state = state } in
    let life = life_of left.region started in
    let sound : IsSoundImage v = sound_recorded left state was is (sound_left left started kept is_left (λ r. inl was)) in
    let stands : StandsForCandidates v life.candidates = stands_recorded left state life.candidates was is (stands_left left started kept is_left (filled left.state was) life (lives left.length left.region started)) in
    let result = each_recovery_agrees v (candidates_read v) sound (read_stands v) (filled state is) (record { region = whole.region; maps = whole.maps }) c one opened opens recovery fits quiet equal now is_now in (
      result.0,
      result.1,
      λ b value lt last.
          let among = read_within v life.candidates stands b (result.0 b) lt (result.1.among b (subst (λ (n : ℕ). b < n) (sym is_now.length) lt)) in
          let r = b / left.region in
          last_written (started r).around.fixed.first (told (started r).around) b value (result.0 b) (kept r).history.legal last among,
    )

pub each_loss_is_recovered : EachLossIsRecovered
each_loss_is_recovered started happenings fresh fit left is_left was whole state is v same =
    let kept = keeps_run happenings started (λ k. kept_from_fresh (started k) (fresh k)) fit in
    subst (λ (v : Image).
    (c : LogCopy) → Contains v.copies c →
    (opened : Regions) → ((r : ℕ) → IsOpened v c (candidates_read v) r (opened r)) →
    (recovery : List (ℕ × Happening)) → AllFit recovery opened → AllQuiet recovery →
    ((r : ℕ) → IsSettledAndCopied (run recovery opened r)) →
    (now : Image) → IsRecoveredAs v now (run recovery opened) →
    (list : Contents) × HoldList now (candidates_read v) list
    × ((b : ℕ) (value : List ℕ) → b < v.length → IsLastWritten b value (told (run happenings started (b / v.region)).around) → list b ≡ value)) (sym same)
    (recovered_from left state (run happenings started) kept is_left was whole is)
