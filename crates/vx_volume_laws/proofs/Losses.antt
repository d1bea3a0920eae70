-- What a started volume leaves is sound and stands for its life.
use Rattle.std.proofs.Common.{◌≡◌, ◌⊎◌, inl, inr, ℕ, ◌<◌, ◌/◌, Bool, true, false, refl, sym, ◌∙◌, subst, List}
use Rattle.std.specs.Prelude.{◌||◌, ◌==◌, not, length, Contains}
use Rattle.vx_base.specs.Blocks.{Contents}
use Rattle.vx_block.specs.Regions.{region_count}
use Rattle.vx_life.specs.Candidates.{IsAmong}
use Rattle.vx_life.specs.Entry.{candidates_of}
use Rattle.vx_life.specs.Life.{Life}
use Rattle.vx_mask.specs.Mask.{has}
use Rattle.vx_mask.proofs.Tests.{not_both, true_or_false, or_cases, both_parts, not_before}
use Rattle.vx_config_parts.specs.declared.state.VolState.{VolState}
use Rattle.vx_config_parts.specs.declared.state.VolState.TheVariants as vol
use Rattle.vx_core.specs.declared.stage.Phase.{Phase}
use Rattle.vx_core.specs.declared.stage.Phase.TheVariants.{Settled}
use Rattle.vx_core.specs.Region.{told}
use Rattle.vx_core.specs.Soundness.{IsBetween, IsOpen, IsSoundUnder}
use Rattle.vx_core.specs.Schedule.{run}
use Rattle.vx_core.proofs.ScheduleLaws.{keeps_run, kept_from_fresh}
use Rattle.vx_core_laws.specs.Course.{IsKeptState}
use Rattle.vx_core_laws.proofs.Beginnings.{settled_begins}
use Rattle.vx_image.specs.Image.{PlexImage, LogCopy, Image, WasStarted, IsFilled, regions_of, is_available, is_available_state, is_read, is_alone, has_no_copy, is_unmarked_by_some}
use Rattle.vx_image.specs.Meaning.{plexes_read, StandsForCandidates, IsMarkedInEach, IsMarkedWithin}
use Rattle.vx_image.specs.Soundness.{IsChoiceOfMarks, IsSoundImage}
use Rattle.vx_image.proofs.Imports.{may_differ, filled}
use Rattle.vx_image.proofs.Members.{all_from_each, each_from_all, one_from_any, any_from_one, from_filter, only_one}
use Rattle.vx_volume_laws.specs.Regions.{Regions, IsPlexOfRegions, LeaveImage, IsLifeOf, AllSettled, GoWith}
use Rattle.vx_volume_laws.specs.Loss.{EachLossStands, EachStopStands, EachPairStands}
use Rattle.vx_moments.proofs.Blocks.{below_count}

-- each region is kept
abbrev pub AreKept : Regions → Type 0
AreKept regions = (n : ℕ) → IsKeptState (regions n)

-- a choice of the marks on the bytes is one that the region allows
pub between : (v : Image) (regions : Regions) (r : ℕ) (B : ℕ → Bool) → IsKeptState (regions r) → LeaveImage regions v → IsChoiceOfMarks v r B →
    IsBetween (regions r).stage (regions r).stage.phase (regions r).around B
between v regions r B kept left choice =
    elim (true_or_false (regions r).stage.logged) [
      | inl log ↦ record {
        least = λ k bit.
            choice.least k
            (all_from_each (λ (c : LogCopy). c r k) v.copies
            (λ c one. let h = (left.copies c one).logged r log in h.1 k ∙ kept.sound.shown (left.copies c one).copy k h.0 bit));
        most = λ k chosen.
            let x = one_from_any (λ (c : LogCopy). c r k) v.copies (choice.most k chosen) in
            let h = (left.copies x.0 x.1).logged r log in
            kept.sound.bounded (left.copies x.0 x.1).copy k h.0 (sym (h.1 k) ∙ x.2);
      }
      | inr plain ↦ record {
        least = λ k bit. not_both bit (kept.form.stage.unlogged plain k).2;
        most = λ k chosen.
            let x = one_from_any (λ (c : LogCopy). c r k) v.copies (choice.most k chosen) in
            not_both x.2 ((left.copies x.0 x.1).plain r plain k);
      }
    ]

-- the marks of one copy are a choice
pub copy_is_choice : (v : Image) (r : ℕ) (c : LogCopy) → Contains v.copies c → IsChoiceOfMarks v r (c r)
copy_is_choice v r c one =
    record {
      least = λ k all. each_from_all (λ (d : LogCopy). d r k) v.copies c all one;
      most = λ k marked. any_from_one (λ (d : LogCopy). d r k) v.copies c one marked;
    }

-- the bits of a region are marks that it allows
bits_between : (regions : Regions) (r : ℕ) → IsBetween (regions r).stage (regions r).stage.phase (regions r).around (has (regions r).stage.bits)
bits_between regions r = record { least = λ k bit. bit; most = λ k bit. inl bit }

value_in : (v : Image) (regions : Regions) (p : PlexImage) (b r : ℕ) → IsPlexOfRegions v.length v.region regions p → p.held ≡ true → b < v.length → b / v.region ≡ r → p.values b ≡ (regions r).around.disks.blocks p.map b
value_in v regions p b r of held lt here = subst (λ (n : ℕ). p.values b ≡ (regions n).around.disks.blocks p.map b) here (of.values held b lt)

-- a plex that some choice leaves unmarked is one of the regions'
of_regions : (v : Image) (regions : Regions) (r : ℕ) (B : ℕ → Bool) → LeaveImage regions v → r < regions_of v → IsChoiceOfMarks v r B → (p : PlexImage) → Contains v.plexes p → B p.map ≡ false → IsPlexOfRegions v.length v.region regions p
of_regions v regions r B left low choice p one clear =
    elim (left.plexes p one) [
      | inl of ↦ of
      | inr new ↦ not_both (choice.least p.map (all_from_each (λ (c : LogCopy). c r p.map) v.copies (λ c one_c. new c one_c r low))) clear
    ]

-- in a settled region no plex may differ
closed : {phase : Phase} → phase ≡ Settled → IsOpen phase → ⊥
closed settled may = subst (λ (phase : Phase). IsOpen phase) settled may

pub sound_left : (v : Image) (regions : Regions) → AreKept regions → LeaveImage regions v → ((r : ℕ) → WasStarted v.state ⊎ ((regions r).stage.phase ≡ Settled)) → IsSoundImage v
sound_left v regions kept left was r B low choice =
    let under : IsSoundUnder (regions r).stage (regions r).stage.phase (regions r).around B = (kept r).sound.under B (between v regions r B (kept r) left choice) in
    record {
      unmarked = let p = left.current r B (between v regions r B (kept r) left choice) in (p.0, p.1, p.2);
      agree =
          elim under.agree [
            | inl agree ↦ inl (λ p q at_p at_q b lt here.
                let of_p = of_regions v regions r B left low choice p at_p.of at_p.unmarked in
                let of_q = of_regions v regions r B left low choice q at_q.of at_q.unmarked in
                value_in v regions p b r of_p at_p.held lt here
                ∙ agree p.map q.map b (of_p.held r at_p.held, at_p.unmarked) (of_q.held r at_q.held, at_q.unmarked)
                ∙ sym (value_in v regions q b r of_q at_q.held lt here))
            | inr may ↦ inr (elim (was r) [
              | inr settled ↦ absurd (closed settled may.0)
              | inl is ↦ may_differ v.state v B is (record {
                dirty = may.1.dirty;
                stale = λ p one stale held.
                    elim (left.plexes p one) [
                      | inr new ↦ choice.least p.map (all_from_each (λ (c : LogCopy). c r p.map) v.copies (λ c one_c. new c one_c r low))
                      | inl of ↦
                          elim (of.stale r held stale) [
                            | inl off ↦ may.1.off p.map off (of.held r held)
                            | inr settled ↦ absurd (closed settled may.0)
                          ]
                    ];
              })
            ])
          ];
      tracked = λ m snap clear p q at_p at_q b lt here.
          let of_p = of_regions v regions r B left low choice p at_p.of at_p.unmarked in
          let of_q = of_regions v regions r B left low choice q at_q.of at_q.unmarked in
          value_in v regions p b r of_p at_p.held lt here
          ∙ under.tracked m p.map b (left.snaps m snap r) clear (of_p.held r at_p.held, at_p.unmarked)
          ∙ sym (under.tracked m q.map b (left.snaps m snap r) clear (of_q.held r at_q.held, at_q.unmarked))
          ∙ sym (value_in v regions q b r of_q at_q.held lt here);
    }

-- a plex that is read of a volume that is not empty
pub read_of : (state : VolState) (v : Image) (r : ℕ) (p : PlexImage) → IsFilled state → Contains (plexes_read state v r) p → Contains v.plexes p × (is_read v r p ≡ true)
read_of vol.Empty v r p was one = absurd was
read_of vol.Clean v r p was one = from_filter (is_read v r) v.plexes p one
read_of vol.Active v r p was one = from_filter (is_read v r) v.plexes p one
read_of vol.NeedSync v r p was one = from_filter (is_read v r) v.plexes p one
read_of vol.Sync v r p was one = from_filter (is_read v r) v.plexes p one

pub not_true : (b : Bool) → not b ≡ true → b ≡ false
not_true true h = cc
not_true false h = refl

-- a plex that is read is unmarked under some choice that the region allows, and is one of the regions'
read_unmarked : (v : Image) (regions : Regions) (r : ℕ) (p : PlexImage) → IsKeptState (regions r) → LeaveImage regions v → r < regions_of v → Contains v.plexes p →
    is_unmarked_by_some v r p.map || is_alone v ≡ true →
    (B : ℕ → Bool) × IsBetween (regions r).stage (regions r).stage.phase (regions r).around B × (B p.map ≡ false) × IsPlexOfRegions v.length v.region regions p
read_unmarked v regions r p kept left low one h =
    elim (or_cases (is_unmarked_by_some v r p.map) (is_alone v) h) [
      | inl some ↦
          let c = one_from_any (λ (c : LogCopy). not (c r p.map)) v.copies some in
          let choice = copy_is_choice v r c.0 c.1 in
          let clear = not_true (c.0 r p.map) c.2 in
          (c.0 r, between v regions r (c.0 r) kept left choice, clear, of_regions v regions r (c.0 r) left low choice p one clear)
      | inr alone ↦
          let bits = bits_between regions r in
          let q = left.current r (has (regions r).stage.bits) bits in
          let same : q.0 ≡ p = only_one v.plexes q.0 p (both_parts (has_no_copy v) (length v.plexes == 1) alone).1 q.1 one in
          (has (regions r).stage.bits, bits, subst (λ (x : PlexImage). has (regions r).stage.bits x.map ≡ false) same q.2, subst (λ (x : PlexImage). IsPlexOfRegions v.length v.region regions x) same q.3)
    ]

pub stands_left : (v : Image) (regions : Regions) → AreKept regions → LeaveImage regions v → IsFilled v.state → (life : Life) → IsLifeOf v.length v.region life regions →
    StandsForCandidates v life.candidates
stands_left v regions kept left was life lives b lt p one =
    let r = b / v.region in
    let read = read_of v.state v r p was one in
    let parts = both_parts (is_available p) (is_unmarked_by_some v r p.map || is_alone v) read.1 in
    let held = (both_parts p.held (is_available_state p.state) parts.0).0 in
    let x = read_unmarked v regions r p (kept r) left (below_count b v.length v.region left.sized lt) read.0 parts.1 in
    let among = ((kept r).sound.under x.0 x.1).candidates p.map b (x.3.held r held, x.2) in
    subst (λ values. IsAmong values (p.values b)) (sym (lives.candidates b lt))
    (subst (λ (value : List ℕ). IsAmong (candidates_of (regions r).around.fixed.first (told (regions r).around) b) value) (sym (x.3.values held b lt)) among)

-- the marks that are left are on every copy where they are sure, ..
pub marked_left : (v : Image) (regions : Regions) → AreKept regions → LeaveImage regions v → (k : ℕ) (lower upper : ℕ → Bool) → GoWith regions k lower upper → IsMarkedInEach v k lower
marked_left v regions kept left k lower upper go r low is =
    elim (true_or_false (regions r).stage.logged) [
      | inl log ↦ all_from_each (λ (c : LogCopy). c r k) v.copies (λ c one. let h = (left.copies c one).logged r log in h.1 k ∙ (kept r).sound.shown (left.copies c one).copy k h.0 (go.sure r is))
      | inr plain ↦ not_both (go.sure r is) ((kept r).form.stage.unlogged plain k).2
    ]

-- .. and on some copy only where they may be
pub within_left : (v : Image) (regions : Regions) → LeaveImage regions v → (k : ℕ) (upper : ℕ → Bool) →
    ((r n : ℕ) → n < (regions r).around.fixed.copies → (regions r).around.disks.marks.shows n k ≡ true → upper r ≡ true) → IsMarkedWithin v k upper
within_left v regions left k upper go r low some =
    let x = one_from_any (λ (c : LogCopy). c r k) v.copies some in
    elim (true_or_false (regions r).stage.logged) [
      | inl log ↦ let h = (left.copies x.0 x.1).logged r log in go r (left.copies x.0 x.1).copy h.0 (sym (h.1 k) ∙ x.2)
      | inr plain ↦ not_both x.2 ((left.copies x.0 x.1).plain r plain k)
    ]

pub each_loss_stands : EachLossStands
each_loss_stands regions happenings fresh fits v left was life lives =
    let kept = keeps_run happenings regions (λ k. kept_from_fresh (regions k) (fresh k)) fits in
    record {
      sound = sound_left v (run happenings regions) kept left (λ r. inl was);
      candidates = stands_left v (run happenings regions) kept left (filled v.state was) life lives;
      sure = marked_left v (run happenings regions) kept left;
      possible = λ k lower upper go. within_left v (run happenings regions) left k upper go.possible;
    }

-- ---- stopping

-- the list of settled regions: in each what its unmarked plexes hold
abbrev pub list_of : ℕ → (regions : Regions) → AreKept regions → AllSettled regions → Contents
list_of size regions kept settled b = (settled_begins (regions (b / size)) (kept (b / size)) (settled (b / size))).0 b

pub each_stop_stands : EachStopStands
each_stop_stands regions happenings fresh fits settled v left was life lives =
    let kept = keeps_run happenings regions (λ k. kept_from_fresh (regions k) (fresh k)) fits in
    let after = run happenings regions in (
      record {
        sound = sound_left v after kept left (λ r. inr (settled r));
        candidates = stands_left v after kept left was life lives;
        sure = marked_left v after kept left;
        possible = λ k lower upper go. within_left v after left k upper go.possible;
      },
      list_of v.region after kept settled,
      record {
        among = λ b lt.
            subst (λ values. IsAmong values (list_of v.region after kept settled b)) (sym (lives.candidates b lt)) ((settled_begins (after (b / v.region)) (kept (b / v.region)) (settled (b / v.region))).1.among b);
        reads = λ b lt p one.
            let r = b / v.region in
            let read = read_of v.state v r p was one in
            let parts = both_parts (is_available p) (is_unmarked_by_some v r p.map || is_alone v) read.1 in
            let held = (both_parts p.held (is_available_state p.state) parts.0).0 in
            let x = read_unmarked v after r p (kept r) left (below_count b v.length v.region left.sized lt) read.0 parts.1 in
            x.3.values held b lt
            ∙ (settled_begins (after r) (kept r) (settled r)).1.hold p.map b (x.3.held r held, not_before (has (after r).stage.bits p.map) (x.0 p.map) (x.1.least p.map) x.2);
      },
    )

pub each_pair_stands : EachPairStands
each_pair_stands one other happenings happenings' fresh fits fresh' fits' v w left left' length region m n snap snap' same r B C low choice choice' clear clear' p q at_p at_q b lt here =
    let kept = keeps_run happenings one (λ k. kept_from_fresh (one k) (fresh k)) fits in
    let kept' = keeps_run happenings' other (λ k. kept_from_fresh (other k) (fresh' k)) fits' in
    let under = (kept r).sound.under B (between v (run happenings one) r B (kept r) left choice) in
    let under' = (kept' r).sound.under C (between w (run happenings' other) r C (kept' r) left' choice') in
    let here' : b / w.region ≡ r = subst (λ (size : ℕ). b / size ≡ r) (sym region) here in
    let low' : r < regions_of w = subst (λ (n : ℕ). r < region_count n w.region) (sym length) (subst (λ (size : ℕ). r < region_count v.length size) (sym region) low) in
    let of_p = of_regions v (run happenings one) r B left low choice p at_p.of at_p.unmarked in
    let of_q = of_regions w (run happenings' other) r C left' low' choice' q at_q.of at_q.unmarked in
    value_in v (run happenings one) p b r of_p at_p.held lt here
    ∙ under.tracked m p.map b (left.snaps m snap r) clear (of_p.held r at_p.held, at_p.unmarked)
    ∙ same r b
    ∙ sym (under'.tracked n q.map b (left'.snaps n snap' r) clear' (of_q.held r at_q.held, at_q.unmarked))
    ∙ sym (value_in w (run happenings' other) q b r of_q at_q.held (subst (λ (n : ℕ). b < n) (sym length) lt) here')
