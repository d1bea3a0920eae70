-- A recovery of volumes that tells of a volume has come to it, where its bytes stand for what they stood for, has healed it, and has let it run.
use Rattle.std.proofs.Common.{◌≡◌, ◌≢◌, ◌∙◌, ◌⊎◌, ℕ, true, false, List, [], ◌∷◌, Some, None, refl, sym, ap, subst, inl, inr}
use Rattle.std.specs.Prelude.{Contains}
use Rattle.std.proofs.lemmas.Bool.{false≢true}
use Rattle.vx_life.specs.Candidates.{Candidates}
use Rattle.vx_base.specs.Named.{Word}
use Rattle.vx_base.proofs.NamedLemmas.{name_cases, bytes_eq_self, put_same}
use Rattle.vx_image.proofs.Members.{contains, is_in}
use Rattle.vx_image.proofs.PlexMembers.{IsIn}
use Rattle.vx_mask.proofs.Tests.{not_both}
use Rattle.std.specs.Str.{bytes_eq}
use Rattle.vx_answers.specs.declared.answer.End.{End}
use Rattle.vx_answers.specs.declared.answer.View.{View}
use Rattle.vx_answers.specs.declared.answer.View.TheVariants.{Recovered}
use Rattle.vx_moments.specs.Moment.{Moment}
use Rattle.vx_moments.specs.World.{Volume, World}
use Rattle.vx_moments.specs.Group.{image_on}
use Rattle.vx_stages.specs.Starting.{StartStops, volume_started}
use Rattle.vx_recovery.specs.Going.{Begin, Heal, Need, Pass, Sees, SeesOne, all_done, is_done, need_of}
use Rattle.vx_recovery.specs.Recovering.{IsRecovered, RecoveryStops}
use Rattle.vx_plans.specs.Recoveries.{HasSeen}
use Rattle.vx_plans.proofs.Recoveries.{clean_rests, clean_seen, dirty_rests, first_seen, healed_seen, pass_seen}
use Rattle.vx_sound_volumes.proofs.Parts.{Every, Keeps, not_none}
use Rattle.vx_sound_volumes.proofs.Recoveries.{recovered_kept, starts}
use Rattle.vx_sound_volumes.proofs.Running.{found_there}
use Rattle.vx_sound_volumes.proofs.Stages.{StateLaws}
use Rattle.vx_loss_laws.proofs.Healed.{begun_runs}
use Rattle.vx_loss_laws.proofs.Others.{Stays, Waits, done_start, recovered_stays, recovery_undone, start_stays}

module _ (laws : StateLaws) (place : ℕ) (name : Word) (u : Candidates) where
  -- the volume waits for its recovery, as long as it does not run
  abbrev pub Holds : Moment → Type 0
  Holds m = Keeps place Every m.world × (m.world.volumes name ≡ None → Waits name u m.world)

  -- a volume of the name runs
  abbrev Runs : Moment → Type 0
  Runs m = (run : Volume) × (m.world.volumes name ≡ Some run)

  -- one that was recovered, or started, runs
  recovered_runs : (dirty copied : ℕ) (old new : Moment) → IsRecovered name dirty copied old new → Runs new
  recovered_runs dirty copied old new r =
      let named = (found_there name r.group.config.volumes r.of r.begins.is.volume).1 in
      let image = image_on r.healed.world.devices r.group r.of in
      let run = volume_started r.group r.of image r.ends.runs.sound in
      (run, subst (λ n. new.world.volumes n ≡ Some run) named (begun_runs r.group r.of image r.ends.recorded new r.ends.runs))

  started_runs : (old : Moment) (began : End) (new : Moment) → StartStops name old began new → is_done began ≡ true → Runs new
  started_runs old began new stops over =
      let d = done_start name old began new over stops in
      let named = (found_there name d.group.config.volumes d.of d.found).1 in
      let c = d.after.copied in
      (c.later, subst (λ n. new.world.volumes n ≡ Some c.later) named (ap (λ (w : World). w.volumes d.of.name) c.goes.world ∙ put_same d.of.name (Some c.later) d.after.begun.world.volumes))

  runs_waits : (m : Moment) → Runs m → m.world.volumes name ≡ None → Waits name u m.world
  runs_waits m runs none = not_none runs.0 (sym none ∙ runs.1)

  stays_waits : (old new : Moment) → Stays name u old.world new.world → (old.world.volumes name ≡ None → Waits name u old.world) → new.world.volumes name ≡ None → Waits name u new.world
  stays_waits old new s was none = s.waits (was (sym s.same ∙ none))

  -- ---- one volume is seen to

  apart : (first : Word) → bytes_eq name first ≡ false → name ≢ first
  apart first other same = not_both (subst (λ n. bytes_eq name n ≡ true) same (bytes_eq_self name)) other

  started_holds : (first : Word) (old : Moment) (began : End) (mid : Moment) → Holds old → StartStops first old began mid → is_done began ≡ true → Holds mid
  started_holds first old began mid h stops over = (
    starts laws place first old began mid h.0 stops,
    elim (name_cases name first) [
      | inl same ↦ runs_waits mid (started_runs old began mid (subst (λ n. StartStops n old began mid) (sym same) stops) over)
      | inr other ↦ stays_waits old mid (start_stays name u laws place first (apart first other) old began mid h.0 stops over) h.1
    ],
  )

  recovered_holds : (first : Word) (dirty copied : ℕ) (old mid : Moment) → Holds old → IsRecovered first dirty copied old mid → Holds mid
  recovered_holds first dirty copied old mid h r = (
    recovered_kept laws place first dirty copied old mid h.0 r,
    elim (name_cases name first) [
      | inl same ↦ runs_waits mid (recovered_runs dirty copied old mid (subst (λ n. IsRecovered n dirty copied old mid) (sym same) r))
      | inr other ↦ stays_waits old mid (recovered_stays name u laws place first (apart first other) dirty copied old mid h.0 r) h.1
    ],
  )

  -- a recovery that is stopped does not end a command that is done
  undone : {A : Type 0} (first : Word) (old new : Moment) → RecoveryStops first old all_done new → A
  undone first old new stops = absurd (false≢true (sym (recovery_undone first old all_done new stops)))

  -- ---- once it runs it is let run

  module _ (run : Volume) where
    seen_one : (first : Word) (names : List Word) (new : Moment) → ((m : Moment) (views : List View) → Keeps place Every m.world → m.world.volumes name ≡ Some run → Sees names m views all_done new → new.world.volumes name ≡ Some run) →
        (n : Need) (old : Moment) (views : List View) → Keeps place Every old.world → old.world.volumes name ≡ Some run → need_of first old.world ≡ n → SeesOne n first (Sees names) old views all_done new → new.world.volumes name ≡ Some run
    seen_one first names new more Pass old views k runs need rest = more old views k runs rest
    seen_one first names new more Begin old views k runs need (inl (mid, began, later, stops, over, rest)) =
        let other : name ≢ first = λ same. not_none run (sym (subst (λ n. old.world.volumes n ≡ None) (sym same) (clean_rests first old.world need)) ∙ runs) in
        more mid views (starts laws place first old began mid k stops) ((start_stays name u laws place first other old began mid k stops over).same ∙ runs) rest
    seen_one first names new more Begin old views k runs need (inr (none, later, stops, over)) = cc
    seen_one first names new more Heal old views k runs need (inl (mid, dirty, copied, rest, later, r, told, behind)) =
        let other : name ≢ first = λ same. not_none run (sym (subst (λ n. old.world.volumes n ≡ None) (sym same) (dirty_rests first old.world need)) ∙ runs) in
        more mid rest (recovered_kept laws place first dirty copied old mid k r) ((recovered_stays name u laws place first other dirty copied old mid k r).same ∙ runs) behind
    seen_one first names new more Heal old views k runs need (inr (none, later, stops)) = undone first old new stops

    sees_runs : (names : List Word) (old : Moment) (views : List View) (new : Moment) → Keeps place Every old.world → old.world.volumes name ≡ Some run → Sees names old views all_done new → new.world.volumes name ≡ Some run
    sees_runs [] old views new k runs (none, over, same) = ap (λ (m : Moment). m.world.volumes name) same ∙ runs
    sees_runs (first ∷ names) old views new k runs sees = seen_one first names new (λ m vs j at rest. sees_runs names m vs new j at rest) (need_of first old.world) old views k runs refl sees

  -- ---- the volume that is told of

  -- it has come to the volume, which waits, and has recovered it, and the volume runs as that left it
  pub record IsSeen (names : List Word) (old : Moment) (dirty copied : ℕ) (new : Moment) : Type 0 where
    pub mid : Moment
    pub come : HasSeen names old name mid
    pub waits : Waits name u mid.world
    pub behind : Moment
    pub is : IsRecovered name dirty copied mid behind
    pub runs : new.world.volumes name ≡ behind.world.volumes name

  -- a view of the volume is that of the first, or one of the others
  told_first : (first : Word) (d c : ℕ) (views rest : List View) (dirty copied : ℕ) → views ≡ Recovered first d c ∷ rest → Contains views (Recovered name dirty copied) → ((first ≡ name) × (d ≡ dirty) × (c ≡ copied)) ⊎ Contains rest (Recovered name dirty copied)
  told_first first d c views rest dirty copied is there = by (is_in (Recovered first d c ∷ rest) (Recovered name dirty copied) (subst (λ vs. Contains vs (Recovered name dirty copied)) is there))
    where
      by : IsIn (Recovered first d c ∷ rest) (Recovered name dirty copied) → ((first ≡ name) × (d ≡ dirty) × (c ≡ copied)) ⊎ Contains rest (Recovered name dirty copied)
      by (inl same) = inl (let a : first ≡ name = cc in a, let b : d ≡ dirty = cc in b, let e : c ≡ copied = cc in e)
      by (inr one) = inr (contains rest (Recovered name dirty copied) one)

  nothing_told : {A : Type 0} (views : List View) (v : View) → views ≡ [] → Contains views v → A
  nothing_told views v none there = absurd (is_in [] v (subst (λ vs. Contains vs v) none there))

  module _ (dirty copied : ℕ) (new : Moment) where
    abbrev Seen : List Word → Moment → Type 0
    Seen names old = IsSeen names old dirty copied new

    abbrev Told : List View → Type 0
    Told views = Contains views (Recovered name dirty copied)

    recovered_first : (first : Word) (names : List Word) (old : Moment) → Holds old → need_of first old.world ≡ Heal → (mid : Moment) → IsRecovered first dirty copied old mid → first ≡ name → (rest : List View) → Sees names mid rest all_done new → Seen (first ∷ names) old
    recovered_first first names old h need mid r same rest behind =
        let is : IsRecovered name dirty copied old mid = subst (λ n. IsRecovered n dirty copied old mid) same r in
        let runs = recovered_runs dirty copied old mid is in
        record {
          mid = old;
          come = subst (λ n. HasSeen (n ∷ names) old name old) (sym same) (first_seen name names old);
          waits = h.1 (subst (λ n. old.world.volumes n ≡ None) same (dirty_rests first old.world need));
          behind = mid;
          is = is;
          runs = sees_runs runs.0 names mid rest new (recovered_kept laws place first dirty copied old mid h.0 r) runs.1 behind ∙ sym runs.1;
        }

    one_told : (first : Word) (names : List Word) → ((m : Moment) (views : List View) → Holds m → Sees names m views all_done new → Told views → Seen names m) →
        (n : Need) (old : Moment) (views : List View) → Holds old → need_of first old.world ≡ n → SeesOne n first (Sees names) old views all_done new → Told views → Seen (first ∷ names) old
    one_told first names more Pass old views h need rest told =
        let s = more old views h rest told in
        record { mid = s.mid; come = pass_seen first names old name s.mid need s.come; waits = s.waits; behind = s.behind; is = s.is; runs = s.runs }
    one_told first names more Begin old views h need (inl (mid, began, later, stops, over, rest)) told =
        let s = more mid views (started_holds first old began mid h stops over) rest told in
        record { mid = s.mid; come = clean_seen first names old name s.mid began mid need later stops over s.come; waits = s.waits; behind = s.behind; is = s.is; runs = s.runs }
    one_told first names more Begin old views h need (inr (none, later, stops, over)) told = nothing_told views (Recovered name dirty copied) none told
    one_told first names more Heal old views h need (inr (none, later, stops)) told = nothing_told views (Recovered name dirty copied) none told
    one_told first names more Heal old views h need (inl (mid, d, c, rest, later, r, are, behind)) told = elim (told_first first d c views rest dirty copied are told) [
      | inl here ↦ recovered_first first names old h need mid (subst (λ n. IsRecovered first n copied old mid) here.1 (subst (λ n. IsRecovered first d n old mid) here.2 r)) here.0 rest behind
      | inr further ↦
          let s = more mid rest (recovered_holds first d c old mid h r) behind further in
          record { mid = s.mid; come = healed_seen first names old name s.mid d c mid need later r s.come; waits = s.waits; behind = s.behind; is = s.is; runs = s.runs }
    ]

    pub sees_told : (names : List Word) (old : Moment) (views : List View) → Holds old → Sees names old views all_done new → Told views → Seen names old
    sees_told [] old views h (none, over, same) told = nothing_told views (Recovered name dirty copied) none told
    sees_told (first ∷ names) old views h sees told = one_told first names (λ m vs j rest t. sees_told names m vs j rest t) (need_of first old.world) old views h refl sees told
