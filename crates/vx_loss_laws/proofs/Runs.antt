-- A loss in a run from sound devices, with what follows it.
use Rattle.std.proofs.Common.{◌≡◌, ◌∙◌, ℕ, suc, ◌+◌, ◌<◌, true, List, [], ◌∷◌, length, Option, Some, None, refl, sym, ap, subst, arith}
use Rattle.std.specs.Prelude.{Contains}
use Rattle.std.proofs.lemmas.Bool.{false≢true}
use Rattle.vx_base.specs.Named.{Word}
use Rattle.vx_life.specs.Candidates.{Candidates, IsAmong}
use Rattle.vx_life.specs.Entry.{Entry}
use Rattle.vx_life.specs.declared.EntryKind.TheVariants.{Write}
use Rattle.vx_script.specs.declared.command.Command.{Command}
use Rattle.vx_answers.specs.declared.answer.Answer.{Answer}
use Rattle.vx_answers.specs.declared.answer.End.{End}
use Rattle.vx_answers.specs.declared.answer.End.TheVariants as ends
use Rattle.vx_answers.specs.declared.answer.View.{View}
use Rattle.vx_answers.specs.declared.answer.View.TheVariants.{Recovered}
use Rattle.vx_moments.specs.Leaving.{grouped}
use Rattle.vx_moments.specs.Moment.{Moment}
use Rattle.vx_moments.specs.World.{Lies, OnDevice, OnPlexes, Volume, World}
use Rattle.vx_plans.specs.Steps.{IsTranscript, Leaves, done}
use Rattle.vx_laws.specs.Histories.{HasHistory, HaveHistories, IsHistoriedOn}
use Rattle.vx_laws.proofs.Lives.{Holding, Reading, from_nothing}
use Rattle.vx_laws.proofs.Transcripts.{form_kept, transcript_kept}
use Rattle.vx_sound.specs.Laws.{IsIdle, WriteNoHeader}
use Rattle.vx_sound_volumes.proofs.Parts.{grouped_was, keeps_all, not_none}
use Rattle.vx_sound_volumes.proofs.Stages.{StateLaws}
use Rattle.vx_sound_volumes.proofs.Steps.{form_kept as form_sound}
use Rattle.vx_sound_imports.specs.Laws.{AreDevicesSound, EachStepKeepsAllSound}
use Rattle.vx_sound_imports.specs.Offered.{AreAllSound}
use Rattle.vx_sound_imports.proofs.Runs.{idle_all}
use Rattle.vx_loss_laws.specs.Losses.{IsLostAndRecovered, IsOneAgain, is_loss, last_of}
use Rattle.vx_loss_laws.specs.Laws.{EachAcknowledgedWriteOutlivesLoss, EachLeftIsRecovered, EachLossLeaves}
use Rattle.vx_loss_laws.proofs.Entries.{each_acknowledged_write_is_held}

-- all stays sound through a run
run_sound : EachStepKeepsAllSound → (place : ℕ) (old : Moment) (commands : List Command) (answers : List Answer) (last : Moment) → WriteNoHeader commands → AreAllSound place old.world → IsTranscript place old commands answers last →
    AreAllSound (place + length commands) last.world
run_sound step place old [] [] last none s is = subst (λ n. AreAllSound n last.world) (omega arith) (subst (λ (m : Moment). AreAllSound place m.world) (sym is) s)
run_sound step place old [] (a ∷ rest) last none s is = absurd is
run_sound step place old (c ∷ cs) [] last none s is = absurd is
run_sound step place old (c ∷ cs) (a ∷ rest) last none s (mid, one, more) =
    let all = run_sound step (place + 1) mid cs rest last none.1 (step place c old a mid none.0 s one) more in
    subst (λ n. AreAllSound n last.world) (let same : place + 1 + length cs ≡ place + suc (length cs) = omega arith in same) all

-- ---- what a volume that runs may hold is what its entries leave

-- whatever was held or read before
abbrev anything : Holding
anything name sectors blocks = Unit {0}

abbrev any_candidates : Reading
any_candidates name sectors first = Unit {0}

own_history : (name : Word) (u : Volume) (lies : Lies) → u.lies ≡ lies → grouped (Some u) ≡ Some u → u.sound ≡ true → IsHistoriedOn anything any_candidates name lies u → (first : Candidates) × HasHistory first u.life
own_history name u (OnPlexes plexes) on runs sound all = let h = all sound in (h.0, h.2)
own_history name u (OnDevice device) on runs sound all = not_none u (sym (by u on) ∙ runs)
  where
    by : (x : Volume) → x.lies ≡ OnDevice device → grouped (Some x) ≡ None
    by x is = ap (λ (l : Lies). grouped (Some (record x { lies = l }))) is

-- no group is left
gone : (end : End) (over left : World) → is_loss end ≡ true → Leaves end over left → left.group ≡ None
gone ends.GroupLost over left is (stands, same) = ap (λ (w : World). w.group) same
gone (ends.Lost parts) over left is (stands, goes) = goes.no_group
gone (ends.Done copied parts blocks) over left is same = cc
gone (ends.Refused r) over left is same = cc
gone (ends.Fault told device parts) over left is same = cc
gone ends.ShelfFailed over left is same = cc

module _ (laws : StateLaws) (step : EachStepKeepsAllSound) (left : EachLossLeaves) (recovers : EachLeftIsRecovered) (place : ℕ) (old : Moment) (vol : Option Word) (views : List View) (new : Moment)
    (idle : IsIdle old.world) (sound : AreDevicesSound old.world) (r : IsLostAndRecovered place old vol views new) where
  abbrev at : ℕ
  at = place + length r.commands

  last_sound : AreAllSound at r.last.world
  last_sound = run_sound step place old r.commands r.answers r.last r.headers (idle_all place old.world idle sound) r.before

  last_histories : HaveHistories anything any_candidates r.last.world
  last_histories =
      transcript_kept anything any_candidates place old r.last r.commands r.answers (record { held = λ name sectors blocks was. tt; read = λ name sectors first was. tt })
      (from_nothing anything any_candidates old.world idle.volumes) r.before

  over_histories : HaveHistories anything any_candidates r.loss.over.world
  over_histories =
      form_kept anything any_candidates at r.command.group r.command.form r.last r.loss.views r.loss.end r.loss.over (λ name d is. tt, λ name g here v is may. tt)
      (record { starts = λ name mid has g here v is may. tt; healed = λ name g v mid has. tt }) last_histories r.loss.does

  -- its bytes were sound as it began
  over_sound : (name : Word) (u : Volume) → grouped (r.loss.over.world.volumes name) ≡ Some u → u.sound ≡ true
  over_sound name u runs =
      let undone : r.loss.end ≡ done → ⊥ = λ is. false≢true (ap is_loss (sym is) ∙ r.lost) in
      ((form_sound laws at r.command.group r.command.form r.last r.loss.views r.loss.end r.loss.over (λ is. absurd (undone is)) (keeps_all at r.last.world last_sound.volumes) r.loss.does).running name u runs).0

  history : (name : Word) (u : Volume) → grouped (r.loss.over.world.volumes name) ≡ Some u → (first : Candidates) × HasHistory first u.life
  history name u runs =
      let is = grouped_was (r.loss.over.world.volumes name) u runs in
      own_history name u u.lies refl (ap grouped (sym is) ∙ runs) (over_sound name u runs) (over_histories name u is)

  pub outlives : (name : Word) (dirty copied : ℕ) → Contains views (Recovered name dirty copied) → (u : Volume) → grouped (r.loss.over.world.volumes name) ≡ Some u →
      (after : IsOneAgain vol name dirty copied u.life.candidates r.back new) × ((b : ℕ) (e : Entry) → b < after.of.len → last_of b u.life.entries ≡ Some e → e.kind ≡ Write → after.list b ≡ e.values b)
  outlives name dirty copied told u runs =
      let dg = r.group.config.group in
      let remains = left at r.command r.last r.answer r.left r.loss r.group r.header last_sound r.lost r.here name u runs in
      let after = recovers (at + 1) r.left dg name u.life.candidates (step at r.command r.last r.answer r.left r.header last_sound r.loss) (gone r.loss.end r.loss.over.world r.left.world r.lost r.loss.leaves) remains r.import r.told r.back r.import_is r.imports
      r.recovery vol views new r.recovery_is r.recovers dirty copied told in
      let h = history name u runs in (
        after,
        λ b e low last write.
            each_acknowledged_write_is_held h.0 u.life.entries e b last write (after.list b) (subst (λ vs. IsAmong vs (after.list b)) (h.1.now b) (after.agrees.reads.among b low)),
      )

pub each_acknowledged_write_outlives_loss : StateLaws → EachStepKeepsAllSound → EachLossLeaves → EachLeftIsRecovered → EachAcknowledgedWriteOutlivesLoss
each_acknowledged_write_outlives_loss laws step left recovers place old vol views new idle sound r name dirty copied told u runs = outlives laws step left recovers place old vol views new idle sound r name dirty copied told u runs
