-- A volume that runs goes on with its life: what it reads is known still, and it is not ahead of the commands.
use Rattle.std.proofs.Common.{◌≡◌, ◌∙◌, ℕ, ◌+◌, ◌==◌, ◌&&◌, ◌||◌, not, nat_le, nat_lt, Bool, true, List, [], ◌∷◌, refl, sym, ap, subst, arith}
use Rattle.std.specs.List.{list_all}
use Rattle.std.proofs.lemmas.Bool.{and_parts, and_from}
use Rattle.std.proofs.lemmas.Bool.Decides.{nat_tests}
use Rattle.vx_base.specs.Blocks.{Contents}
use Rattle.vx_base.specs.Named.{Word}
use Rattle.vx_life.specs.declared.EntryKind.{EntryKind}
use Rattle.vx_life.specs.Entry.{Entry}
use Rattle.vx_life.specs.Life.{GoesOn, Life, life_after}
use Rattle.vx_script_forms.specs.declared.call.Call.{Call}
use Rattle.vx_answers.specs.declared.answer.End.{End}
use Rattle.vx_answers.specs.declared.answer.End.TheVariants as ends
use Rattle.vx_moments.specs.Moment.{Counts}
use Rattle.vx_moments.specs.World.{Group, Volume, World}
use Rattle.vx_moments.specs.Owners.{owners_of}
use Rattle.vx_moments.specs.Tracks.{volume_failed}
use Rattle.vx_moments.proofs.Tracked.{goes_lies, goes_sound}
use Rattle.vx_stages.specs.Calls.{AreOf, done_kind, failed_kind, values_of, volume_of}
use Rattle.vx_stages.specs.GroupCalls.{BecomesBy, LivesOnPlexes, TellsParts, comes_next, is_known}
use Rattle.vx_sound_volumes.proofs.Parts.{Keeps}

-- the entry is of an earlier command, or of a block
abbrev is_before : ℕ → ℕ → Entry → Bool
is_before place epoch e = nat_le e.part.epoch epoch && (not (e.session == 0) || nat_lt e.place place)

before_next : (place epoch : ℕ) (e : Entry) → is_before place epoch e ≡ true → is_before (place + 1) epoch e ≡ true
before_next place epoch e h = grind (arith, nat_tests, h)

all_before : (place epoch : ℕ) (es : List Entry) → list_all (is_before place epoch) es ≡ true → list_all (is_before (place + 1) epoch) es ≡ true
all_before place epoch [] h = refl
all_before place epoch (e ∷ es) h =
    let parts = and_parts (is_before place epoch e) (list_all (is_before place epoch) es) h in
    and_from _ _ (before_next place epoch e parts.0) (all_before place epoch es parts.1)

pub next_place : (place : ℕ) (life : Life) → comes_next place life ≡ true → comes_next (place + 1) life ≡ true
next_place place life h = all_before place life.epoch life.entries h

pub next_running : (place : ℕ) (P : Word → Type 0) (w : World) → Keeps place P w → Keeps (place + 1) P w
next_running place P w k = record {
  running = λ name run is. let r = k.running name run is in (r.0, next_place place run.life r.1);
  stopped = k.stopped;
  disks = k.disks;
}

of_now : (place epoch : ℕ) (e : Entry) → e.part.epoch ≡ epoch → e.place ≡ place → is_before (place + 1) epoch e ≡ true
of_now place epoch e same at = grind (arith, nat_tests, same, at)

goes_next : (place : ℕ) (kind : EntryKind) (values : Contents) (es : List Entry) (old new : Life) → AreOf place kind values es → GoesOn old es new → comes_next (place + 1) old ≡ true → comes_next (place + 1) new ≡ true
goes_next place kind values [] old new are is h = subst (λ (l : Life). comes_next (place + 1) l ≡ true) (sym is) h
goes_next place kind values (e ∷ es) old new are goes h =
    goes_next place kind values es (life_after e old) new are.1 goes.1 (and_from _ _ (of_now place old.epoch e goes.0.epoch are.0.place_is) h)

module _ (place : ℕ) (call : Call) (g : Group) (plexes : List Word) (v : Volume) (old new : Counts) (end : End) (later : Volume) (sound : v.sound ≡ true) (next : comes_next place v.life ≡ true) where
  told_next : (end : End) (es : List Entry) (life : Life) → TellsParts place call v.region end es → GoesOn v.life es life → comes_next (place + 1) life ≡ true
  told_next (ends.Done copied parts blocks) es life told goes = goes_next place (done_kind call) (values_of call blocks) es v.life life told.2.each goes (next_place place v.life next)
  told_next (ends.Fault disk device parts) es life told goes = goes_next place (failed_kind call) (values_of call []) es v.life life told.1 goes (next_place place v.life next)
  told_next (ends.Lost parts) es life told goes = goes_next place (failed_kind call) (values_of call []) es v.life life told.1 goes (next_place place v.life next)
  told_next (ends.Refused r) es life told goes = absurd told
  told_next ends.ShelfFailed es life told goes = absurd told
  told_next ends.GroupLost es life told goes = absurd told

  pub lived : BecomesBy (is_known place v) place call g plexes v old new end later → (later.lies ≡ v.lies) × (later.sound ≡ true) × (comes_next (place + 1) later.life ≡ true)
  lived becomes =
      let l : LivesOnPlexes place call g plexes v old new end later = subst (λ b. BecomesBy b place call g plexes v old new end later) (and_from _ _ sound next) becomes in
      let owners = owners_of g (volume_of call) plexes in
      let failed = volume_failed owners l.failed v in (
        ap (λ (x : Volume). x.lies) l.is ∙ goes_lies owners l.entries failed,
        ap (λ (x : Volume). x.sound) l.is ∙ goes_sound owners l.entries failed ∙ sound,
        subst (λ (x : Volume). comes_next (place + 1) x.life ≡ true) (sym l.is) (told_next end l.entries l.life l.told l.goes_on),
      )
