-- What keeps the history of each volume: its life goes on, another is started, or all are ended.
use Rattle.std.proofs.Common.{◌≡◌, ℕ, ◌+◌, ◌-◌, ◌<◌, Bool, true, false, cond, List, [], ◌∷◌, Option, Some, None, subst, sym, ap, ◌∙◌, refl, arith, eqb, inl, inr}
use Rattle.std.proofs.lemmas.Bool.{eqb-true}
use Rattle.std.specs.Prelude.{MatchBool}
use Rattle.std.specs.Str.{bytes_eq}
use Rattle.vx_base.specs.Blocks.{Contents, is_in}
use Rattle.vx_base.specs.Named.{Word, put}
use Rattle.vx_base.proofs.NamedLemmas.{put_same, put_other, name_cases}
use Rattle.vx_life.specs.declared.EntryKind.{EntryKind}
use Rattle.vx_life.specs.declared.EntryKind.TheVariants.{Read, Write, Torn, Missed}
use Rattle.vx_life.specs.Candidates.{Candidates, IsAmong, known}
use Rattle.vx_life.specs.Entry.{Entry, values_after, candidates_of, ReadsAmong}
use Rattle.vx_life.specs.Life.{Life, IsNext, begun_from, life_after, GoesOn}
use Rattle.vx_moments.specs.World.{World, Volume, Lies, OnDevice, OnPlexes}
use Rattle.vx_laws.specs.Histories.{CountsDown, HasHistory, IsHistoried, IsHistoriedOn, HaveHistories}
use Rattle.vx_moments.specs.Leaving.{group_gone}
use Rattle.vx_moments.proofs.Lone.{lone_was}

reads_as : (kind : EntryKind) (c d : Candidates) (e : Entry) → ((k : ℕ) → c k ≡ d k) → ReadsAmong kind c e → ReadsAmong kind d e
reads_as Read c d e same reads = λ k h. subst (λ v. IsAmong v (e.values k)) (same k) (reads k h)
reads_as Write c d e same reads = tt
reads_as Torn c d e same reads = tt
reads_as Missed c d e same reads = tt

counted : (b : Bool) (e : Entry) (last : ℕ) (region : ℕ) (es : List Entry) → e.part.number ≡ last + 1 → CountsDown region last es → MatchBool b ((e.part.number ≡ cond b e.part.number last) × (0 < cond b e.part.number last) × CountsDown region (cond b e.part.number last - 1) es) (CountsDown region (cond b e.part.number last) es)
counted true e last region es is counts =
    let one_less : last ≡ e.part.number - 1 = omega (arith, is) in
    (refl, omega (arith, is), subst (λ n. CountsDown region n es) one_less counts)
counted false e last region es is counts = counts

-- the life goes on by one entry
pub next_history : (first : Candidates) (life : Life) (e : Entry) → HasHistory first life → IsNext life e → HasHistory first (life_after e life)
next_history first life e h next = record {
  legal = (reads_as e.kind life.candidates (candidates_of first life.entries) e h.now next.reads, h.legal);
  now = λ k. ap (λ o. cond (is_in e.start e.count k) (values_after e.kind (e.values k) o) o) (h.now k);
  numbers = λ region. by_region region (eqb region e.part.region) refl;
}
  where
    by_region : (region : ℕ) (b : Bool) → eqb region e.part.region ≡ b → MatchBool b ((e.part.number ≡ cond b e.part.number (life.last region)) × (0 < cond b e.part.number (life.last region)) × CountsDown region (cond b e.part.number (life.last region) - 1) life.entries) (CountsDown region (cond b e.part.number (life.last region)) life.entries)
    by_region region true is =
        let same : region ≡ e.part.region = eqb-true region e.part.region is in
        counted true e (life.last region) region life.entries (next.number ∙ ap (λ r. life.last r + 1) (sym same)) (h.numbers region)
    by_region region false is = h.numbers region

pub goes_on_history : (first : Candidates) (old new : Life) (es : List Entry) → HasHistory first old → GoesOn old es new → HasHistory first new
goes_on_history first old new [] h is = subst (λ l. HasHistory first l) (sym is) h
goes_on_history first old new (e ∷ es) h goes = goes_on_history first (life_after e old) new es (next_history first old e h goes.0) goes.1

-- a life that begins has one
pub begun_history : (first : Candidates) → HasHistory first (begun_from first)
begun_history first = record { legal = tt; now = λ k. refl; numbers = λ region. refl }

-- what a device held, by its name and its size
abbrev pub Holding : Type 1
Holding = Word → ℕ → Contents → Type 0

-- what was read of a volume's bytes, by its name and its size
abbrev pub Reading : Type 1
Reading = Word → ℕ → Candidates → Type 0

module _ (Held : Holding) (Read : Reading) where
  carried_on : (vol : Word) (v u : Volume) (lies : Lies) → u.length ≡ v.length → u.life ≡ v.life → (u.sound ≡ true → v.sound ≡ true) → IsHistoriedOn Held Read vol lies v → IsHistoriedOn Held Read vol lies u
  carried_on vol v u (OnDevice name) length life sound (first, held, h) = (first, subst (λ n. Held name n first) (sym length) held, subst (HasHistory (known first)) (sym life) h)
  carried_on vol v u (OnPlexes plexes) length life sound h = λ is.
      let was = h (sound is) in
      (was.0, subst (λ n. Read vol n was.0) (sym length) was.1, subst (HasHistory was.0) (sym life) was.2)

  -- the history is that of the life: what else changes of the volume is nothing to it
  pub carried : (vol : Word) (v u : Volume) → u.lies ≡ v.lies → u.length ≡ v.length → u.life ≡ v.life → (u.sound ≡ true → v.sound ≡ true) → IsHistoried Held Read vol v → IsHistoried Held Read vol u
  carried vol v u lies length life sound h = subst (λ l. IsHistoriedOn Held Read vol l u) (sym lies) (carried_on vol v u v.lies length life sound h)

  -- what is put has a history, and all others have theirs
  pub put_history : (w : World) (vol : Word) (u : Volume) → IsHistoried Held Read vol u → HaveHistories Held Read w → (name : Word) (v : Volume) → put vol (Some u) w.volumes name ≡ Some v → IsHistoried Held Read name v
  put_history w vol u own all name v e = elim (name_cases vol name) [
    | inl here ↦
        let same : u ≡ v = some_one u v (sym (put_same vol (Some u) w.volumes) ∙ ap (λ (n : Word). put vol (Some u) w.volumes n) here ∙ e) in
        subst (λ (n : Word). IsHistoried Held Read n v) here (subst (λ (x : Volume). IsHistoried Held Read vol x) same own)
    | inr differ ↦ all name v (sym (put_other vol name (Some u) w.volumes differ) ∙ e)
  ]
    where
      some_one : (x y : Volume) → Some x ≡ Some y → x ≡ y
      some_one x y e = cc

  -- where a volume is taken away, all others have theirs
  pub taken_history : (w : World) (vol : Word) → HaveHistories Held Read w → (name : Word) (v : Volume) → put vol None w.volumes name ≡ Some v → IsHistoried Held Read name v
  taken_history w vol all name v e = by_test (bytes_eq vol name) e
    where
      by_test : (b : Bool) → cond b None (w.volumes name) ≡ Some v → IsHistoried Held Read name v
      by_test true is = cc
      by_test false is = all name v is

  pub same_volumes : (old new : World) → new.volumes ≡ old.volumes → HaveHistories Held Read old → HaveHistories Held Read new
  same_volumes old new same all = λ vol v is. all vol v (ap (λ (f : Word → Option Volume). f vol) (sym same) ∙ is)

  pub from_nothing : (w : World) → ((vol : Word) → w.volumes vol ≡ None) → HaveHistories Held Read w
  from_nothing w none vol v e = let no : w.volumes vol ≡ None = none vol in cc

  -- where the group leaves, those that stay have theirs
  pub without_group : (w : World) → HaveHistories Held Read w → HaveHistories Held Read (group_gone w)
  without_group w all = λ vol v is. all vol v (lone_was (w.volumes vol) v is)
