-- The volumes of a recovery, one after the other: what each of them leaves as it found it holds at the end, wherever that is.
use Rattle.std.proofs.Common.{◌≡◌, ◌⊎◌, ℕ, true, false, List, [], ◌∷◌, Option, Some, None, refl, sym, ap, subst, inl, inr}
use Rattle.std.specs.Prelude.{if◌then◌else◌, is_some}
use Rattle.vx_base.specs.Named.{Word}
use Rattle.vx_answers.specs.declared.answer.End.{End}
use Rattle.vx_answers.specs.declared.answer.View.{View}
use Rattle.vx_answers.specs.declared.answer.View.TheVariants as view
use Rattle.vx_answers.specs.declared.refusal.Refusal.{Refusal}
use Rattle.vx_answers.specs.declared.refusal.Refusal.TheVariants as refusal
use Rattle.vx_moments.specs.Moment.{AreLater, Moment}
use Rattle.vx_moments.specs.World.{Volume, World}
use Rattle.vx_stages.specs.Ends.{EndsIn}
use Rattle.vx_stages.specs.Starting.{StartStops, StartWants}
use Rattle.vx_recovery.specs.Going.{Begin, Heal, Need, Pass, Recovers, RecoversShort, Sees, SeesOne, SeesShort, SeesShortOne, all_done, is_done, need_in, need_of}
use Rattle.vx_recovery.specs.Recovering.{IsRecovered, RecoveryStops, RecoveryWants}
use Rattle.vx_plans.specs.Recoveries.{HasSeen}

-- ---- a volume that is seen to does not run

pub clean_rests : (name : Word) (w : World) → need_of name w ≡ Begin → w.volumes name ≡ None
clean_rests name w is = by (w.volumes name) is
  where
    by : (o : Option Volume) → (if is_some o then Pass else need_in name w.group) ≡ Begin → o ≡ None
    by None e = refl
    by (Some v) e = cc

pub dirty_rests : (name : Word) (w : World) → need_of name w ≡ Heal → w.volumes name ≡ None
dirty_rests name w is = by (w.volumes name) is
  where
    by : (o : Option Volume) → (if is_some o then Pass else need_in name w.group) ≡ Heal → o ≡ None
    by None e = refl
    by (Some v) e = cc

-- ---- the volumes

-- a start that is done, and a recovery, leave this as they found it
pub record AreCarried (P : Moment → Type 0) : Type 0 where
  pub clean : (name : Word) (old : Moment) (began : End) (mid : Moment) → P old → need_of name old.world ≡ Begin → AreLater old.counts mid.counts → StartStops name old began mid → is_done began ≡ true → P mid
  pub healed : (name : Word) (dirty copied : ℕ) (old mid : Moment) → P old → need_of name old.world ≡ Heal → AreLater old.counts mid.counts → IsRecovered name dirty copied old mid → P mid

-- where the command ends, this holds
pub record IsEndedBy (P : Moment → Type 0) (Q : End → Moment → Type 0) : Type 0 where
  pub over : (m : Moment) → P m → Q all_done m
  pub refused : (r : Refusal) (old : Moment) (end : End) (new : Moment) → P old → EndsIn r old end new → Q end new
  pub clean : (name : Word) (old : Moment) (end : End) (new : Moment) → P old → need_of name old.world ≡ Begin → AreLater old.counts new.counts → StartStops name old end new → is_done end ≡ false → Q end new
  pub healed : (name : Word) (old : Moment) (end : End) (new : Moment) → P old → need_of name old.world ≡ Heal → AreLater old.counts new.counts → RecoveryStops name old end new → Q end new

module _ (P : Moment → Type 0) (Q : End → Moment → Type 0) (carried : AreCarried P) (ended : IsEndedBy P Q) where
  one_seen : (name : Word) (Rest : Moment → List View → End → Moment → Type 0) → ((m : Moment) (views : List View) (end : End) (new : Moment) → P m → Rest m views end new → Q end new) →
      (n : Need) (old : Moment) (views : List View) (end : End) (new : Moment) → P old → need_of name old.world ≡ n → SeesOne n name Rest old views end new → Q end new
  one_seen name Rest goes Pass old views end new p need rest = goes old views end new p rest
  one_seen name Rest goes Begin old views end new p need (inl (mid, began, later, starts, over, rest)) = goes mid views end new (carried.clean name old began mid p need later starts over) rest
  one_seen name Rest goes Begin old views end new p need (inr (none, later, stops, over)) = ended.clean name old end new p need later stops over
  one_seen name Rest goes Heal old views end new p need (inl (mid, dirty, copied, more, later, is, told, rest)) = goes mid more end new (carried.healed name dirty copied old mid p need later is) rest
  one_seen name Rest goes Heal old views end new p need (inr (none, later, stops)) = ended.healed name old end new p need later stops

  pub sees_on : (names : List Word) (old : Moment) (views : List View) (end : End) (new : Moment) → P old → Sees names old views end new → Q end new
  sees_on [] old views end new p (none, is, same) = subst (λ (e : End). Q e new) (sym is) (subst (λ (m : Moment). Q all_done m) (sym same) (ended.over old p))
  sees_on (name ∷ names) old views end new p sees = one_seen name (Sees names) (sees_on names) (need_of name old.world) old views end new p refl sees

  pub recovers_on : (dg vol : Option Word) (old : Moment) (views : List View) (end : End) (new : Moment) → P old → Recovers dg vol old views end new → Q end new
  recovers_on dg vol old views end new p (inl (r, fails, none, ends)) = ended.refused r old end new p ends
  recovers_on dg vol old views end new p (inr (passed, g, here, names, are, inl (none, (bytes, long, ends)))) = ended.refused (refusal.TooLong bytes) old end new p ends
  recovers_on dg vol old views end new p (inr (passed, g, here, names, are, inr (short, sees))) = sees_on names old views end new p sees

-- ---- want of memory

-- where memory is wanting, this holds
pub record IsLeftBy (P : Moment → Type 0) (Q : Moment → Type 0) : Type 0 where
  pub clean : (name : Word) (old new : Moment) → P old → need_of name old.world ≡ Begin → StartWants name old new → Q new
  pub healed : (name : Word) (old new : Moment) → P old → need_of name old.world ≡ Heal → RecoveryWants name old new → Q new

module _ (P : Moment → Type 0) (Q : Moment → Type 0) (carried : AreCarried P) (left : IsLeftBy P Q) where
  one_short : (name : Word) (Rest : Moment → Moment → Type 0) → ((m new : Moment) → P m → Rest m new → Q new) →
      (n : Need) (old new : Moment) → P old → need_of name old.world ≡ n → SeesShortOne n name Rest old new → Q new
  one_short name Rest goes Pass old new p need rest = goes old new p rest
  one_short name Rest goes Begin old new p need (inl (mid, began, later, starts, over, rest)) = goes mid new (carried.clean name old began mid p need later starts over) rest
  one_short name Rest goes Begin old new p need (inr wants) = left.clean name old new p need wants
  one_short name Rest goes Heal old new p need (inl (mid, dirty, copied, later, is, rest)) = goes mid new (carried.healed name dirty copied old mid p need later is) rest
  one_short name Rest goes Heal old new p need (inr wants) = left.healed name old new p need wants

  pub short_on : (names : List Word) (old new : Moment) → P old → SeesShort names old new → Q new
  short_on [] old new p short = absurd short
  short_on (name ∷ names) old new p short = one_short name (SeesShort names) (short_on names) (need_of name old.world) old new p refl short

  pub recovers_short_on : (vol : Option Word) (old new : Moment) → P old → (new.world ≡ old.world → Q new) → RecoversShort vol old new → Q new
  recovers_short_on vol old new p same (inl is) = same is
  recovers_short_on vol old new p same (inr (g, here, names, are, short)) = short_on names old new p short

-- ---- how far it has come

-- it begins with the first
pub first_seen : (name : Word) (names : List Word) (old : Moment) → HasSeen (name ∷ names) old name old
first_seen name names old = record { before = []; behind = names; names_are = refl; views = []; seen = (refl, refl, refl) }

-- one volume, and those behind it
module _ (first : Word) (names : List Word) (old : Moment) (name : Word) (at : Moment) where
  pub pass_seen : need_of first old.world ≡ Pass → HasSeen names old name at → HasSeen (first ∷ names) old name at
  pass_seen need h = record {
    before = first ∷ h.before;
    behind = h.behind;
    names_are = ap (λ ns. first ∷ ns) h.names_are;
    views = h.views;
    seen = subst (λ n. SeesOne n first (Sees h.before) old h.views all_done at) (sym need) h.seen;
  }

  pub clean_seen : (began : End) (mid : Moment) → need_of first old.world ≡ Begin → AreLater old.counts mid.counts → StartStops first old began mid → is_done began ≡ true → HasSeen names mid name at → HasSeen (first ∷ names) old name at
  clean_seen began mid need later starts over h = record {
    before = first ∷ h.before;
    behind = h.behind;
    names_are = ap (λ ns. first ∷ ns) h.names_are;
    views = h.views;
    seen = subst (λ n. SeesOne n first (Sees h.before) old h.views all_done at) (sym need) (inl (mid, began, later, starts, over, h.seen));
  }

  pub healed_seen : (dirty copied : ℕ) (mid : Moment) → need_of first old.world ≡ Heal → AreLater old.counts mid.counts → IsRecovered first dirty copied old mid → HasSeen names mid name at → HasSeen (first ∷ names) old name at
  healed_seen dirty copied mid need later is h = record {
    before = first ∷ h.before;
    behind = h.behind;
    names_are = ap (λ ns. first ∷ ns) h.names_are;
    views = view.Recovered first dirty copied ∷ h.views;
    seen = subst (λ n. SeesOne n first (Sees h.before) old (view.Recovered first dirty copied ∷ h.views) all_done at) (sym need) (inl (mid, dirty, copied, h.views, later, is, refl, h.seen));
  }

-- the start or the recovery of the volume of this name ends the command
abbrev pub EndsOne : Word → Moment → End → Moment → Type 0
EndsOne name old end new = ((need_of name old.world ≡ Begin) × (is_done end ≡ false) × StartStops name old end new) ⊎ ((need_of name old.world ≡ Heal) × RecoveryStops name old end new)

-- one that is not done has come to a volume, of which it ends
abbrev pub EndsAtOne : List Word → Moment → End → Moment → Type 0
EndsAtOne names old end new = (name : Word) × (mid : Moment) × HasSeen names old name mid × EndsOne name mid end new

one_in : (first : Word) (names : List Word) (end : End) (new : Moment) → ((m : Moment) (views : List View) → Sees names m views end new → EndsAtOne names m end new) →
    (n : Need) (old : Moment) (views : List View) → need_of first old.world ≡ n → SeesOne n first (Sees names) old views end new → EndsAtOne (first ∷ names) old end new
one_in first names end new more Pass old views need rest = let e = more old views rest in (e.0, e.1, pass_seen first names old e.0 e.1 need e.2, e.3)
one_in first names end new more Begin old views need (inl (mid, began, later, starts, over, rest)) = let e = more mid views rest in (e.0, e.1, clean_seen first names old e.0 e.1 began mid need later starts over e.2, e.3)
one_in first names end new more Begin old views need (inr (none, later, stops, over)) = (first, old, first_seen first names old, inl (need, over, stops))
one_in first names end new more Heal old views need (inl (mid, dirty, copied, rest, later, is, told, behind)) = let e = more mid rest behind in (e.0, e.1, healed_seen first names old e.0 e.1 dirty copied mid need later is e.2, e.3)
one_in first names end new more Heal old views need (inr (none, later, stops)) = (first, old, first_seen first names old, inr (need, stops))

pub ends_in : (names : List Word) (old : Moment) (views : List View) (end : End) (new : Moment) → is_done end ≡ false → Sees names old views end new → EndsAtOne names old end new
ends_in [] old views end new over (none, is, same) = absurd (let no : true ≡ false = subst (λ (e : End). is_done e ≡ false) is over in cc)
ends_in (name ∷ names) old views end new over sees = one_in name names end new (λ m vs rest. ends_in names m vs end new over rest) (need_of name old.world) old views refl sees
