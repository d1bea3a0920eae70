-- One volume seen to after the other.
use Rattle.std.proofs.Common.{◌≡◌, ◌∙◌, ◌-◌, ◌<◌, ◌≤◌, arith, List, [], ◌∷◌, ◌++◌, length, take, drop, get_or, Result, Ok, Err, refl, sym, ap, subst, inl, inr}
use Rattle.std.proofs.lemmas.List.{take_all}
use Rattle.vx_pages.specs.declared.local_piece.LocalPiece.{Ghosts}
use Rattle.vx_base.specs.Named.{Word}
use Rattle.vx_piece.specs.Seen.{Seen}
use Rattle.vx_answers.specs.declared.answer.End.{End}
use Rattle.vx_answers.specs.declared.answer.View.{View as Shown}
use Rattle.vx_moments.specs.Moment.{AreLater, Moment}
use Rattle.vx_house.specs.View.{Keeps, View, scene}
use Rattle.vx_house.proofs.Moments.{faults_refl, later_refl}
use Rattle.vx_house.specs.declared.stop.Stop.{Stop}
use Rattle.vx_recovery.specs.Going.{Begin, Heal, Need, Pass, Sees, SeesOne, SeesShort, SeesShortOne, all_done, need_of}
use Rattle.vx_stage_recovery.specs.Seeing.{LeavesBy, SeesBy, SeesLeft, SeesStep, SeesStop, StopsBy}
use Rattle.vx_stage_recovery.proofs.StepChains.{Doing, Does, behind, done_as, stop_as, via}

abbrev pub one : Word → List Shown → Doing (Unit {0})
one name told = record { done = λ none. SeesStep name told; ends = SeesStop name told; left = SeesLeft name }

abbrev pub all : List Word → List Shown → Doing (Unit {0})
all names told = record { done = λ none m n. Sees names m told all_done n; ends = λ m end n. Sees names m told end n; left = SeesShort names }

-- ---- the volumes of the world

-- the first ends the command
stop_first : (need : Need) (name : Word) (names : List Word) (told : List Shown) (m : Moment) (end : End) (n : Moment) → AreLater m.counts n.counts → StopsBy need name told m end n → SeesOne need name (Sees names) m told end n
stop_first Pass name names told m end n later is = absurd is
stop_first Begin name names told m end n later is = inr (is.0, later, is.1, is.2)
stop_first Heal name names told m end n later is = inr (is.0, later, is.1)

left_first : (need : Need) (name : Word) (names : List Word) (m n : Moment) → LeavesBy need name m n → SeesShortOne need name (SeesShort names) m n
left_first Pass name names m n is = absurd is
left_first Begin name names m n is = inr is
left_first Heal name names m n is = inr is

-- it is seen to, and then the rest
then_rest : (need : Need) (name : Word) (names : List Word) (told more : List Shown) (m a : Moment) (end : End) (n : Moment) → AreLater m.counts a.counts → SeesBy need name told m a → Sees names a more end n →
    SeesOne need name (Sees names) m (told ++ more) end n
then_rest Pass name names told more m a end n later (none, same) rest =
    subst (λ ts. Sees names m (ts ++ more) end n) (sym none) (subst (λ x. Sees names x more end n) same rest)
then_rest Begin name names told more m a end n later (none, (began, started, done)) rest =
    subst (λ ts. SeesOne Begin name (Sees names) m (ts ++ more) end n) (sym none) (inl (a, began, later, started, done, rest))
then_rest Heal name names told more m a end n later (dirty, copied, is, recovered) rest =
    inl (a, dirty, copied, more, later, recovered, ap (λ ts. ts ++ more) is, rest)

left_rest : (need : Need) (name : Word) (names : List Word) (told : List Shown) (m a n : Moment) → AreLater m.counts a.counts → SeesBy need name told m a → SeesShort names a n → SeesShortOne need name (SeesShort names) m n
left_rest Pass name names told m a n later (none, same) rest = subst (λ x. SeesShort names x n) same rest
left_rest Begin name names told m a n later (none, (began, started, done)) rest = inl (a, began, later, started, done, rest)
left_rest Heal name names told m a n later (dirty, copied, is, recovered) rest = inl (a, dirty, copied, later, recovered, rest)

-- ---- the house

module _ {P : Type 0} {ghosts : Ghosts P} (see : P → Seen) (name : Word) (names : List Word) (told : List Shown) (old : View P ghosts) where
  -- the first ends the command
  pub first_ends : (stop : Stop) (new : View P ghosts) → Does see old new (one name told) (Err stop) old new → Does see old new (all (name ∷ names) told) (Err stop) old new
  first_ends stop new is = stop_as see old new (one name told) (all (name ∷ names) told) (record {
    ends = λ m at end n later stops. stop_first (need_of name m.world) name names told m end n later stops;
    left = λ m at n left. left_first (need_of name m.world) name names m n left;
  }) stop is

  module _ (mid : View P ghosts) (first : Does see old mid (one name told) (Ok tt) old mid) (more : List Shown) (new : View P ghosts) where
    rest_done : (is : Does see mid new (all names more) (Ok tt) mid new) → Does see old new (all (name ∷ names) (told ++ more)) (Ok tt) old new
    rest_done is = done_as see old new (via (SeesStep name told) (all names more)) (all (name ∷ names) (told ++ more)) tt tt
        (λ m at n later (a, before, seen, after, rest). then_rest (need_of name m.world) name names told more m a all_done n before seen rest)
        (behind see old new (one name told) tt mid first (all names more) (Ok tt) is)

    rest_ends : (stop : Stop) → Does see mid new (all names more) (Err stop) mid new → Does see old new (all (name ∷ names) (told ++ more)) (Err stop) old new
    rest_ends stop is = stop_as see old new (via (SeesStep name told) (all names more)) (all (name ∷ names) (told ++ more)) (record {
      ends = λ m at end n later (a, before, seen, after, rest). then_rest (need_of name m.world) name names told more m a end n before seen rest;
      left = λ m at n (a, before, seen, after, rest). left_rest (need_of name m.world) name names told m a n before seen rest;
    }) stop (behind see old new (one name told) tt mid first (all names more) (Err stop) is)

    pub rest_goes : (result : Result (Unit {0}) Stop) → Does see mid new (all names more) result mid new → Does see old new (all (name ∷ names) (told ++ more)) result old new
    rest_goes (Ok u) is = rest_done is
    rest_goes (Err stop) is = rest_ends stop is

-- ---- the names, by the first and those behind it

by_first : (names : List Word) (first : Word) → 1 ≤ length names → first ≡ get_or names 0 first → names ≡ first ∷ take (length names - 1) (drop 1 names)
by_first [] first some is = absurd (omega (arith, some))
by_first (n ∷ ns) first some is = sym (ap (λ x. x ∷ take (length (n ∷ ns) - 1) ns) is ∙ ap (λ xs. n ∷ xs) (take_all (length (n ∷ ns) - 1) ns (omega arith)))

no_names : (names : List Word) → length names < 1 → names ≡ []
no_names [] none = refl
no_names (n ∷ ns) none = absurd (omega (arith, none))

module _ {P : Type 0} {ghosts : Ghosts P} (see : P → Seen) (names : List Word) where
  -- there are none
  pub all_seen : length names < 1 → (v : View P ghosts) → Keeps see v → Does see v v (all names []) (Ok tt) v v
  all_seen none v keeps = subst (λ ns. Does see v v (all ns []) (Ok tt) v v) (sym (no_names names none))
      (record { keeps = keeps; goes = λ m is. (m, is, later_refl m.counts, (refl, refl, refl)); faults = faults_refl (scene see v); blamed = tt })

  module _ (first : Word) (some : 1 ≤ length names) (is : first ≡ get_or names 0 first) where
    pub seen_ends : (told : List Shown) (old new : View P ghosts) (stop : Stop) → Does see old new (one first told) (Err stop) old new → Does see old new (all names told) (Err stop) old new
    seen_ends told old new stop ends =
        subst (λ ns. Does see old new (all ns told) (Err stop) old new) (sym (by_first names first some is)) (first_ends see first (take (length names - 1) (drop 1 names)) told old stop new ends)

    pub seen_on : (told more : List Shown) (old mid new : View P ghosts) (result : Result (Unit {0}) Stop) → Does see old mid (one first told) (Ok tt) old mid
        → Does see mid new (all (take (length names - 1) (drop 1 names)) more) result mid new → Does see old new (all names (told ++ more)) result old new
    seen_on told more old mid new result done rest =
        subst (λ ns. Does see old new (all ns (told ++ more)) result old new) (sym (by_first names first some is))
        (rest_goes see first (take (length names - 1) (drop 1 names)) told old mid done more new result rest)
