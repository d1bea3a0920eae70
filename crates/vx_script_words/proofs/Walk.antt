-- The words of a line under the parts of a form, without what they say: whether they fit, or which words are left from the first one on that does not.
use Rattle.std.proofs.Common.{◌≡◌, ◌∙◌, sym, ap, refl, ℕ, zero, suc, ◌+◌, ◌≤◌, ◌<◌, Bool, true, false, cond, is_some, Result, Ok, Err, List, [], ◌∷◌, ◌++◌, length, arith, codes}
use Rattle.std.specs.Str.{bytes_eq}
use Rattle.vx_script_words.specs.Class.{class_value}
use Rattle.vx_script_words.specs.Hex.{block_of}
use Rattle.vx_script_words.specs.Parts.{cut_of, name_of, pair_of}
use Rattle.vx_script_words.specs.Row.{any_name}
use Rattle.vx_script_words.specs.declared.class.Class.{Class}
use Rattle.vx_script_words.specs.declared.class.Item.{Item}
use Rattle.vx_script_words.specs.declared.class.Item.TheVariants.{One, Maybe, Group, NoGroup, Names, Pairs, Blocks}

abbrev pub Words : Type 0
Words = List (List ℕ)

-- the words behind those that fit, or those from the first one on that does not
abbrev pub Walked : Type 0
Walked = Result Words Words

-- a test of words
abbrev pub Test : Type 0
Test = List ℕ → Bool

abbrev pub accepts : Class → Test
accepts class w = is_some (class_value class w)

abbrev pub is_named : Test
is_named w = is_some (name_of w)

abbrev pub is_paired : Test
is_paired w = is_some (pair_of w)

abbrev pub is_blocked : Test
is_blocked w = is_some (block_of w)

abbrev pub one_word : Test → Words → Walked
one_word p [] = Err []
one_word p (w ∷ ws) = cond (p w) (Ok ws) (Err (w ∷ ws))

abbrev pub after : Walked → (Words → Words) → Words → Words
after (Ok ws) more old = more ws
after (Err bad) more old = old

abbrev pub some_words : ℕ → Test → Words → Words
some_words zero p ws = ws
some_words (suc n) p ws = after (one_word p ws) (some_words n p) ws

abbrev pub group_words : Words → Walked
group_words [] = Ok []
group_words (w ∷ ws) = cond (bytes_eq w (codes "-g")) (one_word (accepts any_name) ws) (Ok (w ∷ ws))

abbrev pub on : Walked → (Words → Walked) → Walked
on (Ok ws) more = more ws
on (Err bad) more = Err bad

abbrev pub item_words : Item → Words → Walked
item_words (One class) ws = one_word (accepts class) ws
item_words (Maybe class) ws = Ok (some_words 1 (accepts class) ws)
item_words Group ws = group_words ws
item_words NoGroup ws = Ok ws
item_words Names ws = Ok (some_words (length ws) is_named ws)
item_words Pairs ws = on (one_word is_paired ws) (λ vs. Ok (some_words (length vs) is_paired vs))
item_words Blocks ws = on (one_word is_blocked ws) (λ vs. Ok (some_words 63 is_blocked vs))

abbrev pub no_words : Words → Walked
no_words [] = Ok []
no_words (w ∷ ws) = Err (w ∷ ws)

abbrev pub end_words : Bool → Words → Walked
end_words false ws = no_words ws
end_words true [] = Ok []
end_words true (w ∷ ws) = cond (is_some (cut_of w)) (no_words ws) (Err (w ∷ ws))

abbrev pub walk : Bool → List Item → Words → Walked
walk may_be_cut [] ws = end_words may_be_cut ws
walk may_be_cut (i ∷ is) ws = on (item_words i ws) (walk may_be_cut is)

-- ---- what is left is no more than there was

abbrev pub IsShort : (Words → Walked) → Type 0
IsShort f = (ws bad : Words) → f ws ≡ Err bad → length bad ≤ length ws

pub same_err : (x y : Words) → ◌≡◌ {A = Walked} (Err x) (Err y) → x ≡ y
same_err x y e = cc

end_short : (may_be_cut : Bool) → IsShort (end_words may_be_cut)
end_short false [] bad e = absurd cc
end_short false (w ∷ ws) bad e = omega (arith, ap (λ (x : Words). length x) (same_err _ _ e))
end_short true [] bad e = absurd cc
end_short true (w ∷ ws) bad e = by_cut (is_some (cut_of w)) ws e
  where
    by_cut : (q : Bool) (vs : Words) → cond q (no_words vs) (Err (w ∷ vs)) ≡ Err bad → length bad ≤ suc (length vs)
    by_cut true [] e = absurd cc
    by_cut true (v ∷ vs) e = omega (arith, ap (λ (x : Words). length x) (same_err _ _ e))
    by_cut false vs e = omega (arith, ap (λ (x : Words). length x) (same_err _ _ e))

one_short : (p : Test) (f : Words → Walked) → IsShort f → IsShort (λ ws. on (one_word p ws) f)
one_short p f short [] bad e = omega (arith, ap (λ (x : Words). length x) (same_err _ _ e))
one_short p f short (w ∷ ws) bad e = by_test (p w) e
  where
    by_test : (q : Bool) → on (cond q (Ok ws) (Err (w ∷ ws))) f ≡ Err bad → length bad ≤ suc (length ws)
    by_test true e = omega (arith, short ws bad e)
    by_test false e = omega (arith, ap (λ (x : Words). length x) (same_err _ _ e))

pub some_short : (n : ℕ) (p : Test) (ws : Words) → length (some_words n p ws) ≤ length ws
some_short zero p ws = omega arith
some_short (suc n) p [] = omega arith
some_short (suc n) p (w ∷ ws) = by_test (p w) (some_short n p ws)
  where
    by_test : (q : Bool) → length (some_words n p ws) ≤ length ws → length (after (cond q (Ok ws) (Err (w ∷ ws))) (some_words n p) (w ∷ ws)) ≤ suc (length ws)
    by_test true h = omega (arith, h)
    by_test false h = omega arith

group_short : (f : Words → Walked) → IsShort f → IsShort (λ ws. on (group_words ws) f)
group_short f short [] bad e = short [] bad e
group_short f short (w ∷ ws) bad e = by_test (bytes_eq w (codes "-g")) e
  where
    by_test : (q : Bool) → on (cond q (one_word (accepts any_name) ws) (Ok (w ∷ ws))) f ≡ Err bad → length bad ≤ suc (length ws)
    by_test true e = omega (arith, one_short (accepts any_name) f short ws bad e)
    by_test false e = short (w ∷ ws) bad e

few_short : (n : ℕ) (p : Test) (f : Words → Walked) → IsShort f → IsShort (λ ws. f (some_words n p ws))
few_short n p f short ws bad e = omega (arith, short (some_words n p ws) bad e, some_short n p ws)

any_short : (p : Test) (f : Words → Walked) → IsShort f → IsShort (λ ws. f (some_words (length ws) p ws))
any_short p f short ws bad e = few_short (length ws) p f short ws bad e

-- one step and then another are two steps
pub both_on : (r : Walked) (g : Words → Words) (f : Words → Walked) → on (on r (λ vs. Ok (g vs))) f ≡ on r (λ vs. f (g vs))
both_on (Ok vs) g f = refl
both_on (Err bad) g f = refl

item_short : (i : Item) (f : Words → Walked) → IsShort f → IsShort (λ ws. on (item_words i ws) f)
item_short (One class) f short ws bad e = one_short (accepts class) f short ws bad e
item_short (Maybe class) f short ws bad e = omega (arith, short (some_words 1 (accepts class) ws) bad e, some_short 1 (accepts class) ws)
item_short Group f short ws bad e = group_short f short ws bad e
item_short NoGroup f short ws bad e = short ws bad e
item_short Names f short ws bad e = any_short is_named f short ws bad e
item_short Pairs f short ws bad e = one_short is_paired (λ vs. f (some_words (length vs) is_paired vs)) (any_short is_paired f short) ws bad (sym (both_on (one_word is_paired ws) _ f) ∙ e)
item_short Blocks f short ws bad e = one_short is_blocked (λ vs. f (some_words 63 is_blocked vs)) (few_short 63 is_blocked f short) ws bad (sym (both_on (one_word is_blocked ws) _ f) ∙ e)

walk_short : (may_be_cut : Bool) (is : List Item) → IsShort (walk may_be_cut is)
walk_short may_be_cut [] ws bad e = end_short may_be_cut ws bad e
walk_short may_be_cut (i ∷ is) ws bad e = item_short i (walk may_be_cut is) (walk_short may_be_cut is) ws bad e

-- more tries than there are words change nothing
pub enough : (n m : ℕ) (p : Test) (ws : Words) → length ws ≤ n → length ws ≤ m → some_words n p ws ≡ some_words m p ws
enough zero zero p ws h k = refl
enough zero (suc m) p [] h k = refl
enough (suc n) zero p [] h k = refl
enough (suc n) (suc m) p [] h k = refl
enough zero m p (w ∷ ws) h k = absurd (omega arith)
enough (suc n) zero p (w ∷ ws) h k = absurd (omega arith)
enough (suc n) (suc m) p (w ∷ ws) h k = by_test (p w) (enough n m p ws (omega arith) (omega arith))
  where
    by_test : (q : Bool) → some_words n p ws ≡ some_words m p ws → after (cond q (Ok ws) (Err (w ∷ ws))) (some_words n p) (w ∷ ws) ≡ after (cond q (Ok ws) (Err (w ∷ ws))) (some_words m p) (w ∷ ws)
    by_test true e = e
    by_test false e = refl

-- ---- a word that does not fit, does not fit before other words

-- where the words from w on, or more of them, are left, other words behind w do not help
abbrev pub Stopped : (Words → Walked) → Type 0
Stopped f = (front back more : Words) (w : List ℕ) (bad k : Words) → f (front ++ w ∷ back) ≡ Err bad → length back < length bad → f (front ++ w ∷ more) ≡ Ok k → ⊥

end_blocks : (may_be_cut : Bool) → Stopped (end_words may_be_cut)
end_blocks false [] back more w bad k e h o = cc
end_blocks false (v ∷ front) back more w bad k e h o = cc
end_blocks true [] back more w bad k e h o = by_cut (is_some (cut_of w)) back more e o h
  where
    by_cut : (q : Bool) (back more : Words) → cond q (no_words back) (Err (w ∷ back)) ≡ Err bad → cond q (no_words more) (Err (w ∷ more)) ≡ Ok k → length back < length bad → ⊥
    by_cut true [] more e o h = cc
    by_cut true (b ∷ bs) more e o h = omega (arith, h, ap (λ (x : Words). length x) (same_err _ _ e))
    by_cut false back more e o h = cc
end_blocks true (v ∷ front) back more w bad k e h o = by_cut (is_some (cut_of v)) front o
  where
    by_cut : (q : Bool) (front : Words) → cond q (no_words (front ++ w ∷ more)) (Err (v ∷ (front ++ w ∷ more))) ≡ Ok k → ⊥
    by_cut true [] o = cc
    by_cut true (x ∷ xs) o = cc
    by_cut false front o = cc

one_blocks : (p : Test) (f : Words → Walked) → IsShort f → Stopped f → Stopped (λ ws. on (one_word p ws) f)
one_blocks p f short blocks [] back more w bad k e h o = by_test (p w) e o
  where
    by_test : (q : Bool) → on (cond q (Ok back) (Err (w ∷ back))) f ≡ Err bad → on (cond q (Ok more) (Err (w ∷ more))) f ≡ Ok k → ⊥
    by_test true e o = omega (arith, h, short back bad e)
    by_test false e o = cc
one_blocks p f short blocks (v ∷ front) back more w bad k e h o = by_test (p v) e o
  where
    by_test : (q : Bool) → on (cond q (Ok (front ++ w ∷ back)) (Err (v ∷ (front ++ w ∷ back)))) f ≡ Err bad → on (cond q (Ok (front ++ w ∷ more)) (Err (v ∷ (front ++ w ∷ more)))) f ≡ Ok k → ⊥
    by_test true e o = blocks front back more w bad k e h o
    by_test false e o = cc

some_blocks : (n : ℕ) (p : Test) (f : Words → Walked) → IsShort f → Stopped f → Stopped (λ ws. f (some_words n p ws))
some_blocks zero p f short blocks front back more w bad k e h o = blocks front back more w bad k e h o
some_blocks (suc n) p f short blocks [] back more w bad k e h o = by_test (p w) e o
  where
    by_test : (q : Bool) → f (after (cond q (Ok back) (Err (w ∷ back))) (some_words n p) (w ∷ back)) ≡ Err bad → f (after (cond q (Ok more) (Err (w ∷ more))) (some_words n p) (w ∷ more)) ≡ Ok k → ⊥
    by_test true e o = omega (arith, h, short (some_words n p back) bad e, some_short n p back)
    by_test false e o = blocks [] back more w bad k e h o
some_blocks (suc n) p f short blocks (v ∷ front) back more w bad k e h o = by_test (p v) (some_blocks n p f short blocks front back more w bad k) e o
  where
    by_test : (q : Bool) → (f (some_words n p (front ++ w ∷ back)) ≡ Err bad → length back < length bad → f (some_words n p (front ++ w ∷ more)) ≡ Ok k → ⊥) → f (after (cond q (Ok (front ++ w ∷ back)) (Err (v ∷ (front ++ w ∷ back)))) (some_words n p) (v ∷ (front ++ w ∷ back))) ≡ Err bad → f (after (cond q (Ok (front ++ w ∷ more)) (Err (v ∷ (front ++ w ∷ more)))) (some_words n p) (v ∷ (front ++ w ∷ more))) ≡ Ok k → ⊥
    by_test true ih e o = ih e h o
    by_test false ih e o = blocks (v ∷ front) back more w bad k e h o

group_blocks : (f : Words → Walked) → IsShort f → Stopped f → Stopped (λ ws. on (group_words ws) f)
group_blocks f short blocks [] back more w bad k e h o = by_test (bytes_eq w (codes "-g")) e o
  where
    by_test : (q : Bool) → on (cond q (one_word (accepts any_name) back) (Ok (w ∷ back))) f ≡ Err bad → on (cond q (one_word (accepts any_name) more) (Ok (w ∷ more))) f ≡ Ok k → ⊥
    by_test true e o = omega (arith, h, one_short (accepts any_name) f short back bad e)
    by_test false e o = blocks [] back more w bad k e h o
group_blocks f short blocks (v ∷ front) back more w bad k e h o = by_test (bytes_eq v (codes "-g")) e o
  where
    by_test : (q : Bool) → on (cond q (one_word (accepts any_name) (front ++ w ∷ back)) (Ok (v ∷ (front ++ w ∷ back)))) f ≡ Err bad → on (cond q (one_word (accepts any_name) (front ++ w ∷ more)) (Ok (v ∷ (front ++ w ∷ more)))) f ≡ Ok k → ⊥
    by_test true e o = one_blocks (accepts any_name) f short blocks front back more w bad k e h o
    by_test false e o = blocks (v ∷ front) back more w bad k e h o

any_blocks : (p : Test) (f : Words → Walked) → IsShort f → Stopped f → Stopped (λ ws. f (some_words (length ws) p ws))
any_blocks p f short blocks front back more w bad k e h o =
    let n = length (front ++ w ∷ back) + length (front ++ w ∷ more) in
    some_blocks n p f short blocks front back more w bad k
    (ap f (enough n (length (front ++ w ∷ back)) p (front ++ w ∷ back) (omega arith) (omega arith)) ∙ e) h
    (ap f (enough n (length (front ++ w ∷ more)) p (front ++ w ∷ more) (omega arith) (omega arith)) ∙ o)

item_blocks : (i : Item) (f : Words → Walked) → IsShort f → Stopped f → Stopped (λ ws. on (item_words i ws) f)
item_blocks (One class) f short blocks front back more w bad k e h o = one_blocks (accepts class) f short blocks front back more w bad k e h o
item_blocks (Maybe class) f short blocks front back more w bad k e h o = some_blocks 1 (accepts class) f short blocks front back more w bad k e h o
item_blocks Group f short blocks front back more w bad k e h o = group_blocks f short blocks front back more w bad k e h o
item_blocks NoGroup f short blocks front back more w bad k e h o = blocks front back more w bad k e h o
item_blocks Names f short blocks front back more w bad k e h o = any_blocks is_named f short blocks front back more w bad k e h o
item_blocks Pairs f short blocks front back more w bad k e h o = one_blocks is_paired (λ vs. f (some_words (length vs) is_paired vs)) (any_short is_paired f short) (any_blocks is_paired f short blocks) front back more w bad k (sym (both_on (one_word is_paired (front ++ w ∷ back)) _ f) ∙ e) h (sym (both_on (one_word is_paired (front ++ w ∷ more)) _ f) ∙ o)
item_blocks Blocks f short blocks front back more w bad k e h o = one_blocks is_blocked (λ vs. f (some_words 63 is_blocked vs)) (few_short 63 is_blocked f short) (some_blocks 63 is_blocked f short blocks) front back more w bad k (sym (both_on (one_word is_blocked (front ++ w ∷ back)) _ f) ∙ e) h (sym (both_on (one_word is_blocked (front ++ w ∷ more)) _ f) ∙ o)

pub walk_blocks : (may_be_cut : Bool) (is : List Item) → Stopped (walk may_be_cut is)
walk_blocks may_be_cut [] front back more w bad k e h o = end_blocks may_be_cut front back more w bad k e h o
walk_blocks may_be_cut (i ∷ is) front back more w bad k e h o = item_blocks i (walk may_be_cut is) (walk_short may_be_cut is) (walk_blocks may_be_cut is) front back more w bad k e h o
