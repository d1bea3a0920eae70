-- The words before the first one that does not fit begin a line that fits.
use Rattle.std.proofs.Common.{◌≡◌, ◌∙◌, sym, ap, refl, ℕ, zero, suc, ◌+◌, ◌≤◌, Bool, true, false, cond, is_none, is_some, Ok, Err, List, [], ◌∷◌, ◌++◌, length, arith, codes}
use Rattle.std.specs.Prelude.{◌&&◌}
use Rattle.std.specs.List.{list_all}
use Rattle.std.specs.Str.{bytes_eq}
use Rattle.std.proofs.lemmas.Bool.{and_from, and_parts, cond-true, cond-false, true≢false}
use Rattle.std.proofs.lemmas.List.{append-nil, length-append}
use Rattle.vx_script_words.specs.Class.{class_value}
use Rattle.vx_script_words.specs.Hex.{block_of}
use Rattle.vx_script_words.specs.Key.{text_of}
use Rattle.vx_script_words.specs.Parts.{cut_of}
use Rattle.vx_script_words.specs.Row.{any_name}
use Rattle.vx_script_words.specs.declared.class.Class.{Class}
use Rattle.vx_script_words.specs.declared.class.Item.{Item}
use Rattle.vx_script_words.specs.declared.class.Item.TheVariants.{One, Maybe, Group, NoGroup, Names, Pairs, Blocks}
use Rattle.vx_script_words.specs.declared.class.Sort.{Sort}
use Rattle.vx_script_words.specs.declared.class.Sort.TheVariants as sort
use Rattle.vx_script_words.proofs.Spelling.{is_word}
use Rattle.vx_script_words.proofs.Walk.{Words, Walked, Test, accepts, is_named, is_paired, is_blocked, both_on, one_word, after, some_words, no_words, end_words, on, walk, same_err, enough}

-- a word of the sort, and one of the class
abbrev pub sample : Sort → List ℕ
sample sort.Word = []
sample sort.Named = codes "x"
sample (sort.Number low high) = (48 + low) ∷ []
sample sort.Length = codes "1"
sample sort.Byte = codes "00"
sample sort.Pair = codes "x=x"
sample sort.BreakOff = codes "x/newvol=x/nmirror=1"

abbrev pub example : Class → List ℕ
example class = text_of class.front ++ sample class.sort

-- a line of words that each part takes, where no part may be left out that need not
abbrev pub examples : List Item → Words
examples [] = []
examples (One class ∷ is) = example class ∷ examples is
examples (Maybe class ∷ is) = example class ∷ examples is
examples (Group ∷ is) = codes "-g" ∷ codes "x" ∷ examples is
examples (NoGroup ∷ is) = examples is
examples (Names ∷ is) = examples is
examples (Pairs ∷ is) = codes "x=x" ∷ examples is
examples (Blocks ∷ is) = codes "=00" ∷ examples is

abbrev pub is_last : List Item → Bool
is_last [] = true
is_last (i ∷ is) = false

-- no word, that is not there, is of the class; its example is
abbrev pub is_sound_class : Class → Bool
is_sound_class class = is_none (class_value class []) && accepts class (example class) && is_word (example class)

-- parts of sound classes, of which only the last one takes several words
abbrev pub are_sound : List Item → Bool
are_sound [] = true
are_sound (One class ∷ is) = is_sound_class class && are_sound is
are_sound (Maybe class ∷ is) = is_sound_class class && are_sound is
are_sound (Group ∷ is) = are_sound is
are_sound (NoGroup ∷ is) = are_sound is
are_sound (Names ∷ is) = is_last is
are_sound (Pairs ∷ is) = is_last is
are_sound (Blocks ∷ is) = is_last is

-- ---- the examples fit

pub record HasLeft (f : Words → Walked) (ws : Words) : Type 0 where
  pub left : Words
  pub is : f ws ≡ Ok left

sound_example : (class : Class) → is_sound_class class ≡ true → (accepts class (example class) ≡ true) × (is_word (example class) ≡ true)
sound_example class h =
    let p = and_parts (is_none (class_value class []) && accepts class (example class)) (is_word (example class)) h in
    ((and_parts (is_none (class_value class [])) (accepts class (example class)) p.0).1, p.1)

name_accepted : accepts any_name (codes "x") ≡ true
unfolding class_value
name_accepted = refl

pair_accepted : is_paired (codes "x=x") ≡ true
pair_accepted = refl

block_accepted : is_blocked (codes "=00") ≡ true
unfolding block_of
block_accepted = refl

one_taken : (p : Test) (w : List ℕ) (ws : Words) → p w ≡ true → one_word p (w ∷ ws) ≡ Ok ws
one_taken p w ws t = cond-true _ _ _ t

end_fits : (may_be_cut : Bool) → HasLeft (end_words may_be_cut) []
end_fits false = record { left = []; is = refl }
end_fits true = record { left = []; is = refl }

pub all_fit : (may_be_cut : Bool) (is : List Item) → are_sound is ≡ true → HasLeft (walk may_be_cut is) (examples is)
all_fit may_be_cut [] h = end_fits may_be_cut
all_fit may_be_cut (One class ∷ is) h =
    let p = and_parts (is_sound_class class) (are_sound is) h in
    let rest = all_fit may_be_cut is p.1 in
    record { left = rest.left; is = ap (λ (r : Walked). on r (walk may_be_cut is)) (one_taken (accepts class) (example class) (examples is) (sound_example class p.0).0) ∙ rest.is }
all_fit may_be_cut (Maybe class ∷ is) h =
    let p = and_parts (is_sound_class class) (are_sound is) h in
    let rest = all_fit may_be_cut is p.1 in
    record { left = rest.left; is = ap (λ (r : Walked). walk may_be_cut is (after r (λ (x : Words). x) (example class ∷ examples is))) (one_taken (accepts class) (example class) (examples is) (sound_example class p.0).0) ∙ rest.is }
all_fit may_be_cut (Group ∷ is) h =
    let rest = all_fit may_be_cut is h in
    record { left = rest.left; is = ap (λ (r : Walked). on r (walk may_be_cut is)) (one_taken (accepts any_name) (codes "x") (examples is) name_accepted) ∙ rest.is }
all_fit may_be_cut (NoGroup ∷ is) h = all_fit may_be_cut is h
all_fit may_be_cut (Names ∷ []) h = record { left = (end_fits may_be_cut).left; is = (end_fits may_be_cut).is }
all_fit may_be_cut (Pairs ∷ []) h = record { left = (end_fits may_be_cut).left; is = (end_fits may_be_cut).is }
all_fit may_be_cut (Blocks ∷ []) h = record { left = (end_fits may_be_cut).left; is = ap (λ (r : Walked). on (on r (λ vs. Ok (some_words 63 is_blocked vs))) (walk may_be_cut [])) (one_taken is_blocked (codes "=00") [] block_accepted) ∙ (end_fits may_be_cut).is }
all_fit may_be_cut is h = absurd (true≢false (sym h))

pub examples_real : (is : List Item) → are_sound is ≡ true → list_all is_word (examples is) ≡ true
examples_real [] h = refl
examples_real (One class ∷ is) h =
    let p = and_parts (is_sound_class class) (are_sound is) h in
    and_from _ _ (sound_example class p.0).1 (examples_real is p.1)
examples_real (Maybe class ∷ is) h =
    let p = and_parts (is_sound_class class) (are_sound is) h in
    and_from _ _ (sound_example class p.0).1 (examples_real is p.1)
examples_real (Group ∷ is) h = examples_real is h
examples_real (NoGroup ∷ is) h = examples_real is h
examples_real (i ∷ []) h = refl
examples_real is h = absurd (true≢false (sym h))

-- ---- what begins a line that fits

-- the words before those that are left, and words behind them that fit
pub record Opens (f : Words → Walked) (ws bad : Words) : Type 0 where
  pub front : Words
  pub more : Words
  pub parts : ws ≡ front ++ bad
  pub real : list_all is_word more ≡ true
  pub left : Words
  pub fits : f (front ++ more) ≡ Ok left

no_opens : (ws bad : Words) → no_words ws ≡ Err bad → ws ≡ bad
no_opens [] bad e = absurd cc
no_opens (w ∷ ws) bad e = same_err _ _ e

-- at the end no other word is wanted
pub record Closes (f : Words → Walked) (ws bad : Words) : Type 0 where
  pub front : Words
  pub parts : ws ≡ front ++ bad
  pub left : Words
  pub fits : f front ≡ Ok left

end_closes : (may_be_cut : Bool) (ws bad : Words) → end_words may_be_cut ws ≡ Err bad → Closes (end_words may_be_cut) ws bad
end_closes false ws bad e = record { front = []; parts = no_opens ws bad e; left = []; fits = refl }
end_closes true [] bad e = absurd cc
end_closes true (w ∷ ws) bad e = by_cut (is_some (cut_of w)) refl e
  where
    by_cut : (q : Bool) → is_some (cut_of w) ≡ q → cond q (no_words ws) (Err (w ∷ ws)) ≡ Err bad → Closes (end_words true) (w ∷ ws) bad
    by_cut true t e = record { front = w ∷ []; parts = ap (λ (x : Words). w ∷ x) (no_opens ws bad e); left = []; fits = cond-true _ _ _ t }
    by_cut false t e = record { front = []; parts = same_err _ _ e; left = []; fits = refl }

nothing_before : (front bad : Words) → [] ≡ front ++ bad → [] ≡ bad
nothing_before [] bad e = e
nothing_before (x ∷ xs) bad e = absurd cc

-- a word that was refused is refused again
pub refused_again : (n : ℕ) (p : Test) (w : List ℕ) (front : Words) → p w ≡ false → some_words (suc n) p (w ∷ front) ≡ w ∷ front
refused_again n p w front f = ap (λ (r : Walked). after r (some_words n p) (w ∷ front)) (cond-false _ _ _ f)

accepted_again : (n : ℕ) (p : Test) (w : List ℕ) (front : Words) → p w ≡ true → some_words (suc n) p (w ∷ front) ≡ some_words n p front
accepted_again n p w front t = ap (λ (r : Walked). after r (some_words n p) (w ∷ front)) (cond-true _ _ _ t)

some_close : (n : ℕ) (p : Test) (may_be_cut : Bool) (ws bad : Words) → end_words may_be_cut (some_words n p ws) ≡ Err bad → Closes (λ x. end_words may_be_cut (some_words n p x)) ws bad
some_close zero p may_be_cut ws bad e =
    let c = end_closes may_be_cut ws bad e in
    record { front = c.front; parts = c.parts; left = c.left; fits = c.fits }
some_close (suc n) p may_be_cut [] bad e =
    let c = end_closes may_be_cut [] bad e in
    record { front = []; parts = nothing_before c.front bad c.parts; left = (end_fits may_be_cut).left; fits = (end_fits may_be_cut).is }
some_close (suc n) p may_be_cut (w ∷ ws) bad e = by_test (p w) refl e (some_close n p may_be_cut ws bad)
  where
    by_end : p w ≡ false → (c : Closes (end_words may_be_cut) (w ∷ ws) bad) → (front : Words) → c.front ≡ front → Closes (λ x. end_words may_be_cut (some_words (suc n) p x)) (w ∷ ws) bad
    by_end f c [] same = record { front = []; parts = c.parts ∙ ap (λ (x : Words). x ++ bad) same; left = (end_fits may_be_cut).left; fits = (end_fits may_be_cut).is }
    by_end f c (x ∷ xs) same =
        let whole : w ∷ ws ≡ x ∷ (xs ++ bad) = c.parts ∙ ap (λ (y : Words). y ++ bad) same in
        let first : w ≡ x = cc in
        let again = refused_again n p x xs (ap p (sym first) ∙ f) in
        record { front = x ∷ xs; parts = whole; left = c.left; fits = ap (end_words may_be_cut) again ∙ ap (end_words may_be_cut) (sym same) ∙ c.fits }

    by_test : (q : Bool) → p w ≡ q → end_words may_be_cut (after (cond q (Ok ws) (Err (w ∷ ws))) (some_words n p) (w ∷ ws)) ≡ Err bad → (end_words may_be_cut (some_words n p ws) ≡ Err bad → Closes (λ x. end_words may_be_cut (some_words n p x)) ws bad) → Closes (λ x. end_words may_be_cut (some_words (suc n) p x)) (w ∷ ws) bad
    by_test true t e ih =
        let c = ih e in
        record { front = w ∷ c.front; parts = ap (λ (x : Words). w ∷ x) c.parts; left = c.left; fits = ap (end_words may_be_cut) (accepted_again n p w c.front t) ∙ c.fits }
    by_test false f e ih = let c = end_closes may_be_cut (w ∷ ws) bad e in by_end f c c.front refl

any_close : (p : Test) (may_be_cut : Bool) (ws bad : Words) → end_words may_be_cut (some_words (length ws) p ws) ≡ Err bad → Closes (λ x. end_words may_be_cut (some_words (length x) p x)) ws bad
any_close p may_be_cut ws bad e =
    let c = some_close (length ws) p may_be_cut ws bad e in
    let few : length c.front ≤ length ws = omega (arith, ap (λ (x : Words). length x) c.parts, length-append c.front bad) in
    record { front = c.front; parts = c.parts; left = c.left; fits = ap (end_words may_be_cut) (enough (length c.front) (length ws) p c.front (omega arith) few) ∙ c.fits }

closed : (f : Words → Walked) (ws bad : Words) → Closes f ws bad → Opens f ws bad
closed f ws bad c = record { front = c.front; more = []; parts = c.parts; real = refl; left = c.left; fits = ap f (append-nil c.front) ∙ c.fits }

-- where nothing stands before the words that are left, the examples do
from_start : (may_be_cut : Bool) (is : List Item) (ws bad : Words) → are_sound is ≡ true → ws ≡ bad → Opens (walk may_be_cut is) ws bad
from_start may_be_cut is ws bad h e =
    let all = all_fit may_be_cut is h in
    record { front = []; more = examples is; parts = e; real = examples_real is h; left = all.left; fits = all.is }

-- a part that may be left out was left out
left_out : (may_be_cut : Bool) (i : Item) (is : List Item) (ws bad : Words) → are_sound (i ∷ is) ≡ true → Opens (walk may_be_cut is) ws bad
    → ((x : List ℕ) (xs : Words) → (vs : Words) → ws ≡ x ∷ vs → walk may_be_cut (i ∷ is) (x ∷ xs) ≡ walk may_be_cut is (x ∷ xs)) → Opens (walk may_be_cut (i ∷ is)) ws bad
left_out may_be_cut i is ws bad h o again = by_front o.front refl
  where
    by_front : (front : Words) → o.front ≡ front → Opens (walk may_be_cut (i ∷ is)) ws bad
    by_front [] same = from_start may_be_cut (i ∷ is) ws bad h (o.parts ∙ ap (λ (x : Words). x ++ bad) same)
    by_front (x ∷ xs) same =
        let parts : ws ≡ x ∷ (xs ++ bad) = o.parts ∙ ap (λ (y : Words). y ++ bad) same in
        record { front = x ∷ xs; more = o.more; parts = parts; real = o.real; left = o.left; fits = again x (xs ++ o.more) (xs ++ bad) parts ∙ ap (λ (y : Words). walk may_be_cut is (y ++ o.more)) (sym same) ∙ o.fits }

-- a word that has to be there, and what follows it
first_opens : (p : Test) (f : Words → Walked) → ((ws bad : Words) → ws ≡ bad → Opens (λ x. on (one_word p x) f) ws bad) → ((ws bad : Words) → f ws ≡ Err bad → Opens f ws bad) → (ws bad : Words) → on (one_word p ws) f ≡ Err bad → Opens (λ x. on (one_word p x) f) ws bad
first_opens p f start ih [] bad e = start [] bad (same_err _ _ e)
first_opens p f start ih (w ∷ ws) bad e = by_test (p w) refl e
  where
    by_test : (q : Bool) → p w ≡ q → on (cond q (Ok ws) (Err (w ∷ ws))) f ≡ Err bad → Opens (λ x. on (one_word p x) f) (w ∷ ws) bad
    by_test true t e =
        let o = ih ws bad e in
        record { front = w ∷ o.front; more = o.more; parts = ap (λ (x : Words). w ∷ x) o.parts; real = o.real; left = o.left; fits = ap (λ (r : Walked). on r f) (one_taken p w (o.front ++ o.more) t) ∙ o.fits }
    by_test false t e = start (w ∷ ws) bad (same_err _ _ e)

-- a list of one word or more at the end of a form
list_opens : (p : Test) (g : Words → Words) (i : Item) (may_be_cut : Bool) → are_sound (i ∷ []) ≡ true → ((ws : Words) → walk may_be_cut (i ∷ []) ws ≡ on (one_word p ws) (λ vs. end_words may_be_cut (g vs)))
    → ((ws bad : Words) → end_words may_be_cut (g ws) ≡ Err bad → Closes (λ x. end_words may_be_cut (g x)) ws bad) → (ws bad : Words) → walk may_be_cut (i ∷ []) ws ≡ Err bad → Opens (walk may_be_cut (i ∷ [])) ws bad
list_opens p g i may_be_cut h same close ws bad e =
    let f : Words → Walked = λ vs. end_words may_be_cut (g vs) in
    let start : (vs x : Words) → vs ≡ x → Opens (λ y. on (one_word p y) f) vs x = λ vs x k. (let o = from_start may_be_cut (i ∷ []) vs x h k in record { front = o.front; more = o.more; parts = o.parts; real = o.real; left = o.left; fits = sym (same (o.front ++ o.more)) ∙ o.fits }) in
    let o = first_opens p f start (λ vs x k. closed f vs x (close vs x k)) ws bad (sym (same ws) ∙ e) in
    record { front = o.front; more = o.more; parts = o.parts; real = o.real; left = o.left; fits = same (o.front ++ o.more) ∙ o.fits }

module _ (may_be_cut : Bool) (is : List Item) where
  one_opens : (class : Class) → are_sound (One class ∷ is) ≡ true → ((ws bad : Words) → walk may_be_cut is ws ≡ Err bad → Opens (walk may_be_cut is) ws bad) → (ws bad : Words) → walk may_be_cut (One class ∷ is) ws ≡ Err bad → Opens (walk may_be_cut (One class ∷ is)) ws bad
  one_opens class h ih ws bad e = first_opens (accepts class) (walk may_be_cut is) (λ vs x same. from_start may_be_cut (One class ∷ is) vs x h same) ih ws bad e

  maybe_opens : (class : Class) → are_sound (Maybe class ∷ is) ≡ true → ((ws bad : Words) → walk may_be_cut is ws ≡ Err bad → Opens (walk may_be_cut is) ws bad) → (ws bad : Words) → walk may_be_cut (Maybe class ∷ is) ws ≡ Err bad → Opens (walk may_be_cut (Maybe class ∷ is)) ws bad
  maybe_opens class h ih [] bad e = let o = ih [] bad e in from_start may_be_cut (Maybe class ∷ is) [] bad h (nothing_before o.front bad o.parts)
  maybe_opens class h ih (w ∷ ws) bad e = by_test (accepts class w) refl e
    where
      by_test : (q : Bool) → accepts class w ≡ q → walk may_be_cut is (after (cond q (Ok ws) (Err (w ∷ ws))) (λ (x : Words). x) (w ∷ ws)) ≡ Err bad → Opens (walk may_be_cut (Maybe class ∷ is)) (w ∷ ws) bad
      by_test true t e =
          let o = ih ws bad e in
          record { front = w ∷ o.front; more = o.more; parts = ap (λ (x : Words). w ∷ x) o.parts; real = o.real; left = o.left; fits = ap (walk may_be_cut is) (accepted_again 0 (accepts class) w (o.front ++ o.more) t) ∙ o.fits }
      by_test false f e =
          left_out may_be_cut (Maybe class) is (w ∷ ws) bad h (ih (w ∷ ws) bad e) (λ x xs vs same. let first : w ≡ x = cc in ap (walk may_be_cut is) (refused_again 0 (accepts class) x xs (ap (accepts class) (sym first) ∙ f)))

  group_opens : are_sound (Group ∷ is) ≡ true → ((ws bad : Words) → walk may_be_cut is ws ≡ Err bad → Opens (walk may_be_cut is) ws bad) → (ws bad : Words) → walk may_be_cut (Group ∷ is) ws ≡ Err bad → Opens (walk may_be_cut (Group ∷ is)) ws bad
  group_opens h ih [] bad e = let o = ih [] bad e in from_start may_be_cut (Group ∷ is) [] bad h (nothing_before o.front bad o.parts)
  group_opens h ih (w ∷ ws) bad e = by_option (bytes_eq w (codes "-g")) refl e
    where
      behind : bytes_eq w (codes "-g") ≡ true → (vs : Words) → walk may_be_cut (Group ∷ is) (w ∷ vs) ≡ on (one_word (accepts any_name) vs) (walk may_be_cut is)
      behind t vs = ap (λ (r : Walked). on r (walk may_be_cut is)) (cond-true _ _ _ t)

      -- the option is there, and no name behind it
      no_name : bytes_eq w (codes "-g") ≡ true → ws ≡ bad → Opens (walk may_be_cut (Group ∷ is)) (w ∷ ws) bad
      no_name t same =
          let all = all_fit may_be_cut is h in
          record { front = w ∷ []; more = codes "x" ∷ examples is; parts = ap (λ (x : Words). w ∷ x) same; real = examples_real is h; left = all.left; fits = behind t (codes "x" ∷ examples is) ∙ ap (λ (r : Walked). on r (walk may_be_cut is)) (one_taken (accepts any_name) (codes "x") (examples is) name_accepted) ∙ all.is }

      by_name : bytes_eq w (codes "-g") ≡ true → (vs : Words) → ws ≡ vs → on (one_word (accepts any_name) vs) (walk may_be_cut is) ≡ Err bad → Opens (walk may_be_cut (Group ∷ is)) (w ∷ ws) bad
      by_name t [] same e = no_name t (same ∙ same_err _ _ e)
      by_name t (v ∷ vs) same e = by_test (accepts any_name v) refl e
        where
          by_test : (q : Bool) → accepts any_name v ≡ q → on (cond q (Ok vs) (Err (v ∷ vs))) (walk may_be_cut is) ≡ Err bad → Opens (walk may_be_cut (Group ∷ is)) (w ∷ ws) bad
          by_test true a e =
              let o = ih vs bad e in
              record { front = w ∷ v ∷ o.front; more = o.more; parts = ap (λ (x : Words). w ∷ x) same ∙ ap (λ (x : Words). w ∷ v ∷ x) o.parts; real = o.real; left = o.left; fits = behind t (v ∷ (o.front ++ o.more)) ∙ ap (λ (r : Walked). on r (walk may_be_cut is)) (one_taken (accepts any_name) v (o.front ++ o.more) a) ∙ o.fits }
          by_test false f e = no_name t (same ∙ same_err _ _ e)

      by_option : (q : Bool) → bytes_eq w (codes "-g") ≡ q → on (cond q (one_word (accepts any_name) ws) (Ok (w ∷ ws))) (walk may_be_cut is) ≡ Err bad → Opens (walk may_be_cut (Group ∷ is)) (w ∷ ws) bad
      by_option true t e = by_name t ws refl e
      by_option false f e =
          left_out may_be_cut Group is (w ∷ ws) bad h (ih (w ∷ ws) bad e) (λ x xs vs same. let first : w ≡ x = cc in ap (λ (r : Walked). on r (walk may_be_cut is)) (cond-false _ _ _ (ap (λ (y : List ℕ). bytes_eq y (codes "-g")) (sym first) ∙ f)))

pub walk_opens : (may_be_cut : Bool) (is : List Item) → are_sound is ≡ true → (ws bad : Words) → walk may_be_cut is ws ≡ Err bad → Opens (walk may_be_cut is) ws bad
walk_opens may_be_cut [] h ws bad e = closed (end_words may_be_cut) ws bad (end_closes may_be_cut ws bad e)
walk_opens may_be_cut (One class ∷ is) h ws bad e = one_opens may_be_cut is class h (walk_opens may_be_cut is (and_parts (is_sound_class class) (are_sound is) h).1) ws bad e
walk_opens may_be_cut (Maybe class ∷ is) h ws bad e = maybe_opens may_be_cut is class h (walk_opens may_be_cut is (and_parts (is_sound_class class) (are_sound is) h).1) ws bad e
walk_opens may_be_cut (Group ∷ is) h ws bad e = group_opens may_be_cut is h (walk_opens may_be_cut is h) ws bad e
walk_opens may_be_cut (NoGroup ∷ is) h ws bad e =
    let o = walk_opens may_be_cut is h ws bad e in
    record { front = o.front; more = o.more; parts = o.parts; real = o.real; left = o.left; fits = o.fits }
walk_opens may_be_cut (Names ∷ []) h ws bad e = closed (λ x. end_words may_be_cut (some_words (length x) is_named x)) ws bad (any_close is_named may_be_cut ws bad e)
walk_opens may_be_cut (Pairs ∷ []) h ws bad e = list_opens is_paired (λ vs. some_words (length vs) is_paired vs) Pairs may_be_cut h (λ vs. both_on (one_word is_paired vs) _ (walk may_be_cut [])) (any_close is_paired may_be_cut) ws bad e
walk_opens may_be_cut (Blocks ∷ []) h ws bad e = list_opens is_blocked (some_words 63 is_blocked) Blocks may_be_cut h (λ vs. both_on (one_word is_blocked vs) _ (walk may_be_cut [])) (some_close 63 is_blocked may_be_cut) ws bad e
walk_opens may_be_cut is h ws bad e = absurd (true≢false (sym h))
