-- A line is read as its words are: it fits where they do, and else the same words are left.
use Rattle.std.proofs.Common.{◌≡◌, ◌∙◌, sym, ap, subst, refl, ℕ, zero, suc, ◌<◌, Bool, true, false, cond, is_none, is_some, Option, Some, None, Result, Ok, Err, List, [], ◌∷◌, ◌++◌, length, arith, codes, append_assoc}
use Rattle.std.specs.Str.{bytes_eq}
use Rattle.std.proofs.lemmas.Bool.{and_parts, true≢false}
use Rattle.vx_script_words.specs.Class.{class_value}
use Rattle.vx_script_words.specs.Parts.{cut_of, name_of, pair_of}
use Rattle.vx_script_words.specs.Hex.{block_of}
use Rattle.vx_script_words.specs.Row.{So, Going, and_then, with_value, taken, one, or_else, maybe, further, gather, pushed, Gathered, at_least_one, any_name, group, item, items, Read, ends, nothing_left, cut_end, uncut, line_end, row}
use Rattle.vx_script_words.specs.Row.{joined as bytes_joined}
use Rattle.vx_script_words.specs.Spelling.{Behind, Spells}
use Rattle.vx_script_words.specs.Words.{from_word, first_word, past_word}
use Rattle.vx_script_words.specs.declared.class.Class.{Class}
use Rattle.vx_script_words.specs.declared.class.Item.{Item}
use Rattle.vx_script_words.specs.declared.class.Item.TheVariants.{One, Maybe, Group, NoGroup, Names, Pairs, Blocks}
use Rattle.vx_script_words.specs.declared.value.Value.{Value}
use Rattle.vx_script_words.specs.declared.value.Value.TheVariants as value
use Rattle.vx_script_words.proofs.Lines.{items_err}
use Rattle.vx_script_words.proofs.Opens.{is_sound_class, are_sound}
use Rattle.vx_script_words.proofs.Spelling.{behind_both, few_words, from_again}
use Rattle.vx_script_words.proofs.Walk.{Words, Walked, accepts, is_named, is_paired, is_blocked, one_word, after, some_words, group_words, item_words, no_words, end_words, on, walk, enough}

-- so much is left of a text from these words on
pub record At (text : List ℕ) (ws : Words) (left : ℕ) (bad : Words) : Type 0 where
  pub front : Words
  pub rest : List ℕ
  pub parts : ws ≡ front ++ bad
  pub behind : Behind text front rest
  pub spells : Spells rest bad
  pub place : left ≡ length (from_word rest)

-- what is left of the text has the words that are left
pub record Reaches (text : List ℕ) (ws : Words) (rest : List ℕ) (vs : Words) : Type 0 where
  pub front : Words
  pub parts : ws ≡ front ++ vs
  pub behind : Behind text front rest
  pub spells : Spells rest vs

abbrev pub Step : List ℕ → Words → Going → Walked → Type 0
Step text ws (Ok s) (Ok vs) = Reaches text ws s.rest vs
Step text ws (Ok s) (Err bad) = ⊥
Step text ws (Err left) (Ok vs) = ⊥
Step text ws (Err left) (Err bad) = At text ws left bad

abbrev pub Ends : {A : Type 0} → List ℕ → Words → Result A ℕ → Walked → Type 0
Ends text ws (Ok x) (Ok vs) = Unit {0}
Ends text ws (Ok x) (Err bad) = ⊥
Ends text ws (Err left) (Ok vs) = ⊥
Ends text ws (Err left) (Err bad) = At text ws left bad

stays : (text : List ℕ) (ws : Words) → Spells text ws → Reaches text ws text ws
stays text ws h = record { front = []; parts = refl; behind = refl; spells = h }

stops : (text : List ℕ) (ws : Words) → Spells text ws → At text ws (length (from_word text)) ws
stops text ws h = record { front = []; rest = text; parts = refl; behind = refl; spells = h; place = refl }

joined : (text middle rest : List ℕ) (ws vs us : Words) → Reaches text ws middle vs → Reaches middle vs rest us → Reaches text ws rest us
joined text middle rest ws vs us a b = record {
  front = a.front ++ b.front;
  parts = a.parts ∙ ap (λ (x : Words). a.front ++ x) b.parts ∙ sym (append_assoc a.front b.front us);
  behind = behind_both text a.front b.front middle rest a.behind b.behind;
  spells = b.spells;
}

left_behind : (text middle : List ℕ) (ws vs : Words) (left : ℕ) (bad : Words) → Reaches text ws middle vs → At middle vs left bad → At text ws left bad
left_behind text middle ws vs left bad a b = record {
  front = a.front ++ b.front;
  rest = b.rest;
  parts = a.parts ∙ ap (λ (x : Words). a.front ++ x) b.parts ∙ sym (append_assoc a.front b.front bad);
  behind = behind_both text a.front b.front middle b.rest a.behind b.behind;
  spells = b.spells;
  place = b.place;
}

step_behind : (text middle : List ℕ) (ws vs : Words) (r : Going) (k : Walked) → Reaches text ws middle vs → Step middle vs r k → Step text ws r k
step_behind text middle ws vs (Ok s) (Ok us) a b = joined text middle s.rest ws vs us a b
step_behind text middle ws vs (Ok s) (Err bad) a b = b
step_behind text middle ws vs (Err left) (Ok us) a b = b
step_behind text middle ws vs (Err left) (Err bad) a b = left_behind text middle ws vs left bad a b

ends_behind : {A : Type 0} (text middle : List ℕ) (ws vs : Words) (r : Result A ℕ) (k : Walked) → Reaches text ws middle vs → Ends middle vs r k → Ends text ws r k
ends_behind text middle ws vs (Ok x) (Ok us) a b = b
ends_behind text middle ws vs (Ok x) (Err bad) a b = b
ends_behind text middle ws vs (Err left) (Ok us) a b = b
ends_behind text middle ws vs (Err left) (Err bad) a b = left_behind text middle ws vs left bad a b

past_first : (text : List ℕ) (w : List ℕ) (ws : Words) → Spells text (w ∷ ws) → Reaches text (w ∷ ws) (past_word (from_word text)) ws
past_first text w ws h = record { front = w ∷ []; parts = refl; behind = (h.0, h.1, refl); spells = h.2 }

-- ---- parts

one_step : (class : Class) (values : List Value) (text : List ℕ) (ws : Words) → class_value class [] ≡ None → Spells text ws → Step text ws (one class values text) (one_word (accepts class) ws)
one_step class values text [] none h =
    let refused : class_value class (first_word (from_word text)) ≡ None = ap (λ (x : List ℕ). class_value class (first_word x)) h ∙ none in
    subst (λ (o : Option Value). Step text [] (taken o values (from_word text)) (Err [])) (sym refused) (stops text [] h)
one_step class values text (w ∷ ws) none h =
    subst (λ (o : Option Value). Step text (w ∷ ws) (taken o values (from_word text)) (one_word (accepts class) (w ∷ ws))) (sym (ap (class_value class) h.1)) (by_value (class_value class w))
  where
    by_value : (o : Option Value) → Step text (w ∷ ws) (taken o values (from_word text)) (cond (is_some o) (Ok ws) (Err (w ∷ ws)))
    by_value None = stops text (w ∷ ws) h
    by_value (Some v) = past_first text w ws h

-- words that say something, one after the other
gather_step : {X A : Type 0} (say : List ℕ → Option X) (put : A → X → A) (n : ℕ) (so : A) (text : List ℕ) (ws : Words) → say [] ≡ None → Spells text ws → Reaches text ws (gather say put n so text).rest (some_words n (λ w. is_some (say w)) ws)
unfolding gather
gather_step say put zero so text ws none h = stays text ws h
gather_step say put (suc n) so text [] none h =
    let refused : say (first_word (from_word text)) ≡ None = ap (λ (x : List ℕ). say (first_word x)) h ∙ none in
    subst (λ o. Reaches text [] (further o (record { list = so; rest = text }) (λ x. gather say put n (put so x) (past_word (from_word text)))).rest []) (sym refused) (stays text [] h)
gather_step {X = X} say put (suc n) so text (w ∷ ws) none h =
    subst (λ o. Reaches text (w ∷ ws) (further o (record { list = so; rest = text }) (λ x. gather say put n (put so x) (past_word (from_word text)))).rest (some_words (suc n) (λ v. is_some (say v)) (w ∷ ws))) (sym (ap say h.1)) (by_value (say w) (λ x. gather_step say put n (put so x) (past_word (from_word text)) ws none h.2))
  where
    by_value : (o : Option X) → ((x : X) → Reaches (past_word (from_word text)) ws (gather say put n (put so x) (past_word (from_word text))).rest (some_words n (λ v. is_some (say v)) ws))
        → Reaches text (w ∷ ws) (further o (record { list = so; rest = text }) (λ x. gather say put n (put so x) (past_word (from_word text)))).rest (after (cond (is_some o) (Ok ws) (Err (w ∷ ws))) (some_words n (λ v. is_some (say v))) (w ∷ ws))
    by_value None more = stays text (w ∷ ws) h
    by_value (Some x) more = joined text (past_word (from_word text)) _ (w ∷ ws) ws _ (past_first text w ws h) (more x)

-- a list that has a word at least
list_step : {X A : Type 0} (say : List ℕ → Option X) (more : List ℕ → X → Gathered A) (g : Words → Words) (values : List Value) (make : A → Value) (text : List ℕ) (ws : Words) → say [] ≡ None → Spells text ws
    → ((x : X) (vs : Words) → Spells (past_word (from_word text)) vs → Reaches (past_word (from_word text)) vs (more (past_word (from_word text)) x).rest (g vs))
    → Step text ws (at_least_one (say (first_word (from_word text))) (from_word text) (more (past_word (from_word text))) values make) (on (one_word (λ w. is_some (say w)) ws) (λ vs. Ok (g vs)))
list_step say more g values make text [] none h goes =
    let refused : say (first_word (from_word text)) ≡ None = ap (λ (x : List ℕ). say (first_word x)) h ∙ none in
    subst (λ o. Step text [] (at_least_one o (from_word text) (more (past_word (from_word text))) values make) (Err [])) (sym refused) (stops text [] h)
list_step {X = X} say more g values make text (w ∷ ws) none h goes =
    subst (λ o. Step text (w ∷ ws) (at_least_one o (from_word text) (more (past_word (from_word text))) values make) (on (one_word (λ v. is_some (say v)) (w ∷ ws)) (λ vs. Ok (g vs)))) (sym (ap say h.1)) (by_value (say w))
  where
    by_value : (o : Option X) → Step text (w ∷ ws) (at_least_one o (from_word text) (more (past_word (from_word text))) values make) (on (cond (is_some o) (Ok ws) (Err (w ∷ ws))) (λ vs. Ok (g vs)))
    by_value None = stops text (w ∷ ws) h
    by_value (Some x) = joined text (past_word (from_word text)) _ (w ∷ ws) ws _ (past_first text w ws h) (goes x ws h.2)

maybe_step : (class : Class) (values : List Value) (text : List ℕ) (ws : Words) → class_value class [] ≡ None → Spells text ws → Step text ws (maybe class values text) (Ok (some_words 1 (accepts class) ws))
maybe_step class values text ws none h = by_one (one class values text) (one_word (accepts class) ws) (one_step class values text ws none h)
  where
    by_one : (r : Going) (k : Walked) → Step text ws r k → Step text ws (or_else r (with_value values value.Nothing text)) (Ok (after k (λ (x : Words). x) ws))
    by_one (Ok t) (Ok vs) s = s
    by_one (Ok t) (Err bad) s = absurd s
    by_one (Err left) (Ok vs) s = absurd s
    by_one (Err left) (Err bad) s = stays text ws h

no_name : class_value any_name [] ≡ None
unfolding class_value
no_name = refl

no_block : block_of [] ≡ None
unfolding block_of
no_block = refl

group_step : (values : List Value) (text : List ℕ) (ws : Words) → Spells text ws → Step text ws (group values text) (group_words ws)
group_step values text [] h =
    let none : bytes_eq (first_word (from_word text)) (codes "-g") ≡ false = ap (λ (x : List ℕ). bytes_eq (first_word x) (codes "-g")) h in
    subst (λ (q : Bool). Step text [] (cond q (one any_name values (past_word (from_word text))) (Ok (with_value values value.Nothing text))) (Ok [])) (sym none) (stays text [] h)
group_step values text (w ∷ ws) h =
    subst (λ (q : Bool). Step text (w ∷ ws) (cond q (one any_name values (past_word (from_word text))) (Ok (with_value values value.Nothing text))) (group_words (w ∷ ws))) (sym (ap (λ (x : List ℕ). bytes_eq x (codes "-g")) h.1)) (by_test (bytes_eq w (codes "-g")))
  where
    by_test : (q : Bool) → Step text (w ∷ ws) (cond q (one any_name values (past_word (from_word text))) (Ok (with_value values value.Nothing text))) (cond q (one_word (accepts any_name) ws) (Ok (w ∷ ws)))
    by_test true = step_behind text (past_word (from_word text)) (w ∷ ws) ws (one any_name values (past_word (from_word text))) (one_word (accepts any_name) ws) (past_first text w ws h) (one_step any_name values (past_word (from_word text)) ws no_name h.2)
    by_test false = stays text (w ∷ ws) h

some_off : (o : Option Value) → is_none o ≡ true → o ≡ None
some_off None h = refl
some_off (Some v) h = absurd cc

quiet : (class : Class) → is_sound_class class ≡ true → class_value class [] ≡ None
quiet class h = some_off (class_value class []) (and_parts (is_none (class_value class [])) _ (and_parts _ _ h).0).0

item_step : (i : Item) (is : List Item) (values : List Value) (text : List ℕ) (ws : Words) → are_sound (i ∷ is) ≡ true → Spells text ws → Step text ws (item i values text) (item_words i ws)
item_step (One class) is values text ws g h = one_step class values text ws (quiet class (and_parts (is_sound_class class) _ g).0) h
item_step (Maybe class) is values text ws g h = maybe_step class values text ws (quiet class (and_parts (is_sound_class class) _ g).0) h
item_step Group is values text ws g h = group_step values text ws h
item_step NoGroup is values text ws g h = stays text ws h
item_step Names is values text ws g h =
    subst (λ (x : Words). Reaches text ws (gather name_of pushed (length text) [] text).rest x)
    (enough (length text) (length ws) is_named ws (few_words text ws h) (omega arith))
    (gather_step name_of pushed (length text) [] text ws refl h)
item_step Pairs is values text ws g h = list_step pair_of (λ rest pair. gather pair_of pushed (length rest) (pair ∷ []) rest) (λ vs. some_words (length vs) is_paired vs) values value.Pairs text ws refl h (λ pair vs k.
    let rest : List ℕ = past_word (from_word text) in
    subst (λ (x : Words). Reaches rest vs (gather pair_of pushed (length rest) (pair ∷ []) rest).rest x)
    (enough (length rest) (length vs) is_paired vs (few_words rest vs k) (omega arith))
    (gather_step pair_of pushed (length rest) (pair ∷ []) rest vs refl k))
item_step Blocks is values text ws g h = list_step block_of (λ rest block. gather block_of bytes_joined 63 block rest) (some_words 63 is_blocked) values value.Blocks text ws no_block h (λ block vs k. gather_step block_of bytes_joined 63 block (past_word (from_word text)) vs no_block k)

-- ---- ends

no_step : {A : Type 0} (x : A) (text : List ℕ) (ws : Words) → Spells text ws → Ends text ws (nothing_left x (from_word text)) (no_words ws)
no_step x text [] h = subst (λ (y : List ℕ). Ends text [] (nothing_left x y) (Ok [])) (sym h) tt
no_step x text (w ∷ ws) h = by_rest (from_word text) refl h.0
  where
    by_rest : (y : List ℕ) → from_word text ≡ y → 0 < length y → Ends text (w ∷ ws) (nothing_left x y) (Err (w ∷ ws))
    by_rest [] e some = absurd (omega arith)
    by_rest (b ∷ bs) e some = record { front = []; rest = text; parts = refl; behind = refl; spells = h; place = sym (ap (λ (z : List ℕ). length z) e) }

end_step : (may_be_cut : Bool) (s : So) (ws : Words) → Spells s.rest ws → Ends s.rest ws (line_end may_be_cut s) (end_words may_be_cut ws)
end_step false s ws h = no_step (uncut s.values) s.rest ws h
end_step true s [] h =
    let none : cut_of (first_word (from_word s.rest)) ≡ None = ap (λ (x : List ℕ). cut_of (first_word x)) h in
    subst (λ (o : Option ℕ). Ends s.rest [] (cut_end o s.values (from_word s.rest)) (Ok [])) (sym none)
    (subst (λ (y : List ℕ). Ends s.rest [] (nothing_left (uncut s.values) y) (Ok [])) (sym (from_again s.rest)) (no_step (uncut s.values) s.rest [] h))
end_step true s (w ∷ ws) h =
    subst (λ (o : Option ℕ). Ends s.rest (w ∷ ws) (cut_end o s.values (from_word s.rest)) (end_words true (w ∷ ws))) (sym (ap cut_of h.1)) (by_cut (cut_of w))
  where
    by_cut : (o : Option ℕ) → Ends s.rest (w ∷ ws) (cut_end o s.values (from_word s.rest)) (cond (is_some o) (no_words ws) (Err (w ∷ ws)))
    by_cut None = subst (λ (y : List ℕ). Ends s.rest (w ∷ ws) (nothing_left (uncut s.values) y) (Err (w ∷ ws))) (sym (from_again s.rest)) (no_step (uncut s.values) s.rest (w ∷ ws) h)
    by_cut (Some n) =
        let read : Read = record { values = s.values; cut = Some n } in
        ends_behind s.rest (past_word (from_word s.rest)) (w ∷ ws) ws (ends read (past_word (from_word s.rest))) (no_words ws) (past_first s.rest w ws h) (no_step read (past_word (from_word s.rest)) ws h.2)

rest_sound : (i : Item) (is : List Item) → are_sound (i ∷ is) ≡ true → are_sound is ≡ true
rest_sound i [] h = refl
rest_sound (One class) is h = (and_parts (is_sound_class class) _ h).1
rest_sound (Maybe class) is h = (and_parts (is_sound_class class) _ h).1
rest_sound Group is h = h
rest_sound NoGroup is h = h
rest_sound i is h = absurd (true≢false (sym h))

walk_step : (may_be_cut : Bool) (is : List Item) (s : So) (ws : Words) → are_sound is ≡ true → Spells s.rest ws → Ends s.rest ws (and_then (items is (Ok s)) (line_end may_be_cut)) (walk may_be_cut is ws)
walk_step may_be_cut [] s ws g h = end_step may_be_cut s ws h
walk_step may_be_cut (i ∷ is) s ws g h = by_item (item i s.values s.rest) (item_words i ws) (item_step i is s.values s.rest ws g h) (λ t vs k. walk_step may_be_cut is t vs (rest_sound i is g) k)
  where
    by_item : (r : Going) (k : Walked) → Step s.rest ws r k → ((t : So) (vs : Words) → Spells t.rest vs → Ends t.rest vs (and_then (items is (Ok t)) (line_end may_be_cut)) (walk may_be_cut is vs)) → Ends s.rest ws (and_then (items is r) (line_end may_be_cut)) (on k (walk may_be_cut is))
    by_item (Ok t) (Ok vs) st ih = ends_behind s.rest t.rest ws vs (and_then (items is (Ok t)) (line_end may_be_cut)) (walk may_be_cut is vs) st (ih t vs st.spells)
    by_item (Ok t) (Err bad) st ih = absurd st
    by_item (Err left) (Ok vs) st ih = absurd st
    by_item (Err left) (Err bad) st ih = subst (λ (r : Going). Ends s.rest ws (and_then r (line_end may_be_cut)) (Err bad)) (sym (items_err is left)) st

pub row_walks : (may_be_cut : Bool) (is : List Item) (text : List ℕ) (ws : Words) → are_sound is ≡ true → Spells text ws → Ends text ws (row may_be_cut is text) (walk may_be_cut is ws)
unfolding row
row_walks may_be_cut is text ws g h = walk_step may_be_cut is (record { values = []; rest = text }) ws g h
