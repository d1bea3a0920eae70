-- What is left where no kind fits is the place of the fault.
use Rattle.std.proofs.Common.{◌≡◌, ◌∙◌, sym, ap, subst, refl, ℕ, ◌≤◌, ◌<◌, ◌⊎◌, inl, inr, min, Bool, true, Result, Ok, Err, List, [], ◌∷◌, ◌++◌, length, arith}
use Rattle.std.specs.List.{list_all}
use Rattle.std.proofs.lemmas.Bool.{and_from, and_parts, cases_lt}
use Rattle.std.proofs.lemmas.List.{append-nil, append_cancel_right, length-append}
use Rattle.vx_script.specs.Choice.{Choice, choice, choose, or_others}
use Rattle.vx_script.specs.Place.{FitsOne, Begins, IsPlace}
use Rattle.vx_script_forms.specs.Table.{items_of, commands, calls, acts}
use Rattle.vx_script_forms.specs.declared.kind.Kind.{Kind}
use Rattle.vx_script_words.specs.Class.{class_value}
use Rattle.vx_script_words.specs.Hex.{block_of}
use Rattle.vx_script_words.specs.Row.{row, Read}
use Rattle.vx_script_words.specs.Spelling.{Behind, Spells}
use Rattle.vx_script_words.specs.Words.{from_word, first_word}
use Rattle.vx_script_words.proofs.LineWords.{At, Ends, row_walks}
use Rattle.vx_script_words.proofs.Opens.{are_sound, walk_opens}
use Rattle.vx_script_words.proofs.Plain.{left_of, right_of}
use Rattle.vx_script_words.proofs.Sorts.{all_joined}
use Rattle.vx_script_words.specs.Spelling.{spelled}
use Rattle.vx_script_words.proofs.Spelling.{is_word, later_less, less_behind, spelled_words, words_of}
use Rattle.vx_script_words.proofs.Walk.{Walked, Words, walk, walk_blocks}

abbrev pub is_sound : Kind → Bool
is_sound k = are_sound (items_of k)

pub sound_commands : list_all is_sound commands ≡ true
unfolding class_value block_of
sound_commands = refl

pub sound_calls : list_all is_sound calls ≡ true
unfolding class_value block_of
sound_calls = refl

pub sound_acts : list_all is_sound acts ≡ true
unfolding class_value block_of
sound_acts = refl

-- ---- one of the kinds

-- the kind is among these
abbrev pub In : Kind → List Kind → Type 0
In k [] = ⊥
In k (x ∷ xs) = (k ≡ x) ⊎ In k xs

pub in_all : (p : Kind → Bool) (k : Kind) (kinds : List Kind) → In k kinds → list_all p kinds ≡ true → p k ≡ true
in_all p k [] i h = absurd i
in_all p k (x ∷ xs) (inl e) h = ap p e ∙ left_of (p x) (list_all p xs) h
in_all p k (x ∷ xs) (inr i) h = in_all p k xs i (right_of (p x) (list_all p xs) h)

-- a row that fits
pub record HasRow (may_be_cut : Bool) (kinds : List Kind) (text : List ℕ) : Type 0 where
  pub kind : Kind
  pub among : In kind kinds
  pub read : Read
  pub is : row may_be_cut (items_of kind) text ≡ Ok read

row_there : (may_be_cut : Bool) (kinds : List Kind) (text : List ℕ) (n : ℕ) (c : Choice) → choice may_be_cut kinds text n ≡ Ok c → HasRow may_be_cut kinds text
row_there may_be_cut [] text n c e = absurd cc
row_there may_be_cut (k ∷ ks) text n c e = by_row (row may_be_cut (items_of k) text) refl e (λ m d. row_there may_be_cut ks text m d)
  where
    by_row : (r : Result Read ℕ) → row may_be_cut (items_of k) text ≡ r → or_others r k (choice may_be_cut ks text) n ≡ Ok c → ((m : ℕ) (d : Choice) → choice may_be_cut ks text m ≡ Ok d → HasRow may_be_cut ks text) → HasRow may_be_cut (k ∷ ks) text
    by_row (Ok read) same e others = record { kind = k; among = inl refl; read = read; is = same }
    by_row (Err less) same e others =
        let r = others (min n less) c e in
        record { kind = r.kind; among = inr r.among; read = r.read; is = r.is }

chosen_there : (may_be_cut : Bool) (kinds : List Kind) (text : List ℕ) (n : ℕ) (k : Kind) (read : Read) → In k kinds → row may_be_cut (items_of k) text ≡ Ok read → (c : Choice) × (choice may_be_cut kinds text n ≡ Ok c)
chosen_there may_be_cut [] text n k read i e = absurd i
chosen_there may_be_cut (x ∷ xs) text n k read i e = by_row (row may_be_cut (items_of x) text) refl i (λ m j. chosen_there may_be_cut xs text m k read j e)
  where
    by_row : (r : Result Read ℕ) → row may_be_cut (items_of x) text ≡ r → (k ≡ x) ⊎ In k xs → ((m : ℕ) → In k xs → (c : Choice) × (choice may_be_cut xs text m ≡ Ok c)) → (c : Choice) × (or_others r x (choice may_be_cut xs text) n ≡ Ok c)
    by_row (Ok first) same i others = (record { kind = x; values = first.values; cut = first.cut }, refl)
    by_row (Err less) same (inl first) others =
        let other : row may_be_cut (items_of k) text ≡ Err less = ap (λ (y : Kind). row may_be_cut (items_of y) text) first ∙ same in
        absurd cc
    by_row (Err less) same (inr j) others = others (min n less) j

-- a row that does not fit
pub record HasFault (may_be_cut : Bool) (k : Kind) (text : List ℕ) : Type 0 where
  pub left : ℕ
  pub is : row may_be_cut (items_of k) text ≡ Err left

-- no row fits, none leaves less, and where the least is less than all, one of them leaves it
pub record IsLeast (may_be_cut : Bool) (kinds : List Kind) (text : List ℕ) (n left : ℕ) : Type 0 where
  pub all : (k : Kind) → In k kinds → (f : HasFault may_be_cut k text) × (left ≤ f.left)
  pub some : (left ≡ n) ⊎ ((k : Kind) × In k kinds × (row may_be_cut (items_of k) text ≡ Err left))
  pub below : left ≤ n

least_is : (may_be_cut : Bool) (kinds : List Kind) (text : List ℕ) (n left : ℕ) → choice may_be_cut kinds text n ≡ Err left → IsLeast may_be_cut kinds text n left
least_is may_be_cut [] text n left e =
    let same : n ≡ left = cc in
    record { all = λ k i. absurd i; some = inl (sym same); below = omega arith }
least_is may_be_cut (x ∷ xs) text n left e = by_row (row may_be_cut (items_of x) text) refl e (λ m. least_is may_be_cut xs text m left)
  where
    by_row : (r : Result Read ℕ) → row may_be_cut (items_of x) text ≡ r → or_others r x (choice may_be_cut xs text) n ≡ Err left → ((m : ℕ) → choice may_be_cut xs text m ≡ Err left → IsLeast may_be_cut xs text m left) → IsLeast may_be_cut (x ∷ xs) text n left
    by_row (Ok read) same e others = absurd cc
    by_row (Err less) same e others =
        let l = others (min n less) e in
        record {
          all = λ k i. here less same l k i;
          some = attained less same l l.some;
          below = omega (arith, l.below);
        }
      where
        here : (less : ℕ) → row may_be_cut (items_of x) text ≡ Err less → IsLeast may_be_cut xs text (min n less) left → (k : Kind) → (k ≡ x) ⊎ In k xs → (f : HasFault may_be_cut k text) × (left ≤ f.left)
        here less same l k (inl first) = (record { left = less; is = ap (λ (y : Kind). row may_be_cut (items_of y) text) first ∙ same }, omega (arith, l.below))
        here less same l k (inr i) = l.all k i

        attained : (less : ℕ) → row may_be_cut (items_of x) text ≡ Err less → IsLeast may_be_cut xs text (min n less) left → (left ≡ min n less) ⊎ ((k : Kind) × In k xs × (row may_be_cut (items_of k) text ≡ Err left)) → (left ≡ n) ⊎ ((k : Kind) × In k (x ∷ xs) × (row may_be_cut (items_of k) text ≡ Err left))
        attained less same l (inl e) = elim (cases_lt n less) [
          | inl lt ↦ inl (omega arith)
          | inr ge ↦ let at : less ≡ left = omega arith in inr (x, inl refl, same ∙ ap (λ (m : ℕ). Err m) at)
        ]
        attained less same l (inr k) = inr (k.0, inr k.1, k.2)

-- ---- from lines to their words

abbrev FaultAt : Bool → Kind → List ℕ → Words → ℕ → Type 0
FaultAt may_be_cut k text ws left = (bad : Words) × (walk may_be_cut (items_of k) ws ≡ Err bad) × At text ws left bad

fault_at : (may_be_cut : Bool) (k : Kind) (text : List ℕ) (ws : Words) (left : ℕ) → are_sound (items_of k) ≡ true → Spells text ws → row may_be_cut (items_of k) text ≡ Err left → FaultAt may_be_cut k text ws left
fault_at may_be_cut k text ws left g h e = by_walk (row may_be_cut (items_of k) text) (walk may_be_cut (items_of k) ws) (row_walks may_be_cut (items_of k) text ws g h) e refl
  where
    by_walk : (r : Result Read ℕ) (w : Walked) → Ends text ws r w → r ≡ Err left → walk may_be_cut (items_of k) ws ≡ w → FaultAt may_be_cut k text ws left
    by_walk (Ok read) w a e same = absurd cc
    by_walk (Err l) (Ok vs) a e same = absurd a
    by_walk (Err l) (Err bad) a e same =
        let at : l ≡ left = cc in
        (bad, same, subst (λ (n : ℕ). At text ws n bad) at a)

pub fit_walks : (may_be_cut : Bool) (k : Kind) (text : List ℕ) (ws : Words) (read : Read) → are_sound (items_of k) ≡ true → Spells text ws → row may_be_cut (items_of k) text ≡ Ok read → (vs : Words) × (walk may_be_cut (items_of k) ws ≡ Ok vs)
fit_walks may_be_cut k text ws read g h e = by_walk (row may_be_cut (items_of k) text) (walk may_be_cut (items_of k) ws) (row_walks may_be_cut (items_of k) text ws g h) e refl
  where
    by_walk : (r : Result Read ℕ) (w : Walked) → Ends text ws r w → r ≡ Ok read → walk may_be_cut (items_of k) ws ≡ w → (vs : Words) × (walk may_be_cut (items_of k) ws ≡ Ok vs)
    by_walk (Ok x) (Ok vs) a e same = (vs, same)
    by_walk (Ok x) (Err bad) a e same = absurd a
    by_walk (Err l) w a e same = absurd cc

walk_fits : (may_be_cut : Bool) (k : Kind) (text : List ℕ) (ws vs : Words) → are_sound (items_of k) ≡ true → Spells text ws → walk may_be_cut (items_of k) ws ≡ Ok vs → (read : Read) × (row may_be_cut (items_of k) text ≡ Ok read)
walk_fits may_be_cut k text ws vs g h e = by_walk (row may_be_cut (items_of k) text) (walk may_be_cut (items_of k) ws) (row_walks may_be_cut (items_of k) text ws g h) e refl
  where
    by_walk : (r : Result Read ℕ) (w : Walked) → Ends text ws r w → w ≡ Ok vs → row may_be_cut (items_of k) text ≡ r → (read : Read) × (row may_be_cut (items_of k) text ≡ Ok read)
    by_walk (Ok read) w a e same = (read, same)
    by_walk (Err l) (Ok us) a e same = absurd a
    by_walk (Err l) (Err bad) a e same = absurd cc

-- ---- the place

behind_below : (text : List ℕ) (ws : Words) (rest : List ℕ) → Behind text ws rest → length (from_word rest) ≤ length (from_word text)
behind_below text [] rest h = omega (arith, ap (λ (x : List ℕ). length (from_word x)) h)
behind_below text (w ∷ ws) rest h = omega (arith, less_behind text w ws rest h)

all_first : {X : Type 0} (test : X → Bool) (xs ys : List X) → list_all test (xs ++ ys) ≡ true → list_all test xs ≡ true
all_first test [] ys h = refl
all_first test (x ∷ xs) ys h =
    let p = and_parts (test x) (list_all test (xs ++ ys)) h in
    and_from _ _ p.0 (all_first test xs ys p.1)

-- some kind leaves what is left
attained : (may_be_cut : Bool) (kinds : List Kind) (line : List ℕ) (ws : Words) (left : ℕ) → list_all is_sound kinds ≡ true → 0 < length kinds → Spells line ws → IsLeast may_be_cut kinds line (length (from_word line)) left → (k : Kind) × In k kinds × (row may_be_cut (items_of k) line ≡ Err left)
attained may_be_cut [] line ws left g some h l = absurd (omega arith)
attained may_be_cut (x ∷ xs) line ws left g some h l = by_some l.some
  where
    by_some : (left ≡ length (from_word line)) ⊎ ((k : Kind) × In k (x ∷ xs) × (row may_be_cut (items_of k) line ≡ Err left)) → (k : Kind) × In k (x ∷ xs) × (row may_be_cut (items_of k) line ≡ Err left)
    by_some (inr k) = k
    by_some (inl whole) =
        let f = l.all x (inl refl) in
        let a = fault_at may_be_cut x line ws f.0.left (and_parts (is_sound x) (list_all is_sound xs) g).0 h f.0.is in
        let below = behind_below line a.2.front a.2.rest a.2.behind in
        let same : f.0.left ≡ left = omega (arith, whole, f.1, a.2.place, below) in
        (x, inl refl, f.0.is ∙ ap (λ (n : ℕ). Err n) same)

-- a word further on, no more is left
further : (line : List ℕ) (ws front front' : Words) (v : List ℕ) (back bad : Words) (rest rest' : List ℕ) → ws ≡ front ++ v ∷ back → ws ≡ front' ++ bad → Behind line front rest → Behind line front' rest' → length (from_word rest) ≤ length (from_word rest') → length back < length bad
further line ws front front' v back bad rest rest' e f h k le = elim (cases_lt (length back) (length bad)) [
  | inl lt ↦ lt
  | inr ge ↦
      let longer : length front < length front' = omega (arith, ap (λ (x : Words). length x) e, ap (λ (x : Words). length x) f, length-append front (v ∷ back), length-append front' bad) in
      absurd (omega (arith, le, later_less line front front' rest rest' h k longer))
]

module _ (may_be_cut : Bool) (kinds : List Kind) (line : List ℕ) (left : ℕ) (sound : list_all is_sound kinds ≡ true) (least : IsLeast may_be_cut kinds line (length (from_word line)) left) (ws : Words) (spells : Spells line ws) (front : Words) (rest : List ℕ) (behind : Behind line front rest) (place : left ≡ length (from_word rest)) where
  no_word : (bad : Words) → ws ≡ front ++ bad → Spells rest bad → (other : List ℕ) (more : Words) → 0 < left → Spells other (front ++ first_word (from_word rest) ∷ more) → FitsOne may_be_cut kinds other → ⊥
  no_word [] parts left_words other more some h fit = omega (arith, place, some, ap (λ (x : List ℕ). length x) left_words)
  no_word (v ∷ back) parts left_words other more some h fit =
      let r = row_there may_be_cut kinds other (length (from_word other)) fit.0 fit.1 in
      let g = in_all is_sound r.kind kinds r.among sound in
      let fits = fit_walks may_be_cut r.kind other (front ++ first_word (from_word rest) ∷ more) r.read g h r.is in
      let f = least.all r.kind r.among in
      let a = fault_at may_be_cut r.kind line ws f.0.left g spells f.0.is in
      let le : length (from_word rest) ≤ length (from_word a.2.rest) = omega (arith, place, f.1, a.2.place) in
      let less = further line ws front a.2.front v back a.0 rest a.2.rest parts a.2.parts behind a.2.behind le in
      walk_blocks may_be_cut (items_of r.kind) front back more v a.0 fits.0 (ap (walk may_be_cut (items_of r.kind)) (sym parts) ∙ a.1) less
      (ap (λ (x : List ℕ). walk may_be_cut (items_of r.kind) (front ++ x ∷ more)) (sym left_words.1) ∙ fits.1)

  no_end : (bad : Words) → ws ≡ front ++ bad → Spells rest bad → (other : List ℕ) → left ≡ 0 → Spells other front → FitsOne may_be_cut kinds other → ⊥
  no_end (v ∷ back) parts left_words other none h fit = omega (arith, place, none, left_words.0)
  no_end [] parts left_words other none h fit =
      let r = row_there may_be_cut kinds other (length (from_word other)) fit.0 fit.1 in
      let g = in_all is_sound r.kind kinds r.among sound in
      let fits = fit_walks may_be_cut r.kind other front r.read g h r.is in
      let f = least.all r.kind r.among in
      let a = fault_at may_be_cut r.kind line ws f.0.left g spells f.0.is in
      let whole : walk may_be_cut (items_of r.kind) front ≡ Err a.0 = ap (walk may_be_cut (items_of r.kind)) (sym (parts ∙ append-nil front)) ∙ a.1 in
      let both = sym whole ∙ fits.1 in
      cc

begins_there : (may_be_cut : Bool) (kinds : List Kind) (k : Kind) (ws front bad : Words) → In k kinds → list_all is_sound kinds ≡ true → list_all is_word ws ≡ true → ws ≡ front ++ bad → walk may_be_cut (items_of k) ws ≡ Err bad → Begins may_be_cut kinds front
begins_there may_be_cut kinds k ws front bad i sound real parts e =
    let g = in_all is_sound k kinds i sound in
    let o = walk_opens may_be_cut (items_of k) g ws bad e in
    let same : o.front ≡ front = append_cancel_right o.front front bad (sym o.parts ∙ parts) in
    let words = front ++ o.more in
    let true_words : list_all is_word words ≡ true = all_joined is_word front o.more (all_first is_word front bad (ap (list_all is_word) (sym parts) ∙ real)) o.real in
    let spells = spelled_words words true_words in
    let walked : walk may_be_cut (items_of k) words ≡ Ok o.left = ap (λ (x : Words). walk may_be_cut (items_of k) (x ++ o.more)) (sym same) ∙ o.fits in
    let r = walk_fits may_be_cut k (spelled words) words o.left g spells walked in
    record { line = spelled words; more = o.more; spells = spells; fits = chosen_there may_be_cut kinds (spelled words) (length (from_word (spelled words))) k r.0 i r.1 }

-- what no kind of such forms fits is left from the first word on that no line with the same earlier words has
pub place_is : (may_be_cut : Bool) (kinds : List Kind) (line : List ℕ) (left : ℕ) → list_all is_sound kinds ≡ true → 0 < length kinds → choose may_be_cut kinds line ≡ Err left → IsPlace may_be_cut kinds line left
place_is may_be_cut kinds line left sound some e =
    let w = words_of line in
    let l = least_is may_be_cut kinds line (length (from_word line)) left e in
    let k = attained may_be_cut kinds line w.words left sound some w.spells l in
    let a = fault_at may_be_cut k.0 line w.words left (in_all is_sound k.0 kinds k.1 sound) w.spells k.2 in
    let at = a.2 in
    record {
      before = at.front;
      rest = at.rest;
      behind = at.behind;
      place = at.place;
      begins = begins_there may_be_cut kinds k.0 w.words at.front a.0 k.1 sound w.real at.parts a.1;
      word = no_word may_be_cut kinds line left sound l w.words w.spells at.front at.rest at.behind at.place a.0 at.parts at.spells;
      end = no_end may_be_cut kinds line left sound l w.words w.spells at.front at.rest at.behind at.place a.0 at.parts at.spells;
    }
