-- What is printed of the values of parts is read back, and has no blank.
use Rattle.vx_script_print.proofs.Terms.{◌≡◌, ◌∙◌, sym, ap, refl, ℕ, zero, suc, ◌-◌, ◌*◌, ◌/◌, ◌%◌, ◌^◌, ◌<◌, ◌≤◌, inl, inr, Bool, true, false, List, [], ◌∷◌, ◌++◌, length, take, drop, arith, Option, Some, None, subst, map, Ok, Err, ltb-true, eq-eqb, cond, codes, decimal, is_some, not, nat_le, nat_lt, ◌==◌, ◌&&◌, ◌||◌, is_none, list_all, and_parts, not-true, and_from, or_cases, both_ways, cond-true, cond-false, eqb-true, and_left, and_right, or_from, false_from_ne_true, ne_eqb, true_from_ne_false, nat_tests, append-nil, append_assoc, length-append, take_all, drop_all, length-take, length-drop, length-map, map-id, take-append-drop, list_all-append, list_all-map, bytes_eq-Decides, word_again, AreBytes, spelled_block, is_hex_digit, is_short_word, is_long_word, is_block_word, byte_value, hex, hex_digit, block_word, is_name, is_name_byte, numeral_front, digits_value, numeral_before, decimal_number, decimal_numeral, decimal_value, decimal_name, decimal_short, value_text, class_word, plex_text, cut_blocks, words_of, row_words, cut_words, class_value, sort_value, value_behind, as_name, as_number, as_pair, is_between, is_byte, is_pair, is_of, maybe_name, pair_word, are_blocks, of_item, are_of, byte_of, block_of, text_of, number_of, within, units_of, length_of, behind, name_of, name_behind, cut_of, pair_of, just, plex_of, break_off_of, number_behind, Class, Sort, DiskAt, Value, take_front, drop_front, up_to_is, past_is, is_dark, is_dark_word, is_not, all_by, name_without, name_dark, name_parts, name_word, ands, right_of, bytes_eq, maybe_cut, items_of, Kind, So, one, taken, with_value, or_else, further, gather, pushed, joined, said, at_least_one, any_name, item, items, row, Read, and_then, line_end, cut_end, uncut, nothing_left, Spells, from_word, first_word, past_word, Item, Key, few_words, Words, Walked, accepts, is_named, group_words, on, walk, is_fixed, other_word, refused_again}
use Rattle.vx_script_print.proofs.Spelling.{cut_length}

-- ---- bytes without blanks

pub word_bytes : (w : List ℕ) → is_dark_word w ≡ true → list_all is_dark w ≡ true
word_bytes [] h = refl
word_bytes (b ∷ bs) h = h

-- a word with dark bytes behind it, and one behind them
dark_both : (x y : List ℕ) → list_all is_dark x ≡ true → list_all is_dark y ≡ true → list_all is_dark (x ++ y) ≡ true
dark_both x y h k = list_all-append is_dark x y ∙ and_from _ _ h k

word_more : (x y : List ℕ) → is_dark_word x ≡ true → list_all is_dark y ≡ true → is_dark_word (x ++ y) ≡ true
word_more [] y h k = absurd (both_ways false refl h)
word_more (b ∷ bs) y h k = dark_both (b ∷ bs) y h k

word_behind : (x y : List ℕ) → list_all is_dark x ≡ true → is_dark_word y ≡ true → is_dark_word (x ++ y) ≡ true
word_behind [] y h k = k
word_behind (b ∷ bs) y h k = dark_both (b ∷ bs) y h (word_bytes y k)

ruleset shown = (ands, name_word, word_more, name_dark, dark_both)

-- ---- names

pub name_said : (w : List ℕ) → is_name w ≡ true → name_of w ≡ Some w
name_said w h = cond-true _ _ _ h

-- a word with its front is what follows
pub behind_front : (front x : List ℕ) → behind front (front ++ x) ≡ Some x
behind_front front x = cond-true _ _ _ ((bytes_eq-Decides (take (length front) (front ++ x)) front).1 (take_front front x)) ∙ ap Some (drop_front front x)

pub pair_said : (pair : DiskAt) → is_pair pair ≡ true → pair_of (pair_word pair) ≡ Some pair
pair_said pair h =
    let clean = name_without 61 (λ b plain e. plain.no_equals e) pair.disk (search ands) in
    cond-false _ _ _ (not-true (is_some (cut_of (pair_word pair))) (search ands)) ∙ rw (append_assoc pair.disk (61 ∷ []) pair.device, up_to_is 61 pair.disk pair.device clean, past_is 61 pair.disk pair.device clean, name_said pair.disk (search ands), name_said pair.device (search ands)) refl

pair_shown : (pair : DiskAt) → is_pair pair ≡ true → is_dark_word (pair_word pair) ≡ true
pair_shown pair h = search shown

-- behind the last `/` of what a break-off names
abbrev plex_rest : Option (List ℕ) → List ℕ
plex_rest None = codes "nmirror=1"
plex_rest (Some plex) = codes "plex=" ++ plex

-- the plex of a break-off is read back, and has no blank
plex_shown : (plex : Option (List ℕ)) → maybe_name plex ≡ true → (plex_text plex ≡ 47 ∷ plex_rest plex) × (plex_of (plex_rest plex) ≡ Some plex) × (list_all is_dark (plex_text plex) ≡ true)
plex_shown None h = (refl, refl, refl)
plex_shown (Some plex) h = (refl, ap (λ o. just (name_behind o)) (behind_front (codes "plex=") plex) ∙ ap just (name_said plex h), name_dark plex h)

break_off_said : (vol snap : List ℕ) (plex : Option (List ℕ)) → is_name vol ≡ true → is_name snap ≡ true → maybe_name plex ≡ true → break_off_of (vol ++ codes "/newvol=" ++ snap ++ plex_text plex) ≡ Some (Value.BreakOff vol snap plex)
break_off_said vol snap plex v s p =
    let no_slash = name_without 47 (λ b plain e. plain.no_slash e) in
    let clean : list_all (is_not 47) (codes "newvol=" ++ snap) ≡ true = no_slash snap s in
    let inner : List ℕ = (codes "newvol=" ++ snap) ++ 47 ∷ plex_rest plex in
    let parts = ap (λ t. vol ++ codes "/newvol=" ++ snap ++ t) (plex_shown plex p).0 ∙ append_assoc (vol ++ codes "/newvol=") snap (47 ∷ plex_rest plex) ∙ append_assoc vol (codes "/newvol=") (snap ++ 47 ∷ plex_rest plex) in
    rw (parts, up_to_is 47 vol inner (no_slash vol v), past_is 47 vol inner (no_slash vol v), up_to_is 47 (codes "newvol=" ++ snap) (plex_rest plex) clean, past_is 47 (codes "newvol=" ++ snap) (plex_rest plex) clean, behind_front (codes "newvol=") snap, name_said vol v, name_said snap s, (plex_shown plex p).1) refl

-- ---- numbers

pub number_said : (n : ℕ) → n < 2 ^ 40 → number_of (decimal n) ≡ Some n
number_said n h = cond-true _ _ _ (decimal_number n h) ∙ ap Some (decimal_value n (omega (arith, h)))

pub ranged_said : (low high n : ℕ) → n < 2 ^ 40 → is_between low high n ≡ true → within low high (number_of (decimal n)) ≡ Some n
ranged_said low high n small h = ap (within low high) (number_said n small) ∙ cond-true _ _ _ h

length_said : (n : ℕ) → n ≤ 2 ^ 40 → is_between 1 (2 ^ 40) n ≡ true → length_of (decimal n) ≡ Some n
length_said n small h =
    let w : List ℕ = decimal n in
    let fits : n < 2 ^ 64 = omega (arith, small) in
    let front : numeral_front w ≡ length w = ap numeral_front (sym (append-nil w)) ∙ numeral_before w [] (decimal_numeral n fits) (omega arith) in
    let one : digits_value w * 1 ≡ n = omega (arith, decimal_value n fits) in
    ap (λ k. units_of (take k w) (drop k w)) front ∙ rw (take_all (length w) w (omega arith), drop_all (length w) w (omega arith)) (cond-true _ _ _ (decimal_numeral n fits) ∙ ap (λ k. within 1 (2 ^ 40) (Some k)) one ∙ cond-true _ _ _ h)

-- ---- hexadecimal digits

hex_is_dark : (b : ℕ) → is_hex_digit b ≡ true → is_dark b ≡ true
hex_is_dark b h = grind (arith, nat_tests)

digits_hex : (b : ℕ) → b < 256 → list_all is_hex_digit (hex b) ≡ true
digits_hex b lt = grind (arith, nat_tests)

digits_say : (b : ℕ) → b < 256 → byte_value (hex_digit (b / 16)) (hex_digit (b % 16)) ≡ b
digits_say b lt = grind (arith, nat_tests)

byte_said : (b : ℕ) → b < 256 → byte_of (hex b) ≡ Some b
byte_said b lt = let both : (is_hex_digit (hex_digit (b / 16)) && is_hex_digit (hex_digit (b % 16))) ≡ true = grind (arith, nat_tests) in cond-true _ _ _ both ∙ ap Some (digits_say b lt)

-- 512 bytes
abbrev pub is_one_block : List ℕ → Bool
is_one_block block = length block == 512 && list_all is_byte block

are_bytes : (bs : List ℕ) → list_all is_byte bs ≡ true → AreBytes bs
are_bytes [] h k = omega arith
are_bytes (b ∷ bs) h zero = ltb-true b 256 (search ands)
are_bytes (b ∷ bs) h (suc k) = are_bytes bs (search ands) k

-- what is printed of a block is a word, and spells the block
block_again : (bs : List ℕ) → is_one_block bs ≡ true → (is_block_word (block_word bs) ≡ true) × (spelled_block (block_word bs) ≡ bs)
block_again bs h = word_again bs (eqb-true (length bs) 512 (search ands)) (are_bytes bs (search ands))

pub block_said : (bs : List ℕ) → is_one_block bs ≡ true → block_of (block_word bs) ≡ Some bs
unfolding block_of
block_said bs h = cond-true _ _ _ (block_again bs h).0 ∙ ap Some (block_again bs h).1

block_dark : (w : List ℕ) → is_block_word w ≡ true → is_dark_word w ≡ true
block_dark [] h = absurd (both_ways false refl h)
block_dark (b ∷ bs) h = elim (or_cases (is_short_word (b ∷ bs)) (is_long_word (b ∷ bs)) h) [
  | inl short ↦ and_from _ _ (ap is_dark (eqb-true b 61 (search ands))) (all_by is_hex_digit is_dark hex_is_dark bs (search ands))
  | inr long ↦ all_by is_hex_digit is_dark hex_is_dark (b ∷ bs) (search ands)
]

pub block_is_word : (bs : List ℕ) → is_one_block bs ≡ true → is_dark_word (block_word bs) ≡ true
block_is_word bs h = block_dark (block_word bs) (block_again bs h).0

-- ---- sorts and classes

-- numbers of a sort are below 2^40
abbrev is_fair : Sort → Bool
is_fair (Sort.Number low high) = nat_le high (2 ^ 40 - 1)
is_fair s = true

-- a front without blanks, which is some bytes where nothing follows it
abbrev pub is_fair_class : Class → Bool
is_fair_class c = list_all is_dark (text_of c.front) && (is_fair c.sort && (not (is_fixed c.sort) || is_dark_word (text_of c.front)))

-- the text behind a front: none behind a fixed word
abbrev IsBehind : Bool → List ℕ → Type 0
IsBehind true w = w ≡ []
IsBehind false w = is_dark_word w ≡ true

-- the text of a value says it, and has no blank
record Shown (s : Sort) (v : Value) : Type 0 where
  pub says : sort_value s (value_text s v) ≡ Some v
  pub text : IsBehind (is_fixed s) (value_text s v)

value_shown : (s : Sort) (v : Value) → is_fair s ≡ true → is_of s v ≡ true → Shown s v
value_shown Sort.Word Value.Word f h = record { says = refl; text = refl }
value_shown Sort.Named (Value.Named name) f h = record { says = ap as_name (name_said name h); text = search shown }
value_shown (Sort.Number low high) (Value.Number n) f h = record { says = ap as_number (ranged_said low high n (grind (arith, nat_tests)) h); text = name_word (decimal n) (decimal_name n (grind (arith, nat_tests))) }
value_shown Sort.Length (Value.Number n) f h = record { says = ap as_number (length_said n (grind (arith, nat_tests)) h); text = name_word (decimal n) (decimal_name n (grind (arith, nat_tests))) }
value_shown Sort.Byte (Value.Number n) f h =
    let same : n % 256 ≡ n = grind (arith, nat_tests) in
    record { says = ap (λ m. as_number (byte_of (hex m))) same ∙ ap as_number (byte_said n (ltb-true n 256 h)); text = ap (λ m. list_all is_dark (hex m)) same ∙ all_by is_hex_digit is_dark hex_is_dark (hex n) (digits_hex n (ltb-true n 256 h)) }
value_shown Sort.Pair (Value.Pair pair) f h = record { says = ap as_pair (pair_said pair h); text = pair_shown pair h }
value_shown Sort.BreakOff (Value.BreakOff vol snap plex) f h = record { says = break_off_said vol snap plex (search ands) (search ands) (search ands); text = (let last = (plex_shown plex (search ands)).2 in search shown) }
value_shown s v f h = absurd (both_ways false refl h)

-- the word of a value of a class says it, and has no blank
pub record ShownClass (c : Class) (v : Value) : Type 0 where
  pub says : class_value c (class_word c v) ≡ Some v
  pub dark : is_dark_word (class_word c v) ≡ true

pub class_shown : (c : Class) (v : Value) → is_fair_class c ≡ true → is_of c.sort v ≡ true → ShownClass c v
unfolding class_value
class_shown c v f h =
    let x = value_shown c.sort v (search ands) h in
    record { says = ap (value_behind c.sort) (behind_front (text_of c.front) (value_text c.sort v)) ∙ x.says; dark = with_front (is_fixed c.sort) (text_of c.front) (value_text c.sort v) (search ands) (search ands) x.text }
  where
    with_front : (q : Bool) (front w : List ℕ) → list_all is_dark front ≡ true → (not q || is_dark_word front) ≡ true → IsBehind q w → is_dark_word (front ++ w) ≡ true
    with_front true front w d h t = rw (t, append-nil) h
    with_front false front w d h t = word_behind front w d t

-- the first of the words, or nothing
abbrev head_word : List (List ℕ) → List ℕ
head_word [] = []
head_word (w ∷ ws) = w

abbrev so : List Value → List ℕ → So
so values rest = record { values = values; rest = rest }

-- ---- what may follow a part

-- such a word ends the part
abbrev Ends : Item → List ℕ → Type 0
Ends (Item.Maybe c) w = class_value c w ≡ None
Ends Item.Group w = bytes_eq w (codes "-g") ≡ false
Ends Item.Names w = name_of w ≡ None
Ends Item.Pairs w = pair_of w ≡ None
Ends Item.Blocks w = block_of w ≡ None
Ends i w = Unit {0}

-- this holds of each word that may come first, whatever stands behind its front
abbrev Firsts : (List ℕ → Type 0) → List Item → Type 0
Firsts P [] = (x : List ℕ) → P (codes "cut=" ++ x)
Firsts P (Item.One d ∷ is) = (x : List ℕ) → P (text_of d.front ++ x)
Firsts P (Item.Maybe d ∷ is) = ((x : List ℕ) → P (text_of d.front ++ x)) × Firsts P is
Firsts P (Item.NoGroup ∷ is) = Firsts P is
Firsts P (Item.Names ∷ is) = ((n : List ℕ) → is_name n ≡ true → P n) × Firsts P is
Firsts P is = ⊥

-- the words of the part can be told from those behind them
abbrev Told : Item → List Item → Type 0
Told (Item.One c) is = is_fair_class c ≡ true
Told (Item.Maybe c) is = (is_fair_class c ≡ true) × (class_value c [] ≡ None) × Firsts (Ends (Item.Maybe c)) is
Told Item.Group is = Firsts (Ends Item.Group) is
Told Item.NoGroup is = Unit {0}
Told i is = is ≡ []

abbrev pub Clear : List Item → Type 0
Clear [] = Unit {0}
Clear (i ∷ is) = Told i is × Clear is

-- no name begins so
no_name : (x : List ℕ) → name_of (codes "cut=" ++ x) ≡ None
no_name x = cond-false _ _ _ (and_right _ _ refl)

-- a name does not begin with a front that no name has
no_front : (c : Class) (w : List ℕ) → list_all is_name_byte (text_of c.front) ≡ false → is_name w ≡ true → class_value c w ≡ None
unfolding class_value
no_front c w out h =
    let front : List ℕ = text_of c.front in
    let part : List ℕ = take (length front) w in
    let bytes = and_parts (list_all is_name_byte part) _ (sym (list_all-append is_name_byte part (drop (length front) w)) ∙ ap (list_all is_name_byte) (take-append-drop (length front) w) ∙ (name_parts w h).bytes) in
    let other : bytes_eq part front ≡ false = false_from_ne_true (bytes_eq part front) (λ same. both_ways (list_all is_name_byte front) out (ap (list_all is_name_byte) (sym ((bytes_eq-Decides part front).0 same)) ∙ bytes.0)) in
    ap (value_behind c.sort) (cond-false (bytes_eq part front) (Some (drop (length front) w)) None other)

ruleset fronts = (no_front, no_name)

pub all_clear : (k : Kind) → Clear (items_of k)
unfolding class_value
all_clear Kind.Read = search fronts
all_clear k = search fronts depth 40

first_has : (P : List ℕ → Type 0) → P [] → (is : List Item) (vs : List Value) (cut : Option ℕ) → Firsts P is → are_of is vs ≡ true → P (head_word (row_words is vs ++ cut_words cut))
first_has P none [] [] None b a = none
first_has P none [] [] (Some n) b a = b (decimal n)
first_has P none (Item.One d ∷ is) (v ∷ vs) cut b a = b (value_text d.sort v)
first_has P none (Item.Maybe d ∷ is) (Value.Nothing ∷ vs) cut b a = first_has P none is vs cut b.1 a
first_has P none (Item.Maybe d ∷ is) (v ∷ vs) cut b a = b.0 (value_text d.sort v)
first_has P none (Item.NoGroup ∷ is) (v ∷ vs) cut b a = first_has P none is vs cut b (search ands)
first_has P none (Item.Names ∷ is) (Value.Names [] ∷ vs) cut b a = first_has P none is vs cut b.1 a
first_has P none (Item.Names ∷ is) (Value.Names (n ∷ ns) ∷ vs) cut b a = b.0 n (search ands)
first_has P none (Item.Names ∷ is) (v ∷ vs) cut b a = absurd (both_ways false refl a)
first_has P none (i ∷ is) (v ∷ vs) cut b a = absurd b
first_has P none is vs cut b a = absurd (both_ways false refl a)

cut_fits : (n : ℕ) → nat_lt n (2 ^ 40) ≡ true → is_between 0 (2 ^ 40 - 1) n ≡ true
cut_fits n h = grind (arith, nat_tests)

cut_said : (n : ℕ) → nat_lt n (2 ^ 40) ≡ true → cut_of (codes "cut=" ++ decimal n) ≡ Some n
cut_said n h = ap number_behind (behind_front (codes "cut=") (decimal n)) ∙ ranged_said 0 (2 ^ 40 - 1) n (ltb-true n (2 ^ 40) h) (cut_fits n h)

part_ends : (i : Item) (is : List Item) (vs : List Value) (cut : Option ℕ) → Told i is → are_of is vs ≡ true → maybe_cut cut ≡ true → Ends i (head_word (row_words is vs ++ cut_words cut))
unfolding block_of
part_ends (Item.One c) is vs cut e a short = tt
part_ends Item.NoGroup is vs cut e a short = tt
part_ends (Item.Maybe c) is vs cut e a short = first_has (Ends (Item.Maybe c)) e.1 is vs cut e.2 a
part_ends Item.Group is vs cut e a short = first_has (Ends Item.Group) refl is vs cut e a
part_ends i [] vs None e a short = refl
part_ends Item.Names [] vs (Some n) e a short = no_name (decimal n)
part_ends Item.Pairs [] vs (Some n) e a short = cond-true _ _ _ (ap is_some (cut_said n short))
part_ends Item.Blocks [] vs (Some n) e a short =
    let word : List ℕ = codes "cut=" ++ decimal n in
    let few : length (decimal n) ≤ 31 = decimal_short n (grind (arith, nat_tests)) in
    cond-false _ _ _ (or_from _ _ (and_left _ _ (and_right (length word == 3) false refl)) (and_left _ _ (ne_eqb (length word) 1024 (λ e. omega (arith, few, e)))))
part_ends i (j ∷ js) vs cut e a short = absurd cc

-- ---- lists of words

first_is : (t : List ℕ) (ws : List (List ℕ)) → Spells t ws → first_word (from_word t) ≡ head_word ws
first_is t [] h = ap first_word h
first_is t (w ∷ ws) h = h.1

-- the things put behind what there is
abbrev puts : {X A : Type 0} → (A → X → A) → A → List X → A
puts put so [] = so
puts put so (x ∷ xs) = puts put (put so x) xs

all_pushed : {X : Type 0} (so xs : List X) → puts pushed so xs ≡ so ++ xs
all_pushed so [] = sym (append-nil so)
all_pushed so (x ∷ xs) = all_pushed (so ++ x ∷ []) xs ∙ append_assoc so (x ∷ []) xs

-- words that say good things, and one behind them that says none
module _ {X A : Type 0} (say : List ℕ → Option X) (put : A → X → A) (word : X → List ℕ) (good : X → Bool) (says : (x : X) → good x ≡ true → say (word x) ≡ Some x) (ws : List (List ℕ)) (none : say (head_word ws) ≡ None) where
  gathers : (limit : ℕ) (xs : List X) (all : A) (t : List ℕ) → list_all good xs ≡ true → length xs ≤ limit → Spells t (map word xs ++ ws) → (rest : List ℕ) × (gather say put limit all t ≡ record { list = puts put all xs; rest = rest }) × Spells rest ws
  unfolding gather
  gathers zero [] all t h few s = (t, refl, s)
  gathers (suc n) [] all t h few s = (t, ap (λ o. further o (record { list = all; rest = t }) (λ x. gather say put n (put all x) (past_word (from_word t)))) (ap say (first_is t ws s) ∙ none), s)
  gathers zero (x ∷ xs) all t h few s = absurd (omega (arith, few))
  gathers (suc n) (x ∷ xs) all t h few s =
      let more = gathers n xs (put all x) (past_word (from_word t)) (search ands) (omega (arith, few)) s.2 in
      (more.0, ap (λ o. further o (record { list = all; rest = t }) (λ y. gather say put n (put all y) (past_word (from_word t)))) (ap say s.1 ∙ says x (search ands)) ∙ more.1, more.2)

  some_gather : (limit : ℕ) (x : X) (xs : List X) (begin : X → A) (make : A → Value) (old : List Value) (t : List ℕ) → list_all good (x ∷ xs) ≡ true → length xs ≤ limit → Spells t (map word (x ∷ xs) ++ ws) →
      (rest : List ℕ) × (at_least_one (say (first_word (from_word t))) (from_word t) (λ y. gather say put limit (begin y) (past_word (from_word t))) old make ≡ Ok (so (old ++ make (puts put (begin x) xs) ∷ []) rest)) × Spells rest ws
  some_gather limit x xs begin make old t h few s =
      let g = gathers limit xs (begin x) (past_word (from_word t)) (search ands) few s.2 in
      (g.0, ap (λ o. at_least_one o (from_word t) (λ y. gather say put limit (begin y) (past_word (from_word t))) old make) (ap say s.1 ∙ says x (search ands)) ∙ ap (λ f. Ok (said old make f)) g.1, g.2)

-- ---- blocks

-- the blocks that so many bytes are cut into
record AreBlocks (n : ℕ) (bytes : List ℕ) : Type 0 where
  pub good : list_all is_one_block (cut_blocks n bytes) ≡ true
  pub whole : (all : List ℕ) → puts joined all (cut_blocks n bytes) ≡ all ++ bytes

cut_up : (n : ℕ) (bytes : List ℕ) → length bytes ≡ 512 * n → list_all is_byte bytes ≡ true → AreBlocks n bytes
cut_up zero [] e h = record { good = refl; whole = λ all. sym (append-nil all) }
cut_up zero (b ∷ bs) e h = absurd (omega (arith, e))
cut_up (suc n) bytes e h =
    let parts = and_parts (list_all is_byte (take 512 bytes)) (list_all is_byte (drop 512 bytes)) (sym (list_all-append is_byte (take 512 bytes) (drop 512 bytes)) ∙ ap (list_all is_byte) (take-append-drop 512 bytes) ∙ h) in
    let size : length (take 512 bytes) ≡ 512 = omega (arith, length-take 512 bytes, e) in
    let more = cut_up n (drop 512 bytes) (omega (arith, length-drop 512 bytes, e)) parts.1 in
    record {
      good = and_from _ _ (and_from _ _ (eq-eqb (length (take 512 bytes)) 512 size) parts.0) more.good;
      whole = λ all. more.whole (all ++ take 512 bytes) ∙ append_assoc all (take 512 bytes) (drop 512 bytes) ∙ ap (λ t. all ++ t) (take-append-drop 512 bytes);
    }

-- one block, and at most 63 more
whole_blocks : (bytes : List ℕ) → are_blocks bytes ≡ true → (more : ℕ) × (more ≤ 63) × (length bytes / 512 ≡ suc more) × AreBlocks (suc more) bytes
whole_blocks bytes h =
    let size : length bytes ≡ 512 * suc (length bytes / 512 - 1) = grind (arith, nat_tests) in
    (length bytes / 512 - 1, grind (arith, nat_tests), grind (arith, nat_tests), cut_up (suc (length bytes / 512 - 1)) bytes size (search ands))

-- ---- parts

one_is : (c : Class) (old : List Value) (t : List ℕ) (ws : List (List ℕ)) (o : Option Value) → Spells t ws → class_value c (head_word ws) ≡ o → one c old t ≡ taken o old (from_word t)
one_is c old t ws o s says = ap (λ f. taken (class_value c f) old (from_word t)) (first_is t ws s) ∙ ap (λ o. taken o old (from_word t)) says

-- the part reads words as this value, and leaves those behind them
abbrev Reads : Item → Value → List (List ℕ) → Type 0
Reads i v ws = Ends i (head_word ws) → (t : List ℕ) (old : List Value) → Spells t (words_of i v ++ ws) → (rest : List ℕ) × (item i old t ≡ Ok (so (old ++ v ∷ []) rest)) × Spells rest ws

-- the words of a part have no blank, and are read as its value
part_said : (i : Item) (is : List Item) (v : Value) (ws : List (List ℕ)) → Told i is → of_item i v ≡ true → (list_all is_dark_word (words_of i v) ≡ true) × Reads i v ws
part_said (Item.One c) is v ws f h = (and_from _ _ (class_shown c v f h).dark refl, λ none t old s. (past_word (from_word t), one_is c old t (class_word c v ∷ ws) (Some v) s (class_shown c v f h).says, s.2))
part_said (Item.Maybe c) is Value.Nothing ws f h = (refl, λ none t old s. (t, ap (λ g. or_else g (with_value old Value.Nothing t)) (one_is c old t ws None s none), s))
part_said (Item.Maybe c) is v ws f h = (and_from _ _ (class_shown c v f.0 h).dark refl, λ none t old s. (past_word (from_word t), ap (λ g. or_else g (with_value old Value.Nothing t)) (one_is c old t (class_word c v ∷ ws) (Some v) s (class_shown c v f.0 h).says), s.2))
part_said Item.Group is Value.Nothing ws f h = (refl, λ none t old s. (t, cond-false _ _ _ (ap (λ w. bytes_eq w (codes "-g")) (first_is t ws s) ∙ none), s))
part_said Item.Group is (Value.Named name) ws f h = (and_from _ _ (name_word name h) refl, λ none t old s. (past_word (from_word (past_word (from_word t))), cond-true _ _ _ (ap (λ w. bytes_eq w (codes "-g")) s.1) ∙ one_is any_name old (past_word (from_word t)) (name ∷ ws) (Some (Value.Named name)) s.2 (class_shown any_name (Value.Named name) refl h).says, s.2.2))
part_said Item.NoGroup is Value.Nothing ws f h = (refl, λ none t old s. (t, refl, s))
part_said Item.Names is (Value.Names names) ws f h = (
  all_by is_name is_dark_word name_word names h,
  λ none t old s.
      let few : length names ≤ length t = omega (arith, few_words t (names ++ ws) s, length-append names ws) in
      let g = gathers name_of pushed (λ w. w) is_name name_said ws none (length t) names [] t h few (subst (λ xs. Spells t (xs ++ ws)) (sym (map-id names)) s) in
      (g.0, ap (λ f. Ok (said old Value.Names f)) g.1 ∙ ap (λ ns. Ok (with_value old (Value.Names ns) g.0)) (all_pushed [] names), g.2),
)
part_said Item.Pairs is (Value.Pairs (p ∷ ps)) ws f h =
    let good = right_of (nat_lt 0 (length (p ∷ ps))) (list_all is_pair (p ∷ ps)) h in (
      list_all-map is_dark_word pair_word (p ∷ ps) ∙ all_by is_pair (λ q. is_dark_word (pair_word q)) pair_shown (p ∷ ps) good,
      λ none t old s.
          let few : length ps ≤ length (past_word (from_word t)) = omega (arith, few_words (past_word (from_word t)) (map pair_word ps ++ ws) s.2, length-append (map pair_word ps) ws, length-map ps pair_word) in
          let g = some_gather pair_of pushed pair_word is_pair pair_said ws none (length (past_word (from_word t))) p ps (λ x. x ∷ []) Value.Pairs old t good few s in
          (g.0, g.1 ∙ ap (λ xs. Ok (with_value old (Value.Pairs xs) g.0)) (all_pushed (p ∷ []) ps), g.2),
    )
part_said Item.Blocks is (Value.Blocks bytes) ws f h =
    let w = whole_blocks bytes h in (
      ap (λ n. list_all is_dark_word (map block_word (cut_blocks n bytes))) w.2 ∙ list_all-map is_dark_word block_word (cut_blocks (suc w.0) bytes) ∙ all_by is_one_block (λ b. is_dark_word (block_word b)) block_is_word (cut_blocks (suc w.0) bytes) w.3.good,
      λ none t old s.
          let g = some_gather block_of joined block_word is_one_block block_said ws none 63 (take 512 bytes) (cut_blocks w.0 (drop 512 bytes)) (λ b. b) Value.Blocks old t w.3.good (omega (arith, w.1, cut_length w.0 (drop 512 bytes))) (subst (λ (n : ℕ). Spells t (map block_word (cut_blocks n bytes) ++ ws)) w.2 s) in
          (g.0, g.1 ∙ ap (λ xs. Ok (with_value old (Value.Blocks xs) g.0)) (w.3.whole []), g.2),
    )
part_said i is v ws f h = absurd (both_ways false refl h)

-- what a row of values says: its words have no blank, and are read as the values up to the words of a cut
record RowSaid (is : List Item) (vs : List Value) (cut : Option ℕ) : Type 0 where
  pub dark : list_all is_dark_word (row_words is vs ++ cut_words cut) ≡ true
  pub reads : (t : List ℕ) (old : List Value) → Spells t (row_words is vs ++ cut_words cut) → (rest : List ℕ) × (items is (Ok (so old t)) ≡ Ok (so (old ++ vs) rest)) × Spells rest (cut_words cut)

row_said : (is : List Item) (vs : List Value) (cut : Option ℕ) → Clear is → are_of is vs ≡ true → maybe_cut cut ≡ true → RowSaid is vs cut
row_said [] [] None c a short = record { dark = refl; reads = λ t old s. (t, ap (λ xs. Ok (so xs t)) (sym (append-nil old)), s) }
row_said [] [] (Some n) c a short = record { dark = and_from _ _ (class_shown (record { front = Key.Cut; sort = Sort.Number 0 (2 ^ 40 - 1) }) (Value.Number n) refl (cut_fits n short)).dark refl; reads = λ t old s. (t, ap (λ xs. Ok (so xs t)) (sym (append-nil old)), s) }
row_said (i ∷ is) (v ∷ vs) cut c a short =
    let ws : List (List ℕ) = row_words is vs ++ cut_words cut in
    let part = part_said i is v ws c.0 (search ands) in
    let row = row_said is vs cut c.1 (search ands) short in
    record { dark = ap (list_all is_dark_word) (append_assoc (words_of i v) (row_words is vs) (cut_words cut)) ∙ list_all-append is_dark_word (words_of i v) ws ∙ and_from _ _ part.0 row.dark; reads = λ t old s. (let one = part.1 (part_ends i is vs cut c.0 (search ands) short) t old (subst (Spells t) (append_assoc (words_of i v) (row_words is vs) (cut_words cut)) s) in let more = row.reads one.0 (old ++ v ∷ []) one.2 in (more.0, ap (items is) one.1 ∙ more.1 ∙ ap (λ xs. Ok (so xs more.0)) (append_assoc old (v ∷ []) vs), more.2)) }
row_said is vs cut c a short = absurd (both_ways false refl a)

-- ---- whole lines

-- such a word may end a line
abbrev pub may_end : Bool → Option ℕ → Bool
may_end b cut = maybe_cut cut && (b || is_none cut)

end_read : (b : Bool) (cut : Option ℕ) (vs : List Value) (t : List ℕ) → may_end b cut ≡ true → Spells t (cut_words cut) → line_end b (so vs t) ≡ Ok (record { values = vs; cut = cut })
end_read false None vs t h s = ap (nothing_left (uncut vs)) s
end_read false (Some n) vs t h s = absurd (both_ways false refl (right_of (maybe_cut (Some n)) false h))
end_read true None vs t h s = ap (λ r. cut_end (cut_of (first_word r)) vs r) s
end_read true (Some n) vs t h s = ap (λ w. cut_end (cut_of w) vs (from_word t)) s.1 ∙ ap (λ o. cut_end o vs (from_word t)) (cut_said n (search ands)) ∙ ap (nothing_left (let r : Read = record { values = vs; cut = Some n } in r)) s.2

pub row_read : (b : Bool) (cut : Option ℕ) (is : List Item) (vs : List Value) (t : List ℕ) → may_end b cut ≡ true → Clear is → are_of is vs ≡ true → Spells t (row_words is vs ++ cut_words cut) → row b is t ≡ Ok (record { values = vs; cut = cut })
unfolding row
row_read b cut is vs t h c a s =
    let m = (row_said is vs cut c a (search ands)).reads t [] s in
    ap (λ g. and_then g (line_end b)) m.1 ∙ end_read b cut vs m.0 h m.2

pub line_dark : (is : List Item) (vs : List Value) (cut : Option ℕ) → Clear is → are_of is vs ≡ true → maybe_cut cut ≡ true → list_all is_dark_word (row_words is vs ++ cut_words cut) ≡ true
line_dark is vs cut c a short = (row_said is vs cut c a short).dark

-- ---- parts that have no line in common

-- no line of these parts begins with the word
abbrev refuses : Bool → List Item → List ℕ → Bool
refuses b (Item.One c ∷ is) w = is_none (class_value c w)
refuses b (Item.Maybe c ∷ is) w = is_none (class_value c w) && refuses b is w
refuses b (Item.Names ∷ is) w = is_none (name_of w) && refuses b is w
refuses true [] w = is_none (cut_of w)
refuses false [] w = true
refuses b is w = false

-- no line is of these parts and of those
abbrev pub are_apart : Bool → List Item → List Item → Bool
are_apart b (Item.One c ∷ is) (Item.One d ∷ js) = (is_fixed d.sort && refuses b (Item.One c ∷ is) (text_of d.front)) || are_apart b is js
are_apart b (Item.Group ∷ is) (Item.Group ∷ js) = are_apart b is js
are_apart b (Item.NoGroup ∷ is) (Item.NoGroup ∷ js) = are_apart b is js
are_apart b is (Item.One d ∷ js) = is_fixed d.sort && refuses b is (text_of d.front)
are_apart b is js = false

-- a fixed word is its front
fixed_is : (k : Key) (s : Sort) (w : List ℕ) → is_fixed s ≡ true → accepts (record { front = k; sort = s }) w ≡ true → w ≡ text_of k
unfolding class_value
fixed_is k Sort.Word w f a = (bytes_eq-Decides w (text_of k)).0 (true_from_ne_false _ (λ other. both_ways _ (ap is_some (other_word (text_of k) w other)) a))
fixed_is k s w f a = absurd cc

one_fits : (q : Bool) (w : List ℕ) (ws k : Words) (f : Words → Walked) → on (cond q (Ok ws) (Err (w ∷ ws))) f ≡ Ok k → (q ≡ true) × (f ws ≡ Ok k)
one_fits true w ws k f e = (refl, e)
one_fits false w ws k f e = absurd cc

refused : (b : Bool) (is : List Item) (w : List ℕ) (ws k : Words) → refuses b is w ≡ true → walk b is (w ∷ ws) ≡ Ok k → ⊥
refused true [] w ws k r e = let bad = sym (cond-false _ _ _ (not-true (is_some (cut_of w)) r)) ∙ e in cc
refused false [] w ws k r e = cc
refused b (Item.One c ∷ is) w ws k r e = both_ways (accepts c w) (not-true (accepts c w) r) (one_fits (accepts c w) w ws k (walk b is) e).0
refused b (Item.Maybe c ∷ is) w ws k r e = refused b is w ws k (search ands) (sym (ap (walk b is) (refused_again 0 (accepts c) w ws (not-true (accepts c w) (search ands)))) ∙ e)
refused b (Item.Names ∷ is) w ws k r e = refused b is w ws k (search ands) (sym (ap (walk b is) (refused_again (length ws) is_named w ws (not-true (is_named w) (search ands)))) ∙ e)
refused b (i ∷ is) w ws k r e = both_ways false refl r

-- a fixed word of the second row
word_apart : (b : Bool) (is js : List Item) (d : Class) (w : List ℕ) (ws k l : Words) → (is_fixed d.sort && refuses b is (text_of d.front)) ≡ true → walk b is (w ∷ ws) ≡ Ok k → walk b (Item.One d ∷ js) (w ∷ ws) ≡ Ok l → ⊥
word_apart b is js d w ws k l a e f =
    let word : w ≡ text_of d.front = fixed_is d.front d.sort w (search ands) (one_fits (accepts d w) w ws l (walk b js) f).0 in
    refused b is w ws k (ap (refuses b is) word ∙ (right_of (is_fixed d.sort) _ a)) e

pub rows_apart : (b : Bool) (is js : List Item) (ws k l : Words) → are_apart b is js ≡ true → walk b is ws ≡ Ok k → walk b js ws ≡ Ok l → ⊥
rows_apart b (Item.One c ∷ is) (Item.One d ∷ js) [] k l a e f = cc
rows_apart b (Item.One c ∷ is) (Item.One d ∷ js) (w ∷ ws) k l a e f = elim (or_cases (is_fixed d.sort && refuses b (Item.One c ∷ is) (text_of d.front)) (are_apart b is js) a) [
  | inl here ↦ word_apart b (Item.One c ∷ is) js d w ws k l here e f
  | inr later ↦ rows_apart b is js ws k l later (one_fits (accepts c w) w ws k (walk b is) e).1 (one_fits (accepts d w) w ws l (walk b js) f).1
]
rows_apart b (Item.Group ∷ is) (Item.Group ∷ js) ws k l a e f = by_group (group_words ws) e f (λ vs. rows_apart b is js vs k l a)
  where
    by_group : (r : Walked) → on r (walk b is) ≡ Ok k → on r (walk b js) ≡ Ok l → ((vs : Words) → walk b is vs ≡ Ok k → walk b js vs ≡ Ok l → ⊥) → ⊥
    by_group (Ok vs) e f more = more vs e f
    by_group (Err bad) e f more = cc
rows_apart b (Item.NoGroup ∷ is) (Item.NoGroup ∷ js) ws k l a e f = rows_apart b is js ws k l a e f
rows_apart b is (Item.One d ∷ js) [] k l a e f = cc
rows_apart b is (Item.One d ∷ js) (w ∷ ws) k l a e f = word_apart b is js d w ws k l a e f
rows_apart b is js ws k l a e f = both_ways false refl a
