-- What a line says under the parts of a form are values of these parts.
use Rattle.std.proofs.Common.{◌≡◌, ◌∙◌, sym, ap, subst, refl, ℕ, zero, suc, ◌+◌, ◌*◌, ◌%◌, ◌^◌, ◌≤◌, ◌<◌, inl, inr, Bool, true, false, Option, Some, None, Result, Ok, Err, List, [], ◌∷◌, ◌++◌, length, arith, append_assoc, append-nil, codes, lt-ltb, le-leb, eq-eqb}
use Rattle.std.specs.List.{list_all}
use Rattle.std.specs.Str.{bytes_eq}
use Rattle.std.proofs.lemmas.Bool.{and_from}
use Rattle.std.proofs.lemmas.List.{length-append}
use Rattle.vx_names.specs.Form.{is_name}
use Rattle.vx_script_words.specs.Class.{class_value}
use Rattle.vx_script_words.specs.Fits.{is_byte, are_blocks, is_pair, is_of, maybe_of, of_item, are_of}
use Rattle.vx_script_words.specs.Hex.{block_of}
use Rattle.vx_script_words.specs.Parts.{behind, cut_of, name_of, pair_of}
use Rattle.vx_script_words.specs.Row.{So, Going, and_then, with_value, taken, one, or_else, maybe, further, gather, pushed, joined, at_least_one, any_name, item, items, fits, Read, nothing_left, cut_end, uncut, line_end, row}
use Rattle.vx_script_words.specs.Words.{from_word, first_word, past_word}
use Rattle.vx_script_words.specs.declared.class.Class.{Class}
use Rattle.vx_script_words.specs.declared.class.Item.{Item}
use Rattle.vx_script_words.specs.declared.class.Item.TheVariants.{One, Maybe, Group, NoGroup, Names, Pairs, Blocks}
use Rattle.vx_script_words.specs.declared.class.Sort.{Sort}
use Rattle.vx_script_words.specs.declared.class.Sort.TheVariants as sort
use Rattle.vx_script_words.specs.declared.value.DiskAt.{DiskAt}
use Rattle.vx_script_words.specs.declared.value.Value.{Value}
use Rattle.vx_script_words.specs.declared.value.Value.TheVariants as value
use Rattle.vx_script_words.proofs.Lines.{items_err}
use Rattle.vx_script_words.proofs.Sorts.{all_joined, all_pushed, block_ok, class_ok, chosen, cut_ok, name_ok, pair_ok}

-- ---- what is read

-- one more value, of which this holds
abbrev Gains : (Value → Bool) → List Value → So → Type 0
Gains P values s = (v : Value) × (s.values ≡ values ++ v ∷ []) × (P v ≡ true)

pub same_ok : {A : Type 0} (x y : A) → ◌≡◌ {A = Result A ℕ} (Ok x) (Ok y) → x ≡ y
same_ok x y e = cc

gained : (P : Value → Bool) (values : List Value) (v : Value) (rest : List ℕ) (s : So) → ◌≡◌ {A = Going} (Ok (with_value values v rest)) (Ok s) → P v ≡ true → Gains P values s
gained P values v rest s e h = (v, sym (ap (λ (x : So). x.values) (same_ok _ _ e)), h)

one_gains : (class : Class) (values : List Value) (text : List ℕ) (s : So) → one class values text ≡ Ok s → Gains (is_of class.sort) values s
one_gains class values text s e = by_value (class_value class (first_word (from_word text))) (class_ok class (first_word (from_word text))) e
  where
    by_value : (o : Option Value) → ((v : Value) → o ≡ Some v → is_of class.sort v ≡ true) → taken o values (from_word text) ≡ Ok s → Gains (is_of class.sort) values s
    by_value None ok e = absurd cc
    by_value (Some v) ok e = gained (is_of class.sort) values v _ s e (ok v refl)

pub also_maybe : (s : Sort) (v : Value) → is_of s v ≡ true → maybe_of s v ≡ true
also_maybe s value.Nothing h = refl
also_maybe s v h = h

maybe_gains : (class : Class) (values : List Value) (text : List ℕ) (s : So) → maybe class values text ≡ Ok s → Gains (maybe_of class.sort) values s
maybe_gains class values text s e = by_one (one class values text) (one_gains class values text) e
  where
    by_one : (r : Going) → ((t : So) → r ≡ Ok t → Gains (is_of class.sort) values t) → or_else r (with_value values value.Nothing text) ≡ Ok s → Gains (maybe_of class.sort) values s
    by_one (Ok t) ok e =
        let g = ok t refl in
        (g.0, sym (ap (λ (x : So). x.values) (same_ok _ _ e)) ∙ g.1, also_maybe class.sort g.0 g.2)
    by_one (Err left) ok e = gained (maybe_of class.sort) values value.Nothing _ s e refl

-- what holds of the things that words say, and of those put together so far
module _ {X A : Type 0} (say : List ℕ → Option X) (put : A → X → A) (Good : ℕ → A → Type 0) (step : (n : ℕ) (so : A) (w : List ℕ) (x : X) → say w ≡ Some x → Good n so → Good (suc n) (put so x)) where
  pub gather_good : (limit n : ℕ) (so : A) (text : List ℕ) → Good n so → (m : ℕ) × (n ≤ m) × (m ≤ n + limit) × Good m (gather say put limit so text).list
  unfolding gather
  gather_good zero n so text h = (n, omega arith, omega arith, h)
  gather_good (suc limit) n so text h = by_value (say (first_word (from_word text))) refl (λ x k. gather_good limit (suc n) (put so x) (past_word (from_word text)) k)
    where
      by_value : (o : Option X) → say (first_word (from_word text)) ≡ o → ((x : X) → Good (suc n) (put so x) → (m : ℕ) × (suc n ≤ m) × (m ≤ suc n + limit) × Good m (gather say put limit (put so x) (past_word (from_word text))).list) → (m : ℕ) × (n ≤ m) × (m ≤ n + suc limit) × Good m (further o (record { list = so; rest = text }) (λ x. gather say put limit (put so x) (past_word (from_word text)))).list
      by_value None e later = (n, omega arith, omega arith, h)
      by_value (Some x) e later =
          let more = later x (step n so (first_word (from_word text)) x e h) in
          (more.0, omega (arith, more.1), omega (arith, more.2), more.3)

abbrev AreNames : ℕ → List (List ℕ) → Type 0
AreNames n names = list_all is_name names ≡ true

abbrev ArePairs : ℕ → List DiskAt → Type 0
ArePairs n pairs = (list_all is_pair pairs ≡ true) × (length pairs ≡ n)

abbrev AreSo : ℕ → List ℕ → Type 0
AreSo n bytes = (list_all is_byte bytes ≡ true) × (length bytes ≡ 512 * n)

pub whole_blocks : (bytes : List ℕ) (n : ℕ) → length bytes ≡ 512 * n → 1 ≤ n → n ≤ 64 → list_all is_byte bytes ≡ true → are_blocks bytes ≡ true
whole_blocks bytes n e l h bs =
    let whole : length bytes % 512 ≡ 0 = omega arith in
    let some : 512 ≤ length bytes = omega arith in
    let few : length bytes ≤ 32768 = omega arith in
    and_from _ _ (and_from _ _ (eq-eqb (length bytes % 512) 0 whole) (and_from _ _ (le-leb 512 (length bytes) some) (le-leb (length bytes) 32768 few))) bs

names_gain : (values : List Value) (text : List ℕ) (s : So) → item Names values text ≡ Ok s → Gains (of_item Names) values s
names_gain values text s e =
    let g = gather_good name_of pushed AreNames (λ n so w x says h. all_pushed is_name so x h (name_ok w x says).0) (length text) 0 [] text refl in
    gained (of_item Names) values (value.Names (gather name_of pushed (length text) [] text).list) _ s e g.3

pairs_gain : (values : List Value) (text : List ℕ) (s : So) → item Pairs values text ≡ Ok s → Gains (of_item Pairs) values s
pairs_gain values text s e = by_value (pair_of (first_word (from_word text))) refl e
  where
    by_value : (o : Option DiskAt) → pair_of (first_word (from_word text)) ≡ o → at_least_one o (from_word text) (λ pair. gather pair_of pushed (length (past_word (from_word text))) (pair ∷ []) (past_word (from_word text))) values value.Pairs ≡ Ok s → Gains (of_item Pairs) values s
    by_value None says e = absurd cc
    by_value (Some x) says e =
        let g = gather_good pair_of pushed ArePairs (λ n so w y k h. (all_pushed is_pair so y h.0 (pair_ok w y k), omega (arith, h.1, length-append so (y ∷ [])))) (length (past_word (from_word text))) 1 (x ∷ []) (past_word (from_word text)) (and_from _ _ (pair_ok (first_word (from_word text)) x says) refl, omega arith) in
        let all = (gather pair_of pushed (length (past_word (from_word text))) (x ∷ []) (past_word (from_word text))).list in
        let some : 0 < length all = omega (arith, g.1, g.3.1) in
        gained (of_item Pairs) values (value.Pairs all) _ s e (and_from _ _ (lt-ltb 0 (length all) some) g.3.0)

blocks_gain : (values : List Value) (text : List ℕ) (s : So) → item Blocks values text ≡ Ok s → Gains (of_item Blocks) values s
blocks_gain values text s e = by_value (block_of (first_word (from_word text))) refl e
  where
    by_value : (o : Option (List ℕ)) → block_of (first_word (from_word text)) ≡ o → at_least_one o (from_word text) (λ block. gather block_of joined 63 block (past_word (from_word text))) values value.Blocks ≡ Ok s → Gains (of_item Blocks) values s
    by_value None says e = absurd cc
    by_value (Some x) says e =
        let first = block_ok (first_word (from_word text)) x says in
        let g = gather_good block_of joined AreSo (λ n so w y k h. (let b = block_ok w y k in (all_joined is_byte so y h.0 b.1, omega (arith, h.1, b.0, length-append so y)))) 63 1 x (past_word (from_word text)) (first.1, omega (arith, first.0)) in
        gained (of_item Blocks) values (value.Blocks (gather block_of joined 63 x (past_word (from_word text))).list) _ s e (whole_blocks _ g.0 g.3.1 g.1 (omega (arith, g.2)) g.3.0)

item_gains : (i : Item) (values : List Value) (text : List ℕ) (s : So) → item i values text ≡ Ok s → Gains (of_item i) values s
item_gains (One class) values text s e = one_gains class values text s e
item_gains (Maybe class) values text s e = maybe_gains class values text s e
item_gains Group values text s e = elim (chosen (bytes_eq (first_word (from_word text)) (codes "-g")) _ _ _ e) [
  | inl c ↦
      let g = one_gains any_name values (past_word (from_word text)) s c.1 in
      (g.0, g.1, also_maybe sort.Named g.0 g.2)
  | inr c ↦ gained (of_item Group) values value.Nothing _ s c.1 refl
]
item_gains NoGroup values text s e = gained (of_item NoGroup) values value.Nothing _ s e refl
item_gains Names values text s e = names_gain values text s e
item_gains Pairs values text s e = pairs_gain values text s e
item_gains Blocks values text s e = blocks_gain values text s e

-- the values of the parts behind those so far
abbrev GainAll : List Item → List Value → So → Type 0
GainAll is values s = (vs : List Value) × (s.values ≡ values ++ vs) × (are_of is vs ≡ true)

items_gain : (is : List Item) (s t : So) → items is (Ok s) ≡ Ok t → GainAll is s.values t
items_gain [] s t e = ([], sym (ap (λ (x : So). x.values) (same_ok _ _ e)) ∙ sym (append-nil s.values), refl)
items_gain (i ∷ is) s t e = by_item (item i s.values s.rest) (item_gains i s.values s.rest) (items_gain is) e
  where
    by_item : (r : Going) → ((u : So) → r ≡ Ok u → Gains (of_item i) s.values u) → ((u v : So) → items is (Ok u) ≡ Ok v → GainAll is u.values v) → items is r ≡ Ok t → GainAll (i ∷ is) s.values t
    by_item (Ok u) ok more e =
        let g = ok u refl in
        let m = more u t e in
        (g.0 ∷ m.0, m.1 ∙ ap (λ (x : List Value). x ++ m.0) g.1 ∙ append_assoc s.values (g.0 ∷ []) m.0, and_from _ _ g.2 m.2)
    by_item (Err left) ok more e = let f = sym (items_err is left) ∙ e in absurd cc

pub fits_are : (is : List Item) (text : List ℕ) (s : So) → fits is text ≡ Ok s → are_of is s.values ≡ true
fits_are is text s e =
    let g = items_gain is (record { values = []; rest = text }) s e in
    ap (are_of is) g.1 ∙ g.2

-- ---- whole lines

abbrev pub IsCut : Option ℕ → Type 0
IsCut None = Unit {0}
IsCut (Some n) = n < 2 ^ 40

pub ends_same : {A : Type 0} (x y : A) (text : List ℕ) → nothing_left x text ≡ Ok y → x ≡ y
ends_same x y [] e = same_ok x y e
ends_same x y (b ∷ bs) e = absurd cc

-- the values are those of the parts, and the cut is a number of the language
abbrev pub IsRead : List Item → Read → Type 0
IsRead is read = (are_of is read.values ≡ true) × IsCut read.cut

end_keeps : (may_be_cut : Bool) (is : List Item) (s : So) (read : Read) → are_of is s.values ≡ true → line_end may_be_cut s ≡ Ok read → IsRead is read
end_keeps false is s read h e = subst (IsRead is) (ends_same (uncut s.values) read (from_word s.rest) e) (h, tt)
end_keeps true is s read h e = by_cut (cut_of (first_word (from_word s.rest))) (cut_ok (behind (codes "cut=") (first_word (from_word s.rest)))) e
  where
    by_cut : (o : Option ℕ) → ((n : ℕ) → o ≡ Some n → n < 2 ^ 40) → cut_end o s.values (from_word s.rest) ≡ Ok read → IsRead is read
    by_cut None ok e = subst (IsRead is) (ends_same (uncut s.values) read _ e) (h, tt)
    by_cut (Some n) ok e = subst (IsRead is) (ends_same (record { values = s.values; cut = Some n }) read _ e) (h, ok n refl)

pub row_is : (may_be_cut : Bool) (is : List Item) (text : List ℕ) (read : Read) → row may_be_cut is text ≡ Ok read → IsRead is read
unfolding row
row_is may_be_cut is text read e = by_fit (fits is text) (fits_are is text) e
  where
    by_fit : (r : Going) → ((s : So) → r ≡ Ok s → are_of is s.values ≡ true) → and_then r (line_end may_be_cut) ≡ Ok read → IsRead is read
    by_fit (Ok s) ok e = end_keeps may_be_cut is s read (ok s refl) e
    by_fit (Err left) ok e = absurd cc
