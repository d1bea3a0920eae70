-- Texts, their lines, and the records that these are.
use Rattle.std.specs.Prelude.{◌==◌, not}
use Rattle.std.proofs.Common.{◌≡◌, ℕ, suc, ◌+◌, ◌≤◌, true, false, Option, None, Some, List, [], ◌∷◌, ◌++◌, length, map, refl, sym, ◌∙◌, ap, subst, arith, append_assoc, length-append, inl, inr}
use Rattle.std.specs.List.{flat_map, list_all, prefix_len}
use Rattle.std.proofs.lemmas.Bool.{and_parts, and_from, cond-true, cond-false, false≢true, not_from_false, eqb-true}
use Rattle.std.proofs.lemmas.List.{append-nil}
use Rattle.std.proofs.lemmas.List.Folds.{list_all-append}
use Rattle.vx_base.proofs.NamedLemmas.{true_or_false}
use Rattle.vx_names.specs.Form.{is_name, is_name_byte}
use Rattle.vx_names.specs.Attribute.{is_attr, is_value, value_word, attr_word}
use Rattle.vx_names.specs.declared.attr.Attr.{Attr}
use Rattle.vx_names.proofs.Attributes.{attr_same, split_same}
use Rattle.vx_names.proofs.Names.{name_parts}
use Rattle.vx_record.specs.Content.{Content}
use Rattle.vx_record.specs.Grammar.{AreRecords, IsRecord, head_line, attr_line, record_text, records_text, record_lines, records_lines, with_first, lines}
use Rattle.vx_record.specs.Reading.{kind_of}
use Rattle.vx_record.specs.Table.{columns, attrs_fit, attr_fits}
use Rattle.vx_record.specs.Words.{kind_word}
use Rattle.vx_record.specs.declared.column.Column.{Column}
use Rattle.vx_record.specs.declared.kind.Kind.{Kind}
use Rattle.vx_record.specs.declared.kind.Kind.TheVariants as kinds
use Rattle.vx_record.proofs.ReadLines.{is_other, kind_again, head_front}

abbrev pub joined : List (List ℕ) → List ℕ
joined [] = []
joined (line ∷ more) = line ++ joined more

joined_first : (b : ℕ) (ls : List (List ℕ)) → joined (with_first b ls) ≡ b ∷ joined ls
joined_first b [] = refl
joined_first b (l ∷ ls) = refl

pub joined_lines : (text : List ℕ) → joined (lines text) ≡ text
joined_lines [] = refl
joined_lines (b ∷ bs) = elim (true_or_false (b == 10)) [
  | inl t ↦ ap joined (cond-true (b == 10) ((b ∷ []) ∷ lines bs) (with_first b (lines bs)) t) ∙ ap (λ (x : List ℕ). b ∷ x) (joined_lines bs)
  | inr f ↦ ap joined (cond-false (b == 10) ((b ∷ []) ∷ lines bs) (with_first b (lines bs)) f) ∙ joined_first b (lines bs) ∙ ap (λ (x : List ℕ). b ∷ x) (joined_lines bs)
]

pub joined-append : (xs ys : List (List ℕ)) → joined (xs ++ ys) ≡ joined xs ++ joined ys
joined-append [] ys = refl
joined-append (l ∷ xs) ys = ap (λ (t : List ℕ). l ++ t) (joined-append xs ys) ∙ sym (append_assoc l (joined xs) (joined ys))

joined_attrs : (attrs : List Attr) → joined (map attr_line attrs) ≡ flat_map attr_line attrs
joined_attrs [] = refl
joined_attrs (a ∷ attrs) = ap (λ (t : List ℕ). attr_line a ++ t) (joined_attrs attrs)

pub joined_records : (rs : List Content) → joined (records_lines rs) ≡ records_text rs
joined_records [] = refl
joined_records (r ∷ rs) =
    joined-append (record_lines r) (records_lines rs)
    ∙ ap (λ (t : List ℕ). (head_line r.kind r.name ++ t) ++ joined (records_lines rs)) (joined_attrs r.attrs)
    ∙ ap (λ (t : List ℕ). record_text r ++ t) (joined_records rs)

-- a line that ends with its only newline
pub record IsWhole (line : List ℕ) : Type 0 where
  pub body : List ℕ
  pub plain : list_all (is_other 10) body ≡ true
  pub ends : line ≡ body ++ 10 ∷ []

pub AreWhole : List (List ℕ) → Type 0
AreWhole [] = Unit {0}
AreWhole (l ∷ ls) = IsWhole l × AreWhole ls

plain_first : (b : ℕ) → is_other 10 b ≡ true → b == 10 ≡ false
plain_first b h = elim (true_or_false (b == 10)) [ inl t ↦ absurd (false≢true (sym (ap not t) ∙ h)) | inr f ↦ f ]

body_line : (body rest : List ℕ) → list_all (is_other 10) body ≡ true → lines ((body ++ 10 ∷ []) ++ rest) ≡ (body ++ 10 ∷ []) ∷ lines rest
body_line [] rest h = refl
body_line (b ∷ body) rest h =
    let parts = and_parts (is_other 10 b) (list_all (is_other 10) body) h in
    cond-false (b == 10) ((b ∷ []) ∷ lines ((body ++ 10 ∷ []) ++ rest)) (with_first b (lines ((body ++ 10 ∷ []) ++ rest))) (plain_first b parts.0) ∙ ap (with_first b) (body_line body rest parts.1)

pub whole_line : (line rest : List ℕ) → IsWhole line → lines (line ++ rest) ≡ line ∷ lines rest
whole_line line rest h = subst (λ (l : List ℕ). lines (l ++ rest) ≡ l ∷ lines rest) (sym h.ends) (body_line h.body rest h.plain)

pub lines_joined : (ls : List (List ℕ)) → AreWhole ls → lines (joined ls) ≡ ls
unfolding AreWhole
lines_joined [] h = refl
lines_joined (l ∷ ls) h = whole_line l (joined ls) h.0 ∙ ap (λ (x : List (List ℕ)). l ∷ x) (lines_joined ls h.1)

whole-append : (xs ys : List (List ℕ)) → AreWhole xs → AreWhole ys → AreWhole (xs ++ ys)
unfolding AreWhole
whole-append [] ys h k = k
whole-append (l ∷ xs) ys h k = (h.0, whole-append xs ys h.1 k)

byte_plain : (b : ℕ) → is_name_byte b ≡ true → is_other 10 b ≡ true
byte_plain b h = elim (true_or_false (b == 10)) [
  | inl t ↦ absurd (false≢true (subst (λ (c : ℕ). is_name_byte c ≡ true) (eqb-true b 10 t) h))
  | inr f ↦ not_from_false (b == 10) f
]

bytes_plain : (w : List ℕ) → list_all is_name_byte w ≡ true → list_all (is_other 10) w ≡ true
bytes_plain [] h = refl
bytes_plain (b ∷ bs) h =
    let parts = and_parts (is_name_byte b) (list_all is_name_byte bs) h in
    and_from _ _ (byte_plain b parts.0) (bytes_plain bs parts.1)

name_plain : (w : List ℕ) → is_name w ≡ true → list_all (is_other 10) w ≡ true
name_plain w h = bytes_plain w (name_parts w h).bytes

kind_plain : (kind : Kind) → list_all (is_other 10) (kind_word kind) ≡ true
kind_plain kinds.Dg = refl
kind_plain kinds.Dm = refl
kind_plain kinds.Sd = refl
kind_plain kinds.Plex = refl
kind_plain kinds.Vol = refl
kind_plain kinds.Dco = refl
kind_plain kinds.Snap = refl

plain-append : (xs ys : List ℕ) → list_all (is_other 10) xs ≡ true → list_all (is_other 10) ys ≡ true → list_all (is_other 10) (xs ++ ys) ≡ true
plain-append xs ys h k = list_all-append (is_other 10) xs ys ∙ and_from _ _ h k

head_whole : (kind : Kind) (name : List ℕ) → is_name name ≡ true → IsWhole (head_line kind name)
head_whole kind name h = record {
  body = kind_word kind ++ 32 ∷ name;
  plain = plain-append (kind_word kind) (32 ∷ name) (kind_plain kind) (name_plain name h);
  ends = refl;
}

value_plain : (v : Option (List ℕ)) → is_value v ≡ true → list_all (is_other 10) (value_word v) ≡ true
value_plain None h = refl
value_plain (Some n) h = name_plain n h

attr_whole : (a : Attr) → is_attr a ≡ true → IsWhole (attr_line a)
attr_whole a h =
    let parts = and_parts (is_name a.name) (is_value a.value) h in
    record {
      body = 9 ∷ attr_word a;
      plain = plain-append a.name (61 ∷ value_word a.value) (name_plain a.name parts.0) (value_plain a.value parts.1);
      ends = refl;
    }

attrs_whole : (attrs : List Attr) → list_all is_attr attrs ≡ true → AreWhole (map attr_line attrs)
unfolding AreWhole
attrs_whole [] h = tt
attrs_whole (a ∷ attrs) h =
    let parts = and_parts (is_attr a) (list_all is_attr attrs) h in
    (attr_whole a parts.0, attrs_whole attrs parts.1)

records_whole : (rs : List Content) → AreRecords rs → AreWhole (records_lines rs)
unfolding AreWhole
records_whole [] h = tt
records_whole (r ∷ rs) h = whole-append (record_lines r) (records_lines rs) (head_whole r.kind r.name h.0.name, attrs_whole r.attrs h.0.attrs) (records_whole rs h.1)

-- the lines of a text of records are the lines of the records
pub lines_of_records : (rs : List Content) → AreRecords rs → lines (records_text rs) ≡ records_lines rs
lines_of_records rs h = ap lines (sym (joined_records rs)) ∙ lines_joined (records_lines rs) (records_whole rs h)

split_lines : {X : Type 0} (n m x y : List X) → length n ≡ length m → n ++ x ≡ m ++ y → (n ≡ m) × (x ≡ y)
split_lines [] [] x y len e = (refl, e)
split_lines [] (c ∷ m) x y len e = absurd (omega arith)
split_lines (b ∷ n) [] x y len e = absurd (omega arith)
split_lines (b ∷ n) (c ∷ m) x y len e =
    let rest = split_lines n m x y (omega arith) (cc) in
    let first : b ≡ c = cc in
    (let ns = rest.0 in cc, rest.1)

ends_same : (m n : List ℕ) → m ++ 10 ∷ [] ≡ n ++ 10 ∷ [] → m ≡ n
ends_same m n e = (split_same m n (10 ∷ []) (10 ∷ []) (let len = ap length e in omega (arith, len, length-append m (10 ∷ []), length-append n (10 ∷ []))) e).0

some_same : (k l : Kind) → (let x : Option Kind = Some k in x) ≡ Some l → k ≡ l
some_same k l e = cc

head_split : (k : Kind) (m : List ℕ) → head_line k m ≡ kind_word k ++ 32 ∷ (m ++ 10 ∷ [])
head_split k m = append_assoc (kind_word k) (32 ∷ m) (10 ∷ [])

-- one line is the head of one record
pub head_same : (k l : Kind) (m n : List ℕ) → head_line k m ≡ head_line l n → (k ≡ l) × (m ≡ n)
head_same k l m n e =
    let both : kind_word k ++ 32 ∷ (m ++ 10 ∷ []) ≡ kind_word l ++ 32 ∷ (n ++ 10 ∷ []) = sym (head_split k m) ∙ e ∙ head_split l n in
    let len : length (kind_word k) ≡ length (kind_word l) = sym (head_front k (m ++ 10 ∷ [])) ∙ ap (prefix_len (is_other 32)) both ∙ head_front l (n ++ 10 ∷ []) in
    let parts = split_same (kind_word k) (kind_word l) (32 ∷ (m ++ 10 ∷ [])) (32 ∷ (n ++ 10 ∷ [])) len both in
    let tails = parts.1 in
    let names : m ++ 10 ∷ [] ≡ n ++ 10 ∷ [] = cc in
    (some_same k l (sym (kind_again k) ∙ ap kind_of parts.0 ∙ kind_again l), ends_same m n names)

attr_line_same : (a b : Attr) → is_attr a ≡ true → is_attr b ≡ true → attr_line a ≡ attr_line b → a ≡ b
attr_line_same a b h k e =
    let parts = and_parts (is_name a.name) (is_value a.value) h in
    let inner : attr_word a ++ 10 ∷ [] ≡ attr_word b ++ 10 ∷ [] = cc in
    attr_same (attr_word a) a.name a.value b parts.0 parts.1 k refl (ends_same (attr_word a) (attr_word b) inner)

attrs_same : (xs bs : List Attr) → list_all is_attr xs ≡ true → list_all is_attr bs ≡ true → map attr_line xs ≡ map attr_line bs → xs ≡ bs
attrs_same [] [] h k e = refl
attrs_same [] (b ∷ bs) h k e = cc
attrs_same (a ∷ xs) [] h k e = cc
attrs_same (a ∷ xs) (b ∷ bs) h k e =
    let hs = and_parts (is_attr a) (list_all is_attr xs) h in
    let ks = and_parts (is_attr b) (list_all is_attr bs) k in
    let heads : attr_line a ≡ attr_line b = cc in
    let tails : map attr_line xs ≡ map attr_line bs = cc in
    let first : a ≡ b = attr_line_same a b hs.0 ks.0 heads in
    let rest : xs ≡ bs = attrs_same xs bs hs.1 ks.1 tails in
    cc

pub fit_length : (cs : List Column) (xs : List Attr) → attrs_fit cs xs ≡ true → length xs ≡ length cs
fit_length [] [] h = refl
fit_length [] (a ∷ xs) h = absurd (false≢true h)
fit_length (c ∷ cs) [] h = absurd (false≢true h)
fit_length (c ∷ cs) (a ∷ xs) h = ap suc (fit_length cs xs (and_parts (attr_fits c a) (attrs_fit cs xs) h).1)

content : Kind → List ℕ → List Attr → Content
content k n xs = record { kind = k; name = n; attrs = xs }

content_same : (r s : Content) → r.kind ≡ s.kind → r.name ≡ s.name → r.attrs ≡ s.attrs → r ≡ s
unfolding content
content_same r s k n a = ap (λ (x : Kind). content x r.name r.attrs) k ∙ ap (λ (x : List ℕ). content s.kind x r.attrs) n ∙ ap (content s.kind s.name) a

pub length_map : (xs : List Attr) → length (map attr_line xs) ≡ length xs
length_map [] = refl
length_map (a ∷ xs) = ap suc (length_map xs)

pub record_length : (r : Content) → IsRecord r → length (map attr_line r.attrs) ≡ length (columns r.kind)
record_length r h = length_map r.attrs ∙ fit_length (columns r.kind) r.attrs h.form

-- one list of lines is that of one list of records
pub records_same : (rs ss : List Content) → AreRecords rs → AreRecords ss → records_lines rs ≡ records_lines ss → rs ≡ ss
records_same [] [] h k e = refl
records_same [] (s ∷ ss) h k e = cc
records_same (r ∷ rs) [] h k e = cc
records_same (r ∷ rs) (s ∷ ss) h k e =
    let heads : head_line r.kind r.name ≡ head_line s.kind s.name = cc in
    let tails : map attr_line r.attrs ++ records_lines rs ≡ map attr_line s.attrs ++ records_lines ss = cc in
    let first = head_same r.kind s.kind r.name s.name heads in
    let len : length (map attr_line r.attrs) ≡ length (map attr_line s.attrs) = record_length r h.0 ∙ ap (λ (x : Kind). length (columns x)) first.0 ∙ sym (record_length s k.0) in
    let parts = split_lines (map attr_line r.attrs) (map attr_line s.attrs) (records_lines rs) (records_lines ss) len tails in
    let same : r ≡ s = content_same r s first.0 first.1 (attrs_same r.attrs s.attrs h.0.attrs k.0.attrs parts.0) in
    let rest : rs ≡ ss = records_same rs ss h.1 k.1 parts.1 in
    cc

-- a text has no more lines than bytes
pub lines_few : (text : List ℕ) → length (lines text) ≤ length text
lines_few [] = omega arith
lines_few (b ∷ bs) = elim (true_or_false (b == 10)) [
  | inl t ↦ omega (arith, ap length (cond-true (b == 10) ((b ∷ []) ∷ lines bs) (with_first b (lines bs)) t), lines_few bs)
  | inr f ↦ omega (arith, ap length (cond-false (b == 10) ((b ∷ []) ∷ lines bs) (with_first b (lines bs)) f), lines_few bs, first_few b (lines bs))
]
  where
    first_few : (b : ℕ) (ls : List (List ℕ)) → length (with_first b ls) ≤ length ls + 1
    first_few b [] = omega arith
    first_few b (l ∷ ls) = omega arith

pub records_append : (rs : List Content) (r : Content) → records_lines (rs ++ r ∷ []) ≡ records_lines rs ++ record_lines r
records_append [] r = append-nil (record_lines r)
records_append (s ∷ rs) r = ap (λ (t : List (List ℕ)). record_lines s ++ t) (records_append rs r) ∙ sym (append_assoc (record_lines s) (records_lines rs) (record_lines r))
