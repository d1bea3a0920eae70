-- The words of a line under the parts of a form: what they say, or how much of the line is left from the first word on that does not fit.
use Rattle.std.specs.Prelude.{ℕ, zero, suc, Bool, true, false, if◌then◌else◌, Option, Some, None, Result, Ok, Err, List, [], ◌∷◌, ◌++◌, length, codes}
use Rattle.std.specs.Str.{bytes_eq}
use Rattle.vx_script_words.specs.Class.{class_value}
use Rattle.vx_script_words.specs.Hex.{block_of}
use Rattle.vx_script_words.specs.Parts.{cut_of, name_of, pair_of}
use Rattle.vx_script_words.specs.Words.{from_word, first_word, past_word}
use Rattle.vx_script_words.specs.declared.class.Class.{Class}
use Rattle.vx_script_words.specs.declared.class.Sort.TheVariants as sort
use Rattle.vx_script_words.specs.declared.class.Item.{Item}
use Rattle.vx_script_words.specs.declared.class.Item.TheVariants.{One, Maybe, Group, NoGroup, Names, Pairs, Blocks}
use Rattle.vx_script_words.specs.declared.key.Key.TheVariants as key
use Rattle.vx_script_words.specs.declared.value.Value.{Value}
use Rattle.vx_script_words.specs.declared.value.Value.TheVariants as value

-- the values so far and the rest of the line
pub record So : Type 0 where
  pub values : List Value
  pub rest : List ℕ

abbrev pub Going : Type 0
Going = Result So ℕ

abbrev pub and_then : {A B : Type 0} → Result A ℕ → (A → Result B ℕ) → Result B ℕ
and_then (Ok x) f = f x
and_then (Err left) f = Err left

abbrev pub with_value : List Value → Value → List ℕ → So
with_value values v rest = record { values = values ++ v ∷ []; rest = rest }

-- the value, if there is one, behind the others
abbrev pub with_said : Option Value → List Value → List Value
with_said None values = values
with_said (Some v) values = values ++ v ∷ []

abbrev pub taken : Option Value → List Value → List ℕ → Going
taken None values text = Err (length text)
taken (Some v) values text = Ok (with_value values v (past_word text))

-- one word of the class
abbrev pub one : Class → List Value → List ℕ → Going
one class values text = taken (class_value class (first_word (from_word text))) values (from_word text)

abbrev pub or_else : Going → So → Going
or_else (Ok s) other = Ok s
or_else (Err left) other = Ok other

-- one word of the class, or none
abbrev pub maybe : Class → List Value → List ℕ → Going
maybe class values text = or_else (one class values text) (with_value values value.Nothing text)

-- things that words say, and the rest of the line
pub record Gathered (A : Type 0) : Type 0 where
  pub list : A
  pub rest : List ℕ

abbrev pub further : {X A : Type 0} → Option X → Gathered A → (X → Gathered A) → Gathered A
further None so more = so
further (Some x) so more = more x

-- what words say, put behind what there is, as long as they say something, but no more of them than the limit
unfoldable pub gather : {X A : Type 0} → (List ℕ → Option X) → (A → X → A) → ℕ → A → List ℕ → Gathered A
gather say put zero so text = record { list = so; rest = text }
gather say put (suc n) so text = further (say (first_word (from_word text))) (record { list = so; rest = text }) (λ x. gather say put n (put so x) (past_word (from_word text)))

abbrev pub pushed : {X : Type 0} → List X → X → List X
pushed xs x = xs ++ x ∷ []

abbrev pub joined : List ℕ → List ℕ → List ℕ
joined bytes more = bytes ++ more

abbrev pub said : {A : Type 0} → List Value → (A → Value) → Gathered A → So
said values make found = with_value values (make found.list) found.rest

-- a list whose first word has to say something
abbrev pub at_least_one : {X A : Type 0} → Option X → List ℕ → (X → Gathered A) → List Value → (A → Value) → Going
at_least_one None text more values make = Err (length text)
at_least_one (Some x) text more values make = Ok (said values make (more x))

abbrev pub any_name : Class
any_name = record { front = key.Nothing; sort = sort.Named }

-- `-g` and a name, or nothing
abbrev pub group : List Value → List ℕ → Going
group values text = if bytes_eq (first_word (from_word text)) (codes "-g") then one any_name values (past_word (from_word text)) else Ok (with_value values value.Nothing text)

abbrev pub item : Item → List Value → List ℕ → Going
item (One class) values text = one class values text
item (Maybe class) values text = maybe class values text
item Group values text = group values text
item NoGroup values text = Ok (with_value values value.Nothing text)
item Names values text = Ok (said values value.Names (gather name_of pushed (length text) [] text))
item Pairs values text = at_least_one (pair_of (first_word (from_word text))) (from_word text) (λ pair. gather pair_of pushed (length (past_word (from_word text))) (pair ∷ []) (past_word (from_word text))) values value.Pairs
item Blocks values text = at_least_one (block_of (first_word (from_word text))) (from_word text) (λ block. gather block_of joined 63 block (past_word (from_word text))) values value.Blocks

-- the parts of a form, one after the other
abbrev pub items : List Item → Going → Going
items [] so = so
items (i ∷ is) so = items is (and_then so (λ s. item i s.values s.rest))

abbrev pub fits : List Item → List ℕ → Going
fits is text = items is (Ok (record { values = []; rest = text }))

abbrev pub nothing_left : {A : Type 0} → A → List ℕ → Result A ℕ
nothing_left x [] = Ok x
nothing_left x (b ∷ bs) = Err (length (b ∷ bs))

-- nothing but blanks
abbrev pub ends : {A : Type 0} → A → List ℕ → Result A ℕ
ends x text = nothing_left x (from_word text)

pub record Read : Type 0 where
  pub values : List Value
  pub cut : Option ℕ

abbrev pub uncut : List Value → Read
uncut values = record { values = values; cut = None }

abbrev pub cut_end : Option ℕ → List Value → List ℕ → Result Read ℕ
cut_end None values text = ends (uncut values) text
cut_end (Some n) values text = ends (record { values = values; cut = Some n }) (past_word text)

-- the end of a line, before which a word `cut=N` may stand
abbrev pub may_cut : So → Result Read ℕ
may_cut s = cut_end (cut_of (first_word (from_word s.rest))) s.values (from_word s.rest)

abbrev pub line_end : Bool → So → Result Read ℕ
line_end false s = ends (uncut s.values) s.rest
line_end true s = may_cut s

-- a whole line
unfoldable pub row : Bool → List Item → List ℕ → Result Read ℕ
row may_be_cut is text = and_then (fits is text) (line_end may_be_cut)
