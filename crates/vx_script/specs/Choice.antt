-- Which form a line has: the first of the kinds whose parts it fits, and else the least that any of them leaves.
use Rattle.std.specs.Prelude.{ℕ, ◌&&◌, Bool, true, not, min, Option, Result, Ok, Err, List, [], ◌∷◌, length}
use Rattle.std.specs.List.{list_all}
use Rattle.std.specs.Str.{bytes_eq}
use Rattle.vx_script_forms.specs.Table.{items_of, head_key}
use Rattle.vx_script_forms.specs.declared.head.Head.{Head}
use Rattle.vx_script_forms.specs.declared.kind.Kind.{Kind}
use Rattle.vx_script_words.specs.Key.{text_of}
use Rattle.vx_script_words.specs.Row.{row, Read}
use Rattle.vx_script_words.specs.Words.{from_word}
use Rattle.vx_script_words.specs.declared.value.Value.{Value}

pub record Choice : Type 0 where
  pub kind : Kind
  pub values : List Value
  pub cut : Option ℕ

abbrev pub or_others : Result Read ℕ → Kind → (ℕ → Result Choice ℕ) → ℕ → Result Choice ℕ
or_others (Ok read) kind others left = Ok (record { kind = kind; values = read.values; cut = read.cut })
or_others (Err less) kind others left = others (min left less)

abbrev pub choice : Bool → List Kind → List ℕ → ℕ → Result Choice ℕ
choice may_be_cut [] text left = Err left
choice may_be_cut (k ∷ ks) text left = or_others (row may_be_cut (items_of k) text) k (choice may_be_cut ks text) left

abbrev pub choose : Bool → List Kind → List ℕ → Result Choice ℕ
choose may_be_cut kinds text = choice may_be_cut kinds text (length (from_word text))

-- no two of the heads have one word
abbrev pub are_apart : List Head → Bool
are_apart [] = true
are_apart (h ∷ hs) = list_all (λ other. not (bytes_eq (text_of (head_key h)) (text_of (head_key other)))) hs && are_apart hs
