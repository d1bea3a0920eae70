-- An attribute is written as its name, `=`, and its value, where `-` stands for none.
use Rattle.std.specs.Prelude.{◌≡◌, ℕ, ◌&&◌, IsTrue, Bool, true, Option, None, Some, List, [], ◌∷◌, ◌++◌}
use Rattle.vx_names.specs.Form.{is_name}
use Rattle.vx_names.specs.Place.{IsPlace}
use Rattle.vx_names.specs.declared.attr.Attr.{Attr}
use Rattle.vx_names.specs.declared.attr.AttrFault.{AttrFault}
use Rattle.vx_names.specs.declared.attr.AttrFault.TheVariants.{BadAttr}

abbrev pub value_word : Option (List ℕ) → List ℕ
value_word None = 45 ∷ []
value_word (Some value) = value

abbrev pub is_value : Option (List ℕ) → Bool
is_value None = true
is_value (Some value) = is_name value

-- the names in it are names
abbrev pub is_attr : Attr → Bool
is_attr a = is_name a.name && is_value a.value

-- name=value
abbrev pub attr_word : Attr → List ℕ
attr_word a = a.name ++ 61 ∷ value_word a.value

abbrev pub IsValueWord : List ℕ → Type 0
IsValueWord word = (value : Option (List ℕ)) × IsTrue (is_value value) × (word ≡ value_word value)

abbrev pub IsAttrWord : List ℕ → Type 0
IsAttrWord word = (a : Attr) × IsTrue (is_attr a) × (word ≡ attr_word a)

abbrev pub IsBadAttr : List ℕ → AttrFault → Type 0
IsBadAttr word (BadAttr place) = IsPlace IsAttrWord word place
