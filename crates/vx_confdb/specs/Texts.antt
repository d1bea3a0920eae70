-- The text of a configuration.
use Rattle.std.specs.Prelude.{ℕ, List, take}
use Rattle.vx_confdb.specs.declared.text.Text.{Text}

abbrev pub text_of : Text → List ℕ
text_of t = take t.size t.bytes.items
