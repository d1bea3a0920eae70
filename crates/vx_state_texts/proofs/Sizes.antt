-- How long the text of a configuration is: as long as its records together.
use Rattle.std.proofs.Common.{◌≡◌, ◌∙◌, ℕ, ◌≤◌, true, List, ◌++◌, map, length, ap, arith, length-append}
use Rattle.std.specs.List.{AllZip, filter, flat_map, sum_by}
use Rattle.std.proofs.lemmas.List.Concat.{length-flat_map}
use Rattle.std.proofs.lemmas.List.Sorted.{sum_by-IsPermutation}
use Rattle.vx_config_parts.specs.declared.object.Object.{Object}
use Rattle.vx_names.specs.declared.attr.Attr.{Attr}
use Rattle.vx_record.specs.Content.{Content}
use Rattle.vx_record.specs.Grammar.{attr_line, head_line, record_text}
use Rattle.vx_record.specs.declared.kind.Kind.{Kind}
use Rattle.vx_objects.specs.declared.config.Config.{Config}
use Rattle.vx_objects.specs.Config.{objects_of}
use Rattle.vx_objects.specs.Printed.{record_of}
use Rattle.vx_state_texts.specs.Texts.{IsTextOf}
use Rattle.vx_state_texts.proofs.Sums.{all_pass, sum_below, sum_mapped}

-- the bytes of a record
abbrev pub record_size : Content → ℕ
record_size r = length (record_text r)

-- those of an object's record
abbrev pub size_of : Object → ℕ
size_of o = record_size (record_of o)

-- the bytes of an attribute's line
abbrev pub line_size : Attr → ℕ
line_size a = length (attr_line a)

pub text_size : (config : Config) (text : List ℕ) → IsTextOf config text → length text ≡ sum_by size_of (objects_of config)
text_size config text is =
    ap length is.text
    ∙ (length-flat_map record_text is.shown
    ∙ (sum_by-IsPermutation record_size (map record_of (filter (λ o. true) (objects_of config))) is.shown is.same
    ∙ (ap (λ os. sum_by record_size (map record_of os)) (all_pass (objects_of config)) ∙ sum_mapped record_size record_of (objects_of config))))

-- a record of which no line is longer is not longer
pub lines_below : (kind : Kind) (name : List ℕ) (us ws : List Attr) → AllZip (λ a b. line_size a ≤ line_size b) us ws →
    length (head_line kind name ++ flat_map attr_line us) ≤ length (head_line kind name ++ flat_map attr_line ws)
lines_below kind name us ws all =
    let a = length-append (head_line kind name) (flat_map attr_line us) in
    let b = length-append (head_line kind name) (flat_map attr_line ws) in
    let c = length-flat_map attr_line us in
    let d = length-flat_map attr_line ws in
    omega (arith, a, b, c, d, sum_below line_size us ws all)
