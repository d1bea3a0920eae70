-- The ranges of a call that is kept.
use Rattle.std.proofs.Common.{◌≡◌, ℕ, ◌^◌, Bool, true, Option, List, arith}
use Rattle.std.specs.Prelude.{◌&&◌, nat_lt, nat_le}
use Rattle.std.proofs.lemmas.Bool.{and_from, and_parts, leb-true, lt-ltb}
use Rattle.vx_names.specs.Form.{is_name}
use Rattle.vx_script.specs.Kept.{is_said}
use Rattle.vx_script_forms.specs.ValuesOf.{maybe_value}
use Rattle.vx_script_forms.specs.declared.call.Call.TheVariants as call
use Rattle.vx_script_forms.specs.declared.form.Form.TheVariants as form
use Rattle.vx_script_words.specs.Fits.{is_between, of_item}
use Rattle.vx_script_words.specs.declared.class.Item.TheVariants as item

-- the last number of the language is one less than 2 ^ 40
in_range : (start count : ℕ) (more : Bool) → (is_between 0 1099511627775 start && (is_between 1 2048 count && more)) ≡ true → (nat_lt start (2 ^ 40) && nat_lt 0 count && nat_le count 2048) ≡ true
in_range start count more h =
    let both = and_parts (is_between 0 1099511627775 start) (is_between 1 2048 count && more) h in
    let begins = and_parts (nat_le 0 start) (nat_le start 1099511627775) both.0 in
    let counted = and_parts (is_between 1 2048 count) more both.1 in
    let ends = and_parts (nat_le 1 count) (nat_le count 2048) counted.0 in
    let last = leb-true start 1099511627775 begins.1 in
    and_from _ _ (and_from _ _ (lt-ltb start (2 ^ 40) (omega (arith, last))) ends.0) ends.1

pub read_range : (group : Option (List ℕ)) (vol : List ℕ) (start count : ℕ) → is_said group (form.Calling (call.Read vol start count)) ≡ true → (nat_lt start (2 ^ 40) && nat_lt 0 count && nat_le count 2048) ≡ true
read_range group vol start count said =
    let alone = and_parts (of_item item.NoGroup (maybe_value group)) _ said in
    let named = and_parts (is_name vol) _ alone.1 in
    in_range start count _ named.1

pub fill_range : (group : Option (List ℕ)) (vol : List ℕ) (start count byte : ℕ) → is_said group (form.Calling (call.Fill vol start count byte)) ≡ true → (nat_lt start (2 ^ 40) && nat_lt 0 count && nat_le count 2048) ≡ true
fill_range group vol start count byte said =
    let alone = and_parts (of_item item.NoGroup (maybe_value group)) _ said in
    let named = and_parts (is_name vol) _ alone.1 in
    in_range start count _ named.1
