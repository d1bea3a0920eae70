-- What a line of `vxassist make` that keeps its ranges asks for.
use Rattle.std.proofs.Common.{◌≡◌, ℕ, ◌≤◌, ◌&&◌, true, nat_le, Option, Some, None, List, [], ◌∷◌, refl, subst, arith, leb-true}
use Rattle.std.proofs.lemmas.Bool.{and_parts}
use Rattle.vx_base.specs.Named.{Word}
use Rattle.vx_script_words.specs.Fits.{are_of, maybe_of, of_item}
use Rattle.vx_script_words.specs.declared.class.Item.{Item}
use Rattle.vx_script_words.specs.declared.class.Sort.TheVariants as sort
use Rattle.vx_script_words.specs.declared.value.Value.{Value}
use Rattle.vx_script_forms.specs.Table.{items_of}
use Rattle.vx_script_forms.specs.ValuesOf.{count_value, make_kind, values_of}
use Rattle.vx_script_forms.specs.declared.form.Form.{Form}
use Rattle.vx_script_forms.specs.declared.form.Form.TheVariants.{AssistMake}
use Rattle.vx_script_forms.specs.declared.form.MakeAttrs.{MakeAttrs}
use Rattle.vx_script_forms.specs.declared.form.WordLayout.{WordLayout}
use Rattle.vx_script_forms.specs.declared.form.WordLayout.TheVariants as layout
use Rattle.vx_script.specs.Kept.{is_body, is_said, maybe_cut}
use Rattle.vx_plans.specs.Plans.{new_volume, or_else}
use Rattle.vx_new_volume_laws.specs.Laws.{EachReadVolumeIsAsked, IsAsked}

-- each value is of its part
abbrev Each : List Item → List Value → Type 0
Each [] vs = Unit {0}
Each (i ∷ is) [] = Unit {0}
Each (i ∷ is) (v ∷ vs) = (of_item i v ≡ true) × Each is vs

each : (is : List Item) (vs : List Value) → are_of is vs ≡ true → Each is vs
each [] vs h = tt
each (i ∷ is) [] h = tt
each (i ∷ is) (v ∷ vs) h = let parts = and_parts (of_item i v) (are_of is vs) h in (parts.0, each is vs parts.1)

some_plex : (nmirror : Option ℕ) → maybe_of (sort.Number 1 8) (count_value nmirror) ≡ true → 1 ≤ or_else nmirror 1
some_plex None h = omega arith
some_plex (Some n) h = leb-true 1 n (and_parts (nat_le 1 n) (nat_le n 8) h).0

several : (ncol : Option ℕ) → maybe_of (sort.Number 2 16) (count_value ncol) ≡ true → or_else ncol 2 ≡ 1 → ⊥
several None h one = cc
several (Some n) h one = let low : 2 ≤ n = leb-true 2 n (and_parts (nat_le 2 n) (nat_le n 16) h).0 in omega (arith, low, one)

module _ (g : Option Word) (vol : Word) (size : ℕ) (nmirror region logs : Option ℕ) (disks : List Word) where
  abbrev with_layout : Option WordLayout → Option ℕ → Option ℕ → MakeAttrs
  with_layout words ncol unit = record { layout = words; ncol = ncol; unit = unit; nmirror = nmirror; region = region; ndcomirror = logs }

  abbrev values : Option WordLayout → Option ℕ → Option ℕ → List Value
  values words ncol unit = values_of g (AssistMake vol size (with_layout words ncol unit) disks)

  asked : (words : Option WordLayout) (ncol unit : Option ℕ) → are_of (items_of (make_kind words ncol unit)) (values words ncol unit) ≡ true → IsAsked (new_volume vol size (with_layout words ncol unit) disks)
  asked None None None h =
      let (_, (_, (_, (_, (_, (_, (few, _))))))) = each (items_of (make_kind None None None)) (values None None None) h in
      record { some = some_plex nmirror few; unit = λ one. refl }
  asked (Some layout.Concat) None None h =
      let (_, (_, (_, (_, (_, (_, (few, _))))))) = each (items_of (make_kind (Some layout.Concat) None None)) (values (Some layout.Concat) None None) h in
      record { some = some_plex nmirror few; unit = λ one. refl }
  asked (Some layout.Stripe) ncol unit h =
      let (_, (_, (_, (_, (_, (_, (many, (_, (few, _))))))))) = each (items_of (make_kind (Some layout.Stripe) ncol unit)) (values (Some layout.Stripe) ncol unit) h in
      record { some = some_plex nmirror few; unit = λ one. absurd (several ncol many one) }
  asked None (Some n) unit h =
      let (_, (_, (_, (_, (_, (word, _)))))) = each (items_of (make_kind None (Some n) unit)) (values None (Some n) unit) h in cc
  asked None None (Some n) h =
      let (_, (_, (_, (_, (_, (word, _)))))) = each (items_of (make_kind None None (Some n))) (values None None (Some n)) h in cc
  asked (Some layout.Concat) (Some n) unit h =
      let (_, (_, (_, (_, (_, (word, _)))))) = each (items_of (make_kind (Some layout.Concat) (Some n) unit)) (values (Some layout.Concat) (Some n) unit) h in cc
  asked (Some layout.Concat) None (Some n) h =
      let (_, (_, (_, (_, (_, (word, _)))))) = each (items_of (make_kind (Some layout.Concat) None (Some n))) (values (Some layout.Concat) None (Some n)) h in cc

pub each_read_volume_is_asked : EachReadVolumeIsAsked
each_read_volume_is_asked c vol size attrs disks kept is =
    let said = (and_parts (is_said c.group c.form) (is_body c.form) (and_parts (is_said c.group c.form && is_body c.form) (maybe_cut c.cut) kept).0).0 in
    asked c.group vol size attrs.nmirror attrs.region attrs.ndcomirror disks attrs.layout attrs.ncol attrs.unit (subst (λ (f : Form). is_said c.group f ≡ true) is said)
