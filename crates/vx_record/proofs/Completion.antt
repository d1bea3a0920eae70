-- A record whose attributes begin well can be completed.
use Rattle.std.specs.Prelude.{codes}
use Rattle.std.proofs.Common.{◌≡◌, ℕ, true, Option, None, Some, List, [], ◌∷◌, ◌++◌, refl}
use Rattle.std.specs.List.{list_all}
use Rattle.std.proofs.lemmas.Bool.{and_parts, and_from, false≢true}
use Rattle.vx_base.proofs.NamedLemmas.{bytes_eq_self}
use Rattle.vx_names.specs.Form.{is_name}
use Rattle.vx_names.specs.Attribute.{is_attr, is_value}
use Rattle.vx_names.specs.declared.attr.Attr.{Attr}
use Rattle.vx_record.specs.Table.{attrs_fit, attr_fits, value_fits}
use Rattle.vx_record.specs.Words.{label_word}
use Rattle.vx_record.specs.declared.column.Column.{Column}
use Rattle.vx_record.specs.declared.column.Form.{Form}
use Rattle.vx_record.specs.declared.column.Form.TheVariants as forms
use Rattle.vx_record.specs.declared.label.Label.{Label}
use Rattle.vx_record.specs.declared.label.Label.TheVariants as labels

-- some value of the form
abbrev pub some_value : Form → Option (List ℕ)
some_value forms.Number = Some (codes "0")
some_value forms.NumberOrNone = None
some_value forms.Name = Some (codes "a")
some_value forms.NameOrNone = None
some_value forms.Version = Some (codes "1")
some_value forms.Maps = Some (codes "32")
some_value forms.PlexKind = Some (codes "data")
some_value forms.Layout = Some (codes "concat")
some_value forms.Policy = Some (codes "round")
some_value forms.PlexState = Some (codes "EMPTY")
some_value forms.VolState = Some (codes "EMPTY")

some_fits : (form : Form) → value_fits form (some_value form) ≡ true
some_fits forms.Number = refl
some_fits forms.NumberOrNone = refl
some_fits forms.Name = refl
some_fits forms.NameOrNone = refl
some_fits forms.Version = refl
some_fits forms.Maps = refl
some_fits forms.PlexKind = refl
some_fits forms.Layout = refl
some_fits forms.Policy = refl
some_fits forms.PlexState = refl
some_fits forms.VolState = refl

some_is_value : (form : Form) → is_value (some_value form) ≡ true
some_is_value forms.Number = refl
some_is_value forms.NumberOrNone = refl
some_is_value forms.Name = refl
some_is_value forms.NameOrNone = refl
some_is_value forms.Version = refl
some_is_value forms.Maps = refl
some_is_value forms.PlexKind = refl
some_is_value forms.Layout = refl
some_is_value forms.Policy = refl
some_is_value forms.PlexState = refl
some_is_value forms.VolState = refl

-- the name of an attribute is a name
pub label_name : (label : Label) → is_name (label_word label) ≡ true
label_name labels.Version = refl
label_name labels.Device = refl
label_name labels.Slot = refl
label_name labels.Publen = refl
label_name labels.Disk = refl
label_name labels.Off = refl
label_name labels.Len = refl
label_name labels.Plex = refl
label_name labels.Col = refl
label_name labels.At = refl
label_name labels.Vol = refl
label_name labels.Kind = refl
label_name labels.Layout = refl
label_name labels.Ncol = refl
label_name labels.Unit = refl
label_name labels.State = refl
label_name labels.Map = refl
label_name labels.Region = refl
label_name labels.Rdpol = refl
label_name labels.Prefer = refl
label_name labels.Dco = refl
label_name labels.Maps = refl
label_name labels.Of = refl
label_name labels.Ofmap = refl

some_attr : Column → Attr
some_attr c = record { name = label_word c.label; value = some_value c.form }

some_attr_fits : (c : Column) → attr_fits c (some_attr c) ≡ true
unfolding some_attr
some_attr_fits c = and_from _ _ (bytes_eq_self (label_word c.label)) (some_fits c.form)

some_attr_is : (c : Column) → is_attr (some_attr c) ≡ true
unfolding some_attr
some_attr_is c = and_from _ _ (label_name c.label) (some_is_value c.form)

pub completed : List Column → List Attr
completed [] = []
completed (c ∷ cs) = some_attr c ∷ completed cs

pub completed_fit : (cs : List Column) → attrs_fit cs (completed cs) ≡ true
unfolding completed
completed_fit [] = refl
completed_fit (c ∷ cs) = and_from _ _ (some_attr_fits c) (completed_fit cs)

pub completed_are : (cs : List Column) → list_all is_attr (completed cs) ≡ true
unfolding completed
completed_are [] = refl
completed_are (c ∷ cs) = and_from _ _ (some_attr_is c) (completed_are cs)

pub fit-append : (cs ds : List Column) (xs ys : List Attr) → attrs_fit cs xs ≡ true → attrs_fit ds ys ≡ true → attrs_fit (cs ++ ds) (xs ++ ys) ≡ true
fit-append [] ds [] ys h k = k
fit-append [] ds (x ∷ xs) ys h k = absurd (false≢true h)
fit-append (c ∷ cs) ds [] ys h k = absurd (false≢true h)
fit-append (c ∷ cs) ds (x ∷ xs) ys h k =
    let parts = and_parts (attr_fits c x) (attrs_fit cs xs) h in
    and_from _ _ parts.0 (fit-append cs ds xs ys parts.1 k)
