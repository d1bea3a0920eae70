-- Attributes that fit their columns, one by one.
use Rattle.std.specs.Prelude.{◌||◌, ◌^◌, codes, decimal}
use Rattle.std.specs.List.{list_any}
use Rattle.std.proofs.Common.{◌≡◌, ℕ, zero, suc, ◌+◌, ◌<◌, Bool, true, false, Option, None, Some, List, [], ◌∷◌, ◌++◌, length, drop, get_or, refl, sym, ◌∙◌, ap, subst, arith, drop-cons}
use Rattle.std.specs.Str.{bytes_eq}
use Rattle.std.proofs.lemmas.Bool.{and_parts, and_from, false≢true}
use Rattle.vx_base.specs.Named.{Word}
use Rattle.vx_base.proofs.NamedLemmas.{bytes_eq_self, bytes_eq_same}
use Rattle.vx_names.specs.Number.{is_number}
use Rattle.vx_names.specs.declared.attr.Attr.{Attr}
use Rattle.vx_names.proofs.Numbers.{decimal_number, numeral_spelled}
use Rattle.vx_record.specs.Table.{column, columns, attr_fits, attrs_fit, value_fits, is_one_of, plex_states, volume_states}
use Rattle.vx_record.specs.Words.{label_word}
use Rattle.vx_record.specs.declared.column.Column.{Column}
use Rattle.vx_record.specs.declared.column.Form.TheVariants as forms
use Rattle.vx_record.specs.declared.kind.Kind.{Kind}
use Rattle.vx_record.specs.declared.kind.Kind.TheVariants as kinds
use Rattle.vx_record.specs.declared.label.Label.{Label}
use Rattle.vx_record.specs.declared.label.Label.TheVariants as labels
use Rattle.vx_config_parts.specs.declared.plex.PlexKind.{PlexKind}
use Rattle.vx_config_parts.specs.declared.plex.PlexKind.TheVariants as kind
use Rattle.vx_config_parts.specs.declared.plex.PlexLayout.{PlexLayout}
use Rattle.vx_config_parts.specs.declared.plex.PlexLayout.TheVariants as layout
use Rattle.vx_config_parts.specs.declared.state.PlexState.{PlexState}
use Rattle.vx_config_parts.specs.declared.state.PlexState.TheVariants as plex
use Rattle.vx_config_parts.specs.declared.state.VolState.{VolState}
use Rattle.vx_config_parts.specs.declared.state.VolState.TheVariants as vol
use Rattle.vx_config_parts.specs.declared.vol.PolicyKind.{PolicyKind}
use Rattle.vx_config_parts.specs.declared.vol.PolicyKind.TheVariants as policy
use Rattle.vx_config_parts.specs.Words.{plex_kind_word, layout_word, plex_state_word, vol_state_word, policy_word}
use Rattle.vx_objects.specs.Fields.{HasValue, column_at}
use Rattle.vx_config_parts.specs.declared.object.Object.TheVariants.{GroupRecord}
use Rattle.vx_objects.specs.Printed.{attr, numeral, record_of}

pub fit_length : (cs : List Column) (xs : List Attr) → attrs_fit cs xs ≡ true → length xs ≡ length cs
fit_length [] [] h = refl
fit_length [] (a ∷ xs) h = absurd (false≢true h)
fit_length (c ∷ cs) [] h = absurd (false≢true h)
fit_length (c ∷ cs) (a ∷ xs) h = let e = fit_length cs xs (and_parts (attr_fits c a) (attrs_fit cs xs) h).1 in omega arith

pub fit_at : (cs : List Column) (xs : List Attr) (k : ℕ) (c : Column) (a : Attr) → attrs_fit cs xs ≡ true → k < length cs → attr_fits (get_or cs k c) (get_or xs k a) ≡ true
fit_at [] xs k c a h lt = absurd (omega arith)
fit_at (d ∷ cs) [] k c a h lt = absurd (false≢true h)
fit_at (d ∷ cs) (b ∷ xs) zero c a h lt = (and_parts (attr_fits d b) (attrs_fit cs xs) h).0
fit_at (d ∷ cs) (b ∷ xs) (suc k) c a h lt = fit_at cs xs k c a (and_parts (attr_fits d b) (attrs_fit cs xs) h).1 (omega arith)

pub fit_end : (cs : List Column) (xs : List Attr) → attrs_fit cs xs ≡ true → drop (length cs) xs ≡ []
fit_end [] [] h = refl
fit_end [] (a ∷ xs) h = absurd (false≢true h)
fit_end (c ∷ cs) [] h = absurd (false≢true h)
fit_end (c ∷ cs) (a ∷ xs) h = fit_end cs xs (and_parts (attr_fits c a) (attrs_fit cs xs) h).1

-- an attribute that fits its column is called xs the column says
pub named : (c : Column) (a : Attr) → attr_fits c a ≡ true → a ≡ attr c.label a.value
named c a h = ap (λ (w : Word). record { name = w; value = a.value }) (sym (bytes_eq_same (label_word c.label) a.name (and_parts (bytes_eq (label_word c.label) a.name) (value_fits c.form a.value) h).0))

suc_more : (k : ℕ) → suc k ≡ k + 1
suc_more k = omega arith

pub value_there : (kind : Kind) (attrs : List Attr) (k : ℕ) (a : Attr) → attrs_fit (columns kind) attrs ≡ true → k < length (columns kind) → HasValue kind attrs k (get_or attrs k a).value
value_there kind attrs k a h lt =
    let n = fit_length (columns kind) attrs h in
    drop-cons attrs k a (omega arith) ∙ ap (λ (n : ℕ). get_or attrs k a ∷ drop n attrs) (suc_more k) ∙ ap (λ (x : Attr). x ∷ drop (k + 1) attrs) (named (column_at kind k) (get_or attrs k a) (fit_at (columns kind) attrs k (column labels.Version forms.Version) a h lt))

pub value_fits_there : (kind : Kind) (attrs : List Attr) (k : ℕ) (a : Attr) → attrs_fit (columns kind) attrs ≡ true → k < length (columns kind) → value_fits (column_at kind k).form (get_or attrs k a).value ≡ true
value_fits_there kind attrs k a h lt =
    (and_parts (bytes_eq (label_word (column_at kind k).label) (get_or attrs k a).name) (value_fits (column_at kind k).form (get_or attrs k a).value) (fit_at (columns kind) attrs k (column labels.Version forms.Version) a h lt)).1

-- a list by its first and what follows it
pub link : {A : Type 0} {xs ys zs : List A} {x : A} → xs ≡ x ∷ ys → ys ≡ zs → xs ≡ x ∷ zs
link {A} {xs} {ys} {zs} {x} e f = e ∙ ap (λ (r : List A). x ∷ r) f

pub one_spelled : codes "1" ≡ decimal 1
one_spelled = numeral_spelled (codes "1") refl (omega arith)

pub two_spelled : codes "32" ≡ decimal 32
two_spelled = numeral_spelled (codes "32") refl (omega arith)

-- the value of a column that says only one word
version_value : (v : Option Word) → value_fits forms.Version v ≡ true → v ≡ numeral 1
version_value None h = absurd (false≢true h)
version_value (Some w) h = ap (λ (x : Word). Some x) (sym (bytes_eq_same (codes "1") w h) ∙ one_spelled)

maps_value : (v : Option Word) → value_fits forms.Maps v ≡ true → v ≡ numeral 32
maps_value None h = absurd (false≢true h)
maps_value (Some w) h = ap (λ (x : Word). Some x) (sym (bytes_eq_same (codes "32") w h) ∙ two_spelled)

any_attr : Attr
any_attr = record { name = []; value = None }

pub group_form : (attrs : List Attr) → attrs_fit (columns kinds.Dg) attrs ≡ true → attrs ≡ attr labels.Version (numeral 1) ∷ []
group_form attrs h =
    link (value_there kinds.Dg attrs 0 any_attr h (omega arith)) (fit_end (columns kinds.Dg) attrs h)
    ∙ ap (λ (v : Option Word). attr labels.Version v ∷ []) (version_value (get_or attrs 0 any_attr).value (value_fits_there kinds.Dg attrs 0 any_attr h (omega arith)))

pub maps_there : (attrs : List Attr) → attrs_fit (columns kinds.Dco) attrs ≡ true → HasValue kinds.Dco attrs 1 (numeral 32)
maps_there attrs h =
    value_there kinds.Dco attrs 1 any_attr h (omega arith)
    ∙ ap (λ (v : Option Word). attr labels.Maps v ∷ drop 2 attrs) (maps_value (get_or attrs 1 any_attr).value (value_fits_there kinds.Dco attrs 1 any_attr h (omega arith)))

pub number_fits : (label : Label) (n : ℕ) → n < 2 ^ 40 → attr_fits (column label forms.Number) (attr label (numeral n)) ≡ true
number_fits label n lt = and_from (bytes_eq (label_word label) (label_word label)) (is_number (decimal n)) (bytes_eq_self (label_word label)) (decimal_number n lt)

pub plex_kind_fits : (x : PlexKind) → is_one_of (codes "data" ∷ codes "log" ∷ []) (plex_kind_word x) ≡ true
plex_kind_fits kind.Data = refl
plex_kind_fits kind.Log = refl

pub layout_fits : (x : PlexLayout) → is_one_of (codes "concat" ∷ codes "stripe" ∷ []) (layout_word x) ≡ true
layout_fits layout.Concat = refl
layout_fits layout.Stripe = refl

pub policy_fits : (x : PolicyKind) → is_one_of (codes "round" ∷ codes "prefer" ∷ codes "select" ∷ []) (policy_word x) ≡ true
policy_fits policy.Round = refl
policy_fits policy.Prefer = refl
policy_fits policy.Select = refl

pub plex_state_fits : (x : PlexState) → is_one_of plex_states (plex_state_word x) ≡ true
plex_state_fits plex.Empty = refl
plex_state_fits plex.Clean = refl
plex_state_fits plex.Active = refl
plex_state_fits plex.IoFail = refl
plex_state_fits plex.Stale = refl
plex_state_fits plex.SnapAtt = refl
plex_state_fits plex.SnapDone = refl
plex_state_fits plex.DcoSnp = refl

pub vol_state_fits : (x : VolState) → is_one_of volume_states (vol_state_word x) ≡ true
vol_state_fits vol.Empty = refl
vol_state_fits vol.Clean = refl
vol_state_fits vol.Active = refl
vol_state_fits vol.NeedSync = refl
vol_state_fits vol.Sync = refl

or_false : (a : Bool) → (a || false) ≡ true → a ≡ true
or_false true h = refl
or_false false h = h

or_parts_false : (a b : Bool) → (a || b) ≡ false → (a ≡ false) × (b ≡ false)
or_parts_false true b h = absurd (false≢true (sym h))
or_parts_false false b h = (refl, h)

or_rest : (a b : Bool) → a ≡ false → (a || b) ≡ true → b ≡ true
or_rest true b e h = absurd (false≢true (sym e))
or_rest false b e h = h

-- where a word is one of these and the last, and none of these, it is the last
pub last_word : (ws : List Word) (l w : Word) → list_any (λ x. bytes_eq x w) ws ≡ false → is_one_of (ws ++ l ∷ []) w ≡ true → w ≡ l
last_word [] l w none h = sym (bytes_eq_same l w (or_false (bytes_eq l w) h))
last_word (v ∷ ws) l w none h = last_word ws l w (or_parts_false (bytes_eq v w) (list_any (λ x. bytes_eq x w) ws) none).1 (or_rest (bytes_eq v w) (is_one_of (ws ++ l ∷ []) w) (or_parts_false (bytes_eq v w) (list_any (λ x. bytes_eq x w) ws) none).0 h)

pub optional_fits : (v : Option Word) → value_fits forms.NameOrNone v ≡ true
optional_fits None = refl
optional_fits (Some w) = refl

pub group_read : (kind : Kind) (name : Word) (attrs : List Attr) → attrs_fit (columns kind) attrs ≡ true → kind ≡ kinds.Dg → record_of (GroupRecord (record { name = name; version = 1 })) ≡ record { kind = kind; name = name; attrs = attrs }
group_read kind name attrs h e = rw (e, group_form attrs (subst (λ (k : Kind). attrs_fit (columns k) attrs ≡ true) e h)) refl
