-- Which attributes a record of each kind has, in order, and what each may say.
use Rattle.std.specs.Prelude.{ℕ, ◌&&◌, Bool, true, false, Option, None, Some, List, [], ◌∷◌, codes}
use Rattle.std.specs.Str.{bytes_eq}
use Rattle.std.specs.List.{list_any}
use Rattle.vx_names.specs.Number.{is_number}
use Rattle.vx_names.specs.declared.attr.Attr.{Attr}
use Rattle.vx_record.specs.Words.{label_word}
use Rattle.vx_record.specs.declared.kind.Kind.{Kind}
use Rattle.vx_record.specs.declared.kind.Kind.TheVariants as kinds
use Rattle.vx_record.specs.declared.label.Label.{Label}
use Rattle.vx_record.specs.declared.label.Label.TheVariants as labels
use Rattle.vx_record.specs.declared.column.Form.{Form}
use Rattle.vx_record.specs.declared.column.Form.TheVariants as forms
use Rattle.vx_record.specs.declared.column.Column.{Column}

abbrev pub column : Label → Form → Column
column label form = record { label = label; form = form }

abbrev pub columns : Kind → List Column
columns kinds.Dg = column labels.Version forms.Version ∷ []
columns kinds.Dm = column labels.Device forms.Name ∷ column labels.Slot forms.Number ∷ column labels.Publen forms.Number ∷ []
columns kinds.Sd =
    column labels.Disk forms.Name
    ∷ column labels.Off forms.Number
    ∷ column labels.Len forms.Number
    ∷ column labels.Plex forms.NameOrNone
    ∷ column labels.Col forms.Number
    ∷ column labels.At forms.Number
    ∷ []
columns kinds.Plex =
    column labels.Vol forms.NameOrNone
    ∷ column labels.Kind forms.PlexKind
    ∷ column labels.Layout forms.Layout
    ∷ column labels.Ncol forms.Number
    ∷ column labels.Unit forms.Number
    ∷ column labels.State forms.PlexState
    ∷ column labels.Map forms.NumberOrNone
    ∷ []
columns kinds.Vol =
    column labels.Len forms.Number
    ∷ column labels.Region forms.Number
    ∷ column labels.Rdpol forms.Policy
    ∷ column labels.Prefer forms.NameOrNone
    ∷ column labels.State forms.VolState
    ∷ column labels.Dco forms.NameOrNone
    ∷ []
columns kinds.Dco = column labels.Vol forms.Name ∷ column labels.Maps forms.Maps ∷ []
columns kinds.Snap =
    column labels.Vol forms.Name
    ∷ column labels.Of forms.Name
    ∷ column labels.Map forms.Number
    ∷ column labels.Ofmap forms.Number
    ∷ []

abbrev pub is_one_of : List (List ℕ) → List ℕ → Bool
is_one_of words word = list_any (λ w. bytes_eq w word) words

abbrev pub plex_states : List (List ℕ)
plex_states = codes "EMPTY" ∷ codes "CLEAN" ∷ codes "ACTIVE" ∷ codes "IOFAIL" ∷ codes "STALE" ∷ codes "SNAPATT" ∷ codes "SNAPDONE" ∷ codes "DCOSNP" ∷ []

abbrev pub volume_states : List (List ℕ)
volume_states = codes "EMPTY" ∷ codes "CLEAN" ∷ codes "ACTIVE" ∷ codes "NEEDSYNC" ∷ codes "SYNC" ∷ []

-- what a value that is there may be
abbrev pub word_fits : Form → List ℕ → Bool
word_fits forms.Number word = is_number word
word_fits forms.NumberOrNone word = is_number word
word_fits forms.Name word = true
word_fits forms.NameOrNone word = true
word_fits forms.Version word = bytes_eq (codes "1") word
word_fits forms.Maps word = bytes_eq (codes "32") word
word_fits forms.PlexKind word = is_one_of (codes "data" ∷ codes "log" ∷ []) word
word_fits forms.Layout word = is_one_of (codes "concat" ∷ codes "stripe" ∷ []) word
word_fits forms.Policy word = is_one_of (codes "round" ∷ codes "prefer" ∷ codes "select" ∷ []) word
word_fits forms.PlexState word = is_one_of plex_states word
word_fits forms.VolState word = is_one_of volume_states word

-- whether the value may be none
abbrev pub none_fits : Form → Bool
none_fits forms.NumberOrNone = true
none_fits forms.NameOrNone = true
none_fits form = false

abbrev pub value_fits : Form → Option (List ℕ) → Bool
value_fits form None = none_fits form
value_fits form (Some word) = word_fits form word

abbrev pub attr_fits : Column → Attr → Bool
attr_fits c a = bytes_eq (label_word c.label) a.name && value_fits c.form a.value

-- each attribute of the kind is there, once and in order, and says what it may
abbrev pub attrs_fit : List Column → List Attr → Bool
attrs_fit [] [] = true
attrs_fit [] (a ∷ attrs) = false
attrs_fit (c ∷ cs) [] = false
attrs_fit (c ∷ cs) (a ∷ attrs) = attr_fits c a && attrs_fit cs attrs
