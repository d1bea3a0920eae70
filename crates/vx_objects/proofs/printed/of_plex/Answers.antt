use Rattle.std.proofs.Common.{◌≡◌, true, List, refl, sym, subst}
use Rattle.std.proofs.lemmas.Bool.{and_from}
use Rattle.vx_names.specs.declared.attr.Attr.{Attr}
use Rattle.vx_record.specs.Table.{column, columns, attr_fits, attrs_fit}
use Rattle.vx_record.specs.declared.column.Form.TheVariants as forms
use Rattle.vx_record.specs.declared.kind.Kind.TheVariants as kinds
use Rattle.vx_record.specs.declared.label.Label.TheVariants as labels
use Rattle.vx_objects.proofs.Fields.{optional_fits, plex_kind_fits, layout_fits, plex_state_fits}
use Rattle.vx_objects.proofs.printed.of_plex.Goals as goal

pub invariant_of-result : goal.invariant_of-result
invariant_of-result c =
    let plex = c.args.plex.now in
    let vol : attr_fits (column labels.Vol forms.NameOrNone) c.value.result ≡ true = rw c.value.ensures (optional_fits plex.vol) in
    let kind : attr_fits (column labels.Kind forms.PlexKind) c.word-2.result ≡ true = rw (c.word-2.ensures, c.word.ensures) (plex_kind_fits plex.kind) in
    let layout : attr_fits (column labels.Layout forms.Layout) c.word-4.result ≡ true = rw (c.word-4.ensures, c.word-3.ensures) (layout_fits plex.layout) in
    let state : attr_fits (column labels.State forms.PlexState) c.word-6.result ≡ true = rw (c.word-6.ensures, c.word-5.ensures) (plex_state_fits plex.state) in
    subst (λ (xs : List Attr). attrs_fit (columns kinds.Plex) xs ≡ true) (sym c.in_ok-attrs.ensures)
    (and_from _ _ vol (and_from _ _ kind (and_from _ _ layout (and_from _ _ c.number.ensures.fits (and_from _ _ c.number-2.ensures.fits (and_from _ _ state (and_from _ _ c.map_or_none.ensures.fits refl)))))))
