use Rattle.std.proofs.Common.{◌≡◌, true, List, refl, sym, subst}
use Rattle.std.proofs.lemmas.Bool.{and_from}
use Rattle.vx_names.specs.declared.attr.Attr.{Attr}
use Rattle.vx_record.specs.Table.{column, columns, attr_fits, attrs_fit}
use Rattle.vx_record.specs.declared.column.Form.TheVariants as forms
use Rattle.vx_record.specs.declared.kind.Kind.TheVariants as kinds
use Rattle.vx_record.specs.declared.label.Label.TheVariants as labels
use Rattle.vx_objects.proofs.Fields.{optional_fits, policy_fits, vol_state_fits}
use Rattle.vx_objects.proofs.printed.of_vol.Goals as goal

pub invariant_of-result : goal.invariant_of-result
invariant_of-result c =
    let vol = c.args.vol.now in
    let rdpol : attr_fits (column labels.Rdpol forms.Policy) c.word-2.result ≡ true = rw (c.word-2.ensures, c.word.ensures) (policy_fits vol.rdpol) in
    let prefer : attr_fits (column labels.Prefer forms.NameOrNone) c.value.result ≡ true = rw c.value.ensures (optional_fits vol.prefer) in
    let state : attr_fits (column labels.State forms.VolState) c.word-4.result ≡ true = rw (c.word-4.ensures, c.word-3.ensures) (vol_state_fits vol.state) in
    let dco : attr_fits (column labels.Dco forms.NameOrNone) c.value-2.result ≡ true = rw c.value-2.ensures (optional_fits vol.dco) in
    subst (λ (xs : List Attr). attrs_fit (columns kinds.Vol) xs ≡ true) (sym c.in_ok-attrs.ensures)
    (and_from _ _ c.number.ensures.fits (and_from _ _ c.number-2.ensures.fits (and_from _ _ rdpol (and_from _ _ prefer (and_from _ _ state (and_from _ _ dco refl))))))
