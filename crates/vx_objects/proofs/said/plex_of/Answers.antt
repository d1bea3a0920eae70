use Rattle.std.proofs.Common.{List, sym, ap, refl}
use Rattle.std.proofs.lemmas.Bool.{and_from}
use Rattle.vx_names.specs.declared.attr.Attr.{Attr}
use Rattle.vx_record.specs.Table.{columns}
use Rattle.vx_record.specs.declared.kind.Kind.TheVariants as kinds
use Rattle.vx_config_parts.specs.declared.object.Object.{Object}
use Rattle.vx_config_parts.specs.declared.object.Object.TheVariants.{PlexRecord}
use Rattle.vx_objects.proofs.Fields.{fit_end, link}
use Rattle.vx_objects.proofs.said.plex_of.Goals as goal

pub returns : goal.returns
returns c =
    let said : Object = PlexRecord (record { name = c.args.name; vol = c.referred_or_none-vol.result; kind = c.plex_kind-kind.result; layout = c.layout-layout.result; ncol = c.number-ncol.result; unit = c.number-unit.result; state = c.plex_state-state.result; map = c.number_or_none-map.result }) in
    let same = link c.referred_or_none-vol.ensures (link c.plex_kind-kind.ensures (link c.layout-layout.ensures (link c.number-ncol.ensures.there (link c.number-unit.ensures.there (link c.plex_state-state.ensures (link c.number_or_none-map.ensures.there (fit_end (columns kinds.Plex) c.args.attrs.now c.requires))))))) in
    (said, (ap (λ (attrs : List Attr). record { kind = kinds.Plex; name = c.args.name; attrs = attrs }) (sym same), and_from _ _ (and_from _ _ c.number-ncol.ensures.short c.number-unit.ensures.short) c.number_or_none-map.ensures.short), rw (c.as_word.ensures, c.as_map.ensures) refl)
