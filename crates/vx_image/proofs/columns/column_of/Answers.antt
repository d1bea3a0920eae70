use Rattle.std.proofs.Common.{rules, sym, ◌∙◌, ap, arith, ◌&&◌, ◌==◌, ◌<◌, ◌^◌, subst}
use Rattle.std.specs.List.{find}
use Rattle.vx_layout.specs.Columns.{column_length}
use Rattle.vx_rules.specs.Columns.{is_in_column}
use Rattle.vx_objects.specs.Config.{objects_of}
use Rattle.vx_config_parts.specs.declared.object.Object.TheVariants.{PlexRecord}
use Rattle.vx_image.proofs.PlexMembers.{one_in}
use Rattle.vx_image.proofs.Chain.{found_in}
use Rattle.vx_image.proofs.Plexes.{config_valid, subdisk_short, column_sum, column_short}
use Rattle.vx_image.proofs.Shapes.{plex_good}
use Rattle.vx_image.proofs.columns.column_of.Goals as goal

pub strips_of-requires : goal.strips_of-requires
strips_of-requires c = λ at s e.
    let config = c.args.config.now in
    let there = found_in (λ t. is_in_column c.args.plex.now.name c.args.col t && t.at == at) config.subdisks s (search rules) in
    let short = subdisk_short config (config_valid config) s there.0 in
    omega (arith, short)

pub from_vec-requires : goal.from_vec-requires
from_vec-requires c =
    let config = c.args.config.now in
    let plex = c.args.plex.now in
    let valid = config_valid config in
    let good = plex_good config valid plex (one_in (objects_of config) (PlexRecord plex) c.requires.plex) in
    let sum = column_sum config valid plex good.pieces c.args.col in
    let short = column_short config valid plex.name c.args.col in
    let is = c.in_ok-strips.ensures plex.name c.args.col (λ at. c.in_ok-pieces.ensures at ∙ ap (λ subdisks. find (λ s. is_in_column c.args.plex.now.name c.args.col s && s.at == at) subdisks) c.as_slice.ensures) in
    subst (λ strips. column_length strips < 2 ^ 64) (sym is) (omega (arith, sum, short))

pub returns : goal.returns
returns c =
    let is = c.in_ok-strips.ensures c.args.plex.now.name c.args.col (λ at. c.in_ok-pieces.ensures at ∙ ap (λ subdisks. find (λ s. is_in_column c.args.plex.now.name c.args.col s && s.at == at) subdisks) c.as_slice.ensures) in
    search (rules, is)
