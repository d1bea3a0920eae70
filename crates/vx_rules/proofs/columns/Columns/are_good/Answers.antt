use Rattle.std.proofs.Common.{sym, ap, ◌∙◌, not}
use Rattle.vx_rules.proofs.Good.{all_so_long, fails_layout, fails_whole, passes_whole}
use Rattle.vx_rules.proofs.columns.Columns.are_good.Goals as goal

pub returns : goal.returns
returns c = λ all indexed.
    let fits = sym (c.layout_fits.ensures all (c.length-length.ensures.length all indexed)) ∙ c.if-not-layout_fits.false in
    let length = ap (all_so_long all c.args.plex.now) (sym (c.length-length.ensures.length all indexed)) in
    ap not (c.has_piece_from.ensures all indexed) ∙ passes_whole all c.args.plex.now fits (length ∙ (sym (c.all_are.ensures all indexed) ∙ c.if-not-all_are.false))

pub returns-then-not-layout_fits : goal.returns-then-not-layout_fits
returns-then-not-layout_fits c = λ all indexed. fails_layout all c.args.plex.now (sym (c.layout_fits.ensures all (c.length-length.ensures.length all indexed)) ∙ c.if-not-layout_fits.true)

pub returns-then-not-all_are : goal.returns-then-not-all_are
returns-then-not-all_are c = λ all indexed.
    let fits = sym (c.layout_fits.ensures all (c.length-length.ensures.length all indexed)) ∙ c.if-not-layout_fits.false in
    let length = ap (all_so_long all c.args.plex.now) (sym (c.length-length.ensures.length all indexed)) in
    fails_whole all c.args.plex.now fits (length ∙ (sym (c.all_are.ensures all indexed) ∙ c.if-not-all_are.true))
