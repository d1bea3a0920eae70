use Rattle.std.specs.Option.{option_copied}
use Rattle.std.proofs.Common.{◌∙◌, Option, ap, sym}
use Rattle.vx_base.specs.Named.{Word}
use Rattle.vx_print.specs.Shown.{missing}
use Rattle.vx_hierarchy.proofs.hierarchy.missing.Goals as goal

pub returns-in-Some : goal.returns-in-Some
returns-in-Some c =
    let is = ap option_copied c.in-Some.is in
    rw c.as_slice.ensures at c.if_missing.ensures ∙ ap (λ (o : Option Word). missing o c.args.config.now) (sym is)
