use Rattle.std.proofs.Common.{rules, ◌≢◌, ◌∙◌, List, ℕ, sym, take, subst}
use Rattle.std.specs.Prelude.{codes}
use Rattle.vx_sector.specs.Fields.{IsFirstDifference}
use Rattle.vx_header.specs.Places.{IsFirstBad, is_header_place, header_end}
use Rattle.vx_header.specs.Spelled.{IsHeader}
use Rattle.vx_header.proofs.HeaderFields.{header_of_sector, header_not_refused, header_first_bad, mark_of_header}
use Rattle.vx_header.proofs.Labels.{header_said, unmarked_says, bad_header_says}
use Rattle.vx_header.proofs.header.Header.read.Goals as goal

pub returns-then-not-has_mark-clause-only : goal.returns-then-not-has_mark-clause-only
returns-then-not-has_mark-clause-only c h is =
    let other : take 8 c.args.sector.now ≢ codes "vxprv001" = search rules in
    absurd (other (mark_of_header h c.args.sector.now is))

pub returns-in-None-clause-only : goal.returns-in-None-clause-only
returns-in-None-clause-only c h is = header_of_sector c.args.sector.now c.nearest-nearest.result c.requires c.nearest-nearest.ensures h is

pub returns-in-Some-clause-only : goal.returns-in-Some-clause-only
returns-in-Some-clause-only c h is =
    let Differs : List ℕ → Type 0 = λ xs. IsFirstDifference c.args.sector.now xs c.in-Some.byte in
    header_not_refused c.args.sector.now c.nearest-nearest.result c.requires c.nearest-nearest.ensures h c.in-Some.byte is
    (subst Differs c.put.ensures c.in-Some.ensures)

pub returns-in-Some-clause-fault : goal.returns-in-Some-clause-fault
returns-in-Some-clause-fault c =
    let Differs : List ℕ → Type 0 = λ xs. IsFirstDifference c.args.sector.now xs c.in-Some.byte in
    let Bad : ℕ → Type 0 = λ k. IsFirstBad IsHeader is_header_place header_end c.args.sector.now k in (
      search rules,
      subst Bad (sym c.place_of.ensures)
          (header_first_bad c.args.sector.now c.nearest-nearest.result c.requires c.nearest-nearest.ensures c.in-Some.byte (subst Differs c.put.ensures c.in-Some.ensures)),
    )

pub returns-then-not-has_mark-clause-said : goal.returns-then-not-has_mark-clause-said
returns-then-not-has_mark-clause-said c =
    let other : take 8 c.args.sector.now ≢ codes "vxprv001" = search rules in
    unmarked_says c.args.sector.now other

pub returns-in-None-clause-said : goal.returns-in-None-clause-said
returns-in-None-clause-said c = header_said c.nearest-nearest.result c.args.sector.now (c.in-None.ensures ∙ c.put.ensures)

pub returns-in-Some-clause-said : goal.returns-in-Some-clause-said
returns-in-Some-clause-said c =
    let Differs : List ℕ → Type 0 = λ xs. IsFirstDifference c.args.sector.now xs c.in-Some.byte in
    bad_header_says c.args.sector.now _
    (header_first_bad c.args.sector.now c.nearest-nearest.result c.requires c.nearest-nearest.ensures c.in-Some.byte (subst Differs c.put.ensures c.in-Some.ensures))
