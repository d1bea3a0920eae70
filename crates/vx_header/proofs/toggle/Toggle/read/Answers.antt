use Rattle.std.proofs.Common.{rules, ◌≡◌, ◌∙◌, ap, List, ℕ, sym, length, subst}
use Rattle.vx_sector.specs.Fields.{zeros, IsFirstDifference}
use Rattle.vx_header.specs.Places.{IsFirstBad, is_toggle_place, toggle_end}
use Rattle.vx_header.specs.Said.{toggle_of}
use Rattle.vx_header.specs.Spelled.{IsToggle}
use Rattle.vx_header.proofs.Toggles.{toggle_said, zeros_say, bad_says}
use Rattle.vx_header.proofs.ToggleFields.{toggle_of_sector, toggle_not_refused, toggle_first_bad, toggle_not_zero}
use Rattle.vx_header.proofs.toggle.Toggle.read.Goals as goal

pub returns-then-is_zero-clause-only : goal.returns-then-is_zero-clause-only
returns-then-is_zero-clause-only c t is =
    let zero : c.args.sector.now ≡ zeros (length c.args.sector.now) = search rules in
    toggle_not_zero t c.args.sector.now (length c.args.sector.now) is zero

pub returns-in-None-clause-only : goal.returns-in-None-clause-only
returns-in-None-clause-only c t is = toggle_of_sector c.args.sector.now c.nearest-nearest.result c.requires c.nearest-nearest.ensures t is

pub returns-in-Some-clause-only : goal.returns-in-Some-clause-only
returns-in-Some-clause-only c t is =
    let Differs : List ℕ → Type 0 = λ xs. IsFirstDifference c.args.sector.now xs c.in-Some.byte in
    toggle_not_refused c.args.sector.now c.nearest-nearest.result c.requires c.nearest-nearest.ensures t c.in-Some.byte is
    (subst Differs c.put.ensures c.in-Some.ensures)

pub returns-in-Some-clause-fault : goal.returns-in-Some-clause-fault
returns-in-Some-clause-fault c =
    let Differs : List ℕ → Type 0 = λ xs. IsFirstDifference c.args.sector.now xs c.in-Some.byte in
    let Bad : ℕ → Type 0 = λ k. IsFirstBad IsToggle is_toggle_place toggle_end c.args.sector.now k in
    subst Bad (sym c.place_of.ensures)
    (toggle_first_bad c.args.sector.now c.nearest-nearest.result c.requires c.nearest-nearest.ensures c.in-Some.byte (subst Differs c.put.ensures c.in-Some.ensures))

pub returns-then-is_zero-clause-said : goal.returns-then-is_zero-clause-said
returns-then-is_zero-clause-said c =
    let zero : c.args.sector.now ≡ zeros (length c.args.sector.now) = search rules in
    ap toggle_of zero ∙ zeros_say (length c.args.sector.now)

pub returns-in-None-clause-said : goal.returns-in-None-clause-said
returns-in-None-clause-said c = toggle_said c.nearest-nearest.result c.args.sector.now (c.in-None.ensures ∙ c.put.ensures)

pub returns-in-Some-clause-said : goal.returns-in-Some-clause-said
returns-in-Some-clause-said c =
    let Differs : List ℕ → Type 0 = λ xs. IsFirstDifference c.args.sector.now xs c.in-Some.byte in
    bad_says c.args.sector.now _
    (toggle_first_bad c.args.sector.now c.nearest-nearest.result c.requires c.nearest-nearest.ensures c.in-Some.byte (subst Differs c.put.ensures c.in-Some.ensures))
