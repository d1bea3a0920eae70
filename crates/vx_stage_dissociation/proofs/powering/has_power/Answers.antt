use Rattle.std.proofs.Common.{◌≡◌, ◌≢◌, ◌<◌, ℕ, List, [], ◌∷◌, Bool, true, MatchBool, length, map, sym, subst, arith, rules, tests}
use Rattle.std.specs.List.{AllWithin}
use Rattle.std.proofs.lemmas.Iterator.{cases_from_all, YieldsList-from_slice}
use Rattle.std.proofs.lemmas.List.{length-map}
use Rattle.vx_core.specs.declared.stage.Phase.TheVariants.{Dead}
use Rattle.vx_cell.specs.Changes.{CellSeen, cell_seen}
use Rattle.vx_pages.specs.Items.{item_at}
use Rattle.vx_pages.proofs.Items.{at_is}
use Rattle.vx_volume.specs.Volume.{no_cell, volume_seen}
use Rattle.vx_stage_dissociation.proofs.powering.has_power.Goals as goal

-- what holds of what is seen of each item
each_seen : {T A : Type 0} (none : A) (see : T → A) (fact : A → Type 0) (xs : List T) → AllWithin (λ (x : T). fact (see x)) xs 0 (length xs) → (n : ℕ) → n < length (map see xs) → fact (item_at none (map see xs) n)
each_seen none see fact [] each n lt = absurd (omega (arith, lt))
each_seen none see fact (x ∷ xs) each n lt =
    let long = length-map (x ∷ xs) see in
    let here : n < length (x ∷ xs) = omega (arith, lt, long) in
    subst fact (sym (at_is none see (x ∷ xs) n x here)) (each n x (omega arith) here)

-- .. where that is the answer
each_answered : {T A : Type 0} (none : A) (see : T → A) (fact : A → Type 0) (Other : Type 0) (xs : List T) (seen : List A) (b : Bool) → MatchBool b (AllWithin (λ (x : T). fact (see x)) xs 0 (length xs)) Other → b ≡ true → map see xs ≡ seen →
    (n : ℕ) → n < length seen → fact (item_at none seen n)
each_answered none see fact Other xs seen b answer is same =
    let all = subst (λ (x : Bool). MatchBool x (AllWithin (λ y. fact (see y)) xs 0 (length xs)) Other) is answer in
    subst (λ ys. (n : ℕ) → n < length ys → fact (item_at none ys n)) same (each_seen none see fact xs all)

pub returns : goal.returns
returns g c =
    let see = g.P.Piece.seen in
    let cells = c.cells.result.now in
    record {
      powered = λ is.
          each_answered no_cell (cell_seen see) (λ (x : CellSeen). x.stage.phase ≢ Dead) _ cells (volume_seen see c.args.one.now.volume).cells c.all.result
          (cases_from_all _ _ c.all.result (λ x. (cell_seen see x).stage.phase ≢ Dead) (λ x. Unit {0}) c.all.ensures.ran (YieldsList-from_slice cells cc) (λ x q k. search (rules, tests)) (λ x q k. tt))
          is c.cells.ensures;
    }
