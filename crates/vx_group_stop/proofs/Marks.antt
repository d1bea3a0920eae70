-- The maps that some region is marked in.
use Rattle.std.proofs.Common.{◌≡◌, ℕ, suc, ◌+◌, ◌<◌, Bool, true, false, Result, Ok, Err, refl, sym, ◌∙◌, ap, List, [], ◌∷◌, length, map, take, get_or, arith}
use Rattle.std.specs.Prelude.{◌||◌}
use Rattle.std.specs.List.{list_any}
use Rattle.std.proofs.lemmas.Bool.{false≢true}
use Rattle.std.proofs.lemmas.List.Folds.{list_any_more}
use Rattle.vx_mask.specs.Mask.{has, union}
use Rattle.vx_mask.proofs.MaskLemmas.{has-union}
use Rattle.vx_cell.specs.Changes.{CellSeen}
use Rattle.vx_pages.specs.Items.{item_at}
use Rattle.vx_volume.specs.declared.fault.IoFault.{IoFault}
use Rattle.vx_volume.specs.declared.fault.IoFault.TheVariants.{Fault, PowerLost, Range}
use Rattle.vx_volume.specs.Volume.{VolumeSeen, no_cell}
use Rattle.vx_group_stop.specs.Laws.{AreSettled, EachRestIsSettled, LeavesRest}
use Rattle.vx_group_stop.specs.Stops.{is_lost}
use Rattle.vx_group_stop.proofs.Passes.{clear_leaves_rest, settling_settles}

pub any_of_map : {A B : Type 0} (p : B → Bool) (f : A → B) (xs : List A) → list_any p (map f xs) ≡ list_any (λ x. p (f x)) xs
any_of_map p f [] = refl
any_of_map p f (x ∷ xs) = ap (λ (b : Bool). p (f x) || b) (any_of_map p f xs)

-- one region more
pub marks_more : {A : Type 0} (bits : A → ℕ) (marks k i : ℕ) (xs : List A) (x : A) → has marks k ≡ list_any (λ y. has (bits y) k) (take i xs) → i < length xs → x ≡ get_or xs i x
    → has (union marks (bits x)) k ≡ list_any (λ y. has (bits y) k) (take (i + 1) xs)
marks_more bits marks k i xs x before inside is =
    has-union marks (bits x) k ∙ ap (λ (b : Bool). b || has (bits x) k) before ∙ ap (λ (y : _). list_any (λ z. has (bits z) k) (take i xs) || has (bits y) k) is ∙ sym (list_any_more (λ y. has (bits y) k) xs i x inside)

any_same : (p : CellSeen → Bool) (xs ys : List CellSeen) → length xs ≡ length ys → ((r : ℕ) → p (item_at no_cell xs r) ≡ p (item_at no_cell ys r)) → list_any p xs ≡ list_any p ys
any_same p [] [] count each = refl
any_same p [] (y ∷ ys) count each = absurd (omega (arith, count))
any_same p (x ∷ xs) [] count each = absurd (omega (arith, count))
any_same p (x ∷ xs) (y ∷ ys) count each = ap (λ (b : Bool). b || list_any p xs) (each 0) ∙ ap (λ (b : Bool). p y || b) (any_same p xs ys (omega (arith, count)) (λ r. each (suc r)))

-- where the power is there all are settled
by_answer : (v : VolumeSeen) (cleared : Result (Unit {0}) IoFault) → is_lost cleared ≡ false → LeavesRest v cleared → AreSettled v
by_answer v (Ok u) there leaves = leaves.0
by_answer v (Err (Fault place)) there leaves = leaves
by_answer v (Err PowerLost) there leaves = absurd (false≢true (sym there))
by_answer v (Err Range) there leaves = absurd leaves

-- the power went, where the answer says so
pub power_gone : (cleared : Result (Unit {0}) IoFault) → is_lost cleared ≡ true → cleared ≡ Err PowerLost
power_gone (Ok u) gone = absurd (false≢true gone)
power_gone (Err (Fault place)) gone = absurd (false≢true gone)
power_gone (Err PowerLost) gone = refl
power_gone (Err Range) gone = absurd (false≢true gone)

pub rest_is_settled : EachRestIsSettled
rest_is_settled old new mask rest =
    let settled = settling_settles old rest.mid rest.settled in
    let leaves = clear_leaves_rest rest.mid new rest.cleared rest.clears settled in
    (settled, by_answer new rest.cleared rest.power leaves.1, λ k other. rest.marks k ∙ any_same (λ (cell : CellSeen). has cell.stage.bits k) new.cells rest.mid.cells leaves.0 (λ r. leaves.2 r k other))
