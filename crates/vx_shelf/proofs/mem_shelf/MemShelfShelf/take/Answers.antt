use Rattle.std.proofs.Common.{◌≡◌, ◌∙◌, ap, arith, refl, subst, sym, IsSome, false, true}
use Rattle.vx_piece.specs.MemPiece.{mem_seen}
use Rattle.vx_shelf.specs.MemShelf.{is_empty}
use Rattle.vx_shelf.proofs.Holds.{not_some, not_true, nowhere, rest_here, free_under, none_held, taken, leaves, held_under, free_gone, stays_at_rest}
use Rattle.vx_shelf.proofs.Counts.{counted_here, counted_same}
use Rattle.vx_shelf.proofs.Numbers.{numbered_set, numbers_still}
use Rattle.vx_shelf.proofs.mem_shelf.MemShelfShelf.take.Goals as goal

pub invariant_of-self : goal.invariant_of-self
invariant_of-self c =
    let found = rw c.as_slice.ensures.value at c.in-Some.ensures in
    let places = c.args.self.now.places.items in
    let place = c.index_mut-place.result.now in
    let rest = rest_here places c.args.name.now c.in-Some.i place place c.args.self.now.at_rest found.0 found.1 c.index_mut-place.ensures.value in
    record {
      at_rest = stays_at_rest places c.args.name.now c.in-Some.i place place c.args.self.now.at_rest found.0 found.1 c.index_mut-place.ensures.value c.take_out.new.device (c.take_out.ensures.rest rest);
      below = numbered_set c.args.self.now.next places c.in-Some.i place place c.take_out.new.device c.args.self.now.below found.0 c.index_mut-place.ensures.value c.take_out.ensures.same;
      numbered = numbers_still places c.in-Some.i (place.0, c.take_out.new.device) place c.args.self.now.numbered found.0 (c.take_out.ensures.same ∙ ap (λ p. (mem_seen p.1).device) c.index_mut-place.ensures.value);
    }

pub returns-in-None-clause-no_disk : goal.returns-in-None-clause-no_disk
returns-in-None-clause-no_disk c = let missing = rw c.as_slice.ensures.value at c.in-None.ensures in (λ e. nowhere c.args.self.now.places.items c.args.name.now missing, λ e. refl)

pub returns-in-None-clause-held : goal.returns-in-None-clause-held
returns-in-None-clause-held c =
    let missing = rw c.as_slice.ensures.value at c.in-None.ensures in
    (λ e. cc, λ h. absurd (not_some _ (nowhere c.args.self.now.places.items c.args.name.now missing).not_held h))

pub returns-in-None-take_out-clause-no_disk : goal.returns-in-None-take_out-clause-no_disk
returns-in-None-take_out-clause-no_disk c =
    let found = rw c.as_slice.ensures.value at c.in-Some.ensures in
    let place = c.index_mut-place.result.now in
    let empty : is_empty place.1 ≡ true = c.in-None-take_out.ensures.none.0 refl in
    let held = held_under c.args.self.now.places.items c.args.name.now c.in-Some.i place place c.args.self.now.at_rest found.0 found.1 c.index_mut-place.ensures.value empty in
    (λ e. cc, λ gone. cc (held, gone.not_held))

pub returns-in-None-take_out-clause-held : goal.returns-in-None-take_out-clause-held
returns-in-None-take_out-clause-held c =
    let found = rw c.as_slice.ensures.value at c.in-Some.ensures in
    let place = c.index_mut-place.result.now in
    let empty : is_empty place.1 ≡ true = c.in-None-take_out.ensures.none.0 refl in
    let held = held_under c.args.self.now.places.items c.args.name.now c.in-Some.i place place c.args.self.now.at_rest found.0 found.1 c.index_mut-place.ensures.value empty in
    (λ e. subst IsSome (sym held) refl, λ h. refl)

pub returns-in-None-take_out-clause-away : goal.returns-in-None-take_out-clause-away
returns-in-None-take_out-clause-away c =
    let found = rw c.as_slice.ensures.value at c.in-Some.ensures in
    let place = c.index_mut-place.result.now in
    let empty : is_empty place.1 ≡ true = c.in-None-take_out.ensures.none.0 refl in
    λ e. free_gone c.args.self.now.places.items c.args.name.now c.in-Some.i place place c.args.self.now.at_rest found.0 found.1 c.index_mut-place.ensures.value empty

pub returns-in-Some-take_out-clause-taken : goal.returns-in-Some-take_out-clause-taken
returns-in-Some-take_out-clause-taken c =
    let found = rw c.as_slice.ensures.value at c.in-Some.ensures in
    let place = c.index_mut-place.result.now in
    let out = c.in-Some-take_out.ensures in
    let full : is_empty place.1 ≡ false = not_true _ out.none.1 in
    rw out.some (taken c.args.self.now.places.items c.args.name.now c.in-Some.i place place c.args.self.now.at_rest found.0 found.1 c.index_mut-place.ensures.value full c.take_out.new.device (rw out.some at out.left))

pub returns-in-Some-take_out-clause-left : goal.returns-in-Some-take_out-clause-left
returns-in-Some-take_out-clause-left c =
    let found = rw c.as_slice.ensures.value at c.in-Some.ensures in
    let place = c.index_mut-place.result.now in
    let out = c.in-Some-take_out.ensures in
    let full : is_empty place.1 ≡ false = not_true _ out.none.1 in
    rw out.some (leaves c.args.self.now.places.items c.args.name.now c.in-Some.i place place c.args.self.now.at_rest found.0 found.1 c.index_mut-place.ensures.value full c.take_out.new.device (rw out.some at out.left))

pub returns-in-Some-take_out-clause-no_disk : goal.returns-in-Some-take_out-clause-no_disk
returns-in-Some-take_out-clause-no_disk c =
    let found = rw c.as_slice.ensures.value at c.in-Some.ensures in
    let place = c.index_mut-place.result.now in
    let full : is_empty place.1 ≡ false = not_true _ c.in-Some-take_out.ensures.none.1 in
    let free = free_under c.args.self.now.places.items c.args.name.now c.in-Some.i place place c.args.self.now.at_rest found.0 found.1 c.index_mut-place.ensures.value full in
    (λ e. cc, λ gone. cc (free, gone.not_free))

pub returns-in-Some-take_out-clause-held : goal.returns-in-Some-take_out-clause-held
returns-in-Some-take_out-clause-held c =
    let found = rw c.as_slice.ensures.value at c.in-Some.ensures in
    let place = c.index_mut-place.result.now in
    let full : is_empty place.1 ≡ false = not_true _ c.in-Some-take_out.ensures.none.1 in
    let none = none_held c.args.self.now.places.items c.args.name.now c.in-Some.i place place c.args.self.now.at_rest found.0 found.1 c.index_mut-place.ensures.value full in
    (λ e. cc, λ h. absurd (not_some _ none h))

pub returns-in-Some-take_out-clause-counted : goal.returns-in-Some-take_out-clause-counted
returns-in-Some-take_out-clause-counted c =
    let found = rw c.as_slice.ensures.value at c.in-Some.ensures in
    let place = c.index_mut-place.result.now in
    let here = counted_here c.args.self.now.places.items c.args.name.now c.in-Some.i place place found.1 c.index_mut-place.ensures.value in
    let same : (mem_seen c.in-Some-take_out.piece).faults ≡ (mem_seen place.1).faults = ap (λ p. (mem_seen p).faults) c.in-Some-take_out.ensures.some in
    omega (arith, here, same)

pub returns-in-Some-take_out-clause-counts : goal.returns-in-Some-take_out-clause-counts
returns-in-Some-take_out-clause-counts c =
    let found = rw c.as_slice.ensures.value at c.in-Some.ensures in
    let place = c.index_mut-place.result.now in
    counted_same c.args.self.now.places.items c.args.name.now c.in-Some.i place place found.1 c.index_mut-place.ensures.value c.take_out.new.device c.take_out.ensures.counted
