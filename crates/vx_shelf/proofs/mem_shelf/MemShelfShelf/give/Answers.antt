use Rattle.std.proofs.Common.{◌∙◌, ap}
use Rattle.vx_piece.specs.MemPiece.{mem_seen}
use Rattle.vx_shelf.proofs.Holds.{nowhere, given, comes, given_at_rest, given_number}
use Rattle.vx_shelf.proofs.Counts.{counted_set}
use Rattle.vx_shelf.proofs.Numbers.{numbered_set, numbers_still}
use Rattle.vx_shelf.proofs.mem_shelf.MemShelfShelf.give.Goals as goal

pub invariant_of-self : goal.invariant_of-self
invariant_of-self c =
    let found = rw c.as_slice.ensures.value at c.in-Some.ensures in
    let place = c.index_mut-place.result.now in
    let places = c.args.self.now.places.items in
    let number = given_number places c.args.name.now c.in-Some.i place place c.args.piece c.args.self.now.at_rest found.0 found.1 c.index_mut-place.ensures.value c.requires.whole c.requires.out in
    record {
      at_rest = given_at_rest places c.args.name.now c.in-Some.i place place c.args.piece c.args.self.now.at_rest found.0 found.1 c.index_mut-place.ensures.value c.requires.whole c.requires.out;
      below = numbered_set c.args.self.now.next places c.in-Some.i place place c.args.piece c.args.self.now.below found.0 c.index_mut-place.ensures.value number;
      numbered = numbers_still places c.in-Some.i (place.0, c.args.piece) place c.args.self.now.numbered found.0 (number ∙ ap (λ p. (mem_seen p.1).device) c.index_mut-place.ensures.value);
    }

pub returns-in-Some-clause-given : goal.returns-in-Some-clause-given
returns-in-Some-clause-given c =
    let found = rw c.as_slice.ensures.value at c.in-Some.ensures in
    let place = c.index_mut-place.result.now in
    given c.args.self.now.places.items c.args.name.now c.in-Some.i place place c.args.piece c.args.self.now.at_rest found.0 found.1 c.index_mut-place.ensures.value c.requires.whole c.requires.out

pub returns-in-Some-clause-back : goal.returns-in-Some-clause-back
returns-in-Some-clause-back c =
    let found = rw c.as_slice.ensures.value at c.in-Some.ensures in
    let place = c.index_mut-place.result.now in
    comes c.args.self.now.places.items c.args.name.now c.in-Some.i place place c.args.piece c.args.self.now.at_rest found.0 found.1 c.index_mut-place.ensures.value c.requires.whole c.requires.out

pub returns-in-None-clause-given : goal.returns-in-None-clause-given
returns-in-None-clause-given c =
    let missing = rw c.as_slice.ensures.value at c.in-None.ensures in
    let none = (nowhere c.args.self.now.places.items c.args.name.now missing).not_held in
    absurd (cc (c.requires.out, none))

pub returns-in-None-clause-back : goal.returns-in-None-clause-back
returns-in-None-clause-back c =
    let missing = rw c.as_slice.ensures.value at c.in-None.ensures in
    let none = (nowhere c.args.self.now.places.items c.args.name.now missing).not_held in
    absurd (cc (c.requires.out, none))

pub returns-in-Some-clause-counts : goal.returns-in-Some-clause-counts
returns-in-Some-clause-counts c =
    let found = rw c.as_slice.ensures.value at c.in-Some.ensures in
    let place = c.index_mut-place.result.now in
    counted_set c.args.self.now.places.items c.args.name.now c.in-Some.i place place found.1 c.index_mut-place.ensures.value c.args.piece

pub returns-in-None-clause-counts : goal.returns-in-None-clause-counts
returns-in-None-clause-counts c =
    let missing = rw c.as_slice.ensures.value at c.in-None.ensures in
    let none = (nowhere c.args.self.now.places.items c.args.name.now missing).not_held in
    absurd (cc (c.requires.out, none))
