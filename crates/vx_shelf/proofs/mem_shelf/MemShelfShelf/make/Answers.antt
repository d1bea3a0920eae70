use Rattle.std.proofs.Common.{refl, inr}
use Rattle.vx_shelf.proofs.Counts.{counted_made}
use Rattle.vx_shelf.proofs.Listings.{first_used, missing_unused}
use Rattle.vx_shelf.proofs.NewImages.{made_at_rest, made_below, made_numbered, made_joins, made_held}
use Rattle.vx_shelf.proofs.mem_shelf.MemShelfShelf.make.Goals as goal

pub invariant_of-self : goal.invariant_of-self
invariant_of-self c =
    let missing = rw c.as_slice.ensures.value at c.in-None.ensures in
    let self = c.args.self.now in
    record {
      at_rest = made_at_rest c.args.name.now c.args.sectors self.next self.places.items c.append.new.places.items c.requires.some missing c.in-Ok.ensures.more self.at_rest;
      below = made_below c.args.name.now c.args.sectors self.next self.places.items c.append.new.places.items c.requires.some missing c.in-Ok.ensures.more self.below;
      numbered = made_numbered c.args.name.now c.args.sectors self.next self.places.items c.append.new.places.items c.requires.some missing c.in-Ok.ensures.more self.below self.numbered;
    }

pub returns-in-Some-clause-exists : goal.returns-in-Some-clause-exists
returns-in-Some-clause-exists c =
    let found = rw c.as_slice.ensures.value at c.in-Some.ensures in
    (λ e. first_used c.args.self.now.places.items c.args.name.now c.in-Some.field-0 found.1, λ h. refl)

pub returns-in-Ok-clause-made : goal.returns-in-Ok-clause-made
returns-in-Ok-clause-made c =
    let missing = rw c.as_slice.ensures.value at c.in-None.ensures in
    let self = c.args.self.now in
    made_joins c.args.name.now c.args.sectors self.next self.places.items c.append.new.places.items c.requires.some missing c.in-Ok.ensures.more self.below

pub returns-in-Ok-clause-same : goal.returns-in-Ok-clause-same
returns-in-Ok-clause-same c =
    let missing = rw c.as_slice.ensures.value at c.in-None.ensures in
    let self = c.args.self.now in
    made_held c.args.name.now c.args.sectors self.next self.places.items c.append.new.places.items c.requires.some missing c.in-Ok.ensures.more

pub returns-in-Ok-clause-exists : goal.returns-in-Ok-clause-exists
returns-in-Ok-clause-exists c =
    let missing = rw c.as_slice.ensures.value at c.in-None.ensures in
    (λ e. cc, λ h. absurd (missing_unused c.args.self.now.places.items c.args.name.now missing h))

pub returns-in-Err-clause-exists : goal.returns-in-Err-clause-exists
returns-in-Err-clause-exists c =
    let missing = rw c.as_slice.ensures.value at c.in-None.ensures in
    (λ e. cc, λ h. absurd (missing_unused c.args.self.now.places.items c.args.name.now missing h))

pub returns-in-Ok-clause-held : goal.returns-in-Ok-clause-held
returns-in-Ok-clause-held c =
    let missing = rw c.as_slice.ensures.value at c.in-None.ensures in
    λ h. absurd (missing_unused c.args.self.now.places.items c.args.name.now missing (inr h))

pub returns-in-Err-clause-held : goal.returns-in-Err-clause-held
returns-in-Err-clause-held c =
    let missing = rw c.as_slice.ensures.value at c.in-None.ensures in
    λ h. absurd (missing_unused c.args.self.now.places.items c.args.name.now missing (inr h))

pub returns-in-Ok-clause-counts : goal.returns-in-Ok-clause-counts
returns-in-Ok-clause-counts c =
    let missing = rw c.as_slice.ensures.value at c.in-None.ensures in
    let self = c.args.self.now in
    counted_made c.args.name.now c.args.sectors self.next self.places.items c.append.new.places.items missing c.in-Ok.ensures.more
