use Rattle.std.proofs.Common.{map}
use Rattle.vx_copies.proofs.StepLaws.{each_then, each_from, each_map}
use Rattle.vx_import.specs.Looks.{looked, IsPrivate, HasReading, Reads}
use Rattle.vx_import.specs.Toggles.{Passes, Inspects, PassedAll}
use Rattle.vx_import.specs.declared.toggles.Passed.TheVariants.{Done}
use Rattle.vx_import.proofs.Looks.{all_on, private_on}
use Rattle.vx_import.proofs.Passes.{inspects_pass, inspects_by, reading_on, read_by}
use Rattle.vx_import.proofs.inspecting.take_newest.Goals as goal

pub take_text-requires-clause-private : goal.take_text-requires-clause-private
take_text-requires-clause-private g c κs within = all_on Passes IsPrivate (λ a b is. private_on a b is.kept) _ _ c.read_toggles.ensures.passes c.requires.private

pub returns-in-Done-clause-inspects : goal.returns-in-Done-clause-inspects
returns-in-Done-clause-inspects g c =
    let ends : PassedAll Done (map (looked g.P.Piece.seen) c.read_toggles.new.found) = rw c.in-Done.is at c.read_toggles.ensures.ends in
    each_then Passes (λ a b. HasReading a × Reads a b) Inspects inspects_by _ _ _ c.read_toggles.ensures.passes (each_from HasReading Reads _ _ ends c.take_text.ensures.reads)

pub returns-in-Cut-clause-inspects : goal.returns-in-Cut-clause-inspects
returns-in-Cut-clause-inspects g c = each_map Passes Inspects inspects_pass _ _ c.read_toggles.ensures.passes

pub returns-in-Done-clause-read : goal.returns-in-Done-clause-read
returns-in-Done-clause-read g c =
    let ends : PassedAll Done (map (looked g.P.Piece.seen) c.read_toggles.new.found) = rw c.in-Done.is at c.read_toggles.ensures.ends in
    read_by c.take_text.result c.take_text.new.buffer _ (all_on Reads HasReading reading_on _ _ c.take_text.ensures.reads ends) c.take_text.ensures.taken
