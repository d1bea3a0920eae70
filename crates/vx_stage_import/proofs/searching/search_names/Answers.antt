use Rattle.vx_stage_import.proofs.Searches.{read_back, cut_back, headers_back}
use Rattle.std.proofs.Common.{refl}
use Rattle.vx_stage_import.proofs.searching.search_names.Goals as goal

pub give_finds-requires-clause-held : goal.give_finds-requires-clause-held
give_finds-requires-clause-held g c κs within = (c.requires.held.0, (c.gather.ensures.goes c.requires.held.0 c.requires.held.1).held)

pub give_finds-requires-in-OutOfMemory-clause-held : goal.give_finds-requires-in-OutOfMemory-clause-held
give_finds-requires-in-OutOfMemory-clause-held g c κs within = (c.requires.held.0, (c.gather.ensures.goes c.requires.held.0 c.requires.held.1).held)

pub returns-in-Cut-clause-back : goal.returns-in-Cut-clause-back
returns-in-Cut-clause-back g c = rw c.lost.ensures (λ others are.
    let goes = c.in-Cut.ensures.goes others are in
    let back = c.give_finds.ensures.goes others goes.held in
    (read_back _ _ _ _ _ _ _ goes back, (refl, cut_back _ _ _ _ _ _ goes back, headers_back _ _ _ _ _ _ _ goes back)))

pub returns-in-OutOfMemory-clause-back : goal.returns-in-OutOfMemory-clause-back
returns-in-OutOfMemory-clause-back g c = λ others are.
    let goes = c.in-OutOfMemory.ensures.goes others are in
    let back = c.give_finds-in-OutOfMemory.ensures.goes others goes.held in
    (read_back _ _ _ _ _ _ _ goes back, tt)
