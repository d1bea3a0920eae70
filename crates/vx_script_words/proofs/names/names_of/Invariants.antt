use Rattle.std.proofs.Common.{◌≡◌, ◌++◌, length}
use Rattle.vx_script_words.specs.Packed.{names_in, ArePacked}
use Rattle.vx_script_words.proofs.names.names_of.Given as goal

abbrev pub invariant-loop-rest : goal.invariant-loop-rest
invariant-loop-rest l = record {
  so_far : l.names.items ++ names_in l.rest ≡ names_in l.bytes;
  packed : ArePacked l.rest;
}

abbrev pub decreases-loop-rest : goal.decreases-loop-rest
decreases-loop-rest l = length l.rest
