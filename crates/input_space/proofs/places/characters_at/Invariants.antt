use Rattle.std.proofs.Common.{◌-◌, replicate}
use Rattle.input_space.specs.Inputs.{tuples}
use Rattle.input_space.proofs.Blocks.{Leads}
use Rattle.input_space.proofs.places.characters_at.Given as goal

abbrev pub invariant-loop-k : goal.invariant-loop-k
invariant-loop-k l =
    Leads 1000000000000 (tuples (replicate l.len l.alphabet)) l.i l.found.items (tuples (replicate (l.len - l.k) l.alphabet)) l.rest
