use Rattle.std.proofs.Common.{◌-◌, replicate}
use Rattle.input_space.specs.Inputs.{numbers, tuples}
use Rattle.input_space.proofs.Blocks.{Leads}
use Rattle.input_space.proofs.places.numbers_at.Given as goal

abbrev pub invariant-loop-k : goal.invariant-loop-k
invariant-loop-k l =
    let xs = numbers l.low l.high in
    Leads 1000000000000 (tuples (replicate l.len xs)) l.i l.found.items (tuples (replicate (l.len - l.k) xs)) l.rest
