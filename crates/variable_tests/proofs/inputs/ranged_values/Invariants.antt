use Rattle.bit_words.specs.Logic.{Extends}
use Rattle.variable_tests.proofs.inputs.ranged_values.Given as goal

abbrev pub invariant-loop-i : goal.invariant-loop-i
invariant-loop-i g l =
    let logic = g.L.Logic in Extends logic.owns logic.reads logic.count l.fn.g l.g
