-- A worked graph, closed by computing it.
use Rattle.std.proofs.Common.{◌≡◌, [], ◌∷◌, refl, true, false}
use Rattle.bit_graph.specs.declared.gate.Source.TheVariants.{Constant, Variable, Made}
use Rattle.bit_graph.specs.declared.gate.GraphBit.{GraphBit}
use Rattle.bit_graph.specs.declared.gate.Gate.{Gate}
use Rattle.bit_graph.specs.Gates.{Gates, reading, values_after}

-- gate 0 is "variable 0 and not variable 1", gate 1 is "not gate 0, and variable 0"
abbrev first : Gate
first = record { left = record { source = Variable 0; positive = true }; right = record { source = Variable 1; positive = false } }

abbrev second : Gate
second = record { left = record { source = Variable 0; positive = true }; right = record { source = Made 0; positive = false } }

abbrev graph : Gates
graph = record { variables = 2; gates = first ∷ second ∷ [] }

abbrev neither : GraphBit
neither = record { source = Made 1; positive = false }

both_true : values_after (true ∷ true ∷ []) [] graph.gates ≡ false ∷ true ∷ []
both_true = refl

first_true : values_after (true ∷ false ∷ []) [] graph.gates ≡ true ∷ false ∷ []
first_true = refl

opposite : reading graph (true ∷ true ∷ []) neither ≡ false
opposite = refl

-- a variable past the end of the list reads as false
missing : reading graph (true ∷ []) neither ≡ true
missing = refl

constants : reading graph [] (record { source = Constant; positive = false }) ≡ false
constants = refl
