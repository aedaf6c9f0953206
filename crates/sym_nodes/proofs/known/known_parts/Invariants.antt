use Rattle.std.proofs.Common.{Bool, List, take}
use Rattle.sym_nodes.specs.Operands.{ValuesRead}
use Rattle.sym_nodes.proofs.known.known_parts.Given as goal

abbrev pub invariant-loop-part : goal.invariant-loop-part
invariant-loop-part g l =
    (vs : List Bool)
    → ValuesRead (g.L.Logic.reads l.g vs) (take l.part-index l.parts) l.values.items
