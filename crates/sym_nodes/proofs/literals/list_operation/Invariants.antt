use Rattle.std.proofs.Common.{◌≡◌, map, take}
use Rattle.bit_lists.specs.Lists.{AreWordsIn}
use Rattle.sym_values.specs.declared.value.SymValue.TheVariants as sym_value
use Rattle.sym_nodes.specs.Operands.{values_of}
use Rattle.sym_nodes.proofs.literals.list_operation.Given as goal

abbrev pub invariant-loop-part : goal.invariant-loop-part
invariant-loop-part g l = record {
  made : AreWordsIn g.L.Logic.owns l.g l.limits.width l.numbers;
  values : values_of (take l.part-index l.parts) ≡ map sym_value.Int l.numbers;
}
