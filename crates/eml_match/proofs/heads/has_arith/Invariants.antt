use Rattle.std.proofs.Common.{◌≡◌, drop}
use Rattle.std.specs.List.{list_any}
use Rattle.mpy_tree.specs.Comparing.{same_arith}
use Rattle.eml_match.proofs.heads.has_arith.Given as goal

-- the operators that are left decide
abbrev pub invariant-loop-o : goal.invariant-loop-o
invariant-loop-o l =
    list_any (same_arith l.fn.op) l.fn.ops ≡ list_any (same_arith l.fn.op) (drop l.o-index l.fn.ops)
