use Rattle.std.proofs.Common.{◌≡◌, drop}
use Rattle.std.specs.List.{list_any}
use Rattle.mpy_tree.specs.Comparing.{same_cmp}
use Rattle.eml_match.proofs.heads.has_cmp.Given as goal

-- the operators that are left decide
abbrev pub invariant-loop-o : goal.invariant-loop-o
invariant-loop-o l =
    list_any (same_cmp l.fn.op) l.fn.ops ≡ list_any (same_cmp l.fn.op) (drop l.o-index l.fn.ops)
