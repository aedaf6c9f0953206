use Rattle.std.proofs.Common.{◌+◌, ◌-◌, ◌≤◌, drop, length, map}
use Rattle.mpy_tree.specs.View.{routine_of}
use Rattle.choice_tree.specs.WeightedTrees.{sizes}
use Rattle.eml_rewrite.specs.Programs.{funcs_grown, setting_of}
use Rattle.eml_rewrite.proofs.Appending.{each_from}
use Rattle.eml_rewrite.proofs.Programs.{func_tree}
use Rattle.eml_rewrite.proofs.rewriting.count_funcs.Given as goal

-- the functions in front are counted
abbrev pub invariant-funcs : goal.invariant-funcs
invariant-funcs g l =
    let fs = l.fn.scopes.funcs.now in
    let σ = setting_of (g.K.Known.gives l.fn.known) l.fn.rules fs in
    l.nodes + sizes (each_from (func_tree σ) l.i (drop l.i fs))
    ≤ sizes (funcs_grown σ (map routine_of fs))

abbrev pub decreases-funcs : goal.decreases-funcs
decreases-funcs g l = length l.fn.scopes.funcs.now - l.i
