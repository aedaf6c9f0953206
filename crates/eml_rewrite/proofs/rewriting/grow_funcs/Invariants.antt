use Rattle.std.proofs.Common.{◌-◌, length, map}
use Rattle.mpy_tree.specs.View.{routine_of}
use Rattle.choice_tree.specs.StatementViews.{weighted_func}
use Rattle.eml_rewrite.specs.Programs.{funcs_grown, setting_of}
use Rattle.eml_rewrite.proofs.Appending.{FrontBuilt}
use Rattle.eml_rewrite.proofs.Programs.{func_tree}
use Rattle.eml_rewrite.proofs.rewriting.grow_funcs.Given as goal

-- the functions in front are built
abbrev pub invariant-funcs : goal.invariant-funcs
invariant-funcs g l =
    let σ = setting_of (g.K.Known.gives l.fn.known) l.fn.rules l.fn.scopes.funcs.now in
    FrontBuilt (funcs_grown σ (map routine_of l.fn.scopes.funcs.now)) (func_tree σ)
    l.fn.scopes.funcs.now l.i (map weighted_func l.items.items) l.initial.counter l.counter

abbrev pub decreases-funcs : goal.decreases-funcs
decreases-funcs g l = length l.fn.scopes.funcs.now - l.i
