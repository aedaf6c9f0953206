-- The weighted tree of a program.
use Rattle.std.specs.Prelude.{◌≡◌, ℕ, ◌<◌, ◌≤◌, List, map, Result}
use Rattle.std.specs.declared.result.Result.TheVariants.{Ok, Err}
use Rattle.mpy_tree.specs.declared.tree.Func.{Func}
use Rattle.mpy_tree.specs.Syntax.{Routine}
use Rattle.mpy_tree.specs.View.{routine_of}
use Rattle.mpy_tree.specs.Rules.{single}
use Rattle.mpy_tree.specs.SetTypes.{FactSet}
use Rattle.mpy_tree.specs.Shapes.{routine_shapes}
use Rattle.mpy_tree.specs.Trees as kind
use Rattle.choice_tree.specs.declared.rules.Rules.{Rules}
use Rattle.choice_tree.specs.declared.tree.WFuncs.{WFuncs}
use Rattle.choice_tree.specs.declared.tree.WProg.{WProg}
use Rattle.choice_tree.specs.Contexts.{Setting, outermost, setting_with}
use Rattle.choice_tree.specs.Growing.{parts_grown}
use Rattle.choice_tree.specs.RuleViews.{corrections_of}
use Rattle.choice_tree.specs.StatementViews.{weighted_func, weighted_prog}
use Rattle.choice_tree.specs.WeightedTrees.{Weighted, Weighteds, numbered_all, size, sizes}
use Rattle.choice_tree.specs.WeightedViews.{weighteds}
use Rattle.eml_rewrite.specs.declared.error.RewriteError.{RewriteError}
use Rattle.eml_rewrite.specs.declared.error.RewriteError.TheVariants as stop
use Rattle.eml_rewrite.specs.Statements.{fully_grown}

-- rules for a program whose names have the types that these facts give
abbrev pub setting_of : FactSet → Rules → List Func → Setting
setting_of facts rules funcs =
    setting_with (corrections_of rules) (map routine_of funcs) (single facts)

abbrev pub funcs_grown : Setting → List Routine → Weighteds
funcs_grown g rs = parts_grown g (fully_grown g) (routine_shapes rs) kind.Program 0 (outermost g)

-- The trees of functions were built, and have so many expression nodes at most; or they have more.
abbrev pub AreWithin : Result WFuncs RewriteError → ℕ → Weighteds → Type 0
AreWithin (Ok w) most trees =
    (weighteds (map weighted_func w.items.items) ≡ numbered_all trees 0) × (sizes trees ≤ most)
AreWithin (Err stop.Large) most trees = most < sizes trees
AreWithin (Err stop.NoMemory) most trees = Unit {0}

-- The tree was built, and has 1,000,000 expression nodes at most; or it has more.
abbrev pub IsRewritten : Result WProg RewriteError → Weighted → Type 0
IsRewritten (Ok w) tree = (weighted_prog w ≡ tree) × (size (weighted_prog w) ≤ 1000000)
IsRewritten (Err stop.Large) tree = 1000000 < size tree
IsRewritten (Err stop.NoMemory) tree = Unit {0}
