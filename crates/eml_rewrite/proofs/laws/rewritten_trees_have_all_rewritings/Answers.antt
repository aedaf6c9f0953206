use Rattle.std.proofs.Common.{subst, sym}
use Rattle.mpy_tree.specs.Shapes.{program_shape}
use Rattle.choice_tree.specs.Contexts.{elsewhere, outermost}
use Rattle.choice_tree.specs.Rewriting.{Rewrites}
use Rattle.choice_tree.specs.Selections.{MadeBySelections}
use Rattle.choice_tree.proofs.SelectionLaws.{made_by_selections}
use Rattle.eml_rewrite.proofs.laws.rewritten_trees_have_all_rewritings.Goals as goal

pub returns : goal.returns
returns c =
    λ g s w keeps e.
    subst (λ x. MadeBySelections x (Rewrites g elsewhere 0 (outermost g) (program_shape s))) (sym e)
    (made_by_selections g s keeps)
