-- The parts of trees and of sides of rules, as lists.
use Rattle.std.specs.Prelude.{List, [], ◌∷◌}
use denote.Ref.{Bor}
use Rattle.mpy_tree.specs.declared.tree.Expr.{Expr}
use Rattle.mpy_tree.specs.View.{term_of}
use Rattle.mpy_tree.specs.Trees.{Tree, Trees, node, no_trees, tree_and}
use Rattle.mpy_tree.specs.Shapes.{shape}
use Rattle.choice_tree.specs.declared.rules.PExpr.{PExpr}
use Rattle.choice_tree.specs.RuleViews.{template_of}
use Rattle.choice_tree.specs.Templates.{Template, Templates, made, one_of}
use Rattle.choice_tree.specs.Templates.{no_templates, template_and}

abbrev pub tree_list : Trees → List Tree
tree_list no_trees = []
tree_list (tree_and t ts) = t ∷ tree_list ts

abbrev pub parts : Tree → List Tree
parts (node k ts) = tree_list ts

-- the tree of an expression that is referred to
abbrev pub seen : Bor Expr → Tree
seen e = shape (term_of e.now)

abbrev pub template_list : Templates → List Template
template_list no_templates = []
template_list (template_and p ps) = p ∷ template_list ps

-- those of a node; a metavariable and a set have none
abbrev pub template_parts : Template → List Template
template_parts (made k ps) = template_list ps
template_parts _ = []

-- those of a set
abbrev pub set_elements : Template → List Template
set_elements (one_of ps) = template_list ps
set_elements _ = []

abbrev pub template_seen : Bor PExpr → Template
template_seen p = template_of p.now
