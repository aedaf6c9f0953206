use Rattle.std.proofs.Common.{◌≡◌, ◌+◌, ◌-◌, ◌*◌, Some, drop, length}
use Rattle.mpy_tree.specs.View.{term_of}
use Rattle.mpy_tree.specs.Shapes.{shape}
use Rattle.choice_tree.specs.RuleViews.{template_of}
use Rattle.choice_tree.specs.Matching.{together}
use Rattle.eml_match.specs.MatchViews.{bindings_of, each_matches}
use Rattle.eml_match.specs.Parts.{parts, template_parts}
use Rattle.eml_match.proofs.Places.{template_size}
use Rattle.eml_match.proofs.matching.+matching.Given as goal

-- what was found and what the parts that are left give
abbrev pub invariant-match_parts-parts : goal.invariant-match_parts-parts
invariant-match_parts-parts l =
    together (Some (bindings_of l.initial.all.items))
    (each_matches (template_parts (template_of l.fn.p)) (parts (shape (term_of l.fn.e))))
    ≡ together (Some (bindings_of l.all.items))
    (each_matches (drop l.i (template_parts (template_of l.fn.p)))
    (drop l.i (parts (shape (term_of l.fn.e)))))

abbrev pub decreases-match_expr : goal.decreases-match_expr
decreases-match_expr l = 2 * template_size (template_of l.p.now) + 1

abbrev pub decreases-match_parts : goal.decreases-match_parts
decreases-match_parts l = 2 * template_size (template_of l.p.now)

abbrev pub decreases-match_parts-parts : goal.decreases-match_parts-parts
decreases-match_parts-parts l = length (parts (shape (term_of l.fn.e))) - l.i
