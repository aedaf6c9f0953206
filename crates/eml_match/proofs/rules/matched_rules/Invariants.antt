use Rattle.std.proofs.Common.{◌≡◌, ◌++◌, map, drop}
use Rattle.mpy_tree.specs.View.{term_of}
use Rattle.mpy_tree.specs.Shapes.{shape}
use Rattle.choice_tree.specs.Matching.{here}
use Rattle.choice_tree.specs.RuleViews.{correction_of, corrections_of}
use Rattle.eml_match.specs.MatchedRules.{matched_by, matched_from, matched_of, site_of}
use Rattle.eml_match.proofs.rules.matched_rules.Given as goal

-- those that were found, and those among the rules that are left
abbrev pub invariant-loop-i : goal.invariant-loop-i
invariant-loop-i l =
    matched_by (here (site_of l.fn.site)) (corrections_of l.fn.rules) (shape (term_of l.fn.e))
    ≡ map matched_of l.found.items
    ++ matched_from (here (site_of l.fn.site)) l.i
    (map correction_of (drop l.i l.fn.rules.items.items)) (shape (term_of l.fn.e))
