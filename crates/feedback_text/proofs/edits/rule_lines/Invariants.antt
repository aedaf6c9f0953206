use Rattle.std.proofs.Common.{◌≡◌, ◌++◌, map, drop}
use Rattle.choice_tree.specs.RuleViews.{corrections_of}
use Rattle.feedback_text.specs.ReportViews.{edit_of}
use Rattle.feedback_text.specs.Reports.{edits_text}
use Rattle.feedback_text.proofs.edits.rule_lines.Given as goal

-- the lines so far and those of the edits to come are all lines
abbrev pub invariant-loop-edit : goal.invariant-loop-edit
invariant-loop-edit l =
    l.text.items ++ edits_text (corrections_of l.rules) (map edit_of (drop l.edit-index l.edits.items.items))
    ≡ edits_text (corrections_of l.rules) (map edit_of l.edits.items.items)
