use Rattle.std.proofs.Common.{◌≡◌, ◌++◌, length}
use Rattle.choice_tree.specs.RuleViews.{correction_of}
use Rattle.feedback_text.specs.Messages.{filled}
use Rattle.feedback_text.specs.ReportViews.{edit_of}
use Rattle.feedback_text.specs.Reports.{value_in}
use Rattle.feedback_text.proofs.edits.EditBy.push_filled.Given as goal

-- what was added so far, and the message of the rest, are the whole message
abbrev pub invariant-loop-rest : goal.invariant-loop-rest
invariant-loop-rest l =
    let value = value_in (edit_of l.self.edit.now) (correction_of l.self.rule.now) in
    l.out.items ++ filled value l.rest ≡ l.initial.out.items ++ filled value l.say

abbrev pub decreases-loop-rest : goal.decreases-loop-rest
decreases-loop-rest l = length l.rest
