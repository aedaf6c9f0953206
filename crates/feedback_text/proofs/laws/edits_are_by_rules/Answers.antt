use Rattle.feedback_text.proofs.EditRules.{by_rules}
use Rattle.feedback_text.proofs.laws.edits_are_by_rules.Goals as goal

pub returns : goal.returns
returns c = by_rules
