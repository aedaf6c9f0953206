use Rattle.feedback_text.proofs.EditOrder.{in_order}
use Rattle.feedback_text.proofs.laws.edits_are_in_order.Goals as goal

pub returns : goal.returns
returns c = in_order
