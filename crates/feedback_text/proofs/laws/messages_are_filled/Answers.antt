use Rattle.feedback_text.proofs.MessageLaws.{fills_alone}
use Rattle.feedback_text.proofs.laws.messages_are_filled.Goals as goal

pub returns : goal.returns
returns c = fills_alone
