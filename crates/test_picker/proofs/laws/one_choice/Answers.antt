use Rattle.test_picker.proofs.Choices.{one_choice}
use Rattle.test_picker.proofs.laws.one_choice.Goals as goal

pub returns : goal.returns
returns c = one_choice
