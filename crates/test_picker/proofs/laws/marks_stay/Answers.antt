use Rattle.test_picker.proofs.Choices.{marks_stay}
use Rattle.test_picker.proofs.laws.marks_stay.Goals as goal

pub returns : goal.returns
returns c = marks_stay
