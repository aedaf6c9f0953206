use Rattle.certificate_laws.proofs.Budgets.{right_under_any_budget}
use Rattle.certificate_laws.proofs.laws.right_under_any_budget.Goals as goal

pub returns : goal.returns
returns c = right_under_any_budget
