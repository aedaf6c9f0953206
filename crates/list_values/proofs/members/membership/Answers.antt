use Rattle.list_values.proofs.Membership.{told_member}
use Rattle.list_values.proofs.members.membership.Goals as goal

pub returns-clause-value : goal.returns-clause-value
returns-clause-value g c vs v w e f = told_member _ _ v w (c.constant-fault.ensures.value vs) (c.in_ok-found.ensures.value vs v w e f)
