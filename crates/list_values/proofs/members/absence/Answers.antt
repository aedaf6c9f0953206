use Rattle.list_values.proofs.Membership.{told_absent}
use Rattle.list_values.proofs.members.absence.Goals as goal

pub returns-clause-value : goal.returns-clause-value
returns-clause-value g c vs v w e f = told_absent _ _ _ v w (c.constant-fault.ensures.value vs) (c.in_ok-found.ensures.value vs v w e f) (c.not-bit.ensures.value vs)
