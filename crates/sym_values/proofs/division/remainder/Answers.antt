use Rattle.sym_values.proofs.Held.{reads_kept}
use Rattle.sym_values.proofs.Numbers.{remainder_is}
use Rattle.sym_values.proofs.division.remainder.Goals as goal

pub returns-clause-value : goal.returns-clause-value
returns-clause-value g c vs l e =
    let made = c.in_ok-divided.ensures in
    let word = reads_kept c.or.ensures.extends made.made.owned vs in
    rw word (remainder_is l _ _ _ _ _ _ _ e (made.none vs) (made.over vs) (made.value vs) (c.in_ok-fault.ensures.value vs))
