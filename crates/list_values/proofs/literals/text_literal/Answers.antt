use Rattle.std.proofs.Common.{◌∙◌, ap}
use Rattle.std.specs.Prelude.{nat_lt}
use Rattle.list_values.proofs.Written.{text_literal_is}
use Rattle.list_values.proofs.literals.text_literal.Goals as goal

pub returns-clause-value : goal.returns-clause-value
returns-clause-value g c vs =
    text_literal_is c.args.limits.now c.args.text.now _ _ (c.constant-fault.ensures.value vs ∙ ap (nat_lt c.args.limits.now.cap) c.len.ensures) (c.in_ok-value.ensures.value vs)
