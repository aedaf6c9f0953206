use Rattle.std.proofs.Common.{◌∙◌, Bool, not, ap}
use Rattle.mpy_tree.specs.declared.value.Value.TheVariants as val
use Rattle.sym_values.specs.Reading.{sure}
use Rattle.sym_values.proofs.truth.negation.Goals as goal

pub returns-clause-value : goal.returns-clause-value
returns-clause-value g c vs v e =
    (c.constant-fault.ensures.value vs, ap (λ (b : Bool). sure (val.Bool b)) (c.not-bit.ensures.value vs ∙ ap not (c.in_ok-holds.ensures.value vs v e)))
