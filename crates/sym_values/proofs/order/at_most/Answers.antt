use Rattle.std.proofs.Common.{Bool, not, ap, ◌∙◌}
use Rattle.mpy_tree.specs.declared.value.Value.TheVariants as val
use Rattle.bit_words.specs.Words.{int_read}
use Rattle.sym_values.specs.Reading.{sure}
use Rattle.sym_values.proofs.Numbers.{not_above}
use Rattle.sym_values.proofs.order.at_most.Goals as goal

pub returns-clause-value : goal.returns-clause-value
returns-clause-value g c vs l e = (
  c.constant-fault.ensures.value vs,
  ap (λ (b : Bool). sure (val.Bool b)) (c.not-holds.ensures.value vs ∙ ap not (c.in_ok-above.ensures.value vs) ∙ not_above (int_read g.L.Logic.reads c.args.g.now vs c.args.a.now) (int_read g.L.Logic.reads c.args.g.now vs c.args.b.now)),
)
