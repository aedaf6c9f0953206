use Rattle.std.proofs.Common.{◌∙◌}
use Rattle.bit_graph.specs.Gates.{reading}
use Rattle.bit_graph.proofs.ConjunctionLaws.{xor_is}
use Rattle.bit_graph.proofs.graph.Graph.find_xor.Goals as goal

pub returns-clause-value : goal.returns-clause-value
returns-clause-value c vs =
    let read = reading c.args.self.now vs in
    c.in_ok-one.ensures.value vs
    ∙ rw (c.not-3.ensures.value vs, c.not-4.ensures.value vs, c.in_ok-both.ensures.value vs, c.in_ok-neither.ensures.value vs, c.not.ensures.value vs, c.not-2.ensures.value vs)
    (xor_is (read c.args.a) (read c.args.b))
