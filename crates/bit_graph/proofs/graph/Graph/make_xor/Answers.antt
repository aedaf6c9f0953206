use Rattle.std.proofs.Common.{◌∙◌}
use Rattle.bit_graph.specs.Gates.{reading}
use Rattle.bit_graph.proofs.ConjunctionLaws.{xor_is}
use Rattle.bit_graph.proofs.graph.Graph.make_xor.Goals as goal

pub returns-clause-value : goal.returns-clause-value
returns-clause-value c vs =
    let read = reading c.args.self.now vs in
    let left = c.and.ensures.extends.same c.args.a c.requires.left vs in
    let right = c.and.ensures.extends.same c.args.b c.requires.right vs in
    let both = c.and-2.ensures.extends.same c.in_ok-both.both c.in_ok-both.ensures.owned vs in
    c.in_ok-one.ensures.value vs
    ∙ rw (c.not-3.ensures.value vs, c.not-4.ensures.value vs, both, c.in_ok-both.ensures.value vs, c.in_ok-neither.ensures.value vs, c.not.ensures.value vs, c.not-2.ensures.value vs, left, right)
    (xor_is (read c.args.a) (read c.args.b))
