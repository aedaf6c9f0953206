use Rattle.std.proofs.Common.{◌∙◌}
use Rattle.bit_graph.specs.Gates.{reading}
use Rattle.bit_graph.proofs.ConjunctionLaws.{join_is}
use Rattle.bit_graph.proofs.graph.Graph.join.Goals as goal

pub returns-clause-value : goal.returns-clause-value
returns-clause-value c vs =
    let read = reading c.args.self.now vs in
    let test = c.and.ensures.extends.same c.args.c c.requires.test vs in
    let no = c.and.ensures.extends.same c.args.no c.requires.no vs in
    let first = c.and-2.ensures.extends.same c.in_ok-first.first c.in_ok-first.ensures.owned vs in
    c.not-4.ensures.value vs
    ∙ rw (c.in_ok-neither.ensures.value vs, c.not-2.ensures.value vs, c.not-3.ensures.value vs, first, c.in_ok-first.ensures.value vs, c.in_ok-second.ensures.value vs, c.not.ensures.value vs, test, no)
    (join_is (read c.args.c) (read c.args.yes) (read c.args.no))
