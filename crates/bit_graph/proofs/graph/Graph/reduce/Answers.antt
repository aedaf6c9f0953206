use Rattle.std.proofs.Common.{◌≡◌, ◌∙◌, length, [], subst}
use Rattle.bit_graph.specs.Rules.{IsNeeded}
use Rattle.bit_graph.specs.Gates.{reading, values_after}
use Rattle.bit_graph.proofs.ConjunctionLaws.{replaced}
use Rattle.bit_graph.proofs.graph.Graph.reduce.Goals as goal

pub returns-in-Some-simplify-clause-value : goal.returns-in-Some-simplify-clause-value
returns-in-Some-simplify-clause-value c vs =
    let read = reading c.args.self.now vs in
    c.in-Some-simplify.ensures.value vs
    ∙ replaced (read c.args.a) (read c.args.b) (read c.shorten-right.result) (read c.shorten-left.result) (c.shorten-right.ensures.value vs) (c.shorten-left.ensures.value vs)

pub returns-clause-inside : goal.returns-clause-inside
returns-clause-inside c =
    let open_pair = c.in_default-simplify.ensures.open in
    c.in_order.ensures.gate c.args.self.now.variables (length c.args.self.now.gates) c.shorten-left.ensures.owned.below c.shorten-right.ensures.owned.below open_pair.left_open open_pair.right_open

pub returns-clause-value : goal.returns-clause-value
returns-clause-value c vs =
    let read = reading c.args.self.now vs in
    c.in_order.ensures.value vs (values_after vs [] c.args.self.now.gates)
    ∙ replaced (read c.args.a) (read c.args.b) (read c.shorten-right.result) (read c.shorten-left.result) (c.shorten-right.ensures.value vs) (c.shorten-left.ensures.value vs)

pub returns-clause-needed : goal.returns-clause-needed
returns-clause-needed c x e =
    let same : c.in_order.result ≡ x = cc in
    subst (IsNeeded c.args.self.now c.args.a c.args.b) same (record {
      whole = c.in_default.ensures.open;
      right = c.shorten-right.result;
      left = c.shorten-left.result;
      right_short = c.shorten-right.ensures.exact;
      left_short = c.shorten-left.ensures.exact;
      short = c.in_default-simplify.ensures.open;
      joins = c.in_order.ensures.joins;
      ordered = c.in_order.ensures.ordered;
    })
