use Rattle.std.proofs.Common.{◌≡◌, ◌+◌, ◌-◌, ◌*◌, suc, drop, sym, ap, ◌∙◌, arith}
use Rattle.choice_tree.proofs.Walking.{child_smaller, is_place, no_next, sum_next}
use Rattle.choice_tree.specs.Costs.{sum_of}
use Rattle.choice_tree.specs.NodeViews.{node_of}
use Rattle.choice_tree.specs.StatementViews.{weighted_func}
use Rattle.choice_tree.specs.WeightedTrees.{children, nodes}
use Rattle.tree_weights.specs.Frames.{bodies_of, weight_in}
use Rattle.tree_weights.specs.Nodes.{called_by, loop_seen}
use Rattle.tree_weights.proofs.Arithmetic as arithmetic
use Rattle.tree_weights.proofs.FrameWeights.{entered, found_within, level_below, loop_left}
use Rattle.tree_weights.proofs.FrameWeights.{no_loop_left, same_nodes}
use Rattle.tree_weights.proofs.NodeWeights.{loop_smaller}
use Rattle.tree_weights.proofs.frame.Frame.+weighing.Goals as goal

pub after-returns-in-None : goal.after-returns-in-None
after-returns-in-None t c =
    no_loop_left c.args.self.now (node_of c.args.node) c.args.left c.node_weight.result
    c.less-own.result (called_by (bodies_of c.args.self.now) c.called.result)
    c.after_call-run.result c.after_children.result c.node_weight.ensures.weight
    c.less-own.ensures (c.called.ensures (bodies_of c.args.self.now)) c.after_call-run.ensures
    c.after_children.ensures c.in-None.ensures

pub after-returns-in-Some : goal.after-returns-in-Some
after-returns-in-Some t c =
    loop_left c.args.self.now (node_of c.args.node) (loop_seen c.in-Some.inner) c.args.left
    c.node_weight.result c.less-own.result c.after_loop.result c.node_weight.ensures.weight
    c.less-own.ensures c.after_loop.ensures c.in-Some.ensures

pub after-after_loop-requires : goal.after-after_loop-requires
after-after_loop-requires t c =
    let less =
    loop_smaller (node_of c.args.node) (loop_seen c.in-Some.inner) (sym c.in-Some.ensures) in
    let within = c.requires in
    (omega (arith, less), omega (arith, less, within))

pub after_children-returns-in-None : goal.after_children-returns-in-None
after_children-returns-in-None t c =
    let none = no_next (children (node_of c.args.node)) c.parts.i c.in-None.ensures.tree in
    let left = rw none at c.parts.invariant in
    omega (arith, left)

pub after_children-after-rest-requires : goal.after_children-after-rest-requires
after_children-after-rest-requires t c =
    let less =
    child_smaller (node_of c.args.node) (node_of c.in-Some.part) c.parts.i
    c.in-Some.ensures.tree in
    let within = c.requires in
    (omega (arith, less), omega (arith, less, within))

pub after_children-parts-smaller : goal.after_children-parts-smaller
after_children-parts-smaller t c =
    let below =
    is_place (children (node_of c.args.node)) c.parts.i (node_of c.in-Some.part)
    c.in-Some.ensures.tree in
    omega (arith, below)

pub after_children-parts-preserved : goal.after_children-parts-preserved
after_children-parts-preserved t c =
    let xs = children (node_of c.args.node) in
    let next =
    sum_next (weight_in c.args.self.now) xs c.parts.i (c.parts.i + 1) (node_of c.in-Some.part)
    (omega arith) c.in-Some.ensures.tree in
    let one = c.after-rest.ensures in
    let step : c.parts.rest - sum_of (weight_in c.args.self.now) (drop c.parts.i xs)
    ≡ c.after-rest.result - sum_of (weight_in c.args.self.now) (drop (c.parts.i + 1) xs) =
    omega (arith, next, one) in
    c.parts.invariant ∙ step

pub after_loop-returns : goal.after_loop-returns
after_loop-returns t c =
    let s = c.args.self.now in
    let r = loop_seen c.args.inner in
    c.less.ensures
    ∙ arithmetic.loop_left c.args.left (weight_in s r.head) (weight_in s r.body) s.step
    c.if_again-again.result s.program.limits.now.turns (c.args.left - c.after.result)
    c.after-behind.result c.args.inner.again s.program.limits.now.turns_range.0
    c.after-behind.ensures c.if_again-again.ensures
    (ap (λ n. c.args.left - n) (c.after.ensures
    ∙ ap (λ n. n - weight_in s r.body) c.less-before.ensures))

pub after_body-after-requires : goal.after_body-after-requires
after_body-after-requires t c =
    let s = c.args.self.now in
    let inner = c.new-frame.result in
    let same = c.new-frame.ensures.program in
    let small = found_within s c.args.f.now c.in-Some.found c.in-Some.ensures in
    let spans = same_nodes s inner same in
    let deeper : s.levels ≡ suc inner.levels = omega (arith, c.new-frame.ensures.levels) in
    let less =
    level_below s inner (4 * nodes (weighted_func c.in-Some.found.func.now) + 3) same deeper
    (omega (arith, small)) in
    (omega (arith, less), omega (arith, small, spans))

pub after_body-returns-in-Some : goal.after_body-returns-in-Some
after_body-returns-in-Some t c =
    let s = c.args.self.now in
    let inner = c.new-frame.result in
    c.after.ensures
    ∙ ap (λ n. c.args.left - n) (entered s.program c.args.f.now s.levels c.in-Some.found inner
    c.new-frame.ensures.program c.new-frame.ensures.number
    (omega (arith, c.new-frame.ensures.levels)) c.in-Some.ensures)
