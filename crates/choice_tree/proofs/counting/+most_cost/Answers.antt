use Rattle.std.proofs.Common.{◌≡◌, ◌+◌, max, arith, ap, ◌∙◌, sym, drop}
use Rattle.choice_tree.specs.Selections.{most_cost, other_most_cost}
use Rattle.choice_tree.specs.Costs.{capped, sum_of}
use Rattle.choice_tree.specs.WeightedTrees.{children, nodes}
use Rattle.choice_tree.specs.WeightedViews.{members}
use Rattle.choice_tree.specs.NodeViews.{node_of}
use Rattle.choice_tree.specs.PickViews.{others_seen}
use Rattle.choice_tree.proofs.MostLaws.{most_of_parts, most_of_pick, most_next}
use Rattle.choice_tree.proofs.Walking.{child_smaller, is_place, member_smaller, sum_next, no_next}
use Rattle.choice_tree.proofs.counting.+most_cost.Goals as goal

pub capped_most-returns-in-None : goal.capped_most-returns-in-None
capped_most-returns-in-None t c =
    c.parts_most.ensures
    ∙ ap capped (sym (most_of_parts (node_of c.args.node) c.in-None.ensures))

pub capped_most-returns-in-Some : goal.capped_most-returns-in-Some
capped_most-returns-in-Some t c =
    c.pick_most.ensures
    ∙ ap capped (sym (most_of_pick (node_of c.args.node) c.in-Some.pick c.in-Some.ensures))

pub parts_most-parts-preserved : goal.parts_most-parts-preserved
parts_most-parts-preserved t c =
    let xs = children (node_of c.args.node) in
    let next =
    sum_next most_cost xs c.parts.i (c.parts.i + 1) (node_of c.in-Some.part) (omega arith)
    c.in-Some.ensures.tree in
    let one = c.capped_most.ensures in
    let sum = c.saturating_add-total.ensures in
    let step : capped (c.parts.total + sum_of most_cost (drop c.parts.i xs))
    ≡ capped (c.saturating_add-total.result + sum_of most_cost (drop (c.parts.i + 1) xs)) =
    omega (arith, next, one, sum) in
    record { whole = c.parts.invariant.whole ∙ step; fits = omega arith }

pub parts_most-parts-smaller : goal.parts_most-parts-smaller
parts_most-parts-smaller t c =
    let below =
    is_place (children (node_of c.args.node)) c.parts.i (node_of c.in-Some.part)
    c.in-Some.ensures.tree in
    omega (arith, below)

pub parts_most-capped_most-requires : goal.parts_most-capped_most-requires
parts_most-capped_most-requires t c =
    let less =
    child_smaller (node_of c.args.node) (node_of c.in-Some.part) c.parts.i
    c.in-Some.ensures.tree in
    (omega (arith, less), tt)

pub parts_most-returns-in-None : goal.parts_most-returns-in-None
parts_most-returns-in-None t c =
    let none = no_next (children (node_of c.args.node)) c.parts.i c.in-None.ensures.tree in
    let whole = rw none at c.parts.invariant.whole in
    let fits = c.parts.invariant.fits in
    omega (arith, whole, fits)

pub pick_most-capped_most-most-requires : goal.pick_most-capped_most-most-requires
pick_most-capped_most-most-requires t c =
    let base = ap nodes c.base.ensures in
    (omega (arith, base), tt)

pub pick_most-capped_most-requires : goal.pick_most-capped_most-requires
pick_most-capped_most-requires t c =
    let less =
    member_smaller (others_seen c.args.pick) c.loop-i.i (node_of c.tree.result) c.tree.ensures in
    (omega (arith, less), tt)

pub pick_most-loop-i-init : goal.pick_most-loop-i-init
pick_most-loop-i-init t c =
    let base = ap most_cost c.base.ensures in
    let most = c.capped_most-most.ensures in
    record { whole = omega (arith, base, most); fits = omega arith }

pub pick_most-loop-i-preserved : goal.pick_most-loop-i-preserved
pick_most-loop-i-preserved t c =
    let ms = others_seen c.args.pick in
    let i = c.loop-i.i in
    let next =
    most_next ms i (i + 1) c.cost.result (node_of c.tree.result) (omega arith) c.cost.ensures
    c.tree.ensures in
    let one = c.capped_most.ensures in
    let sum = c.saturating_add-cost.ensures in
    let greater = c.max-most.ensures in
    let fits = c.loop-i.invariant.fits in
    let step : capped (max c.loop-i.most (other_most_cost (members (drop i ms))))
    ≡ capped (max c.max-most.result (other_most_cost (members (drop (i + 1) ms)))) =
    omega (arith, next, one, sum, greater, fits) in
    record { whole = c.loop-i.invariant.whole ∙ step; fits = omega arith }
