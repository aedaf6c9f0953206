use Rattle.std.proofs.Common.{◌≡◌, ◌+◌, arith, ap, ◌∙◌, sym, Some, None, drop, slice_get}
use Rattle.choice_tree.specs.Choices.{member_of}
use Rattle.choice_tree.specs.Selections.{cost, other_at}
use Rattle.choice_tree.specs.Costs.{capped, sum_of}
use Rattle.choice_tree.specs.WeightedTrees.{children}
use Rattle.choice_tree.specs.NodeViews.{node_of, pick_of}
use Rattle.choice_tree.specs.PickViews.{others_seen}
use Rattle.choice_tree.proofs.CostLaws.{cost_read, pick_cost}
use Rattle.choice_tree.proofs.Walking.{base_smaller, child_smaller, other_smaller, is_place}
use Rattle.choice_tree.proofs.Walking.{sum_next, no_next, parts_cost}
use Rattle.choice_tree.proofs.costing.+cost.Goals as goal

pub capped_cost-capped_cost-requires : goal.capped_cost-capped_cost-requires
capped_cost-capped_cost-requires t c =
    let less =
    base_smaller (node_of c.args.node) (node_of c.base.result) c.in-Some.pick c.in-Some.ensures
    c.base.ensures in
    (omega (arith, less), tt)

pub capped_cost-capped_cost-requires-in-Some-chosen : goal.capped_cost-capped_cost-requires-in-Some-chosen
capped_cost-capped_cost-requires-in-Some-chosen t c =
    let less =
    other_smaller (node_of c.args.node) (node_of c.tree.result) c.in-Some.pick c.in-Some-chosen.i
    c.in-Some.ensures c.tree.ensures in
    (omega (arith, less), tt)

pub capped_cost-returns-in-None : goal.capped_cost-returns-in-None
capped_cost-returns-in-None t c =
    c.parts_cost.ensures
    ∙ ap capped (sym (parts_cost (member_of c.args.s.now) (node_of c.args.node) c.in-None.ensures))

pub capped_cost-returns-in-None-chosen : goal.capped_cost-returns-in-None-chosen
capped_cost-returns-in-None-chosen t c =
    let m = member_of c.args.s.now in
    c.capped_cost.ensures
    ∙ ap (λ w. capped (cost m w)) c.base.ensures
    ∙ ap capped (sym (pick_cost m (node_of c.args.node) c.in-Some.pick None c.in-Some.ensures
    c.in-None-chosen.ensures.none))

pub capped_cost-returns-in-Some-chosen : goal.capped_cost-returns-in-Some-chosen
capped_cost-returns-in-Some-chosen t c =
    let m = member_of c.args.s.now in
    let pick = c.in-Some.pick in
    let i = c.in-Some-chosen.i in
    let at = ap (λ k. other_at k (others_seen pick)) (sym c.in-Some-chosen.ensures.is) in
    let whole =
    pick_cost m (node_of c.args.node) pick (slice_get (others_seen pick) i) c.in-Some.ensures at
    ∙ cost_read m (pick_of pick).base (slice_get (others_seen pick) i) c.cost.result
    (node_of c.tree.result) c.cost.ensures c.tree.ensures in
    let inner = c.capped_cost-in-Some-chosen.ensures in
    let all = c.saturating_add.ensures in
    omega (arith, whole, inner, all)

pub parts_cost-parts-preserved : goal.parts_cost-parts-preserved
parts_cost-parts-preserved t c =
    let f = cost (member_of c.args.s.now) in
    let xs = children (node_of c.args.node) in
    let next =
    sum_next f xs c.parts.i (c.parts.i + 1) (node_of c.in-Some.part) (omega arith)
    c.in-Some.ensures.tree in
    let one = c.capped_cost.ensures in
    let sum = c.saturating_add-total.ensures in
    let step : capped (c.parts.total + sum_of f (drop c.parts.i xs))
    ≡ capped (c.saturating_add-total.result + sum_of f (drop (c.parts.i + 1) xs)) =
    omega (arith, next, one, sum) in
    record { whole = c.parts.invariant.whole ∙ step; fits = omega arith }

pub parts_cost-parts-smaller : goal.parts_cost-parts-smaller
parts_cost-parts-smaller t c =
    let below =
    is_place (children (node_of c.args.node)) c.parts.i (node_of c.in-Some.part)
    c.in-Some.ensures.tree in
    omega (arith, below)

pub parts_cost-capped_cost-requires : goal.parts_cost-capped_cost-requires
parts_cost-capped_cost-requires t c =
    let less =
    child_smaller (node_of c.args.node) (node_of c.in-Some.part) c.parts.i
    c.in-Some.ensures.tree in
    (omega (arith, less), tt)

pub parts_cost-returns-in-None : goal.parts_cost-returns-in-None
parts_cost-returns-in-None t c =
    let none = no_next (children (node_of c.args.node)) c.parts.i c.in-None.ensures.tree in
    let whole = rw none at c.parts.invariant.whole in
    let fits = c.parts.invariant.fits in
    omega (arith, whole, fits)
