use Rattle.std.proofs.Common.{◌≡◌, ◌+◌, ◌*◌, ◌≤◌, arith, ap, ◌∙◌, sym, drop}
use Rattle.std.proofs.Math.Nat.{mul-one, one-le-mul}
use Rattle.choice_tree.specs.Selections.{choices, stopped}
use Rattle.choice_tree.specs.Costs.{product_of}
use Rattle.choice_tree.specs.WeightedTrees.{children}
use Rattle.choice_tree.specs.NodeViews.{node_of}
use Rattle.choice_tree.proofs.CountLaws.{next_choices, parts_choices, pick_choices, some_choices}
use Rattle.choice_tree.proofs.Walking.{child_smaller, is_place, no_next}
use Rattle.choice_tree.proofs.counting.+choices.Goals as goal

pub part_choices-returns-in-None : goal.part_choices-returns-in-None
part_choices-returns-in-None t c =
    let none = no_next (children (node_of c.args.node)) c.parts.i c.in-None.ensures.tree in
    let few = c.parts.invariant.few in
    let left : stopped (c.parts.total * product_of choices
    (drop c.parts.i (children (node_of c.args.node)))) ≡ c.parts.total =
    rw (none, mul-one c.parts.total) (omega (arith, few)) in
    sym (c.parts.invariant.whole ∙ left)

pub part_choices-stopped_choices-requires : goal.part_choices-stopped_choices-requires
part_choices-stopped_choices-requires t c =
    let less =
    child_smaller (node_of c.args.node) (node_of c.in-Some.part) c.parts.i
    c.in-Some.ensures.tree in
    (omega (arith, less), tt)

pub part_choices-parts-smaller : goal.part_choices-parts-smaller
part_choices-parts-smaller t c =
    let below =
    is_place (children (node_of c.args.node)) c.parts.i (node_of c.in-Some.part)
    c.in-Some.ensures.tree in
    omega (arith, below)

pub part_choices-parts-preserved : goal.part_choices-parts-preserved
part_choices-parts-preserved t c =
    let x = choices (node_of c.in-Some.part) in
    let same : c.parts.total * c.stopped_choices.result ≡ c.parts.total * stopped x =
    ap (λ n. c.parts.total * n) c.stopped_choices.ensures in
    let made : c.min-total.result ≡ stopped (c.parts.total * stopped x) = omega (arith, same) in
    let one = some_choices (node_of c.in-Some.part) in
    let part : 1 ≤ stopped x = omega (arith, one) in
    let whole : 1 ≤ c.parts.total * stopped x = one-le-mul c.parts.invariant.some part in
    let next =
    next_choices c.parts.total c.parts.i (c.parts.i + 1) (children (node_of c.args.node))
    (node_of c.in-Some.part) c.parts.invariant.some (omega arith) c.in-Some.ensures.tree in
    record {
      whole = rw made (c.parts.invariant.whole ∙ next);
      some = rw made (omega (arith, whole));
      few = rw made (omega arith);
    }

pub stopped_choices-returns-in-None : goal.stopped_choices-returns-in-None
stopped_choices-returns-in-None t c =
    c.part_choices.ensures ∙ ap stopped (parts_choices (node_of c.args.node) c.in-None.ensures)

pub stopped_choices-returns-in-Some : goal.stopped_choices-returns-in-Some
stopped_choices-returns-in-Some t c =
    c.part_choices-in-Some.ensures
    ∙ ap (λ n. stopped (n * product_of choices (children (node_of c.args.node))))
    c.members_of.ensures
    ∙ pick_choices (node_of c.args.node) c.in-Some.pick c.in-Some.ensures
