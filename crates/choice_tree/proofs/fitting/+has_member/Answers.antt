use Rattle.std.proofs.Common.{◌+◌, ◌||◌, arith, ap, ◌∙◌, sym}
use Rattle.choice_tree.specs.Selections.{has_member, any_of}
use Rattle.choice_tree.specs.WeightedTrees.{children}
use Rattle.choice_tree.specs.NodeViews.{node_of}
use Rattle.choice_tree.proofs.FittingLaws.{any_next, any_now, any_none, parts_have, pick_has}
use Rattle.choice_tree.proofs.Walking.{child_smaller, is_place}
use Rattle.choice_tree.proofs.fitting.+has_member.Goals as goal

pub has_member-returns-in-None : goal.has_member-returns-in-None
has_member-returns-in-None t c =
    c.part_has_member.ensures
    ∙ parts_have c.args.choice.pick c.args.choice.member (node_of c.args.node) c.in-None.ensures

pub has_member-returns-then-own_member : goal.has_member-returns-then-own_member
has_member-returns-then-own_member t c =
    ap (λ b. b || any_of (λ w. has_member w c.args.choice.pick c.args.choice.member)
    (children (node_of c.args.node))) c.if-own_member.ensures
    ∙ pick_has c.args.choice.pick c.args.choice.member
    (node_of c.args.node) c.in-Some.pick c.in-Some.ensures

pub has_member-returns-else-own_member : goal.has_member-returns-else-own_member
has_member-returns-else-own_member t c =
    c.part_has_member-else-own_member.ensures
    ∙ ap (λ b. b || any_of (λ w. has_member w c.args.choice.pick c.args.choice.member)
    (children (node_of c.args.node))) c.if-own_member.ensures
    ∙ pick_has c.args.choice.pick c.args.choice.member
    (node_of c.args.node) c.in-Some.pick c.in-Some.ensures

pub part_has_member-returns-in-None : goal.part_has_member-returns-in-None
part_has_member-returns-in-None t c =
    sym (c.parts.invariant
    ∙ any_none (λ w. has_member w c.args.choice.pick c.args.choice.member)
    (children (node_of c.args.node)) c.parts.i c.in-None.ensures.tree)

pub part_has_member-has_member-requires : goal.part_has_member-has_member-requires
part_has_member-has_member-requires t c =
    let less =
    child_smaller (node_of c.args.node) (node_of c.in-Some.part) c.parts.i
    c.in-Some.ensures.tree in
    (omega (arith, less), tt)

pub part_has_member-returns-then-has_member : goal.part_has_member-returns-then-has_member
part_has_member-returns-then-has_member t c =
    sym (c.parts.invariant
    ∙ any_now (λ w. has_member w c.args.choice.pick c.args.choice.member)
    (children (node_of c.args.node)) c.parts.i (node_of c.in-Some.part) c.in-Some.ensures.tree
    (sym c.if-has_member.ensures))

pub part_has_member-parts-smaller : goal.part_has_member-parts-smaller
part_has_member-parts-smaller t c =
    let below =
    is_place (children (node_of c.args.node)) c.parts.i (node_of c.in-Some.part)
    c.in-Some.ensures.tree in
    omega (arith, below)

pub part_has_member-parts-preserved : goal.part_has_member-parts-preserved
part_has_member-parts-preserved t c =
    c.parts.invariant
    ∙ any_next (λ w. has_member w c.args.choice.pick c.args.choice.member)
    (children (node_of c.args.node)) c.parts.i (c.parts.i + 1) (node_of c.in-Some.part)
    (omega arith) c.in-Some.ensures.tree (sym c.if-has_member.ensures)
