use Rattle.std.proofs.Common.{◌+◌, ◌++◌, suc, arith, ap, ◌∙◌, map, length}
use Rattle.choice_tree.specs.WeightedTrees.{children}
use Rattle.choice_tree.specs.NodeViews.{node_of}
use Rattle.choice_tree.specs.PickViews.{others_seen}
use Rattle.choice_tree.proofs.EditLaws.{on_ok, pushed_next, pushed_all, pushed_one}
use Rattle.choice_tree.proofs.Walking.{child_smaller, is_place}
use Rattle.selection_numbers.specs.MemberCounts.{member_counts, counts_of_each}
use Rattle.selection_numbers.proofs.Counting.{parts_counts, pick_counts}
use Rattle.selection_numbers.proofs.member_counts.+counts.Goals as goal

pub push_counts-returns-in-None : goal.push_counts-returns-in-None
push_counts-returns-in-None t c =
    on_ok c.push_parts.result
    (λ h. h ∙ ap (λ ns. map suc c.args.out.now.items ++ ns)
    (parts_counts (node_of c.args.node) c.in-None.ensures))
    c.push_parts.ensures

pub push_counts-returns-in_ok-push-in-Some : goal.push_counts-returns-in_ok-push-in-Some
push_counts-returns-in_ok-push-in-Some t c =
    on_ok c.push_parts-in-Some.result
    (λ h. h
    ∙ pushed_one suc c.args.out.now.items c.push.new.self.items
    c.len.result (suc (length (others_seen c.in-Some.pick)))
    (counts_of_each (children (node_of c.args.node))) c.in_ok-push-in-Some.ensures.items
    (ap suc c.len.ensures)
    ∙ ap (λ ns. map suc c.args.out.now.items ++ ns)
    (pick_counts (node_of c.args.node) c.in-Some.pick c.in-Some.ensures))
    c.push_parts-in-Some.ensures

pub push_parts-returns-in-None : goal.push_parts-returns-in-None
push_parts-returns-in-None t c =
    pushed_all member_counts (children (node_of c.args.node)) c.parts.i
    (map suc c.args.out.now.items ++ counts_of_each (children (node_of c.args.node)))
    (map suc c.parts.out.items) c.in-None.ensures.tree c.parts.invariant

pub push_parts-push_counts-requires : goal.push_parts-push_counts-requires
push_parts-push_counts-requires t c =
    let less =
    child_smaller (node_of c.args.node) (node_of c.in-Some.part) c.parts.i
    c.in-Some.ensures.tree in
    (omega (arith, less), tt)

pub push_parts-parts-smaller : goal.push_parts-parts-smaller
push_parts-parts-smaller t c =
    let below =
    is_place (children (node_of c.args.node)) c.parts.i (node_of c.in-Some.part)
    c.in-Some.ensures.tree in
    omega (arith, below)

pub push_parts-parts-preserved : goal.push_parts-parts-preserved
push_parts-parts-preserved t c =
    pushed_next member_counts (children (node_of c.args.node)) c.parts.i (c.parts.i + 1)
    (node_of c.in-Some.part)
    (map suc c.args.out.now.items ++ counts_of_each (children (node_of c.args.node)))
    (map suc c.parts.out.items) (map suc c.push_counts.new.out.items) (omega arith)
    c.in-Some.ensures.tree c.in_ok-push_counts-in-Some.ensures c.parts.invariant
