use Rattle.std.proofs.Common.{◌∙◌, ap, length, arith}
use Rattle.choice_tree.specs.Choices.{member_of}
use Rattle.choice_tree.specs.StatementViews.{weighted_prog}
use Rattle.choice_tree.specs.WeightedTrees.{picks, size}
use Rattle.input_space.specs.TaskParts.{task_with}
use Rattle.selection_numbers.proofs.Counting.{counts_of_picks}
use Rattle.task_bits.proofs.FirstMembers.{few_nodes, one_pick_more}
use Rattle.task_bits.proofs.constants.constant_picks.Goals as goal

pub overflow_cast-i : goal.overflow_cast-i
overflow_cast-i g c =
    let w = weighted_prog c.tree.result.now in
    let few = c.few_picks.ensures w in
    let small = few_nodes (task_with c.args.task.now) c.is_sound.ensures in
    let nodes = ap size c.tree.ensures in
    let counts = ap length c.in_ok-counts.ensures in
    let len = c.len-i-end.ensures in
    let below = c.loop-i-test.true in omega arith

pub loop-i-preserved : goal.loop-i-preserved
loop-i-preserved g c =
    let read = rw c.member-member.ensures at c.in_ok-bits.ensures.value in
    one_pick_more (member_of c.args.selection.now) c.loop-i.i c.loop-i.picks c.push.new.self
    c.in_ok-bits.bits c.loop-i.invariant c.in_ok-bits.ensures.made read
    c.in_ok-push.ensures.ok

pub returns-clause-made : goal.returns-clause-made
returns-clause-made g c =
    let counts = ap length c.in_ok-counts.ensures
    ∙ counts_of_picks (weighted_prog c.tree.result.now) ∙ ap picks c.tree.ensures in
    let len = c.len-i-end.ensures in
    let all = c.loop-i-test.false in
    let most = c.loop-i.auto.i-end in
    let many = c.loop-i.invariant.many in
    record { owned = c.loop-i.invariant.owned; many = omega arith }

pub returns-clause-value : goal.returns-clause-value
returns-clause-value g c vs = record { member = c.loop-i.invariant.read vs }
