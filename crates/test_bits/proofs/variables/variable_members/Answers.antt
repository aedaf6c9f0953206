use Rattle.std.proofs.Common.{◌∙◌, ap, length}
use Rattle.input_space.specs.TaskParts.{task_with}
use Rattle.input_space.specs.Tasks.{tree_of}
use Rattle.selection_numbers.specs.MemberCounts.{member_counts}
use Rattle.selection_numbers.proofs.Counting.{counts_of_picks}
use Rattle.test_bits.proofs.variables.variable_members.Goals as goal

pub returns-clause-made : goal.returns-clause-made
returns-clause-made g c =
    let k = task_with c.args.task.now in
    let counts = c.in_ok-counts.ensures ∙ ap member_counts c.tree.ensures in
    record {
      owned = c.in_ok-ranged.ensures.owned;
      many = c.in_ok-ranged.ensures.many ∙ ap length counts ∙ counts_of_picks (tree_of k);
    }
