use Rattle.std.proofs.Common.{◌≤◌, ◌∙◌, List, Option, ap, arith, length, sym}
use Rattle.std.specs.Prelude.{is_some, option_map}
use Rattle.std.proofs.lemmas.Bool.{true≢false}
use Rattle.choice_tree.specs.declared.selection.Choice.{Choice}
use Rattle.input_space.specs.SelectionBits.{selection_at, selection_by}
use Rattle.input_space.specs.TaskParts.{task_with}
use Rattle.input_space.specs.Tasks.{tree_of}
use Rattle.selection_numbers.specs.MemberCounts.{member_counts}
use Rattle.query_build.proofs.Shifted.{members_behind}
use Rattle.query_build.proofs.building.decode_selection.Goals as goal

pub unreachable-requires : goal.unreachable-requires
unreachable-requires c =
    let w = tree_of (task_with c.args.t.now) in
    let v = c.args.v.now in
    let own = c.requires.own in
    let some : 1 ≤ length v = omega arith in
    let e = c.in_ok-selection.ensures ∙ ap (λ u. selection_at u v 1) c.tree-tree.ensures
    ∙ ap (option_map (selection_by w)) (members_behind (member_counts w) v some) in
    let none = sym c.in-None.is ∙ e in
    true≢false (sym c.requires.spelled ∙ sym (ap (λ (o : Option (List Choice)). is_some o) none))

pub returns : goal.returns
returns c =
    let w = tree_of (task_with c.args.t.now) in
    let v = c.args.v.now in
    let own = c.requires.own in
    let some : 1 ≤ length v = omega arith in
    let e = c.in_ok-selection.ensures ∙ ap (λ u. selection_at u v 1) c.tree-tree.ensures
    ∙ ap (option_map (selection_by w)) (members_behind (member_counts w) v some) in
    sym (sym c.in-Some.is ∙ e)
