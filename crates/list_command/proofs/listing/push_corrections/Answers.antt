-- one correction after the other
use Rattle.std.proofs.Common.{◌≤◌, List, length, subst, sym}
use Rattle.std.proofs.lemmas.List.{take_all}
use Rattle.choice_tree.specs.declared.selection.Choice.{Choice}
use Rattle.choice_tree.specs.Selections.{Fits}
use Rattle.input_space.specs.TaskParts.{task_with}
use Rattle.input_space.specs.Tasks.{tree_of}
use Rattle.list_command.specs.Reports.{ListsChanges}
use Rattle.list_command.proofs.Listed.{lists_more, lists_none}
use Rattle.list_command.proofs.listing.push_corrections.Goals as goal

pub loop-i-init : goal.loop-i-init
loop-i-init c = lists_none (task_with c.args.task.now) c.args.picks.now c.args.out.now.items

pub push_correction-requires : goal.push_correction-requires
push_correction-requires c =
    subst (λ (s : List Choice). Fits (tree_of (task_with c.args.task.now)) s) (sym c.index-picks-i.is)
    (c.requires c.loop-i.i c.index-picks-i.result c.loop-i-test.true)

pub loop-i-preserved : goal.loop-i-preserved
loop-i-preserved c =
    lists_more (task_with c.args.task.now) c.args.picks.now c.loop-i.i c.index-picks-i.result c.args.out.now.items c.loop-i.out.items
    c.push_number.new.out.items c.push_correction.new.out.items c.loop-i-test.true c.index-picks-i.is c.loop-i.invariant
    c.in_ok-push_number.ensures c.in_ok-push_correction.ensures

pub returns : goal.returns
returns c =
    let all : length c.args.picks.now ≤ c.loop-i.i = c.loop-i-test.false in
    subst (λ (ss : List (List Choice)). ListsChanges (task_with c.args.task.now) ss c.args.out.now.items c.loop-i.out.items)
    (take_all c.loop-i.i c.args.picks.now all) c.loop-i.invariant
