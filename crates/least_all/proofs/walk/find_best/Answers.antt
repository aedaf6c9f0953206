-- the live selections are listed, unless they are too many
use Rattle.std.proofs.Common.{◌≡◌, ◌≢◌, ◌∙◌, ◌<◌, List, ap, arith, subst, sym}
use Rattle.std.specs.Prelude.{All, AllPairs}
use Rattle.choice_tree.specs.declared.selection.Choice.{Choice}
use Rattle.choice_tree.specs.Selections.{Fits}
use Rattle.choice_tree.specs.StatementViews.{weighted_prog}
use Rattle.cost_levels.specs.Counts.{count_most}
use Rattle.input_space.specs.TaskParts.{task_with}
use Rattle.input_space.specs.Tasks.{tree_of}
use Rattle.least_all.specs.Answers.{live_at}
use Rattle.least_all.proofs.LiveFits.{live_fit}
use Rattle.least_all.proofs.Walked.{best_is, few_live, live_apart, live_are}
use Rattle.least_all.proofs.walk.find_best.Goals as goal

pub list-requires-clause-fits : goal.list-requires-clause-fits
list-requires-clause-fits c =
    let k = task_with c.args.t.now in
    let n = c.args.cost in
    let w = weighted_prog c.in_ok-levels.levels in
    let same : w ≡ tree_of k = ap weighted_prog c.in_ok-levels.ensures ∙ c.tree.ensures in
    let are : c.deref.result.now ≡ live_at k n = c.deref.ensures.value ∙ live_are k w n c.in_ok-selections.selections.items c.in_ok-selections.ensures same in
    subst (λ (ss : List (List Choice)). All (Fits (tree_of k)) ss) (sym are) (live_fit k n)

pub list-requires-clause-different : goal.list-requires-clause-different
list-requires-clause-different c =
    let k = task_with c.args.t.now in
    let n = c.args.cost in
    let w = weighted_prog c.in_ok-levels.levels in
    let same : w ≡ tree_of k = ap weighted_prog c.in_ok-levels.ensures ∙ c.tree.ensures in
    let are : c.deref.result.now ≡ live_at k n = c.deref.ensures.value ∙ live_are k w n c.in_ok-selections.selections.items c.in_ok-selections.ensures same in
    subst (λ (ss : List (List Choice)). AllPairs (λ (r s : List Choice). r ≢ s) ss) (sym are) (live_apart c.levels_rise.ensures k n)

pub returns : goal.returns
returns c =
    let k = task_with c.args.t.now in
    let n = c.args.cost in
    let w = weighted_prog c.in_ok-levels.levels in
    let same : w ≡ tree_of k = ap weighted_prog c.in_ok-levels.ensures ∙ c.tree.ensures in
    let are : c.deref.result.now ≡ live_at k n = c.deref.ensures.value ∙ live_are k w n c.in_ok-selections.selections.items c.in_ok-selections.ensures same in
    let few : c.in_ok-count.count < count_most = omega arith in
    best_is k n c.args.most c.args.budget c.deref.result.now c.list.result are
    (few_live k w n c.in_ok-count.count c.in_ok-count.ensures same few) c.list.ensures
