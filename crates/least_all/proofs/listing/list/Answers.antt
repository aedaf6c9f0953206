-- one selection after the other
use Rattle.std.proofs.Common.{◌≡◌, ◌∙◌, ℕ, ◌+◌, ◌<◌, ◌≤◌, List, [], ◌∷◌, ◌++◌, arith, length, refl, subst, sym, take}
use Rattle.std.proofs.lemmas.List.{take_all}
use Rattle.choice_tree.specs.declared.selection.Choice.{Choice}
use Rattle.choice_tree.specs.Selections.{Fits}
use Rattle.input_space.specs.declared.task.TaskParts.{TaskParts}
use Rattle.input_space.specs.Tasks.{tree_of}
use Rattle.input_space.specs.TaskParts.{task_with}
use Rattle.least_all.specs.Answers.{IsSpent}
use Rattle.least_all.specs.Listings.{HasBest, selections_in}
use Rattle.least_all.proofs.Bests.{listed_part, listed_whole}
use Rattle.least_all.proofs.Programs.{all_make}
use Rattle.least_all.proofs.Stepping.{asked_next, asked_within, best_next, if_listed}
use Rattle.least_all.proofs.listing.list.Goals as goal

pub add-requires-clause-fits : goal.add-requires-clause-fits
add-requires-clause-fits c =
    let inv = c.loop-selection.invariant in
    let ss = c.args.selections.now in
    let i = c.loop-selection.selection-index in
    let s = c.selection-item.result in
    let within : i < length ss = omega arith in
    subst (λ (t : TaskParts). Fits (tree_of (task_with t)) s) (sym inv.same_task)
    (subst (λ (r : List Choice). Fits (tree_of (task_with c.args.task.now)) r) (sym c.selection-item.is) (c.requires.fits i s within))

pub returns-then-not-branch : goal.returns-then-not-branch
returns-then-not-branch c =
    let inv = c.loop-selection.invariant in
    let ss = c.args.selections.now in
    let i = c.loop-selection.selection-index in
    let s = c.selection-item.result in
    let new = c.add.new.self in
    let within : i < length ss = omega arith in
    let task : new.runs.task.now ≡ c.args.task.now = c.in_ok-add.ensures.topic.task ∙ inv.same_task in
    let budget : new.questions.budget ≡ c.args.budget = c.in_ok-add.ensures.topic.budget ∙ inv.same_budget in
    let asked = asked_next ss i s c.loop-selection.listing.questions.sessions new.questions.sessions within c.selection-item.is c.requires.different c.in_ok-add.ensures.asked inv.asked in
    let xs = c.into_sessions-sessions.result in
    subst (λ (n : ℕ). IsSpent (task_with c.args.task.now) ss n xs) budget
    (subst (λ (t : TaskParts). IsSpent (task_with t) ss new.questions.budget xs) task
    (c.into_sessions-sessions.ensures ss (asked_within (i + 1) ss new.questions.sessions asked)))

pub returns-then-len-most : goal.returns-then-len-most
returns-then-len-most c =
    let k = task_with c.args.task.now in
    let inv = c.loop-selection.invariant in
    let ss = c.args.selections.now in
    let i = c.loop-selection.selection-index in
    let s = c.selection-item.result in
    let old = c.loop-selection.listing.found.items in
    let new = c.add.new.self.found.items in
    let within : i < length ss = omega arith in
    let many : c.args.most < length new = omega arith in
    let make = all_make c.selections_make_programs.ensures k c.tree-tree.result.now c.tree-tree.ensures in
    let more : (done : List (List Choice)) → HasBest k done old → HasBest k (done ++ s ∷ []) new =
    subst (λ (t : TaskParts). (done : List (List Choice)) → HasBest (task_with t) done old → HasBest (task_with t) (done ++ s ∷ []) new) inv.same_task
    (rw c.if-not-branch.false at c.in_ok-add.ensures.best) in
    let best = best_next k ss i s old new within c.selection-item.is more inv.best in
    if_listed k ss c.args.most c.args.budget _ _ c.listed.result c.listed.ensures
    (listed_part k make c.agreement_is_decided.ensures (i + 1) ss new c.args.most (take c.args.most (selections_in new)) best many refl)

pub loop-selection-preserved : goal.loop-selection-preserved
loop-selection-preserved c =
    let k = task_with c.args.task.now in
    let inv = c.loop-selection.invariant in
    let ss = c.args.selections.now in
    let i = c.loop-selection.selection-index in
    let s = c.selection-item.result in
    let old = c.loop-selection.listing.found.items in
    let new = c.add.new.self.found.items in
    let within : i < length ss = omega arith in
    let few : length new ≤ c.args.most = omega arith in
    let more : (done : List (List Choice)) → HasBest k done old → HasBest k (done ++ s ∷ []) new =
    subst (λ (t : TaskParts). (done : List (List Choice)) → HasBest (task_with t) done old → HasBest (task_with t) (done ++ s ∷ []) new) inv.same_task
    (rw c.if-not-branch.false at c.in_ok-add.ensures.best) in
    record {
      listing = c.in_ok-add.ensures.listing;
      same_task = c.in_ok-add.ensures.topic.task ∙ inv.same_task;
      same_budget = c.in_ok-add.ensures.topic.budget ∙ inv.same_budget;
      best = best_next k ss i s old new within c.selection-item.is more inv.best;
      asked = asked_next ss i s c.loop-selection.listing.questions.sessions c.add.new.self.questions.sessions within c.selection-item.is c.requires.different c.in_ok-add.ensures.asked inv.asked;
      few = few;
    }

pub returns : goal.returns
returns c =
    let k = task_with c.args.task.now in
    let inv = c.loop-selection.invariant in
    let ss = c.args.selections.now in
    let i = c.loop-selection.selection-index in
    let fs = c.loop-selection.listing.found.items in
    let all : length ss ≤ i = omega arith in
    let make = all_make c.selections_make_programs.ensures k c.tree-tree.result.now c.tree-tree.ensures in
    let best : HasBest k ss fs = subst (λ done. HasBest k done fs) (take_all i ss all) inv.best in
    if_listed k ss c.args.most c.args.budget _ _ c.listed-2.result c.listed-2.ensures
    (listed_whole k make c.agreement_is_decided.ensures ss fs c.args.most (take c.args.most (selections_in fs)) best inv.few refl)
