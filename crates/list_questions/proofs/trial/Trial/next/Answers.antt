-- the next selection that agrees, level after level
use Rattle.std.proofs.Common.{◌≡◌, ◌∙◌, ◌+◌, List, Some, ap, arith, length, refl, slice_get, subst, sym, true}
use Rattle.std.specs.List.Sorted.{IsPermutation}
use Rattle.std.proofs.lemmas.Option.{slice_get_read}
use Rattle.choice_tree.specs.declared.selection.Choice.{Choice}
use Rattle.choice_tree.specs.WeightedTrees.{Weighted}
use Rattle.cost_levels.specs.Levels.{level}
use Rattle.input_space.specs.TaskParts.{task_with}
use Rattle.list_questions.specs.declared.trial.Reached.{Reached}
use Rattle.list_questions.specs.Trials.{StopsAt}
use Rattle.input_space.proofs.Elements.{contained_at}
use Rattle.list_questions.proofs.TrialLaws.{found_low, next_reached, none_left, none_within, passed_to}
use Rattle.list_questions.proofs.trial.Trial.next.Goals as goal

pub returns-then-is_beyond-clause-found : goal.returns-then-is_beyond-clause-found
returns-then-is_beyond-clause-found c =
    none_within (task_with c.args.self.now.runs.task.now) c.args.self.now.kept.now c.levels.reached c.args.most c.levels.invariant
    (c.is_beyond.ensures.0 c.if-is_beyond.true)

pub returns-then-reached-len-clause-found : goal.returns-then-reached-len-clause-found
returns-then-reached-len-clause-found c =
    let k = task_with c.args.self.now.runs.task.now in
    let xs = c.args.self.now.kept.now in
    let r = c.levels.reached in
    let place = c.in_ok-reached.field-0 in
    let stops : StopsAt k xs r.level.items r.passed place =
    subst (λ (ss : List (List Choice)). StopsAt k xs ss r.passed place) c.as_slice.ensures.value c.in_ok-reached.ensures in
    let s = c.in_ok-copy.field-0 in
    let below = c.if-reached-len.true in
    let len = c.len.ensures in
    let read : slice_get r.level.items place ≡ Some c.index.result.now =
    slice_get_read r.level.items (length r.level.items) place c.index.result.now refl (omega (arith, below, len)) c.index.ensures in
    let at : slice_get r.level.items place ≡ Some s = read ∙ ap Some (sym c.in_ok-copy.ensures) in
    found_low k xs r c.args.most s c.levels.invariant (contained_at r.level.items place s at)
    (λ beyond. let holds : c.is_beyond.result ≡ true = c.is_beyond.ensures.1 beyond in let off = c.if-is_beyond.false in cc)
    (stops.agrees s at)

pub returns-then-self-reached-clause-found : goal.returns-then-self-reached-clause-found
returns-then-self-reached-clause-found c =
    let k = task_with c.args.self.now.runs.task.now in
    let xs = c.args.self.now.kept.now in
    let r = c.levels.reached in
    let place = c.in_ok-reached.field-0 in
    let stops : StopsAt k xs r.level.items r.passed place =
    subst (λ (ss : List (List Choice)). StopsAt k xs ss r.passed place) c.as_slice.ensures.value c.in_ok-reached.ensures in
    let now : Reached = record { cost = r.cost; level = r.level; passed = place } in
    let past = c.if-reached-len.false in
    let len = c.len.ensures in
    let last = c.if-self-reached.true in
    let most = c.requires.trial.last_is in
    none_left k xs now c.args.most (passed_to k xs r place c.levels.invariant stops) (omega (arith, past, len)) (omega (arith, last, most))

pub levels-preserved : goal.levels-preserved
levels-preserved c =
    let k = task_with c.args.self.now.runs.task.now in
    let xs = c.args.self.now.kept.now in
    let r = c.levels.reached in
    let place = c.in_ok-reached.field-0 in
    let stops : StopsAt k xs r.level.items r.passed place =
    subst (λ (ss : List (List Choice)). StopsAt k xs ss r.passed place) c.as_slice.ensures.value c.in_ok-reached.ensures in
    let now : Reached = record { cost = r.cost; level = r.level; passed = place } in
    let new = c.in_ok-reached-2.field-0 in
    let past = c.if-reached-len.false in
    let len = c.len.ensures in
    next_reached k xs now new (passed_to k xs r place c.levels.invariant stops) (omega (arith, past, len)) c.in_ok-reached-2.ensures.cost
    (subst (λ (w : Weighted). IsPermutation (level w (r.cost + 1)) new.level.items) c.requires.trial.tree_is c.in_ok-reached-2.ensures.level)
    c.in_ok-reached-2.ensures.passed
