-- the cases up to the first that isn't an input on which the reference gives a value
use Rattle.std.proofs.Common.{◌≡◌, ◌∙◌, List, Some, ap, arith, length, refl, slice_get, subst, sym}
use Rattle.std.specs.List.{Contains}
use Rattle.std.specs.Prelude.{All}
use Rattle.std.proofs.lemmas.Bool.{false≢true}
use Rattle.std.proofs.lemmas.List.{take_all}
use Rattle.std.proofs.lemmas.Option.{slice_get_read}
use Rattle.input_space.specs.declared.case.Case.{Case}
use Rattle.input_space.specs.TaskParts.{task_with}
use Rattle.input_space.specs.TaskSpace.{wanted_inputs}
use Rattle.certificate_judge.proofs.WantedLaws.{all_more, first_off}
use Rattle.certificate_judge.proofs.form.first_wrong.Goals as goal

pub returns-then-not-branch : goal.returns-then-not-branch
returns-then-not-branch c =
    let k = task_with c.args.t.now in
    let xs = c.items-cases.result.now in
    let x = c.index-cases-i.result in
    let n : length xs ≡ length c.args.c.now.cases = ap (λ (ys : List Case). length ys) c.items-cases.ensures in
    let here : slice_get xs c.loop-i.i ≡ Some x =
    slice_get_read xs (length xs) c.loop-i.i x refl (omega (arith, c.loop-i-test.true, c.count-i-end.ensures.value, n)) c.index-cases-i.is in
    first_off k c.args.c.now c.loop-i.i x (rw c.items-cases.ensures at here) (rw c.items-cases.ensures at c.loop-i.invariant)
    (λ wanted. false≢true (sym c.if-not-branch.true ∙ c.in_ok-is_wanted.ensures.1 wanted))

pub loop-i-preserved : goal.loop-i-preserved
loop-i-preserved c =
    let k = task_with c.args.t.now in
    let xs = c.items-cases.result.now in
    let x = c.index-cases-i.result in
    let n : length xs ≡ length c.args.c.now.cases = ap (λ (ys : List Case). length ys) c.items-cases.ensures in
    let here : slice_get xs c.loop-i.i ≡ Some x =
    slice_get_read xs (length xs) c.loop-i.i x refl (omega (arith, c.loop-i-test.true, c.count-i-end.ensures.value, n)) c.index-cases-i.is in
    all_more (Contains (wanted_inputs k)) xs c.loop-i.i x here c.loop-i.invariant (c.in_ok-is_wanted.ensures.0 c.if-not-branch.false)

pub returns : goal.returns
returns c =
    let k = task_with c.args.t.now in
    let xs = c.items-cases.result.now in
    let n : length xs ≡ length c.args.c.now.cases = ap (λ (ys : List Case). length ys) c.items-cases.ensures in
    let whole = take_all c.loop-i.i xs (omega (arith, c.loop-i-test.false, c.count-i-end.ensures.value, n)) in
    subst (λ (ys : List Case). All (Contains (wanted_inputs k)) ys) c.items-cases.ensures
    (subst (λ (ys : List Case). All (Contains (wanted_inputs k)) ys) whole c.loop-i.invariant)
