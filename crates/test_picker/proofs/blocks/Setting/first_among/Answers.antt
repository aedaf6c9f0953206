-- a case on which the program doesn't fail, and the end
use Rattle.std.proofs.Common.{◌≡◌, ◌∙◌, Some, ap, arith, length, subst, sym}
use Rattle.std.specs.Prelude.{All}
use Rattle.std.proofs.lemmas.Bool.{true≢false}
use Rattle.std.proofs.lemmas.List.{length-map, take_all}
use Rattle.std.proofs.lemmas.Option.{slice_get-get_or}
use Rattle.input_space.specs.declared.case.Case.{Case}
use Rattle.input_space.specs.Agreement.{EndsAlike}
use Rattle.test_picker.specs.Programs.{inputs_of, program_of}
use Rattle.test_picker.specs.Settings.{bounds_of, reference_of}
use Rattle.test_picker.proofs.BlockLaws.{input_at}
use Rattle.test_picker.proofs.Places.{all_more}
use Rattle.test_picker.proofs.blocks.Setting.first_among.Goals as goal

pub loop-i-preserved : goal.loop-i-preserved
loop-i-preserved c =
    let s = c.args.self.now in
    let cs = c.args.cases.now in
    let item = c.case-item.result in
    let at = rw c.items-case-items.ensures at
    (slice_get-get_or c.items-case-items.result.now c.loop-i.i item c.loop-i-test.true
    ∙ ap (λ v. Some v) (sym c.case-item.is)) in
    all_more (EndsAlike (bounds_of s) (reference_of s) (program_of c.args.typed.now)) (inputs_of cs)
    c.loop-i.i item.values (input_at cs c.loop-i.i item at) c.loop-i.invariant
    (c.in_ok-meets.ensures.0 c.if-not-branch.false)

pub returns-then-not-branch-clause-first : goal.returns-then-not-branch-clause-first
returns-then-not-branch-clause-first c =
    let cs = c.args.cases.now in
    let item = c.case-item.result in
    let at = rw c.items-case-items.ensures at
    (slice_get-get_or c.items-case-items.result.now c.loop-i.i item c.loop-i-test.true
    ∙ ap (λ v. Some v) (sym c.case-item.is)) in
    record {
      input = item.values;
      stands = input_at cs c.loop-i.i item at;
      fails = λ alike. true≢false (sym (c.in_ok-meets.ensures.1 alike) ∙ c.if-not-branch.true);
      before = c.loop-i.invariant;
    }

pub returns-clause-first : goal.returns-clause-first
returns-clause-first c =
    let s = c.args.self.now in
    let cs = c.args.cases.now in
    let many : length (inputs_of cs) ≡ length cs = length-map cs (λ (d : Case). d.values) in
    let past = rw c.items-case-items.ensures at c.loop-i-test.false in
    subst (All (EndsAlike (bounds_of s) (reference_of s) (program_of c.args.typed.now)))
    (take_all c.loop-i.i (inputs_of cs) (omega (arith, many, past))) c.loop-i.invariant
