use Rattle.std.proofs.Common.{◌+◌, refl}
use Rattle.std.proofs.lemmas.Option.{slice_get_within}
use Rattle.input_space.specs.Inputs.{inputs}
use Rattle.test_picker.specs.Programs.{inputs_of, program_of}
use Rattle.test_picker.specs.Settings.{bounds_of, reference_of}
use Rattle.test_picker.proofs.MarkLaws.{known_case, new_case}
use Rattle.test_picker.proofs.blocks.Setting.mark_failing.Goals as goal

pub returns-in-Some : goal.returns-in-Some
returns-in-Some c =
    let s = c.args.self.now in
    let first = rw c.in-Some.is at c.in_ok-known.ensures.first in
    known_case (bounds_of s) (reference_of s) (program_of c.args.typed.now)
    (inputs_of c.args.cases.now) c.in-Some.known (c.in-Some.known + 1) refl first

pub case_at-requires-clause-within : goal.case_at-requires-clause-within
case_at-requires-clause-within c =
    slice_get_within (inputs c.args.self.now.bounds.now.params) c.args.place
    c.requires.first.input c.requires.first.stands

pub returns-in_ok-push-in-None : goal.returns-in_ok-push-in-None
returns-in_ok-push-in-None c =
    let s = c.args.self.now in
    let all = rw c.in-None.is at c.in_ok-known.ensures.first in
    new_case (bounds_of s) (reference_of s) (program_of c.args.typed.now) c.args.cases.now
    c.push.new.self c.in_ok-case-in-None.case c.args.place c.count.result all c.requires.first
    c.in_ok-case-in-None.ensures c.in_ok-push-in-None.ensures.more c.count.ensures.value
