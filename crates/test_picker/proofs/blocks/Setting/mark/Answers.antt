use Rattle.std.proofs.Common.{subst}
use Rattle.input_space.specs.Inputs.{inputs}
use Rattle.test_picker.specs.Failing.{IsFirstFailure}
use Rattle.test_picker.specs.Programs.{inputs_of, program_of}
use Rattle.test_picker.specs.Settings.{bounds_of, reference_of}
use Rattle.test_picker.proofs.MarkLaws.{agreed}
use Rattle.test_picker.proofs.blocks.Setting.mark.Goals as goal

pub returns-in-None : goal.returns-in-None
returns-in-None c =
    let s = c.args.self.now in
    let p = program_of c.args.typed.now in
    agreed (bounds_of s) (reference_of s) p (inputs_of c.args.cases.now)
    (subst (λ o. IsFirstFailure (bounds_of s) (reference_of s) p (inputs s.bounds.now.params) o)
    c.in-None.is c.requires.first)

pub mark_failing-requires-clause-first : goal.mark_failing-requires-clause-first
mark_failing-requires-clause-first c =
    let s = c.args.self.now in
    let p = program_of c.args.typed.now in
    subst (λ o. IsFirstFailure (bounds_of s) (reference_of s) p (inputs s.bounds.now.params) o)
    c.in-Some.is c.requires.first
