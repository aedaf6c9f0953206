-- a program that has failed stays so
use Rattle.std.proofs.Common.{subst}
use Rattle.test_picker.specs.Failing.{IsFirstFailure}
use Rattle.test_picker.specs.Programs.{program_of}
use Rattle.test_picker.specs.Settings.{bounds_of, reference_of}
use Rattle.test_picker.proofs.Failures.{stays}
use Rattle.test_picker.proofs.blocks.Setting.later.Goals as goal

pub returns-in-Some : goal.returns-in-Some
returns-in-Some c xs ys long block first =
    let s = c.args.self.now in
    let p = program_of c.args.program.now.typed.now in
    stays (bounds_of s) (reference_of s) p xs ys c.in-Some.found
    (subst (λ o. IsFirstFailure (bounds_of s) (reference_of s) p xs o) c.in-Some.is first)
