-- The words of a request, as the program keeps them.
use Rattle.std.specs.Prelude.{map}
use Rattle.std.specs.String.{string_bytes}
use Rattle.check_core.specs.Requests.{check_of}
use Rattle.formula_commands.specs.Requests.{sat_of, unsat_of}
use Rattle.grade_core.specs.Requests.{grade_of}
use Rattle.list_command.specs.Requests.{all_of}
use Rattle.pick_command.specs.Requests.{pick_of}
use Rattle.grade_top.specs.Words.{RunWords, Command, Grade, Check, Run, Sample, All, Pick, Sat}
use Rattle.grade_top.specs.Words.{Unsat}
use Rattle.grade_top.specs.declared.words.RunWords as code_run
use Rattle.grade_top.specs.declared.words.Command as code_command

abbrev pub run_of : code_run.RunWords → RunWords
run_of w = record {
  bounds = w.bounds.now;
  program = w.program.now;
  values = map string_bytes w.values.now;
}

abbrev pub command_of : code_command.Command → Command
command_of (code_command.TheVariants.Grade w) = Grade (grade_of w)
command_of (code_command.TheVariants.Check w) = Check (check_of w)
command_of (code_command.TheVariants.Run w) = Run (run_of w)
command_of (code_command.TheVariants.Sample n) = Sample n
command_of (code_command.TheVariants.All w) = All (all_of w)
command_of (code_command.TheVariants.Pick w) = Pick (pick_of w)
command_of (code_command.TheVariants.Sat w) = Sat (sat_of w)
command_of (code_command.TheVariants.Unsat w) = Unsat (unsat_of w)
