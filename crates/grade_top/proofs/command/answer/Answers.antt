-- each command ends as its own call does
use Rattle.std.specs.String.{string_bytes}
use Rattle.file_commands.proofs.Calling.{no_calls}
use Rattle.grade_top.specs.Commands.{file_command}
use Rattle.grade_top.specs.Requests.{command_of}
use Rattle.grade_top.proofs.KnownLengths.{few_before}
use Rattle.grade_top.proofs.command.answer.Goals as goal

pub grade-requires : goal.grade-requires
grade-requires g c = (rw c.in-Grade.is at c.requires.asks).1

pub returns-in-Grade-clause-ends : goal.returns-in-Grade-clause-ends
returns-in-Grade-clause-ends g c = rw c.in-Grade.is c.grade.ensures.ends

pub returns-in-Grade-clause-calls : goal.returns-in-Grade-clause-calls
returns-in-Grade-clause-calls g c = rw c.in-Grade.is c.grade.ensures.calls

pub returns-in-Check-clause-ends : goal.returns-in-Check-clause-ends
returns-in-Check-clause-ends g c = rw c.in-Check.is c.check.ensures.ends

pub returns-in-Check-clause-calls : goal.returns-in-Check-clause-calls
returns-in-Check-clause-calls g c = rw c.in-Check.is c.check.ensures.calls

pub returns-in-Run-clause-ends : goal.returns-in-Run-clause-ends
returns-in-Run-clause-ends g c = rw c.in-Run.is c.run_command.ensures.ends

pub returns-in-Run-clause-calls : goal.returns-in-Run-clause-calls
returns-in-Run-clause-calls g c = rw c.in-Run.is c.run_command.ensures.calls

pub returns-in-Sample-clause-ends : goal.returns-in-Sample-clause-ends
returns-in-Sample-clause-ends g c = rw c.in-Sample.is (c.sample_command.ensures (g.S.Shelf.seen c.args.shelf.now))

pub all-requires-clause-most : goal.all-requires-clause-most
all-requires-clause-most g c = (rw c.in-All.is at c.requires.asks).1

pub all-requires-clause-budget : goal.all-requires-clause-budget
all-requires-clause-budget g c = (rw c.in-All.is at c.requires.asks).2

pub returns-in-All-clause-ends : goal.returns-in-All-clause-ends
returns-in-All-clause-ends g c = rw c.in-All.is c.all.ensures.ends

pub returns-in-All-clause-calls : goal.returns-in-All-clause-calls
returns-in-All-clause-calls g c = rw c.in-All.is c.all.ensures.calls

pub pick-requires : goal.pick-requires
pick-requires g c = few_before string_bytes c.in-Pick.words.submissions.now 16 (rw c.in-Pick.is at c.requires.asks).2

pub returns-in-Pick-clause-ends : goal.returns-in-Pick-clause-ends
returns-in-Pick-clause-ends g c = rw c.in-Pick.is c.pick.ensures.ends

pub returns-in-Pick-clause-calls : goal.returns-in-Pick-clause-calls
returns-in-Pick-clause-calls g c = rw c.in-Pick.is c.pick.ensures.calls

pub returns-in-Sat-clause-ends : goal.returns-in-Sat-clause-ends
returns-in-Sat-clause-ends g c = rw c.in-Sat.is c.sat.ensures.ends

pub returns-in-Sat-clause-calls : goal.returns-in-Sat-clause-calls
returns-in-Sat-clause-calls g c = rw c.in-Sat.is c.sat.ensures.calls

pub returns-in-Unsat-clause-ends : goal.returns-in-Unsat-clause-ends
returns-in-Unsat-clause-ends g c = rw c.in-Unsat.is c.unsat.ensures.ends

pub returns-in-Unsat-clause-calls : goal.returns-in-Unsat-clause-calls
returns-in-Unsat-clause-calls g c = rw c.in-Unsat.is c.unsat.ensures.calls

pub returns-in-Sample-clause-calls : goal.returns-in-Sample-clause-calls
returns-in-Sample-clause-calls g c = no_calls (file_command (command_of c.args.command.now)) (g.S.Shelf.seen c.args.shelf.now)
