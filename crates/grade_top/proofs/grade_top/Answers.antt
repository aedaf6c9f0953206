-- the words ask for the command that was read, or for nothing
use Rattle.std.proofs.Common.{subst}
use Rattle.grade_top.specs.Requests.{command_of}
use Rattle.grade_top.specs.Words.{All, Check, Grade, Nothing, Pick, Run, Sample, Sat, Unsat}
use Rattle.grade_io.specs.Devices.{devices}
use Rattle.file_commands.specs.Ends.{Ends}
use Rattle.file_commands.proofs.Claims.{read_failed}
use Rattle.check_core.proofs.CheckClaims.{checked}
use Rattle.formula_commands.proofs.SatClaims as sat
use Rattle.formula_commands.proofs.UnsatClaims as unsat
use Rattle.grade_core.proofs.GradeClaims.{empty, graded}
use Rattle.list_command.proofs.AllClaims as all
use Rattle.pick_command.proofs.PickClaims as pick
use Rattle.grade_top.specs.Commands.{file_command}
use Rattle.grade_top.proofs.Claims.{empty_sample, no_usage, ran, refused, sampled, usage_ends}
use Rattle.grade_top.proofs.OneCommand.{asks_something, one_command}
use Rattle.grade_top.proofs.PrintedPrograms.{prints_correction}
use Rattle.grade_top.proofs.grade_top.Goals as goal

pub answer-requires : goal.answer-requires
answer-requires g c = record { words = _; asks = c.in-Some.ensures.found }

pub returns-in-Some-clause-ends : goal.returns-in-Some-clause-ends
returns-in-Some-clause-ends g c = λ d asks. rw (one_command _ d (command_of c.in-Some.command) asks (rw c.deref.ensures.value at c.in-Some.ensures.found)) c.answer.ensures.ends

pub returns-in-Some-clause-calls : goal.returns-in-Some-clause-calls
returns-in-Some-clause-calls g c = λ d asks. rw (one_command _ d (command_of c.in-Some.command) asks (rw c.deref.ensures.value at c.in-Some.ensures.found)) c.answer.ensures.calls

pub returns-in-Some-clause-usage : goal.returns-in-Some-clause-usage
returns-in-Some-clause-usage g c = λ is.
    absurd (no_usage (command_of c.in-Some.command) _ _ c.answer.result (asks_something c.in-Some.command) c.answer.ensures.ends is)

pub returns-in-Some-clause-no_form : goal.returns-in-Some-clause-no_form
returns-in-Some-clause-no_form g c = λ none.
    absurd (asks_something c.in-Some.command (one_command _ (command_of c.in-Some.command) Nothing (rw c.deref.ensures.value at c.in-Some.ensures.found) none))

pub returns-in-Some-clause-read_failed : goal.returns-in-Some-clause-read_failed
returns-in-Some-clause-read_failed g c = λ is.
    read_failed (file_command (command_of c.in-Some.command)) _ _ c.answer.result c.answer.ensures.ends is

pub returns-in-Some-clause-graded : goal.returns-in-Some-clause-graded
returns-in-Some-clause-graded g c = λ words ts k asks told given sure.
    graded words ts k _ _ c.answer.result (rw (one_command _ (command_of c.in-Some.command) (Grade words) (rw c.deref.ensures.value at c.in-Some.ensures.found) asks) at c.answer.ensures.ends) told given sure

pub returns-in-Some-clause-printed : goal.returns-in-Some-clause-printed
returns-in-Some-clause-printed g c = λ words asks is.
    let before = devices (g.S.Shelf.seen c.args.shelf.now) (g.K.Sink.seen c.args.out.now) in
    let after = devices (g.S.Shelf.seen c.answer.new.shelf) (g.K.Sink.seen c.answer.new.out) in
    let ends : Ends (file_command (Grade words)) before after c.answer.result =
    rw (one_command _ (command_of c.in-Some.command) (Grade words) (rw c.deref.ensures.value at c.in-Some.ensures.found) asks) at c.answer.ensures.ends in
    prints_correction c.corrections_are_spelled.ensures.holds words before after (subst (Ends (file_command (Grade words)) before after) is ends)

pub returns-in-Some-clause-sampled : goal.returns-in-Some-clause-sampled
returns-in-Some-clause-sampled g c = λ n k asks given sure.
    sampled n k _ _ c.answer.result (rw (one_command _ (command_of c.in-Some.command) (Sample n) (rw c.deref.ensures.value at c.in-Some.ensures.found) asks) at c.answer.ensures.ends) given sure

pub returns-in-Some-clause-empty : goal.returns-in-Some-clause-empty
returns-in-Some-clause-empty g c = λ words ts k asks told given none sure.
    empty words ts k _ _ c.answer.result (rw (one_command _ (command_of c.in-Some.command) (Grade words) (rw c.deref.ensures.value at c.in-Some.ensures.found) asks) at c.answer.ensures.ends) told given none sure

pub returns-in-Some-clause-empty_sample : goal.returns-in-Some-clause-empty_sample
returns-in-Some-clause-empty_sample g c = λ n k asks given none sure.
    empty_sample n k _ _ c.answer.result (rw (one_command _ (command_of c.in-Some.command) (Sample n) (rw c.deref.ensures.value at c.in-Some.ensures.found) asks) at c.answer.ensures.ends) given none sure

pub returns-in-Some-clause-checked : goal.returns-in-Some-clause-checked
returns-in-Some-clause-checked g c = λ words ts k asks told given sure.
    checked c.right_is_accepted.ensures c.one_cert.ensures words ts k _ _ c.answer.result (rw (one_command _ (command_of c.in-Some.command) (Check words) (rw c.deref.ensures.value at c.in-Some.ensures.found) asks) at c.answer.ensures.ends) told given sure

pub returns-in-Some-clause-ran : goal.returns-in-Some-clause-ran
returns-in-Some-clause-ran g c = λ words ts o asks told given sure.
    ran words ts o _ _ c.answer.result (rw (one_command _ (command_of c.in-Some.command) (Run words) (rw c.deref.ensures.value at c.in-Some.ensures.found) asks) at c.answer.ensures.ends) told given sure

pub returns-in-Some-clause-all_correct : goal.returns-in-Some-clause-all_correct
returns-in-Some-clause-all_correct g c = λ w asks is.
    all.correct w _ _ c.answer.result (rw (one_command _ (command_of c.in-Some.command) (All w) (rw c.deref.ensures.value at c.in-Some.ensures.found) asks) at c.answer.ensures.ends) is

pub returns-in-Some-clause-all_corrected : goal.returns-in-Some-clause-all_corrected
returns-in-Some-clause-all_corrected g c = λ w asks is.
    all.corrected w _ _ c.answer.result (rw (one_command _ (command_of c.in-Some.command) (All w) (rw c.deref.ensures.value at c.in-Some.ensures.found) asks) at c.answer.ensures.ends) is

pub returns-in-Some-clause-listed : goal.returns-in-Some-clause-listed
returns-in-Some-clause-listed g c = λ w ts k asks told given sure.
    all.listed w ts k _ _ c.answer.result (rw (one_command _ (command_of c.in-Some.command) (All w) (rw c.deref.ensures.value at c.in-Some.ensures.found) asks) at c.answer.ensures.ends) told given sure

pub returns-in-Some-clause-many : goal.returns-in-Some-clause-many
returns-in-Some-clause-many g c = λ w ts k asks told given many sure.
    all.too_many w ts k _ _ c.answer.result (rw (one_command _ (command_of c.in-Some.command) (All w) (rw c.deref.ensures.value at c.in-Some.ensures.found) asks) at c.answer.ensures.ends) told given many sure

pub returns-in-Some-clause-empty_list : goal.returns-in-Some-clause-empty_list
returns-in-Some-clause-empty_list g c = λ w ts k asks told given none sure.
    all.empty w ts k _ _ c.answer.result (rw (one_command _ (command_of c.in-Some.command) (All w) (rw c.deref.ensures.value at c.in-Some.ensures.found) asks) at c.answer.ensures.ends) told given none sure

pub returns-in-Some-clause-picked : goal.returns-in-Some-clause-picked
returns-in-Some-clause-picked g c = λ w asks is.
    pick.picked w _ _ c.answer.result (rw (one_command _ (command_of c.in-Some.command) (Pick w) (rw c.deref.ensures.value at c.in-Some.ensures.found) asks) at c.answer.ensures.ends) is

pub returns-in-Some-clause-compared : goal.returns-in-Some-clause-compared
returns-in-Some-clause-compared g c = λ w ts k asks told given sure.
    pick.answered w _ _ c.answer.result ts k (rw (one_command _ (command_of c.in-Some.command) (Pick w) (rw c.deref.ensures.value at c.in-Some.ensures.found) asks) at c.answer.ensures.ends) told given sure

pub returns-in-Some-clause-satisfiable : goal.returns-in-Some-clause-satisfiable
returns-in-Some-clause-satisfiable g c = λ w asks is.
    sat.satisfiable w _ _ c.answer.result (rw (one_command _ (command_of c.in-Some.command) (Sat w) (rw c.deref.ensures.value at c.in-Some.ensures.found) asks) at c.answer.ensures.ends) is

pub returns-in-Some-clause-unsatisfiable : goal.returns-in-Some-clause-unsatisfiable
returns-in-Some-clause-unsatisfiable g c = λ w asks is.
    sat.unsatisfiable w _ _ c.answer.result (rw (one_command _ (command_of c.in-Some.command) (Sat w) (rw c.deref.ensures.value at c.in-Some.ensures.found) asks) at c.answer.ensures.ends) is

pub returns-in-Some-clause-unsolved : goal.returns-in-Some-clause-unsolved
returns-in-Some-clause-unsolved g c = λ w asks is.
    sat.spent w _ _ c.answer.result (rw (one_command _ (command_of c.in-Some.command) (Sat w) (rw c.deref.ensures.value at c.in-Some.ensures.found) asks) at c.answer.ensures.ends) is

pub returns-in-Some-clause-proved : goal.returns-in-Some-clause-proved
returns-in-Some-clause-proved g c = λ w asks is.
    unsat.unsatisfiable w _ _ c.answer.result (rw (one_command _ (command_of c.in-Some.command) (Unsat w) (rw c.deref.ensures.value at c.in-Some.ensures.found) asks) at c.answer.ensures.ends) is

pub returns-in-Some-clause-solved : goal.returns-in-Some-clause-solved
returns-in-Some-clause-solved g c = λ w cnf asks told sure.
    sat.solved w cnf _ _ c.answer.result (rw (one_command _ (command_of c.in-Some.command) (Sat w) (rw c.deref.ensures.value at c.in-Some.ensures.found) asks) at c.answer.ensures.ends) told sure

pub returns-in-Some-clause-judged : goal.returns-in-Some-clause-judged
returns-in-Some-clause-judged g c = λ w cnf proof asks told sure.
    unsat.judged w cnf proof _ _ c.answer.result (rw (one_command _ (command_of c.in-Some.command) (Unsat w) (rw c.deref.ensures.value at c.in-Some.ensures.found) asks) at c.answer.ensures.ends) told sure

pub returns-in-Some-clause-refused : goal.returns-in-Some-clause-refused
returns-in-Some-clause-refused g c = λ d ts r asks tells first sure.
    refused d ts r _ _ c.answer.result (rw (one_command _ (command_of c.in-Some.command) d (rw c.deref.ensures.value at c.in-Some.ensures.found) asks) at c.answer.ensures.ends) tells first sure

pub returns-in-None-clause-ends : goal.returns-in-None-clause-ends
returns-in-None-clause-ends g c = λ d asks. rw (one_command _ d Nothing asks (rw c.deref.ensures.value at c.in-None.ensures.none))
    (usage_ends (g.S.Shelf.seen c.args.shelf.now) (g.K.Sink.seen c.args.out.now) (g.K.Sink.seen c.usage.new.out) c.usage.result c.usage.ensures)

pub returns-in-None-clause-refused : goal.returns-in-None-clause-refused
returns-in-None-clause-refused g c = λ d ts r asks tells first sure.
    refused d ts r (devices (g.S.Shelf.seen c.args.shelf.now) (g.K.Sink.seen c.args.out.now)) (devices (g.S.Shelf.seen c.args.shelf.now) (g.K.Sink.seen c.usage.new.out)) c.usage.result
    (rw (one_command _ d Nothing asks (rw c.deref.ensures.value at c.in-None.ensures.none))
    (usage_ends (g.S.Shelf.seen c.args.shelf.now) (g.K.Sink.seen c.args.out.now) (g.K.Sink.seen c.usage.new.out) c.usage.result c.usage.ensures)) tells first sure
