-- what was found is stored and written, and what follows from that
use Rattle.std.proofs.Common.{arith}
use Rattle.grade_io.specs.Devices.{devices}
use Rattle.file_commands.specs.Ends.{Ends}
use Rattle.file_commands.proofs.Calling.{calls_at_end}
use Rattle.file_commands.proofs.Endings.{ends_fetched, files_of_text}
use Rattle.formula_commands.specs.Commands.{sat_command}
use Rattle.formula_commands.specs.Requests.{sat_of}
use Rattle.formula_commands.proofs.SatClaims.{own_status, refused, satisfiable, solved, spent, unsatisfiable}
use Rattle.formula_commands.proofs.sat_command.sat.Goals as goal

pub end-requires : goal.end-requires
end-requires g c =
    files_of_text (sat_command (sat_of c.args.w.now)) (g.S.Shelf.seen c.args.shelf.now) (g.S.Shelf.seen c.find_report-found.new.shelf) c.find_report-found.result
    own_status c.find_report-found.ensures.found

pub returns : goal.returns
returns g c =
    let words = sat_of c.args.w.now in
    let before = devices (g.S.Shelf.seen c.args.shelf.now) (g.K.Sink.seen c.args.out.now) in
    let read = g.S.Shelf.seen c.find_report-found.new.shelf in
    let after = devices (g.S.Shelf.seen c.end.new.shelf) (g.K.Sink.seen c.end.new.out) in
    let found = c.find_report-found.ensures in
    let ends : Ends (sat_command words) before after c.end.result =
    ends_fetched (sat_command words) own_status before after read c.find_report-found.result c.end.result (omega arith)
    found.found found.refused found.kept found.faults found.calls found.all c.end.ensures in
    record {
      ends = ends;
      calls = calls_at_end (sat_command words) before after read c.find_report-found.result c.end.result found.calls found.all c.end.ensures;
      satisfiable = satisfiable words before after c.end.result ends;
      unsatisfiable = unsatisfiable words before after c.end.result ends;
      spent = spent words before after c.end.result ends;
      solved = λ cnf told sure. solved words cnf before after c.end.result ends told sure;
      refused = λ ts r tells first sure. refused words ts r before after c.end.result ends tells first sure;
    }
