-- what was found is written, and what follows from that
use Rattle.std.proofs.Common.{arith}
use Rattle.grade_io.specs.Devices.{devices}
use Rattle.file_commands.specs.Ends.{Ends}
use Rattle.file_commands.proofs.Calling.{calls_at_end}
use Rattle.file_commands.proofs.Endings.{ends_fetched, files_of_text}
use Rattle.grade_core.specs.Commands.{grade_command}
use Rattle.grade_core.specs.Requests.{grade_of}
use Rattle.grade_core.proofs.GradeClaims.{empty, graded, own_status, refused}
use Rattle.grade_core.proofs.command.grade.Goals as goal

pub end-requires : goal.end-requires
end-requires g c =
    files_of_text (grade_command (grade_of c.args.w.now)) (g.S.Shelf.seen c.args.shelf.now) (g.S.Shelf.seen c.find_report-found.new.shelf) c.find_report-found.result
    (λ a. own_status a.answer) c.find_report-found.ensures.found

pub returns : goal.returns
returns g c =
    let words = grade_of c.args.w.now in
    let before = devices (g.S.Shelf.seen c.args.shelf.now) (g.K.Sink.seen c.args.out.now) in
    let read = g.S.Shelf.seen c.find_report-found.new.shelf in
    let after = devices (g.S.Shelf.seen c.end.new.shelf) (g.K.Sink.seen c.end.new.out) in
    let ends : Ends (grade_command words) before after c.end.result =
    ends_fetched (grade_command words) (λ a. own_status a.answer) before after read c.find_report-found.result c.end.result (omega arith)
    c.find_report-found.ensures.found c.find_report-found.ensures.refused c.find_report-found.ensures.kept c.find_report-found.ensures.faults
    c.find_report-found.ensures.calls c.find_report-found.ensures.all c.end.ensures in
    record {
      ends = ends;
      calls = calls_at_end (grade_command words) before after read c.find_report-found.result c.end.result c.find_report-found.ensures.calls c.find_report-found.ensures.all c.end.ensures;
      graded = λ ts k told given sure. graded words ts k before after c.end.result ends told given sure;
      empty = λ ts k told given none sure. empty words ts k before after c.end.result ends told given none sure;
      refused = λ ts r tells first sure. refused words ts r before after c.end.result ends tells first sure;
    }
