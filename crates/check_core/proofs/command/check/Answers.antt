-- what was found is written, and what follows from that
use Rattle.std.proofs.Common.{arith}
use Rattle.grade_io.specs.Devices.{devices}
use Rattle.file_commands.specs.Ends.{Ends}
use Rattle.file_commands.proofs.Calling.{calls_at_end}
use Rattle.file_commands.proofs.Endings.{ends_fetched, files_of_text}
use Rattle.check_core.specs.Commands.{check_command}
use Rattle.check_core.specs.Requests.{check_of}
use Rattle.check_core.proofs.CheckClaims.{checked, own_status, refused}
use Rattle.check_core.proofs.command.check.Goals as goal

pub end-requires : goal.end-requires
end-requires g c =
    files_of_text (check_command (check_of c.args.w.now)) (g.S.Shelf.seen c.args.shelf.now) (g.S.Shelf.seen c.find_report-found.new.shelf) c.find_report-found.result
    (λ a. own_status a.said) c.find_report-found.ensures.found

pub returns : goal.returns
returns g c =
    let words = check_of c.args.w.now in
    let before = devices (g.S.Shelf.seen c.args.shelf.now) (g.K.Sink.seen c.args.out.now) in
    let read = g.S.Shelf.seen c.find_report-found.new.shelf in
    let after = devices (g.S.Shelf.seen c.end.new.shelf) (g.K.Sink.seen c.end.new.out) in
    let ends : Ends (check_command words) before after c.end.result =
    ends_fetched (check_command words) (λ a. own_status a.said) before after read c.find_report-found.result c.end.result (omega arith)
    c.find_report-found.ensures.found c.find_report-found.ensures.refused c.find_report-found.ensures.kept c.find_report-found.ensures.faults
    c.find_report-found.ensures.calls c.find_report-found.ensures.all c.end.ensures in
    record {
      ends = ends;
      calls = calls_at_end (check_command words) before after read c.find_report-found.result c.end.result c.find_report-found.ensures.calls c.find_report-found.ensures.all c.end.ensures;
      checked = λ ts k told given sure. checked c.right_is_accepted.ensures c.one_cert.ensures words ts k before after c.end.result ends told given sure;
      refused = λ ts r tells first sure. refused words ts r before after c.end.result ends tells first sure;
    }
