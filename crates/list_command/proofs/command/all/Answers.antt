-- what was found is written, and what follows from that
use Rattle.std.proofs.Common.{arith}
use Rattle.grade_io.specs.Devices.{devices}
use Rattle.file_commands.specs.Ends.{Ends}
use Rattle.file_commands.proofs.Calling.{calls_at_end}
use Rattle.file_commands.proofs.Endings.{ends_fetched, files_of_text}
use Rattle.list_command.specs.Commands.{all_command}
use Rattle.list_command.specs.Requests.{all_of}
use Rattle.list_command.proofs.AllClaims.{correct, corrected, empty, listed, own_status, refused, too_many}
use Rattle.list_command.proofs.command.all.Goals as goal

pub end-requires : goal.end-requires
end-requires g c =
    files_of_text (all_command (all_of c.args.w.now)) (g.S.Shelf.seen c.args.shelf.now) (g.S.Shelf.seen c.find_report-found.new.shelf) c.find_report-found.result
    own_status c.find_report-found.ensures.found

pub returns : goal.returns
returns g c =
    let words = all_of c.args.w.now in
    let before = devices (g.S.Shelf.seen c.args.shelf.now) (g.K.Sink.seen c.args.out.now) in
    let read = g.S.Shelf.seen c.find_report-found.new.shelf in
    let after = devices (g.S.Shelf.seen c.end.new.shelf) (g.K.Sink.seen c.end.new.out) in
    let found = c.find_report-found.ensures in
    let ends : Ends (all_command words) before after c.end.result =
    ends_fetched (all_command words) own_status before after read c.find_report-found.result c.end.result (omega arith)
    found.found found.refused found.kept found.faults found.calls found.all c.end.ensures in
    record {
      ends = ends;
      calls = calls_at_end (all_command words) before after read c.find_report-found.result c.end.result found.calls found.all c.end.ensures;
      correct = correct words before after c.end.result ends;
      corrected = corrected words before after c.end.result ends;
      listed = λ ts k told given sure. listed words ts k before after c.end.result ends told given sure;
      many = λ ts k told given many sure. too_many words ts k before after c.end.result ends told given many sure;
      empty = λ ts k told given none sure. empty words ts k before after c.end.result ends told given none sure;
      refused = λ ts r tells first sure. refused words ts r before after c.end.result ends tells first sure;
    }
