-- what was found is written, and what follows from that
use Rattle.std.proofs.Common.{arith}
use Rattle.grade_io.specs.Devices.{devices}
use Rattle.file_commands.specs.Ends.{Ends}
use Rattle.file_commands.proofs.Calling.{calls_at_end}
use Rattle.file_commands.proofs.Endings.{ends_fetched, files_of_text}
use Rattle.pick_command.specs.Commands.{pick_command}
use Rattle.pick_command.specs.Requests.{pick_of}
use Rattle.pick_command.proofs.PickClaims.{answered, own_status, picked, refused}
use Rattle.pick_command.proofs.command.pick.Goals as goal

pub end-requires : goal.end-requires
end-requires g c =
    files_of_text (pick_command (pick_of c.args.w.now)) (g.S.Shelf.seen c.args.shelf.now)
    (g.S.Shelf.seen c.find_report-found.new.shelf) c.find_report-found.result
    own_status c.find_report-found.ensures.found

pub returns : goal.returns
returns g c =
    let words = pick_of c.args.w.now in
    let before = devices (g.S.Shelf.seen c.args.shelf.now) (g.K.Sink.seen c.args.out.now) in
    let read = g.S.Shelf.seen c.find_report-found.new.shelf in
    let after = devices (g.S.Shelf.seen c.end.new.shelf) (g.K.Sink.seen c.end.new.out) in
    let found = c.find_report-found.ensures in
    let ends : Ends (pick_command words) before after c.end.result =
    ends_fetched (pick_command words) own_status before after read c.find_report-found.result c.end.result (omega arith)
    found.found found.refused found.kept found.faults found.calls found.all c.end.ensures in
    record {
      ends = ends;
      calls = calls_at_end (pick_command words) before after read c.find_report-found.result c.end.result found.calls found.all c.end.ensures;
      picked = picked words before after c.end.result ends;
      answered = λ ts k told given sure. answered words before after c.end.result ts k ends told given sure;
      refused = λ ts r tells first sure. refused words before after c.end.result ts r ends tells first sure;
    }
