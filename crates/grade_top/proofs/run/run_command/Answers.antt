-- what was found is written
use Rattle.std.proofs.Common.{arith}
use Rattle.grade_io.specs.Devices.{devices}
use Rattle.file_commands.proofs.Calling.{calls_at_end}
use Rattle.file_commands.proofs.Endings.{ends_fetched, files_of_text}
use Rattle.grade_top.specs.Commands.{run_command}
use Rattle.grade_top.specs.Requests.{run_of}
use Rattle.grade_top.proofs.run.run_command.Goals as goal

pub end-requires : goal.end-requires
end-requires g c =
    files_of_text (run_command (run_of c.args.words.now)) (g.S.Shelf.seen c.args.shelf.now) (g.S.Shelf.seen c.find_report-found.new.shelf) c.find_report-found.result
    (λ a. tt) c.find_report-found.ensures.found

pub returns : goal.returns
returns g c =
    let run = run_command (run_of c.args.words.now) in
    let before = devices (g.S.Shelf.seen c.args.shelf.now) (g.K.Sink.seen c.args.out.now) in
    let read = g.S.Shelf.seen c.find_report-found.new.shelf in
    let after = devices (g.S.Shelf.seen c.end.new.shelf) (g.K.Sink.seen c.end.new.out) in
    let found = c.find_report-found.ensures in
    record {
      ends =
          ends_fetched run (λ a. tt) before after read c.find_report-found.result c.end.result (omega arith)
          found.found found.refused found.kept found.faults found.calls found.all c.end.ensures;
      calls = calls_at_end run before after read c.find_report-found.result c.end.result found.calls found.all c.end.ensures;
    }
