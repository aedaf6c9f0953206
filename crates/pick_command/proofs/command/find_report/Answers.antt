-- what is found of the fetched texts comes of the files
use Rattle.source_files.specs.Views.{texts_of}
use Rattle.file_commands.proofs.Endings.{found_files}
use Rattle.pick_command.specs.Commands.{pick_command}
use Rattle.pick_command.specs.Requests.{pick_of}
use Rattle.pick_command.proofs.Fitting.{found_refused}
use Rattle.pick_command.proofs.command.find_report.Goals as goal

pub returns-clause-found : goal.returns-clause-found
returns-clause-found g c =
    found_files (pick_command (pick_of c.args.words.now)) (g.S.Shelf.seen c.args.shelf.now)
    (g.S.Shelf.seen c.fetch.new.shelf) (texts_of c.in_ok-texts.texts.items) c.report_texts.result
    c.in_ok-texts.ensures.fit c.in_ok-texts.ensures.held
    (rw c.deref.ensures.value at c.report_texts.ensures)

pub returns-clause-refused : goal.returns-clause-refused
returns-clause-refused g c =
    found_refused (pick_command (pick_of c.args.words.now)) (g.S.Shelf.seen c.args.shelf.now)
    (g.S.Shelf.seen c.fetch.new.shelf) (texts_of c.in_ok-texts.texts.items) c.report_texts.result
    c.in_ok-texts.ensures.fit c.in_ok-texts.ensures.held
    (rw c.deref.ensures.value at c.report_texts.ensures)
