-- what is found of the fetched texts comes of the files
use Rattle.source_files.specs.Views.{texts_of}
use Rattle.file_commands.proofs.Endings.{found_files}
use Rattle.list_command.specs.Commands.{all_command}
use Rattle.list_command.specs.Requests.{all_of}
use Rattle.list_command.proofs.command.find_report.Goals as goal

pub returns-clause-found : goal.returns-clause-found
returns-clause-found g c =
    found_files (all_command (all_of c.args.words.now)) (g.S.Shelf.seen c.args.shelf.now) (g.S.Shelf.seen c.fetch.new.shelf) (texts_of c.in_ok-texts.texts.items) c.report_texts.result
    c.in_ok-texts.ensures.fit c.in_ok-texts.ensures.held (rw c.deref.ensures.value at c.report_texts.ensures)
