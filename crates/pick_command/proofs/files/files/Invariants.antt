use Rattle.std.proofs.Common.{map}
use Rattle.std.specs.String.{string_bytes}
use Rattle.source_files.specs.Views.{file_of}
use Rattle.pick_command.specs.Commands.{pick_files}
use Rattle.pick_command.specs.Requests.{pick_of}
use Rattle.pick_command.proofs.FileLists.{AreListed}
use Rattle.pick_command.proofs.files.files.Given as goal

abbrev pub invariant-loop-i : goal.invariant-loop-i
invariant-loop-i l =
    AreListed (map string_bytes l.words.submissions.now) (pick_files (pick_of l.words)) l.i
    (map file_of l.files.items)
