use Rattle.std.proofs.Common.{map}
use Rattle.source_files.specs.Views.{texts_of}
use Rattle.input_space.specs.Tasks.{entry_at}
use Rattle.pick_command.specs.Requests.{typed_of}
use Rattle.pick_command.proofs.Reading.{ReadsOn}
use Rattle.pick_command.proofs.request.read_submissions.Given as goal

abbrev pub invariant-loop-i : goal.invariant-loop-i
invariant-loop-i l =
    ReadsOn (entry_at l.bounds) (texts_of l.texts) l.i (map typed_of l.programs.items)
