use Rattle.pick_command.specs.Requests.{request_of}
use Rattle.pick_command.proofs.Reading.{ComparesOn}
use Rattle.pick_command.proofs.request.compare_types.Given as goal

abbrev pub invariant-loop-i : goal.invariant-loop-i
invariant-loop-i l =
    ComparesOn (request_of l.request).bounds (request_of l.request).reference
    (request_of l.request).submissions l.i
