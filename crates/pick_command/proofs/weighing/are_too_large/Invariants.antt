use Rattle.std.proofs.Common.{◌∷◌, map, take}
use Rattle.pick_command.specs.Requests.{typed_of}
use Rattle.pick_command.proofs.WeightSums.{AreWeighed}
use Rattle.pick_command.proofs.weighing.are_too_large.Given as goal

-- the reference and the submissions up to here are weighed
abbrev pub invariant-loop-typed : goal.invariant-loop-typed
invariant-loop-typed l =
    AreWeighed l.request.bounds
    (typed_of l.request.reference ∷ take l.typed-index (map typed_of l.request.submissions))
    l.heaviest l.sum
