-- How the writing of a text ends.
use Rattle.std.specs.Prelude.{◌≡◌, ℕ, List, Ok, Err}
use Rattle.grade_io.specs.Devices.{SinkState, Rose}
use Rattle.grade_io.specs.Puts.{WriteEnd}
use Rattle.grade_io.specs.Written.{Wrote, WrotePart}
use Rattle.grade_io.specs.declared.devices.PutError.TheVariants as put_error
use Rattle.grade_io.specs.declared.status.Status.{Status}
use Rattle.grade_io.specs.declared.status.Status.TheVariants as status

-- a status that says something else than that the writing stopped
abbrev pub IsOfText : Status → Type 0
IsOfText status.WriteFailed = ⊥
IsOfText status.NoMemory = ⊥
IsOfText _ = Unit {0}

-- no fault was counted
abbrev pub StoodStill : SinkState → SinkState → Type 0
StoodStill before after = after.faults ≡ before.faults

-- With the status of the text where the whole was written, and else with a front of it. The sink
-- counted a fault where the status says so, and none where it doesn't.
abbrev pub Says : List ℕ → Status → SinkState → SinkState → Status → Type 0
Says text s before after status.WriteFailed =
    Rose before.faults after.faults × WrotePart before after text
Says text s before after status.NoMemory = StoodStill before after × WrotePart before after text
Says text s before after r = (r ≡ s) × StoodStill before after × Wrote before after text

-- how the writing ended, by the status that is answered
abbrev pub end_of : Status → WriteEnd
end_of status.WriteFailed = Err put_error.Failed
end_of status.NoMemory = Err put_error.NoMemory
end_of status.Correct = Ok tt
end_of status.Corrected = Ok tt
end_of status.NoCorrection = Ok tt
end_of status.Spent = Ok tt
end_of status.Refused = Ok tt
end_of status.ReadFailed = Ok tt
end_of status.Usage = Ok tt
end_of status.StoreFailed = Ok tt
end_of status.Rejected = Ok tt
