-- How the writing of a text ends.
use Rattle.std.specs.Prelude.{◌≡◌, ℕ, List}
use Rattle.grade_io.specs.Devices.{SinkState, Rose}
use Rattle.grade_io.specs.Says.{StoodStill}
use Rattle.grade_io.specs.Written.{Wrote, WrotePart}
use Rattle.class_run.specs.declared.status.ClassStatus.{ClassStatus}
use Rattle.class_run.specs.declared.status.ClassStatus.TheVariants as status

-- a status that says something else than that the writing stopped
abbrev pub IsOfText : ClassStatus → Type 0
IsOfText status.WriteFailed = ⊥
IsOfText status.NoMemory = ⊥
IsOfText _ = Unit {0}

-- With the status of the text where the whole was written, and else with a front of it. The sink
-- counted a fault where the status says so, and none where it doesn't.
abbrev pub Says : List ℕ → ClassStatus → SinkState → SinkState → ClassStatus → Type 0
Says text s before after status.WriteFailed =
    Rose before.faults after.faults × WrotePart before after text
Says text s before after status.NoMemory = StoodStill before after × WrotePart before after text
Says text s before after r = (r ≡ s) × StoodStill before after × Wrote before after text
