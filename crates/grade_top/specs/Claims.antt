-- What is answered to words that ask for nothing.
use Rattle.grade_io.specs.declared.status.Status.{Status}
use Rattle.grade_io.specs.declared.status.Status.TheVariants as status

-- the statuses of words that ask for nothing
abbrev pub IsUsage : Status → Type 0
IsUsage status.Usage = Unit {0}
IsUsage status.WriteFailed = Unit {0}
IsUsage status.NoMemory = Unit {0}
IsUsage _ = ⊥
