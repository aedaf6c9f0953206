-- The numbers of the statuses.
use Rattle.std.specs.Prelude.{ℕ}
use Rattle.class_run.specs.declared.status.ClassStatus.{ClassStatus}
use Rattle.class_run.specs.declared.status.ClassStatus.TheVariants as status

abbrev pub number_of : ClassStatus → ℕ
number_of status.Done = 0
number_of status.Refused = 4
number_of status.ReadFailed = 5
number_of status.WriteFailed = 6
number_of status.NoMemory = 7
number_of status.Usage = 8
