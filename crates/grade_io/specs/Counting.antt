-- The count of faults beside what the calls of the system come to.
use Rattle.std.specs.Prelude.{◌≡◌, ℕ, Result, Ok, Err}
use Rattle.grade_io.specs.Plans.{one_more}
use Rattle.grade_io.specs.declared.counted.Counted.{Counted}
use Rattle.grade_io.specs.declared.system.Stall as stall
use Rattle.grade_io.specs.declared.devices.FetchError as fetch_error

-- the reader or writer, and how many faults were counted
abbrev pub inner_of : {T : Type 0} → Counted T → T
inner_of c = c.inner

abbrev pub faults_of : {T : Type 0} → Counted T → ℕ
faults_of c = c.faults

-- with so many faults
abbrev pub counted : {T : Type 0} → T → ℕ → Counted T
counted inner faults = record { inner = inner; faults = faults }

-- an error is one fault, and an answer none
abbrev pub CallFaults : {T E : Type 0} → Result T E → ℕ → ℕ → Type 0
CallFaults (Ok x) before after = after ≡ before
CallFaults (Err e) before after = after ≡ one_more before

-- a call that a signal interrupted is no fault
abbrev pub StallFaults : {T : Type 0} → Result T stall.Stall → ℕ → ℕ → Type 0
StallFaults (Ok x) before after = after ≡ before
StallFaults (Err stall.TheVariants.Interrupted) before after = after ≡ before
StallFaults (Err stall.TheVariants.Failed) before after = after ≡ one_more before

-- nor is a file that is too long, or want of memory
abbrev pub ReadFaults : {T : Type 0} → Result T fetch_error.FetchError → ℕ → ℕ → Type 0
ReadFaults (Err fetch_error.TheVariants.Failed) before after = after ≡ one_more before
ReadFaults (Ok x) before after = after ≡ before
ReadFaults (Err fetch_error.TheVariants.Long) before after = after ≡ before
ReadFaults (Err fetch_error.TheVariants.NoMemory) before after = after ≡ before
