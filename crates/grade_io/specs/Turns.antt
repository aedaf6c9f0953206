-- What the calls of a reader or a writer of the system came to, where it tells them.
use Rattle.std.specs.Prelude.{◌≡◌, ◌⊎◌, ℕ, ◌<◌, List, [], ◌∷◌, ◌++◌, replicate, Option, Result}
use Rattle.std.specs.Prelude.{Ok, Err}
use Rattle.grade_io.specs.Devices.{added}
use Rattle.grade_io.specs.declared.devices.FetchError as fetch_error
use Rattle.grade_io.specs.declared.system.Stall.{Stall}
use Rattle.grade_io.specs.declared.system.Stall.TheVariants as stall

-- how many bytes a call moved, or why it moved none
abbrev pub Turn : Type 0
Turn = Result ℕ Stall

-- so many calls that a signal interrupted
abbrev pub interrupted : ℕ → List Turn
interrupted n = replicate n (Err stall.Interrupted)

-- how often a call is made that a signal interrupts each time
abbrev pub most_tries : ℕ
most_tries = 1000

-- calls of which the last comes to this, and which a signal interrupted but for the last
abbrev pub EndsBy : Turn → List Turn → Type 0
EndsBy t turns = (n : ℕ) × (n < most_tries) × (turns ≡ interrupted n ++ t ∷ [])

-- A call failed, or was interrupted too often.
abbrev pub AreOfFault : List Turn → Type 0
AreOfFault turns = EndsBy (Err stall.Failed) turns ⊎ (turns ≡ interrupted most_tries)

-- The calls of one answer: a call is made again where a signal interrupted it, and only there.
abbrev pub AreTries : {E : Type 0} → Result ℕ E → List Turn → Type 0
AreTries (Ok n) turns = EndsBy (Ok n) turns
AreTries (Err e) turns = AreOfFault turns

-- these calls were made, and no others
abbrev pub Tried : {E : Type 0} → Result ℕ E → Option (List Turn) → Option (List Turn) → Type 0
Tried r old new = (turns : List Turn) × AreTries r turns × (new ≡ added old turns)

-- the calls of several answers in a row, none of which is a fault
pub data AllMove : List Turn → Type 0 where
  no_calls : AllMove []
  and_then : (before tries : List Turn) (n : ℕ) → AllMove before → EndsBy (Ok n) tries
      → AllMove (before ++ tries)

-- the same, and behind them those of a fault, with which they stop
pub record StopAtFault (turns : List Turn) : Type 0 where
  pub before : List Turn
  pub tries : List Turn
  pub move : AllMove before
  pub fault : AreOfFault tries
  pub is : turns ≡ before ++ tries

-- calls were made, and none is a fault
abbrev pub Moved : Option (List Turn) → Option (List Turn) → Type 0
Moved old new = (turns : List Turn) × AllMove turns × (new ≡ added old turns)

-- calls were made, and the last is a fault
abbrev pub Stopped : Option (List Turn) → Option (List Turn) → Type 0
Stopped old new = (turns : List Turn) × StopAtFault turns × (new ≡ added old turns)

abbrev pub WritesBy : {T E : Type 0} → Result T E → Option (List Turn) → Option (List Turn)
    → Type 0
WritesBy (Ok x) old new = Moved old new
WritesBy (Err e) old new = Stopped old new

abbrev pub ReadsBy : {T : Type 0} → Result T fetch_error.FetchError → Option (List Turn)
    → Option (List Turn) → Type 0
ReadsBy (Err fetch_error.TheVariants.Failed) old new = Stopped old new
ReadsBy (Ok x) old new = Moved old new
ReadsBy (Err fetch_error.TheVariants.Long) old new = Moved old new
ReadsBy (Err fetch_error.TheVariants.NoMemory) old new = Moved old new
