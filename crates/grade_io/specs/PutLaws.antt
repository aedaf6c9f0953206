-- What the puts of a text come to is a function of the plan and the share.
use Rattle.std.specs.Prelude.{◌≡◌, ◌≢◌, ℕ, List, Err}
use Rattle.grade_io.specs.Devices.{SinkState}
use Rattle.grade_io.specs.Plans.{Plan}
use Rattle.grade_io.specs.Puts.{Puts, WriteEnd}
use Rattle.grade_io.specs.declared.devices.PutError.TheVariants.{NoMemory}

-- they end in one way, with one plan left and one front written
pub record EndAlike (one other : SinkState) (d e : WriteEnd) : Type 0 where
  pub end : d ≡ e
  pub plan : one.plan ≡ other.plan
  pub written : one.written ≡ other.written

-- unless memory lacks, which may come in place of any put
abbrev pub PutsAreOne : Type 0
PutsAreOne =
    (share : ℕ → ℕ) (p : Plan) (text : List ℕ) (before one other : SinkState) (d e : WriteEnd)
    → d ≢ Err NoMemory → e ≢ Err NoMemory
    → Puts share p text before one d → Puts share p text before other e
    → EndAlike one other d e
