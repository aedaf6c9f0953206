-- What the puts of a text come to on a sink that tells its plan and its share: each is handed all
-- that is left of the text.
use Rattle.std.specs.Prelude.{◌≡◌, ℕ, zero, suc, ◌-◌, ◌<◌, List, length, take, Some, Result, Ok}
use Rattle.std.specs.Prelude.{Err}
use Rattle.grade_io.specs.Devices.{SinkState}
use Rattle.grade_io.specs.Plans.{Plan, IsToFail, after_call}
use Rattle.grade_io.specs.Written.{Wrote}
use Rattle.grade_io.specs.declared.devices.PutError as put_error

-- how the writing of a text ends
abbrev pub WriteEnd : Type 0
WriteEnd = Result (Unit {0}) put_error.PutError

-- what is left of so many bytes behind n puts that each took its share of what was left
abbrev pub left_after : (ℕ → ℕ) → ℕ → ℕ → ℕ
left_after share bytes zero = bytes
left_after share bytes (suc n) =
    left_after share bytes n - share (left_after share bytes n)

abbrev pub plan_after : Plan → ℕ → Plan
plan_after p zero = p
plan_after p (suc n) = after_call (plan_after p n)

-- each of the first n puts has something left to take, and isn't to fail
abbrev pub AllTake : (ℕ → ℕ) → Plan → ℕ → ℕ → Type 0
AllTake share p bytes n =
    (m : ℕ) → m < n → (0 < left_after share bytes m) × (IsToFail (plan_after p m) → ⊥)

-- behind them nothing is left, or the next put is to fail or finds no memory
abbrev pub StopsAfter : (ℕ → ℕ) → Plan → ℕ → ℕ → WriteEnd → Type 0
StopsAfter share p bytes n (Ok x) = left_after share bytes n ≡ 0
StopsAfter share p bytes n (Err put_error.TheVariants.Failed) =
    (0 < left_after share bytes n) × IsToFail (plan_after p n)
StopsAfter share p bytes n (Err put_error.TheVariants.NoMemory) = 0 < left_after share bytes n

-- how many puts are made where n take bytes
abbrev pub made : ℕ → WriteEnd → ℕ
made n (Ok x) = n
made n (Err e) = suc n

-- By the end, the share and the plan alone: how many puts take bytes, what is written, and what is
-- left of the plan.
pub record Puts (share : ℕ → ℕ) (p : Plan) (text : List ℕ) (before after : SinkState)
    (end : WriteEnd) : Type 0 where
  pub number : ℕ
  pub all_take : AllTake share p (length text) number
  pub stops : StopsAfter share p (length text) number end
  pub plan : after.plan ≡ Some (plan_after p (made number end))
  pub written : Wrote before after (take (length text - left_after share (length text) number) text)

-- the puts of a text, where the sink tells its plan and its share
abbrev pub PutsSo : List ℕ → SinkState → SinkState → WriteEnd → Type 0
PutsSo text before after end =
    (p : Plan) (share : ℕ → ℕ) → before.plan ≡ Some p → before.share ≡ Some share
    → Puts share p text before after end
