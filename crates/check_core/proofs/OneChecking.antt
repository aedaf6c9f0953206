-- What the texts of `check` spell is one thing, and so is their refusal.
use Rattle.std.proofs.Common.{ℕ, List, [], ◌∷◌}
use Rattle.task_read.specs.Steps.{IsOne}
use Rattle.task_read.proofs.OneStep as task
use Rattle.check_core.specs.Decisions.{never, sources_step}

one_never : {A : Type 0} → IsOne (never {A = A})
one_never = record { gives = λ a b x y. absurd x; refuses = λ q r x y. absurd x; not_both = λ a r x y. x }

pub one_sources_step : (ts : List (List ℕ)) → IsOne (sources_step ts)
one_sources_step [] = one_never
one_sources_step (a ∷ []) = one_never
one_sources_step (a ∷ b ∷ []) = one_never
one_sources_step (a ∷ b ∷ c ∷ []) = one_never
one_sources_step (a ∷ b ∷ c ∷ d ∷ []) = one_never
one_sources_step (a ∷ b ∷ c ∷ d ∷ e ∷ []) = task.one_task_step a b c d
one_sources_step (a ∷ b ∷ c ∷ d ∷ e ∷ g ∷ ts) = one_never
