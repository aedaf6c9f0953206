-- When two runs end as one, and what is asked of a program beside the reference.
use Rattle.std.specs.Prelude.{ℕ, nat_lt, Bool, true, false, not, ◌&&◌, List, [], ◌∷◌, Option, Some}
use Rattle.std.specs.Prelude.{None}
use Rattle.std.specs.List.{list_all}
use Rattle.std.specs.declared.result.Result.{Result}
use Rattle.std.specs.declared.result.Result.TheVariants.{Ok, Err}
use Rattle.mpy_tree.specs.declared.outcome.Outcome.{Outcome}
use Rattle.mpy_tree.specs.declared.outcome.Outcome.TheVariants as outcome
use Rattle.mpy_tree.specs.declared.value.Value.{Value}
use Rattle.mpy_tree.specs.Operations.{equal}
use Rattle.mpy_tree.specs.Outcomes.{is_done}
use Rattle.mpy_tree.specs.Syntax.{Routine}
use Rattle.input_space.specs.declared.case.Case.{Case}
use Rattle.input_space.specs.Agreement.{ends_on}
use Rattle.input_space.specs.Tasks.{Task}
use Rattle.input_space.specs.TaskSpace.{wanted}

abbrev pub is_yes : {E : Type 0} → Result Bool E → Bool
is_yes (Ok b) = b
is_yes (Err e) = false

-- two values, or none on both sides
abbrev pub same_value : Option Value → Option Value → Bool
same_value None None = true
same_value None (Some w) = false
same_value (Some v) None = false
same_value (Some v) (Some w) = is_yes (equal v w)

-- as many values, and each the same
abbrev pub same_values : List Value → List Value → Bool
same_values [] [] = true
same_values [] (w ∷ ws) = false
same_values (v ∷ vs) [] = false
same_values (v ∷ vs) (w ∷ ws) = is_yes (equal v w) && same_values vs ws

-- both runs end without a fault, with the same value or both without one, and the same was printed
abbrev pub end_as_one : Outcome → Outcome → Bool
end_as_one (outcome.Done v vs) (outcome.Done w ws) = same_value v w && same_values vs ws
end_as_one (outcome.Done v vs) (outcome.Fault kind line) = false
end_as_one (outcome.Fault kind line) (outcome.Done w ws) = false
end_as_one (outcome.Fault kind line) (outcome.Fault k n) = false

-- the reference ends without a fault, and the program ends so, too
abbrev pub meets_on : Task → List Routine → List Value → Bool
meets_on k p xs = end_as_one (wanted k xs) (ends_on k.bounds p xs)

-- the reference ends without a fault, and the program doesn't end so
abbrev pub fails_on : Task → List Routine → List Value → Bool
fails_on k p xs = is_done (wanted k xs) && not (meets_on k p xs)

-- the reference ends without a fault; where a program is named, that doesn't end so
abbrev pub is_asked_for : Task → Option (List Routine) → List Value → Bool
is_asked_for k None xs = is_done (wanted k xs)
is_asked_for k (Some p) xs = fails_on k p xs

-- the program ends as the reference does on each case
abbrev pub all_meet_on : Task → List Routine → List Case → Bool
all_meet_on k p xs = list_all (λ x. meets_on k p x.values) xs

-- a cost isn't above the bound, where there is one
abbrev pub is_cheap : Option ℕ → ℕ → Bool
is_cheap None n = true
is_cheap (Some most) n = not (nat_lt most n)
