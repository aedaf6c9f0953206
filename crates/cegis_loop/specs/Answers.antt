-- What the answers of a search say.
use Rattle.std.specs.Prelude.{◌≡◌, ◌≢◌, ℕ, ◌<◌, ◌≤◌, List, [], ◌∷◌, ◌++◌, take, slice_get}
use Rattle.std.specs.Prelude.{Some, All, AllPairs, IfSome}
use Rattle.cegis_loop.specs.declared.outcome.Least.{Least}
use Rattle.cegis_loop.specs.declared.outcome.Least.TheVariants.{Found, Nothing, NoCase, Spent}
use Rattle.cegis_loop.specs.declared.outcome.Least.TheVariants.{NoMemory}
use Rattle.cegis_loop.specs.Space.{Space, IsInput, AgreesOn}
use Rattle.cegis_loop.specs.State.{Question, State, Told, Open}
use Rattle.cegis_loop.specs.Order.{IsSearch, IsAtLeast, NoInput, NoChoice, Settled, Unfinished}

-- no choice of smaller cost agrees on these inputs
abbrev pub NoneBelow : {C I : Type 0} → Space C I → List I → ℕ → Type 0
NoneBelow {C} s on k = (c : C) → s.is_choice c → s.cost c < k → ¬ AgreesOn s on c

-- no choice agrees on these inputs
abbrev pub NoneAgrees : {C I : Type 0} → Space C I → List I → Type 0
NoneAgrees {C} s on = (c : C) → s.is_choice c → ¬ AgreesOn s on c

-- a choice of this cost that agrees on all inputs, where none of smaller cost agrees on those of
-- the list
pub record IsLeast {C I : Type 0} (s : Space C I) (on : List I) (c : C) (cost : ℕ) : Type 0 where
  pub choice : s.is_choice c
  pub cost_of : s.cost c ≡ cost
  pub agrees : AgreesOn s s.inputs c
  pub least : NoneBelow s on cost

-- what an answer means, where `on` are the inputs by which choices are ruled out
abbrev pub Means : {C I : Type 0} → Space C I → List I → Least C → Type 0
Means s on (Found c cost) = (s.inputs ≢ []) × IsLeast s on c cost
Means s on Nothing = (s.inputs ≢ []) × NoneAgrees s on
Means s on NoCase = s.inputs ≡ []
Means s on (Spent at_least) = NoneBelow s on at_least
Means s on NoMemory = Unit {0}

-- the answer that the budget is spent
abbrev pub IsSpent : {C : Type 0} → Least C → Type 0
IsSpent (Found c cost) = ⊥
IsSpent Nothing = ⊥
IsSpent NoCase = ⊥
IsSpent (Spent at_least) = Unit {0}
IsSpent NoMemory = ⊥

-- How the questions of a search end by its answer. The cost that is found and the one that is
-- called the least possible are the least number such that no question with a bound of it or more
-- was refuted. Where memory lacked, the questions are those before one that is left open.
abbrev pub Ends : {C I : Type 0} → Space C I → List I → List (Told C) → Least C → Type 0
Ends s kept asked (Found c cost) =
    ((cases : ℕ) × IsSearch s kept asked (Settled c cases)) × IsAtLeast asked cost
Ends s kept asked Nothing = IsSearch s kept asked NoChoice
Ends s kept asked NoCase = IsSearch s kept asked NoInput
Ends s kept asked (Spent at_least) = IsSearch s kept asked Unfinished × IsAtLeast asked at_least
Ends {C} s kept asked NoMemory =
    (question : Question C) × IsSearch s kept (asked ++ Open question ∷ []) Unfinished

-- the input refutes a choice that agrees on those before it
pub record IsRefuted {C I : Type 0} (s : Space C I) (before : List I) (x : I) (c : C)
    : Type 0 where
  pub choice : s.is_choice c
  pub agrees : AgreesOn s before c
  pub fails : ¬ s.agrees c x

-- the kept inputs are inputs, each of them new, and each but the first refutes a choice that agrees
-- on those before it
pub record IsKept {C I : Type 0} (s : Space C I) (kept : List I) : Type 0 where
  pub inputs : All (IsInput s) kept
  pub new : AllPairs (λ x y. x ≢ y) kept
  pub refuting : (k : ℕ) (x : I) → 0 < k → slice_get kept k ≡ Some x
      → (c : C) × IsRefuted s (take k kept) x c

-- What an answer means by all inputs, and by the kept ones alone; which inputs are kept; that no
-- more clauses are logged than the budget, and exactly as many where it is called spent; and how
-- the questions end, where they are told.
pub record IsAnswer {C I : Type 0} (s : Space C I) (a : State C I) (answer : Least C)
    : Type 0 where
  pub means : Means s s.inputs answer
  pub means_on_kept : Means s a.kept answer
  pub kept : IsKept s a.kept
  pub budget : a.logged ≤ s.budget
  pub spent : IsSpent answer → a.logged ≡ s.budget
  pub asked : IfSome a.told (λ asked. Ends s a.kept asked answer)
