-- Laws of logs: what is known after some steps, logs by place, and one step more.
use Rattle.std.specs.Prelude.{◌≡◌, ◌↔◌, ℕ, ◌+◌, List, [], ◌∷◌, ◌++◌, length, take, slice_get, Some}
use Rattle.clause_base.specs.declared.clause.Clause.{Clause}
use Rattle.clause_base.specs.declared.log.Step.{Step}
use Rattle.clause_base.specs.Logs.{IsFresh, IsNew, LogFollows, StepFollows, known_of}

-- with one step more its clause is the last that is known
abbrev pub KnownPushed : Type 0
KnownPushed = (clauses : List Clause) (steps : List Step) (s : Step)
    → known_of clauses (steps ++ s ∷ []) ≡ known_of clauses steps ++ s.clause ∷ []

abbrev pub KnownCounted : Type 0
KnownCounted = (clauses : List Clause) (steps : List Step)
    → length (known_of clauses steps) ≡ length clauses + length steps

-- the clauses of the formula keep their places, and those of the steps come next
abbrev pub KnownByPlace : Type 0
KnownByPlace = (clauses : List Clause) (steps : List Step) (k : ℕ)
    → ((c : Clause) → slice_get clauses k ≡ Some c → slice_get (known_of clauses steps) k ≡ Some c)
    × ((s : Step) → slice_get steps k ≡ Some s
    → slice_get (known_of clauses steps) (length clauses + k) ≡ Some s.clause)

-- a log follows exactly where the step at each place follows from what is known before it
abbrev pub FollowsByPlace : Type 0
FollowsByPlace = (vars : ℕ) (clauses : List Clause) (steps : List Step)
    → LogFollows vars clauses steps
    ↔ ((k : ℕ) (s : Step) → slice_get steps k ≡ Some s
    → StepFollows vars (known_of clauses (take k steps)) s)

abbrev pub FreshByPlace : Type 0
FreshByPlace = (clauses : List Clause) (steps : List Step)
    → IsFresh clauses steps
    ↔ ((k : ℕ) (s : Step) → slice_get steps k ≡ Some s
    → IsNew (known_of clauses (take k steps)) s.clause)

-- a log with one step more
abbrev pub FollowsPushed : Type 0
FollowsPushed = (vars : ℕ) (clauses : List Clause) (steps : List Step) (s : Step)
    → LogFollows vars clauses (steps ++ s ∷ [])
    ↔ (LogFollows vars clauses steps × StepFollows vars (known_of clauses steps) s)

abbrev pub FreshPushed : Type 0
FreshPushed = (clauses : List Clause) (steps : List Step) (s : Step)
    → IsFresh clauses (steps ++ s ∷ [])
    ↔ (IsFresh clauses steps × IsNew (known_of clauses steps) s.clause)
