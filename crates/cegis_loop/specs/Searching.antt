-- What holds while a search goes on.
use Rattle.std.specs.Prelude.{◌≡◌, ◌≢◌, ℕ, ◌+◌, ◌<◌, List, [], ◌++◌, length, IfSome}
use Rattle.cegis_loop.specs.declared.search.Attempt.{Attempt}
use Rattle.cegis_loop.specs.declared.search.Attempt.TheVariants.{Failed, NoneWithin, Ended}
use Rattle.cegis_loop.specs.Space.{Space, IsLow, NoneAbove}
use Rattle.cegis_loop.specs.State.{State, Told}
use Rattle.cegis_loop.specs.Order.{Asks, Due, DueLow, DueFail, End, bound_at, IsSearch, IsAtLeast}
use Rattle.cegis_loop.specs.Answers.{IsKept, IsAnswer, NoneBelow}

-- questions that go on in order from the one that is due make, behind these, a search
pub record LeadsTo {C I : Type 0} (s : Space C I) (due : Due C) (k : ℕ) (kept : List I)
    (asked : List (Told C)) : Type 0 where
  pub ruled : ℕ
  pub on : (later : List I) (rest : List (Told C)) (end : End C)
      → Asks s due ruled kept later rest end
      → IsSearch s (kept ++ later) (asked ++ rest) end
  pub at_least : IsAtLeast asked k

-- there are inputs, and no choice of a cost below k agrees on the kept ones
pub record IsGoing {C I : Type 0} (s : Space C I) (a : State C I) (due : Due C) (k : ℕ)
    : Type 0 where
  pub some : s.inputs ≢ []
  pub most : NoneAbove s s.most_cost
  pub kept : IsKept s a.kept
  pub none : NoneBelow s a.kept k
  pub asked : IfSome a.told (LeadsTo s due k a.kept)

-- a choice is to be proposed
abbrev pub IsProposing : {C I : Type 0} → Space C I → State C I → ℕ → Type 0
IsProposing s a k = IsGoing s a (DueLow (bound_at s.most_cost k)) k

-- a choice was proposed
pub record IsTrying {C I : Type 0} (s : Space C I) (a : State C I) (k : ℕ) (c : C)
    : Type 0 where
  pub going : IsGoing s a (DueFail (bound_at s.most_cost k) c) k
  pub low : IsLow s (bound_at s.most_cost k) a.kept c

-- what came of one attempt: an input more is kept, or the bound is to be raised, or it is the end
abbrev pub IsAttempt : {C I : Type 0} → Space C I → State C I → State C I → ℕ → Attempt C → Type 0
IsAttempt s old new k Failed =
    IsProposing s new k × (length new.kept ≡ length old.kept + 1)
IsAttempt s old new k NoneWithin =
    IsProposing s new (k + 1) × (k < s.most_cost) × (length new.kept ≡ length old.kept)
IsAttempt s old new k (Ended answer) = IsAnswer s new answer
