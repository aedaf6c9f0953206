-- What is searched: choices and inputs.
use Rattle.std.specs.Prelude.{ℕ, ◌≤◌, List, Option, All, IfSome}
use Rattle.std.specs.List.{Contains}

-- The choices, each with its cost, and the greatest cost. The inputs on which the reference ends,
-- and on which of them a choice gives the value of the reference. How many clauses may be logged.
pub record Space (C I : Type 0) : Type 1 where
  pub is_choice : C → Type 0
  pub cost : C → ℕ
  pub most_cost : ℕ
  pub inputs : List I
  pub agrees : C → I → Type 0
  pub budget : ℕ

abbrev pub IsInput : {C I : Type 0} → Space C I → I → Type 0
IsInput s x = Contains s.inputs x

-- the choice agrees on each of these inputs
abbrev pub AgreesOn : {C I : Type 0} → Space C I → List I → C → Type 0
AgreesOn s on c = All (s.agrees c) on

-- no choice costs more than this
abbrev pub NoneAbove : {C I : Type 0} → Space C I → ℕ → Type 0
NoneAbove {C} s most = (c : C) → s.is_choice c → s.cost c ≤ most

-- a choice within the bound, where there is one, that agrees on these inputs
pub record IsLow {C I : Type 0} (s : Space C I) (bound : Option ℕ) (on : List I) (c : C)
    : Type 0 where
  pub choice : s.is_choice c
  pub within : IfSome bound (λ most. s.cost c ≤ most)
  pub agrees : AgreesOn s on c

-- an input on which the choice doesn't agree
pub record IsFail {C I : Type 0} (s : Space C I) (c : C) (x : I) : Type 0 where
  pub input : IsInput s x
  pub fails : ¬ s.agrees c x
