-- When a formula states a question.
use Rattle.std.specs.Prelude.{◌≡◌, ◌↔◌, ℕ, Bool, List, take, length, Option, Some, IsSomeAnd}
use Rattle.clause_base.specs.declared.clause.Clause.{Clause}
use Rattle.clause_base.specs.Formulas.{Extend}
use Rattle.cegis_loop.specs.Space.{Space, IsFail, IsInput, IsLow}
use Rattle.cegis_loop.specs.State.{Question, First, Low, Fail}

-- How inputs and choices are read off truth values: each has so many, and some truth values stand
-- for nothing.
pub record Coding (C I : Type 0) : Type 0 where
  pub input_bits : ℕ
  pub input : List Bool → Option I
  pub choice_bits : ℕ
  pub choice : List Bool → Option C

-- how many truth values a question has
abbrev pub bits_of : {C I : Type 0} → Coding C I → Question C → ℕ
bits_of d First = d.input_bits
bits_of d (Low bound cases) = d.choice_bits
bits_of d (Fail c) = d.input_bits

-- the truth values stand for something that is asked for, where these inputs are kept
abbrev pub IsAnswered : {C I : Type 0} → Space C I → Coding C I → List I → Question C → List Bool
    → Type 0
IsAnswered s d kept First bits = IsSomeAnd (d.input bits) (IsInput s)
IsAnswered s d kept (Low bound cases) bits =
    IsSomeAnd (d.choice bits) (IsLow s bound (take cases kept))
IsAnswered s d kept (Fail c) bits = IsSomeAnd (d.input bits) (IsFail s c)

-- Truth values of the variables from 2 on extend to values that satisfy the formula exactly where
-- they stand for something that is asked for.
abbrev pub States : {C I : Type 0} → Space C I → Coding C I → List I → Question C → ℕ
    → List Clause → Type 0
States s d kept q vars clauses =
    (bits : List Bool) → length bits ≡ bits_of d q
    → Extend bits vars clauses ↔ IsAnswered s d kept q bits

-- another choice of the same cost that agrees on the same inputs
pub record IsAlike {C I : Type 0} (s : Space C I) (c e : C) : Type 0 where
  pub choice : s.is_choice e
  pub cost : s.cost e ≡ s.cost c
  pub agrees : (x : I) → s.agrees c x ↔ s.agrees e x

-- truth values that stand for an input
pub record SpellsInput {C I : Type 0} (d : Coding C I) (x : I) : Type 0 where
  pub bits : List Bool
  pub many : length bits ≡ d.input_bits
  pub spells : d.input bits ≡ Some x

-- truth values that stand for a choice that is like this one
pub record SpellsChoice {C I : Type 0} (s : Space C I) (d : Coding C I) (c : C) : Type 0 where
  pub bits : List Bool
  pub choice : C
  pub many : length bits ≡ d.choice_bits
  pub spells : d.choice bits ≡ Some choice
  pub alike : IsAlike s c choice

-- each input has truth values, and each choice has those of one like it
pub record IsFull {C I : Type 0} (s : Space C I) (d : Coding C I) : Type 0 where
  pub inputs : (x : I) → IsInput s x → SpellsInput d x
  pub choices : (c : C) → s.is_choice c → SpellsChoice s d c
