-- What is seen of questions: which were asked, and what came of them.
use Rattle.std.specs.Prelude.{◌≡◌, ℕ, List, [], Option, IfSome}

-- A question: for an input; for a choice within the bound, where there is one, that agrees on the
-- first so many of the kept inputs; for an input on which a choice fails.
pub data Question (C : Type 0) : Type 0 where
  First : Question C
  Low : (bound : Option ℕ) (cases : ℕ) → Question C
  Fail : (choice : C) → Question C

-- a question that was asked, which is refuted where it was answered that there is nothing
pub data Told (C : Type 0) : Type 0 where
  Refuted : (question : Question C) → Told C
  Open : (question : Question C) → Told C

-- the inputs that are kept and the questions that were asked, in order, the questions where they
-- are told; and how many clauses were logged
pub record State (C I : Type 0) : Type 0 where
  pub kept : List I
  pub told : Option (List (Told C))
  pub logged : ℕ

-- no input is kept, and no question was asked
pub record IsFresh {C I : Type 0} (a : State C I) : Type 0 where
  pub kept : a.kept ≡ []
  pub told : IfSome a.told (λ asked. asked ≡ [])
