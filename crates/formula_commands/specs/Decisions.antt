-- What the texts of `sat` and of `unsat` decide.
use Rattle.std.specs.Prelude.{ℕ, List, [], ◌∷◌, Bool, length}
use Rattle.clause_base.specs.declared.formula.Formula.{Formula}
use Rattle.clause_base.specs.declared.log.Step.{Step}
use Rattle.clause_base.specs.Logs.{IsFresh, LogFollows, Refutes}
use Rattle.clause_base.specs.Solving.{IsSpent}
use Rattle.sat_watch.specs.Searching.{NoneEmpty}
use Rattle.step_lines.specs.Lines.{ended}
use Rattle.dimacs_text.specs.CnfTexts.{StopsAt}
use Rattle.dimacs_text.specs.ProofTexts.{IsProofOf, ProofStopsAt, proof_lines}
use Rattle.dimacs_text.specs.Tidy.{IsCnfOf}
use Rattle.log_check.specs.BadSteps.{IsBadPlace}
use Rattle.formula_commands.specs.Models.{HasNoModel, IsModelOf, IsNoCnf}

-- the texts are those of the formula, and of a proof with these steps over it
pub record IsProofFor (cnf proof : List ℕ) (f : Formula) (steps : List Step) : Type 0 where
  pub stands : IsCnfOf cnf f
  pub spelled : IsProofOf (length f.clauses) f.vars proof steps

-- the proof's steps follow from the formula, and its last clause is empty
pub record Proves (cnf proof : List ℕ) (steps : List Step) : Type 0 where
  pub formula : Formula
  pub texts : IsProofFor cnf proof formula steps
  pub follows : LogFollows formula.vars formula.clauses steps
  pub refutes : Refutes steps

-- The text isn't of the form of a formula. It is refused at the least line at which the form can't
-- go on.
pub record IsCnfRefused (cnf : List ℕ) (line : ℕ) : Type 0 where
  pub stops : StopsAt cnf line
  pub none : IsNoCnf cnf

-- SAT

-- What `sat` answers: that the text is refused at a line; values; the steps of a proof; or the
-- steps that were derived until the budget was spent.
pub data SatAnswer : Type 0 where
  NoCnf : (line : ℕ) → SatAnswer
  Satisfiable : (values : List Bool) → SatAnswer
  Unsatisfiable : (steps : List Step) → SatAnswer
  OutOfBudget : (steps : List Step) → SatAnswer

abbrev pub proof_text : List Step → List ℕ
proof_text steps = ended (proof_lines steps)

-- no values satisfy the formula, and the proof with these steps shows it
pub record IsRefuted (cnf : List ℕ) (steps : List Step) : Type 0 where
  pub none : HasNoModel cnf
  pub shown : Proves cnf (proof_text steps) steps

-- As many steps as the budget has follow from the formula, none of them the empty clause; they are
-- fresh where the formula has no empty clause.
pub record IsSpentOn (cnf : List ℕ) (budget : ℕ) (steps : List Step) : Type 0 where
  pub formula : Formula
  pub texts : IsProofFor cnf (proof_text steps) formula steps
  pub follows : LogFollows formula.vars formula.clauses steps
  pub spent : IsSpent budget steps
  pub fresh : NoneEmpty formula.clauses → IsFresh formula.clauses steps

abbrev pub IsSolvedAs : ℕ → List ℕ → SatAnswer → Type 0
IsSolvedAs budget cnf (NoCnf line) = IsCnfRefused cnf line
IsSolvedAs budget cnf (Satisfiable values) = IsModelOf cnf values
IsSolvedAs budget cnf (Unsatisfiable steps) = IsRefuted cnf steps
IsSolvedAs budget cnf (OutOfBudget steps) = IsSpentOn cnf budget steps

abbrev pub sat_decides : ℕ → List (List ℕ) → SatAnswer → Type 0
sat_decides budget (cnf ∷ []) a = IsSolvedAs budget cnf a
sat_decides budget _ a = ⊥

-- UNSAT

-- What `unsat` answers: that one of the texts is refused at a line; that no values satisfy the
-- formula; that the last clause of the proof isn't empty, or there is none; or the first step that
-- doesn't follow.
pub data UnsatAnswer : Type 0 where
  NoFormula : (line : ℕ) → UnsatAnswer
  NoProof : (line : ℕ) → UnsatAnswer
  Proved : UnsatAnswer
  WrongClaim : UnsatAnswer
  BadStep : (step : ℕ) → UnsatAnswer

-- The text isn't of the form of a proof over the formula. It is refused at the least line at which
-- the form can't go on.
pub record IsProofRefused (cnf proof : List ℕ) (line : ℕ) : Type 0 where
  pub formula : Formula
  pub stands : IsCnfOf cnf formula
  pub stops : ProofStopsAt (length formula.clauses) formula.vars proof line
  pub none : (steps : List Step) → IsProofOf (length formula.clauses) formula.vars proof steps → ⊥

-- no values satisfy the formula, and the proof shows it
pub record IsProved (cnf proof : List ℕ) : Type 0 where
  pub none : HasNoModel cnf
  pub steps : List Step
  pub shown : Proves cnf proof steps

-- the last clause of the proof isn't empty, or there is none
pub record IsWrongClaim (cnf proof : List ℕ) : Type 0 where
  pub formula : Formula
  pub steps : List Step
  pub texts : IsProofFor cnf proof formula steps
  pub left : Refutes steps → ⊥

-- the last clause is empty, and this step is the first that doesn't follow
pub record IsBadStep (cnf proof : List ℕ) (step : ℕ) : Type 0 where
  pub formula : Formula
  pub steps : List Step
  pub texts : IsProofFor cnf proof formula steps
  pub refutes : Refutes steps
  pub first : IsBadPlace formula steps step

abbrev pub IsJudgedAs : List ℕ → List ℕ → UnsatAnswer → Type 0
IsJudgedAs cnf proof (NoFormula line) = IsCnfRefused cnf line
IsJudgedAs cnf proof (NoProof line) = IsProofRefused cnf proof line
IsJudgedAs cnf proof Proved = IsProved cnf proof
IsJudgedAs cnf proof WrongClaim = IsWrongClaim cnf proof
IsJudgedAs cnf proof (BadStep step) = IsBadStep cnf proof step

abbrev pub unsat_decides : List (List ℕ) → UnsatAnswer → Type 0
unsat_decides (cnf ∷ proof ∷ []) a = IsJudgedAs cnf proof a
unsat_decides _ a = ⊥
