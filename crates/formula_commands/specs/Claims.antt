-- What a status of `sat` or of `unsat` says.
use Rattle.std.specs.Prelude.{ℕ, List, Bool, ◌⊎◌}
use Rattle.clause_base.specs.declared.log.Step.{Step}
use Rattle.grade_io.specs.Devices.{Devices}
use Rattle.grade_io.specs.Kept.{FilesLeft, Holds, Stored}
use Rattle.grade_io.specs.Written.{Wrote}
use Rattle.grade_io.specs.declared.status.Status.{Status}
use Rattle.grade_io.specs.declared.status.Status.TheVariants as status
use Rattle.formula_commands.specs.Decisions.{BadStep, IsJudgedAs, IsProofRefused, IsProved}
use Rattle.formula_commands.specs.Decisions.{IsRefuted, IsSpentOn, OutOfBudget, WrongClaim}
use Rattle.formula_commands.specs.Decisions.{proof_text}
use Rattle.formula_commands.specs.Models.{HasNoModel, IsModelOf, IsNoCnf}
use Rattle.formula_commands.specs.Texts.{sat_text, satisfiable_text, unsatisfiable_text}
use Rattle.formula_commands.specs.Words.{SatWords, UnsatWords}

-- WHATEVER THE FILES HOLD: a text is the file's where the shelf tells it

-- values were written that make each clause of the file true, and nothing was stored
pub record PrintsModel (w : SatWords) (before after : Devices) : Type 0 where
  pub cnf : List ℕ
  pub held : Holds before.shelf w.cnf cnf
  pub values : List Bool
  pub model : IsModelOf cnf values
  pub wrote : Wrote before.sink after.sink (satisfiable_text values)
  pub files : FilesLeft before.shelf after.shelf

-- no values make each clause of the file true, and a proof of it was stored
pub record StoresProof (w : SatWords) (before after : Devices) : Type 0 where
  pub cnf : List ℕ
  pub held : Holds before.shelf w.cnf cnf
  pub steps : List Step
  pub refuted : IsRefuted cnf steps
  pub stored : Stored w.log (proof_text steps) before.shelf after.shelf
  pub wrote : Wrote before.sink after.sink unsatisfiable_text

-- the steps were stored that were derived until the budget was spent
pub record StoresSteps (w : SatWords) (before after : Devices) : Type 0 where
  pub cnf : List ℕ
  pub held : Holds before.shelf w.cnf cnf
  pub steps : List Step
  pub spent : IsSpentOn cnf w.budget steps
  pub stored : Stored w.log (proof_text steps) before.shelf after.shelf
  pub wrote : Wrote before.sink after.sink (sat_text w (OutOfBudget steps))

-- no values make each clause of the file true, whatever wrote the proof
pub record TellsProved (w : UnsatWords) (before after : Devices) : Type 0 where
  pub cnf : List ℕ
  pub held : Holds before.shelf w.cnf cnf
  pub none : HasNoModel cnf
  pub wrote : Wrote before.sink after.sink unsatisfiable_text

-- WHERE THE TEXTS ARE TOLD, and no device failed: a text of the form is decided, unless the budget
-- is spent or memory lacks

abbrev pub IsSolved : ℕ → List ℕ → Status → Type 0
IsSolved budget cnf status.Correct = (values : List Bool) × IsModelOf cnf values
IsSolved budget cnf status.NoCorrection = HasNoModel cnf
IsSolved budget cnf status.Spent = (steps : List Step) × IsSpentOn cnf budget steps
IsSolved budget cnf status.Refused = IsNoCnf cnf
IsSolved budget cnf status.NoMemory = Unit {0}
IsSolved budget cnf status.Corrected = ⊥
IsSolved budget cnf status.ReadFailed = ⊥
IsSolved budget cnf status.WriteFailed = ⊥
IsSolved budget cnf status.Usage = ⊥
IsSolved budget cnf status.StoreFailed = ⊥
IsSolved budget cnf status.Rejected = ⊥

abbrev pub IsJudged : List ℕ → List ℕ → Status → Type 0
IsJudged cnf proof status.Correct = IsProved cnf proof
IsJudged cnf proof status.Rejected =
    IsJudgedAs cnf proof WrongClaim ⊎ ((step : ℕ) × IsJudgedAs cnf proof (BadStep step))
IsJudged cnf proof status.Refused =
    IsNoCnf cnf ⊎ ((line : ℕ) × IsProofRefused cnf proof line)
IsJudged cnf proof status.NoMemory = Unit {0}
IsJudged cnf proof status.Corrected = ⊥
IsJudged cnf proof status.NoCorrection = ⊥
IsJudged cnf proof status.Spent = ⊥
IsJudged cnf proof status.ReadFailed = ⊥
IsJudged cnf proof status.WriteFailed = ⊥
IsJudged cnf proof status.Usage = ⊥
IsJudged cnf proof status.StoreFailed = ⊥
