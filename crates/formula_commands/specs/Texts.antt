-- The bytes and the statuses of the commands' answers. Each line ends with byte 10.
use Rattle.std.specs.Prelude.{ℕ, suc, Bool, List, [], ◌∷◌, ◌++◌, Option, None, Some, codes}
use Rattle.std.specs.Fmt.{decimal}
use Rattle.grade_io.specs.Words.{refusal_line}
use Rattle.grade_io.specs.declared.status.Status.{Status}
use Rattle.grade_io.specs.declared.status.Status.TheVariants as status
use Rattle.clause_base.specs.declared.lit.Lit.{Lit}
use Rattle.step_lines.specs.LineForms.{list_end, literals_text}
use Rattle.formula_commands.specs.Decisions.{SatAnswer, NoCnf, Satisfiable, Unsatisfiable}
use Rattle.formula_commands.specs.Decisions.{OutOfBudget, proof_text}
use Rattle.formula_commands.specs.Decisions.{UnsatAnswer, NoFormula, NoProof, Proved, WrongClaim}
use Rattle.formula_commands.specs.Decisions.{BadStep}
use Rattle.formula_commands.specs.Words.{SatWords, UnsatWords}

-- of each variable, from this one on, the literal that the values make true
abbrev pub value_literals : ℕ → List Bool → List Lit
value_literals var [] = []
value_literals var (v ∷ vs) = record { var = var; positive = v } ∷ value_literals (suc var) vs

-- the lines of values, the first of which is that of variable 1
abbrev pub satisfiable_text : List Bool → List ℕ
satisfiable_text values =
    codes "satisfiable\nv" ++ (literals_text (value_literals 1 values) ++ list_end) ++ codes "\n"

abbrev pub unsatisfiable_text : List ℕ
unsatisfiable_text = codes "unsatisfiable\n"

abbrev pub spent_text : ℕ → List ℕ
spent_text budget = codes "budget spent " ++ decimal budget ++ codes "\n"

-- what `sat` writes
abbrev pub sat_text : SatWords → SatAnswer → List ℕ
sat_text w (NoCnf line) = refusal_line w.cnf line (codes "Cnf")
sat_text w (Satisfiable values) = satisfiable_text values
sat_text w (Unsatisfiable steps) = unsatisfiable_text
sat_text w (OutOfBudget steps) = spent_text w.budget

abbrev pub sat_status : SatAnswer → Status
sat_status (NoCnf line) = status.Refused
sat_status (Satisfiable values) = status.Correct
sat_status (Unsatisfiable steps) = status.NoCorrection
sat_status (OutOfBudget steps) = status.Spent

-- the proof that `sat` stores
abbrev pub sat_kept : SatAnswer → Option (List ℕ)
sat_kept (NoCnf line) = None
sat_kept (Satisfiable values) = None
sat_kept (Unsatisfiable steps) = Some (proof_text steps)
sat_kept (OutOfBudget steps) = Some (proof_text steps)

abbrev pub bad_step_text : ℕ → List ℕ
bad_step_text step = codes "rejected BadStep step " ++ decimal step ++ codes "\n"

-- what `unsat` writes
abbrev pub unsat_text : UnsatWords → UnsatAnswer → List ℕ
unsat_text w (NoFormula line) = refusal_line w.cnf line (codes "Cnf")
unsat_text w (NoProof line) = refusal_line w.log line (codes "Proof")
unsat_text w Proved = unsatisfiable_text
unsat_text w WrongClaim = codes "rejected WrongClaim\n"
unsat_text w (BadStep step) = bad_step_text step

abbrev pub unsat_status : UnsatAnswer → Status
unsat_status (NoFormula line) = status.Refused
unsat_status (NoProof line) = status.Refused
unsat_status Proved = status.Correct
unsat_status WrongClaim = status.Rejected
unsat_status (BadStep step) = status.Rejected
