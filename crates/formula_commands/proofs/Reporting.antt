-- From what is found to its reports.
use Rattle.std.proofs.Common.{◌≡◌, ℕ, List, [], ◌∷◌, sym, ap, ◌∙◌, true, false, Result, Ok, Err, IfOk, None, Some}
use Rattle.std.specs.Prelude.{Bool, IsTrue, Option, ◌↔◌}
use Rattle.clause_base.specs.declared.formula.Formula.{Formula}
use Rattle.clause_base.specs.declared.log.Step.{Step}
use Rattle.clause_base.specs.Logs.{IsFresh, Refutes}
use Rattle.clause_base.specs.Solving.{IsLog, IsModel, IsSpent}
use Rattle.derivation_check.specs.Soundness.{RefutedHasNoValues}
use Rattle.sat_watch.specs.Searching.{NoneEmpty}
use Rattle.dimacs_text.specs.CnfLaws.{KeptIsTrue}
use Rattle.dimacs_text.specs.ProofTexts.{IsProofOf, ProofStopsAt}
use Rattle.dimacs_text.specs.Tidy.{IsCnfOf}
use Rattle.grade_io.specs.Words.{refusal_line}
use Rattle.grade_io.specs.declared.status.Status.{Status}
use Rattle.grade_io.specs.declared.status.Status.TheVariants as status
use Rattle.std.specs.Prelude.{codes, length}
use Rattle.file_commands.specs.Commands.{FileCommand}
use Rattle.file_commands.specs.Reports.{IsReport, bytes_of}
use Rattle.file_commands.specs.declared.report.Report.{Report}
use Rattle.formula_commands.specs.Commands.{sat_command, unsat_command}
use Rattle.formula_commands.specs.Decisions.{IsJudgedAs, IsProofFor, NoProof, OutOfBudget, Satisfiable, UnsatAnswer, Unsatisfiable, proof_text}
use Rattle.formula_commands.specs.Texts.{satisfiable_text, spent_text, unsat_status, unsat_text, unsatisfiable_text}
use Rattle.formula_commands.specs.Words.{SatWords, UnsatWords}
use Rattle.formula_commands.proofs.TextModels.{model_of, refuted_by, spent_on}

-- a fact that follows from another one, of the value of a call
pub ok_more : {T E : Type 0} (P Q : T → Type 0) (r : Result T E) → ((t : T) → P t → Q t) → IfOk r P → IfOk r Q
ok_more P Q (Ok t) more h = more t h
ok_more P Q (Err e) more h = tt

-- what a test said that failed
pub is_not_so : (b : Bool) (P : Type 0) → (IsTrue b ↔ P) → b ≡ false → P → ⊥
is_not_so b P iff e h = let so : b ≡ true = iff.1 h in cc

-- the parts of a report
pub reported : {A E : Type 0} (c : FileCommand A) (a : A) (ts : List (List ℕ)) (res : Result Report E) (text : List ℕ) (s : Status) (kept : Option (List ℕ))
    → IfOk res (λ r. r.text.items ≡ text) → IfOk res (λ r. r.status ≡ s) → IfOk res (λ r. bytes_of r ≡ kept)
    → text ≡ c.text a → s ≡ c.status a → kept ≡ c.kept a → c.decides ts a → IfOk res (IsReport c ts)
reported c a ts (Ok r) text s kept t u k text_is status_is kept_is decided = record {
  answer = a;
  decided = decided;
  shows = record { text = t ∙ text_is; status = u ∙ status_is; kept = k ∙ kept_is };
}
reported c a ts (Err e) text s kept t u k text_is status_is kept_is decided = tt

-- SAT

module _ (law : KeptIsTrue) (f : Formula) (budget : ℕ) where
  pub holds_report : (values : List Bool) (r : Report) → IsModel f values → r.text.items ≡ satisfiable_text values → r.status ≡ status.Correct → bytes_of r ≡ None
      → (w : SatWords) (cnf : List ℕ) → w.budget ≡ budget → IsCnfOf cnf f → IsReport (sat_command w) (cnf ∷ []) r
  holds_report values r model t s k w cnf is stands = record {
    answer = Satisfiable values;
    decided = model_of cnf f stands law values model;
    shows = record { text = t; status = s; kept = k };
  }

  pub refuted_report : {E : Type 0} → RefutedHasNoValues → (steps : List Step) (text : List ℕ) (res : Result Report E) → IsLog f.vars f.clauses budget steps → Refutes steps → text ≡ unsatisfiable_text
      → IfOk res (λ r. r.text.items ≡ text) → IfOk res (λ r. r.status ≡ status.NoCorrection) → IfOk res (λ r. bytes_of r ≡ Some (proof_text steps))
      → IfOk res (λ r. (w : SatWords) (cnf : List ℕ) → w.budget ≡ budget → IsCnfOf cnf f → IsReport (sat_command w) (cnf ∷ []) r)
  refuted_report none steps text (Ok r) log refutes is t s k = λ w cnf same stands. record {
    answer = Unsatisfiable steps;
    decided = refuted_by cnf f stands law none budget steps log refutes;
    shows = record { text = t ∙ is; status = s; kept = k };
  }
  refuted_report none steps text (Err e) log refutes is t s k = tt

  pub spent_report : {E : Type 0} (steps : List Step) (text : List ℕ) (res : Result Report E) → IsLog f.vars f.clauses budget steps → IsSpent budget steps → (NoneEmpty f.clauses → IsFresh f.clauses steps)
      → text ≡ spent_text budget → IfOk res (λ r. r.text.items ≡ text) → IfOk res (λ r. r.status ≡ status.Spent) → IfOk res (λ r. bytes_of r ≡ Some (proof_text steps))
      → IfOk res (λ r. (w : SatWords) (cnf : List ℕ) → w.budget ≡ budget → IsCnfOf cnf f → IsReport (sat_command w) (cnf ∷ []) r)
  spent_report steps text (Ok r) log spent fresh is t s k = λ w cnf same stands. record {
    answer = OutOfBudget steps;
    decided = rw same (spent_on cnf f stands budget steps log spent fresh);
    shows = record { text = t ∙ is ∙ ap spent_text (sym same); status = s; kept = k };
  }
  spent_report steps text (Err e) log spent fresh is t s k = tt

-- UNSAT

pub judged_report : {E : Type 0} (f : Formula) (steps : List Step) (a : UnsatAnswer) (text : List ℕ) (s : Status) (res : Result Report E)
    → IfOk res (λ r. r.text.items ≡ text) → IfOk res (λ r. r.status ≡ s) → IfOk res (λ r. bytes_of r ≡ None)
    → ((w : UnsatWords) → text ≡ unsat_text w a) → s ≡ unsat_status a → ((cnf proof : List ℕ) → IsProofFor cnf proof f steps → IsJudgedAs cnf proof a)
    → IfOk res (λ r. (w : UnsatWords) (cnf proof : List ℕ) → IsProofFor cnf proof f steps → IsReport (unsat_command w) (cnf ∷ proof ∷ []) r)
judged_report f steps a text s (Ok r) t u k text_is status_is judged = λ w cnf proof texts. record {
  answer = a;
  decided = judged cnf proof texts;
  shows = record { text = t ∙ text_is w; status = u ∙ status_is; kept = k };
}
judged_report f steps a text s (Err e) t u k text_is status_is judged = tt

pub no_proof_report : {E : Type 0} (w : UnsatWords) (f : Formula) (proof : List ℕ) (line known : ℕ) (res : Result Report E) → known ≡ length f.clauses
    → ProofStopsAt known f.vars proof line → ((steps : List Step) → IsProofOf known f.vars proof steps → ⊥)
    → IfOk res (λ r. r.text.items ≡ refusal_line w.log line (codes "Proof")) → IfOk res (λ r. r.status ≡ status.Refused) → IfOk res (λ r. bytes_of r ≡ None)
    → IfOk res (λ r. (cnf : List ℕ) → IsCnfOf cnf f → IsReport (unsat_command w) (cnf ∷ proof ∷ []) r)
no_proof_report w f proof line known (Ok r) count stops none t s k = λ cnf stands. record {
  answer = NoProof line;
  decided = record { formula = f; stands = stands; stops = rw count at stops; none = λ steps h. none steps (rw count h) };
  shows = record { text = t; status = s; kept = k };
}
no_proof_report w f proof line known (Err e) count stops none t s k = tt
