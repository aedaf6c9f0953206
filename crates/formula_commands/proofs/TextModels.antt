-- What is found of a formula says of its text.
use Rattle.std.proofs.Common.{◌≡◌, ℕ, List, [], ◌∷◌, refl, sym, ap, subst, ◌∙◌, ◌&&◌, arith}
use Rattle.std.specs.Prelude.{Bool}
use Rattle.clause_base.specs.declared.clause.Clause.{Clause}
use Rattle.clause_base.specs.declared.formula.Formula.{Formula}
use Rattle.clause_base.specs.declared.log.Step.{Step}
use Rattle.clause_base.specs.Formulas.{satisfies}
use Rattle.clause_base.specs.Literals.{clause_true}
use Rattle.clause_base.specs.Logs.{IsFresh, LogFollows, Refutes}
use Rattle.clause_base.specs.Solving.{IsLog, IsModel, IsSpent}
use Rattle.derivation_check.specs.Soundness.{RefutedHasNoValues}
use Rattle.sat_watch.specs.Searching.{NoneEmpty}
use Rattle.dimacs_text.specs.CnfLaws.{KeptIsTrue, all_true}
use Rattle.dimacs_text.specs.CnfTexts.{SpellsCnf}
use Rattle.dimacs_text.specs.TextLines.{lines_of}
use Rattle.dimacs_text.specs.Tidy.{IsCnfOf, literals_of}
use Rattle.log_check.proofs.KeptSteps.{steps_kept}
use Rattle.formula_commands.specs.Decisions.{IsProofFor, IsProved, IsRefuted, IsSpentOn, proof_text}
use Rattle.formula_commands.specs.Models.{HasNoModel, IsModelOf}

-- a formula is satisfied where its lists of literals are
literals_satisfied : (values : List Bool) (cs : List Clause) → satisfies values cs ≡ all_true values (literals_of cs)
literals_satisfied values [] = refl
literals_satisfied values (c ∷ cs) = ap (λ b. clause_true values c.lits && b) (literals_satisfied values cs)

module _ (cnf : List ℕ) (f : Formula) (is : IsCnfOf cnf f) where
  -- values make the clauses of the text true exactly where they satisfy the formula
  same_truth : KeptIsTrue → (values : List Bool) → satisfies values f.clauses ≡ all_true values is.clauses
  same_truth law values = literals_satisfied values f.clauses ∙ ap (all_true values) is.kept ∙ law values is.clauses

  pub model_of : KeptIsTrue → (values : List Bool) → IsModel f values → IsModelOf cnf values
  model_of law values model = record {
    clauses = is.clauses;
    spelled = subst (λ n. SpellsCnf (lines_of cnf) n is.clauses) (sym model.many) is.spelled;
    satisfied = sym (same_truth law values) ∙ model.satisfied;
  }

  no_model : KeptIsTrue → RefutedHasNoValues → (steps : List Step) → LogFollows f.vars f.clauses steps → Refutes steps → HasNoModel cnf
  no_model law none steps follows refutes = record {
    vars = f.vars;
    clauses = is.clauses;
    spelled = is.spelled;
    none = λ values holds. none f.vars f.clauses steps values follows refutes (same_truth law values ∙ holds);
  }

  -- the text of a log that follows is that of a proof
  proof_of : (budget : ℕ) (steps : List Step) → IsLog f.vars f.clauses budget steps → IsProofFor cnf (proof_text steps) f steps
  proof_of budget steps log =
      let few = is.spelled.headed.few_vars in
      record {
        stands = is;
        spelled = (refl, steps_kept f.vars f.clauses steps (omega (arith, few)) log.numbered log.follows);
      }

  pub refuted_by : KeptIsTrue → RefutedHasNoValues → (budget : ℕ) (steps : List Step) → IsLog f.vars f.clauses budget steps → Refutes steps → IsRefuted cnf steps
  refuted_by law none budget steps log refutes = record {
    none = no_model law none steps log.follows refutes;
    shown = record { formula = f; texts = proof_of budget steps log; follows = log.follows; refutes = refutes };
  }

  pub spent_on : (budget : ℕ) (steps : List Step) → IsLog f.vars f.clauses budget steps → IsSpent budget steps → (NoneEmpty f.clauses → IsFresh f.clauses steps)
      → IsSpentOn cnf budget steps
  spent_on budget steps log spent fresh = record {
    formula = f;
    texts = proof_of budget steps log;
    follows = log.follows;
    spent = spent;
    fresh = fresh;
  }

pub proved_by : KeptIsTrue → RefutedHasNoValues → (cnf proof : List ℕ) (f : Formula) (steps : List Step) → IsProofFor cnf proof f steps → LogFollows f.vars f.clauses steps → Refutes steps
    → IsProved cnf proof
proved_by law none cnf proof f steps texts follows refutes = record {
  none = no_model cnf f texts.stands law none steps follows refutes;
  steps = steps;
  shown = record { formula = f; texts = texts; follows = follows; refutes = refutes };
}
