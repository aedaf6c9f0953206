-- What values make of the text of a formula.
use Rattle.std.specs.Prelude.{◌≡◌, ℕ, Bool, true, List, length}
use Rattle.clause_base.specs.declared.lit.Lit.{Lit}
use Rattle.dimacs_text.specs.CnfLaws.{all_true}
use Rattle.dimacs_text.specs.CnfTexts.{SpellsCnf}
use Rattle.dimacs_text.specs.TextLines.{lines_of}

-- values, one for each variable, that make each clause of the text true
pub record IsModelOf (cnf : List ℕ) (values : List Bool) : Type 0 where
  pub clauses : List (List Lit)
  pub spelled : SpellsCnf (lines_of cnf) (length values) clauses
  pub satisfied : all_true values clauses ≡ true

-- the text is that of a formula, and no values make each of its clauses true
pub record HasNoModel (cnf : List ℕ) : Type 0 where
  pub vars : ℕ
  pub clauses : List (List Lit)
  pub spelled : SpellsCnf (lines_of cnf) vars clauses
  pub none : (values : List Bool) → all_true values clauses ≡ true → ⊥

-- the text is that of no formula
abbrev pub IsNoCnf : List ℕ → Type 0
IsNoCnf cnf = (vars : ℕ) (clauses : List (List Lit)) → SpellsCnf (lines_of cnf) vars clauses → ⊥
