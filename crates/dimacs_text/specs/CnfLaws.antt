-- Laws of the texts of formulas.
use Rattle.std.specs.Prelude.{◌≡◌, ℕ, Bool, List, filter_map}
use Rattle.std.specs.List.{list_all}
use Rattle.clause_base.specs.Literals.{clause_true}
use Rattle.clause_base.specs.declared.lit.Lit.{Lit}
use Rattle.dimacs_text.specs.CnfTexts.{SpellsCnf}
use Rattle.dimacs_text.specs.Tidy.{tidied}

-- the values make each clause true
abbrev pub all_true : List Bool → List (List Lit) → Bool
all_true values clauses = list_all (clause_true values) clauses

-- what a formula keeps of clauses is true under the same values as they are
abbrev pub KeptIsTrue : Type 0
KeptIsTrue = (values : List Bool) (clauses : List (List Lit))
    → all_true values (filter_map tidied clauses) ≡ all_true values clauses

-- lines spell clauses over so many variables in one way at most
abbrev pub OneCnf : Type 0
OneCnf = (lines : List (List ℕ)) (v w : ℕ) (cs ds : List (List Lit))
    → SpellsCnf lines v cs → SpellsCnf lines w ds → (v ≡ w) × (cs ≡ ds)
