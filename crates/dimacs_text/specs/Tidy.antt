-- What a formula keeps of the clauses of a text.
use Rattle.std.specs.Prelude.{◌≡◌, ℕ, Bool, true, false, ◌||◌, List, [], ◌∷◌, ◌++◌, map, Option}
use Rattle.std.specs.Prelude.{Some, None, filter_map, if◌then◌else◌}
use Rattle.std.specs.List.{list_any}
use Rattle.clause_base.specs.Literals.{opposite, same_literal}
use Rattle.clause_base.specs.declared.clause.Clause.{Clause}
use Rattle.clause_base.specs.declared.formula.Formula.{Formula}
use Rattle.clause_base.specs.declared.lit.Lit.{Lit}
use Rattle.dimacs_text.specs.CnfTexts.{SpellsCnf}
use Rattle.dimacs_text.specs.TextLines.{lines_of}

abbrev pub stands : Lit → List Lit → Bool
stands l lits = list_any (same_literal l) lits

-- behind literals that are kept each further one, where it stands first
abbrev pub once_onto : List Lit → List Lit → List Lit
once_onto kept [] = kept
once_onto kept (l ∷ lits) = once_onto (if stands l kept then kept else kept ++ l ∷ []) lits

-- some variable stands in both signs
abbrev pub has_both : List Lit → Bool
has_both [] = false
has_both (l ∷ lits) = stands (opposite l) lits || has_both lits

-- a clause with a variable in both signs is passed over; a literal counts once
abbrev pub tidied : List Lit → Option (List Lit)
tidied lits = if has_both lits then None else Some (once_onto [] lits)

abbrev pub literals_of : List Clause → List (List Lit)
literals_of clauses = map (λ c. c.lits) clauses

-- the formula of a text
pub record IsCnfOf (text : List ℕ) (f : Formula) : Type 0 where
  pub clauses : List (List Lit)
  pub spelled : SpellsCnf (lines_of text) f.vars clauses
  pub kept : literals_of f.clauses ≡ filter_map tidied clauses
