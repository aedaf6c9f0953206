-- What literals and clauses say under truth values of the variables.
use Rattle.std.specs.Prelude.{◌≡◌, ◌⊎◌, ℕ, ◌-◌, ◌==◌, ◌<◌, ◌≤◌, Bool, true, false, not, ◌&&◌, List}
use Rattle.std.specs.Prelude.{[], ◌∷◌, slice_index_or, if◌then◌else◌, All}
use Rattle.std.specs.Bool.{beq}
use Rattle.std.specs.List.{list_any}
use Rattle.clause_base.specs.declared.lit.Lit.{Lit}

abbrev pub opposite : Lit → Lit
opposite l = record { var = l.var; positive = not l.positive }

abbrev pub same_literal : Lit → Lit → Bool
same_literal a b = (a.var == b.var) && beq a.positive b.positive

-- the value of a variable, the first of which is 1
abbrev pub value_of : List Bool → ℕ → Bool
value_of values var = slice_index_or values (var - 1) false

abbrev pub literal_true : List Bool → Lit → Bool
literal_true values l = if l.positive then value_of values l.var else not (value_of values l.var)

-- a clause is true where one of its literals is
abbrev pub clause_true : List Bool → List Lit → Bool
clause_true values lits = list_any (literal_true values) lits

abbrev pub has_no_variable_twice : List Lit → Bool
has_no_variable_twice [] = true
has_no_variable_twice (l ∷ lits) = not (list_any (λ k. k.var == l.var) lits)
    && has_no_variable_twice lits

-- each variable is one of the first so many
pub record IsCovered (vars : ℕ) (lits : List Lit) : Type 0 where
  pub each : All (λ l. (0 < l.var) × (l.var ≤ vars)) lits

-- the greatest variable, or 0 where there is no literal
pub record IsGreatest (v : ℕ) (lits : List Lit) : Type 0 where
  pub most : All (λ l. l.var ≤ v) lits
  pub stands : (v ≡ 0) ⊎ (list_any (λ l. l.var == v) lits ≡ true)
