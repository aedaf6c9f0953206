-- The formula of a graph and a goal.
use Rattle.std.specs.Prelude.{◌≡◌, ◌↔◌, ℕ, ◌+◌, Bool, true, false, List, [], ◌∷◌, ◌++◌, length, map}
use Rattle.bit_graph.specs.declared.gate.Source.{Source}
use Rattle.bit_graph.specs.declared.gate.Source.TheVariants.{Constant, Variable, Made}
use Rattle.bit_graph.specs.declared.gate.GraphBit.{GraphBit}
use Rattle.bit_graph.specs.declared.gate.Gate.{Gate}
use Rattle.bit_graph.specs.Gates.{Gates, is_positive_bit, reading, source_of, values_after}
use Rattle.clause_base.specs.declared.lit.Lit.{Lit}
use Rattle.clause_base.specs.declared.clause.Clause.{Clause}
use Rattle.clause_base.specs.Formulas.{Extend, satisfies}
use Rattle.clause_base.specs.Literals.{opposite}

-- variable 1 is true, then come the variables of the graph, and then its gates in order
abbrev pub number_of : ℕ → Source → ℕ
number_of variables Constant = 1
number_of variables (Variable i) = i + 2
number_of variables (Made k) = k + (variables + 2)

abbrev pub literal_of : ℕ → GraphBit → Lit
literal_of variables b =
    record { var = number_of variables (source_of b); positive = is_positive_bit b }

abbrev pub opposite_of : ℕ → GraphBit → Lit
opposite_of variables b = opposite (literal_of variables b)

-- the clauses of the gate at a place, which say that it is true where both its parts are (Tseitin's
-- encoding)
abbrev pub gate_clauses : ℕ → ℕ → Gate → List (List Lit)
gate_clauses variables k x =
    (record { var = k + (variables + 2); positive = false } ∷ literal_of variables x.left ∷ [])
    ∷ (record { var = k + (variables + 2); positive = false } ∷ literal_of variables x.right ∷ [])
    ∷ (record { var = k + (variables + 2); positive = true } ∷ opposite_of variables x.left
    ∷ opposite_of variables x.right ∷ [])
    ∷ []

abbrev pub clauses_from : ℕ → ℕ → List Gate → List (List Lit)
clauses_from variables k [] = []
clauses_from variables k (x ∷ xs) = gate_clauses variables k x ++ clauses_from variables (k + 1) xs

-- variable 1, the gates in order, and the goal
abbrev pub formula_of : Gates → GraphBit → List (List Lit)
formula_of g goal = (record { var = 1; positive = true } ∷ [])
    ∷ (clauses_from g.variables 0 g.gates ++ (literal_of g.variables goal ∷ []) ∷ [])

-- true, values of the variables, and those of the gates, under which the goal reads true
pub record AreValues (g : Gates) (goal : GraphBit) (values : List Bool) : Type 0 where
  pub inputs : List Bool
  pub many : length inputs ≡ g.variables
  pub values_are : values ≡ true ∷ inputs ++ values_after inputs [] g.gates
  pub holds : reading g inputs goal ≡ true

abbrev pub literals : List Clause → List (List Lit)
literals clauses = map (λ c. c.lits) clauses

-- the values that satisfy the clauses are those of the variables and gates under which the goal
-- reads true
abbrev pub IsEncoding : Gates → GraphBit → ℕ → List Clause → Type 0
IsEncoding g goal vars clauses = (values : List Bool) → length values ≡ vars
    → (satisfies values clauses ≡ true) ↔ AreValues g goal values

-- values of the graph's variables extend to ones that satisfy the formula exactly where the goal
-- reads true
abbrev pub States : Gates → GraphBit → ℕ → List Clause → Type 0
States g goal vars clauses = (inputs : List Bool) → length inputs ≡ g.variables
    → Extend inputs vars clauses ↔ (reading g inputs goal ≡ true)
