-- The signs of variables among literals.
use Rattle.std.specs.Prelude.{ℕ, Bool, ◌==◌, List, [], ◌∷◌, Option, Some, None, if◌then◌else◌}
use Rattle.clause_base.specs.declared.lit.Lit.{Lit}

-- the sign in which a variable stands first
abbrev pub first_sign : ℕ → List Lit → Option Bool
first_sign v [] = None
first_sign v (l ∷ lits) = if l.var == v then Some l.positive else first_sign v lits
