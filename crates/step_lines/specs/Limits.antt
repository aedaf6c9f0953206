-- The limits of literals, of hints and of steps.
use Rattle.std.specs.Prelude.{◌≡◌, ℕ, suc, Bool, true, ◌&&◌, nat_le, nat_lt, List, [], ◌∷◌}
use Rattle.std.specs.List.{list_all}
use Rattle.clause_base.specs.Formulas.{in_range}
use Rattle.clause_base.specs.declared.lit.Lit.{Lit}
use Rattle.clause_base.specs.declared.log.Step.{Step}

abbrev pub greatest_number : ℕ
greatest_number = 2147483647

abbrev pub is_number : ℕ → Bool
is_number n = nat_le n greatest_number

-- a literal whose variable is one of the first `vars`
abbrev pub is_literal : ℕ → Lit → Bool
is_literal vars l = in_range vars l && is_number l.var

-- the number of an earlier clause
abbrev pub is_hint : ℕ → ℕ → Bool
is_hint number h = nat_lt 0 h && (nat_lt h number && is_number h)

-- a step whose clause has this number
pub record KeepsStep (vars number : ℕ) (s : Step) : Type 0 where
  pub literals : list_all (is_literal vars) s.clause.lits ≡ true
  pub hints : list_all (is_hint number) s.hints ≡ true

-- steps, the first of which has this number
abbrev pub KeepsSteps : ℕ → ℕ → List Step → Type 0
KeepsSteps vars number [] = Unit {0}
KeepsSteps vars number (s ∷ steps) = KeepsStep vars number s × KeepsSteps vars (suc number) steps
