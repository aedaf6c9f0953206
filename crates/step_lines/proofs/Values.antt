-- When two clauses, steps and literals are one.
use Rattle.std.proofs.Common.{◌≡◌, ℕ, Bool, true, List, ap, ◌∙◌, subst}
use Rattle.std.proofs.Math.Bool.{Bool-set}
use Rattle.clause_base.specs.Literals.{has_no_variable_twice}
use Rattle.clause_base.specs.declared.clause.Clause.{Clause}
use Rattle.clause_base.specs.declared.lit.Lit.{Lit}
use Rattle.clause_base.specs.declared.log.Step.{Step}

-- what is made of something and of a fact that has one proof at most
pub over : {A B : Type 0} (R : A → Type 0) (f : (x : A) → R x → B) → ((x : A) → IsProp (R x)) → (x y : A) → x ≡ y → (p : R x) (q : R y) → f x p ≡ f y q
over {A} {B} R f one x y e p q = subst (λ (z : A). (r : R z) → f x p ≡ f z r) e (λ r. ap (f x) (one x p r)) q

abbrev IsDistinct : List Lit → Type 0
IsDistinct lits = has_no_variable_twice lits ≡ true

abbrev clause_with : (lits : List Lit) → IsDistinct lits → Clause
clause_with lits d = record { lits = lits; distinct = d }

one_distinct : (lits : List Lit) → IsProp (IsDistinct lits)
one_distinct lits = hlevel Bool-set

pub same_clause : (a b : Clause) → a.lits ≡ b.lits → a ≡ b
same_clause a b e = over IsDistinct clause_with one_distinct a.lits b.lits e a.distinct b.distinct

abbrev step_with : Clause → List ℕ → Step
step_with c hints = record { clause = c; hints = hints }

pub same_step : (a b : Step) → a.clause.lits ≡ b.clause.lits → a.hints ≡ b.hints → a ≡ b
same_step a b e h = ap (λ x. step_with x a.hints) (same_clause a.clause b.clause e) ∙ ap (step_with b.clause) h

abbrev literal_with : ℕ → Bool → Lit
literal_with v p = record { var = v; positive = p }

pub same_literal_value : (a b : Lit) → a.var ≡ b.var → a.positive ≡ b.positive → a ≡ b
same_literal_value a b v p = ap (λ x. literal_with x a.positive) v ∙ ap (literal_with b.var) p
