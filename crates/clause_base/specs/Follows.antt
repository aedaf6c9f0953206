-- When a clause follows by hints: unit propagation from its negation, as RUP steps with hints in
-- the LRAT format.
use Rattle.std.specs.Prelude.{ℕ, ◌+◌, ◌-◌, Bool, not, List, [], ◌∷◌, map, filter, slice_get}
use Rattle.std.specs.Option.{option_map_or}
use Rattle.std.specs.List.{list_any}
use Rattle.clause_base.specs.declared.lit.Lit.{Lit}
use Rattle.clause_base.specs.declared.clause.Clause.{Clause}
use Rattle.clause_base.specs.declared.answer.StepAnswer.{StepAnswer}
use Rattle.clause_base.specs.declared.answer.StepAnswer.TheVariants.{Good, NotUnit, NoEnd}
use Rattle.clause_base.specs.Literals.{opposite, same_literal}

-- a literal is false where its opposite is among the literals that are true
abbrev pub is_false : List Lit → Lit → Bool
is_false known l = list_any (same_literal (opposite l)) known

abbrev pub open_literals : List Lit → List Lit → List Lit
open_literals known clause = filter (λ l. not (is_false known l)) clause

-- by how many literals of a clause are open
abbrev pub by_open : List Lit → ℕ → (Lit → StepAnswer) → StepAnswer
by_open [] place next = Good
by_open (l ∷ []) place next = next l
by_open (l ∷ m ∷ ls) place next = NotUnit place

-- what the hinted clauses give in turn, from the literals that are true and the place of the first
abbrev pub follow : List Lit → ℕ → List (List Lit) → StepAnswer
follow known place [] = NoEnd
follow known place (c ∷ rest) = by_open (open_literals known c) place
    (λ l. follow (l ∷ known) (place + 1) rest)

-- the literals of the clause are taken as false
abbrev pub answer_of : List Lit → List (List Lit) → StepAnswer
answer_of clause hinted = follow (map opposite clause) 1 hinted

-- the literals of the clause at a place
abbrev pub literals_at : List Clause → ℕ → List Lit
literals_at clauses k = option_map_or (λ c. c.lits) (slice_get clauses k) []

-- the hinted clauses, the first of which has the number 1
abbrev pub hinted : List Clause → List ℕ → List (List Lit)
hinted clauses hints = map (λ h. literals_at clauses (h - 1)) hints
