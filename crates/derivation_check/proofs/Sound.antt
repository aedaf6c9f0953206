-- What follows by hints holds wherever the known clauses hold.
use Rattle.std.proofs.Common.{◌≡◌, ℕ, ◌+◌, Bool, true, false, not, ◌||◌, List, [], ◌∷◌, map, refl, sym, ap, ◌∙◌, eqb, eqb-true, inl, inr}
use Rattle.std.specs.Bool.{beq}
use Rattle.std.specs.Prelude.{if◌then◌else◌}
use Rattle.std.specs.List.{list_all}
use Rattle.std.proofs.lemmas.Bool.{and_parts, and_from, or_parts, cases_Bool, not-true}
use Rattle.clause_base.specs.declared.lit.Lit.{Lit}
use Rattle.clause_base.specs.Literals.{value_of, literal_true, clause_true, opposite, same_literal}
use Rattle.clause_base.specs.declared.answer.StepAnswer.{StepAnswer}
use Rattle.clause_base.specs.declared.answer.StepAnswer.TheVariants.{Good}
use Rattle.clause_base.specs.Follows.{is_false, open_literals, by_open, follow, answer_of}

same_bool : (a b : Bool) → beq a b ≡ true → a ≡ b
same_bool true true h = refl
same_bool true false h = cc
same_bool false true h = cc
same_bool false false h = refl

or_false : (a : Bool) → (a || false) ≡ true → a ≡ true
or_false true h = refl
or_false false h = h

or_open : (a b b' : Bool) → (a || b) ≡ true → (b ≡ true → b' ≡ true) → (a || b') ≡ true
or_open true b b' h k = refl
or_open false b b' h k = k h

-- the literals that are taken as true are true
AllTrue : List Bool → List Lit → Type 0
AllTrue values known = list_all (literal_true values) known ≡ true

signed : Bool → Bool → Bool
signed p v = if p then v else not v

signed_not : (p v : Bool) → signed (not p) v ≡ not (signed p v)
unfolding signed
signed_not true v = refl
signed_not false true = refl
signed_not false false = refl

opposite_true : (values : List Bool) (l : Lit) → literal_true values (opposite l) ≡ not (literal_true values l)
unfolding signed
opposite_true values l = signed_not l.positive (value_of values l.var)

literal_same : (values : List Bool) (a b : Lit) → same_literal a b ≡ true → literal_true values a ≡ literal_true values b
literal_same values a b h =
    let parts = and_parts (eqb a.var b.var) (beq a.positive b.positive) h in
    let vars : a.var ≡ b.var = eqb-true a.var b.var parts.0 in
    let signs : a.positive ≡ b.positive = same_bool a.positive b.positive parts.1 in
    rw (vars, signs) refl

-- a literal that is false by the marks is false under the values
false_here : (values : List Bool) (known : List Lit) (l : Lit) → AllTrue values known → is_false known l ≡ true → literal_true values l ≡ false
unfolding AllTrue
false_here values [] l all h = cc
false_here values (k ∷ known) l all h =
    let parts = and_parts (literal_true values k) (list_all (literal_true values) known) all in
    elim (cases_Bool (same_literal (opposite l) k)) [
      | inl same ↦
          let up : literal_true values (opposite l) ≡ true = literal_same values (opposite l) k same ∙ parts.0 in
          not-true (literal_true values l) (sym (opposite_true values l) ∙ up)
      | inr other ↦ false_here values known l parts.1 (sym (ap (λ b. b || is_false known l) other) ∙ h)
    ]

-- a true clause has a true literal among its open ones
open_true : (values : List Bool) (known c : List Lit) → AllTrue values known → clause_true values c ≡ true → clause_true values (open_literals known c) ≡ true
open_true values known [] all h = h
open_true values known (l ∷ ls) all h =
    elim (cases_Bool (is_false known l)) [
      | inl closed ↦
          let low : literal_true values l ≡ false = false_here values known l all closed in
          rw closed (open_true values known ls all (sym (ap (λ b. b || clause_true values ls) low) ∙ h))
      | inr here ↦ rw here (or_open (literal_true values l) (clause_true values ls) (clause_true values (open_literals known ls)) h (λ k. open_true values known ls all k))
    ]

AllClauses : List Bool → List (List Lit) → Type 0
AllClauses values cs = list_all (clause_true values) cs ≡ true

by_case : (values : List Bool) (place : ℕ) (o : List Lit) (next : Lit → StepAnswer) → ((l : Lit) → literal_true values l ≡ true → next l ≡ Good → ⊥)
    → clause_true values o ≡ true → by_open o place next ≡ Good → ⊥
by_case values place [] next rest up h = cc
by_case values place (l ∷ []) next rest up h = rest l (or_false (literal_true values l) up) h
by_case values place (l ∷ m ∷ ls) next rest up h = cc

-- the rule never ends with yes where the known clauses and the literals taken as true are true
no_end : (values : List Bool) (known : List Lit) (place : ℕ) (cs : List (List Lit)) → AllTrue values known → AllClauses values cs → follow known place cs ≡ Good → ⊥
unfolding AllTrue AllClauses
no_end values known place [] all clauses h = cc
no_end values known place (c ∷ cs) all clauses h =
    let parts = and_parts (clause_true values c) (list_all (clause_true values) cs) clauses in
    by_case values place (open_literals known c) (λ l. follow (l ∷ known) (place + 1) cs)
    (λ l up. no_end values (l ∷ known) (place + 1) cs (and_from (literal_true values l) (list_all (literal_true values) known) up all) parts.1)
    (open_true values known c all parts.0) h

-- where a clause is false its opposites are true
opposites_true : (values : List Bool) (c : List Lit) → clause_true values c ≡ false → list_all (literal_true values) (map opposite c) ≡ true
opposites_true values [] h = refl
opposites_true values (l ∷ ls) h =
    let parts = or_parts (literal_true values l) (clause_true values ls) h in
    and_from _ _ (opposite_true values l ∙ ap not parts.0) (opposites_true values ls parts.1)

-- what follows is true wherever the known clauses are
pub follows_true : (values : List Bool) (clause : List Lit) (cs : List (List Lit)) → answer_of clause cs ≡ Good → list_all (clause_true values) cs ≡ true → clause_true values clause ≡ true
unfolding AllTrue AllClauses
follows_true values clause cs good clauses =
    elim (cases_Bool (clause_true values clause)) [ inl up ↦ up | inr down ↦ absurd (no_end values (map opposite clause) 1 cs (opposites_true values clause down) clauses good) ]
