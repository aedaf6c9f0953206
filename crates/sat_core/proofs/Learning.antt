-- One step more in the log.
use Rattle.std.proofs.Common.{◌≡◌, ◌≢◌, ℕ, ◌+◌, ◌-◌, Bool, true, false, List, [], ◌∷◌, ◌++◌, length, slice_get, Some, Option, arith, refl, sym, ap, ◌∙◌, subst, ◌==◌, suc, eqb-true}
use Rattle.std.specs.Prelude.{IsSomeAnd}
use Rattle.std.proofs.lemmas.List.{length_push}
use Rattle.std.proofs.lemmas.List.Elements.{All-push}
use Rattle.clause_base.specs.declared.clause.Clause.{Clause}
use Rattle.clause_base.specs.declared.lit.Lit.{Lit}
use Rattle.clause_base.specs.declared.log.Step.{Step}
use Rattle.clause_base.specs.Formulas.{IsLedBy}
use Rattle.clause_base.specs.Logs.{IsNarrow, Refutes}
use Rattle.sat_watch.specs.Searching.{Base, IsLogged, NoneRefutes}
use Rattle.sat_core.specs.Explaining.{IsLearnt}

last_of : (xs : List Step) (x : Step) → slice_get (xs ++ x ∷ []) (length xs) ≡ Some x
last_of [] x = refl
last_of (y ∷ ys) x = last_of ys x

refutes_push : (steps : List Step) (s : Step) → s.clause.lits ≡ [] → Refutes (steps ++ s ∷ [])
refutes_push steps s empty =
    let long : length (steps ++ s ∷ []) ≡ length steps + 1 = length_push steps s in
    let back : length (steps ++ s ∷ []) - 1 ≡ length steps = omega arith in
    let last : slice_get (steps ++ s ∷ []) (length (steps ++ s ∷ []) - 1) ≡ Some s = ap (slice_get (steps ++ s ∷ [])) back ∙ last_of steps s in
    subst (λ (o : Option Step). IsSomeAnd o (λ x. x.clause.lits ≡ [])) (sym last) empty

pub empty_of : (lits : List Lit) → (length lits == 0) ≡ true → lits ≡ []
empty_of [] h = refl
empty_of (l ∷ ls) h = let none : suc (length ls) ≡ 0 = eqb-true (suc (length ls)) 0 h in absurd (omega arith)

pub filled_of : (lits : List Lit) → (length lits == 0) ≡ false → lits ≢ []
filled_of [] h = λ none. cc
filled_of (l ∷ ls) h = λ none. cc

pub learnt : (old new : Base) (step : Step) (refuted : Bool) → NoneRefutes old.steps → new ≡ record old { steps = old.steps ++ step ∷ [] }
    → (refuted ≡ true → step.clause.lits ≡ []) → (refuted ≡ false → step.clause.lits ≢ []) → IsLearnt old new refuted
learnt old new step refuted going is none some =
    subst (λ (b : Base). IsLearnt old b refuted) (sym is) (record {
      vars = refl;
      clauses = refl;
      many = length_push old.steps step;
      going = λ no. All-push (λ (s : Step). s.clause.lits ≢ []) old.steps step going (some no);
      refutes = λ yes. refutes_push old.steps step (none yes);
    })

-- a log is as narrow as its formula is led
pub narrow_log : (base : Base) (vars : ℕ) (clauses : List Clause) (steps : List Step) (d : ℕ) → IsLogged base → base.vars ≡ vars → base.clauses ≡ clauses → steps ≡ base.steps
    → IsLedBy d vars clauses → IsNarrow d steps
narrow_log base vars clauses steps d logged is_vars is_clauses is_steps led =
    let mine : IsLedBy d base.vars base.clauses = rw (is_vars, is_clauses) led in
    subst (IsNarrow d) (sym is_steps) (logged.narrow d mine)
