-- Steps that are checked, one after the other.
use Rattle.std.proofs.Common.{◌≡◌, ◌⊎◌, inl, inr, ℕ, zero, suc, ◌<◌, ◌≤◌, ◌+◌, true, ◌&&◌, List, [], ◌∷◌, ◌++◌, length, take, Some, slice_get, refl, sym, ap, subst, ◌∙◌, arith}
use Rattle.std.specs.Prelude.{All, nat_lt}
use Rattle.std.specs.List.{list_all}
use Rattle.std.proofs.lemmas.Bool.{and_from, and_parts, ltb-true}
use Rattle.std.proofs.lemmas.List.Elements.{All-nil, All-cons}
use Rattle.clause_base.specs.declared.answer.StepAnswer.{StepAnswer}
use Rattle.clause_base.specs.declared.answer.StepAnswer.TheVariants as answer
use Rattle.clause_base.specs.declared.clause.Clause.{Clause}
use Rattle.clause_base.specs.declared.lit.Lit.{Lit}
use Rattle.clause_base.specs.declared.log.Step.{Step}
use Rattle.clause_base.specs.Formulas.{clauses_in_range, in_range}
use Rattle.clause_base.specs.Logs.{LogFollows, StepFollows, known_of}
use Rattle.clause_base.specs.declared.formula.Formula.{Formula}
use Rattle.std.proofs.lemmas.List.{length-take-le}
use Rattle.std.proofs.lemmas.Option.{slice_get_within}
use Rattle.log_check.specs.BadSteps.{IsBadPlace}
use Rattle.clause_base.proofs.LogLaws.{follows_pushed, known_counted, known_pushed}
use Rattle.step_lines.specs.Limits.{KeepsStep, KeepsSteps, is_hint, is_literal, is_number}

-- one element more of a list
pub take_get : {X : Type 0} (xs : List X) (i : ℕ) (x : X) → slice_get xs i ≡ Some x → take (i + 1) xs ≡ take i xs ++ x ∷ []
take_get [] i x e = cc
take_get (y ∷ ys) zero x e = (let p : y ≡ x = cc in ap (λ z. z ∷ []) p)
take_get (y ∷ ys) (suc i) x e =
    let more : suc i + 1 ≡ suc (i + 1) = omega arith in
    ap (λ n. take n (y ∷ ys)) more ∙ ap (λ zs. y ∷ zs) (take_get ys i x e)

-- the limits of the step at a place
pub keeps_at : (vars n : ℕ) (steps : List Step) (i : ℕ) (x : Step) → KeepsSteps vars n steps → slice_get steps i ≡ Some x → KeepsStep vars (n + i) x
keeps_at vars n [] i x keeps at = cc
keeps_at vars n (y ∷ ys) zero x keeps at =
    let p : y ≡ x = cc in
    let e : n ≡ n + 0 = omega arith in
    subst (λ m. KeepsStep vars m x) e (subst (KeepsStep vars n) p keeps.0)
keeps_at vars n (y ∷ ys) (suc i) x keeps at =
    let e : suc n + i ≡ n + suc i = omega arith in
    subst (λ m. KeepsStep vars m x) e (keeps_at vars (suc n) ys i x keeps.1 at)

pub literals_within : (vars : ℕ) (ls : List Lit) → list_all (is_literal vars) ls ≡ true → list_all (in_range vars) ls ≡ true
literals_within vars [] h = refl
literals_within vars (l ∷ ls) h =
    let parts = and_parts (is_literal vars l) (list_all (is_literal vars) ls) h in
    and_from (in_range vars l) (list_all (in_range vars) ls) (and_parts (in_range vars l) (is_number l.var) parts.0).0 (literals_within vars ls parts.1)

pub hints_named : (n : ℕ) (hs : List ℕ) → list_all (is_hint (suc n)) hs ≡ true → All (λ h. (0 < h) × (h ≤ n)) hs
hints_named n [] e = All-nil (λ h. (0 < h) × (h ≤ n))
hints_named n (k ∷ ks) e =
    let parts = and_parts (is_hint (suc n) k) (list_all (is_hint (suc n)) ks) e in
    let one = and_parts (nat_lt 0 k) (nat_lt k (suc n) && is_number k) parts.0 in
    let low : 0 < k = ltb-true 0 k one.0 in
    let high : k < suc n = ltb-true k (suc n) (and_parts (nat_lt k (suc n)) (is_number k) one.1).0 in
    All-cons (λ h. (0 < h) × (h ≤ n)) k ks (low, omega (arith, high)) (hints_named n ks parts.1)

-- a clause more in range
pub range_push : (vars : ℕ) (clauses : List Clause) (c : Clause) → clauses_in_range vars clauses ≡ true → list_all (in_range vars) c.lits ≡ true
    → clauses_in_range vars (clauses ++ c ∷ []) ≡ true
range_push vars [] c h here = and_from (list_all (in_range vars) c.lits) true here refl
range_push vars (d ∷ ds) c h here =
    let parts = and_parts (list_all (in_range vars) d.lits) (clauses_in_range vars ds) h in
    and_from (list_all (in_range vars) d.lits) (clauses_in_range vars (ds ++ c ∷ [])) parts.0 (range_push vars ds c parts.1 here)

pub known_more : (clauses : List Clause) (steps : List Step) (i : ℕ) (x : Step) → slice_get steps i ≡ Some x
    → known_of clauses (take (i + 1) steps) ≡ known_of clauses (take i steps) ++ x.clause ∷ []
known_more clauses steps i x at = ap (known_of clauses) (take_get steps i x at) ∙ known_pushed clauses (take i steps) x

pub follows_more : (vars : ℕ) (clauses : List Clause) (steps : List Step) (i : ℕ) (x : Step) → slice_get steps i ≡ Some x
    → LogFollows vars clauses (take i steps) → StepFollows vars (known_of clauses (take i steps)) x → LogFollows vars clauses (take (i + 1) steps)
follows_more vars clauses steps i x at before here =
    subst (LogFollows vars clauses) (sym (take_get steps i x at)) ((follows_pushed vars clauses (take i steps) x).1 (before, here))

-- the hints of the step at a place name known clauses
pub known_count : (clauses : List Clause) (steps : List Step) (i : ℕ) (x : Step) → slice_get steps i ≡ Some x → list_all (is_hint (suc (length clauses) + i)) x.hints ≡ true
    → All (λ h. (0 < h) × (h ≤ length (known_of clauses (take i steps)))) x.hints
known_count clauses steps i x at hints =
    let within = slice_get_within steps i x at in
    let front : length (take i steps) ≡ i = length-take-le i steps (omega (arith, within)) in
    let count : length (known_of clauses (take i steps)) ≡ length clauses + i = known_counted clauses (take i steps) ∙ ap (λ n. length clauses + n) front in
    let number : suc (length clauses) + i ≡ suc (length clauses + i) = omega arith in
    rw count (hints_named (length clauses + i) x.hints (subst (λ n. list_all (is_hint n) x.hints ≡ true) number hints))

-- a step that isn't good
pub bad_here : (f : Formula) (steps : List Step) (i : ℕ) (x : Step) → slice_get steps i ≡ Some x → LogFollows f.vars f.clauses (take i steps)
    → (StepFollows f.vars (known_of f.clauses (take i steps)) x → ⊥) → IsBadPlace f steps (i + 1)
bad_here f steps i x at before off =
    let e : suc i ≡ i + 1 = omega arith in
    subst (IsBadPlace f steps) e (record { one = x; at = at; off = off; before = before })

pub not_good : (a : StepAnswer) → ((x : ℕ) × (a ≡ answer.NotUnit x)) ⊎ (a ≡ answer.NoEnd) → a ≡ answer.Good → ⊥
not_good a (inl p) good = let e : answer.NotUnit p.0 ≡ answer.Good = sym p.1 ∙ good in cc
not_good a (inr p) good = let e : answer.NoEnd ≡ answer.Good = sym p ∙ good in cc
