-- Values read off the literals that are true.
use Rattle.std.proofs.Common.{◌≡◌, ◌≢◌, ◌∙◌, ℕ, ◌+◌, ◌-◌, ◌<◌, ◌≤◌, Bool, true, false, ◌||◌, List, [], ◌∷◌, ◌++◌, All, Some, ap, arith, inl, inr, length, refl, slice_get, subst, sym, take}
use Rattle.std.specs.List.{list_all}
use Rattle.std.proofs.lemmas.Bool.{and_parts, and_from, cases_Bool}
use Rattle.std.proofs.lemmas.List.Elements.{All-head, All-push, All-tail}
use Rattle.clause_base.specs.declared.lit.Lit.{Lit}
use Rattle.clause_base.specs.declared.clause.Clause.{Clause}
use Rattle.clause_base.specs.Formulas.{in_range, clauses_in_range, satisfies}
use Rattle.clause_base.specs.Literals.{clause_true, literal_true}
use Rattle.clause_base.specs.Follows.{is_false, open_literals}
use Rattle.sat_watch.specs.Trails.{IsValued, is_among, literals_of}
use Rattle.sat_watch.specs.Searching.{IsFull, State}
use Rattle.sat_watch.proofs.Literals.{or_right}
use Rattle.sat_watch.proofs.Members.{front_at, take_push}
use Rattle.sat_watch.proofs.Ordered.{range_parts}

valued_sign : (known : List Lit) (v : ℕ) (p : Bool) → IsValued known v → is_false known (record { var = v; positive = p }) ≡ false → is_among (record { var = v; positive = p }) known ≡ true
valued_sign known v true h up = elim h [ inl here ↦ here | inr there ↦ cc ]
valued_sign known v false h up = elim h [ inl there ↦ cc | inr here ↦ here ]

or_left : (a b : Bool) → a ≡ true → (a || b) ≡ true
or_left true b h = refl
or_left false b h = cc

-- where each variable has a value, a clause that isn't false is true
clause_up : (vars : ℕ) (known : List Lit) (values : List Bool) (c : List Lit) → list_all (in_range vars) c ≡ true
    → ((v : ℕ) → 0 < v → v ≤ vars → IsValued known v) → ((l : Lit) → 0 < l.var → l.var ≤ vars → is_among l known ≡ true → literal_true values l ≡ true)
    → open_literals known c ≢ [] → clause_true values c ≡ true
clause_up vars known values [] range valued agree some = absurd (some refl)
clause_up vars known values (l ∷ ls) range valued agree some =
    let parts = and_parts (in_range vars l) (list_all (in_range vars) ls) range in
    let bounds = range_parts vars l parts.0 in
    elim (cases_Bool (is_false known l)) [
      | inr up ↦ or_left (literal_true values l) (clause_true values ls) (agree l bounds.0 bounds.1 (valued_sign known l.var l.positive (valued l.var bounds.0 bounds.1) up))
      | inl down ↦ or_right (literal_true values l) (clause_true values ls) (clause_up vars known values ls parts.1 valued agree (λ (empty : open_literals known ls ≡ []). some (rw down empty)))
    ]

all_true : (vars : ℕ) (known : List Lit) (values : List Bool) (clauses : List Clause) → clauses_in_range vars clauses ≡ true
    → ((v : ℕ) → 0 < v → v ≤ vars → IsValued known v) → ((l : Lit) → 0 < l.var → l.var ≤ vars → is_among l known ≡ true → literal_true values l ≡ true)
    → All (λ c. open_literals known c.lits ≢ []) clauses → satisfies values clauses ≡ true
all_true vars known values [] range valued agree calm = refl
all_true vars known values (c ∷ cs) range valued agree calm =
    let P : Clause → Type 0 = λ c. open_literals known c.lits ≢ [] in
    let parts = and_parts (list_all (in_range vars) c.lits) (clauses_in_range vars cs) range in
    and_from (clause_true values c.lits) (satisfies values cs) (clause_up vars known values c.lits parts.0 valued agree (All-head P c cs calm))
    (all_true vars known values cs parts.1 valued agree (All-tail P c cs calm))

pub full_satisfies : (s : State) (values : List Bool) → clauses_in_range s.base.vars s.base.clauses ≡ true → IsFull s
    → ((l : Lit) → 0 < l.var → l.var ≤ s.base.vars → is_among l (literals_of s.entries) ≡ true → literal_true values l ≡ true) → satisfies values s.base.clauses ≡ true
full_satisfies s values range full agree = all_true s.base.vars (literals_of s.entries) values s.base.clauses range full.valued agree full.calm

-- one clause more of the formula that isn't false
pub calm_more : (known : List Lit) (clauses more : List Clause) (k : ℕ) (c : Clause) → k < length clauses → slice_get (clauses ++ more) (k + 1 - 1) ≡ Some c
    → All (λ (d : Clause). open_literals known d.lits ≢ []) (take k clauses) → open_literals known c.lits ≢ [] → All (λ (d : Clause). open_literals known d.lits ≢ []) (take (k + 1) clauses)
calm_more known clauses more k c within e calm here =
    let P : Clause → Type 0 = λ d. open_literals known d.lits ≢ [] in
    let back : k + 1 - 1 ≡ k = omega arith in
    let at : slice_get clauses k ≡ Some c = front_at clauses more k c within (ap (slice_get (clauses ++ more)) (sym back) ∙ e) in
    subst (All P) (sym (take_push clauses k c at)) (All-push P (take k clauses) c calm here)
