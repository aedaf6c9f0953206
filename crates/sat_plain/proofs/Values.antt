-- Values read off the literals that are true.
use Rattle.std.proofs.Common.{◌≡◌, ◌≢◌, ℕ, zero, suc, ◌<◌, ◌≤◌, ◌+◌, ◌-◌, Bool, true, false, ◌||◌, List, [], ◌∷◌, ◌++◌, length, slice_get, Some, arith, refl, ap, ◌∙◌, subst, inl, inr, length-append}
use Rattle.std.specs.List.{list_all, list_any}
use Rattle.std.proofs.lemmas.Bool.{and_parts, and_from, cases_Bool}
use Rattle.clause_base.specs.declared.lit.Lit.{Lit}
use Rattle.clause_base.specs.declared.clause.Clause.{Clause}
use Rattle.clause_base.specs.Formulas.{in_range, clauses_in_range, satisfies}
use Rattle.clause_base.specs.Literals.{clause_true, literal_true}
use Rattle.clause_base.specs.Follows.{is_false, open_literals}
use Rattle.sat_plain.specs.declared.trail.Entry.{Entry}
use Rattle.sat_plain.specs.Trails.{IsConflict, IsOrdered, IsValued, IsWatched, is_among, literals_of}
use Rattle.sat_plain.specs.Searching.{IsFull, State}
use Rattle.sat_plain.proofs.Growth.{literals_front}
use Rattle.sat_plain.proofs.Ordered.{consistent, range_parts}
use Rattle.sat_plain.proofs.Literals.{among_open}
use Rattle.sat_plain.proofs.Fresh.{some_among}

valued_sign : (known : List Lit) (v : ℕ) (p : Bool) → IsValued known v → is_false known (record { var = v; positive = p }) ≡ false → is_among (record { var = v; positive = p }) known ≡ true
valued_sign known v true h up = elim h [ inl here ↦ here | inr there ↦ cc ]
valued_sign known v false h up = elim h [ inl there ↦ cc | inr here ↦ here ]

or_left : (a b : Bool) → a ≡ true → (a || b) ≡ true
or_left true b h = refl
or_left false b h = cc

or_right : (a b : Bool) → b ≡ true → (a || b) ≡ true
or_right true b h = refl
or_right false b h = h

-- where each variable has a value, a clause that isn't false is true
clause_up : (vars : ℕ) (known : List Lit) (values : List Bool) (c : List Lit) → list_all (in_range vars) c ≡ true
    → ((v : ℕ) → 0 < v → v ≤ vars → IsValued known v) → ((l : Lit) → 0 < l.var → l.var ≤ vars → is_among l known ≡ true → literal_true values l ≡ true)
    → open_literals known c ≢ [] → clause_true values c ≡ true
clause_up vars known values [] range valued agree some = absurd (some refl)
clause_up vars known values (l ∷ ls) range valued agree some =
    let parts = and_parts (in_range vars l) (list_all (in_range vars) ls) range in
    let bounds = range_parts vars l parts.0 in
    elim (cases_Bool (is_false known l)) [
      | inr up ↦ or_left (literal_true values l) (clause_true values ls) (agree l bounds.0 bounds.1 (valued_sign known l.var l.positive (valued l.var bounds.0 bounds.1) up))
      | inl down ↦ or_right (literal_true values l) (clause_true values ls) (clause_up vars known values ls parts.1 valued agree (λ (empty : open_literals known ls ≡ []). some (rw down empty)))
    ]

some_open : (vars : ℕ) (es : List Entry) (c : List Lit) → IsOrdered vars es → list_any (λ l. is_among l (literals_of es)) c ≡ true → open_literals (literals_of es) c ≢ []
some_open vars es c ordered some =
    let found = some_among (literals_of es) c some in
    let up : is_false (literals_of es) found.0 ≡ false = consistent vars es found.0 ordered found.2 in
    let stands : is_among found.0 (open_literals (literals_of es) c) ≡ true = among_open (literals_of es) c found.0 found.1 up in
    λ (none : open_literals (literals_of es) c ≡ []). let clash : is_among found.0 [] ≡ true = subst (λ (ls : List Lit). is_among found.0 ls ≡ true) none stands in cc

-- a clause that is neither unit nor false is true where each variable has a value
watched_true : (vars : ℕ) (es : List Entry) (values : List Bool) (c : List Lit) → IsOrdered vars es → list_all (in_range vars) c ≡ true
    → ((v : ℕ) → 0 < v → v ≤ vars → IsValued (literals_of es) v) → ((l : Lit) → 0 < l.var → l.var ≤ vars → is_among l (literals_of es) ≡ true → literal_true values l ≡ true)
    → IsWatched (literals_of es) (literals_of es) c → clause_true values c ≡ true
watched_true vars es values c ordered range valued agree watched =
    clause_up vars (literals_of es) values c range valued agree (elim watched [
      | inl some ↦ some_open vars es c ordered some
      | inr two ↦ λ (none : open_literals (literals_of es) c ≡ []). let long : length (open_literals (literals_of es) c) ≡ 0 = ap length none in omega arith
    ])

all_true : (vars : ℕ) (es : List Entry) (values : List Bool) (clauses : List Clause) → IsOrdered vars es → clauses_in_range vars clauses ≡ true
    → ((v : ℕ) → 0 < v → v ≤ vars → IsValued (literals_of es) v) → ((l : Lit) → 0 < l.var → l.var ≤ vars → is_among l (literals_of es) ≡ true → literal_true values l ≡ true)
    → ((k : ℕ) (c : Clause) → slice_get clauses k ≡ Some c → IsWatched (literals_of es) (literals_of es) c.lits) → satisfies values clauses ≡ true
all_true vars es values [] ordered range valued agree watched = refl
all_true vars es values (c ∷ cs) ordered range valued agree watched =
    let parts = and_parts (list_all (in_range vars) c.lits) (clauses_in_range vars cs) range in
    and_from (clause_true values c.lits) (satisfies values cs) (watched_true vars es values c.lits ordered parts.0 valued agree (watched zero c refl))
    (all_true vars es values cs ordered parts.1 valued agree (λ k x e. watched (suc k) x e))

pub full_satisfies : (s : State) (values : List Bool) → IsOrdered s.vars s.entries → clauses_in_range s.vars s.clauses ≡ true → IsFull s
    → ((l : Lit) → 0 < l.var → l.var ≤ s.vars → is_among l (literals_of s.entries) ≡ true → literal_true values l ≡ true) → satisfies values s.clauses ≡ true
full_satisfies s values ordered range full agree = all_true s.vars s.entries values s.clauses ordered range full.valued agree full.calm.each

pub conflict_more : (known more : List Clause) (entries : List Entry) (number : ℕ) → IsConflict known entries number → IsConflict (known ++ more) entries number
conflict_more known more entries number h =
    let long : length (known ++ more) ≡ length known + length more = length-append known more in
    let some : 0 < number = h.some in
    let most : number ≤ length known = h.within in
    record { some = some; within = omega arith; closed = ap (open_literals (literals_of entries)) (literals_front known more (number - 1) (omega arith)) ∙ h.closed }
