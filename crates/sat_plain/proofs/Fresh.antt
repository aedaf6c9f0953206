-- The clause of the decisions contains no clause of the formula and none of the log.
use Rattle.std.proofs.Common.{◌≡◌, ◌≢◌, ℕ, zero, suc, ◌≤◌, true, false, not, ◌||◌, List, [], ◌∷◌, map, All, length, slice_get, Some, None, Option, refl, sym, ap, ◌∙◌, subst, inl, inr, ◌⊎◌, arith, ◌==◌, eq-eqb}
use Rattle.std.specs.List.{list_any, list_all}
use Rattle.std.proofs.lemmas.Bool.{and_parts, cases_Bool, not-true}
use Rattle.std.proofs.lemmas.List.Elements.{All-head, All-tail}
use Rattle.std.proofs.lemmas.List.Folds.{list_any-append}
use Rattle.clause_base.specs.declared.lit.Lit.{Lit}
use Rattle.clause_base.specs.declared.clause.Clause.{Clause}
use Rattle.clause_base.specs.declared.log.Step.{Step}
use Rattle.clause_base.specs.Literals.{has_no_variable_twice, opposite, same_literal}
use Rattle.clause_base.specs.Follows.{is_false, open_literals}
use Rattle.clause_base.specs.Logs.{IsNew, contains, known_of}
use Rattle.sat_plain.specs.declared.trail.Entry.{Entry}
use Rattle.sat_plain.specs.Trails.{IsOrdered, IsWatched, decided, is_among, literals_of}
use Rattle.sat_plain.specs.Searching.{AreDecisions, IfDecided, IsDecision, IsGuarded, NoneEmpty, NoneRefutes}
use Rattle.sat_plain.proofs.Literals.{among_cases, among_here, among_there, opposite_back}
use Rattle.sat_plain.proofs.Ordered.{consistent, decided_among, unset_parts}

-- each literal of the clause is the opposite of a decision
pub Opposes : List Lit → List Entry → Type 0
Opposes lits es = (l : Lit) → is_among l lits ≡ true → is_among (opposite l) (decided es) ≡ true

among_opposites : (ds : List Lit) (l : Lit) → is_among l (map opposite ds) ≡ true → is_among (opposite l) ds ≡ true
among_opposites [] l h = h
among_opposites (d ∷ ds) l h = elim (among_cases l (opposite d) (map opposite ds) h) [
  | inl same ↦ let is : opposite l ≡ d = ap opposite same ∙ opposite_back d in ap (λ (k : Lit). is_among k (d ∷ ds)) is ∙ among_here d ds
  | inr later ↦ among_there (opposite l) d ds (among_opposites ds l later)
]

pub opposites_among : (ds : List Lit) (l : Lit) → is_among l ds ≡ true → is_among (opposite l) (map opposite ds) ≡ true
opposites_among [] l h = h
opposites_among (d ∷ ds) l h = elim (among_cases l d ds h) [
  | inl same ↦ ap (λ (k : Lit). is_among (opposite k) (opposite d ∷ map opposite ds)) same ∙ among_here (opposite d) (map opposite ds)
  | inr later ↦ among_there (opposite l) (opposite d) (map opposite ds) (opposites_among ds l later)
]

contained : (lits : List Lit) (larger : List Lit) → list_all (λ l. list_any (same_literal l) larger) lits ≡ true → (m : Lit) → is_among m lits ≡ true → is_among m larger ≡ true
contained [] larger h m here = cc
contained (l ∷ ls) larger h m here =
    let parts = and_parts (list_any (same_literal l) larger) (list_all (λ l. list_any (same_literal l) larger) ls) h in
    elim (among_cases m l ls here) [
      | inl same ↦ ap (λ (k : Lit). is_among k larger) same ∙ parts.0
      | inr later ↦ contained ls larger parts.1 m later
    ]

pub opposes : (es : List Entry) (larger lits : List Lit) → larger ≡ map opposite (decided es) → contains larger lits ≡ true → Opposes lits es
unfolding Opposes
opposes es larger lits is h l here = among_opposites (decided es) l (subst (λ (ks : List Lit). is_among l ks ≡ true) is (contained lits larger h l here))

pub some_among : (known lits : List Lit) → list_any (λ l. is_among l known) lits ≡ true → (l : Lit) × (is_among l lits ≡ true) × (is_among l known ≡ true)
some_among known [] h = cc
some_among known (l ∷ ls) h = elim (cases_Bool (is_among l known)) [
  | inl here ↦ (l, among_here l ls, here)
  | inr other ↦
      let later : list_any (λ l. is_among l known) ls ≡ true = sym (ap (λ b. b || list_any (λ l. is_among l known) ls) other) ∙ h in
      let found = some_among known ls later in
      (found.0, among_there found.0 l ls found.1, found.2)
]

var_among : (ls : List Lit) (m : Lit) → is_among m ls ≡ true → list_any (λ k. k.var == m.var) ls ≡ true
var_among [] m h = h
var_among (l ∷ ls) m h = elim (among_cases m l ls h) [
  | inl same ↦ let here : (l.var == m.var) ≡ true = eq-eqb l.var m.var (ap (λ (k : Lit). k.var) (sym same)) in rw here refl
  | inr later ↦ let rest = var_among ls m later in elim (cases_Bool (l.var == m.var)) [ inl here ↦ rw here refl | inr other ↦ rw other rest ]
]

-- where all literals but one are false at most one is open
none_open : (known ls : List Lit) → ((m : Lit) → is_among m ls ≡ true → is_false known m ≡ true) → open_literals known ls ≡ []
none_open known [] h = refl
none_open known (l ∷ ls) h =
    let down = h l (among_here l ls) in
    let rest = none_open known ls (λ m w. h m (among_there m l ls w)) in
    rw (down, rest) refl

one_open : (known lits : List Lit) (x : Lit) → has_no_variable_twice lits ≡ true → ((m : Lit) → is_among m lits ≡ true → (is_false known m ≡ true) ⊎ (m ≡ x)) → length (open_literals known lits) ≤ 1
one_open known [] x distinct h = omega arith
one_open known (l ∷ ls) x distinct h =
    let parts = and_parts (not (list_any (λ k. k.var == l.var) ls)) (has_no_variable_twice ls) distinct in
    let none : list_any (λ k. k.var == l.var) ls ≡ false = not-true (list_any (λ k. k.var == l.var) ls) parts.0 in
    let rest : length (open_literals known ls) ≤ 1 = one_open known ls x parts.1 (λ m w. h m (among_there m l ls w)) in
    elim (cases_Bool (is_false known l)) [
      | inl down ↦ rw down rest
      | inr up ↦
          let is : l ≡ x = elim (h l (among_here l ls)) [ inl clash ↦ cc | inr same ↦ same ] in
          let empty : open_literals known ls ≡ [] = none_open known ls (λ m w. elim (h m (among_there m l ls w)) [
            | inl down ↦ down
            | inr same ↦
                let var : m.var ≡ l.var = ap (λ (k : Lit). k.var) (same ∙ sym is) in
                let clash : list_any (λ k. k.var == l.var) ls ≡ true = subst (λ v. list_any (λ k. k.var == v) ls ≡ true) var (var_among ls m w) in
                cc
          ]) in
          rw (up, empty) (omega arith)
    ]

-- a clause that wasn't unit before the newest of its decisions isn't one of opposites of decisions
at_decision : (vars : ℕ) (older : List Entry) (d : Lit) (c : Clause) → IsOrdered vars ((record { lit = d; reason = None }) ∷ older) → IsWatched (literals_of older) (literals_of older) c.lits
    → ((m : Lit) → is_among m c.lits ≡ true → (opposite m ≡ d) ⊎ (is_among (opposite m) (decided older) ≡ true)) → ⊥
at_decision vars older d c ordered watched h =
    let known : List Lit = literals_of older in
    let unset = unset_parts known d ordered.1 in
    elim watched [
      | inl some ↦
          let found = some_among known c.lits some in
          elim (h found.0 found.1) [
            | inl is ↦
                let back : found.0 ≡ opposite d = sym (opposite_back found.0) ∙ ap opposite is in
                let clash : is_false known d ≡ true = ap (λ (k : Lit). is_among k known) (sym back) ∙ found.2 in
                let none = unset.1 in
                cc
            | inr later ↦
                let clash : is_false known found.0 ≡ true = decided_among older (opposite found.0) later in
                let none = consistent vars older found.0 ordered.2 found.2 in
                cc
          ]
      | inr two ↦
          let one : length (open_literals known c.lits) ≤ 1 = one_open known c.lits (opposite d) c.distinct (λ m w. elim (h m w) [
            | inl is ↦ inr (sym (opposite_back m) ∙ ap opposite is)
            | inr later ↦ inl (decided_among older (opposite m) later)
          ]) in
          absurd (omega arith)
    ]

by_reason : (vars : ℕ) (clauses : List Clause) (k : ℕ) (c : Clause) → slice_get clauses k ≡ Some c → (older : List Entry) (d : Lit) (reason : Option ℕ)
    → IsOrdered vars ((record { lit = d; reason = reason }) ∷ older) → IfDecided reason (IsDecision clauses (literals_of older) d)
    → Opposes c.lits ((record { lit = d; reason = reason }) ∷ older) → (Opposes c.lits older → ⊥) → ⊥
unfolding Opposes
by_reason vars clauses k c at older d (Some number) ordered decision h rest = rest h
by_reason vars clauses k c at older d None ordered decision h rest =
    elim (cases_Bool (is_among (opposite d) c.lits)) [
      | inl here ↦ at_decision vars older d c ordered (decision.calm.each k c at) (λ m w. among_cases (opposite m) d (decided older) (h m w))
      | inr out ↦ rest (λ m w. elim (among_cases (opposite m) d (decided older) (h m w)) [
        | inr later ↦ later
        | inl is ↦
            let back : m ≡ opposite d = sym (opposite_back m) ∙ ap opposite is in
            let clash : is_among (opposite d) c.lits ≡ true = ap (λ (x : Lit). is_among x c.lits) (sym back) ∙ w in
            cc
      ])
    ]

first_of : (lits : List Lit) → lits ≢ [] → (l : Lit) × (is_among l lits ≡ true)
first_of [] some = absurd (some refl)
first_of (l ∷ ls) some = (l, among_here l ls)

none_opposes : (lits : List Lit) (l : Lit) → is_among l lits ≡ true → Opposes lits [] → ⊥
unfolding Opposes
none_opposes lits l here h = let clash : is_among (opposite l) [] ≡ true = h l here in cc

not_opposed : (vars : ℕ) (clauses : List Clause) (k : ℕ) (c : Clause) → slice_get clauses k ≡ Some c → c.lits ≢ [] → (es : List Entry) → IsOrdered vars es → AreDecisions clauses es → Opposes c.lits es → ⊥
not_opposed vars clauses k c at some [] ordered decisions h = let found = first_of c.lits some in none_opposes c.lits found.0 found.1 h
not_opposed vars clauses k c at some (e ∷ older) ordered decisions h =
    by_reason vars clauses k c at older e.lit e.reason ordered decisions.0 h (not_opposed vars clauses k c at some older ordered.2 decisions.1)

-- a logged clause has a literal that is true
pub guard_true : (es : List Entry) (lits : List Lit) → IsGuarded es lits → (l : Lit) × (is_among l lits ≡ true) × (is_among l (literals_of es) ≡ true)
guard_true [] lits guard = absurd guard
guard_true (e ∷ older) lits guard = elim guard [
  | inl here ↦ (e.lit, here.1, among_here e.lit (literals_of older))
  | inr later ↦ let found = guard_true older lits later in (found.0, found.1, among_there found.0 e.lit (literals_of older) found.2)
]

not_guarded : (vars : ℕ) (es : List Entry) (lits : List Lit) → IsOrdered vars es → IsGuarded es lits → Opposes lits es → ⊥
unfolding Opposes
not_guarded vars es lits ordered guard h =
    let found = guard_true es lits guard in
    let clash : is_false (literals_of es) found.0 ≡ true = decided_among es (opposite found.0) (h found.0 found.1) in
    let none = consistent vars es found.0 ordered found.2 in
    cc

no_formula : (vars : ℕ) (all : List Clause) (es : List Entry) (c : Clause) → IsOrdered vars es → AreDecisions all es → c.lits ≡ map opposite (decided es)
    → (clauses : List Clause) → ((k : ℕ) (d : Clause) → slice_get clauses k ≡ Some d → (j : ℕ) × (slice_get all j ≡ Some d)) → NoneEmpty clauses → list_any (λ k. contains c.lits k.lits) clauses ≡ false
no_formula vars all es c ordered decisions is [] there some = refl
no_formula vars all es c ordered decisions is (d ∷ ds) there some =
    let place = there zero d refl in
    let nonempty = All-head (λ (x : Clause). x.lits ≢ []) d ds some in
    let rest = no_formula vars all es c ordered decisions is ds (λ k x e. there (suc k) x e) (All-tail (λ (x : Clause). x.lits ≢ []) d ds some) in
    elim (cases_Bool (contains c.lits d.lits)) [
      | inl inside ↦ absurd (not_opposed vars all place.0 d place.1 nonempty es ordered decisions (opposes es c.lits d.lits is inside))
      | inr out ↦ rw (out, rest) refl
    ]

no_step : (vars : ℕ) (es : List Entry) (c : Clause) → IsOrdered vars es → c.lits ≡ map opposite (decided es)
    → (steps : List Step) → All (λ t. t.clause.lits ≢ [] → IsGuarded es t.clause.lits) steps → NoneRefutes steps → list_any (λ k. contains c.lits k.lits) (map (λ s. s.clause) steps) ≡ false
no_step vars es c ordered is [] guarded some = refl
no_step vars es c ordered is (t ∷ steps) guarded some =
    let nonempty = All-head (λ (x : Step). x.clause.lits ≢ []) t steps some in
    let guard = All-head (λ (x : Step). x.clause.lits ≢ [] → IsGuarded es x.clause.lits) t steps guarded nonempty in
    let rest = no_step vars es c ordered is steps (All-tail (λ (x : Step). x.clause.lits ≢ [] → IsGuarded es x.clause.lits) t steps guarded) (All-tail (λ (x : Step). x.clause.lits ≢ []) t steps some) in
    elim (cases_Bool (contains c.lits t.clause.lits)) [
      | inl inside ↦ absurd (not_guarded vars es t.clause.lits ordered guard (opposes es c.lits t.clause.lits is inside))
      | inr out ↦ rw (out, rest) refl
    ]

pub decisions_new : (vars : ℕ) (clauses : List Clause) (steps : List Step) (es : List Entry) (c : Clause) → IsOrdered vars es → AreDecisions clauses es → c.lits ≡ map opposite (decided es)
    → All (λ t. t.clause.lits ≢ [] → IsGuarded es t.clause.lits) steps → NoneRefutes steps → NoneEmpty clauses → IsNew (known_of clauses steps) c
decisions_new vars clauses steps es c ordered decisions is guarded going some =
    let front = no_formula vars clauses es c ordered decisions is clauses (λ k d e. (k, e)) some in
    let back = no_step vars es c ordered is steps guarded going in
    list_any-append (λ (k : Clause). contains c.lits k.lits) clauses (map (λ (s : Step). s.clause) steps) ∙ rw (front, back) refl
