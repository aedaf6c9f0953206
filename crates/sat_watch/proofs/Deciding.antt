-- The variables of decisions rise, and a clause of opposites of decisions contains no known clause.
use Rattle.std.proofs.Common.{◌≡◌, ◌≢◌, ℕ, zero, suc, ◌<◌, ◌≤◌, Bool, true, false, List, [], ◌∷◌, map, slice_get, Some, None, Option, refl, sym, ap, ◌∙◌, subst, inl, inr, ◌⊎◌, arith}
use Rattle.std.specs.List.{list_any, list_all}
use Rattle.std.specs.Option.{option_map_or}
use Rattle.std.proofs.lemmas.Bool.{and_parts, cases_Bool, cases_lt}
use Rattle.std.proofs.lemmas.List.Elements.{All-nil, All-cons, All-head, All-tail, All-append}
use Rattle.clause_base.specs.declared.lit.Lit.{Lit}
use Rattle.clause_base.specs.declared.clause.Clause.{Clause}
use Rattle.clause_base.specs.declared.log.Step.{Step}
use Rattle.clause_base.specs.Literals.{opposite, same_literal}
use Rattle.clause_base.specs.Follows.{is_false}
use Rattle.clause_base.specs.Logs.{IsNew, contains, known_of}
use Rattle.sat_watch.specs.declared.trail.Entry.{Entry}
use Rattle.sat_watch.specs.Trails.{IsOrdered, IsValued, decided, is_among, literals_of, standing}
use Rattle.sat_watch.specs.Searching.{AreDecisions, IfDecided, IsDecision, IsUnitAt, NoneEmpty, NoneRefutes}
use Rattle.sat_watch.proofs.Literals.{among_cases, among_here, among_there, opposite_back}
use Rattle.sat_watch.proofs.Ordered.{decided_among, range_parts, unset_parts}
use Rattle.sat_watch.proofs.Members.{all_lits, clause_of, var_among}

-- each decision has a smaller variable
abbrev pub AreBelow : ℕ → List Entry → Type 0
AreBelow v [] = Unit {0}
AreBelow v (e ∷ older) = IfDecided e.reason (e.lit.var < v) × AreBelow v older

valued_sign : (known : List Lit) (v : ℕ) (p : Bool) → is_among (record { var = v; positive = p }) known ≡ true → IsValued known v
valued_sign known v true h = inl h
valued_sign known v false h = inr h

pub valued_lit : (known : List Lit) (l : Lit) → is_among l known ≡ true → IsValued known l.var
valued_lit known l h = valued_sign known l.var l.positive h

unset_sign : (known : List Lit) (v : ℕ) (p : Bool) → is_among (record { var = v; positive = p }) known ≡ false → is_false known (record { var = v; positive = p }) ≡ false → IsValued known v → ⊥
unset_sign known v true out none h = elim h [ inl up ↦ cc | inr down ↦ cc ]
unset_sign known v false out none h = elim h [ inl up ↦ cc | inr down ↦ cc ]

pub unset_var : (known : List Lit) (l : Lit) → standing known l ≡ None → IsValued known l.var → ⊥
unset_var known l h = let parts = unset_parts known l h in unset_sign known l.var l.positive parts.0 parts.1

pub valued_there : (l : Lit) (known : List Lit) (v : ℕ) → IsValued known v → IsValued (l ∷ known) v
valued_there l known v h = elim h [
  | inl up ↦ inl (among_there (record { var = v; positive = true }) l known up)
  | inr down ↦ inr (among_there (record { var = v; positive = false }) l known down)
]

below_by : (known : List Clause) (older : List Entry) (l : Lit) (reason : Option ℕ) (v : ℕ) → 0 < v → (v ≡ l.var → ⊥) → (IsValued (literals_of older) v → ⊥)
    → IfDecided reason (IsDecision known (literals_of older) l) → IfDecided reason (l.var < v)
below_by known older l (Some number) v some apart unset decision = tt
below_by known older l None v some apart unset decision = elim (cases_lt l.var v) [
  | inl below ↦ below
  | inr above ↦ elim (cases_lt v l.var) [
    | inl less ↦ absurd (unset (decision.least v some less))
    | inr more ↦ let same : v ≡ l.var = omega arith in absurd (apart same)
  ]
]

-- a variable without a value is greater than those of the decisions
pub below : (known : List Clause) (es : List Entry) (v : ℕ) → 0 < v → (IsValued (literals_of es) v → ⊥) → AreDecisions known es → AreBelow v es
below known [] v some unset decisions = tt
below known (e ∷ older) v some unset decisions =
    let deeper : IsValued (literals_of older) v → ⊥ = λ h. unset (valued_there e.lit (literals_of older) v h) in
    let here : IsValued (literals_of (e ∷ older)) e.lit.var = valued_lit (literals_of (e ∷ older)) e.lit (among_here e.lit (literals_of older)) in
    let apart : v ≡ e.lit.var → ⊥ = λ (same : v ≡ e.lit.var). unset (subst (IsValued (literals_of (e ∷ older))) (sym same) here) in
    (below_by known older e.lit e.reason v some apart deeper decisions.0, below known older v some deeper decisions.1)

decided_by : (older : List Entry) (d l : Lit) (reason : Option ℕ) (v : ℕ) → IfDecided reason (d.var < v) → (is_among l (decided older) ≡ true → l.var < v)
    → is_among l (option_map_or (λ number. decided older) reason (d ∷ decided older)) ≡ true → l.var < v
decided_by older d l (Some number) v here rest h = rest h
decided_by older d l None v here rest h = elim (among_cases l d (decided older) h) [
  | inl same ↦ subst (λ (k : Lit). k.var < v) (sym same) here
  | inr later ↦ rest later
]

pub decided_below : (es : List Entry) (l : Lit) (v : ℕ) → AreBelow v es → is_among l (decided es) ≡ true → l.var < v
decided_below [] l v all h = cc
decided_below (e ∷ older) l v all h = decided_by older e.lit l e.reason v all.0 (decided_below older l v all.1) h

-- each literal of the clause is the opposite of a decision
pub Opposed : List Lit → List Entry → Type 0
Opposed lits es = (l : Lit) → is_among l lits ≡ true → is_among (opposite l) (decided es) ≡ true

-- such a clause would have given the newest of its decisions' variable its value
unit_at : (older : List Entry) (d : Lit) (lits : List Lit) → AreBelow d.var older → is_among (opposite d) lits ≡ true
    → ((m : Lit) → is_among m lits ≡ true → (opposite m ≡ d) ⊎ (is_among (opposite m) (decided older) ≡ true)) → IsUnitAt d.var (literals_of older) lits
unit_at older d lits all here h = record {
  stands = var_among lits (opposite d) here;
  greatest = all_lits (λ l. l.var ≤ d.var) lits (λ m w. elim (h m w) [
    | inl same ↦ let is : m.var ≡ d.var = ap (λ (k : Lit). k.var) same in omega arith
    | inr later ↦ let less : m.var < d.var = decided_below older (opposite m) d.var all later in omega arith
  ]);
  others = all_lits (λ l. l.var < d.var → is_false (literals_of older) l ≡ true) lits (λ m w less. elim (h m w) [
    | inl same ↦ let is : m.var ≡ d.var = ap (λ (k : Lit). k.var) same in absurd (omega arith)
    | inr later ↦ decided_among older (opposite m) later
  ]);
}

by_reason : (known : List Clause) (k : ℕ) (c : Clause) → slice_get known k ≡ Some c → (older : List Entry) (d : Lit) (reason : Option ℕ) → AreBelow d.var older
    → IfDecided reason (IsDecision known (literals_of older) d)
    → ((l : Lit) → is_among l c.lits ≡ true → is_among (opposite l) (option_map_or (λ number. decided older) reason (d ∷ decided older)) ≡ true)
    → (Opposed c.lits older → ⊥) → ⊥
unfolding Opposed
by_reason known k c at older d (Some number) all decision h rest = rest h
by_reason known k c at older d None all decision h rest =
    let cases : (m : Lit) → is_among m c.lits ≡ true → (opposite m ≡ d) ⊎ (is_among (opposite m) (decided older) ≡ true) = λ m w. among_cases (opposite m) d (decided older) (h m w) in
    elim (cases_Bool (is_among (opposite d) c.lits)) [
      | inl here ↦ clause_of (λ x. IsUnitAt d.var (literals_of older) x.lits → ⊥) known k c decision.quiet at (unit_at older d c.lits all here cases)
      | inr out ↦ rest (λ m w. elim (cases m w) [
        | inr later ↦ later
        | inl is ↦
            let back : m ≡ opposite d = sym (opposite_back m) ∙ ap opposite is in
            let clash : is_among (opposite d) c.lits ≡ true = ap (λ (x : Lit). is_among x c.lits) (sym back) ∙ w in
            cc
      ])
    ]

first_of : (lits : List Lit) → lits ≢ [] → (l : Lit) × (is_among l lits ≡ true)
first_of [] some = absurd (some refl)
first_of (l ∷ ls) some = (l, among_here l ls)

none_opposed : (lits : List Lit) (l : Lit) → is_among l lits ≡ true → Opposed lits [] → ⊥
unfolding Opposed
none_opposed lits l here h = let clash : is_among (opposite l) [] ≡ true = h l here in cc

-- the literals of a known clause aren't all opposites of decisions
not_opposed : (vars : ℕ) (known : List Clause) (k : ℕ) (c : Clause) → slice_get known k ≡ Some c → c.lits ≢ [] → (es : List Entry) → IsOrdered vars es → AreDecisions known es → Opposed c.lits es → ⊥
unfolding Opposed
not_opposed vars known k c at some [] ordered decisions h = let found = first_of c.lits some in none_opposed c.lits found.0 found.1 h
not_opposed vars known k c at some (e ∷ older) ordered decisions h =
    let all : AreBelow e.lit.var older = below known older e.lit.var (range_parts vars e.lit ordered.0).0 (unset_var (literals_of older) e.lit ordered.1) decisions.1 in
    by_reason known k c at older e.lit e.reason all decisions.0 h (not_opposed vars known k c at some older ordered.2 decisions.1)

contained : (lits : List Lit) (larger : List Lit) → list_all (λ l. list_any (same_literal l) larger) lits ≡ true → (m : Lit) → is_among m lits ≡ true → is_among m larger ≡ true
contained [] larger h m here = cc
contained (l ∷ ls) larger h m here =
    let parts = and_parts (list_any (same_literal l) larger) (list_all (λ l. list_any (same_literal l) larger) ls) h in
    elim (among_cases m l ls here) [
      | inl same ↦ ap (λ (k : Lit). is_among k larger) same ∙ parts.0
      | inr later ↦ contained ls larger parts.1 m later
    ]

new_among : (vars : ℕ) (all : List Clause) (es : List Entry) (lits : List Lit) → IsOrdered vars es → AreDecisions all es → ((l : Lit) → is_among l lits ≡ true → is_among (opposite l) (decided es) ≡ true)
    → (cs : List Clause) → ((k : ℕ) (d : Clause) → slice_get cs k ≡ Some d → (j : ℕ) × (slice_get all j ≡ Some d)) → NoneEmpty cs → list_any (λ k. contains lits k.lits) cs ≡ false
unfolding Opposed
new_among vars all es lits ordered decisions opposed [] there some = refl
new_among vars all es lits ordered decisions opposed (d ∷ ds) there some =
    let place = there zero d refl in
    let nonempty = All-head (λ (x : Clause). x.lits ≢ []) d ds some in
    let rest = new_among vars all es lits ordered decisions opposed ds (λ k x e. there (suc k) x e) (All-tail (λ (x : Clause). x.lits ≢ []) d ds some) in
    elim (cases_Bool (contains lits d.lits)) [
      | inl inside ↦ absurd (not_opposed vars all place.0 d place.1 nonempty es ordered decisions (λ m w. opposed m (contained d.lits lits inside m w)))
      | inr out ↦ rw (out, rest) refl
    ]

steps_filled : (steps : List Step) → NoneRefutes steps → NoneEmpty (map (λ s. s.clause) steps)
steps_filled [] h = All-nil (λ (x : Clause). x.lits ≢ [])
steps_filled (s ∷ steps) h = All-cons (λ (x : Clause). x.lits ≢ []) s.clause (map (λ t. t.clause) steps) (All-head (λ (t : Step). t.clause.lits ≢ []) s steps h) (steps_filled steps (All-tail (λ (t : Step). t.clause.lits ≢ []) s steps h))

-- a clause of opposites of decisions is new
pub opposites_new : (vars : ℕ) (clauses : List Clause) (steps : List Step) (es : List Entry) (c : Clause) → IsOrdered vars es → AreDecisions (known_of clauses steps) es
    → ((l : Lit) → is_among l c.lits ≡ true → is_among (opposite l) (decided es) ≡ true) → NoneRefutes steps → NoneEmpty clauses → IsNew (known_of clauses steps) c
opposites_new vars clauses steps es c ordered decisions opposed going some =
    new_among vars (known_of clauses steps) es c.lits ordered decisions opposed (known_of clauses steps) (λ k d e. (k, e))
    (All-append (λ (x : Clause). x.lits ≢ []) clauses (map (λ (s : Step). s.clause) steps) some (steps_filled steps going))
