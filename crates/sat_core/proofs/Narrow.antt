-- Where the first d variables lead to the others, no greater one is decided.
use Rattle.std.proofs.Common.{◌≡◌, ℕ, zero, suc, ◌+◌, ◌-◌, ◌<◌, ◌≤◌, Bool, true, false, not, List, [], ◌∷◌, ◌++◌, length, slice_get, get_or, Some, None, Option, refl, sym, ap, ◌∙◌, subst, inl, inr, arith, length-append}
use Rattle.std.specs.List.{list_all}
use Rattle.std.specs.Option.{option_map_or}
use Rattle.std.specs.Prelude.{if◌then◌else◌}
use Rattle.std.proofs.lemmas.Bool.{cases_lt}
use Rattle.std.proofs.lemmas.List.Elements.{All-nil, All-cons}
use lib.ListN.{get_or-append}
use Rattle.clause_base.specs.declared.lit.Lit.{Lit}
use Rattle.clause_base.specs.declared.clause.Clause.{Clause}
use Rattle.clause_base.specs.declared.log.Step.{Step}
use Rattle.clause_base.specs.Formulas.{IsLedBy, clauses_in_range, in_range}
use Rattle.clause_base.specs.Literals.{IsCovered, literal_true, opposite, value_of}
use Rattle.clause_base.specs.Follows.{is_false}
use Rattle.clause_base.specs.Logs.{IsNarrow}
use Rattle.sat_watch.specs.declared.trail.Entry.{Entry}
use Rattle.sat_watch.specs.Trails.{IsOrdered, IsValued, decided, is_among, literals_of}
use Rattle.sat_watch.specs.Searching.{AreDecisions, IfDecided, IsDecision, IsUnitAt}
use Rattle.sat_watch.proofs.Literals.{among_cases}
use Rattle.sat_watch.proofs.Ordered.{range_parts}
use Rattle.sat_watch.proofs.Covered.{clause_in_range, among_in_range}
use Rattle.sat_watch.proofs.Members.{all_lits, clause_of, lit_of}

abbrev yes : ℕ → Lit
yes v = record { var = v; positive = true }

-- the values of the first variables that the literals say
values_of : List Lit → ℕ → List Bool
values_of known zero = []
values_of known (suc n) = values_of known n ++ is_among (yes (suc n)) known ∷ []

values_many : (known : List Lit) (n : ℕ) → length (values_of known n) ≡ n
unfolding values_of
values_many known zero = refl
values_many known (suc n) =
    let rest : length (values_of known n) ≡ n = values_many known n in
    let long : length (values_of known n ++ is_among (yes (suc n)) known ∷ []) ≡ length (values_of known n) + 1 = length-append (values_of known n) (is_among (yes (suc n)) known ∷ []) in
    omega arith

last_value : (xs : List Bool) (x : Bool) → get_or (xs ++ x ∷ []) (length xs) false ≡ x
last_value [] x = refl
last_value (y ∷ ys) x = last_value ys x

values_at : (known : List Lit) (n v : ℕ) → v < n → get_or (values_of known n) v false ≡ is_among (yes (suc v)) known
unfolding values_of
values_at known zero v within = absurd (omega arith)
values_at known (suc n) v within =
    let many : length (values_of known n) ≡ n = values_many known n in
    elim (cases_lt v n) [
      | inl less ↦ get_or-append (values_of known n) (is_among (yes (suc n)) known ∷ []) false v (omega arith) ∙ values_at known n v less
      | inr more ↦
          let is : v ≡ n = omega arith in
          let at : v ≡ length (values_of known n) = omega arith in
          ap (λ k. get_or (values_of known n ++ is_among (yes (suc n)) known ∷ []) k false) at ∙ last_value (values_of known n) (is_among (yes (suc n)) known) ∙ ap (λ k. is_among (yes (suc k)) known) (sym is)
    ]

value_is : (known : List Lit) (n v : ℕ) → 0 < v → v ≤ n → value_of (values_of known n) v ≡ is_among (yes v) known
value_is known n v some within =
    let back : suc (v - 1) ≡ v = omega arith in
    values_at known n (v - 1) (omega arith) ∙ ap (λ k. is_among (yes k) known) back

-- what the values make false is false
false_sign : (known : List Lit) (value : Bool) (v : ℕ) (p : Bool) → value ≡ is_among (yes v) known → IsValued known v → (if p then value else not value) ≡ false → is_false known (record { var = v; positive = p }) ≡ true
false_sign known value v true is valued h = elim valued [ inl up ↦ cc | inr down ↦ down ]
false_sign known true v false is valued h = sym is
false_sign known false v false is valued h = cc

false_known : (known : List Lit) (n : ℕ) (l : Lit) → 0 < l.var → l.var ≤ n → IsValued known l.var → literal_true (values_of known n) l ≡ false → is_false known l ≡ true
false_known known n l some within valued h = false_sign known (value_of (values_of known n) l.var) l.var l.positive (value_is known n l.var some within) valued h

-- a decision is one of the first d variables
decision_narrow : (d vars : ℕ) (clauses all : List Clause) (before : List Lit) (l : Lit) → IsLedBy d vars clauses → clauses_in_range vars clauses ≡ true
    → ((k : ℕ) (c : Clause) → slice_get clauses k ≡ Some c → slice_get all k ≡ Some c) → in_range vars l ≡ true → IsDecision all before l → l.var ≤ d
decision_narrow d vars clauses all before l led range front here decision =
    let bounds = range_parts vars l here in
    let some : 0 < l.var = bounds.0 in
    let most : l.var ≤ vars = bounds.1 in
    elim (cases_lt d l.var) [
      | inr within ↦ within
      | inl above ↦
          let n : ℕ = l.var - 1 in
          let found = led.forced l.var above most (values_of before n) (values_many before n) in
          let c : Clause = found.1 in
          let inside = clause_in_range vars clauses found.0 c range found.2 in
          let unit : IsUnitAt l.var before c.lits = record {
            stands = found.3.stands;
            greatest = found.3.greatest;
            others = all_lits (λ m. m.var < l.var → is_false before m ≡ true) c.lits (λ m w less.
                let there = range_parts vars m (among_in_range vars c.lits m inside w) in
                let low : 0 < m.var = there.0 in
                false_known before n m low (omega arith) (decision.least m.var low less) (lit_of (λ x. x.var < l.var → literal_true (values_of before n) x ≡ false) c.lits m found.3.others w less));
          } in
          absurd (clause_of (λ x. IsUnitAt l.var before x.lits → ⊥) all found.0 c decision.quiet (front found.0 c found.2) unit)
    ]

by_reason : (d vars : ℕ) (clauses all : List Clause) (older : List Entry) (e l : Lit) (reason : Option ℕ) → IsLedBy d vars clauses → clauses_in_range vars clauses ≡ true
    → ((k : ℕ) (c : Clause) → slice_get clauses k ≡ Some c → slice_get all k ≡ Some c) → in_range vars e ≡ true → IfDecided reason (IsDecision all (literals_of older) e)
    → (is_among l (decided older) ≡ true → l.var ≤ d) → is_among l (option_map_or (λ number. decided older) reason (e ∷ decided older)) ≡ true → l.var ≤ d
by_reason d vars clauses all older e l (Some number) led range front here decision rest h = rest h
by_reason d vars clauses all older e l None led range front here decision rest h = elim (among_cases l e (decided older) h) [
  | inl same ↦ subst (λ (k : Lit). k.var ≤ d) (sym same) (decision_narrow d vars clauses all (literals_of older) e led range front here decision)
  | inr later ↦ rest later
]

pub decided_narrow : (d vars : ℕ) (clauses all : List Clause) (es : List Entry) (l : Lit) → IsLedBy d vars clauses → clauses_in_range vars clauses ≡ true
    → ((k : ℕ) (c : Clause) → slice_get clauses k ≡ Some c → slice_get all k ≡ Some c) → IsOrdered vars es → AreDecisions all es → is_among l (decided es) ≡ true → l.var ≤ d
decided_narrow d vars clauses all [] l led range front ordered decisions h = cc
decided_narrow d vars clauses all (e ∷ older) l led range front ordered decisions h =
    by_reason d vars clauses all older e.lit l e.reason led range front ordered.0 decisions.0 (decided_narrow d vars clauses all older l led range front ordered.2 decisions.1) h

-- a step of opposites of decisions is as narrow as the formula is led
pub step_narrow : (d vars : ℕ) (clauses all : List Clause) (es : List Entry) (s : Step) → IsLedBy d vars clauses → clauses_in_range vars clauses ≡ true
    → ((k : ℕ) (c : Clause) → slice_get clauses k ≡ Some c → slice_get all k ≡ Some c) → IsOrdered vars es → AreDecisions all es
    → list_all (in_range vars) s.clause.lits ≡ true → ((l : Lit) → is_among l s.clause.lits ≡ true → is_among (opposite l) (decided es) ≡ true) → IsNarrow d (s ∷ [])
step_narrow d vars clauses all es s led range front ordered decisions inside opposed =
    All-cons (λ (t : Step). IsCovered d t.clause.lits) s []
    (record {
      each = all_lits (λ l. (0 < l.var) × (l.var ≤ d)) s.clause.lits (λ l w. (
        (range_parts vars l (among_in_range vars s.clause.lits l inside w)).0,
        decided_narrow d vars clauses all es (opposite l) led range front ordered decisions (opposed l w),
      ));
    })
    (All-nil (λ (t : Step). IsCovered d t.clause.lits))
