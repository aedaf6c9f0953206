-- The values of the variables decide those of the gates, one after the other.
use Rattle.std.proofs.Common.{◌≡◌, ℕ, zero, suc, ◌<◌, ◌≤◌, ◌+◌, ◌-◌, Bool, true, false, not, List, [], ◌∷◌, ◌++◌, All, length, slice_get, Some, refl, sym, ap, ◌∙◌, subst, arith, eq-eqb, inl, inr}
use Rattle.std.specs.List.{list_any}
use Rattle.std.specs.Prelude.{◌==◌, if◌then◌else◌}
use Rattle.std.proofs.lemmas.Bool.{cases_Bool}
use Rattle.std.proofs.lemmas.List.Elements.{All-nil, All-cons}
use Rattle.bit_graph.specs.declared.gate.Source.{Source}
use Rattle.bit_graph.specs.declared.gate.Source.TheVariants.{Constant, Variable, Made}
use Rattle.bit_graph.specs.declared.gate.GraphBit.{GraphBit}
use Rattle.bit_graph.specs.declared.gate.Gate.{Gate}
use Rattle.bit_graph.specs.Gates.{Gates, AreGates, IsBelow, IsGateAt}
use Rattle.clause_base.specs.declared.lit.Lit.{Lit}
use Rattle.clause_base.specs.declared.clause.Clause.{Clause}
use Rattle.clause_base.specs.Formulas.{IsForcing, IsLedBy}
use Rattle.clause_base.specs.Literals.{literal_true, opposite}
use Rattle.cnf_build.specs.Gates.{number_of, literal_of, opposite_of, gate_clauses, clauses_from, formula_of, literals}

-- a list of literals that stands among others
pub record Has (lits : List Lit) (all : List (List Lit)) : Type 0 where
  pub place : ℕ
  pub at : slice_get all place ≡ Some lits

has_first : (lits : List Lit) (all : List (List Lit)) → Has lits (lits ∷ all)
has_first lits all = record { place = 0; at = refl }

has_later : (lits first : List Lit) (all : List (List Lit)) → Has lits all → Has lits (first ∷ all)
has_later lits first all h = record { place = suc h.place; at = h.at }

front_at : (lits : List Lit) (xs ys : List (List Lit)) (k : ℕ) → slice_get xs k ≡ Some lits → slice_get (xs ++ ys) k ≡ Some lits
front_at lits [] ys k h = cc
front_at lits (x ∷ xs) ys zero h = h
front_at lits (x ∷ xs) ys (suc k) h = front_at lits xs ys k h

has_front : (lits : List Lit) (xs ys : List (List Lit)) → Has lits xs → Has lits (xs ++ ys)
has_front lits xs ys h = record { place = h.place; at = front_at lits xs ys h.place h.at }

has_back : (lits : List Lit) (xs ys : List (List Lit)) → Has lits ys → Has lits (xs ++ ys)
has_back lits [] ys h = h
has_back lits (x ∷ xs) ys h = has_later lits x (xs ++ ys) (has_back lits xs ys h)

-- the clauses of a gate are among those of all gates
has_gate : (n at : ℕ) (xs : List Gate) (k : ℕ) (x : Gate) (lits : List Lit) → slice_get xs k ≡ Some x → Has lits (gate_clauses n (at + k) x) → Has lits (clauses_from n at xs)
has_gate n at [] k x lits e h = cc
has_gate n at (y ∷ xs) zero x lits e h =
    let same : y ≡ x = cc in
    let z : at + 0 ≡ at = omega arith in
    has_front lits (gate_clauses n at y) (clauses_from n (at + 1) xs)
    (subst (λ (w : Gate). Has lits (gate_clauses n at w)) (sym same) (subst (λ j. Has lits (gate_clauses n j x)) z h))
has_gate n at (y ∷ xs) (suc k) x lits e h =
    let z : at + suc k ≡ at + 1 + k = omega arith in
    has_back lits (gate_clauses n at y) (clauses_from n (at + 1) xs) (has_gate n (at + 1) xs k x lits e (subst (λ j. Has lits (gate_clauses n j x)) z h))

number_below : (n k : ℕ) (s : Source) → IsBelow n k s → number_of n s < k + (n + 2)
number_below n k Constant h = omega arith
number_below n k (Variable i) h = omega arith
number_below n k (Made j) h = omega arith

-- a clause of a literal and of false ones before it
forcing : (v : ℕ) (values : List Bool) (p : Bool) (rest : List Lit) (c : Clause) → c.lits ≡ (record { var = v; positive = p }) ∷ rest
    → All (λ l. (l.var < v) × (literal_true values l ≡ false)) rest → IsForcing v values c
forcing v values p rest c is low =
    let l : Lit = record { var = v; positive = p } in
    let mine : (v == v) ≡ true = eq-eqb v v refl in
    let here : list_any (λ x. x.var == v) (l ∷ rest) ≡ true = rw mine refl in
    let below : All (λ x. x.var ≤ v) rest = λ k d h. let at = low k d h in let up = at.0 in omega arith in
    let down : All (λ x. x.var < v → literal_true values x ≡ false) rest = λ k d h up. (low k d h).1 in
    record {
      stands = ap (list_any (λ x. x.var == v)) is ∙ here;
      greatest = subst (All (λ x. x.var ≤ v)) (sym is) (All-cons (λ x. x.var ≤ v) l rest (omega arith) below);
      others = subst (All (λ x. x.var < v → literal_true values x ≡ false)) (sym is) (All-cons (λ x. x.var < v → literal_true values x ≡ false) l rest (λ h. absurd (omega arith)) down);
    }

signed : Bool → Bool → Bool
signed p v = if p then v else not v

signed_not : (p v : Bool) → signed p v ≡ true → signed (not p) v ≡ false
unfolding signed
signed_not true true h = refl
signed_not true false h = cc
signed_not false true h = cc
signed_not false false h = refl

opposite_false : (values : List Bool) (l : Lit) → literal_true values l ≡ true → literal_true values (opposite l) ≡ false
unfolding signed
opposite_false values l h = signed_not l.positive _ h

-- which clause of a gate decides its value
Decides : ℕ → List Bool → List (List Lit) → Type 0
Decides v values all = (p : Bool) × (rest : List Lit) × Has ((record { var = v; positive = p }) ∷ rest) all × All (λ l. (l.var < v) × (literal_true values l ≡ false)) rest

low_one : (v : ℕ) (values : List Bool) (l : Lit) → l.var < v → literal_true values l ≡ false → All (λ x. (x.var < v) × (literal_true values x ≡ false)) (l ∷ [])
low_one v values l below down = let P : Lit → Type 0 = λ x. (x.var < v) × (literal_true values x ≡ false) in All-cons P l [] (below, down) (All-nil P)

gate_decides : (n k : ℕ) (x : Gate) (values : List Bool) → IsGateAt n k x → Decides (k + (n + 2)) values (gate_clauses n k x)
unfolding Decides
gate_decides n k x values gate =
    let v : ℕ = k + (n + 2) in
    let a : Lit = literal_of n x.left in
    let b : Lit = literal_of n x.right in
    let not_a : Lit = opposite_of n x.left in
    let not_b : Lit = opposite_of n x.right in
    let no : Lit = record { var = v; positive = false } in
    let yes' : Lit = record { var = v; positive = true } in
    let P : Lit → Type 0 = λ l. (l.var < v) × (literal_true values l ≡ false) in
    let third : List (List Lit) = (yes' ∷ not_a ∷ not_b ∷ []) ∷ [] in
    let second : List (List Lit) = (no ∷ b ∷ []) ∷ third in
    let left : number_of n x.left.source < v = number_below n k x.left.source gate.left in
    let right : number_of n x.right.source < v = number_below n k x.right.source gate.right in
    elim (cases_Bool (literal_true values a)) [
      | inr down ↦ (false, a ∷ [], has_first (no ∷ a ∷ []) second, low_one v values a left down)
      | inl up ↦ elim (cases_Bool (literal_true values b)) [
        | inr down ↦ (false, b ∷ [], has_later (no ∷ b ∷ []) (no ∷ a ∷ []) second (has_first (no ∷ b ∷ []) third), low_one v values b right down)
        | inl too ↦ (
          true,
          not_a ∷ not_b ∷ [],
          has_later (yes' ∷ not_a ∷ not_b ∷ []) (no ∷ a ∷ []) second (has_later (yes' ∷ not_a ∷ not_b ∷ []) (no ∷ b ∷ []) third (has_first (yes' ∷ not_a ∷ not_b ∷ []) [])),
          All-cons P not_a (not_b ∷ []) (left, opposite_false values a up) (low_one v values not_b right (opposite_false values b too)),
        )
      ]
    ]

clause_there : (clauses : List Clause) (k : ℕ) (lits : List Lit) → slice_get (literals clauses) k ≡ Some lits → (c : Clause) × (slice_get clauses k ≡ Some c) × (c.lits ≡ lits)
clause_there [] k lits h = cc
clause_there (c ∷ cs) zero lits h = (c, refl, cc)
clause_there (c ∷ cs) (suc k) lits h = clause_there cs k lits h

some_gate : (xs : List Gate) (k : ℕ) → k < length xs → (x : Gate) × (slice_get xs k ≡ Some x)
some_gate [] k h = absurd (omega arith)
some_gate (x ∷ xs) zero h = (x, refl)
some_gate (x ∷ xs) (suc k) h = some_gate xs k (omega arith)

pub led : (g : Gates) (goal : GraphBit) (clauses : List Clause) (vars : ℕ) → AreGates g.variables g.gates → vars ≡ g.variables + 1 + length g.gates → literals clauses ≡ formula_of g goal
    → IsLedBy (g.variables + 1) vars clauses
unfolding Decides
led g goal clauses vars all e whole = record {
  forced = λ v above within values long.
      let n = g.variables in
      let k : ℕ = v - (n + 2) in
      let is : k + (n + 2) ≡ v = omega arith in
      let z : 0 + k ≡ k = omega arith in
      let gate = some_gate g.gates k (omega arith) in
      let decides = gate_decides n k gate.0 values (all.each k gate.0 gate.1) in
      let l : Lit = record { var = k + (n + 2); positive = decides.0 } in
      let lits : List Lit = l ∷ decides.1 in
      let mine : Has lits (clauses_from n 0 g.gates) = has_gate n 0 g.gates k gate.0 lits gate.1 (subst (λ j. Has lits (gate_clauses n j gate.0)) (sym z) decides.2) in
      let has : Has lits (formula_of g goal) = has_later lits (record { var = 1; positive = true } ∷ []) _ (has_front lits (clauses_from n 0 g.gates) ((literal_of n goal ∷ []) ∷ []) mine) in
      let there = clause_there clauses has.place lits (subst (λ (w : List (List Lit)). slice_get w has.place ≡ Some lits) (sym whole) has.at) in
      (has.place, there.0, there.1, subst (λ w. IsForcing w values there.0) is (forcing (k + (n + 2)) values decides.0 decides.1 there.0 there.2 decides.3));
}
