-- What the clauses of gates say.
use Rattle.std.proofs.Common.{◌≡◌, ℕ, zero, suc, ◌<◌, ◌≤◌, ◌+◌, ◌-◌, Bool, true, false, not, ◌&&◌, ◌||◌, List, [], ◌∷◌, ◌++◌, get_or, slice_get, Some, length, refl, sym, ap, ◌∙◌, subst, arith, inl, inr}
use Rattle.std.specs.Prelude.{if◌then◌else◌}
use Rattle.std.specs.List.{list_all}
use Rattle.std.proofs.lemmas.Bool.{and_parts, and_from, cases_lt}
use Rattle.std.proofs.lemmas.Option.{slice_get_within}
use Rattle.std.proofs.lemmas.List.{get_or_append_left, get_or-append-add, same_lists, get_or_default}
use Rattle.bit_graph.specs.declared.gate.Source.{Source}
use Rattle.bit_graph.specs.declared.gate.Source.TheVariants.{Constant, Variable, Made}
use Rattle.bit_graph.specs.declared.gate.GraphBit.{GraphBit}
use Rattle.bit_graph.specs.declared.gate.Gate.{Gate}
use Rattle.bit_graph.specs.Gates.{Gates, Owns, AreGates, IsBelow, source_reads, bit_reads, gate_reads, values_after, reading}
use Rattle.bit_graph.specs.Values.{made_reads, length-values_after}
use Rattle.clause_base.specs.declared.lit.Lit.{Lit}
use Rattle.clause_base.specs.Literals.{value_of, literal_true, clause_true}
use Rattle.cnf_build.specs.Gates.{number_of, literal_of, opposite_of, gate_clauses, clauses_from, formula_of}

unfoldable pub values_of : List Bool → List Bool → List Bool
values_of inputs made = true ∷ inputs ++ made

-- a variable of the formula has the value of its source
number_reads : (n : ℕ) (inputs made : List Bool) (s : Source) → length inputs ≡ n → IsBelow n (length made) s
    → value_of (values_of inputs made) (number_of n s) ≡ source_reads inputs made s
unfolding values_of
number_reads n inputs made Constant many h = refl
number_reads n inputs made (Variable i) many h =
    let at : i + 2 - 1 ≡ suc i = omega arith in
    ap (λ k. get_or (true ∷ inputs ++ made) k false) at ∙ get_or_append_left inputs made false i (omega arith)
number_reads n inputs made (Made k) many h =
    let at : k + (n + 2) - 1 ≡ suc (length inputs + k) = omega arith in
    ap (λ k. get_or (true ∷ inputs ++ made) k false) at ∙ get_or-append-add inputs made k false

literal_reads : (n : ℕ) (inputs made : List Bool) (b : GraphBit) → length inputs ≡ n → IsBelow n (length made) b.source
    → literal_true (values_of inputs made) (literal_of n b) ≡ bit_reads inputs made b
literal_reads n inputs made b many h = ap (λ v. if b.positive then v else not v) (number_reads n inputs made b.source many h)

opposite_reads : (p v : Bool) → (if not p then v else not v) ≡ not (if p then v else not v)
opposite_reads true v = refl
opposite_reads false true = refl
opposite_reads false false = refl

opposite_literal : (n : ℕ) (inputs made : List Bool) (b : GraphBit) → length inputs ≡ n → IsBelow n (length made) b.source
    → literal_true (values_of inputs made) (opposite_of n b) ≡ not (bit_reads inputs made b)
opposite_literal n inputs made b many h =
    opposite_reads b.positive (value_of (values_of inputs made) (number_of n b.source)) ∙ ap not (literal_reads n inputs made b many h)

is_gate : Bool → Bool → Bool → Bool
is_gate x a b = (not x || (a || false)) && ((not x || (b || false)) && ((x || (not a || (not b || false))) && true))

gate_from : (x a b : Bool) → is_gate x a b ≡ true → x ≡ (a && b)
unfolding is_gate
gate_from true true true h = refl
gate_from true true false h = cc
gate_from true false b h = cc
gate_from false true true h = cc
gate_from false true false h = refl
gate_from false false b h = refl

gate_to : (a b : Bool) → is_gate (a && b) a b ≡ true
unfolding is_gate
gate_to true true = refl
gate_to true false = refl
gate_to false true = refl
gate_to false false = refl

gate_reads_as : (n : ℕ) (inputs made : List Bool) (k : ℕ) (x : Gate) → length inputs ≡ n → IsBelow n (length made) x.left.source → IsBelow n (length made) x.right.source → k < length made
    → list_all (clause_true (values_of inputs made)) (gate_clauses n k x) ≡ is_gate (get_or made k false) (bit_reads inputs made x.left) (bit_reads inputs made x.right)
unfolding is_gate
gate_reads_as n inputs made k x many l r within =
    let out : value_of (values_of inputs made) (k + (n + 2)) ≡ get_or made k false = number_reads n inputs made (Made k) many within in
    let a = literal_reads n inputs made x.left many l in
    let b = literal_reads n inputs made x.right many r in
    let not_a = opposite_literal n inputs made x.left many l in
    let not_b = opposite_literal n inputs made x.right many r in
    rw (out, a, b, not_a, not_b) refl

and_group : (a b c : Bool) → (a && (b && c)) ≡ ((a && b) && c)
and_group true b c = refl
and_group false b c = refl

pub all_append : {X : Type 0} (p : X → Bool) (xs ys : List X) → list_all p (xs ++ ys) ≡ (list_all p xs && list_all p ys)
all_append p [] ys = refl
all_append p (x ∷ xs) ys = rw (all_append p xs ys) (and_group (p x) (list_all p xs) (list_all p ys))

pub below_more : (n j k : ℕ) (s : Source) → j ≤ k → IsBelow n j s → IsBelow n k s
below_more n j k Constant h b = tt
below_more n j k (Variable i) h b = b
below_more n j k (Made m) h b = omega arith

some_at : {X : Type 0} (xs : List X) (k : ℕ) → k < length xs → (x : X) × (slice_get xs k ≡ Some x)
some_at [] k h = absurd (omega arith)
some_at (x ∷ xs) zero h = (x, refl)
some_at (x ∷ xs) (suc k) h = some_at xs k (omega arith)

-- each gate reads as its parts
pub Agree : List Bool → List Bool → ℕ → List Gate → Type 0
Agree inputs made at xs = (k : ℕ) (x : Gate) → slice_get xs k ≡ Some x → get_or made (at + k) false ≡ gate_reads inputs made x

-- each gate's parts are there
Parts : ℕ → ℕ → List Gate → Type 0
Parts n m xs = (k : ℕ) (x : Gate) → slice_get xs k ≡ Some x → IsBelow n m x.left.source × IsBelow n m x.right.source

agree_from : (n : ℕ) (inputs made : List Bool) (at : ℕ) (xs : List Gate) → length inputs ≡ n → Parts n (length made) xs → at + length xs ≤ length made
    → list_all (clause_true (values_of inputs made)) (clauses_from n at xs) ≡ true → Agree inputs made at xs
unfolding Agree Parts
agree_from n inputs made at [] many parts long h k x e = cc
agree_from n inputs made at (y ∷ xs) many parts long h zero x e =
    let same : y ≡ x = cc in
    let both = and_parts (list_all (clause_true (values_of inputs made)) (gate_clauses n at y)) (list_all (clause_true (values_of inputs made)) (clauses_from n (at + 1) xs))
    (sym (all_append (clause_true (values_of inputs made)) (gate_clauses n at y) (clauses_from n (at + 1) xs)) ∙ h) in
    let p = parts zero y refl in
    let here = gate_from (get_or made at false) (bit_reads inputs made y.left) (bit_reads inputs made y.right) (sym (gate_reads_as n inputs made at y many p.0 p.1 (omega arith)) ∙ both.0) in
    let z : at + 0 ≡ at = omega arith in
    ap (λ j. get_or made j false) z ∙ here ∙ ap (gate_reads inputs made) same
agree_from n inputs made at (y ∷ xs) many parts long h (suc k) x e =
    let both = and_parts (list_all (clause_true (values_of inputs made)) (gate_clauses n at y)) (list_all (clause_true (values_of inputs made)) (clauses_from n (at + 1) xs))
    (sym (all_append (clause_true (values_of inputs made)) (gate_clauses n at y) (clauses_from n (at + 1) xs)) ∙ h) in
    let z : at + suc k ≡ at + 1 + k = omega arith in
    ap (λ j. get_or made j false) z ∙ agree_from n inputs made (at + 1) xs many (λ j w q. parts (suc j) w q) (omega arith) both.1 k x e

agree_to : (n : ℕ) (inputs made : List Bool) (at : ℕ) (xs : List Gate) → length inputs ≡ n → Parts n (length made) xs → at + length xs ≤ length made
    → Agree inputs made at xs → list_all (clause_true (values_of inputs made)) (clauses_from n at xs) ≡ true
unfolding Agree Parts
agree_to n inputs made at [] many parts long agree = refl
agree_to n inputs made at (y ∷ xs) many parts long agree =
    let p = parts zero y refl in
    let z : at + 0 ≡ at = omega arith in
    let here : get_or made at false ≡ (bit_reads inputs made y.left && bit_reads inputs made y.right) = ap (λ j. get_or made j false) (sym z) ∙ agree zero y refl in
    let this : list_all (clause_true (values_of inputs made)) (gate_clauses n at y) ≡ true =
    gate_reads_as n inputs made at y many p.0 p.1 (omega arith) ∙ ap (λ v. is_gate v (bit_reads inputs made y.left) (bit_reads inputs made y.right)) here ∙ gate_to (bit_reads inputs made y.left) (bit_reads inputs made y.right) in
    let rest = agree_to n inputs made (at + 1) xs many (λ j w q. parts (suc j) w q) (omega arith)
    (λ j w q. let s : at + 1 + j ≡ at + suc j = omega arith in ap (λ i. get_or made i false) s ∙ agree (suc j) w q) in
    all_append (clause_true (values_of inputs made)) (gate_clauses n at y) (clauses_from n (at + 1) xs) ∙ and_from _ _ this rest

source_same : (n k : ℕ) (inputs made made' : List Bool) (s : Source) → ((j : ℕ) → j < k → get_or made j false ≡ get_or made' j false) → IsBelow n k s → source_reads inputs made s ≡ source_reads inputs made' s
source_same n k inputs made made' Constant h b = refl
source_same n k inputs made made' (Variable i) h b = refl
source_same n k inputs made made' (Made j) h b = h j b

gate_same : (n k : ℕ) (inputs made made' : List Bool) (x : Gate) → ((j : ℕ) → j < k → get_or made j false ≡ get_or made' j false) → IsBelow n k x.left.source → IsBelow n k x.right.source
    → gate_reads inputs made x ≡ gate_reads inputs made' x
gate_same n k inputs made made' x h l r =
    let a : source_reads inputs made x.left.source ≡ source_reads inputs made' x.left.source = source_same n k inputs made made' x.left.source h l in
    let b : source_reads inputs made x.right.source ≡ source_reads inputs made' x.right.source = source_same n k inputs made made' x.right.source h r in
    rw (a, b) refl

-- values of gates that read as their parts are the values of the gates
same_below : (n : ℕ) (inputs made : List Bool) (xs : List Gate) → AreGates n xs → length made ≡ length xs → Agree inputs made 0 xs
    → (bound : ℕ) → bound ≤ length xs → (j : ℕ) → j < bound → get_or made j false ≡ get_or (values_after inputs [] xs) j false
unfolding Agree
same_below n inputs made xs all long agree zero within j h = absurd (omega arith)
same_below n inputs made xs all long agree (suc bound) within j h =
    let rest : (i : ℕ) → i < bound → get_or made i false ≡ get_or (values_after inputs [] xs) i false = same_below n inputs made xs all long agree bound (omega arith) in
    elim (cases_lt j bound) [
      | inl below ↦ rest j below
      | inr above ↦
          let is : j ≡ bound = omega arith in
          let one = some_at xs bound (omega arith) in
          let z : 0 + bound ≡ bound = omega arith in
          let at = all.each bound one.0 one.1 in
          ap (λ i. get_or made i false) (is ∙ sym z) ∙ agree bound one.0 one.1 ∙ gate_same n bound inputs made (values_after inputs [] xs) one.0 rest at.left at.right
          ∙ sym (made_reads n inputs xs bound one.0 all one.1) ∙ ap (λ i. get_or (values_after inputs [] xs) i false) (sym is)
    ]

pub made_is : (n : ℕ) (inputs made : List Bool) (xs : List Gate) → AreGates n xs → length made ≡ length xs → Agree inputs made 0 xs → made ≡ values_after inputs [] xs
made_is n inputs made xs all long agree =
    let l : length (values_after inputs [] xs) ≡ length xs = length-values_after inputs [] xs ∙ omega arith in
    same_lists made (values_after inputs [] xs) (omega arith) (λ k d h.
    get_or_default made k d false h ∙ same_below n inputs made xs all long agree (length xs) (omega arith) k (omega arith) ∙ get_or_default (values_after inputs [] xs) k false d (omega arith))

parts_of : (n m : ℕ) (xs : List Gate) → AreGates n xs → length xs ≤ m → Parts n m xs
unfolding Parts
parts_of n m xs all h k x e =
    let at = all.each k x e in
    let w : k < length xs = slice_get_within xs k x e in
    (below_more n k m x.left.source (omega arith) at.left, below_more n k m x.right.source (omega arith) at.right)

lone : (a : Bool) → ((a || false) && true) ≡ true → a ≡ true
lone true h = refl
lone false h = h

-- the values that make the formula true
pub formula_from : (g : Gates) (goal : GraphBit) (inputs made : List Bool) → AreGates g.variables g.gates → Owns g goal → length inputs ≡ g.variables → length made ≡ length g.gates
    → list_all (clause_true (values_of inputs made)) (formula_of g goal) ≡ true → (made ≡ values_after inputs [] g.gates) × (reading g inputs goal ≡ true)
unfolding values_of Agree
formula_from g goal inputs made all owned many long h =
    let n = g.variables in
    let p : List Lit → Bool = clause_true (values_of inputs made) in
    let goal_clause : List (List Lit) = (literal_of n goal ∷ []) ∷ [] in
    let both = and_parts (list_all p (clauses_from n 0 g.gates)) (list_all p goal_clause) (sym (all_append p (clauses_from n 0 g.gates) goal_clause) ∙ h) in
    let agree = agree_from n inputs made 0 g.gates many (parts_of n (length made) g.gates all (omega arith)) (omega arith) both.0 in
    let is = made_is n inputs made g.gates all long agree in
    let there : IsBelow n (length made) goal.source = subst (λ (m : ℕ). IsBelow n m goal.source) (sym long) owned.below in
    let true_goal : literal_true (values_of inputs made) (literal_of n goal) ≡ true = lone _ both.1 in
    (is, ap (λ (m : List Bool). bit_reads inputs m goal) (sym is) ∙ sym (literal_reads n inputs made goal many there) ∙ true_goal)

pub formula_to : (g : Gates) (goal : GraphBit) (inputs : List Bool) → AreGates g.variables g.gates → Owns g goal → length inputs ≡ g.variables → reading g inputs goal ≡ true
    → list_all (clause_true (values_of inputs (values_after inputs [] g.gates))) (formula_of g goal) ≡ true
unfolding values_of Agree
formula_to g goal inputs all owned many holds =
    let n = g.variables in
    let made : List Bool = values_after inputs [] g.gates in
    let long : length made ≡ length g.gates = length-values_after inputs [] g.gates ∙ omega arith in
    let p : List Lit → Bool = clause_true (values_of inputs made) in
    let goal_clause : List (List Lit) = (literal_of n goal ∷ []) ∷ [] in
    let there : IsBelow n (length made) goal.source = subst (λ (m : ℕ). IsBelow n m goal.source) (sym long) owned.below in
    let gates = agree_to n inputs made 0 g.gates many (parts_of n (length made) g.gates all (omega arith)) (omega arith)
    (λ k x e. let z : 0 + k ≡ k = omega arith in ap (λ (j : ℕ). get_or made j false) z ∙ made_reads n inputs g.gates k x all e) in
    let last : literal_true (values_of inputs made) (literal_of n goal) ≡ true = literal_reads n inputs made goal many there ∙ holds in
    let goal_true : list_all p goal_clause ≡ true = rw last refl in
    all_append p (clauses_from n 0 g.gates) goal_clause ∙ and_from (list_all p (clauses_from n 0 g.gates)) (list_all p goal_clause) gates goal_true
