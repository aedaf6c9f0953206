-- The whole formula: its clauses in order, its variables, and the values that make it true.
use Rattle.std.proofs.Common.{◌≡◌, ◌≢◌, ◌*◌, All, ℕ, zero, suc, ◌≤◌, ◌+◌, Bool, true, false, ◌&&◌, List, [], ◌∷◌, ◌++◌, take, drop, slice_get, Some, length, refl, sym, ap, ◌∙◌, subst, arith, length-append, length-take, length-drop, take-append-drop}
use Rattle.std.specs.List.{list_all}
use Rattle.std.proofs.lemmas.Bool.{and_from, lt-ltb, le-leb}
use Rattle.bit_graph.specs.declared.gate.Source.{Source}
use Rattle.bit_graph.specs.declared.gate.Source.TheVariants.{Constant, Variable, Made}
use Rattle.bit_graph.specs.declared.gate.GraphBit.{GraphBit}
use Rattle.bit_graph.specs.declared.gate.Gate.{Gate}
use Rattle.bit_graph.specs.Gates.{Gates, Owns, AreGates, IsBelow, IsGateAt, reading, values_after}
use Rattle.clause_base.specs.declared.lit.Lit.{Lit}
use Rattle.clause_base.specs.declared.clause.Clause.{Clause}
use Rattle.std.proofs.lemmas.List.Elements.{All-nil, All-cons}
use Rattle.clause_base.specs.Formulas.{in_range, clauses_in_range, satisfies}
use Rattle.clause_base.specs.Literals.{clause_true}
use Rattle.cnf_build.specs.Gates.{number_of, literal_of, opposite_of, gate_clauses, clauses_from, formula_of, literals, AreValues, IsEncoding, States}
use Rattle.bit_graph.specs.Values.{length-values_after}
use Rattle.cnf_build.proofs.Meaning.{values_of, all_append, formula_from, formula_to}

pub clauses_push : (n at : ℕ) (xs : List Gate) (x : Gate) → clauses_from n at (xs ++ x ∷ []) ≡ clauses_from n at xs ++ gate_clauses n (at + length xs) x
clauses_push n at [] x = let z : at + 0 ≡ at = omega arith in ap (λ k. gate_clauses n k x) (sym z)
clauses_push n at (y ∷ xs) x =
    let z : at + 1 + length xs ≡ at + suc (length xs) = omega arith in
    ap (λ r. gate_clauses n at y ++ r) (clauses_push n (at + 1) xs x ∙ ap (λ k. clauses_from n (at + 1) xs ++ gate_clauses n k x) z)

pub range_literals : (vars : ℕ) (clauses : List Clause) → clauses_in_range vars clauses ≡ list_all (list_all (in_range vars)) (literals clauses)
range_literals vars [] = refl
range_literals vars (c ∷ cs) = ap (λ r. list_all (in_range vars) c.lits && r) (range_literals vars cs)

pub satisfies_literals : (values : List Bool) (clauses : List Clause) → list_all (clause_true values) (literals clauses) ≡ satisfies values clauses
satisfies_literals values [] = refl
satisfies_literals values (c ∷ cs) = ap (λ r. clause_true values c.lits && r) (satisfies_literals values cs)

unfoldable pub NoneEmpty : List (List Lit) → Type 0
NoneEmpty clauses = All (λ (lits : List Lit). lits ≢ []) clauses

one_more : (l : Lit) (ls : List Lit) (rest : List (List Lit)) → NoneEmpty rest → NoneEmpty ((l ∷ ls) ∷ rest)
unfolding NoneEmpty
one_more l ls rest h = All-cons (λ (lits : List Lit). lits ≢ []) (l ∷ ls) rest (λ e. cc) h

gates_not_empty : (n at : ℕ) (xs : List Gate) (l : Lit) → NoneEmpty (clauses_from n at xs ++ (l ∷ []) ∷ [])
unfolding NoneEmpty
gates_not_empty n at [] l = one_more l [] [] (All-nil (λ (lits : List Lit). lits ≢ []))
gates_not_empty n at (x ∷ xs) l =
    let no : Lit = record { var = at + (n + 2); positive = false } in
    let yes' : Lit = record { var = at + (n + 2); positive = true } in
    let rest : List (List Lit) = clauses_from n (at + 1) xs ++ (l ∷ []) ∷ [] in
    let last : List (List Lit) = (yes' ∷ opposite_of n x.left ∷ opposite_of n x.right ∷ []) ∷ rest in
    one_more no (literal_of n x.left ∷ []) ((no ∷ literal_of n x.right ∷ []) ∷ last)
    (one_more no (literal_of n x.right ∷ []) last
    (one_more yes' (opposite_of n x.left ∷ opposite_of n x.right ∷ []) rest (gates_not_empty n (at + 1) xs l)))

pub none_empty : (n : ℕ) (xs : List Gate) (l : Lit) → All (λ (lits : List Lit). lits ≢ []) ((record { var = 1; positive = true } ∷ []) ∷ (clauses_from n 0 xs ++ (l ∷ []) ∷ []))
unfolding NoneEmpty
none_empty n xs l = one_more (record { var = 1; positive = true }) [] (clauses_from n 0 xs ++ (l ∷ []) ∷ []) (gates_not_empty n 0 xs l)

count_clauses : (n at : ℕ) (xs : List Gate) (l : Lit) → length (clauses_from n at xs ++ (l ∷ []) ∷ []) ≡ 3 * length xs + 1
count_clauses n at [] l = omega arith
count_clauses n at (x ∷ xs) l =
    let rest : length (clauses_from n (at + 1) xs ++ (l ∷ []) ∷ []) ≡ 3 * length xs + 1 = count_clauses n (at + 1) xs l in
    omega arith

literals_length : (clauses : List Clause) → length (literals clauses) ≡ length clauses
literals_length [] = refl
literals_length (c ∷ cs) = ap suc (literals_length cs)

pub count_all : (g : Gates) (goal : GraphBit) (clauses : List Clause) → literals clauses ≡ formula_of g goal → length clauses ≡ 3 * length g.gates + 2
count_all g goal clauses e =
    let l : Lit = literal_of g.variables goal in
    let long : length clauses ≡ suc (length (clauses_from g.variables 0 g.gates ++ (l ∷ []) ∷ [])) = sym (literals_length clauses) ∙ ap length e in
    let count : length (clauses_from g.variables 0 g.gates ++ (l ∷ []) ∷ []) ≡ 3 * length g.gates + 1 = count_clauses g.variables 0 g.gates l in
    omega arith

number_in : (n m vars : ℕ) (s : Source) (p : Bool) → m + (n + 1) ≤ vars → IsBelow n m s → in_range vars (record { var = number_of n s; positive = p }) ≡ true
number_in n m vars Constant p room b = and_from _ _ (lt-ltb 0 1 (omega arith)) (le-leb 1 vars (omega arith))
number_in n m vars (Variable i) p room b = and_from _ _ (lt-ltb 0 (i + 2) (omega arith)) (le-leb (i + 2) vars (omega arith))
number_in n m vars (Made k) p room b = and_from _ _ (lt-ltb 0 (k + (n + 2)) (omega arith)) (le-leb (k + (n + 2)) vars (omega arith))

gate_in : (n k vars : ℕ) (x : Gate) → IsGateAt n k x → k + (n + 2) ≤ vars → list_all (list_all (in_range vars)) (gate_clauses n k x) ≡ true
gate_in n k vars x at room =
    let out : (p : Bool) → in_range vars (record { var = k + (n + 2); positive = p }) ≡ true = λ p. number_in n (k + 1) vars (Made k) p (omega arith) (omega arith) in
    let no = out false in
    let l = number_in n k vars x.left.source x.left.positive (omega arith) at.left in
    let r = number_in n k vars x.right.source x.right.positive (omega arith) at.right in
    -- a sign is no matter for the range
    rw (no, l, r) refl

clauses_in : (n at vars : ℕ) (xs : List Gate) → ((k : ℕ) (x : Gate) → slice_get xs k ≡ Some x → IsGateAt n (at + k) x) → length xs + at + (n + 1) ≤ vars
    → list_all (list_all (in_range vars)) (clauses_from n at xs) ≡ true
clauses_in n at vars [] all room = refl
clauses_in n at vars (x ∷ xs) all room =
    let z : at + 0 ≡ at = omega arith in
    let this = gate_in n at vars x (subst (λ (k : ℕ). IsGateAt n k x) z (all zero x refl)) (omega arith) in
    let rest = clauses_in n (at + 1) vars xs (λ k y e. let s : at + suc k ≡ at + 1 + k = omega arith in subst (λ (j : ℕ). IsGateAt n j y) s (all (suc k) y e)) (omega arith) in
    all_append (list_all (in_range vars)) (gate_clauses n at x) (clauses_from n (at + 1) xs) ∙ and_from _ _ this rest

pub formula_in : (g : Gates) (goal : GraphBit) (vars : ℕ) → AreGates g.variables g.gates → Owns g goal → vars ≡ g.variables + 1 + length g.gates
    → list_all (list_all (in_range vars)) (formula_of g goal) ≡ true
formula_in g goal vars all owned e =
    let n = g.variables in
    let first = number_in n (length g.gates) vars Constant true (omega arith) tt in
    let gates = clauses_in n 0 vars g.gates (λ k x h. let z : 0 + k ≡ k = omega arith in subst (λ (j : ℕ). IsGateAt n j x) (sym z) (all.each k x h)) (omega arith) in
    let last = number_in n (length g.gates) vars goal.source goal.positive (omega arith) owned.below in
    let goal_clause : List (List Lit) = (literal_of n goal ∷ []) ∷ [] in
    let goal_in : list_all (list_all (in_range vars)) goal_clause ≡ true = rw last refl in
    let rest = all_append (list_all (in_range vars)) (clauses_from n 0 g.gates) goal_clause ∙ and_from (list_all (list_all (in_range vars)) (clauses_from n 0 g.gates)) (list_all (list_all (in_range vars)) goal_clause) gates goal_in in
    rw (first, rest) refl

first_true : (v : Bool) (rest : List Bool) (g : Gates) (goal : GraphBit) → list_all (clause_true (v ∷ rest)) (formula_of g goal) ≡ true → v ≡ true
first_true true rest g goal h = refl
first_true false rest g goal h = h

pub exact_from : (g : Gates) (goal : GraphBit) (values : List Bool) → AreGates g.variables g.gates → Owns g goal → length values ≡ g.variables + 1 + length g.gates
    → list_all (clause_true values) (formula_of g goal) ≡ true → AreValues g goal values
unfolding values_of
exact_from g goal [] all owned long h = absurd (omega arith)
exact_from g goal (v ∷ rest) all owned long h =
    let n = g.variables in
    let yes' : v ≡ true = first_true v rest g goal h in
    let inputs : List Bool = take n rest in
    let made : List Bool = drop n rest in
    let cut : inputs ++ made ≡ rest = take-append-drop n rest in
    let is : v ∷ rest ≡ true ∷ (inputs ++ made) = ap (λ (w : Bool). w ∷ rest) yes' ∙ ap (λ (r : List Bool). true ∷ r) (sym cut) in
    let many : length inputs ≡ n = omega (arith, length-take {A = Bool}) in
    let others : length made ≡ length g.gates = omega (arith, length-drop {A = Bool}) in
    let both = formula_from g goal inputs made all owned many others (subst (λ (w : List Bool). list_all (clause_true w) (formula_of g goal) ≡ true) is h) in
    record { inputs = inputs; many = many; values_are = is ∙ ap (λ (m : List Bool). true ∷ (inputs ++ m)) both.0; holds = both.1 }

pub exact_to : (g : Gates) (goal : GraphBit) (values : List Bool) → AreGates g.variables g.gates → Owns g goal → AreValues g goal values → list_all (clause_true values) (formula_of g goal) ≡ true
unfolding values_of
exact_to g goal values all owned are = subst (λ (w : List Bool). list_all (clause_true w) (formula_of g goal) ≡ true) (sym are.values_are) (formula_to g goal are.inputs all owned are.many are.holds)

-- the values that satisfy the clauses
pub encoding : (g : Gates) (goal : GraphBit) (vars : ℕ) (clauses : List Clause) → AreGates g.variables g.gates → Owns g goal → vars ≡ g.variables + 1 + length g.gates → literals clauses ≡ formula_of g goal → IsEncoding g goal vars clauses
encoding g goal vars clauses all owned e whole values long = (
  λ h. exact_from g goal values all owned (long ∙ e) (ap (list_all (clause_true values)) (sym whole) ∙ satisfies_literals values clauses ∙ h),
  λ are. sym (satisfies_literals values clauses) ∙ ap (list_all (clause_true values)) whole ∙ exact_to g goal values all owned are,
)

take_append : (xs ys : List Bool) → take (length xs) (xs ++ ys) ≡ xs
take_append [] ys = refl
take_append (x ∷ xs) ys = ap (λ (zs : List Bool). x ∷ zs) (take_append xs ys)

-- the values of the variables and gates behind those of variable 1
begins : (values inputs made : List Bool) → values ≡ true ∷ (inputs ++ made) → take (length inputs) (drop 1 values) ≡ inputs
begins values inputs made is = ap (λ (v : List Bool). take (length inputs) (drop 1 v)) is ∙ take_append inputs made

pub states : (g : Gates) (goal : GraphBit) (vars : ℕ) (clauses : List Clause) → AreGates g.variables g.gates → Owns g goal → vars ≡ g.variables + 1 + length g.gates → literals clauses ≡ formula_of g goal → States g goal vars clauses
states g goal vars clauses all owned e whole inputs many = (
  λ extend.
      let are = (encoding g goal vars clauses all owned e whole extend.values extend.many).0 extend.satisfied in
      let same : length inputs ≡ length are.inputs = many ∙ sym are.many in
      let is : inputs ≡ are.inputs = sym extend.begins ∙ ap (λ k. take k (drop 1 extend.values)) same ∙ begins extend.values are.inputs (values_after are.inputs [] g.gates) are.values_are in
      ap (λ (vs : List Bool). reading g vs goal) is ∙ are.holds,
  λ holds.
      let made : List Bool = values_after inputs [] g.gates in
      let values : List Bool = true ∷ (inputs ++ made) in
      let long : length made ≡ length g.gates = length-values_after inputs [] g.gates ∙ omega arith in
      let both : length (inputs ++ made) ≡ length inputs + length made = length-append inputs made in
      let fits : length values ≡ vars = omega arith in
      record {
        values = values;
        many = fits;
        begins = begins values inputs made refl;
        satisfied = (encoding g goal vars clauses all owned e whole values fits).1 (record { inputs = inputs; many = many; values_are = refl; holds = holds });
      },
)
