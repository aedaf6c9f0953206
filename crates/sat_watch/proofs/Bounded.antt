-- A fresh log that is narrow to d has at most 3 ^ d clauses.
use Rattle.std.proofs.Common.{◌≡◌, ℕ, zero, suc, ◌<◌, ◌≤◌, ◌+◌, ◌*◌, ◌^◌, Bool, true, false, not, ◌==◌, List, [], ◌∷◌, ◌++◌, length, slice_get, Some, refl, sym, ap, ◌∙◌, subst, inl, inr, arith, eq-eqb, ne_eqb, pow-suc}
use Rattle.std.specs.List.{list_any}
use Rattle.std.proofs.lemmas.Bool.{and_from, and_parts, cases_Bool, cases_eq, or_parts, not-true}
use Rattle.std.proofs.lemmas.List.Elements.{All-head, All-tail}
use Rattle.clause_base.specs.declared.lit.Lit.{Lit}
use Rattle.clause_base.specs.declared.clause.Clause.{Clause}
use Rattle.clause_base.specs.declared.log.Step.{Step}
use Rattle.clause_base.specs.Literals.{IsCovered, has_no_variable_twice, same_literal}
use Rattle.clause_base.specs.Logs.{EachStep, IsFresh, IsNarrow, IsNew, contains}
use Rattle.sat_watch.specs.Trails.{is_among}
use Rattle.sat_watch.proofs.Literals.{among_cases, among_here, among_there}
use Rattle.sat_watch.proofs.Members.{get_front, get_last, lit_of, var_among}

abbrev up : ℕ → Lit
up v = record { var = v; positive = true }

abbrev down : ℕ → Lit
down v = record { var = v; positive = false }

pick : Bool → Bool → ℕ
pick true b = 2
pick false true = 1
pick false false = 0

-- how a variable stands in a clause
digit : List Lit → ℕ → ℕ
digit lits v = pick (is_among (up v) lits) (is_among (down v) lits)

-- how the first variables stand in it
code : List Lit → ℕ → ℕ
code lits zero = 0
code lits (suc d) = 3 * code lits d + digit lits (suc d)

pick_small : (a b : Bool) → pick a b < 3
unfolding pick
pick_small true b = omega arith
pick_small false true = omega arith
pick_small false false = omega arith

digit_small : (lits : List Lit) (v : ℕ) → digit lits v < 3
unfolding digit
digit_small lits v = pick_small (is_among (up v) lits) (is_among (down v) lits)

power_more : (d : ℕ) → 3 ^ suc d ≡ 3 * 3 ^ d
power_more d = let p : 3 ^ suc d ≡ 3 ^ d * 3 = pow-suc 3 d in omega arith

code_small : (lits : List Lit) (d : ℕ) → code lits d < 3 ^ d
unfolding code
code_small lits zero = omega arith
code_small lits (suc d) =
    let rest : code lits d < 3 ^ d = code_small lits d in
    let here : digit lits (suc d) < 3 = digit_small lits (suc d) in
    let more : 3 ^ suc d ≡ 3 * 3 ^ d = power_more d in
    omega arith

code_same : (a b : List Lit) (d v : ℕ) → code a d ≡ code b d → 0 < v → v ≤ d → digit a v ≡ digit b v
unfolding code
code_same a b zero v same some most = absurd (omega arith)
code_same a b (suc d) v same some most =
    let x : digit a (suc d) < 3 = digit_small a (suc d) in
    let y : digit b (suc d) < 3 = digit_small b (suc d) in
    let whole : 3 * code a d + digit a (suc d) ≡ 3 * code b d + digit b (suc d) = same in
    let rest : code a d ≡ code b d = omega arith in
    let here : digit a (suc d) ≡ digit b (suc d) = omega arith in
    elim (cases_eq v (suc d)) [
      | inl is ↦ ap (digit a) is ∙ here ∙ ap (digit b) (sym is)
      | inr apart ↦ code_same a b d v rest some (omega arith)
    ]

pick_up : (a b c d : Bool) → pick a b ≡ pick c d → a ≡ true → c ≡ true
unfolding pick
pick_up a b true d same h = refl
pick_up true b false true same h = let clash : ◌≡◌ {A = ℕ} 2 1 = same in absurd (omega arith)
pick_up true b false false same h = let clash : ◌≡◌ {A = ℕ} 2 0 = same in absurd (omega arith)
pick_up false b false d same h = cc

pick_down : (a b c d : Bool) → pick a b ≡ pick c d → a ≡ false → b ≡ true → d ≡ true
unfolding pick
pick_down a b c true same h k = refl
pick_down false true true false same h k = let clash : ◌≡◌ {A = ℕ} 1 2 = same in absurd (omega arith)
pick_down false true false false same h k = let clash : ◌≡◌ {A = ℕ} 1 0 = same in absurd (omega arith)
pick_down true b c false same h k = cc
pick_down false false c false same h k = cc

-- no clause has a variable with both signs
one_sign : (ls : List Lit) (v : ℕ) → has_no_variable_twice ls ≡ true → is_among (down v) ls ≡ true → is_among (up v) ls ≡ false
one_sign [] v distinct h = refl
one_sign (l ∷ ls) v distinct h =
    let parts = and_parts (not (list_any (λ k. k.var == l.var) ls)) (has_no_variable_twice ls) distinct in
    let none : list_any (λ k. k.var == l.var) ls ≡ false = not-true (list_any (λ k. k.var == l.var) ls) parts.0 in
    elim (cases_Bool (is_among (up v) (l ∷ ls))) [
      | inr out ↦ out
      | inl both ↦ elim (among_cases (up v) l ls both) [
        | inl mine ↦ elim (among_cases (down v) l ls h) [
          | inl too ↦ let clash : true ≡ false = ap (λ (k : Lit). k.positive) (mine ∙ sym too) in cc
          | inr later ↦ let var : v ≡ l.var = ap (λ (k : Lit). k.var) mine in let clash : list_any (λ k. k.var == l.var) ls ≡ true = subst (λ x. list_any (λ k. k.var == x) ls ≡ true) var (var_among ls (down v) later) in cc
        ]
        | inr later ↦ elim (among_cases (down v) l ls h) [
          | inl mine ↦ let var : v ≡ l.var = ap (λ (k : Lit). k.var) mine in let clash : list_any (λ k. k.var == l.var) ls ≡ true = subst (λ x. list_any (λ k. k.var == x) ls ≡ true) var (var_among ls (up v) later) in cc
          | inr too ↦ let none_there = one_sign ls v parts.1 too in cc
        ]
      ]
    ]

among_sign : (a b : List Lit) (d v : ℕ) (p : Bool) → has_no_variable_twice b ≡ true → code a d ≡ code b d → 0 < v → v ≤ d → is_among (record { var = v; positive = p }) b ≡ true → is_among (record { var = v; positive = p }) a ≡ true
unfolding digit
among_sign a b d v true distinct same some most h =
    pick_up (is_among (up v) b) (is_among (down v) b) (is_among (up v) a) (is_among (down v) a) (sym (code_same a b d v same some most)) h
among_sign a b d v false distinct same some most h =
    pick_down (is_among (up v) b) (is_among (down v) b) (is_among (up v) a) (is_among (down v) a) (sym (code_same a b d v same some most)) (one_sign b v distinct h) h

all_among : (a ls : List Lit) → ((l : Lit) → is_among l ls ≡ true → is_among l a ≡ true) → contains a ls ≡ true
all_among a [] h = refl
all_among a (l ∷ ls) h = and_from (list_any (same_literal l) a) (contains a ls) (h l (among_here l ls)) (all_among a ls (λ m w. h m (among_there m l ls w)))

-- clauses with one code contain each other
code_contains : (a b : List Lit) (d : ℕ) → has_no_variable_twice b ≡ true → IsCovered d b → code a d ≡ code b d → contains a b ≡ true
code_contains a b d distinct covered same = all_among a b (λ l w.
    let range = lit_of (λ k. (0 < k.var) × (k.var ≤ d)) b l covered.each w in
    among_sign a b d l.var l.positive distinct same range.0 range.1 w)

is_in : ℕ → List ℕ → Bool
is_in x xs = list_any (λ y. y == x) xs

abbrev NoTwice : List ℕ → Type 0
NoTwice [] = Unit {0}
NoTwice (x ∷ xs) = (is_in x xs ≡ false) × NoTwice xs

abbrev AllBelow : ℕ → List ℕ → Type 0
AllBelow n [] = Unit {0}
AllBelow n (x ∷ xs) = (x < n) × AllBelow n xs

without_by : Bool → ℕ → List ℕ → List ℕ
without_by true x rest = rest
without_by false x rest = x ∷ rest

without : ℕ → List ℕ → List ℕ
without n [] = []
without n (x ∷ xs) = without_by (x == n) x (without n xs)

out_of : (x y : ℕ) (xs : List ℕ) → is_in x (y ∷ xs) ≡ false → ((y == x) ≡ false) × (is_in x xs ≡ false)
unfolding is_in
out_of x y xs h = or_parts (y == x) (list_any (λ z. z == x) xs) h

in_without : (n x : ℕ) (xs : List ℕ) → is_in x xs ≡ false → is_in x (without n xs) ≡ false
unfolding without without_by is_in
in_without n x [] h = refl
in_without n x (y ∷ ys) h =
    let parts = out_of x y ys h in
    let rest : list_any (λ z. z == x) (without n ys) ≡ false = in_without n x ys parts.1 in
    elim (cases_Bool (y == n)) [ inl same ↦ rw same rest | inr other ↦ rw other (rw (parts.0, rest) refl) ]

twice_without : (n : ℕ) (xs : List ℕ) → NoTwice xs → NoTwice (without n xs)
unfolding without without_by
twice_without n [] h = tt
twice_without n (y ∷ ys) h =
    let rest = twice_without n ys h.1 in
    let out = in_without n y ys h.0 in
    elim (cases_Bool (y == n)) [ inl same ↦ rw same rest | inr other ↦ rw other (out, rest) ]

below_without : (n : ℕ) (xs : List ℕ) → AllBelow (suc n) xs → AllBelow n (without n xs)
unfolding without without_by
below_without n [] h = tt
below_without n (y ∷ ys) h =
    let rest = below_without n ys h.1 in
    elim (cases_eq y n) [
      | inl is ↦ let same : (y == n) ≡ true = eq-eqb y n is in rw same rest
      | inr apart ↦ let other : (y == n) ≡ false = ne_eqb y n apart in let less : y < suc n = h.0 in rw other (omega arith, rest)
    ]

same_without : (n : ℕ) (xs : List ℕ) → is_in n xs ≡ false → without n xs ≡ xs
unfolding without without_by
same_without n [] h = refl
same_without n (y ∷ ys) h = let parts = out_of n y ys h in let rest = same_without n ys parts.1 in rw parts.0 (ap (λ zs. y ∷ zs) rest)

long_without : (n : ℕ) (xs : List ℕ) → NoTwice xs → length xs ≤ suc (length (without n xs))
unfolding without without_by
long_without n [] h = omega arith
long_without n (y ∷ ys) h = elim (cases_eq y n) [
  | inl is ↦
      let same : (y == n) ≡ true = eq-eqb y n is in
      let out : is_in n ys ≡ false = subst (λ k. is_in k ys ≡ false) is h.0 in
      let rest : length (without n ys) ≡ length ys = ap length (same_without n ys out) in
      rw same (omega arith)
  | inr apart ↦
      let other : (y == n) ≡ false = ne_eqb y n apart in
      let rest : length ys ≤ suc (length (without n ys)) = long_without n ys h.1 in
      rw other (omega arith)
]

none_below : (xs : List ℕ) → AllBelow 0 xs → length xs ≤ 0
none_below [] h = omega arith
none_below (x ∷ xs) h = let less : x < 0 = h.0 in absurd (omega arith)

-- there are no more than n numbers below n
few_below : (n : ℕ) (xs : List ℕ) → NoTwice xs → AllBelow n xs → length xs ≤ n
few_below zero xs twice below = none_below xs below
few_below (suc n) xs twice below =
    let rest : length (without n xs) ≤ n = few_below n (without n xs) (twice_without n xs twice) (below_without n xs below) in
    let long : length xs ≤ suc (length (without n xs)) = long_without n xs twice in
    omega arith

codes : ℕ → List Step → List ℕ
codes d [] = []
codes d (s ∷ steps) = code s.clause.lits d ∷ codes d steps

codes_many : (d : ℕ) (steps : List Step) → length (codes d steps) ≡ length steps
unfolding codes
codes_many d [] = refl
codes_many d (s ∷ steps) = ap suc (codes_many d steps)

codes_below : (d : ℕ) (steps : List Step) → AllBelow (3 ^ d) (codes d steps)
unfolding codes
codes_below d [] = tt
codes_below d (s ∷ steps) = (code_small s.clause.lits d, codes_below d steps)

new_at : (known : List Clause) (c k : Clause) (j : ℕ) → slice_get known j ≡ Some k → IsNew known c → contains c.lits k.lits ≡ false
new_at [] c k j e new = cc
new_at (x ∷ xs) c k zero e new = let same : x ≡ k = cc in subst (λ (y : Clause). contains c.lits y.lits ≡ false) same (or_parts (contains c.lits x.lits) (list_any (λ y. contains c.lits y.lits) xs) new).0
new_at (x ∷ xs) c k (suc j) e new = new_at xs c k j e (or_parts (contains c.lits x.lits) (list_any (λ y. contains c.lits y.lits) xs) new).1

-- the code of a known clause is that of no later one
code_out : (d : ℕ) (known : List Clause) (steps : List Step) (k : Clause) (j : ℕ) → slice_get known j ≡ Some k → IsCovered d k.lits → EachStep (λ known s. IsNew known s.clause) known steps
    → is_in (code k.lits d) (codes d steps) ≡ false
unfolding codes is_in
code_out d known [] k j e covered fresh = refl
code_out d known (s ∷ steps) k j e covered fresh =
    let out : contains s.clause.lits k.lits ≡ false = new_at known s.clause k j e fresh.0 in
    let apart : (code s.clause.lits d == code k.lits d) ≡ false = ne_eqb (code s.clause.lits d) (code k.lits d) (λ (same : code s.clause.lits d ≡ code k.lits d).
    let clash : contains s.clause.lits k.lits ≡ true = code_contains s.clause.lits k.lits d k.distinct covered same in cc) in
    let rest : list_any (λ y. y == code k.lits d) (codes d steps) ≡ false = code_out d (known ++ s.clause ∷ []) steps k j (get_front known (s.clause ∷ []) j k e) covered fresh.1 in
    rw (apart, rest) refl

codes_twice : (d : ℕ) (known : List Clause) (steps : List Step) → IsNarrow d steps → EachStep (λ known s. IsNew known s.clause) known steps → NoTwice (codes d steps)
unfolding codes
codes_twice d known [] narrow fresh = tt
codes_twice d known (s ∷ steps) narrow fresh =
    let P : Step → Type 0 = λ t. IsCovered d t.clause.lits in (
      code_out d (known ++ s.clause ∷ []) steps s.clause (length known) (get_last known s.clause) (All-head P s steps narrow) fresh.1,
      codes_twice d (known ++ s.clause ∷ []) steps (All-tail P s steps narrow) fresh.1,
    )

-- the number of clauses of a fresh and narrow log
pub fresh_few : (d : ℕ) (clauses : List Clause) (steps : List Step) → IsFresh clauses steps → IsNarrow d steps → length steps ≤ 3 ^ d
fresh_few d clauses steps fresh narrow =
    let many : length (codes d steps) ≡ length steps = codes_many d steps in
    let few : length (codes d steps) ≤ 3 ^ d = few_below (3 ^ d) (codes d steps) (codes_twice d clauses steps narrow fresh) (codes_below d steps) in
    omega arith
