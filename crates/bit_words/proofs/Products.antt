-- Products, row by row.
use Rattle.std.proofs.Common.{◌≡◌, ℕ, zero, suc, ◌<◌, ◌≤◌, ◌+◌, ◌*◌, ◌^◌, ltb, Bool, true, false, not, ◌&&◌, ◌||◌, List, [], ◌∷◌, map, cond, refl, sym, ap, ◌∙◌, arith, subst}
use Rattle.std.proofs.lemmas.Bool.Decides.{nat_tests}
use Rattle.std.proofs.lemmas.Bool.{ltb-true, le-ltb}
use Rattle.bit_words.specs.Words.{bit_value, nat_of, IsUnsigned}
use Rattle.bit_words.proofs.Naturals.{power_double}

-- a word where a bit is true
pub nat_masked : (test : Bool) (bs : List Bool) → nat_of (map (λ b. test && b) bs) ≡ cond test (nat_of bs) 0
nat_masked true [] = refl
nat_masked true (b ∷ bs) = let rest : nat_of (map (λ c. true && c) bs) ≡ nat_of bs = nat_masked true bs in ap (λ (n : ℕ). bit_value b + (n + n)) rest
nat_masked false [] = refl
nat_masked false (b ∷ bs) = let rest : nat_of (map (λ c. false && c) bs) ≡ 0 = nat_masked false bs in omega arith

unfoldable pub Fit : ℕ → ℕ → ℕ → Bool → Type 0
Fit q n s over = (over ≡ not (ltb n q)) × (ltb n q ≡ true → s ≡ n)

pub exceeds : (q n s : ℕ) → q ≤ n → Fit q n s true
unfolding Fit
exceeds q n s h = let e : ltb n q ≡ false = le-ltb n q h in (ap not (sym e), λ (k : ltb n q ≡ true). cc)

holds : (q n s : ℕ) → n < q → s ≡ n → Fit q n s false
unfolding Fit
holds q n s h e = let k : ltb n q ≡ true = grind (arith, nat_tests) in (ap not (sym k), λ _. e)

-- the carry alone decides, where nothing was lost
by_carry : (p x q n s : ℕ) (c : Bool) → s < p + p → n ≡ x + (q + q) → s + (p + p) * bit_value c ≡ x + (q + q) → Fit (p + p) n s c
by_carry p x q n s true b e total = exceeds (p + p) n s (omega arith)
by_carry p x q n s false b e total = holds (p + p) n s (omega arith) (omega arith)

pub or_false : (c : Bool) → (c || false) ≡ c
or_false true = refl
or_false false = refl

pub or_true : (c : Bool) → (c || true) ≡ true
or_true true = refl
or_true false = refl

and_false : (b : Bool) → (b && false) ≡ false
and_false true = refl
and_false false = refl

pub turn : (b : Bool) → false ≡ not b → b ≡ true
turn true e = refl
turn false e = cc

pub not_below : (n q : ℕ) → true ≡ not (ltb n q) → q ≤ n
not_below n q e = grind (arith, nat_tests)

not_above : (e : ℕ) → false ≡ ltb 0 e → e ≡ 0
not_above e h = grind (arith, nat_tests)

-- one row: x is the row, q the product of the higher digits with the digits of the factor below its highest, r with that highest one
row_cases : (p e x q r h n s : ℕ) (t over c some : Bool) → s < p + p → some ≡ ltb 0 e → (0 < e → p ≤ r) → (e ≡ 0 → r ≡ 0)
    → n ≡ x + (q + cond t r 0) + (q + cond t r 0)
    → Fit p q h over → s + (p + p) * bit_value c ≡ x + (h + h) → Fit (p + p) n s ((over || c) || (some && t))
unfolding Fit
row_cases p e x q r h n s t true c some b k l z f w total =
    let big : p ≤ q = omega (arith, not_below q p w.0) in exceeds (p + p) n s (omega arith)
row_cases p e x q r h n s true false c true b k l z f w total =
    let pos_e : 0 < e = ltb-true 0 e (sym k) in
    let big : p ≤ r = l pos_e in
    subst (λ (o : Bool). Fit (p + p) n s o) (sym (or_true c)) (exceeds (p + p) n s (omega arith))
row_cases p e x q r h n s true false c false b k l z f w total =
    let none : e ≡ 0 = not_above e k in
    let r0 : r ≡ 0 = z none in
    let same : h ≡ q = w.1 (turn _ w.0) in
    subst (λ (o : Bool). Fit (p + p) n s o) (sym (or_false c)) (by_carry p x q n s c b (omega arith) (rw same at total))
row_cases p e x q r h n s false false c some b k l z f w total =
    let same : h ≡ q = w.1 (turn _ w.0) in
    subst (λ (o : Bool). Fit (p + p) n s o) (sym (ap (λ (o : Bool). c || o) (and_false some) ∙ or_false c)) (by_carry p x q n s c b (omega arith) (rw same at total))

pub to_fit : (w n s : ℕ) (over : Bool) → IsUnsigned w n s over → Fit (2 ^ w) n s over
unfolding Fit
to_fit w n s over u = (u.leaves, u.reads)

pub of_fit : (w q n s : ℕ) (over : Bool) → 2 ^ w ≡ q → Fit q n s over → IsUnsigned w n s over
unfolding Fit
of_fit w q n s over e f = record { leaves = rw e f.0; reads = rw e f.1 }

product_digits : (a low t p e : ℕ) (d : Bool) → a ≡ low + p * t → a * (bit_value d + (e + e)) ≡ cond d a 0 + (low * e + p * t * e) + (low * e + p * t * e)
product_digits a low t p e true h = rw h (omega arith)
product_digits a low t p e false h = rw h (omega arith)

top_part : (t : Bool) (p e : ℕ) → p * bit_value t * e ≡ cond t (p * e) 0
top_part true p e = omega arith
top_part false p e = omega arith

at_least : (p e : ℕ) → 0 < e → p ≤ p * e
at_least p zero h = absurd (omega arith)
at_least p (suc e) h = omega arith

-- a row more of a product
pub row_more : (v w a low h s e : ℕ) (t d over c some : Bool) → v ≡ w + 1 → a ≡ low + 2 ^ w * bit_value t → s < 2 ^ v → some ≡ ltb 0 e
    → IsUnsigned w (low * e) h over → s + 2 ^ v * bit_value c ≡ cond d a 0 + (h + h)
    → IsUnsigned v (a * (bit_value d + (e + e))) s ((over || c) || (some && t))
row_more v w a low h s e t d over c some wide split below k u total =
    let twice : 2 ^ v ≡ 2 ^ w + 2 ^ w = ap (λ (i : ℕ). 2 ^ i) (wide ∙ omega arith) ∙ power_double w in
    let digits = product_digits a low (bit_value t) (2 ^ w) e d split in
    let part = top_part t (2 ^ w) e in
    of_fit v (2 ^ w + 2 ^ w) (a * (bit_value d + (e + e))) s ((over || c) || (some && t)) twice
    (row_cases (2 ^ w) e (cond d a 0) (low * e) (2 ^ w * e) h (a * (bit_value d + (e + e))) s t over c some (rw twice at below) k (at_least (2 ^ w) e) (λ z. rw z (omega arith))
    (rw part at digits) (to_fit w (low * e) h over u) (rw twice at total))

-- the product of no digits
pub no_digits : (n : ℕ) (over : Bool) → n ≡ 0 → over ≡ false → IsUnsigned 0 n 0 over
no_digits n over e f = record { leaves = rw (e, f) refl; reads = λ k. sym e }

-- the next higher digits
pub some_more : (d : Bool) (e : ℕ) (some : Bool) → some ≡ ltb 0 e → (some || d) ≡ ltb 0 (bit_value d + (e + e))
some_more true e some h = or_true some ∙ grind (arith, nat_tests)
some_more false e some h = or_false some ∙ h ∙ grind (arith, nat_tests)
