-- Readings as tests and as lengths.
use Rattle.std.proofs.Common.{◌≡◌, ℕ, zero, suc, ◌+◌, ◌≤◌, Bool, true, false, not, List, [], ◌∷◌, length, map, take, refl, sym, ap, ◌∙◌, arith}
use Rattle.std.specs.Prelude.{ℤ, pos, negsuc, ◌+ℤ◌, ◌≢◌, nat_eq, nat_le}
use Rattle.std.proofs.lemmas.Int.{ints}
use Rattle.std.proofs.lemmas.Bool.{leb-true}
use Rattle.std.proofs.lemmas.List.{length-map, length-take-le}
use Rattle.std.proofs.lemmas.Bool.Decides.{nat_tests}
use Rattle.mpy_tree.specs.declared.limits.Limits.{Limits}
use Rattle.mpy_tree.specs.declared.value.Value.{Value}
use Rattle.mpy_tree.specs.declared.value.Value.TheVariants as val
use Rattle.mpy_tree.specs.Operations.{holds, is_empty, is_zero, number, length_of}
use Rattle.bit_words.specs.Words.{int_of, nat_of, Holds, OverflowsAs}
use Rattle.sym_values.specs.declared.value.SymValue.TheVariants as sym_value
use Rattle.sym_values.specs.Reading.{Reading, IsOutcome, spelled, sure}
use Rattle.sym_values.proofs.Numbers.{number_is}

is_zero_no : (z : ℤ) → z ≢ pos 0 → is_zero z ≡ false
is_zero_no (pos zero) h = absurd (h refl)
is_zero_no (pos (suc n)) h = refl
is_zero_no (negsuc n) h = refl

twice : (z : ℤ) → is_zero (pos 0 +ℤ (z +ℤ z)) ≡ is_zero z
twice (pos zero) = refl
twice (pos (suc n)) = is_zero_no (pos 0 +ℤ (pos (suc n) +ℤ pos (suc n))) (λ h. absurd (omega (arith, ints, h)))
twice (negsuc n) = is_zero_no (pos 0 +ℤ (negsuc n +ℤ negsuc n)) (λ h. absurd (omega (arith, ints, h)))

odd : (z : ℤ) → pos 1 +ℤ (z +ℤ z) ≢ pos 0
odd z h = absurd (omega (arith, ints, h))

twice_nat : (n : ℕ) → nat_eq (0 + (n + n)) 0 ≡ nat_eq n 0
twice_nat n = grind (arith, nat_tests)

odd_nat : (n : ℕ) → nat_eq (1 + (n + n)) 0 ≡ false
odd_nat n = grind (arith, nat_tests)

-- a word reads as 0 exactly where its digits do
pub zero_word : (ws : List Bool) → nat_eq (nat_of ws) 0 ≡ is_zero (int_of ws)
zero_word [] = refl
zero_word (true ∷ []) = refl
zero_word (false ∷ []) = refl
zero_word (true ∷ c ∷ bs) = odd_nat (nat_of (c ∷ bs)) ∙ sym (is_zero_no _ (odd (int_of (c ∷ bs))))
zero_word (false ∷ c ∷ bs) = twice_nat (nat_of (c ∷ bs)) ∙ zero_word (c ∷ bs) ∙ sym (twice (int_of (c ∷ bs)))

empty_taken : {A : Type 0} (n : ℕ) (xs : List A) → n ≤ length xs → nat_eq n 0 ≡ is_empty (take n xs)
empty_taken zero xs h = refl
empty_taken (suc n) [] h = absurd (omega arith)
empty_taken (suc n) (x ∷ xs) h = grind (arith, nat_tests)

pub int_test : (ws : List Bool) (v : Value) → spelled (sym_value.Int ws) ≡ sure v → not (nat_eq (nat_of ws) 0) ≡ holds v
int_test ws v e = ap not (zero_word ws) ∙ ap (λ (r : Reading). holds r.value) e

pub proper_length : {A B : Type 0} (f : A → B) (n : ℕ) (xs : List A) → nat_le n (length xs) ≡ true → n ≤ length (map f xs)
proper_length f n xs h = let e = leb-true n (length xs) h in simp length-map (omega arith)

pub list_test : (len : List Bool) (items : List (List Bool)) (v : Value) → spelled (sym_value.List len items) ≡ sure v → not (nat_eq (nat_of len) 0) ≡ holds v
list_test len items v e =
    let proper : nat_le (nat_of len) (length items) ≡ true = ap (λ (r : Reading). r.proper) e in
    ap not (empty_taken (nat_of len) (map int_of items) (proper_length int_of (nat_of len) items proper)) ∙ ap (λ (r : Reading). holds r.value) e

pub text_test : (len : List Bool) (items : List (List Bool)) (v : Value) → spelled (sym_value.Text len items) ≡ sure v → not (nat_eq (nat_of len) 0) ≡ holds v
text_test len items v e =
    let proper : nat_le (nat_of len) (length items) ≡ true = ap (λ (r : Reading). r.proper) e in
    ap not (empty_taken (nat_of len) (map nat_of items) (proper_length nat_of (nat_of len) items proper)) ∙ ap (λ (r : Reading). holds r.value) e

-- the length of what is read
list_length : (l : Limits) (len : List Bool) (items : List (List Bool)) (v : Value) → spelled (sym_value.List len items) ≡ sure v → number l (pos (nat_of len)) ≡ length_of l v
list_length l len items v e =
    let proper : nat_le (nat_of len) (length items) ≡ true = ap (λ (r : Reading). r.proper) e in
    ap (λ n. number l (pos n)) (sym (length-take-le (nat_of len) (map int_of items) (proper_length int_of (nat_of len) items proper))) ∙ ap (λ (r : Reading). length_of l r.value) e

text_length : (l : Limits) (len : List Bool) (items : List (List Bool)) (v : Value) → spelled (sym_value.Text len items) ≡ sure v → number l (pos (nat_of len)) ≡ length_of l v
text_length l len items v e =
    let proper : nat_le (nat_of len) (length items) ≡ true = ap (λ (r : Reading). r.proper) e in
    ap (λ n. number l (pos n)) (sym (length-take-le (nat_of len) (map nat_of items) (proper_length nat_of (nat_of len) items proper))) ∙ ap (λ (r : Reading). length_of l r.value) e

pub list_length_is : (l : Limits) (len : List Bool) (items : List (List Bool)) (v : Value) (over : Bool) (z : ℤ) → spelled (sym_value.List len items) ≡ sure v
    → OverflowsAs over l.width (pos (nat_of len)) → Holds z l.width (pos (nat_of len)) → IsOutcome over (sure (val.Int z)) (length_of l v)
list_length_is l len items v over z e p q = rw (list_length l len items v e) at (number_is l l.width over z (pos (nat_of len)) refl p q)

pub text_length_is : (l : Limits) (len : List Bool) (items : List (List Bool)) (v : Value) (over : Bool) (z : ℤ) → spelled (sym_value.Text len items) ≡ sure v
    → OverflowsAs over l.width (pos (nat_of len)) → Holds z l.width (pos (nat_of len)) → IsOutcome over (sure (val.Int z)) (length_of l v)
text_length_is l len items v over z e p q = rw (text_length l len items v e) at (number_is l l.width over z (pos (nat_of len)) refl p q)
