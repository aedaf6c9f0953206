-- Repeated lists and texts, and whether they are within the cap.
use Rattle.std.proofs.Common.{◌≡◌, ℕ, zero, suc, ◌*◌, ◌<◌, ◌≤◌, ◌⊎◌, inl, inr, List, [], ◌∷◌, length, Ok, Err, nat_le, if◌then◌else◌, ℤ, refl, sym, ap, ◌∙◌, arith, length-append}
use Rattle.std.proofs.lemmas.Bool.Decides.{nat_tests}
use Rattle.mpy_tree.specs.declared.limits.Limits.{Limits}
use Rattle.mpy_tree.specs.declared.value.Value.TheVariants.{List as Items, Text}
use Rattle.mpy_tree.specs.declared.outcome.FaultKind.TheVariants.{Length}
use Rattle.mpy_tree.specs.declared.outcome.Halt.TheVariants.{Fault}
use Rattle.mpy_tree.specs.Operations.{copies, copy_count, repeated, list_within, text_within}

length_copies : {A : Type 0} (n : ℕ) (xs : List A) → length (copies n xs) ≡ length xs * n
length_copies zero xs = omega arith
length_copies (suc n) xs = omega (arith, length-append xs (copies n xs), length_copies n xs)

copies_of_none : {A : Type 0} (n : ℕ) (xs : List A) → length xs ≡ 0 → copies n xs ≡ []
copies_of_none zero xs e = refl
copies_of_none (suc n) [] e = copies_of_none n [] e
copies_of_none (suc n) (x ∷ xs) e = absurd (omega arith)

-- copies of the empty list need not be made
repeated_by : {A : Type 0} (xs : List A) (n : ℤ) (times : ℕ) → (length xs ≡ 0) ⊎ (times ≡ copy_count n) → repeated xs n ≡ copies times xs
repeated_by xs n times (inl e) = copies_of_none (copy_count n) xs e ∙ sym (copies_of_none times xs e)
repeated_by xs n times (inr e) = ap (λ m. copies m xs) (sym e)

within : {A B : Type 0} (xs : List A) (cap : ℕ) (a b : B) → length xs ≤ cap → (if nat_le (length xs) cap then a else b) ≡ a
within xs cap a b h = grind (arith, nat_tests)

beyond : {A B : Type 0} (xs : List A) (cap : ℕ) (a b : B) → cap < length xs → (if nat_le (length xs) cap then a else b) ≡ b
beyond xs cap a b h = grind (arith, nat_tests)

pub list_repeated : (l : Limits) (xs : List ℤ) (n : ℤ) (times : ℕ) → length xs * times ≤ l.cap → (length xs ≡ 0) ⊎ (times ≡ copy_count n) → list_within l (repeated xs n) ≡ Ok (Items (copies times xs))
list_repeated l xs n times fits which =
    ap (list_within l) (repeated_by xs n times which)
    ∙ within (copies times xs) l.cap _ _ (omega (arith, length_copies times xs))

pub text_repeated : (l : Limits) (cs : List ℕ) (n : ℤ) (times : ℕ) → length cs * times ≤ l.cap → (length cs ≡ 0) ⊎ (times ≡ copy_count n) → text_within l (repeated cs n) ≡ Ok (Text (copies times cs))
text_repeated l cs n times fits which =
    ap (text_within l) (repeated_by cs n times which)
    ∙ within (copies times cs) l.cap _ _ (omega (arith, length_copies times cs))

pub list_too_long : (l : Limits) (xs : List ℤ) (n : ℤ) → l.cap < length xs * copy_count n → list_within l (repeated xs n) ≡ Err (Fault Length)
list_too_long l xs n h =
    beyond (copies (copy_count n) xs) l.cap _ _ (omega (arith, length_copies (copy_count n) xs))

pub text_too_long : (l : Limits) (cs : List ℕ) (n : ℤ) → l.cap < length cs * copy_count n → text_within l (repeated cs n) ≡ Err (Fault Length)
text_too_long l cs n h =
    beyond (copies (copy_count n) cs) l.cap _ _ (omega (arith, length_copies (copy_count n) cs))
