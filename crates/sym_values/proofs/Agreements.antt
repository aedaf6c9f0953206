-- Lists that agree as far as a length, and the lists of the language.
use Rattle.std.proofs.Common.{◌≡◌, ℕ, zero, suc, ◌+◌, ◌≤◌, ◌<◌, Bool, true, false, not, List, [], ◌∷◌, ◌++◌, length, map, take, refl, sym, ap, ◌∙◌, subst, arith}
use Rattle.std.specs.Prelude.{slice_get, Some, ℤ, ◌&&◌, ◌||◌, nat_eq, nat_lt}
use Rattle.std.specs.Cmp.Lexicographic.{pointwise}
use Rattle.std.specs.Ordering.{int_eq}
use Rattle.std.proofs.lemmas.Bool.Decides.{nat_tests, Decides-int_eq}
use Rattle.std.proofs.lemmas.Bool.{leb-true}
use Rattle.std.proofs.lemmas.List.{length-map, length-take-le}
use Rattle.std.proofs.lemmas.Option.{slice_get_within}
use Rattle.std.proofs.Math.Seq.{take-length}
use Rattle.std.specs.declared.result.Result.{Result}
use Rattle.std.specs.declared.result.Result.TheVariants.{Ok}
use Rattle.mpy_tree.specs.declared.value.Value.{Value}
use Rattle.mpy_tree.specs.declared.value.Value.TheVariants as val
use Rattle.mpy_tree.specs.declared.outcome.Halt.{Halt}
use Rattle.mpy_tree.specs.declared.operators.CmpOp.TheVariants.{Eq, Ne}
use Rattle.mpy_tree.specs.Operations.{compare, equal, opposite, same_truth, truth}
use Rattle.bit_words.specs.Bits.{differ}
use Rattle.sym_values.specs.declared.value.SymValue.TheVariants as sym_value
use Rattle.sym_values.specs.Reading.{IsOutcome, Reading, spelled, sure}
use Rattle.sym_values.proofs.Held.{take_read}
use Rattle.bit_words.specs.Words.{int_of, nat_of}
use Rattle.sym_values.specs.Agreement.{agree, same_digits}
use Rattle.sym_values.specs.declared.value.SymValue.{SymValue}
use Rattle.sym_values.specs.Forms.{IntForm, ListForm, TextForm, form_of, lengths}

swap : (a b c : Bool) → (a && (b && c)) ≡ (b && (a && c))
swap true b c = refl
swap false true c = refl
swap false false c = refl

nest : (a b c : Bool) → (a && (b && c)) ≡ ((a && b) && c)
nest true b c = refl
nest false b c = refl

last : (b : Bool) → (b && true) ≡ b
last true = refl
last false = refl

zero_suc : (m : ℕ) → nat_eq 0 (suc m) ≡ false
zero_suc m = grind (arith, nat_tests)

suc_zero : (n : ℕ) → nat_eq (suc n) 0 ≡ false
suc_zero n = grind (arith, nat_tests)

suc_suc : (n m : ℕ) → nat_eq (suc n) (suc m) ≡ nat_eq n m
suc_suc n m = grind (arith, nat_tests)

never : (b c : Bool) → b ≡ false → false ≡ (b && c)
never b c e = ap (λ a. a && c) (sym e)

-- equal lists are those of one length that agree as far as that
pub equal_taken : {A C : Type 0} (E : C → C → Bool) (f : A → C) (n m : ℕ) (xs ys : List A) → n ≤ length xs → m ≤ length ys → length ys ≡ length xs
    → pointwise E (take n (map f xs)) (take m (map f ys)) ≡ (nat_eq n m && agree (λ v w. E (f v) (f w)) n xs ys)
equal_taken E f zero zero [] [] h k e = refl
equal_taken E f zero zero [] (y ∷ ys) h k e = absurd (omega (arith, e))
equal_taken E f zero zero (x ∷ xs) [] h k e = absurd (omega (arith, e))
equal_taken E f zero zero (x ∷ xs) (y ∷ ys) h k e = refl
equal_taken E f zero (suc m) xs [] h k e = absurd (omega arith)
equal_taken E f zero (suc m) [] (y ∷ ys) h k e = never (nat_eq 0 (suc m)) _ (zero_suc m)
equal_taken E f zero (suc m) (x ∷ xs) (y ∷ ys) h k e = never (nat_eq 0 (suc m)) _ (zero_suc m)
equal_taken E f (suc n) m [] ys h k e = absurd (omega arith)
equal_taken E f (suc n) zero (x ∷ xs) [] h k e = never (nat_eq (suc n) 0) _ (suc_zero n)
equal_taken E f (suc n) zero (x ∷ xs) (y ∷ ys) h k e = never (nat_eq (suc n) 0) _ (suc_zero n)
equal_taken E f (suc n) (suc m) (x ∷ xs) [] h k e = absurd (omega arith)
equal_taken E f (suc n) (suc m) (x ∷ xs) (y ∷ ys) h k e =
    let rest : pointwise E (take n (map f xs)) (take m (map f ys)) ≡ (nat_eq n m && agree (λ v w. E (f v) (f w)) n xs ys) = equal_taken E f n m xs ys (omega arith) (omega arith) (omega arith) in
    ap (λ b. E (f x) (f y) && b) rest ∙ swap (E (f x) (f y)) (nat_eq n m) (agree (λ v w. E (f v) (f w)) n xs ys)
    ∙ ap (λ b. b && (E (f x) (f y) && agree (λ v w. E (f v) (f w)) n xs ys)) (sym (suc_suc n m))

first_one : (k : ℕ) → nat_lt 0 (k + 1) ≡ true
first_one k = grind (arith, nat_tests)

past_one : (n : ℕ) → nat_lt (suc n) (0 + 1) ≡ false
past_one n = grind (arith, nat_tests)

one_more : (n k : ℕ) → nat_lt (suc n) (suc k + 1) ≡ nat_lt n (k + 1)
one_more n k = grind (arith, nat_tests)

-- one element more
pub agree_more : {A : Type 0} (E : A → A → Bool) (n : ℕ) (xs ys : List A) (x y : A) → length ys ≡ length xs
    → agree E n (xs ++ x ∷ []) (ys ++ y ∷ []) ≡ (agree E n xs ys && (nat_lt n (length xs + 1) || E x y))
agree_more E zero [] [] x y e = refl
agree_more E (suc n) [] [] x y e = last (E x y) ∙ sym (ap (λ b. b || E x y) (past_one n))
agree_more E n [] (y' ∷ ys) x y e = absurd (omega arith)
agree_more E n (x' ∷ xs) [] x y e = absurd (omega arith)
agree_more E zero (x' ∷ xs) (y' ∷ ys) x y e = ap (λ b. b || E x y) (sym (first_one (suc (length xs))))
agree_more E (suc n) (x' ∷ xs) (y' ∷ ys) x y e =
    let rest : agree E n (xs ++ x ∷ []) (ys ++ y ∷ []) ≡ (agree E n xs ys && (nat_lt n (length xs + 1) || E x y)) = agree_more E n xs ys x y (omega arith) in
    ap (λ b. E x' y' && b) rest ∙ nest (E x' y') (agree E n xs ys) (nat_lt n (length xs + 1) || E x y)
    ∙ ap (λ b. (E x' y' && agree E n xs ys) && (b || E x y)) (sym (one_more n (length xs)))

cases : (a b : Bool) → (a ≡ true → b ≡ true) → (b ≡ true → a ≡ true) → a ≡ b
cases true b f h = sym (f refl)
cases false true f h = h refl
cases false false f h = refl

int_equal : (a b : ℤ) → int_eq a b ≡ true → a ≡ b
int_equal a b h = (Decides-int_eq a b).0 h

nat_equal : (a b : ℕ) → nat_eq a b ≡ true → a ≡ b
nat_equal a b h = grind (arith, nat_tests)

nat_same : (n : ℕ) → nat_eq n n ≡ true
nat_same n = grind (arith, nat_tests)

same_nat : (v w : List Bool) → v ≡ w → same_digits v w ≡ true
same_nat v w e = rw e (nat_same (nat_of w))

int_same : (z : ℤ) → int_eq z z ≡ true
int_same z = (Decides-int_eq z z).1 refl

same_int : (v w : List Bool) → v ≡ w → int_eq (int_of v) (int_of w) ≡ true
same_int v w e = rw e (int_same (int_of w))

-- two words of one length read as the same number exactly where they have the same digits
pub same_numbers : ((v w : List Bool) → length v ≡ length w → int_of v ≡ int_of w → v ≡ w) → ((v w : List Bool) → length v ≡ length w → nat_of v ≡ nat_of w → v ≡ w)
    → (v w : List Bool) → length v ≡ length w → int_eq (int_of v) (int_of w) ≡ same_digits v w
same_numbers by_int by_nat v w e =
    cases (int_eq (int_of v) (int_of w)) (same_digits v w)
    (λ h. same_nat v w (by_int v w e (int_equal (int_of v) (int_of w) h)))
    (λ h. same_int v w (by_nat v w e (nat_equal (nat_of v) (nat_of w) h)))

pub agree_alike : {A : Type 0} (E F : A → A → Bool) (P : A → ℕ) (n : ℕ) (xs ys : List A) → ((x y : A) → P x ≡ P y → E x y ≡ F x y) → map P ys ≡ map P xs
    → agree E n xs ys ≡ agree F n xs ys
agree_alike E F P n [] ys same e = refl
agree_alike E F P n (x ∷ xs) [] same e = refl
agree_alike E F P zero (x ∷ xs) (y ∷ ys) same e = refl
agree_alike E F P (suc n) (x ∷ xs) (y ∷ ys) same e =
    let one : P x ≡ P y = cc in
    let more : map P ys ≡ map P xs = cc in
    let head = same x y one in
    let rest : agree E n xs ys ≡ agree F n xs ys = agree_alike E F P n xs ys same more in
    rw (head, rest) refl

below : {i n : ℕ} → i < n → i ≤ n
below h = omega arith

slice_map : {A C : Type 0} (f : A → C) (xs : List A) (i : ℕ) (x : A) → slice_get xs i ≡ Some x → slice_get (map f xs) i ≡ Some (f x)
slice_map f [] i x e = cc
slice_map f (a ∷ xs) zero x e = cc
slice_map f (a ∷ xs) (suc i) x e = slice_map f xs i x e

-- one place more of two lists that are read
pub agree_step : {A B : Type 0} (E : B → B → Bool) (f : A → B) (xs ys : List A) (i n : ℕ) (x y : A) → slice_get xs i ≡ Some x → slice_get ys i ≡ Some y
    → (agree E n (take i (map f xs)) (take i (map f ys)) && (nat_lt n (i + 1) || E (f x) (f y))) ≡ agree E n (take (i + 1) (map f xs)) (take (i + 1) (map f ys))
agree_step {A} {B} E f xs ys i n x y p q =
    let left = slice_map f xs i x p in
    let right = slice_map f ys i y q in
    let long : length (take i (map f xs)) ≡ i = length-take-le i (map f xs) (below (slice_get_within (map f xs) i (f x) left)) in
    let other : length (take i (map f ys)) ≡ i = length-take-le i (map f ys) (below (slice_get_within (map f ys) i (f y) right)) in
    sym (rw (take_read (map f xs) i (f x) left, take_read (map f ys) i (f y) right)
    (agree_more E n (take i (map f xs)) (take i (map f ys)) (f x) (f y) (other ∙ sym long) ∙ ap (λ k. agree E n (take i (map f xs)) (take i (map f ys)) && (nat_lt n (k + 1) || E (f x) (f y))) long))

pub agree_whole : {A B : Type 0} (E : B → B → Bool) (f : A → B) (xs ys : List A) (k n : ℕ) → k ≡ length xs → length ys ≡ length xs
    → agree E n (take k (map f xs)) (take k (map f ys)) ≡ agree E n (map f xs) (map f ys)
agree_whole E f xs ys k n e h =
    let left : take k (map f xs) ≡ map f xs = ap (λ m. take m (map f xs)) (e ∙ sym (length-map xs f)) ∙ take-length (map f xs) in
    let right : take k (map f ys) ≡ map f ys = ap (λ m. take m (map f ys)) (e ∙ sym h ∙ sym (length-map ys f)) ∙ take-length (map f ys) in
    rw (left, right) refl

pub same_count : {A : Type 0} (xs ys : List (List A)) → lengths ys ≡ lengths xs → length ys ≡ length xs
same_count xs ys e = sym (length-map ys length) ∙ ap length e ∙ length-map xs length

same_bits : (b c : Bool) → not (differ b c) ≡ same_truth b c
same_bits true true = refl
same_bits true false = refl
same_bits false true = refl
same_bits false false = refl

-- values that are equal
two_values : (r : Bool) (v w p q : Value) → v ≡ p → w ≡ q → Ok r ≡ equal v w → Ok r ≡ equal p q
two_values r v w p q e f h = subst (λ (u : Value). Ok r ≡ equal u q) e (subst (λ (u : Value). Ok r ≡ equal v u) f h)

pub equal_truths : (b c r : Bool) (v w : Value) → spelled (sym_value.Bool b) ≡ sure v → spelled (sym_value.Bool c) ≡ sure w → r ≡ not (differ b c) → Ok r ≡ equal v w
equal_truths b c r v w e f h =
    two_values r (val.Bool b) (val.Bool c) v w (ap (λ (i : Reading). i.value) e) (ap (λ (i : Reading). i.value) f) (ap Ok (h ∙ same_bits b c))

pub equal_numbers : ((v w : List Bool) → length v ≡ length w → int_of v ≡ int_of w → v ≡ w) → ((v w : List Bool) → length v ≡ length w → nat_of v ≡ nat_of w → v ≡ w)
    → (x y : List Bool) (r : Bool) (v w : Value) → length x ≡ length y → spelled (sym_value.Int x) ≡ sure v → spelled (sym_value.Int y) ≡ sure w → r ≡ same_digits x y → Ok r ≡ equal v w
equal_numbers by_int by_nat x y r v w long e f h =
    two_values r (val.Int (int_of x)) (val.Int (int_of y)) v w (ap (λ (i : Reading). i.value) e) (ap (λ (i : Reading). i.value) f) (ap Ok (h ∙ sym (same_numbers by_int by_nat x y long)))

pub equal_lists : ((v w : List Bool) → length v ≡ length w → int_of v ≡ int_of w → v ≡ w) → ((v w : List Bool) → length v ≡ length w → nat_of v ≡ nat_of w → v ≡ w)
    → (m n : List Bool) (xs ys : List (List Bool)) (r : Bool) (v w : Value) → lengths ys ≡ lengths xs → spelled (sym_value.List m xs) ≡ sure v → spelled (sym_value.List n ys) ≡ sure w
    → r ≡ (nat_eq (nat_of m) (nat_of n) && agree same_digits (nat_of m) xs ys) → Ok r ≡ equal v w
equal_lists by_int by_nat m n xs ys r v w long e f h =
    let one = leb-true (nat_of m) (length xs) (ap (λ (i : Reading). i.proper) e) in
    let two = leb-true (nat_of n) (length ys) (ap (λ (i : Reading). i.proper) f) in
    let digits = agree_alike (λ a b. int_eq (int_of a) (int_of b)) same_digits length (nat_of m) xs ys (λ a b k. same_numbers by_int by_nat a b k) long in
    let taken = equal_taken int_eq int_of (nat_of m) (nat_of n) xs ys one two (same_count xs ys long) in
    two_values r (val.List (take (nat_of m) (map int_of xs))) (val.List (take (nat_of n) (map int_of ys))) v w (ap (λ (i : Reading). i.value) e) (ap (λ (i : Reading). i.value) f)
    (ap Ok (h ∙ sym (taken ∙ ap (λ b. nat_eq (nat_of m) (nat_of n) && b) digits)))

pub equal_texts : (m n : List Bool) (xs ys : List (List Bool)) (r : Bool) (v w : Value) → lengths ys ≡ lengths xs → spelled (sym_value.Text m xs) ≡ sure v → spelled (sym_value.Text n ys) ≡ sure w
    → r ≡ (nat_eq (nat_of m) (nat_of n) && agree same_digits (nat_of m) xs ys) → Ok r ≡ equal v w
equal_texts m n xs ys r v w long e f h =
    let one = leb-true (nat_of m) (length xs) (ap (λ (i : Reading). i.proper) e) in
    let two = leb-true (nat_of n) (length ys) (ap (λ (i : Reading). i.proper) f) in
    let taken = equal_taken nat_eq nat_of (nat_of m) (nat_of n) xs ys one two (same_count xs ys long) in
    two_values r (val.Text (take (nat_of m) (map nat_of xs))) (val.Text (take (nat_of n) (map nat_of ys))) v w (ap (λ (i : Reading). i.value) e) (ap (λ (i : Reading). i.value) f)
    (ap Ok (h ∙ sym taken))

-- the outcomes of comparisons
pub told_equal : (fault r : Bool) (v w : Value) → fault ≡ false → Ok r ≡ equal v w → IsOutcome fault (sure (val.Bool r)) (truth (compare Eq v w))
told_equal fault r v w e h = subst (λ (u : Result Bool Halt). IsOutcome fault (sure (val.Bool r)) (truth u)) h (e, refl)

pub told_different : (fault r other : Bool) (v w : Value) → fault ≡ false → Ok r ≡ equal v w → other ≡ not r → IsOutcome fault (sure (val.Bool other)) (truth (compare Ne v w))
told_different fault r other v w e h k =
    subst (λ (u : Result Bool Halt). IsOutcome fault (sure (val.Bool other)) (truth (opposite u))) h (e, ap (λ (b : Bool). sure (val.Bool b)) k)

-- values of one form have words of the same widths
pub int_widths : {B : Type 0} (v w : List B) (x y : SymValue B) → x ≡ sym_value.Int v → y ≡ sym_value.Int w → form_of y ≡ form_of x → length w ≡ length v
int_widths v w x y e f h = let p : IntForm (length w) ≡ IntForm (length v) = sym (ap form_of f) ∙ h ∙ ap form_of e in cc

pub list_widths : {B : Type 0} (m n : List B) (xs ys : List (List B)) (x y : SymValue B) → x ≡ sym_value.List m xs → y ≡ sym_value.List n ys → form_of y ≡ form_of x → lengths ys ≡ lengths xs
list_widths m n xs ys x y e f h = let p : ListForm (length n) (lengths ys) ≡ ListForm (length m) (lengths xs) = sym (ap form_of f) ∙ h ∙ ap form_of e in cc

pub text_widths : {B : Type 0} (m n : List B) (xs ys : List (List B)) (x y : SymValue B) → x ≡ sym_value.Text m xs → y ≡ sym_value.Text n ys → form_of y ≡ form_of x → lengths ys ≡ lengths xs
text_widths m n xs ys x y e f h = let p : TextForm (length n) (lengths ys) ≡ TextForm (length m) (lengths xs) = sym (ap form_of f) ∙ h ∙ ap form_of e in cc

widths_read : {B : Type 0} (f : B → Bool) (xs : List (List B)) → lengths (map (map f) xs) ≡ lengths xs
widths_read f [] = refl
widths_read f (x ∷ xs) = let head : length (map f x) ≡ length x = length-map x f in let tail : lengths (map (map f) xs) ≡ lengths xs = widths_read f xs in cc

pub read_widths : {B : Type 0} (f h : B → Bool) (xs ys : List (List B)) → lengths ys ≡ lengths xs → lengths (map (map h) ys) ≡ lengths (map (map f) xs)
read_widths f h xs ys e = widths_read h ys ∙ e ∙ sym (widths_read f xs)
