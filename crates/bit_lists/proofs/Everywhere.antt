-- What holds at some or at each of the first places.
use Rattle.std.proofs.Common.{◌≡◌, ℕ, zero, suc, ◌+◌, ◌<◌, ◌≤◌, Bool, true, false, List, [], ◌∷◌, length, map, take, refl, sym, ap, ◌∙◌, arith, get_or, eqb, ltb}
use Rattle.std.specs.Prelude.{not, ◌&&◌, ◌||◌, ℤ, pos}
use Rattle.std.proofs.Math.ListN.{get_or-map}
use Rattle.std.proofs.lemmas.List.{length-map, take-map}
use Rattle.std.proofs.lemmas.Bool.{eq-eqb}
use Rattle.std.proofs.lemmas.Bool.Decides.{nat_tests}
use Rattle.std.specs.Cmp.Lexicographic.{pointwise}
use Rattle.std.specs.Ordering.{int_eq}
use Rattle.mpy_tree.specs.Operations.{has_number}
use Rattle.bit_words.specs.Words.{nat_of, int_of}
use Rattle.bit_words.proofs.Integers.{same_numbers}

pub some : ℕ → (ℕ → Bool) → Bool
some zero S = false
some (suc j) S = some j S || S j

pub every : ℕ → (ℕ → Bool) → Bool
every zero T = true
every (suc j) T = every j T && T j

pub some_more : (j : ℕ) (S : ℕ → Bool) → some (j + 1) S ≡ (some j S || S j)
unfolding some
some_more j S = let next : j + 1 ≡ suc j = omega arith in ap (λ (n : ℕ). some n S) next

pub every_more : (j : ℕ) (T : ℕ → Bool) → every (j + 1) T ≡ (every j T && T j)
unfolding every
every_more j T = let next : j + 1 ≡ suc j = omega arith in ap (λ (n : ℕ). every n T) next

pub some_zero : (S : ℕ → Bool) → some 0 S ≡ false
unfolding some
some_zero S = refl

pub every_zero : (T : ℕ → Bool) → every 0 T ≡ true
unfolding every
every_zero T = refl

or_assoc : (a b c : Bool) → ((a || b) || c) ≡ (a || (b || c))
or_assoc true b c = refl
or_assoc false b c = refl

and_assoc : (a b c : Bool) → ((a && b) && c) ≡ (a && (b && c))
and_assoc true b c = refl
and_assoc false b c = refl

pub or_none : (a : Bool) → (a || false) ≡ a
or_none true = refl
or_none false = refl

pub or_both : (a : Bool) → (a || a) ≡ a
or_both true = refl
or_both false = refl

and_none : (a : Bool) → (a && true) ≡ a
and_none true = refl
and_none false = refl

pub some_front : (j : ℕ) (S : ℕ → Bool) → some (suc j) S ≡ (S 0 || some j (λ k. S (suc k)))
unfolding some
some_front zero S = sym (or_none (S 0))
some_front (suc j) S = ap (λ b. b || S (suc j)) (some_front j S) ∙ or_assoc (S 0) (some j (λ k. S (suc k))) (S (suc j))

pub every_front : (j : ℕ) (T : ℕ → Bool) → every (suc j) T ≡ (T 0 && every j (λ k. T (suc k)))
unfolding every
every_front zero T = sym (and_none (T 0))
every_front (suc j) T = ap (λ b. b && T (suc j)) (every_front j T) ∙ and_assoc (T 0) (every j (λ k. T (suc k))) (T (suc j))

pub some_same : (j : ℕ) (S S' : ℕ → Bool) → ((k : ℕ) → k < j → S k ≡ S' k) → some j S ≡ some j S'
unfolding some
some_same zero S S' h = refl
some_same (suc j) S S' h = let rest = some_same j S S' (λ k l. h k (omega arith)) in let last = h j (omega arith) in cc

pub every_same : (j : ℕ) (T T' : ℕ → Bool) → ((k : ℕ) → k < j → T k ≡ T' k) → every j T ≡ every j T'
unfolding every
every_same zero T T' h = refl
every_same (suc j) T T' h = let rest = every_same j T T' (λ k l. h k (omega arith)) in let last = h j (omega arith) in cc

pub some_none : (j : ℕ) (S : ℕ → Bool) → ((k : ℕ) → k < j → S k ≡ false) → some j S ≡ false
unfolding some
some_none zero S h = refl
some_none (suc j) S h = let rest = some_none j S (λ k l. h k (omega arith)) in let last = h j (omega arith) in cc

pub every_all : (j : ℕ) (T : ℕ → Bool) → ((k : ℕ) → k < j → T k ≡ true) → every j T ≡ true
unfolding every
every_all zero T h = refl
every_all (suc j) T h = let rest = every_all j T (λ k l. h k (omega arith)) in let last = h j (omega arith) in cc

pub less_suc : (k n : ℕ) → ltb (suc k) (suc n) ≡ ltb k n
less_suc k n = grind (arith, nat_tests)

pub less_none : (k : ℕ) → ltb k 0 ≡ false
less_none k = grind (arith, nat_tests)

pub less_first : (n : ℕ) → ltb 0 (suc n) ≡ true
less_first n = grind (arith, nat_tests)

-- the items of a list within a length
pub has_within : (z : ℤ) (xs : List ℤ) (n : ℕ) → some (length xs) (λ k. ltb k n && int_eq z (get_or xs k (pos 0))) ≡ has_number z (take n xs)
has_within z [] zero = some_zero _
has_within z [] (suc n) = some_zero _
has_within z (x ∷ xs) zero = some_none (length (x ∷ xs)) _ (λ k h. ap (λ b. b && int_eq z (get_or (x ∷ xs) k (pos 0))) (less_none k))
has_within z (x ∷ xs) (suc n) =
    some_front (length xs) (λ k. ltb k (suc n) && int_eq z (get_or (x ∷ xs) k (pos 0)))
    ∙ ap (λ b. (b && int_eq z x) || some (length xs) (λ k. ltb (suc k) (suc n) && int_eq z (get_or xs k (pos 0)))) (less_first n)
    ∙ ap (λ b. int_eq z x || b) (some_same (length xs) _ _ (λ k h. ap (λ b. b && int_eq z (get_or xs k (pos 0))) (less_suc k n)) ∙ has_within z xs n)

and_swap : (a b c : Bool) → (a && (b && c)) ≡ (b && (a && c))
and_swap true b c = refl
and_swap false true c = refl
and_swap false false c = refl

eqb_suc : (n m : ℕ) → eqb (suc n) (suc m) ≡ eqb n m
eqb_suc n m = grind (arith, nat_tests)

zero_other : (m : ℕ) → eqb 0 (suc m) ≡ false
zero_other m = grind (arith, nat_tests)

other_zero : (n : ℕ) → eqb (suc n) 0 ≡ false
other_zero n = grind (arith, nat_tests)

-- two lists within their lengths
pub same_within : (xs ys : List ℕ) (n m : ℕ) → length ys ≡ length xs → n ≤ length xs → m ≤ length ys
    → (eqb n m && every (length xs) (λ k. not (ltb k n) || eqb (get_or xs k 0) (get_or ys k 0))) ≡ pointwise eqb (take n xs) (take m ys)
same_within [] [] zero zero long h k = ap (λ b. b && every 0 (λ j. not (ltb j 0) || eqb (get_or [] j 0) (get_or [] j 0))) (eq-eqb 0 0 refl) ∙ every_zero _
same_within [] [] (suc n) m long h k = absurd (omega arith)
same_within [] [] zero (suc m) long h k = absurd (omega arith)
same_within [] (y ∷ ys) n m long h k = absurd (omega arith)
same_within (x ∷ xs) [] n m long h k = absurd (omega arith)
same_within (x ∷ xs) (y ∷ ys) zero zero long h k =
    every_all (length (x ∷ xs)) _ (λ j l. ap (λ b. not b || eqb (get_or (x ∷ xs) j 0) (get_or (y ∷ ys) j 0)) (less_none j))
same_within (x ∷ xs) (y ∷ ys) zero (suc m) long h k = ap (λ b. b && every (suc (length xs)) (λ j. not (ltb j 0) || eqb (get_or (x ∷ xs) j 0) (get_or (y ∷ ys) j 0))) (zero_other m)
same_within (x ∷ xs) (y ∷ ys) (suc n) zero long h k = ap (λ b. b && every (suc (length xs)) (λ j. not (ltb j (suc n)) || eqb (get_or (x ∷ xs) j 0) (get_or (y ∷ ys) j 0))) (other_zero n)
same_within (x ∷ xs) (y ∷ ys) (suc n) (suc m) long h k =
    let T : ℕ → Bool = λ j. not (ltb j (suc n)) || eqb (get_or (x ∷ xs) j 0) (get_or (y ∷ ys) j 0) in
    ap (λ b. b && every (suc (length xs)) T) (eqb_suc n m)
    ∙ ap (λ b. eqb n m && b) (every_front (length xs) T)
    ∙ ap (λ b. eqb n m && ((not b || eqb x y) && every (length xs) (λ j. T (suc j)))) (less_first n)
    ∙ and_swap (eqb n m) (eqb x y) (every (length xs) (λ j. T (suc j)))
    ∙ ap (λ b. eqb x y && (eqb n m && b)) (every_same (length xs) (λ j. T (suc j)) _ (λ j l. ap (λ b. not b || eqb (get_or xs j 0) (get_or ys j 0)) (less_suc j n)))
    ∙ ap (λ b. eqb x y && b) (same_within xs ys n m (omega arith) (omega arith) (omega arith))

-- one place more
pub some_step : (S : ℕ → Bool) (j : ℕ) (a s r : Bool) → r ≡ (a || s) → a ≡ some j S → s ≡ S j → r ≡ some (j + 1) S
some_step S j a s r e h k = let more = some_more j S in cc

pub every_step : (T : ℕ → Bool) (first : Bool) (j : ℕ) (a t r : Bool) → r ≡ (a && t) → a ≡ (first && every j T) → t ≡ T j → r ≡ (first && every (j + 1) T)
every_step T first j a t r e h k = let more = every_more j T in let turned = and_assoc first (every j T) (T j) in cc

-- two lists of words within their lengths
pub same_words : (xs ys : List (List Bool)) (n m j : ℕ) → j ≡ length xs → length ys ≡ length xs → n ≤ length xs → m ≤ length ys
    → (eqb n m && every j (λ k. not (ltb k n) || eqb (nat_of (get_or xs k [])) (nat_of (get_or ys k [])))) ≡ pointwise eqb (map nat_of (take n xs)) (map nat_of (take m ys))
same_words xs ys n m j end long h k =
    let left = sym (take-map nat_of n xs) in
    let right = sym (take-map nat_of m ys) in
    let many : length (map nat_of xs) ≡ length xs = simp length-map refl in
    let also : length (map nat_of ys) ≡ length ys = simp length-map refl in
    let items = every_same j (λ k. not (ltb k n) || eqb (nat_of (get_or xs k [])) (nat_of (get_or ys k []))) (λ k. not (ltb k n) || eqb (get_or (map nat_of xs) k 0) (get_or (map nat_of ys) k 0))
    (λ k l. let x = get_or-map nat_of xs k [] in let y = get_or-map nat_of ys k [] in cc) in
    let all = same_within (map nat_of xs) (map nat_of ys) n m (omega arith) (omega arith) (omega arith) in
    let last : j ≡ length (map nat_of xs) = omega arith in
    ap (λ b. eqb n m && b) items ∙ ap (λ (i : ℕ). eqb n m && every i (λ k. not (ltb k n) || eqb (get_or (map nat_of xs) k 0) (get_or (map nat_of ys) k 0))) last ∙ all ∙ rw (left, right) refl

-- a word among the words within a length
pub word_within : (z : List Bool) (xs : List (List Bool)) (n j : ℕ) → j ≡ length xs → 0 < length z → ((k : ℕ) → k < length xs → length (get_or xs k []) ≡ length z)
    → some j (λ k. ltb k n && eqb (nat_of z) (nat_of (get_or xs k []))) ≡ has_number (int_of z) (map int_of (take n xs))
word_within z xs n j end wide alike =
    let taken = sym (take-map int_of n xs) in
    let many : length (map int_of xs) ≡ length xs = simp length-map refl in
    let items = some_same j (λ k. ltb k n && eqb (nat_of z) (nat_of (get_or xs k []))) (λ k. ltb k n && int_eq (int_of z) (get_or (map int_of xs) k (pos 0)))
    (λ k l. let x = get_or-map int_of xs k [] in let same = same_numbers z (get_or xs k []) wide (alike k (omega arith)) in cc) in
    let last : j ≡ length (map int_of xs) = omega arith in
    items ∙ ap (λ (i : ℕ). some i (λ k. ltb k n && int_eq (int_of z) (get_or (map int_of xs) k (pos 0)))) last ∙ has_within (int_of z) (map int_of xs) n ∙ ap (has_number (int_of z)) (sym taken)

-- words of one width are equal as numbers where they are equal without a sign
pub same_numbers_all : (w : ℕ) (xs ys : List (List Bool)) → 0 < w → ((k : ℕ) → k < length xs → length (get_or xs k []) ≡ w) → ((k : ℕ) → k < length ys → length (get_or ys k []) ≡ w)
    → pointwise eqb (map nat_of xs) (map nat_of ys) ≡ pointwise int_eq (map int_of xs) (map int_of ys)
same_numbers_all w [] [] some h l = refl
same_numbers_all w [] (y ∷ ys) some h l = refl
same_numbers_all w (x ∷ xs) [] some h l = refl
same_numbers_all w (x ∷ xs) (y ∷ ys) some h l =
    let first : length x ≡ w = h 0 (omega arith) in
    let second : length y ≡ w = l 0 (omega arith) in
    let head = same_numbers x y (omega arith) (second ∙ sym first) in
    let rest = same_numbers_all w xs ys some (λ k lt. h (suc k) (omega arith)) (λ k lt. l (suc k) (omega arith)) in
    ap (λ b. b && pointwise eqb (map nat_of xs) (map nat_of ys)) head ∙ ap (λ b. int_eq (int_of x) (int_of y) && b) rest

pub width_taken : (w n : ℕ) (xs : List (List Bool)) → ((k : ℕ) → k < length xs → length (get_or xs k []) ≡ w) → (k : ℕ) → k < length (take n xs) → length (get_or (take n xs) k []) ≡ w
width_taken w zero xs h k l = absurd (omega arith)
width_taken w (suc n) [] h k l = absurd (omega arith)
width_taken w (suc n) (x ∷ xs) h zero l = h 0 (omega arith)
width_taken w (suc n) (x ∷ xs) h (suc k) l = width_taken w n xs (λ j m. h (suc j) (omega arith)) k (omega arith)
