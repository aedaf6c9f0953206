-- The places of what is joined of blocks of one length, and so the places of tuples.
use Rattle.std.proofs.Common.{◌≡◌, ℕ, zero, suc, ◌+◌, ◌*◌, ◌/◌, ◌%◌, ◌^◌, ◌<◌, ◌≤◌, List, [], ◌∷◌, ◌++◌, map, length, replicate, min, Option, Some, None, refl, sym, ap, ◌∙◌, subst, arith, append_assoc, length-append}
use Rattle.std.specs.List.{flat_map, slice_get}
use Rattle.std.specs.Option.{option_map}
use Rattle.std.proofs.Math.Nat.{div-lt_iff_lt-mul, mul_comm, pow-suc, pow-zero}
use Rattle.std.proofs.lemmas.List.{append-nil, length-map}
use Rattle.std.proofs.lemmas.Nat.{div-add-mod'}
use Rattle.std.proofs.lemmas.Option.{slice_get-map}
use Rattle.input_space.specs.Inputs.{tuples}

pub get_left : {A : Type 0} (xs ys : List A) (i : ℕ) → i < length xs → slice_get (xs ++ ys) i ≡ slice_get xs i
get_left [] ys i h = absurd (omega arith)
get_left (x ∷ xs) ys zero h = refl
get_left (x ∷ xs) ys (suc i) h = get_left xs ys i (omega arith)

pub get_right : {A : Type 0} (xs ys : List A) (j : ℕ) → slice_get (xs ++ ys) (length xs + j) ≡ slice_get ys j
get_right [] ys j = ap (slice_get ys) (omega arith)
get_right (x ∷ xs) ys j =
    let e : length (x ∷ xs) + j ≡ suc (length xs + j) = omega arith in
    ap (slice_get (x ∷ (xs ++ ys))) e ∙ get_right xs ys j

module _ {A B : Type 0} (f : A → List B) (n : ℕ) (each : (x : A) → length (f x) ≡ n) where
  pub length_blocks : (xs : List A) → length (flat_map f xs) ≡ length xs * n
  length_blocks [] = omega arith
  length_blocks (x ∷ xs) =
      let e : suc (length xs) * n ≡ n + length xs * n = grind arith in
      length-append (f x) (flat_map f xs) ∙ omega (arith, each x, length_blocks xs, e)

  pub get_block : (xs : List A) (k j : ℕ) (x : A) → slice_get xs k ≡ Some x → j < n → slice_get (flat_map f xs) (k * n + j) ≡ slice_get (f x) j
  get_block [] k j x e h = absurd (cc)
  get_block (y ∷ xs) zero j x e h =
      let same : y ≡ x = cc in
      let at : zero * n + j ≡ j = omega arith in
      ap (slice_get (f y ++ flat_map f xs)) at
      ∙ get_left (f y) (flat_map f xs) j (omega (arith, each y))
      ∙ ap (λ z. slice_get (f z) j) same
  get_block (y ∷ xs) (suc k) j x e h =
      let times : suc k * n ≡ n + k * n = grind arith in
      let at : suc k * n + j ≡ length (f y) + (k * n + j) = omega (arith, each y, times) in
      ap (slice_get (f y ++ flat_map f xs)) at
      ∙ get_right (f y) (flat_map f xs) (k * n + j)
      ∙ get_block xs k j x e h

-- the tuples that begin so
abbrev pub beginning : {A : Type 0} → List (List A) → A → List (List A)
beginning rest x = map (λ ys. x ∷ ys) rest

pub length_tuples : {A : Type 0} (xs : List A) (rest : List (List A)) → length (tuples (xs ∷ rest)) ≡ length xs * length (tuples rest)
length_tuples xs rest = length_blocks (beginning (tuples rest)) (length (tuples rest)) (λ x. length-map (tuples rest) (λ ys. x ∷ ys)) xs

pub length_powers : {A : Type 0} (n : ℕ) (xs : List A) → length (tuples (replicate n xs)) ≡ length xs ^ n
length_powers zero xs = sym (pow-zero (length xs))
length_powers (suc n) xs =
    let e : length xs ^ suc n ≡ length xs * length xs ^ n = pow-suc (length xs) n ∙ mul_comm (length xs ^ n) (length xs) in
    length_tuples xs (replicate n xs) ∙ ap (λ m. length xs * m) (length_powers n xs) ∙ sym e

-- a place of the tuples: that of the first element, and that of the others
pub get_tuple : {A : Type 0} (xs : List A) (rest : List (List A)) (k j : ℕ) (x : A) → slice_get xs k ≡ Some x → j < length (tuples rest) → slice_get (tuples (xs ∷ rest)) (k * length (tuples rest) + j) ≡ option_map (λ ys. x ∷ ys) (slice_get (tuples rest) j)
get_tuple xs rest k j x e h =
    get_block (beginning (tuples rest)) (length (tuples rest)) (λ y. length-map (tuples rest) (λ ys. y ∷ ys)) xs k j x e h
    ∙ slice_get-map (λ ys. x ∷ ys) (tuples rest) j

-- the tuple at the place i of all is the elements that are found and then that at the place j of
-- the others, of which there are fewer than m
pub record Leads {A : Type 0} (m : ℕ) (all : List (List A)) (i : ℕ) (found : List A) (others : List (List A)) (j : ℕ) : Type 0 where
  pub at : slice_get all i ≡ option_map (λ ys. found ++ ys) (slice_get others j)
  pub within : j < length others
  pub few : length others < m

unchanged : {A : Type 0} (o : Option (List A)) → o ≡ option_map (λ ys. [] ++ ys) o
unchanged None = refl
unchanged (Some ys) = refl

pub leads_first : {A : Type 0} (m : ℕ) (all : List (List A)) (i : ℕ) → i < length all → length all < m → Leads m all i [] all i
leads_first m all i h few = record { at = unchanged (slice_get all i); within = h; few = few }

one_more : {A : Type 0} (found : List A) (x : A) (o : Option (List A)) → option_map (λ ys. found ++ ys) (option_map (λ ys. x ∷ ys) o) ≡ option_map (λ ys. (found ++ x ∷ []) ++ ys) o
one_more found x None = refl
one_more found x (Some ys) = ap Some (sym (append_assoc found (x ∷ []) ys))

factor_within : (a n j : ℕ) → j < a * n → n ≤ a * n
factor_within zero n j h = absurd (omega arith)
factor_within (suc b) n j h = let more : suc b * n ≡ n + b * n = grind arith in omega (arith, more)

pub leads_next : {A : Type 0} (m : ℕ) (all : List (List A)) (i : ℕ) (found xs : List A) (rest : List (List A)) (j k next : ℕ) (x : A) → Leads m all i found (tuples (xs ∷ rest)) j → slice_get xs k ≡ Some x → next < length (tuples rest) → j ≡ k * length (tuples rest) + next → Leads m all i (found ++ x ∷ []) (tuples rest) next
leads_next m all i found xs rest j k next x h e l place =
    let product : length (tuples (xs ∷ rest)) ≡ length xs * length (tuples rest) = length_tuples xs rest in
    let fewer = factor_within (length xs) (length (tuples rest)) j (subst (λ n. j < n) product h.within) in
    record {
      at = h.at ∙ ap (λ o. option_map (λ ys. found ++ ys) o) (ap (slice_get (tuples (xs ∷ rest))) place ∙ get_tuple xs rest k next x e l) ∙ one_more found x (slice_get (tuples rest) next);
      within = l;
      few = omega (arith, fewer, product, h.few);
    }

pub leads_last : {A : Type 0} (m : ℕ) (all : List (List A)) (i : ℕ) (found : List A) (j : ℕ) → Leads m all i found ([] ∷ []) j → slice_get all i ≡ Some found
leads_last m all i found zero h = h.at ∙ ap Some (append-nil found)
leads_last m all i found (suc j) h = absurd (omega (arith, h.within))

-- A place j among a blocks of n: its block, and its place there. The size is n, which the limit m
-- doesn't cut.
pub record Splits (m a n j size : ℕ) : Type 0 where
  pub some : 0 < size
  pub block : j / size < a
  pub rest : j % size < n
  pub place : j ≡ (j / size) * n + j % size
  pub few : a < m

pub splits : (m a n j size : ℕ) → j < a * n → a * n < m → size ≡ min n m → Splits m a n j size
splits m a zero j size h few e = absurd (omega arith)
splits m a (suc n) j size h few e =
    let fewer : suc n ≤ a * suc n = factor_within a (suc n) j h in
    let blocks : a ≤ a * suc n = (let more : a * suc n ≡ a + a * n = grind arith in omega (arith, more)) in
    let is : suc n ≡ size = omega arith in
    subst (λ k. Splits m a (suc n) j k) is
    (record {
      some = omega arith;
      block = (div-lt_iff_lt-mul {k = suc n} {x = j} {y = a} (omega arith)).1 h;
      rest = omega arith;
      place = sym (div-add-mod' j (suc n));
      few = omega arith;
    })
