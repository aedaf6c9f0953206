-- How many lists and inputs there are, counted up to a limit.
use Rattle.std.proofs.Common.{◌≡◌, ℕ, zero, suc, ◌+◌, ◌-◌, ◌*◌, ◌^◌, ◌<◌, ◌≤◌, min, inl, inr, List, [], ◌∷◌, ◌++◌, map, length, replicate, drop, get_or, ℤ, pos, ◌+ℤ◌, refl, sym, ap, ◌∙◌, subst, arith, length-append, add-one}
use Rattle.std.specs.List.{flat_map}
use Rattle.std.proofs.Math.Nat.{pow-suc}
use Rattle.std.proofs.lemmas.Bool.{cases_lt}
use Rattle.std.proofs.lemmas.List.{append-nil, drop_more, length-map}
use Rattle.std.proofs.lemmas.List.Concat.{flat_map-append}
use Rattle.mpy_tree.specs.Operations.{below}
use Rattle.mpy_tree.specs.declared.value.Value.TheVariants as value
use Rattle.bounds_reader.specs.declared.params.Param.{Param}
use Rattle.bounds_reader.specs.declared.params.Param.TheVariants as param
use Rattle.input_space.specs.Counts.{lists_count}
use Rattle.input_space.specs.Inputs.{inputs, lists_over, numbers, span, tuples, values_of}
use Rattle.input_space.proofs.Blocks.{length_powers, length_tuples}

pub length_below : (n : ℕ) → length (below n) ≡ n
length_below zero = refl
length_below (suc n) = length-append (below n) (n ∷ []) ∙ omega (arith, length_below n)

pub length_numbers : (low high : ℤ) → length (numbers low high) ≡ span low high
length_numbers low high = length-map (below (span low high)) (λ k. low +ℤ pos k) ∙ length_below (span low high)

-- the lists of a length that is counted from the least
abbrev pub of_length : {A : Type 0} → List A → ℕ → ℕ → List (List A)
of_length xs least k = tuples (replicate (least + k) xs)

pub one_length_more : {A : Type 0} (xs : List A) (least n : ℕ) → flat_map (of_length xs least) (below (suc n)) ≡ flat_map (of_length xs least) (below n) ++ of_length xs least n
one_length_more xs least n =
    flat_map-append (of_length xs least) (below n) (n ∷ [])
    ∙ ap (λ zs. flat_map (of_length xs least) (below n) ++ zs) (append-nil (of_length xs least n))

pub length_lists_below : {A : Type 0} (xs : List A) (least n : ℕ) → length (flat_map (of_length xs least) (below n)) ≡ lists_count (length xs) least n
length_lists_below xs least zero = refl
length_lists_below xs least (suc n) =
    ap length (one_length_more xs least n)
    ∙ length-append (flat_map (of_length xs least) (below n)) (of_length xs least n)
    ∙ omega (arith, length_lists_below xs least n, length_powers (least + n) xs)

pub length_lists : {A : Type 0} (least most : ℕ) (xs : List A) → length (lists_over least most xs) ≡ lists_count (length xs) least (suc most - least)
length_lists least most xs = length_lists_below xs least (suc most - least)

-- the lists of one length are some of those that are counted
pub count_within : (base least k n : ℕ) → k < n → lists_count base least k + base ^ (least + k) ≤ lists_count base least n
count_within base least k zero h = absurd (omega arith)
count_within base least k (suc n) h =
    elim (cases_lt k n) [
      | inl a ↦ let b : lists_count base least k + base ^ (least + k) ≤ lists_count base least n = count_within base least k n a in omega arith
      | inr b ↦ let e : k ≡ n = omega arith in subst (λ j. lists_count base least j + base ^ (least + j) ≤ lists_count base least n + base ^ (least + n)) (sym e) (omega arith)
    ]

-- counts that stop at the limit m

pub capped_product : (m x b : ℕ) → min (min x m * b) m ≡ min (x * b) m
capped_product m x zero = omega arith
capped_product m x (suc b) =
    elim (cases_lt m x) [
      | inl a ↦
          let l : min x m ≡ m = omega arith in
          let one : m * suc b ≡ m + m * b = grind arith in
          let two : x * suc b ≡ x + x * b = grind arith in
          rw l (omega (arith, one, two))
      | inr a ↦ let e : min x m ≡ x = omega arith in rw e refl
    ]

pub power_more : (m base turn : ℕ) → min (min (base ^ turn) m * base) m ≡ min (base ^ (turn + 1)) m
power_more m base turn =
    let e : base ^ (turn + 1) ≡ base ^ turn * base = rw add-one (pow-suc base turn) in
    rw e (capped_product m (base ^ turn) base)

pub lists_more : (m base least k : ℕ) → min (min (lists_count base least k) m + min (base ^ (least + k)) m) m ≡ min (lists_count base least (k + 1)) m
lists_more m base least k = rw add-one (omega arith)

-- one parameter more
pub values_more : (m count : ℕ) (p : Param) (ps : List Param) → min (min (count * min (length (values_of p)) m) m * length (inputs ps)) m ≡ min (count * length (inputs (p ∷ ps))) m
values_more m count p ps =
    let n = length (values_of p) in
    let r = length (inputs ps) in
    let all : length (inputs (p ∷ ps)) ≡ n * r = length_tuples (values_of p) (map values_of ps) in
    let one : (count * min n m) * r ≡ min n m * (count * r) = grind arith in
    let two : n * (count * r) ≡ count * (n * r) = grind arith in
    capped_product m (count * min n m) r
    ∙ ap (λ k. min k m) one
    ∙ capped_product m n (count * r)
    ∙ ap (λ k. min k m) two
    ∙ ap (λ k. min (count * k) m) (sym all)

-- how many values a parameter may have
module _ (p : Param) where
  pub length_int : (low high : ℤ) → p ≡ param.Int low high → length (values_of p) ≡ span low high
  length_int low high e = rw e (length-map (numbers low high) value.Int ∙ length_numbers low high)

  pub length_list : (least most : ℕ) (low high : ℤ) (size : ℕ) → p ≡ param.List least most low high → size ≡ span low high → length (values_of p) ≡ lists_count size least (suc most - least)
  length_list least most low high size e h =
      let xs = numbers low high in
      let s : length xs ≡ size = length_numbers low high ∙ sym h in
      rw e
      (length-map (lists_over least most xs) value.List
      ∙ length_lists least most xs
      ∙ ap (λ k. lists_count k least (suc most - least)) s)

  pub length_text : (least most : ℕ) (alphabet : List ℕ) (size : ℕ) → p ≡ param.Text least most alphabet → size ≡ length alphabet → length (values_of p) ≡ lists_count size least (suc most - least)
  length_text least most alphabet size e h =
      rw e
      (length-map (lists_over least most alphabet) value.Text
      ∙ length_lists least most alphabet
      ∙ ap (λ k. lists_count k least (suc most - least)) (sym h))

-- the parameter at the place i is counted
pub counted_next : (m count i n next total : ℕ) (ps : List Param) (p : Param) → i < length ps → p ≡ get_or ps i p → n ≡ min (length (values_of p)) m → next ≡ min (count * n) m → min (count * length (inputs (drop i ps))) m ≡ total → min (next * length (inputs (drop (i + 1) ps))) m ≡ total
counted_next m count i n next total ps p h at e f g =
    let here : drop i ps ≡ p ∷ drop (i + 1) ps = drop_more ps i p h ∙ ap (λ q. q ∷ drop (i + 1) ps) (sym at) in
    rw (f, e) (values_more m count p (drop (i + 1) ps) ∙ rw here at g)
