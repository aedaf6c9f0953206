-- Counters, bit by bit.
use Rattle.std.proofs.Common.{◌≡◌, ◌∙◌, ℕ, zero, suc, ◌+◌, ◌-◌, ◌<◌, ◌≤◌, min, Bool, true, false}
use Rattle.std.proofs.Common.{◌||◌, ◌&&◌, List, [], ◌∷◌, ◌++◌, length, map, replicate}
use Rattle.std.proofs.Common.{length-append, get_or, slice_get, Some, leb, ltb, ◌⊎◌, inl, inr}
use Rattle.std.proofs.Common.{refl, sym, ap, arith}
use Rattle.std.proofs.Math.Nat.{min-le_right}
use Rattle.std.proofs.Math.Seq.{get_or-append_seam}
use Rattle.std.proofs.lemmas.Bool.Decides.{nat_tests}
use Rattle.std.proofs.lemmas.List.{append-nil, append_assoc, get_or_append_left, length-map}
use Rattle.std.proofs.lemmas.List.{replicate-append-replicate}
use Rattle.std.proofs.lemmas.Option.{slice_get_within}
use Rattle.bit_words.proofs.Kept.{value_read}
use Rattle.sym_cost.specs.Notations.{Counts, counter}

pub length_counter : (bound n : ℕ) → length (counter bound n) ≡ bound
length_counter zero n = refl
length_counter (suc bound) n = let e = length_counter bound n in simp (length-append) (omega
    (arith, e))

below_or_last : (j bound : ℕ) → j < suc bound → (j < bound) ⊎ (j ≡ bound)
below_or_last zero zero h = inr refl
below_or_last zero (suc bound) h = inl (omega arith)
below_or_last (suc j) zero h = absurd (omega arith)
below_or_last (suc j) (suc bound) h = elim (below_or_last j bound (omega arith)) [
  | inl k ↦ inl (omega (arith, k))
  | inr e ↦ inr (ap suc e)
]

bit_of : (bound n j : ℕ) → j < bound → get_or (counter bound n) j false ≡ ltb j n
bit_of zero n j h = absurd (omega arith)
bit_of (suc bound) n j h = elim (below_or_last j bound h) [
  | inl k ↦ get_or_append_left (counter bound n) (ltb bound n ∷ []) false j (omega (
    arith,
    length_counter bound n,
    k,
  )) ∙ bit_of bound n j k
  | inr e ↦ ap (λ k. get_or (counter (suc bound) n) k false) (e ∙ sym (length_counter bound n))
      ∙ get_or-append_seam (counter bound n) (ltb bound n) [] false ∙ ap (λ k. ltb k n) (sym e)
]

-- the bit at a place
pub counted : {B : Type 0} (rd : B → Bool) (w : List B) (bound n j : ℕ) (b : B)
    → Counts bound (map rd w) n → slice_get w j ≡ Some b → rd b ≡ ltb j n
counted rd w bound n j b h e =
    let within = slice_get_within w j b e in
    let long = length-map w rd in
    sym (value_read rd w j b e) ∙ ap (λ (v : List Bool). get_or v j false) h.0
    ∙ bit_of (length (map rd w)) n j (omega (arith, within, long))

-- a number is at least one that isn't 0
pub counted_above : {B : Type 0} (rd : B → Bool) (w : List B) (bound n number : ℕ) (b : B)
    → 0 < number → Counts bound (map rd w) n → slice_get w (number - 1) ≡ Some b
    → rd b ≡ leb number n
counted_above rd w bound n zero b some h e = absurd (omega arith)
counted_above rd w bound n (suc k) b some h e =
    let place : suc k - 1 ≡ k = omega arith in counted rd w bound n k b h (rw place at e)

not_reached : (number n : ℕ) → n < number → leb number n ≡ false
not_reached number n h = grind (arith, nat_tests)

-- a number is at most as many as its bits, where these are fewer than the bound
pub above_all : {B : Type 0} (rd : B → Bool) (w : List B) (bound n number : ℕ) → number ≤ bound
    → Counts bound (map rd w) n → length w < number → false ≡ leb number n
above_all rd w bound n number h k more =
    let long = length-map w rd in
    let few = k.1 in
    sym (not_reached number n (omega (arith, long, few)))

or_none : (b : Bool) → b || false ≡ b
or_none true = refl
or_none false = refl

one_more : (number n i : ℕ) → i < number
    → (leb number (n + i) || leb (number - 1 - i) n) ≡ leb number (n + (i + 1))
one_more number n i h = grind (arith, nat_tests)

-- a sum is reached with so much of its first number at most
pub reach_step : (number m n i : ℕ) → i < number
    → (leb number (n + min m i) || (ltb i m && leb (number - 1 - i) n))
    ≡ leb number (n + min m (i + 1))
reach_step number m n i h = by (ltb i m) refl
  where
    by : (b : Bool) → ltb i m ≡ b → (leb number (n + min m i) || (b && leb (number - 1 - i) n)) ≡
        leb number (n + min m (i + 1))
    by true e =
        let above : i < m = grind (arith, nat_tests) in
        let now : min m i ≡ i = omega arith in
        let next : min m (i + 1) ≡ i + 1 = omega arith in
        rw (now, next) (one_more number n i h)
    by false e =
        let within : m ≤ i = grind (arith, nat_tests) in
        let now : min m i ≡ m = omega arith in
        let next : min m (i + 1) ≡ m = omega arith in
        rw (now, next) (or_none (leb number (n + m)))

-- before it come numbers that are too small
pub reach_first : {B : Type 0} (rd : B → Bool) (w : List B) (bound number m n i : ℕ)
    → number ≤ bound → Counts bound (map rd w) n → i ≡ number - length w - 1
    → leb number n ≡ leb number (n + min m i)
reach_first rd w bound number m n zero h k e = ap (leb number) (omega arith)
reach_first rd w bound number m n (suc i) h k e =
    let long = length-map w rd in
    let few = k.1 in
    let least : min m (suc i) ≤ suc i = min-le_right m (suc i) in
    let small : n ≤ length w = omega (arith, long, few, e) in
    not_reached number n (omega (arith, small, e))
    ∙ sym (not_reached number (n + min m (suc i)) (omega (arith, small, least, e)))

pub reach_end : {B : Type 0} (rd : B → Bool) (w : List B) (bound number m n i : ℕ)
    → number ≤ bound → Counts bound (map rd w) m → min number (length w) ≤ i
    → leb number (n + min m i) ≡ leb number (m + n)
reach_end rd w bound number m n i within k e = by (ltb i m) refl
  where
    long : length (map rd w) ≡ length w
    long = length-map w rd

    by : (b : Bool) → ltb i m ≡ b → leb number (n + min m i) ≡ leb number (m + n)
    by true h =
        let above : i < m = grind (arith, nat_tests) in
        let few = k.1 in
        let least : min m i ≡ i = omega (arith, above) in
        let enough : number ≤ i = omega (arith, above, few, long, e) in
        rw least (grind (arith, nat_tests))
    by false h =
        let small : m ≤ i = grind (arith, nat_tests) in
        ap (leb number) (omega (arith, small))

-- a counter that is raised
pub raised_below : (i first n : ℕ) → i < first → true ≡ ltb i (first + n)
raised_below i first n h = grind (arith, nat_tests)

pub raised_above : (i first n : ℕ) → first ≤ i → ltb (i - first) n ≡ ltb i (first + n)
raised_above i first n h = grind (arith, nat_tests)

-- one bit more
pub counter_more : (i n : ℕ) → counter i n ++ ltb i n ∷ [] ≡ counter (i + 1) n
counter_more i n = let e : suc i ≡ i + 1 = omega arith in ap (λ k. counter k n) e

pub above_more : (i n : ℕ) → leb (i + 1) n ≡ ltb i n
above_more i n = let e : i + 1 ≡ suc i = omega arith in ap (λ k. leb k n) e

-- false bits behind a counter whose number isn't above them
pub filled_counter : (len more n : ℕ) → min (len + more) n ≤ len
    → counter len n ++ replicate more false ≡ counter (len + more) n
filled_counter len zero n h =
    let whole : len ≡ len + zero = omega arith in
    append-nil (counter len n) ∙ ap (λ k. counter k n) whole
filled_counter len (suc more) n h =
    let next : suc more ≡ more + 1 = omega arith in
    let few : n ≤ len = omega (arith, h) in
    let whole : suc (len + more) ≡ len + suc more = omega arith in
    let last : false ≡ ltb (len + more) n = grind (arith, nat_tests) in
    ap (λ k. counter len n ++ replicate k false)
    next
    ∙ ap (λ v. counter len n ++ v) (sym (replicate-append-replicate more 1 false))
    ∙ sym (append_assoc (counter len n) (replicate more false) (false ∷ []))
    ∙ ap (λ v. v ++ false ∷ []) (filled_counter len more n (omega (arith, few)))
    ∙ ap (λ d. counter (len + more) n ++ d ∷ []) last ∙ ap (λ k. counter k n) whole

-- up to the bound
pub whole_counter : {B : Type 0} (rd : B → Bool) (w : List B) (bound n : ℕ) → length w ≤ bound
    → Counts bound (map rd w) n
    → map rd w ++ replicate (bound - length w) false ≡ counter bound n
whole_counter rd w bound n h k =
    let more = bound - length w in
    let long = length-map w rd in
    let few = k.1 in
    let whole : length w + more ≡ bound = omega (arith, h) in
    ap (λ v. v ++ replicate more false) (k.0 ∙ ap (λ j. counter j n) long)
    ∙ filled_counter (length w) more n (omega (arith, long, few, whole))
    ∙ ap (λ j. counter j n) whole
