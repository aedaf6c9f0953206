-- Weights that stop, and the work of all runs.
use Rattle.std.proofs.Common.{◌≡◌, ◌↔◌, ◌∙◌, ℕ, ◌+◌, ◌*◌, ◌<◌, ◌≤◌, Bool, true, false, ◌||◌, List, [], ◌∷◌, ◌++◌, sym, ap, subst, arith, refl, inl, inr, min, max, length, length-append, get_or, map, take, zero, suc, IsTrue}
use Rattle.std.proofs.lemmas.List.{length-map, take_all}
use Rattle.std.proofs.lemmas.Bool.{cases_lt}
use Rattle.std.specs.Prelude.{nat_lt, sum_by}
use Rattle.std.specs.List.{list_any}
use Rattle.std.proofs.lemmas.Bool.{true≢false}
use Rattle.std.proofs.lemmas.List.Folds.{list_any-append}
use Rattle.std.proofs.lemmas.List.Sums.{sum_by-cons, sum_by_push}
use Rattle.bounds_reader.specs.declared.bounds.Bounds.{Bounds}
use Rattle.task_read.specs.Sources.{Typed}
use Rattle.pick_command.specs.Weights.{AreTooLarge, is_heavy, runs, weight_of}

-- a weight that stops
abbrev pub stopped : Bounds → Typed → ℕ
stopped b p = min (weight_of b p) 1000001

-- whether some are too heavy, and the sum of all, where each weight stops
pub record AreWeighed (b : Bounds) (ps : List Typed) (heaviest sum : ℕ) : Type 0 where
  pub heavy : nat_lt 1000000 heaviest ≡ list_any (is_heavy b) ps
  pub sum_is : sum ≡ sum_by (stopped b) ps
  pub few : sum ≤ length ps * 1000001

stops_above : (n : ℕ) → nat_lt 1000000 (min n 1000001) ≡ nat_lt 1000000 n
stops_above n = grind arith

either_above : (m n : ℕ) → nat_lt 1000000 (max m n) ≡ (nat_lt 1000000 m || nat_lt 1000000 n)
either_above m n = grind arith

or_none : (t : Bool) → (t || false) ≡ t
or_none true = refl
or_none false = refl

pub one_weighed : (b : Bounds) (r : Typed) (n : ℕ) → n ≡ stopped b r → AreWeighed b (r ∷ []) n n
one_weighed b r n is = record {
  heavy = ap (nat_lt 1000000) is ∙ stops_above (weight_of b r) ∙ sym (or_none (is_heavy b r));
  sum_is = is ∙ sum_one;
  few = omega (arith, is);
}
  where
    sum_one : stopped b r ≡ sum_by (stopped b) (r ∷ [])
    sum_one = let e = sum_by-cons (stopped b) r [] in omega (arith, e)

one_more : (b : Bounds) (ps : List Typed) (heaviest sum : ℕ) (p : Typed) (n most all : ℕ)
    → AreWeighed b ps heaviest sum → n ≡ stopped b p → most ≡ max heaviest n → all ≡ sum + n
    → AreWeighed b (ps ++ p ∷ []) most all
one_more b ps heaviest sum p n most all h is max_is all_is = record {
  heavy = ap (nat_lt 1000000) max_is ∙ either_above heaviest n
      ∙ ap (λ t. t || nat_lt 1000000 n) h.heavy
      ∙ ap (λ t. list_any (is_heavy b) ps || t) (ap (nat_lt 1000000) is ∙ stops_above (weight_of b p)
      ∙ sym (or_none (is_heavy b p)))
      ∙ sym (list_any-append (is_heavy b) ps (p ∷ []));
  sum_is = all_is ∙ ap (λ z. z + n) h.sum_is ∙ ap (λ z. sum_by (stopped b) ps + z) is
      ∙ sym (sum_by_push (stopped b) ps p);
  few = (let long : length (ps ++ p ∷ []) ≡ length ps + 1 = length-append ps (p ∷ []) in
      let less = h.few in
      omega (arith, long, less, is, all_is));
}

-- the programs up to one more
taken_more : {X Y : Type 0} (f : X → Y) (xs : List X) (i : ℕ) (x : X) → i < length xs
    → x ≡ get_or xs i x → take (i + 1) (map f xs) ≡ take i (map f xs) ++ f x ∷ []
taken_more f [] i x below is = absurd (omega arith)
taken_more f (y ∷ xs) zero x below is = ap (λ z. f z ∷ []) (sym is)
taken_more f (y ∷ xs) (suc i) x below is =
    let rest = taken_more f xs i x (omega arith) is in
    let next : suc i + 1 ≡ suc (i + 1) = omega arith in
    ap (λ n. take n (f y ∷ map f xs)) next ∙ ap (λ zs. f y ∷ zs) rest

pub more_weighed : {X : Type 0} (f : X → Typed) (b : Bounds) (r : Typed) (xs : List X) (i : ℕ)
    (x : X) (heaviest sum n most all : ℕ) → i < length xs → x ≡ get_or xs i x
    → AreWeighed b (r ∷ take i (map f xs)) heaviest sum → n ≡ stopped b (f x)
    → most ≡ max heaviest n → all ≡ sum + n → AreWeighed b (r ∷ take (i + 1) (map f xs)) most all
more_weighed f b r xs i x heaviest sum n most all below at h is max_is all_is =
    subst (λ ps. AreWeighed b (r ∷ ps) most all) (sym (taken_more f xs i x below at))
    (one_more b (r ∷ take i (map f xs)) heaviest sum (f x) n most all h is max_is all_is)

pub all_weighed : {X : Type 0} (f : X → Typed) (b : Bounds) (r : Typed) (xs : List X) (i : ℕ)
    (heaviest sum : ℕ) → length xs ≤ i → AreWeighed b (r ∷ take i (map f xs)) heaviest sum
    → AreWeighed b (r ∷ map f xs) heaviest sum
all_weighed f b r xs i heaviest sum past h =
    let many = length-map xs f in
    subst (λ ps. AreWeighed b (r ∷ ps) heaviest sum) (take_all i (map f xs) (omega (arith, many, past))) h

or_false : (a b : Bool) → (a || b) ≡ false → (a ≡ false) × (b ≡ false)
or_false true b e = absurd (true≢false e)
or_false false b e = (refl, e)

light : (n : ℕ) → nat_lt 1000000 n ≡ false → min n 1000001 ≡ n
light n e = grind (arith, e)

-- where none stopped, the sum is that of the weights
sums_are : (b : Bounds) (ps : List Typed) → list_any (is_heavy b) ps ≡ false
    → sum_by (stopped b) ps ≡ sum_by (weight_of b) ps
sums_are b [] e = refl
sums_are b (p ∷ ps) e =
    let parts = or_false (is_heavy b p) (list_any (is_heavy b) ps) e in
    let head = light (weight_of b p) parts.0 in
    let tail = sums_are b ps parts.1 in
    sum_by-cons (stopped b) p ps ∙ (λ i. head i + tail i) ∙ sym (sum_by-cons (weight_of b) p ps)

above : (m n : ℕ) → m < n → nat_lt m n ≡ true
above m n h = grind (arith, h)

not_above : (m n : ℕ) → n ≤ m → nat_lt m n ≡ false
not_above m n h = grind (arith, h)

below_it : (m n : ℕ) → nat_lt m n ≡ true → m < n
below_it m n h = elim (cases_lt m n) [
  | inl less ↦ less
  | inr more ↦ absurd (true≢false (sym h ∙ not_above m n more))
]

-- what the tests say
module _ (b : Bounds) (ps : List Typed) (heaviest sum : ℕ) (h : AreWeighed b ps heaviest sum) where
  pub large_by_one : 1000000 < heaviest → AreTooLarge b ps
  large_by_one above_it = inl (sym h.heavy ∙ above 1000000 heaviest above_it)

  pub large_by_all : heaviest ≤ 1000000 → 500000000 < sum * runs b → AreTooLarge b ps
  large_by_all below_it work =
      let none = sym h.heavy ∙ not_above 1000000 heaviest below_it in
      inr (subst (λ n. 500000000 < n * runs b) (h.sum_is ∙ sums_are b ps none) work)

  pub not_large : heaviest ≤ 1000000 → sum * runs b ≤ 500000000 → AreTooLarge b ps → ⊥
  not_large below_it work large =
      let none = sym h.heavy ∙ not_above 1000000 heaviest below_it in
      elim large [
        | inl one ↦ true≢false (sym one ∙ none)
        | inr all ↦
            let same : sum * runs b ≡ sum_by (weight_of b) ps * runs b =
            ap (λ n. n * runs b) (h.sum_is ∙ sums_are b ps none) in
            omega (arith, same, all, work)
      ]

  -- what the last test says, where no program is too heavy by itself
  pub large_exactly : (work : ℕ) → heaviest ≤ 1000000 → work ≡ sum * runs b
      → IsTrue (nat_lt 500000000 work) ↔ AreTooLarge b ps
  large_exactly work light_all is = (
    λ more. large_by_all light_all (subst (λ n. 500000000 < n) is (below_it 500000000 work more)),
    λ large. elim (cases_lt 500000000 work) [
      | inl more ↦ above 500000000 work more
      | inr less ↦ absurd (not_large light_all (subst (λ n. n ≤ 500000000) is less) large)
    ],
  )
