-- Selections and the digits of numbers.
use Rattle.std.proofs.Common.{◌≡◌, ℕ, zero, suc, ◌+◌, ◌*◌, ◌/◌, ◌%◌, ◌<◌, ◌≤◌, Bool, true, false}
use Rattle.std.proofs.Common.{◌||◌, ◌&&◌, List, [], ◌∷◌, ◌++◌, refl, sym, ap, ◌∙◌, arith}
use Rattle.std.proofs.Common.{map, append_assoc, subst}
use Rattle.std.specs.Prelude.{◌==◌, nat_lt}
use Rattle.std.proofs.lemmas.Bool.Decides.{nat_tests}
use Rattle.std.proofs.Math.Nat.{mod-lt, mod-eq_of_lt, add-mul-mod_self_left}
use Rattle.std.proofs.Math.Nat.{add-mul-div_left, div-add-mod, div-eq_of_lt, lt_of_mul-lt-mul_left}
use Rattle.std.proofs.Math.Nat.{mul-div-le, mul-le-mul_left, mul-suc}
use Rattle.choice_tree.specs.declared.selection.Choice.{Choice}
use Rattle.choice_tree.specs.Choices.{Rises, NamesBy}
use Rattle.selection_numbers.specs.Numbers.{and_member, selection_from}

-- the product of the numbers of members
abbrev pub product : List ℕ → ℕ
product [] = 1
product (n ∷ ns) = n * product ns

-- each pick has a member
abbrev pub AllSome : List ℕ → Type 0
AllSome [] = Unit {0}
AllSome (n ∷ ns) = (1 ≤ n) × AllSome ns

-- of picks from one on that have so many members: a pick with a member
abbrev pub has_digit : List ℕ → ℕ → ℕ → ℕ → Bool
has_digit [] from p i = false
has_digit (n ∷ ns) from p i = (from == p) && nat_lt i n || has_digit ns (suc from) p i

rises_earlier : (s : List Choice) (from : ℕ) → Rises (suc from) s → Rises from s
rises_earlier [] from r = tt
rises_earlier (x ∷ xs) from r = let first = r.0 in (omega arith, r.1)

or_right : (a b : Bool) → b ≡ true → a || b ≡ true
or_right true b h = refl
or_right false b h = h

named_later : (n : ℕ) (ns : List ℕ) (from : ℕ) (s : List Choice)
    → NamesBy (has_digit ns (suc from)) s → NamesBy (has_digit (n ∷ ns) from) s
named_later n ns from [] h = tt
named_later n ns from (x ∷ xs) h = (
  h.0,
  or_right ((from == x.pick) && nat_lt x.member n) (has_digit ns (suc from) x.pick x.member) h.1,
  named_later n ns from xs h.2,
)

first_named : (n : ℕ) (ns : List ℕ) (from i : ℕ) → i < n
    → has_digit (n ∷ ns) from from i ≡ true
first_named n ns from i h = grind (arith, nat_tests)

pub digits_rise : (ns : List ℕ) (from j : ℕ) → Rises from (selection_from from ns j)
digits_rise [] from j = tt
digits_rise (n ∷ ns) from j = put (j % n) (digits_rise ns (suc from) (j / n))
  where
    put : (d : ℕ) → Rises (suc from) (selection_from (suc from) ns (j / n))
        → Rises from (and_member from d (selection_from (suc from) ns (j / n)))
    put zero r = rises_earlier (selection_from (suc from) ns (j / n)) from r
    put (suc d) r = (omega arith, r)

pub digits_named : (ns : List ℕ) (from j : ℕ) → AllSome ns
    → NamesBy (has_digit ns from) (selection_from from ns j)
digits_named [] from j some = tt
digits_named (n ∷ ns) from j some =
    put (j % n) (mod-lt j some.0) (digits_named ns (suc from) (j / n) some.1)
  where
    put : (d : ℕ) → d < n → NamesBy (has_digit ns (suc from)) (selection_from (suc from) ns (j / n))
        → NamesBy (has_digit (n ∷ ns) from)
        (and_member from d (selection_from (suc from) ns (j / n)))
    put zero h r = named_later n ns from (selection_from (suc from) ns (j / n)) r
    put (suc d) h r = (
      omega arith,
      first_named n ns from (suc d) h,
      named_later n ns from (selection_from (suc from) ns (j / n)) r,
    )

-- a pick below the first isn't named
none_before : (ns : List ℕ) (from p i : ℕ) → p < from → has_digit ns from p i ≡ false
none_before [] from p i h = refl
none_before (n ∷ ns) from p i h =
    let rest = none_before ns (suc from) p i (omega arith) in
    grind (arith, nat_tests, rest)

-- picks behind the first are named by the rest
named_rest : (n : ℕ) (ns : List ℕ) (from : ℕ) (s : List Choice) → Rises (suc from) s
    → NamesBy (has_digit (n ∷ ns) from) s → NamesBy (has_digit ns (suc from)) s
named_rest n ns from [] r h = tt
named_rest n ns from (x ∷ xs) r h =
    let past = r.0 in
    let here : has_digit ns (suc from) x.pick x.member ≡ true =
    let whole = h.1 in grind (arith, nat_tests, whole) in
    (h.0, here, named_rest n ns from xs (later x.pick xs past r.1) h.2)
  where
    later : (p : ℕ) (xs : List Choice) → suc from ≤ p → Rises (suc p) xs → Rises (suc from) xs
    later p [] h r = tt
    later p (y ∷ ys) h r = let first = r.0 in (omega arith, r.1)

-- the member of the first pick, if it is named
first_within : (n : ℕ) (ns : List ℕ) (from i : ℕ) → has_digit (n ∷ ns) from from i ≡ true → i < n
first_within n ns from i h =
    let rest = none_before ns (suc from) from i (omega arith) in
    grind (arith, nat_tests, rest, h)

-- a number whose digits are the selection's members
pub record HasDigits (ns : List ℕ) (from : ℕ) (s : List Choice) : Type 0 where
  pub number : ℕ
  pub below : number < product ns
  pub is : selection_from from ns number ≡ s

named_first : (from p i : ℕ) (xs : List Choice) → from ≡ p → 1 ≤ i
    → and_member from i xs ≡ record { pick = p; member = i } ∷ xs
named_first from p zero xs e h = absurd (omega arith)
named_first from p (suc i) xs e h = rw e refl

low_digit : (n d j : ℕ) → d < n → (d + n * j) % n ≡ d
low_digit n d j h = add-mul-mod_self_left d n j ∙ mod-eq_of_lt h

high_digit : (n d j : ℕ) → d < n → (d + n * j) / n ≡ j
high_digit n d j h =
    let some : 0 < n = omega arith in
    let none : 0 + j ≡ j = omega arith in
    add-mul-div_left d j some ∙ ap (λ k. k + j) (div-eq_of_lt h) ∙ none

within : (n d j p : ℕ) → d < n → j < p → d + n * j < n * p
within n d j p h k =
    let room : n * suc j ≤ n * p = mul-le-mul_left n k in
    let more : n * suc j ≡ n * j + n = mul-suc n j in
    omega (arith, room, more, h)

with_digit : (n : ℕ) (ns : List ℕ) (from d : ℕ) (s : List Choice) → d < n
    → HasDigits ns (suc from) s → HasDigits (n ∷ ns) from (and_member from d s)
with_digit n ns from d s h r =
    let low = low_digit n d r.number h in
    let high = high_digit n d r.number h in
    record {
      number = d + n * r.number;
      below = within n d r.number (product ns) h r.below;
      is =
          ap (λ i. and_member from i (selection_from (suc from) ns ((d + n * r.number) / n))) low
          ∙ ap (λ j. and_member from d (selection_from (suc from) ns j)) high
          ∙ ap (and_member from d) r.is;
    }

pub numbers_all : (ns : List ℕ) (from : ℕ) (s : List Choice) → AllSome ns → Rises from s
    → NamesBy (has_digit ns from) s → HasDigits ns from s
numbers_all [] from [] some r h = record { number = 0; below = omega arith; is = refl }
numbers_all [] from (x ∷ xs) some r h = let none = h.1 in cc
numbers_all (n ∷ ns) from [] some r h =
    with_digit n ns from 0 [] some.0 (numbers_all ns (suc from) [] some.1 tt tt)
numbers_all (n ∷ ns) from (x ∷ xs) some r h =
    by_test (from == x.pick) refl (λ s. numbers_all ns (suc from) s some.1)
  where
    by_test : (t : Bool) → (from == x.pick) ≡ t
        → ((s : List Choice) → Rises (suc from) s → NamesBy (has_digit ns (suc from)) s
        → HasDigits ns (suc from) s)
        → HasDigits (n ∷ ns) from (x ∷ xs)
    by_test true e others =
        let same : from ≡ x.pick = grind (arith, nat_tests, e) in
        let named : has_digit (n ∷ ns) from from x.member ≡ true =
        ap (λ p. has_digit (n ∷ ns) from p x.member) same ∙ h.1 in
        let digit = first_within n ns from x.member named in
        let rises : Rises (suc from) xs = rw same r.1 in
        let rest = others xs rises (named_rest n ns from xs rises h.2) in
        let whole = with_digit n ns from x.member xs digit rest in
        record {
          number = whole.number;
          below = whole.below;
          is = whole.is ∙ named_first from x.pick x.member xs same h.0;
        }
    by_test false e others =
        let first = r.0 in
        let past : suc from ≤ x.pick = grind (arith, nat_tests, e, first) in
        let rises : Rises (suc from) (x ∷ xs) = (past, r.1) in
        with_digit n ns from 0 (x ∷ xs) some.0
        (others (x ∷ xs) rises (named_rest n ns from (x ∷ xs) rises h))

-- picks behind the first don't name it, so what it has and they have are known of both
apart : (from d e : ℕ) (s t : List Choice) → Rises (suc from) s → Rises (suc from) t
    → and_member from d s ≡ and_member from e t → (d ≡ e) × (s ≡ t)
apart from zero zero s t r q h = (refl, h)
apart from zero (suc e) s t r q h =
    let first = (subst (Rises (suc from)) h r).0 in absurd (omega (arith, first))
apart from (suc d) zero s t r q h =
    let first = (subst (Rises (suc from)) (sym h) q).0 in absurd (omega (arith, first))
apart from (suc d) (suc e) s t r q h =
    let one : Choice = record { pick = from; member = suc d } in
    let other : Choice = record { pick = from; member = suc e } in
    let heads : one ≡ other = cc in
    let rests : s ≡ t = cc in
    let members : suc d ≡ suc e = ap (λ (c : Choice). c.member) heads in
    (omega (arith, members), rests)

-- a number below the product is that of its selection alone
pub one_number : (ns : List ℕ) (from i j : ℕ) → AllSome ns → i < product ns → j < product ns
    → selection_from from ns i ≡ selection_from from ns j → i ≡ j
one_number [] from i j some a b h = omega (arith, a, b)
one_number (n ∷ ns) from i j some a b h =
    let parts =
    apart from (i % n) (j % n) (selection_from (suc from) ns (i / n))
    (selection_from (suc from) ns (j / n)) (digits_rise ns (suc from) (i / n))
    (digits_rise ns (suc from) (j / n)) h in
    let low = parts.0 in
    let high = one_number ns (suc from) (i / n) (j / n) some.1 (below i a) (below j b) parts.1 in
    sym (div-add-mod i n) ∙ (λ k. n * high k + low k) ∙ div-add-mod j n
  where
    below : (k : ℕ) → k < n * product ns → k / n < product ns
    below k h =
        let most : n * (k / n) ≤ k = mul-div-le k n in
        lt_of_mul-lt-mul_left n (omega (arith, most, h))

-- one pick more, and the picks behind it
and_member_is : (p i : ℕ) (s : List Choice) → and_member p i s ≡ and_member p i [] ++ s
and_member_is p zero s = refl
and_member_is p (suc i) s = refl

pub one_digit : (all now new : List Choice) (ns : List ℕ) (p q n d r j : ℕ) → q ≡ suc p
    → new ≡ now ++ and_member p d [] → d ≡ j % suc n → r ≡ j / suc n
    → all ≡ now ++ selection_from p (map suc (n ∷ ns)) j
    → all ≡ new ++ selection_from q (map suc ns) r
one_digit all now new ns p q n d r j next put low high whole =
    let rest = selection_from (suc p) (map suc ns) (j / suc n) in
    rw (next, put, high, low)
    (whole
    ∙ ap (λ s. now ++ s) (and_member_is p (j % suc n) rest)
    ∙ sym (append_assoc now (and_member p (j % suc n) []) rest))
