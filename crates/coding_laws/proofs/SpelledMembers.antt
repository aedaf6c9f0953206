-- Truth values that spell the members of picks.
use Rattle.std.proofs.Common.{◌≡◌, ℕ, zero, suc, ◌+◌, ◌/◌, ◌%◌, ◌^◌, ◌<◌, ◌≤◌, ◌⊎◌, inl, inr}
use Rattle.std.proofs.Common.{◌==◌, Bool, true, false, List, [], ◌∷◌, ◌++◌, length, Option}
use Rattle.std.proofs.Common.{Some, None, refl, sym, ap, ◌∙◌, subst, arith}
use Rattle.std.proofs.Common.{append_assoc, length-append}
use Rattle.std.specs.Prelude.{filter, nat_lt, option_map, slice_index_or, if◌then◌else◌}
use Rattle.std.specs.List.{AllZip}
use Rattle.std.proofs.lemmas.Bool.{lt-ltb, ltb-false, ltb-true}
use Rattle.std.proofs.lemmas.Bool.Decides.{Decides-eqb}
use Rattle.std.proofs.lemmas.List.{get_or_at}
use Rattle.std.proofs.lemmas.List.Elements.{filter-append}
use Rattle.std.proofs.Math.Nat.{mod-lt}
use Rattle.mpy_tree.specs.Operations.{below}
use Rattle.mpy_tree.specs.Options.{◌>>=◌}
use Rattle.bit_words.specs.Later.{values_from}
use Rattle.bit_words.specs.Words.{nat_of}
use Rattle.bit_words.proofs.Naturals.{power_double}
use Rattle.choice_tree.specs.declared.selection.Choice.{Choice}
use Rattle.choice_tree.specs.Choices.{Rises, member_of}
use Rattle.choice_tree.proofs.Numbers.{member_before}
use Rattle.selection_numbers.specs.Live.{AreWithin}
use Rattle.selection_numbers.specs.Numbers.{and_member, selection_from}
use Rattle.selection_numbers.proofs.Digits.{AllSome, digits_rise}
use Rattle.input_space.specs.SelectionBits.{all_member_bits, member, member_bits, members_at}
use Rattle.coding_laws.proofs.Digits.{digits, length-digits, nat_digits}
use Rattle.coding_laws.proofs.Standing.{Stands, parts_stand, reads, rest_stands}

-- THE BITS OF A MEMBER ARE ENOUGH

few : (n : ℕ) → n < 2 ^ n
few zero = omega arith
few (suc n) =
    let double : 2 ^ suc n ≡ 2 ^ n + 2 ^ n = power_double n in
    let less : n < 2 ^ n = few n in
    omega arith

-- how many powers of two below the first ones are below a number
abbrev powers_below : ℕ → ℕ → ℕ
powers_below n k = length (filter (λ b. nat_lt (2 ^ b) n) (below k))

-- all of them are, or a power of their number isn't
one_more : (n k : ℕ) (b : Bool) → nat_lt (2 ^ k) n ≡ b
    → (powers_below n k ≡ k) ⊎ (n ≤ 2 ^ powers_below n k)
    → (powers_below n k + length (if b then k ∷ [] else []) ≡ suc k)
    ⊎ (n ≤ 2 ^ (powers_below n k + length (if b then k ∷ [] else [])))
one_more n k true e (inl h) = inl (omega arith)
one_more n k true e (inr h) =
    let c = powers_below n k in
    let double : 2 ^ suc c ≡ 2 ^ c + 2 ^ c = power_double c in
    let step : c + 1 ≡ suc c = omega arith in
    let within : n ≤ 2 ^ suc c = omega arith in
    inr (subst (λ j. n ≤ 2 ^ j) (sym step) within)
one_more n k false e (inl h) =
    let c = powers_below n k in
    let all : n ≤ 2 ^ k = ltb-false (2 ^ k) n e in
    let same : k ≡ c + 0 = omega arith in
    inr (subst (λ j. n ≤ 2 ^ j) same all)
one_more n k false e (inr h) =
    let c = powers_below n k in
    let same : c ≡ c + 0 = omega arith in
    inr (subst (λ j. n ≤ 2 ^ j) same h)

all_or_enough : (n k : ℕ) → (powers_below n k ≡ k) ⊎ (n ≤ 2 ^ powers_below n k)
all_or_enough n zero = inl refl
all_or_enough n (suc k) =
    let f : ℕ → Bool = λ b. nat_lt (2 ^ b) n in
    let step : powers_below n (suc k) ≡ powers_below n k + length (filter f (k ∷ [])) =
    ap length (filter-append f (below k) (k ∷ []))
    ∙ length-append (filter f (below k)) (filter f (k ∷ [])) in
    let more = one_more n k (f k) refl (all_or_enough n k) in
    subst (λ j. (j ≡ suc k) ⊎ (n ≤ 2 ^ j)) (sym step) more

enough : (n : ℕ) → n ≤ 2 ^ member_bits n
enough n = elim (all_or_enough n n) [
  | inl h ↦ let less = few n in subst (λ j. n ≤ 2 ^ j) (sym h) (omega (arith, less))
  | inr h ↦ h
]

-- MEMBERS OF PICKS

-- a member of each pick
abbrev pub AreMembersOf : List ℕ → List ℕ → Type 0
AreMembersOf ns is = AllZip (λ n i. i < n) ns is

-- the members of picks, from one on, are those that are chosen
pub are_within : (ns is before : List ℕ) → AreMembersOf ns is
    → AreWithin (λ p. slice_index_or (before ++ is) p 0) (length before) ns
are_within [] is before h = tt
are_within (n ∷ ns) [] before h = absurd h
are_within (n ∷ ns) (i ∷ is) before h =
    let all = before ++ (i ∷ is) in
    let front = before ++ i ∷ [] in
    let here : slice_index_or all (length before) 0 ≡ i =
    get_or_at before i is 0 (length before) refl in
    let whole : front ++ is ≡ all = append_assoc before (i ∷ []) is in
    let next : length before + 1 ≡ suc (length before) = omega arith in
    let long : length front ≡ suc (length before) = length-append before (i ∷ []) ∙ next in
    let rest : AreWithin (λ p. slice_index_or all p 0) (length front) ns =
    subst (λ js. AreWithin (λ p. slice_index_or js p 0) (length front) ns) whole
    (are_within ns is front h.1) in (
      subst (λ j. j < n) (sym here) h.0,
      subst (λ k. AreWithin (λ p. slice_index_or all p 0) k ns) long rest,
    )

-- the members with a number
abbrev pub members_of : List ℕ → ℕ → List ℕ
members_of [] j = []
members_of (n ∷ ns) j = (j % n) ∷ members_of ns (j / n)

pub are_members_of : (ns : List ℕ) (j : ℕ) → AllSome ns → AreMembersOf ns (members_of ns j)
are_members_of [] j h = tt
are_members_of (n ∷ ns) j h = (mod-lt j h.0, are_members_of ns (j / n) h.1)

-- the members of one pick and of those behind it
abbrev Names : ℕ → List ℕ → List Choice → Type 0
Names from is s = (i : ℕ) → member_of s (from + i) ≡ slice_index_or is i 0

one_named : (from d : ℕ) (is : List ℕ) (s : List Choice) → Rises (suc from) s
    → Names (suc from) is s → Names from (d ∷ is) (and_member from d s)
one_named from zero is s r h zero = member_before s (suc from) (from + 0) r (omega arith)
one_named from zero is s r h (suc k) =
    let e : from + suc k ≡ suc from + k = omega arith in ap (member_of s) e ∙ h k
one_named from (suc d) is s r h zero =
    let same : (from == from + 0) ≡ true = (Decides-eqb from (from + 0)).1 (omega arith) in
    ap (λ b. if b then suc d else member_of s (from + 0)) same
one_named from (suc d) is s r h (suc k) =
    let other : (from == from + suc k) ≡ false = grind arith in
    let e : from + suc k ≡ suc from + k = omega arith in
    ap (λ b. if b then suc d else member_of s (from + suc k)) other ∙ ap (member_of s) e ∙ h k

pub members_named : (ns : List ℕ) (from j : ℕ)
    → Names from (members_of ns j) (selection_from from ns j)
members_named [] from j = λ i. refl
members_named (n ∷ ns) from j =
    one_named from (j % n) (members_of ns (j / n)) (selection_from (suc from) ns (j / n))
    (digits_rise ns (suc from) (j / n)) (members_named ns (suc from) (j / n))

-- TRUTH VALUES

abbrev pub spelled_members : List ℕ → List ℕ → List Bool
spelled_members [] is = []
spelled_members (n ∷ ns) [] = []
spelled_members (n ∷ ns) (i ∷ is) = digits (member_bits n) i ++ spelled_members ns is

pub length-spelled_members : (ns is : List ℕ) → AreMembersOf ns is
    → length (spelled_members ns is) ≡ all_member_bits ns
length-spelled_members [] is h = refl
length-spelled_members (n ∷ ns) [] h = absurd h
length-spelled_members (n ∷ ns) (i ∷ is) h =
    let one = length-digits (member_bits n) i in
    let others = length-spelled_members ns is h.1 in
    length-append (digits (member_bits n) i) (spelled_members ns is) ∙ (λ t. one t + others t)

pub members_stand : (ns is : List ℕ) (vs : List Bool) (start : ℕ) → AreMembersOf ns is
    → Stands vs start (spelled_members ns is) → members_at ns vs start ≡ Some is
members_stand [] [] vs start h s = refl
members_stand [] (i ∷ is) vs start h s = absurd h
members_stand (n ∷ ns) [] vs start h s = absurd h
members_stand (n ∷ ns) (i ∷ is) vs start h s =
    let bits = member_bits n in
    let front = digits bits i in
    let rest = spelled_members ns is in
    let here = (parts_stand vs front rest start s).0 in
    let later = rest_stands vs front rest start bits (length-digits bits i) s in
    let room = enough n in
    let below_all = h.0 in
    let small : i < 2 ^ bits = omega (arith, room, below_all) in
    let number : nat_of (values_from vs start bits) ≡ i =
    ap nat_of (reads vs front start bits (length-digits bits i) here) ∙ nat_digits bits i small in
    let one : member n (nat_of (values_from vs start bits)) ≡ Some i =
    ap (member n) number ∙ ap (λ b. if b then Some i else None) (lt-ltb i n h.0) in
    let others : members_at ns vs (start + bits) ≡ Some is =
    members_stand ns is vs (start + bits) h.1 later in
    ap (λ o. o >>= λ k. option_map (λ rest. k ∷ rest) (members_at ns vs (start + bits))) one
    ∙ ap (option_map (λ rest. i ∷ rest)) others

-- what is read is a member of each pick
pub read_members : (ns : List ℕ) (vs : List Bool) (start : ℕ) (is : List ℕ)
    → members_at ns vs start ≡ Some is → AreMembersOf ns is
read_members [] vs start [] h = tt
read_members [] vs start (i ∷ is) h = absurd cc
read_members (n ∷ ns) vs start is h =
    by (nat_of (values_from vs start (member_bits n)))
    (nat_lt (nat_of (values_from vs start (member_bits n))) n) refl
    (members_at ns vs (start + member_bits n)) is (read_members ns vs (start + member_bits n)) h
  where
    by : (k : ℕ) (b : Bool) → nat_lt k n ≡ b → (o : Option (List ℕ)) (is : List ℕ)
        → ((js : List ℕ) → o ≡ Some js → AreMembersOf ns js)
        → (if b then Some k else None) >>= (λ i. option_map (λ rest. i ∷ rest) o) ≡ Some is
        → AreMembersOf (n ∷ ns) is
    by k false e o is f g = absurd cc
    by k true e None is f g = absurd cc
    by k true e (Some js) [] f g = absurd cc
    by k true e (Some js) (i ∷ is) f g =
        let same : k ≡ i = cc in
        let others : js ≡ is = cc in
        let less : k < n = ltb-true k n e in
        (subst (λ j. j < n) same less, subst (AreMembersOf ns) others (f js refl))
