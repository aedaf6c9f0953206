-- The truth values of members, and the members that they spell.
use Rattle.std.proofs.Common.{◌≡◌, ◌∙◌, ℕ, suc, ◌+◌, Bool, true, false, ◌&&◌, List, [], ◌∷◌}
use Rattle.std.proofs.Common.{◌++◌, length, map, drop, Some, None, refl, sym, ap, arith}
use Rattle.std.specs.Prelude.{Option, option_map, if◌then◌else◌, is_some, nat_lt, slice_get}
use Rattle.std.proofs.lemmas.List.{drop_more}
use Rattle.std.proofs.lemmas.Option.{get_or_from_slice_get, same_Some, slice_get_within}
use Rattle.mpy_tree.specs.Options.{◌>>=◌}
use Rattle.bit_words.specs.Later.{values_from}
use Rattle.bit_words.specs.Words.{nat_of}
use Rattle.pick_bits.specs.MemberWords.{all_numbered, member_words}
use Rattle.input_space.specs.SelectionBits.{all_member_bits, member_bits, members_at}

-- the rest of a list from a place on
pub drop_next : {A : Type 0} (xs : List A) (i : ℕ) (x : A) → slice_get xs i ≡ Some x
    → drop i xs ≡ x ∷ drop (i + 1) xs
drop_next xs i x at =
    drop_more xs i x (slice_get_within xs i x at)
    ∙ ap (λ y. y ∷ drop (i + 1) xs) (get_or_from_slice_get xs i x x at)

-- one pick more
pub all_bits_more : (ns : List ℕ) (n : ℕ)
    → all_member_bits (ns ++ n ∷ []) ≡ all_member_bits ns + member_bits n
all_bits_more [] n = omega arith
all_bits_more (m ∷ ns) n =
    let rest = all_bits_more ns n in
    omega (arith, rest)

pub member_words_more : (ns : List ℕ) (n : ℕ) (vs : List Bool) (start : ℕ)
    → member_words (ns ++ n ∷ []) vs start
    ≡ member_words ns vs start ++ values_from vs (start + all_member_bits ns) (member_bits n) ∷ []
member_words_more [] n vs start =
    let e : start + 0 ≡ start = omega arith in
    ap (λ k. values_from vs k (member_bits n) ∷ []) (sym e)
member_words_more (m ∷ ns) n vs start =
    let rest = member_words_more ns n vs (start + member_bits m) in
    let place : start + member_bits m + all_member_bits ns ≡ start + all_member_bits (m ∷ ns) =
    omega arith in
    ap (λ ws. values_from vs start (member_bits m) ∷ ws)
    (rest
    ∙ ap (λ k. member_words ns vs (start + member_bits m) ++ values_from vs k (member_bits n) ∷ [])
    place)

pub length-member_words : (ns : List ℕ) (vs : List Bool) (start : ℕ)
    → length (member_words ns vs start) ≡ length ns
length-member_words [] vs start = refl
length-member_words (n ∷ ns) vs start = ap suc (length-member_words ns vs (start + member_bits n))

-- there are members where each number is that of one
first_some : (b c : Bool) (k : ℕ) (o : Option (List ℕ)) → is_some o ≡ c
    → is_some ((if b then Some k else None) >>= λ i. option_map (λ rest. i ∷ rest) o) ≡ (b && c)
first_some true c k None e = e
first_some true c k (Some is) e = e
first_some false c k o e = refl

pub some_members : (ns : List ℕ) (vs : List Bool) (start : ℕ)
    → is_some (members_at ns vs start) ≡ all_numbered ns (member_words ns vs start)
some_members [] vs start = refl
some_members (n ∷ ns) vs start =
    let k : ℕ = nat_of (values_from vs start (member_bits n)) in
    first_some (nat_lt k n) (all_numbered ns (member_words ns vs (start + member_bits n))) k
    (members_at ns vs (start + member_bits n)) (some_members ns vs (start + member_bits n))

-- and they are these numbers
first_is : (b : Bool) (k : ℕ) (o : Option (List ℕ)) (ks is : List ℕ)
    → ((js : List ℕ) → o ≡ Some js → ks ≡ js)
    → ((if b then Some k else None) >>= λ i. option_map (λ rest. i ∷ rest) o) ≡ Some is
    → k ∷ ks ≡ is
first_is true k None ks is others e = absurd cc
first_is true k (Some js) ks is others e = ap (λ rest. k ∷ rest) (others js refl)
    ∙ same_Some (k ∷ js) is e
first_is false k o ks is others e = absurd cc

pub members_are : (ns : List ℕ) (vs : List Bool) (start : ℕ) (is : List ℕ)
    → members_at ns vs start ≡ Some is
    → map nat_of (member_words ns vs start) ≡ is
members_are [] vs start is e = same_Some [] is e
members_are (n ∷ ns) vs start is e =
    let k : ℕ = nat_of (values_from vs start (member_bits n)) in
    first_is (nat_lt k n) k (members_at ns vs (start + member_bits n))
    (map nat_of (member_words ns vs (start + member_bits n))) is
    (members_are ns vs (start + member_bits n)) e

-- one number tested more
and_joined : (a b c : Bool) → (a && (b && c)) ≡ ((a && b) && c)
and_joined true b c = refl
and_joined false b c = refl

and_all : (a : Bool) → (a && true) ≡ a
and_all true = refl
and_all false = refl

pub tested_more : {B : Type 0} (f : B → Bool) (ns : List ℕ) (ws : List (List B)) (i n : ℕ)
    (w : List B) (all before after : Bool)
    → slice_get ns i ≡ Some n → slice_get ws i ≡ Some w
    → after ≡ (before && nat_lt (nat_of (map f w)) n)
    → all ≡ (before && all_numbered (drop i ns) (map (map f) (drop i ws)))
    → all ≡ (after && all_numbered (drop (i + 1) ns) (map (map f) (drop (i + 1) ws)))
tested_more f ns ws i n w all before after at there now whole =
    let rest : Bool = all_numbered (drop (i + 1) ns) (map (map f) (drop (i + 1) ws)) in
    whole ∙ ap (λ ms. before && all_numbered ms (map (map f) (drop i ws))) (drop_next ns i n at)
    ∙ ap (λ us. before && all_numbered (n ∷ drop (i + 1) ns) (map (map f) us))
    (drop_next ws i w there)
    ∙ and_joined before (nat_lt (nat_of (map f w)) n) rest
    ∙ ap (λ b. b && rest) (sym now)

-- what one test more reads as
pub one_tested : (after kept before one : Bool) (k m n : ℕ) → after ≡ (kept && one) → kept ≡ before
    → one ≡ nat_lt k n → k ≡ m
    → after ≡ (before && nat_lt m n)
one_tested after kept before one k m n joined same test number =
    joined ∙ ap (λ b. b && one) same ∙ ap (λ b. before && b) (test ∙ ap (λ j. nat_lt j n) number)

pub all_tested : (b : Bool) (ns : List ℕ) (ws : List (List Bool)) → ns ≡ []
    → (b && all_numbered ns ws) ≡ b
all_tested b ns ws e = ap (λ ms. b && all_numbered ms ws) e ∙ and_all b
