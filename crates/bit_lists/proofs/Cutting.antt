-- Ends of slices, and the items between them.
use Rattle.std.proofs.Common.{◌≡◌, ℕ, zero, suc, ◌+◌, ◌-◌, ◌^◌, ◌<◌, ◌≤◌, Bool, true, false, List, [], ◌∷◌, length, take, drop, refl, sym, ap, ◌∙◌, arith, get_or, cond, ltb, inl, inr, subst, Option, Some, None, map, not, ◌&&◌}
use Rattle.std.specs.Prelude.{ℤ, pos, negsuc, ◌+ℤ◌, ◌-ℤ◌, min}
use Rattle.std.specs.Int.Signed.{lt_z}
use Rattle.std.proofs.Math.Nat.{min-eq_left, min-eq_right, min-le_right}
use Rattle.std.proofs.lemmas.Int.{ints}
use Rattle.std.proofs.lemmas.Bool.{cases_lt}
use Rattle.std.proofs.lemmas.Bool.Decides.{nat_tests}
use Rattle.std.proofs.lemmas.List.{ext_get_or, get_or-take, get_or-drop, length-drop}
use Rattle.mpy_tree.specs.Operations.{cut, cut_at, end_or}
use Rattle.bit_words.specs.Words.{bit_value, int_of, is_negative, nat_of, is_within as number_within}
use Rattle.bit_words.proofs.Integers.{within}
use Rattle.bit_lists.specs.declared.shifts.Direction.TheVariants.{Down}
use Rattle.bit_lists.specs.Moves.{IsMoved}
use Rattle.bit_lists.specs.Places.{from_front}
use Rattle.bit_lists.specs.Slices.{clamp, low_end}
use Rattle.bit_lists.proofs.Found.{plain_number}
use Rattle.bit_lists.proofs.Joining.{length_taken}
use Rattle.bit_lists.proofs.Sums.{all_kept, none_kept}

from_end : (i n : ℕ) → i < n → negsuc i +ℤ pos n ≡ pos (n - suc i)
from_end i n h = omega (arith, ints)

before_front : (i n : ℕ) → n ≤ i → negsuc i +ℤ pos n ≡ negsuc (i - n)
before_front i n h = omega (arith, ints)

no_bits : (w : List Bool) → nat_of w < 1 → 0 ≡ nat_of w
no_bits w h = omega arith

-- a small number is that of its lowest digits
pub low_whole : (k : ℕ) (w : List Bool) → nat_of w < 2 ^ k → nat_of (take k w) ≡ nat_of w
low_whole zero w h = no_bits w h
low_whole (suc k) [] h = refl
low_whole (suc k) (b ∷ w) h =
    let twice : 2 ^ suc k ≡ 2 ^ k + 2 ^ k = grind arith in
    let rest = low_whole k w (omega arith) in
    ap (λ (n : ℕ). bit_value b + (n + n)) rest

is_past : (i n : ℕ) → n < i → ltb n i ≡ true
is_past i n h = grind (arith, nat_tests)

is_within : (i n : ℕ) → i ≤ n → ltb n i ≡ false
is_within i n h = grind (arith, nat_tests)

-- a number as a length, by its lowest digits
pub clamped_is : (z : ℤ) (w end low kept most : List Bool) (n : ℕ) (past some : Bool) → 0 < length w → int_of w ≡ z → n < 32 → past ≡ lt_z (pos n) z → some ≡ not (is_negative z)
    → low ≡ take 5 w → kept ≡ map (λ b. some && b) low → nat_of most ≡ n → end ≡ cond past most kept → nat_of end ≡ clamp z n
clamped_is (pos i) w end low kept most n past some wide at small e f h k m r =
    elim (cases_lt n i) [
      | inl lt ↦ ap nat_of r ∙ ap (λ b. nat_of (cond b most kept)) (e ∙ is_past i n lt) ∙ m ∙ sym (min-eq_right (omega arith))
      | inr ge ↦
          let number = plain_number w i wide at in
          let few : nat_of w < 2 ^ 5 = omega arith in
          ap nat_of r ∙ ap (λ b. nat_of (cond b most kept)) (e ∙ is_within i n ge) ∙ ap nat_of k ∙ all_kept some low f
          ∙ ap nat_of h ∙ low_whole 5 w few ∙ number ∙ sym (min-eq_left ge)
    ]
clamped_is (negsuc i) w end low kept most n past some wide at small e f h k m r =
    ap nat_of r ∙ ap (λ b. nat_of (cond b most kept)) e ∙ ap nat_of k ∙ none_kept some low f

pub upper_is : (z : ℤ) (n : ℕ) → clamp (from_front z n) n ≡ cut_at z n
upper_is (pos i) n = refl
upper_is (negsuc i) n =
    elim (cases_lt i n) [
      | inl lt ↦ ap (λ (z : ℤ). clamp z n) (from_end i n lt) ∙ min-eq_left (omega arith)
      | inr ge ↦ ap (λ (z : ℤ). clamp z n) (before_front i n ge) ∙ omega arith
    ]

min_within : (k n most : ℕ) → n ≤ most → min k n ≡ min (min k most) n
min_within k n most h =
    elim (cases_lt most k) [
      | inl lt ↦ min-eq_right (omega arith) ∙ sym (ap (λ (j : ℕ). min j n) (min-eq_right (omega arith)) ∙ min-eq_right (omega arith))
      | inr le ↦ sym (ap (λ (j : ℕ). min j n) (min-eq_left le))
    ]

-- the low end, compared with the length
low_meets : (o : Option ℤ) (n : ℕ) → n ≤ 16 → end_or 0 o n ≡ min (low_end o n) n
low_meets None n h = sym (min-eq_left (omega arith))
low_meets (Some (pos i)) n h = min_within i n 31 (omega arith)
low_meets (Some (negsuc i)) n h =
    elim (cases_lt i n) [
      | inl lt ↦ sym (ap (λ (z : ℤ). min (clamp z 31) n) (from_end i n lt) ∙ ap (λ (j : ℕ). min j n) (min-eq_left (omega arith)) ∙ min-eq_left (omega arith))
      | inr ge ↦ let none : n - suc i ≡ 0 = omega arith in none ∙ sym (ap (λ (z : ℤ). min (clamp z 31) n) (before_front i n ge) ∙ min-eq_left (omega arith))
    ]

pub high_within : (o : Option ℤ) (n : ℕ) → end_or n o n ≤ n
high_within None n = omega arith
high_within (Some (pos i)) n = min-le_right i n
high_within (Some (negsuc i)) n = omega arith

same_gap : (hi lo m n : ℕ) → hi ≤ n → m ≡ min lo n → hi - m ≡ hi - lo
same_gap hi lo m n h e =
    elim (cases_lt n lo) [
      | inl lt ↦ let same : min lo n ≡ n = min-eq_right (omega arith) in omega arith
      | inr le ↦ let same : min lo n ≡ lo = min-eq_left le in omega arith
    ]

-- the items between two ends
pub cut_is : (whole new : List (List Bool)) (n len : ℕ) (a b : Option ℤ) → n ≤ 16 → n ≤ length whole → length new ≡ length whole
    → IsMoved Down (low_end a n) whole new → len ≡ end_or n b n - low_end a n → take len new ≡ cut (take n whole) a b
cut_is whole new n len a b few fits long moved size =
    let t = take n whole in
    let first : length t ≡ n = length_taken n whole fits in
    let lo : ℕ = low_end a n in
    let hi : ℕ = end_or n b n in
    let m : ℕ = end_or 0 a n in
    let high : end_or n b n ≤ n = high_within b n in
    let meets : end_or 0 a n ≡ min (low_end a n) n = low_meets a n few in
    let apart : end_or n b n - end_or 0 a n ≡ end_or n b n - low_end a n = same_gap _ _ _ n high meets in
    let left : length (take len new) ≡ len = length_taken len new (omega arith) in
    let rest : length (drop (end_or 0 a n) (take n whole)) ≡ n - end_or 0 a n = length-drop (end_or 0 a n) t ∙ ap (λ (k : ℕ). k - end_or 0 a n) first in
    let right : length (take (end_or n b n - end_or 0 a n) (drop (end_or 0 a n) (take n whole))) ≡ end_or n b n - end_or 0 a n = length_taken _ (drop (end_or 0 a n) t) (omega arith) in
    let all : take len new ≡ take (hi - m) (drop m t) =
    ext_get_or [] _ _ (omega arith) (λ i l.
    let within : i < len = omega arith in
    let place : low_end a n ≤ n = omega arith in
    let same : end_or 0 a n ≡ low_end a n = meets ∙ min-eq_left place in
    let spot : end_or 0 a n + i ≡ i + low_end a n = omega arith in
    get_or-take len new i [] within ∙ moved i (omega arith)
    ∙ sym (get_or-take (hi - m) (drop m t) i [] (omega arith) ∙ get_or-drop m t i [] ∙ ap (λ (k : ℕ). get_or t k []) spot ∙ get_or-take n whole (i + lo) [] (omega arith))) in
    all ∙ sym (ap (λ (k : ℕ). take (end_or k b k - end_or 0 a k) (drop (end_or 0 a k) t)) first)

pub gap_is : (u l : ℕ) → u < 32 → clamp (pos u -ℤ pos l) 31 ≡ u - l
gap_is u l h =
    elim (cases_lt u l) [
      | inl lt ↦ let below : pos u -ℤ pos l ≡ negsuc (l - suc u) = omega (arith, ints) in ap (λ (z : ℤ). clamp z 31) below ∙ omega arith
      | inr le ↦ let above : pos u -ℤ pos l ≡ pos (u - l) = omega (arith, ints) in ap (λ (z : ℤ). clamp z 31) above ∙ min-eq_left (omega arith)
    ]

pub gap_fits : (u l : ℕ) → u < 32 → l < 32 → number_within 32 (pos u -ℤ pos l) ≡ true
gap_fits u l h k = within 32 (pos u -ℤ pos l) (32 + u - l) (omega (arith, ints)) (omega arith)

-- the same, with what a later state reads
pub lowered_as : (new : List (List Bool)) {n n' : ℕ} {old old' : List (List Bool)} → n' ≡ n → old' ≡ old → IsMoved Down n' old' new → IsMoved Down n old new
lowered_as new {n} {n'} {old} {old'} e f h = subst (λ (m : ℕ). IsMoved Down m old new) e (subst (λ (v : List (List Bool)). IsMoved Down n' v new) f h)

pub high_as : {h n n' : ℕ} {o o' : Option ℤ} → h ≡ end_or n' o' n' → n' ≡ n → o' ≡ o → h ≡ end_or n o n
high_as {h} {n} {n'} {o} {o'} e f k = e ∙ ap (λ (m : ℕ). end_or m o' m) f ∙ ap (λ (p : Option ℤ). end_or n p n) k
