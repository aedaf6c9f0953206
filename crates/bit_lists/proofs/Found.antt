-- The item that an index finds.
use Rattle.std.proofs.Common.{◌≡◌, ℕ, suc, ◌+◌, ◌-◌, ◌*◌, ◌^◌, ◌<◌, ◌≤◌, Bool, true, false, List, [], ◌∷◌, length, take, refl, sym, ap, ◌∙◌, arith, cond, ltb, subst, get_or, inl, inr, Option, Some, None, eqb, ◌≢◌}
use Rattle.std.specs.Prelude.{ℤ, pos, negsuc, ◌+ℤ◌, not, ◌||◌}
use Rattle.std.specs.Int.Signed.{lt_z}
use Rattle.std.proofs.lemmas.Int.{ints}
use Rattle.std.proofs.lemmas.Bool.{cases_lt}
use Rattle.std.proofs.lemmas.Bool.Decides.{eqb_tells, nat_tests}
use Rattle.std.proofs.lemmas.List.{ext_get_or, get_or-take, length-set, get_or-set_other, get_or-set_same}
use Rattle.std.proofs.Math.ListN.{set}
use Rattle.bit_lists.proofs.Joining.{length_taken}
use Rattle.mpy_tree.specs.Operations.{index_in}
use Rattle.bit_words.specs.Words.{bit_value, int_of, nat_of, is_negative}
use Rattle.bit_words.proofs.Integers.{parts}
use Rattle.bit_lists.specs.Places.{from_front, ItemIs, PutIs}

top_none : (p low k n : ℕ) (t : Bool) → low < p → pos k +ℤ pos (p * bit_value t) ≡ pos low → n ≡ low + p * bit_value t → n ≡ k
top_none p low k n true h e f = absurd (omega (arith, ints))
top_none p low k n false h e f = omega (arith, ints)

-- a word whose number isn't below zero reads the same without a sign
pub plain_number : (w : List Bool) (k : ℕ) → 0 < length w → int_of w ≡ pos k → nat_of w ≡ k
plain_number [] k h e = absurd (omega arith)
plain_number (b ∷ w) k h e =
    let r = parts (b ∷ w) (length w) refl in
    let signed = rw e at r.signed in
    top_none (2 ^ length w) r.low k (nat_of (b ∷ w)) r.top r.below signed r.unsigned

is_less : (i n : ℕ) → i < n → ltb i n ≡ true
is_less i n h = grind (arith, nat_tests)

not_less : (i n : ℕ) → n ≤ i → ltb i n ≡ false
not_less i n h = grind (arith, nat_tests)

from_end : (i n : ℕ) → i < n → negsuc i +ℤ pos n ≡ pos (n - suc i)
from_end i n h = omega (arith, ints)

before_front : (i n : ℕ) → n ≤ i → negsuc i +ℤ pos n ≡ negsuc (i - n)
before_front i n h = omega (arith, ints)

-- an index either finds no place and a fault is said, or a place that the word reads as
pub by_place : (P : Option ℕ → Type 0) (z : ℤ) (place : List Bool) (n : ℕ) (outside : Bool) → 0 < length place → int_of place ≡ from_front z n
    → outside ≡ (is_negative (int_of place) || not (lt_z z (pos n))) → (outside ≡ true → P None) → ((k : ℕ) → outside ≡ false → k < n → nat_of place ≡ k → P (Some k)) → P (index_in z n)
by_place P (pos i) place n outside some at e none found =
    elim (cases_lt i n) [
      | inl lt ↦
          let which : index_in (pos i) n ≡ Some i = ap (λ b. cond b (Some i) None) (is_less i n lt) in
          subst P (sym which) (found i (e ∙ ap (λ p. is_negative p || not (ltb i n)) at ∙ ap not (is_less i n lt)) lt (plain_number place i some at))
      | inr ge ↦
          let which : index_in (pos i) n ≡ None = ap (λ b. cond b (Some i) None) (not_less i n ge) in
          subst P (sym which) (none (e ∙ ap (λ p. is_negative p || not (ltb i n)) at ∙ ap not (not_less i n ge)))
    ]
by_place P (negsuc i) place n outside some at e none found =
    elim (cases_lt i n) [
      | inl lt ↦
          let which : index_in (negsuc i) n ≡ Some (n - suc i) = ap (λ b. cond b (Some (n - suc i)) None) (is_less i n lt) in
          let spot = at ∙ from_end i n lt in
          subst P (sym which) (found (n - suc i) (e ∙ ap (λ p. is_negative p || false) spot) (omega arith) (plain_number place (n - suc i) some spot))
      | inr ge ↦
          let which : index_in (negsuc i) n ≡ None = ap (λ b. cond b (Some (n - suc i)) None) (not_less i n ge) in
          subst P (sym which) (none (e ∙ ap (λ p. is_negative p || false) (at ∙ before_front i n ge)))
    ]

pub item_is : (z : ℤ) (place : List Bool) (n cap : ℕ) (word : List Bool) (whole : List (List Bool)) (outside : Bool) → 0 < length place → int_of place ≡ from_front z n → n ≤ cap
    → outside ≡ (is_negative (int_of place) || not (lt_z z (pos n))) → (nat_of place < cap → word ≡ get_or whole (nat_of place) []) → ItemIs outside word (take n whole) (index_in z n)
item_is z place n cap word whole outside some at le e item =
    by_place (ItemIs outside word (take n whole)) z place n outside some at e (λ h. h)
    (λ k inside lt same. (inside, item (omega arith) ∙ ap (λ (j : ℕ). get_or whole j []) same ∙ sym (get_or-take n whole k [] lt)))

chosen : (i k : ℕ) (x y z : List Bool) → (i ≡ k → x ≡ z) → (i ≢ k → y ≡ z) → cond (eqb i k) x y ≡ z
chosen i k x y z h l = elim (eqb_tells i k) [
  | inl t ↦ ap (λ b. cond b x y) t.0 ∙ h t.1
  | inr f ↦ ap (λ b. cond b x y) f.0 ∙ l f.1
]

-- one item replaced
changed_is : (whole new : List (List Bool)) (w : List Bool) (n k : ℕ) → length new ≡ length whole → n ≤ length whole → k < n
    → ((i : ℕ) → i < length whole → get_or new i [] ≡ cond (eqb i k) w (get_or whole i [])) → take n new ≡ set (take n whole) k w
changed_is whole new w n k long le lt item =
    let first : length (take n new) ≡ n = length_taken n new (omega arith) in
    let second : length (take n whole) ≡ n = length_taken n whole le in
    let both : length (set (take n whole) k w) ≡ n = simp length-set second in
    ext_get_or [] _ _ (first ∙ sym both) (λ i l.
    let small : i < n = omega arith in
    get_or-take n new i [] small ∙ item i (omega arith)
    ∙ chosen i k w (get_or whole i []) (get_or (set (take n whole) k w) i [])
    (λ same. sym (ap (λ (j : ℕ). get_or (set (take n whole) k w) j []) same ∙ get_or-set_same (take n whole) k w [] (omega arith)))
    (λ other. sym (get_or-set_other (take n whole) k i w [] other ∙ get_or-take n whole i [] small)))

pub put_is : (z : ℤ) (place : List Bool) (n : ℕ) (w : List Bool) (whole new : List (List Bool)) (outside : Bool) → 0 < length place → int_of place ≡ from_front z n → n ≤ length whole → length new ≡ length whole
    → outside ≡ (is_negative (int_of place) || not (lt_z z (pos n))) → (nat_of place < length whole → (i : ℕ) → i < length whole → get_or new i [] ≡ cond (eqb i (nat_of place)) w (get_or whole i []))
    → PutIs outside (take n new) (take n whole) w (index_in z n)
put_is z place n w whole new outside some at le long e item =
    by_place (PutIs outside (take n new) (take n whole) w) z place n outside some at e (λ h. h)
    (λ k inside lt same. (inside, changed_is whole new w n k long le lt (λ i l. item (omega arith) i l ∙ ap (λ (j : ℕ). cond (eqb i j) w (get_or whole i [])) same)))

-- the same, with what a later state reads
pub outside_as : (p : ℤ) {r : Bool} {z z' : ℤ} {n n' : ℕ} → r ≡ (is_negative p || not (lt_z z (pos n))) → z ≡ z' → n ≡ n' → r ≡ (is_negative p || not (lt_z z' (pos n')))
outside_as p {r} {z} {z'} {n} {n'} e f h = e ∙ ap (λ (y : ℤ). is_negative p || not (lt_z y (pos n))) f ∙ ap (λ (m : ℕ). is_negative p || not (lt_z z' (pos m))) h

pub picked_as : {n n' cap : ℕ} {word : List Bool} {whole whole' : List (List Bool)} → n' ≡ n → whole' ≡ whole → (n' < cap → word ≡ get_or whole' n' []) → n < cap → word ≡ get_or whole n []
picked_as {n} {n'} {cap} {word} {whole} {whole'} e f item h =
    item (omega arith) ∙ ap (λ (m : ℕ). get_or whole' m []) e ∙ ap (λ (v : List (List Bool)). get_or v n []) f

pub put_as : (fault : Bool) (new items : List (List Bool)) (w : List Bool) (o : Option ℕ) {n m : ℕ} → m ≡ n → PutIs fault (take n new) items w o → PutIs fault (take m new) items w o
put_as fault new items w o {n} {m} e h = subst (λ (k : ℕ). PutIs fault (take k new) items w o) (sym e) h

-- the same beside the length of the list
pub item_beside : (fault : Bool) (word : List Bool) (whole : List (List Bool)) (z : ℤ) (n : ℕ) → n ≤ length whole → ItemIs fault word (take n whole) (index_in z n)
    → ItemIs fault word (take n whole) (index_in z (length (take n whole)))
item_beside fault word whole z n le h = subst (λ (k : ℕ). ItemIs fault word (take n whole) (index_in z k)) (sym (length_taken n whole le)) h

pub put_beside : (fault : Bool) (read : List (List Bool)) (whole : List (List Bool)) (w : List Bool) (z : ℤ) (n : ℕ) → n ≤ length whole → PutIs fault read (take n whole) w (index_in z n)
    → PutIs fault read (take n whole) w (index_in z (length (take n whole)))
put_beside fault read whole w z n le h = subst (λ (k : ℕ). PutIs fault read (take n whole) w (index_in z k)) (sym (length_taken n whole le)) h
