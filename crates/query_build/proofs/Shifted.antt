-- What truth values spell behind others.
use Rattle.std.proofs.Common.{◌≡◌, ◌<◌, ◌≤◌, ℕ, zero, suc, ◌+◌, ◌*◌, Bool, false, List, [], ◌∷◌}
use Rattle.std.proofs.Common.{length, map, take, refl, ap, ◌∙◌, arith, Some}
use Rattle.std.specs.Prelude.{option_map, slice_index_or}
use Rattle.mpy_tree.specs.declared.limits.Limits.{Limits}
use Rattle.mpy_tree.specs.declared.typing.Ty.{Ty}
use Rattle.mpy_tree.specs.declared.typing.Ty.TheVariants as ty
use Rattle.mpy_tree.specs.declared.value.Value.TheVariants as value
use Rattle.mpy_tree.specs.Options.{◌>>=◌}
use Rattle.bit_words.specs.Later.{values_from}
use Rattle.bit_words.specs.Words.{int_of, nat_of}
use Rattle.input_space.specs.SelectionBits.{all_member_bits, member, member_bits, members_at}
use Rattle.input_space.specs.ValueBits.{all_bits_for, bits_for, first, printable, value_at}
use Rattle.input_space.specs.ValueBits.{values_at, words_from}
use Rattle.query_build.specs.Asking.{own_bits}

-- the second list has the first one's values, one place before
abbrev Before : List Bool → List Bool → ℕ → Type 0
Before vs ws n = (j : ℕ) → j < n → slice_index_or vs (j + 1) false ≡ slice_index_or ws j false

taken : (n : ℕ) (xs : List Bool) (j : ℕ) → j < n
    → slice_index_or xs j false ≡ slice_index_or (take n xs) j false
taken zero xs j h = absurd (omega arith)
taken (suc n) [] j h = refl
taken (suc n) (x ∷ xs) zero h = refl
taken (suc n) (x ∷ xs) (suc j) h = taken n xs j (omega arith)

own_before : (n : ℕ) (vs : List Bool) → 1 ≤ length vs → Before vs (own_bits n vs) n
own_before n [] some j h = absurd (omega arith)
own_before n (v ∷ vs) some j h =
    let next : j + 1 ≡ suc j = omega arith in
    ap (λ k. slice_index_or (v ∷ vs) k false) next ∙ taken n vs j h

module _ (vs ws : List Bool) (n : ℕ) (before : Before vs ws n) where
  values_before : (start m : ℕ) → start + m ≤ n
      → values_from vs (start + 1) m ≡ values_from ws start m
  values_before start zero h = refl
  values_before start (suc m) h =
      let here = before start (omega arith) in
      let rest : values_from vs (start + 1 + 1) m ≡ values_from ws (start + 1) m =
      values_before (start + 1) m (omega arith) in
      ap (λ w. slice_index_or vs (start + 1) false ∷ w) rest
      ∙ ap (λ b. b ∷ values_from ws (start + 1) m) here

  words_before : (start width count : ℕ) → start + count * width ≤ n
      → words_from vs (start + 1) width count ≡ words_from ws start width count
  words_before start width zero h = refl
  words_before start width (suc count) h =
      let many : suc count * width ≡ width + count * width = omega arith in
      let one = values_before start width (omega arith) in
      let next : start + 1 + width ≡ start + width + 1 = omega arith in
      let rest = words_before (start + width) width count (omega arith) in
      ap (λ w. w ∷ words_from vs (start + 1 + width) width count) one
      ∙ ap (λ k. values_from ws start width ∷ words_from vs k width count) next
      ∙ ap (λ others. values_from ws start width ∷ others) rest

  value_before : (l : Limits) (t : Ty) (start : ℕ) → start + bits_for l t ≤ n
      → value_at l t vs (start + 1) ≡ value_at l t ws start
  value_before l ty.Int start h =
      ap (λ w. Some (value.Int (int_of w))) (values_before start l.width h)
  value_before l ty.Bool start h = ap (λ b. Some (value.Bool b)) (before start (omega arith))
  value_before l ty.List start h =
      let len = values_before start 5 (omega arith) in
      let next : start + 1 + 5 ≡ start + 5 + 1 = omega arith in
      let items = words_before (start + 5) l.width l.cap (omega arith) in
      ap (λ w. option_map value.List (first (nat_of w)
      (map int_of (words_from vs (start + 1 + 5) l.width l.cap)))) len
      ∙ ap (λ k. option_map value.List (first (nat_of (values_from ws start 5))
      (map int_of (words_from vs k l.width l.cap)))) next
      ∙ ap (λ zs. option_map value.List (first (nat_of (values_from ws start 5))
      (map int_of zs))) items
  value_before l ty.Text start h =
      let len = values_before start 5 (omega arith) in
      let next : start + 1 + 5 ≡ start + 5 + 1 = omega arith in
      let items = words_before (start + 5) 7 l.cap (omega arith) in
      ap (λ w. option_map value.Text (first (nat_of w)
      (map nat_of (words_from vs (start + 1 + 5) 7 l.cap)) >>= printable)) len
      ∙ ap (λ k. option_map value.Text (first (nat_of (values_from ws start 5))
      (map nat_of (words_from vs k 7 l.cap)) >>= printable)) next
      ∙ ap (λ cs. option_map value.Text (first (nat_of (values_from ws start 5))
      (map nat_of cs) >>= printable)) items

  all_values_before : (l : Limits) (ts : List Ty) (start : ℕ) → start + all_bits_for l ts ≤ n
      → values_at l ts vs (start + 1) ≡ values_at l ts ws start
  all_values_before l [] start h = refl
  all_values_before l (t ∷ ts) start h =
      let one = value_before l t start (omega arith) in
      let next : start + 1 + bits_for l t ≡ start + bits_for l t + 1 = omega arith in
      let rest = all_values_before l ts (start + bits_for l t) (omega arith) in
      ap (λ o. o >>= λ v. option_map (λ others. v ∷ others)
      (values_at l ts vs (start + 1 + bits_for l t))) one
      ∙ ap (λ p. value_at l t ws start >>= λ v. option_map (λ others. v ∷ others) p)
      (ap (values_at l ts vs) next ∙ rest)

  all_members_before : (ns : List ℕ) (start : ℕ) → start + all_member_bits ns ≤ n
      → members_at ns vs (start + 1) ≡ members_at ns ws start
  all_members_before [] start h = refl
  all_members_before (m ∷ ns) start h =
      let b : ℕ = member_bits m in
      let one = values_before start b (omega arith) in
      let next : start + 1 + b ≡ start + b + 1 = omega arith in
      let rest = all_members_before ns (start + b) (omega arith) in
      ap (λ w. member m (nat_of w) >>= λ i. option_map (λ others. i ∷ others)
      (members_at ns vs (start + 1 + b))) one
      ∙ ap (λ p. member m (nat_of (values_from ws start b))
      >>= λ i. option_map (λ others. i ∷ others) p)
      (ap (members_at ns vs) next ∙ rest)

-- what the values from 2 on spell is read from the second one on
pub values_behind : (l : Limits) (ts : List Ty) (vs : List Bool) → 1 ≤ length vs
    → values_at l ts vs 1 ≡ values_at l ts (own_bits (all_bits_for l ts) vs) 0
values_behind l ts vs some =
    let n = all_bits_for l ts in
    all_values_before vs (own_bits n vs) n (own_before n vs some) l ts 0 (omega arith)

pub members_behind : (ns : List ℕ) (vs : List Bool) → 1 ≤ length vs
    → members_at ns vs 1 ≡ members_at ns (own_bits (all_member_bits ns) vs) 0
members_behind ns vs some =
    let n = all_member_bits ns in
    all_members_before vs (own_bits n vs) n (own_before n vs some) ns 0 (omega arith)
