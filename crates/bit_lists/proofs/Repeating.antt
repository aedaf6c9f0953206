-- Lists over and over.
use Rattle.std.proofs.Common.{◌≡◌, ℕ, zero, suc, ◌+◌, ◌-◌, ◌*◌, ◌%◌, ◌<◌, ◌≤◌, Bool, true, false, List, [], length, take, refl, sym, ap, ◌∙◌, arith, get_or, cond, subst, ltb, eqb, inl, inr, length-append, ◌≢◌}
use Rattle.std.specs.Prelude.{ℤ, pos, negsuc, not, ◌||◌, nat_le, min}
use Rattle.std.proofs.Math.Nat.{add-mod_left, le-mul_of_pos_right, min-eq_left, min-eq_right, mod-eq_of_lt, mul_comm}
use Rattle.std.proofs.lemmas.Nat.{mod_below}
use Rattle.std.proofs.lemmas.Bool.{cases_lt, leb-true}
use Rattle.std.proofs.lemmas.Bool.Decides.{eqb_tells, nat_tests}
use Rattle.std.proofs.lemmas.List.{ext_get_or, get_or-take, get_or_append_left, get_or-append_right}
use Rattle.mpy_tree.specs.Operations.{copies, copy_count, repeated}
use Rattle.bit_words.specs.Words.{IsUnsigned}
use Rattle.bit_lists.specs.Lists.{ReadsWithin}
use Rattle.bit_lists.specs.Repeats.{wrapped_place}
use Rattle.bit_lists.specs.Slices.{clamp}
use Rattle.bit_lists.proofs.Joining.{length_taken}
use Rattle.bit_lists.proofs.Sums.{far_past, passes}

is_below : (i n : ℕ) → i < n → ltb i n ≡ true
is_below i n h = grind (arith, nat_tests)

not_below : (i n : ℕ) → n ≤ i → ltb i n ≡ false
not_below i n h = grind (arith, nat_tests)

pub times_is : (z : ℤ) → clamp z 31 ≡ min (copy_count z) 31
times_is (pos i) = refl
times_is (negsuc i) = refl

same_bound : (j n : ℕ) → j ≢ n → ltb n j ≡ ltb n (j + 1)
same_bound j n other =
    elim (cases_lt n j) [
      | inl lt ↦ is_below n j lt ∙ sym (is_below n (j + 1) (omega arith))
      | inr le ↦
          elim (cases_lt j n) [
            | inl above ↦ not_below n j le ∙ sym (not_below n (j + 1) (omega arith))
            | inr same ↦ absurd (other (omega arith))
          ]
    ]

-- one length more of those that are repeated
pub wrap_more : (xs before new : List (List Bool)) (j n k : ℕ) → 0 < j → get_or before k [] ≡ get_or xs (wrapped_place j n k) []
    → get_or new k [] ≡ cond (eqb j n) (get_or xs (k % j) []) (get_or before k []) → get_or new k [] ≡ get_or xs (wrapped_place (j + 1) n k) []
wrap_more xs before new j n k some past now =
    elim (eqb_tells j n) [
      | inl t ↦
          let test : ltb n (j + 1) ≡ true = is_below n (j + 1) (let same : j ≡ n = t.1 in omega arith) in
          now ∙ ap (λ b. cond b (get_or xs (k % j) []) (get_or before k [])) t.0 ∙ ap (λ (m : ℕ). get_or xs (k % m) []) t.1 ∙ sym (ap (λ b. get_or xs (cond b (k % n) k) []) test)
      | inr f ↦
          now ∙ ap (λ b. cond b (get_or xs (k % j) []) (get_or before k [])) f.0 ∙ past ∙ ap (λ b. get_or xs (cond b (k % n) k) []) (same_bound j n f.1)
    ]

pub wrap_none : (xs : List (List Bool)) (n k : ℕ) → 0 < n → get_or xs k [] ≡ get_or xs (wrapped_place 1 n k) []
wrap_none xs n k h = sym (ap (λ b. get_or xs (cond b (k % n) k) []) (not_below n 1 (omega arith)))

pub wrap_all : (xs : List (List Bool)) (j n k : ℕ) → k < length xs → n ≤ length xs → length xs ≤ j → get_or xs (wrapped_place j n k) [] ≡ get_or xs (k % n) []
wrap_all xs j n k h l e =
    elim (cases_lt n j) [
      | inl lt ↦ ap (λ b. get_or xs (cond b (k % n) k) []) (is_below n j lt)
      | inr le ↦ ap (λ b. get_or xs (cond b (k % n) k) []) (not_below n j le) ∙ ap (λ (m : ℕ). get_or xs m []) (sym (mod-eq_of_lt (omega arith)))
    ]

-- a product of 5 bits beside the limit
pub product_passes : (n s cap : ℕ) (over : Bool) → IsUnsigned 5 n s over → cap ≤ 16 → (over || not (ltb s (cap + 1))) ≡ not (nat_le n cap)
product_passes n s cap over h few =
    elim (cases_lt n 32) [
      | inl lt ↦ let small = is_below n 32 lt in ap (λ b. b || not (ltb s (cap + 1))) (h.leaves ∙ ap not small) ∙ passes n s cap (h.reads small)
      | inr ge ↦ let large = not_below n 32 ge in ap (λ b. b || not (ltb s (cap + 1))) (h.leaves ∙ ap not large) ∙ far_past n cap (omega arith)
    ]

pub product_within_is : (n s cap : ℕ) (over : Bool) → IsUnsigned 5 n s over → cap ≤ 16 → n ≤ cap → s ≡ n
product_within_is n s cap over h few le = h.reads (is_below n 32 (omega arith))

pub length_copies : (m : ℕ) (t : List (List Bool)) → length (copies m t) ≡ m * length t
length_copies zero t = omega arith
length_copies (suc m) t = let rest = length_copies m t in simp length-append (omega arith)

copied_at : (t : List (List Bool)) (m k : ℕ) → 0 < length t → k < m * length t → get_or (copies m t) k [] ≡ get_or t (k % length t) []
copied_at t zero k some h = absurd (omega arith)
copied_at t (suc m) k some h =
    elim (cases_lt k (length t)) [
      | inl lt ↦ get_or_append_left t (copies m t) [] k lt ∙ ap (λ (i : ℕ). get_or t i []) (sym (mod-eq_of_lt lt))
      | inr ge ↦
          let back : length t + (k - length t) ≡ k = omega arith in
          get_or-append_right t (copies m t) (length t) k [] refl ge ∙ copied_at t m (k - length t) some (omega arith)
          ∙ ap (λ (i : ℕ). get_or t i []) (sym (ap (λ (i : ℕ). i % length t) (sym back) ∙ add-mod_left (length t) (k - length t)))
    ]

some_times : (n m i : ℕ) → i < m * n → 0 < n
some_times zero m i h = absurd (omega arith)
some_times (suc n) m i h = omega arith

few_times : (n m cap : ℕ) → cap ≤ 16 → n * min m 31 ≤ cap → n * min m 31 ≡ m * n
few_times zero m cap small h = omega arith
few_times (suc n) m cap small h =
    elim (cases_lt 31 m) [
      | inl lt ↦ let same : suc n * min m 31 ≡ suc n * 31 = ap (λ (k : ℕ). suc n * k) (min-eq_right (omega arith)) in absurd (omega arith)
      | inr le ↦ ap (λ (k : ℕ). suc n * k) (min-eq_left le) ∙ mul_comm (suc n) m
    ]

many_times : (n m cap : ℕ) → cap ≤ 16 → m * n ≤ cap → n * min m 31 ≡ m * n
many_times zero m cap small h = omega arith
many_times (suc n) m cap small h =
    let least : m ≤ m * suc n = le-mul_of_pos_right m (omega arith) in
    ap (λ (k : ℕ). suc n * k) (min-eq_left (omega arith)) ∙ mul_comm (suc n) m

is_few : (n cap : ℕ) → n ≤ cap → nat_le n cap ≡ true
is_few n cap h = grind (arith, nat_tests)

is_many : (n cap : ℕ) → cap < n → nat_le n cap ≡ false
is_many n cap h = grind (arith, nat_tests)

same_limit : (n m cap : ℕ) → cap ≤ 16 → nat_le (n * min m 31) cap ≡ nat_le (m * n) cap
same_limit n m cap small =
    elim (cases_lt cap (m * n)) [
      | inl lt ↦
          elim (cases_lt cap (n * min m 31)) [
            | inl also ↦ is_many _ cap also ∙ sym (is_many _ cap lt)
            | inr le ↦ let same = few_times n m cap small le in absurd (omega arith)
          ]
      | inr le ↦ ap (λ (k : ℕ). nat_le k cap) (many_times n m cap small le)
    ]

repeated_is : (whole new : List (List Bool)) (n m total cap : ℕ) → length new ≡ length whole → cap ≡ length whole → n ≤ length whole → m * n ≤ cap → total ≡ m * n
    → ((k : ℕ) → k < length whole → 0 < n → n ≤ length whole → get_or new k [] ≡ get_or whole (k % n) []) → take total new ≡ copies m (take n whole)
repeated_is whole new n m total cap long many fits few size item =
    let first : length (take n whole) ≡ n = length_taken n whole fits in
    let left : length (take total new) ≡ total = length_taken total new (omega arith) in
    let right : length (copies m (take n whole)) ≡ m * n = length_copies m (take n whole) ∙ ap (λ (k : ℕ). m * k) first in
    ext_get_or [] _ _ (left ∙ size ∙ sym right) (λ i l.
    let within : i < total = omega arith in
    let some : 0 < n = some_times n m i (omega arith) in
    let below : i % n < n = mod_below i n some in
    let all : m * length (take n whole) ≡ m * n = ap (λ (k : ℕ). m * k) first in
    get_or-take total new i [] within ∙ item i (omega arith) some fits
    ∙ sym (copied_at (take n whole) m i (omega arith) (omega arith) ∙ ap (λ (k : ℕ). get_or (take n whole) (i % k) []) first ∙ get_or-take n whole (i % n) [] below))

pub repeated_within : (whole new : List (List Bool)) (n total cap : ℕ) (z : ℤ) (fault : Bool) → length new ≡ length whole → cap ≡ length whole → cap ≤ 16 → n ≤ length whole
    → fault ≡ not (nat_le (n * min (copy_count z) 31) cap) → (nat_le (n * min (copy_count z) 31) cap ≡ true → total ≡ n * min (copy_count z) 31)
    → ((k : ℕ) → k < length whole → 0 < n → n ≤ length whole → get_or new k [] ≡ get_or whole (k % n) [])
    → ReadsWithin cap fault (take total new) (repeated (take n whole) z)
repeated_within whole new n total cap z fault long many small fits e sum item =
    let m = copy_count z in
    let first : length (take n whole) ≡ n = length_taken n whole fits in
    let size : length (copies (copy_count z) (take n whole)) ≡ copy_count z * n = length_copies m (take n whole) ∙ ap (λ (k : ℕ). copy_count z * k) first in
    let same = same_limit n m cap small in
    record {
      passes = e ∙ ap not same ∙ ap (λ (k : ℕ). not (nat_le k cap)) (sym size);
      reads_as = λ few.
          let fine : nat_le (copy_count z * n) cap ≡ true = ap (λ (k : ℕ). nat_le k cap) (sym size) ∙ few in
          let le = leb-true (copy_count z * n) cap fine in
          repeated_is whole new n m total cap long many fits le (sum (same ∙ fine) ∙ many_times n m cap small le) item;
    }

-- the same, with what a later state reads
pub wrapped_as : (new : List (List Bool)) {n n' count : ℕ} {xs xs' : List (List Bool)} → n' ≡ n → xs' ≡ xs → length xs ≡ count
    → ((k : ℕ) → k < count → 0 < n' → n' ≤ count → get_or new k [] ≡ get_or xs' (k % n') [])
    → (k : ℕ) → k < length xs → 0 < n → n ≤ length xs → get_or new k [] ≡ get_or xs (k % n) []
wrapped_as new {n} {n'} {count} {xs} {xs'} e f long item k l some fits =
    item k (omega arith) (omega arith) (omega arith) ∙ ap (λ (m : ℕ). get_or xs' (k % m) []) e ∙ ap (λ (v : List (List Bool)). get_or v (k % n) []) f

pub wrap_as : (new : List (List Bool)) (j k : ℕ) {test test' : Bool} {xs xs' ys ys' : List (List Bool)} → test' ≡ test → xs' ≡ xs → ys' ≡ ys
    → get_or new k [] ≡ cond test' (get_or xs' (k % j) []) (get_or ys' k []) → get_or new k [] ≡ cond test (get_or xs (k % j) []) (get_or ys k [])
wrap_as new j k {test} {test'} {xs} {xs'} {ys} {ys'} e f h now =
    now ∙ ap (λ b. cond b (get_or xs' (k % j) []) (get_or ys' k [])) e ∙ ap (λ (v : List (List Bool)). cond test (get_or v (k % j) []) (get_or ys' k [])) f
    ∙ ap (λ (v : List (List Bool)). cond test (get_or xs (k % j) []) (get_or v k [])) h

pub few_of : (n cap : ℕ) → nat_le n cap ≡ true → n ≤ cap
few_of = leb-true

pub product_as : (s : ℕ) (over : Bool) {w n n' m m' : ℕ} → w ≡ 5 → n' ≡ n → m' ≡ m → IsUnsigned w (n' * m') s over → IsUnsigned 5 (n * m) s over
product_as s over {w} {n} {n'} {m} {m'} e f k h =
    subst (λ (a : ℕ). IsUnsigned 5 (a * m) s over) f (subst (λ (b : ℕ). IsUnsigned 5 (n' * b) s over) k (subst (λ (v : ℕ). IsUnsigned v (n' * m') s over) e h))

pub fault_as : {fault : Bool} {n n' m m' cap cap' : ℕ} → n' ≡ n → m' ≡ m → cap' ≡ cap → fault ≡ not (nat_le (n' * m') cap') → fault ≡ not (nat_le (n * m) cap)
fault_as {fault} {n} {n'} {m} {m'} {cap} {cap'} e f k h =
    h ∙ ap (λ (a : ℕ). not (nat_le (a * m') cap')) e ∙ ap (λ (b : ℕ). not (nat_le (n * b) cap')) f ∙ ap (λ (l : ℕ). not (nat_le (n * m) l)) k

pub total_as : {total n n' m m' cap cap' : ℕ} → n' ≡ n → m' ≡ m → cap' ≡ cap → (nat_le (n' * m') cap' ≡ true → total ≡ n' * m') → nat_le (n * m) cap ≡ true → total ≡ n * m
total_as {total} {n} {n'} {m} {m'} {cap} {cap'} e f k h small =
    let size : n' * m' ≡ n * m = ap (λ (a : ℕ). a * m') e ∙ ap (λ (b : ℕ). n * b) f in
    h (ap (λ (a : ℕ). nat_le a cap') size ∙ ap (nat_le (n * m)) k ∙ small) ∙ size
