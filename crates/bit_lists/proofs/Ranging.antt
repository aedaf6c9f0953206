-- The numbers of a range, one after another.
use Rattle.std.proofs.Common.{◌≡◌, ℕ, zero, suc, ◌+◌, ◌-◌, ◌*◌, ◌/◌, ◌^◌, ◌<◌, ◌≤◌, Bool, true, false, List, [], ◌∷◌, ◌++◌, length, map, take, refl, sym, ap, ◌∙◌, arith, get_or, cond, ltb, inl, inr, length-append, subst}
use Rattle.std.specs.Prelude.{ℤ, pos, negsuc, ◌+ℤ◌, ◌-ℤ◌, ◌*ℤ◌, neg_ℤ, nat_abs, not, ◌&&◌, nat_le, min, ◌⊎◌}
use Rattle.std.specs.Int.Signed.{lt_z}
use Rattle.std.proofs.Math.IntN.{negsuc-*ℤ-pos, pos-*ℤ-pos}
use Rattle.std.proofs.Math.Nat.{le-div_iff_mul-le, min-eq_left, min-eq_right, mul_comm}
use Rattle.std.proofs.lemmas.Int.{ints}
use Rattle.std.proofs.lemmas.Bool.{cases_lt, le-ltb, leb-true, lt-ltb, ltb-false, ltb-true}
use Rattle.std.proofs.lemmas.Bool.Decides.{nat_tests}
use Rattle.std.proofs.lemmas.List.{ext_get_or, get_or-map, get_or-take, get_or_append_left, length-map, map_push}
use Rattle.std.proofs.Math.Seq.{get_or-append_seam}
use Rattle.mpy_tree.specs.Operations.{ahead, before, below, is_zero, progression, range_count}
use Rattle.bit_words.specs.Words.{fits, int_of, is_negative, is_within, nat_of}
use Rattle.bit_words.proofs.Integers.{within}
use Rattle.bit_words.proofs.Decided.{read_fits}
use Rattle.bit_words.proofs.Naturals.{power_double}
use Rattle.bit_lists.specs.Ranges.{RangeIs}
use Rattle.bit_lists.proofs.Indexes.{more_within}
use Rattle.bit_lists.proofs.Joining.{length_taken}

-- how far two numbers are apart
gap_of : (a b : ℤ) → ((d : ℕ) × (b ≡ a +ℤ pos d)) ⊎ ((d : ℕ) × (a ≡ b +ℤ pos (suc d)))
gap_of (pos m) (pos n) = elim (cases_lt n m) [
  | inl lt ↦ inr (m - suc n, omega (arith, ints))
  | inr le ↦ inl (n - m, omega (arith, ints))
]
gap_of (pos m) (negsuc n) = inr (m + n, omega (arith, ints))
gap_of (negsuc m) (pos n) = inl (suc m + n, omega (arith, ints))
gap_of (negsuc m) (negsuc n) = elim (cases_lt m n) [
  | inl lt ↦ inr (n - suc m, omega (arith, ints))
  | inr le ↦ inl (m - n, omega (arith, ints))
]

lower_yes : (x y : ℤ) (d : ℕ) → y ≡ x +ℤ pos (suc d) → lt_z x y ≡ true
lower_yes x y d e = grind (arith, ints)

lower_no : (x y : ℤ) (d : ℕ) → x ≡ y +ℤ pos d → lt_z x y ≡ false
lower_no x y d e = grind (arith, ints)

-- a number p above a beside one that is d above a
rising : (a b : ℤ) (p d : ℕ) → b ≡ a +ℤ pos d → lt_z (a +ℤ pos p) b ≡ ltb p d
rising a b p d e = elim (cases_lt p d) [
  | inl lt ↦ lower_yes (a +ℤ pos p) b (d - suc p) (omega (arith, ints)) ∙ sym (lt-ltb p d lt)
  | inr le ↦ lower_no (a +ℤ pos p) b (p - d) (omega (arith, ints)) ∙ sym (le-ltb p d le)
]

falling : (a b : ℤ) (p d : ℕ) → a ≡ b +ℤ pos d → lt_z b (a +ℤ neg_ℤ (pos p)) ≡ ltb p d
falling a b p d e = elim (cases_lt p d) [
  | inl lt ↦ lower_yes b (a +ℤ neg_ℤ (pos p)) (d - suc p) (omega (arith, ints)) ∙ sym (lt-ltb p d lt)
  | inr le ↦ lower_no b (a +ℤ neg_ℤ (pos p)) (p - d) (omega (arith, ints)) ∙ sym (le-ltb p d le)
]

zero_or : (d : ℕ) → cond (ltb 0 d) d 0 ≡ d
zero_or zero = ap (λ b. cond b 0 0) (le-ltb 0 0 (omega arith))
zero_or (suc d) = ap (λ b. cond b (suc d) 0) (lt-ltb 0 (suc d) (omega arith))

far_up : (a b : ℤ) (d : ℕ) → b ≡ a +ℤ pos d → cond (lt_z a b) (nat_abs (b -ℤ a)) 0 ≡ d
far_up a b d e =
    let apart : b -ℤ a ≡ pos d = omega (arith, ints) in
    let none : a +ℤ pos 0 ≡ a = omega (arith, ints) in
    ap (λ (z : ℤ). cond (lt_z a b) (nat_abs z) 0) apart ∙ ap (λ (z : ℤ). cond (lt_z z b) d 0) (sym none) ∙ ap (λ t. cond t d 0) (rising a b 0 d e) ∙ zero_or d

not_up : (a b : ℤ) (d : ℕ) → a ≡ b +ℤ pos d → cond (lt_z a b) (nat_abs (b -ℤ a)) 0 ≡ 0
not_up a b d e = ap (λ t. cond t (nat_abs (b -ℤ a)) 0) (lower_no a b d e)

far_down : (a b : ℤ) (d : ℕ) → a ≡ b +ℤ pos (suc d) → cond (lt_z b a) (nat_abs (b -ℤ a)) 0 ≡ suc d
far_down a b d e =
    let apart : b -ℤ a ≡ negsuc d = omega (arith, ints) in
    ap (λ (z : ℤ). cond (lt_z b a) (nat_abs z) 0) apart ∙ ap (λ t. cond t (suc d) 0) (lower_yes b a d e)

not_down : (a b : ℤ) (d : ℕ) → b ≡ a +ℤ pos d → cond (lt_z b a) (nat_abs (b -ℤ a)) 0 ≡ 0
not_down a b d e = ap (λ t. cond t (nat_abs (b -ℤ a)) 0) (lower_no b a d e)

-- the k-th number stands before the end where k steps are shorter than the way
before_at : (a b c : ℤ) (k : ℕ) → before c (a +ℤ (c *ℤ pos k)) b ≡ ltb (k * nat_abs c) (ahead a b c)
before_at a b (pos c) k =
    let way = pos-*ℤ-pos c k ∙ ap pos (mul_comm c k) in
    ap (λ (z : ℤ). lt_z (a +ℤ z) b) way
    ∙ elim (gap_of a b) [
      | inl (d, e) ↦ rising a b (k * c) d e ∙ ap (ltb (k * c)) (sym (far_up a b d e))
      | inr (d, e) ↦ lower_no (a +ℤ pos (k * c)) b (suc d + k * c) (omega (arith, ints)) ∙ sym (le-ltb (k * c) 0 (omega arith)) ∙ ap (ltb (k * c)) (sym (not_up a b (suc d) e))
    ]
before_at a b (negsuc c) k =
    let way = negsuc-*ℤ-pos c k ∙ ap (λ (n : ℕ). neg_ℤ (pos n)) (mul_comm (suc c) k) in
    ap (λ (z : ℤ). lt_z b (a +ℤ z)) way
    ∙ elim (gap_of a b) [
      | inl (d, e) ↦ lower_no b (a +ℤ neg_ℤ (pos (k * suc c))) (d + k * suc c) (omega (arith, ints)) ∙ sym (le-ltb (k * suc c) 0 (omega arith)) ∙ ap (ltb (k * suc c)) (sym (not_down a b d e))
      | inr (d, e) ↦ falling a b (k * suc c) (suc d) e ∙ ap (ltb (k * suc c)) (sym (far_down a b d e))
    ]

count_at : (d m k : ℕ) → 0 < m → ltb (k * m) d ≡ ltb k ((d + (m - 1)) / m)
count_at d m k some =
    let whole = le-div_iff_mul-le {k = m} {x = suc k} {y = d + (m - 1)} some in
    let more : suc k * m ≡ m + k * m = omega arith in
    elim (cases_lt (k * m) d) [
      | inl lt ↦ let fits : suc k ≤ (d + (m - 1)) / m = whole.1 (omega arith) in lt-ltb (k * m) d lt ∙ sym (lt-ltb k ((d + (m - 1)) / m) (omega arith))
      | inr le ↦
          le-ltb (k * m) d le
          ∙ elim (cases_lt k ((d + (m - 1)) / m)) [
            | inl above ↦ let large : suc k * m ≤ d + (m - 1) = whole.0 (omega arith) in absurd (omega arith)
            | inr least ↦ sym (le-ltb k ((d + (m - 1)) / m) least)
          ]
    ]

some_step : (c : ℤ) → is_zero c ≡ false → 0 < nat_abs c
some_step (pos zero) h = cc
some_step (pos (suc n)) h = omega arith
some_step (negsuc n) h = omega arith

-- the k-th number stands before the end where there are more than k
pub before_count : (a b c : ℤ) (k : ℕ) → is_zero c ≡ false → before c (a +ℤ (c *ℤ pos k)) b ≡ ltb k (range_count a b c)
before_count a b c k h = before_at a b c k ∙ count_at (ahead a b c) (nat_abs c) k (some_step c h)

-- a number between two that are small is small
inside_of : (p : ℕ) (z : ℤ) → is_within p z ≡ true → (n : ℕ) × (z +ℤ pos p ≡ pos n) × (n < p + p)
inside_of p (pos m) h = let small = ltb-true m p h in (m + p, omega (arith, ints), omega arith)
inside_of p (negsuc m) h = let small = ltb-true m p h in (p - suc m, omega (arith, ints), omega arith)

between : (p : ℕ) (x z y : ℤ) (i j : ℕ) → z ≡ x +ℤ pos i → y ≡ z +ℤ pos j → is_within p x ≡ true → is_within p y ≡ true → is_within p z ≡ true
between p x z y i j e f h k =
    let low = inside_of p x h in
    let high = inside_of p y k in
    let first = low.1 in
    let last = high.1 in
    let small = high.2 in
    within p z (low.0 + i) (omega (arith, ints)) (omega (arith, ints))

back_up : (a z : ℤ) (p : ℕ) → z ≡ neg_ℤ (pos p) → a ≡ a +ℤ z +ℤ pos p
back_up a z p e = omega (arith, ints)

pub number_fits : (p : ℕ) (a b c : ℤ) (k : ℕ) → is_within p a ≡ true → is_within p b ≡ true → before c (a +ℤ (c *ℤ pos k)) b ≡ true → is_within p (a +ℤ (c *ℤ pos k)) ≡ true
number_fits p a b (pos c) k h l e =
    let way : pos c *ℤ pos k ≡ pos (c * k) = pos-*ℤ-pos c k in
    elim (gap_of (a +ℤ (pos c *ℤ pos k)) b) [
      | inl (d, f) ↦ between p a (a +ℤ (pos c *ℤ pos k)) b (c * k) d (ap (λ (z : ℤ). a +ℤ z) way) f h l
      | inr (d, f) ↦ let no = lower_no (a +ℤ (pos c *ℤ pos k)) b (suc d) f in cc
    ]
number_fits p a b (negsuc c) k h l e =
    let way : negsuc c *ℤ pos k ≡ neg_ℤ (pos (suc c * k)) = negsuc-*ℤ-pos c k in
    elim (gap_of b (a +ℤ (negsuc c *ℤ pos k))) [
      | inl (d, f) ↦ between p b (a +ℤ (negsuc c *ℤ pos k)) a d (suc c * k) f (back_up a (negsuc c *ℤ pos k) (suc c * k) way) l h
      | inr (d, f) ↦ let no = lower_no b (a +ℤ (negsuc c *ℤ pos k)) (suc d) f in cc
    ]

pub sum_within_fits : (p : ℕ) (x y : ℤ) → is_within p x ≡ true → is_within p y ≡ true → is_within (p + p) (x +ℤ y) ≡ true
sum_within_fits p x y h k =
    let first = inside_of p x h in
    let second = inside_of p y k in
    let one = first.1 in
    let two = second.1 in
    let small = first.2 in
    let also = second.2 in
    within (p + p) (x +ℤ y) (first.0 + second.0) (omega (arith, ints)) (omega arith)

next_number : (a c : ℤ) (k : ℕ) → a +ℤ (c *ℤ pos k) +ℤ c ≡ a +ℤ (c *ℤ pos (k + 1))
next_number a (pos c) k =
    let one = pos-*ℤ-pos c k in
    let two = pos-*ℤ-pos c (k + 1) in
    let more : c * (k + 1) ≡ c * k + c = omega arith in
    omega (arith, ints)
next_number a (negsuc c) k =
    let one = negsuc-*ℤ-pos c k in
    let two = negsuc-*ℤ-pos c (k + 1) in
    let more : suc c * (k + 1) ≡ suc c * k + suc c = omega arith in
    omega (arith, ints)

no_steps : (a c : ℤ) → a +ℤ (c *ℤ pos 0) ≡ a
no_steps a (pos c) =
    let one = pos-*ℤ-pos c 0 in
    let none : c * 0 ≡ 0 = omega arith in
    omega (arith, ints)
no_steps a (negsuc c) =
    let one = negsuc-*ℤ-pos c 0 in
    let none : suc c * 0 ≡ 0 = omega arith in
    omega (arith, ints)

dead : {number other : ℤ} {more : Bool} → more ≡ false → more ≡ true → number ≡ other
dead e t = cc

-- what is known of the number to which a range has come
pub record At (a b c number : ℤ) (k : ℕ) (alive : Bool) : Type 0 where
  pub counted : alive ≡ ltb k (range_count a b c)
  pub reads : alive ≡ true → number ≡ a +ℤ (c *ℤ pos k)

pub starts : (a b c : ℤ) (alive : Bool) → is_zero c ≡ false → alive ≡ before c a b → At a b c a 0 alive
starts a b c alive some e =
    let none : a +ℤ (c *ℤ pos 0) ≡ a = no_steps a c in
    record {
      counted = e ∙ ap (λ (z : ℤ). before c z b) (sym none) ∙ before_count a b c 0 some;
      reads = λ h. sym none;
    }

pub alive_fits : (p : ℕ) (a b c number : ℤ) (k : ℕ) (alive : Bool) → is_zero c ≡ false → is_within p a ≡ true → is_within p b ≡ true → At a b c number k alive → alive ≡ true → is_within p number ≡ true
alive_fits p a b c number k alive some h l s e =
    let here = number_fits p a b c k h l (before_count a b c k some ∙ sym s.counted ∙ e) in
    ap (is_within p) (s.reads e) ∙ here

pub goes_on : (p : ℕ) (a b c number next : ℤ) (k : ℕ) (alive more : Bool) → is_zero c ≡ false → is_within p a ≡ true → is_within p b ≡ true → is_within p c ≡ true
    → At a b c number k alive → (is_within (p + p) (number +ℤ c) ≡ true → next ≡ number +ℤ c) → more ≡ (alive && before c next b) → At a b c next (k + 1) more
goes_on p a b c number next k true more some h l m s sum e =
    let here = alive_fits p a b c number k true some h l s refl in
    let step : next ≡ a +ℤ (c *ℤ pos (k + 1)) = sum (sum_within_fits p number c here m) ∙ ap (λ (z : ℤ). z +ℤ c) (s.reads refl) ∙ next_number a c k in
    record { counted = e ∙ ap (λ (z : ℤ). before c z b) step ∙ before_count a b c (k + 1) some; reads = λ t. step }
goes_on p a b c number next k false more some h l m s sum e =
    let least = ltb-false k (range_count a b c) (sym s.counted) in
    record { counted = e ∙ sym (le-ltb (k + 1) (range_count a b c) (omega arith)); reads = λ t. dead e t }

-- one more of the numbers that are counted
pub counts_on : (a b c number : ℤ) (k len next : ℕ) (alive : Bool) → At a b c number k alive → len ≡ min (range_count a b c) k → next ≡ cond alive (k + 1) len → next ≡ min (range_count a b c) (k + 1)
counts_on a b c number k len next true s e f =
    let lt = ltb-true k (range_count a b c) (sym s.counted) in f ∙ sym (min-eq_right (omega arith))
counts_on a b c number k len next false s e f =
    let least = ltb-false k (range_count a b c) (sym s.counted) in
    f ∙ e ∙ min-eq_left least ∙ sym (min-eq_left (omega arith))

length_below : (n : ℕ) → length (below n) ≡ n
length_below zero = refl
length_below (suc n) = let rest = length_below n in simp length-append (omega arith)

below_at : (n k : ℕ) → k < n → get_or (below n) k 0 ≡ k
below_at zero k h = absurd (omega arith)
below_at (suc n) k h =
    let long = length_below n in
    elim (cases_lt k n) [
      | inl lt ↦ get_or_append_left (below n) (n ∷ []) 0 k (omega arith) ∙ below_at n k lt
      | inr le ↦
          let same : k ≡ length (below n) = omega arith in
          ap (λ (i : ℕ). get_or (below n ++ n ∷ []) i 0) same ∙ get_or-append_seam (below n) n [] 0 ∙ sym (same ∙ long)
    ]

listed_are : (a c : ℤ) (new : List (List Bool)) (n : ℕ) → n ≤ length new → ((k : ℕ) → k < n → int_of (get_or new k []) ≡ a +ℤ (c *ℤ pos k)) → map int_of (take n new) ≡ progression a c n
listed_are a c new n fits item =
    let first : length (take n new) ≡ n = length_taken n new fits in
    let left : length (map int_of (take n new)) ≡ n = simp length-map first in
    let below_long = length_below n in
    let right : length (map (λ (k : ℕ). a +ℤ (c *ℤ pos k)) (below n)) ≡ n = simp length-map below_long in
    ext_get_or (pos 0) _ _ (left ∙ sym right) (λ i l.
    let lt : i < n = omega arith in
    get_or-map int_of (take n new) i [] (pos 0) (omega arith) ∙ ap int_of (get_or-take n new i [] lt) ∙ item i lt
    ∙ sym (get_or-map (λ (k : ℕ). a +ℤ (c *ℤ pos k)) (below n) i 0 (pos 0) (omega arith) ∙ ap (λ (k : ℕ). a +ℤ (c *ℤ pos k)) (below_at n i lt)))

-- whether a number passes another
pub passing : (n cap : ℕ) → ltb cap n ≡ not (nat_le n cap)
passing n cap = grind (arith, nat_tests)

pub range_is : (a b c number : ℤ) (new : List (List Bool)) (len cap : ℕ) (fault : Bool) → length new ≡ cap → len ≡ min (range_count a b c) cap → At a b c number cap fault
    → ((k : ℕ) → k < cap → ltb k (range_count a b c) ≡ true → int_of (get_or new k []) ≡ a +ℤ (c *ℤ pos k)) → RangeIs cap fault (take len new) a b c
range_is a b c number new len cap fault long size s item = record {
  passes = s.counted ∙ passing (range_count a b c) cap;
  reads_as = λ few.
      let le = leb-true (range_count a b c) cap few in
      let all = size ∙ min-eq_left le in
      ap (λ (n : ℕ). map int_of (take n new)) all ∙ listed_are a c new (range_count a b c) (omega arith) (λ k l. item k (omega arith) (lt-ltb k (range_count a b c) l));
}

-- which comparison says it
pub before_by : (c x y : ℤ) → cond (is_negative c) (lt_z y x) (lt_z x y) ≡ before c x y
before_by (pos c) x y = refl
before_by (negsuc c) x y = refl

-- an item that is read as a number, where it is one of the range
pub one_item : (p : ℕ) (a b c number item : ℤ) (k : ℕ) (alive : Bool) → is_zero c ≡ false → is_within p a ≡ true → is_within p b ≡ true → At a b c number k alive
    → (is_within p number ≡ true → item ≡ number) → ltb k (range_count a b c) ≡ true → item ≡ a +ℤ (c *ℤ pos k)
one_item p a b c number item k alive some h l s narrow e =
    let here : alive ≡ true = s.counted ∙ e in
    narrow (alive_fits p a b c number k alive some h l s here) ∙ s.reads here

-- a property of each word, and one word more
pub push_each : {B : Type 0} (P : ℕ → List Bool → Type 0) (f f' : B → Bool) (out out' : List (List B)) (w : List B) (i : ℕ) → length out ≡ i → map (map f') out ≡ map (map f) out
    → ((k : ℕ) → k < i → P k (get_or (map (map f) out) k [])) → P i (map f' w) → out' ≡ out ++ w ∷ [] → (k : ℕ) → k < i + 1 → P k (get_or (map (map f') out') k [])
push_each P f f' out out' w i long kept before now e k h =
    let whole : map (map f') out' ≡ map (map f) out ++ map f' w ∷ [] = ap (map (map f')) e ∙ map_push (map f') out w ∙ ap (λ v. v ++ map f' w ∷ []) kept in
    let long' : length (map (map f) out) ≡ i = simp length-map long in
    elim (cases_lt k i) [
      | inl lt ↦ subst (P k) (sym (ap (λ v. get_or v k []) whole ∙ get_or_append_left (map (map f) out) (map f' w ∷ []) [] k (omega arith))) (before k lt)
      | inr le ↦
          let same : k ≡ i = omega arith in
          let spot : i ≡ length (map (map f) out) = omega arith in
          subst (λ (n : ℕ). P n (get_or (map (map f') out') n [])) (sym same)
          (subst (P i) (sym (ap (λ v. get_or v i []) whole ∙ ap (λ (n : ℕ). get_or (map (map f) out ++ map f' w ∷ []) n []) spot ∙ get_or-append_seam (map (map f) out) (map f' w) [] [])) now)
    ]

-- the power of one bit more
pub longer_power : (n : ℕ) → 0 < n → 2 ^ (n + 1 - 1) ≡ 2 ^ (n - 1) + 2 ^ (n - 1)
longer_power n h =
    let e : n + 1 - 1 ≡ suc (n - 1) = omega arith in
    ap (λ (k : ℕ). 2 ^ k) e ∙ power_double (n - 1)

-- a word's number fits one bit more
pub fits_longer : {B : Type 0} (f : B → Bool) (w : List B) (n : ℕ) → n ≡ length w → 0 < n → fits (n + 1) (int_of (map f w)) ≡ true
fits_longer f w n e h =
    let least = more_within (2 ^ (n - 1)) (2 ^ (n - 1) + 2 ^ (n - 1)) (int_of (map f w)) (omega arith) (read_fits f w n (sym e) h) in
    subst (λ (q : ℕ). is_within q (int_of (map f w)) ≡ true) (sym (longer_power n h)) least

-- the same with what a later state reads
pub before_as : (c : ℤ) {r t : Bool} {x x' y y' : ℤ} {u d : Bool} → r ≡ cond t d u → t ≡ is_negative c → u ≡ lt_z x' y' → d ≡ lt_z y' x' → x' ≡ x → y' ≡ y → r ≡ before c x y
before_as c {r} {t} {x} {x'} {y} {y'} {u} {d} e f h k l m =
    let up = h ∙ ap (λ (z : ℤ). lt_z z y') l ∙ ap (lt_z x) m in
    let down = k ∙ ap (λ (z : ℤ). lt_z z x') m ∙ ap (lt_z y) l in
    e ∙ ap (λ b. cond b d u) f ∙ ap (λ b. cond (is_negative c) b u) down ∙ ap (λ b. cond (is_negative c) (lt_z y x) b) up ∙ before_by c x y

pub chosen_number : (t : Bool) (r x y : List Bool) (n m : ℕ) → r ≡ cond t x y → nat_of x ≡ n → nat_of y ≡ m → nat_of r ≡ cond t n m
chosen_number true r x y n m e h k = ap nat_of e ∙ h
chosen_number false r x y n m e h k = ap nat_of e ∙ k

pub less_later : {x x' y y' : ℤ} → x ≡ x' → y ≡ y' → lt_z x y ≡ lt_z x' y'
less_later {x} {x'} {y} {y'} e f = ap (λ (z : ℤ). lt_z z y) e ∙ ap (lt_z x') f

pub alive_as : {r a a' b : Bool} {c c' x x' y y' : ℤ} → r ≡ (a' && b) → a' ≡ a → b ≡ before c' x' y' → c' ≡ c → x' ≡ x → y' ≡ y → r ≡ (a && before c x y)
alive_as {r} {a} {a'} {b} {c} {c'} {x} {x'} {y} {y'} e f h k l m =
    e ∙ ap (λ t. t && b) f ∙ ap (λ t. a && t) (h ∙ ap (λ (z : ℤ). before z x' y') k ∙ ap (λ (z : ℤ). before c z y') l ∙ ap (before c x) m)

-- what is known of the first numbers of a range
pub record Listed (j : ℕ) (a b c number : ℤ) (alive : Bool) (len : ℕ) (items : List (List Bool)) : Type 0 where
  pub here : At a b c number j alive
  pub size : len ≡ min (range_count a b c) j
  pub each : (k : ℕ) → k < j → ltb k (range_count a b c) ≡ true → int_of (get_or items k []) ≡ a +ℤ (c *ℤ pos k)

pub none_listed : (a b c : ℤ) (alive : Bool) (len : ℕ) (items : List (List Bool)) → is_zero c ≡ false → alive ≡ before c a b → len ≡ 0 → Listed 0 a b c a alive len items
none_listed a b c alive len items some e size = record {
  here = starts a b c alive some e;
  size = size ∙ sym (min-eq_right (omega arith));
  each = λ k l. absurd (omega arith);
}

pub listed_more : {B : Type 0} (w : ℕ) (a b c number next : ℤ) (f f' : B → Bool) (out out' : List (List B)) (item : List B) (j len new : ℕ) (alive more : Bool) → 0 < w → is_zero c ≡ false
    → fits w a ≡ true → fits w b ≡ true → fits w c ≡ true → Listed j a b c number alive len (map (map f) out) → length out ≡ j → map (map f') out ≡ map (map f) out → out' ≡ out ++ item ∷ []
    → (fits w number ≡ true → int_of (map f' item) ≡ number) → new ≡ cond alive (j + 1) len → (fits (w + 1) (number +ℤ c) ≡ true → next ≡ number +ℤ c) → more ≡ (alive && before c next b)
    → Listed (j + 1) a b c next more new (map (map f') out')
listed_more w a b c number next f f' out out' item j len new alive more wide some h l m past long kept e narrow size sum still = record {
  here = goes_on (2 ^ (w - 1)) a b c number next j alive more some h l m past.here (λ t. sum (ap (λ (p : ℕ). is_within p (number +ℤ c)) (longer_power w wide) ∙ t)) still;
  size = counts_on a b c number j len new alive past.here past.size size;
  each = push_each (λ (k : ℕ) v. ltb k (range_count a b c) ≡ true → int_of v ≡ a +ℤ (c *ℤ pos k)) f f' out out' item j long kept past.each
      (one_item (2 ^ (w - 1)) a b c number (int_of (map f' item)) j alive some h l past.here narrow) e;
}

pub all_listed : (a b c number : ℤ) (new : List (List Bool)) (len j cap : ℕ) (fault : Bool) → j ≡ cap → length new ≡ cap → Listed j a b c number fault len new → RangeIs cap fault (take len new) a b c
all_listed a b c number new len j cap fault end long s =
    subst (λ (n : ℕ). RangeIs n fault (take len new) a b c) end (range_is a b c number new len j fault (long ∙ sym end) s.size s.here s.each)

pub few_more : (t : Bool) (k len new : ℕ) → new ≡ cond t (k + 1) len → len ≤ k → new ≤ k + 1
few_more true k len new e h = omega arith
few_more false k len new e h = omega arith

pub sum_as : {next n n' c c' : ℤ} {k k' : ℕ} → n' ≡ n → c' ≡ c → k ≡ k' → (fits k (n' +ℤ c') ≡ true → next ≡ n' +ℤ c') → fits k' (n +ℤ c) ≡ true → next ≡ n +ℤ c
sum_as {next} {n} {n'} {c} {c'} {k} {k'} e f h sum t =
    let same : n' +ℤ c' ≡ n +ℤ c = ap (λ (z : ℤ). z +ℤ c') e ∙ ap (λ (z : ℤ). n +ℤ z) f in
    sum (ap (λ (i : ℕ). fits i (n' +ℤ c')) h ∙ ap (fits k') same ∙ t) ∙ same

pub range_as : (cap : ℕ) (fault : Bool) (read : List (List Bool)) {a a' b b' c c' : ℤ} → a' ≡ a → b' ≡ b → c' ≡ c → RangeIs cap fault read a' b' c' → RangeIs cap fault read a b c
range_as cap fault read {a} {a'} {b} {b'} {c} {c'} e f h r =
    subst (λ (z : ℤ). RangeIs cap fault read z b c) e (subst (λ (z : ℤ). RangeIs cap fault read a' z c) f (subst (λ (z : ℤ). RangeIs cap fault read a' b' z) h r))

pub before_later : {c c' x x' y y' : ℤ} → c ≡ c' → x ≡ x' → y ≡ y' → before c x y ≡ before c' x' y'
before_later {c} {c'} {x} {x'} {y} {y'} e f h = ap (λ (z : ℤ). before z x y) e ∙ ap (λ (z : ℤ). before c' z y) f ∙ ap (before c' x') h
