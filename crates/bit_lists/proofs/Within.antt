-- Texts in texts, place by place.
use Rattle.std.proofs.Common.{◌≡◌, ℕ, zero, suc, ◌+◌, ◌-◌, ◌<◌, ◌≤◌, Bool, false, List, [], ◌∷◌, length, map, take, drop, refl, sym, ap, ◌∙◌, arith, get_or, eqb, ltb, inl, inr}
use Rattle.std.specs.Prelude.{not, ◌&&◌, ◌||◌}
use Rattle.std.proofs.Math.Seq.{drop-nil}
use Rattle.std.proofs.lemmas.Bool.{cases_lt, le-ltb, lt-ltb}
use Rattle.std.proofs.lemmas.List.{get_or-drop, get_or-map, length-drop, length-map, take-map}
use Rattle.mpy_tree.specs.Operations.{is_empty, is_front, is_part}
use Rattle.bit_words.specs.Words.{nat_of}
use Rattle.bit_lists.proofs.Everywhere.{every, every_all, every_front, every_same, every_zero, some, some_front, some_same, some_zero, or_none, or_both, less_first, less_none, less_suc}

-- the characters of a text that stands at the front of another
front_within : (xs ys : List ℕ) (n m : ℕ) → n ≤ length xs → m ≤ length ys
    → every (length xs) (λ k. not (ltb k n) || (ltb k m && eqb (get_or xs k 0) (get_or ys k 0))) ≡ is_front (take n xs) (take m ys)
front_within [] ys zero m h l = every_zero _
front_within [] ys (suc n) m h l = absurd (omega arith)
front_within (x ∷ xs) ys zero m h l =
    every_all (length (x ∷ xs)) _ (λ k lt. ap (λ b. not b || (ltb k m && eqb (get_or (x ∷ xs) k 0) (get_or ys k 0))) (less_none k))
front_within (x ∷ xs) ys (suc n) zero h l =
    let T : ℕ → Bool = λ k. not (ltb k (suc n)) || (ltb k 0 && eqb (get_or (x ∷ xs) k 0) (get_or ys k 0)) in
    every_front (length xs) T
    ∙ ap (λ b. (not b || (ltb 0 0 && eqb x (get_or ys 0 0))) && every (length xs) (λ k. T (suc k))) (less_first n)
    ∙ ap (λ b. (b && eqb x (get_or ys 0 0)) && every (length xs) (λ k. T (suc k))) (less_none 0)
front_within (x ∷ xs) [] (suc n) (suc m) h l = absurd (omega arith)
front_within (x ∷ xs) (y ∷ ys) (suc n) (suc m) h l =
    let T : ℕ → Bool = λ k. not (ltb k (suc n)) || (ltb k (suc m) && eqb (get_or (x ∷ xs) k 0) (get_or (y ∷ ys) k 0)) in
    every_front (length xs) T
    ∙ ap (λ b. (not b || (ltb 0 (suc m) && eqb x y)) && every (length xs) (λ k. T (suc k))) (less_first n)
    ∙ ap (λ b. (b && eqb x y) && every (length xs) (λ k. T (suc k))) (less_first m)
    ∙ ap (λ b. eqb x y && b) (every_same (length xs) (λ k. T (suc k)) _
    (λ k lt. ap (λ b. not b || (ltb (suc k) (suc m) && eqb (get_or xs k 0) (get_or ys k 0))) (less_suc k n)
    ∙ ap (λ b. not (ltb k n) || (b && eqb (get_or xs k 0) (get_or ys k 0))) (less_suc k m)))
    ∙ ap (λ b. eqb x y && b) (front_within xs ys n m (omega arith) (omega arith))

take_none : (n : ℕ) → take n (drop 0 []) ≡ drop {A = ℕ} 0 []
take_none zero = refl
take_none (suc n) = refl

past_both : (a x y : Bool) {t u : Bool} → t ≡ false → u ≡ false → (a || (t && x)) ≡ (a || (u && y))
past_both a x y {t} {u} e f = ap (λ b. a || (b && x)) e ∙ sym (ap (λ b. a || (b && y)) f)

taken_dropped : (s m : ℕ) (ys : List ℕ) → drop s (take m ys) ≡ take (m - s) (drop s ys)
taken_dropped zero m ys = let same : m ≡ m - 0 = omega arith in ap (λ (n : ℕ). take n ys) same
taken_dropped (suc s) zero ys = drop-nil (suc s) ∙ (let none : 0 ≡ 0 - suc s = omega arith in ap (λ (n : ℕ). take n (drop (suc s) ys)) none)
taken_dropped (suc s) (suc m) [] = drop-nil (suc s) ∙ sym (ap (take (suc m - suc s)) (drop-nil (suc s)) ∙ take_none (suc m - suc s))
taken_dropped (suc s) (suc m) (y ∷ ys) =
    let same : m - s ≡ suc m - suc s = omega arith in
    taken_dropped s m ys ∙ ap (λ (n : ℕ). take n (drop s ys)) same

less_apart : (s k m : ℕ) → ltb (s + k) m ≡ ltb k (m - s)
less_apart s k m = elim (cases_lt (s + k) m) [
  | inl lt ↦ lt-ltb (s + k) m lt ∙ sym (lt-ltb k (m - s) (omega arith))
  | inr le ↦ le-ltb (s + k) m le ∙ sym (le-ltb k (m - s) (omega arith))
]

-- the same from a place on, of words
pub front_from : (xs ys : List (List Bool)) (n m s j : ℕ) → j ≡ length xs → length ys ≡ length xs → n ≤ length xs → m ≤ length ys
    → every j (λ k. not (ltb k n) || (ltb (s + k) m && eqb (nat_of (get_or xs k [])) (nat_of (get_or ys (s + k) [])))) ≡ is_front (map nat_of (take n xs)) (drop s (map nat_of (take m ys)))
front_from xs ys n m s j end alike h l =
    let many : length (map nat_of xs) ≡ length xs = simp length-map refl in
    let also : length (drop s (map nat_of ys)) ≡ length ys - s = length-drop s (map nat_of ys) ∙ ap (λ (k : ℕ). k - s) (simp length-map refl) in
    let same = every_same j (λ k. not (ltb k n) || (ltb (s + k) m && eqb (nat_of (get_or xs k [])) (nat_of (get_or ys (s + k) []))))
    (λ k. not (ltb k n) || (ltb k (m - s) && eqb (get_or (map nat_of xs) k 0) (get_or (drop s (map nat_of ys)) k 0)))
    (λ k lt.
    let x = get_or-map nat_of xs k [] 0 (omega arith) in
    elim (cases_lt (s + k) m) [
      | inl below ↦
          let y = get_or-drop s (map nat_of ys) k 0 ∙ get_or-map nat_of ys (s + k) [] 0 (omega arith) in
          let test = less_apart s k m in cc
      | inr past ↦
          let no = le-ltb (s + k) m past in
          let also_no = le-ltb k (m - s) (omega arith) in
          past_both (not (ltb k n)) _ _ no also_no
    ]) in
    let last : j ≡ length (map nat_of xs) = omega arith in
    let front = front_within (map nat_of xs) (drop s (map nat_of ys)) n (m - s) (omega arith) (omega arith) in
    same ∙ ap (λ (i : ℕ). every i (λ k. not (ltb k n) || (ltb k (m - s) && eqb (get_or (map nat_of xs) k 0) (get_or (drop s (map nat_of ys)) k 0)))) last ∙ front
    ∙ ap (λ v. is_front v (take (m - s) (drop s (map nat_of ys)))) (take-map nat_of n xs)
    ∙ ap (is_front (map nat_of (take n xs))) (sym (taken_dropped s m (map nat_of ys)) ∙ ap (drop s) (take-map nat_of m ys))

front_none : (cs : List ℕ) → is_front cs [] ≡ is_empty cs
front_none [] = refl
front_none (c ∷ cs) = refl

some_always : (b : Bool) (j : ℕ) → some (suc j) (λ k. b) ≡ b
some_always b zero = some_front 0 (λ k. b) ∙ ap (λ t. b || t) (some_zero _) ∙ or_none b
some_always b (suc j) = some_front (suc j) (λ k. b) ∙ ap (λ t. b || t) (some_always b j) ∙ or_both b

front_last : (cs : List ℕ) (d : ℕ) (none : Bool) → none ≡ false → (is_front cs (d ∷ []) || none) ≡ (is_front cs (d ∷ []) || is_empty cs)
front_last [] d none e = refl
front_last (c ∷ cs) d none e = ap (λ b. is_front (c ∷ cs) (d ∷ []) || b) e

-- a text that stands somewhere stands at one of the places
pub part_within : (cs zs : List ℕ) (j : ℕ) → 0 < j → length zs ≤ j → some j (λ s. is_front cs (drop s zs)) ≡ is_part cs zs
part_within cs zs zero some h = absurd (omega arith)
part_within cs [] (suc j) h l =
    some_same (suc j) (λ s. is_front cs (drop s [])) (λ s. is_front cs []) (λ s lt. ap (is_front cs) (drop-nil s)) ∙ some_always (is_front cs []) j ∙ front_none cs
part_within cs (d ∷ []) (suc zero) h l = some_front 0 (λ s. is_front cs (drop s (d ∷ []))) ∙ front_last cs d _ (some_zero _)
part_within cs (d ∷ e ∷ zs) (suc zero) h l = absurd (omega arith)
part_within cs (d ∷ zs) (suc (suc j)) h l = some_front (suc j) (λ s. is_front cs (drop s (d ∷ zs))) ∙ ap (λ b. is_front cs (d ∷ zs) || b) (part_within cs zs (suc j) (omega arith) (omega arith))

-- a place past the text's end
pub agrees_past : (n m place spot : ℕ) (r e : Bool) → r ≡ not (ltb place n) → m ≤ spot → r ≡ (not (ltb place n) || (ltb spot m && e))
agrees_past n m place spot r e h l = h ∙ sym (ap (λ b. not (ltb place n) || (b && e)) (le-ltb spot m l) ∙ or_none (not (ltb place n)))

pub agrees_as : (place spot : ℕ) {r past past' found : Bool} {n n' m m' x x' y y' : ℕ} → r ≡ (past' || found) → past' ≡ past → past ≡ not (ltb place n') → n' ≡ n
    → found ≡ (ltb spot m' && eqb x' y') → m' ≡ m → x' ≡ x → y' ≡ y → r ≡ (not (ltb place n) || (ltb spot m && eqb x y))
agrees_as place spot {r} {past} {past'} {found} {n} {n'} {m} {m'} {x} {x'} {y} {y'} e f h k l a b c =
    let left = f ∙ h ∙ ap (λ (i : ℕ). not (ltb place i)) k in
    let right = l ∙ ap (λ (i : ℕ). ltb spot i && eqb x' y') a ∙ ap (λ (i : ℕ). ltb spot m && eqb i y') b ∙ ap (λ (i : ℕ). ltb spot m && eqb x i) c in
    e ∙ ap (λ v. v || found) left ∙ ap (λ v. not (ltb place n) || v) right

-- the same with what a later state reads
pub agrees_later : (place start : ℕ) {r : Bool} {n n' m m' : ℕ} {xs xs' ys ys' : List (List Bool)} → n' ≡ n → m' ≡ m → xs' ≡ xs → ys' ≡ ys
    → r ≡ (not (ltb place n') || (ltb (start + place) m' && eqb (nat_of (get_or xs' place [])) (nat_of (get_or ys' (start + place) []))))
    → r ≡ (not (ltb place n) || (ltb (start + place) m && eqb (nat_of (get_or xs place [])) (nat_of (get_or ys (start + place) []))))
agrees_later place start {r} {n} {n'} {m} {m'} {xs} {xs'} {ys} {ys'} e f h k l =
    l ∙ ap (λ (i : ℕ). not (ltb place i) || (ltb (start + place) m' && eqb (nat_of (get_or xs' place [])) (nat_of (get_or ys' (start + place) [])))) e
    ∙ ap (λ (i : ℕ). not (ltb place n) || (ltb (start + place) i && eqb (nat_of (get_or xs' place [])) (nat_of (get_or ys' (start + place) [])))) f
    ∙ ap (λ (v : List (List Bool)). not (ltb place n) || (ltb (start + place) m && eqb (nat_of (get_or v place [])) (nat_of (get_or ys' (start + place) [])))) h
    ∙ ap (λ (v : List (List Bool)). not (ltb place n) || (ltb (start + place) m && eqb (nat_of (get_or xs place [])) (nat_of (get_or v (start + place) [])))) k

pub front_later : (s : ℕ) {r : Bool} {n n' m m' : ℕ} {xs xs' ys ys' : List (List Bool)} → n' ≡ n → m' ≡ m → xs' ≡ xs → ys' ≡ ys
    → r ≡ is_front (map nat_of (take n' xs')) (drop s (map nat_of (take m' ys'))) → r ≡ is_front (map nat_of (take n xs)) (drop s (map nat_of (take m ys)))
front_later s {r} {n} {n'} {m} {m'} {xs} {xs'} {ys} {ys'} e f h k l =
    l ∙ ap (λ (i : ℕ). is_front (map nat_of (take i xs')) (drop s (map nat_of (take m' ys')))) e ∙ ap (λ (i : ℕ). is_front (map nat_of (take n xs')) (drop s (map nat_of (take i ys')))) f
    ∙ ap (λ (v : List (List Bool)). is_front (map nat_of (take n v)) (drop s (map nat_of (take m ys')))) h ∙ ap (λ (v : List (List Bool)). is_front (map nat_of (take n xs)) (drop s (map nat_of (take m v)))) k
