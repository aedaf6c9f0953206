-- Lists end to end, and a list with one item more, by their items.
use Rattle.std.proofs.Common.{◌≡◌, ℕ, zero, suc, ◌+◌, ◌-◌, ◌<◌, ◌≤◌, Bool, true, false, List, [], ◌∷◌, ◌++◌, length, take, refl, sym, ap, ◌∙◌, arith, get_or, cond, ltb, eqb, inl, inr, length-append, subst}
use Rattle.std.proofs.lemmas.Bool.{cases_lt, leb-true}
use Rattle.std.proofs.lemmas.Bool.Decides.{nat_tests}
use Rattle.std.proofs.lemmas.List.{ext_get_or, get_or-take, get_or_append_left, get_or-append_right}
use Rattle.bit_lists.specs.declared.shifts.Direction.TheVariants.{Up}
use Rattle.bit_lists.specs.Moves.{IsMoved}
use Rattle.bit_lists.specs.Lists.{ReadsWithin}
use Rattle.std.specs.Prelude.{not, nat_le}

pub length_taken : {A : Type 0} (n : ℕ) (xs : List A) → n ≤ length xs → length (take n xs) ≡ n
length_taken zero xs h = refl
length_taken (suc n) [] h = absurd (omega arith)
length_taken (suc n) (x ∷ xs) h = ap suc (length_taken n xs (omega arith))

chosen_front : (i n : ℕ) (x y : List Bool) → i < n → cond (ltb i n) x y ≡ x
chosen_front i n x y h = let test : ltb i n ≡ true = grind (arith, nat_tests) in ap (λ b. cond b x y) test

chosen_back : (i n : ℕ) (x y : List Bool) → n ≤ i → cond (ltb i n) x y ≡ y
chosen_back i n x y h = let test : ltb i n ≡ false = grind (arith, nat_tests) in ap (λ b. cond b x y) test

pub joined_is : (xs ys raised new : List (List Bool)) (n m : ℕ) → length ys ≡ length xs → length new ≡ length xs → n ≤ length xs → n + m ≤ length xs
    → IsMoved Up n ys raised → ((k : ℕ) → k < length xs → get_or new k [] ≡ cond (ltb k n) (get_or xs k []) (get_or raised k [])) → take (n + m) new ≡ take n xs ++ take m ys
joined_is xs ys raised new n m alike long h k up item =
    let first : length (take n xs) ≡ n = length_taken n xs h in
    let second : length (take m ys) ≡ m = length_taken m ys (omega arith) in
    let all : length (take (n + m) new) ≡ n + m = length_taken (n + m) new (omega arith) in
    let both : length (take n xs ++ take m ys) ≡ n + m = simp length-append (omega arith) in
    ext_get_or [] _ _ (all ∙ sym both) (λ i l.
    let lt : i < n + m = omega arith in
    get_or-take (n + m) new i [] lt ∙ item i (omega arith)
    ∙ elim (cases_lt i n) [
      | inl low ↦ chosen_front i n _ _ low ∙ sym (get_or_append_left (take n xs) (take m ys) [] i (omega arith) ∙ get_or-take n xs i [] low)
      | inr high ↦
          let place : i - n + n ≡ i = omega arith in
          chosen_back i n _ _ high ∙ ap (λ j. get_or raised j []) (sym place) ∙ up (i - n) (omega arith)
          ∙ sym (get_or-append_right (take n xs) (take m ys) n i [] first high ∙ get_or-take m ys (i - n) [] (omega arith))
    ])

chosen_here : (i n : ℕ) (x y : List Bool) → i ≡ n → cond (eqb i n) x y ≡ x
chosen_here i n x y h = let test : eqb i n ≡ true = grind (arith, nat_tests) in ap (λ b. cond b x y) test

chosen_other : (i n : ℕ) (x y : List Bool) → i < n → cond (eqb i n) x y ≡ y
chosen_other i n x y h = let test : eqb i n ≡ false = grind (arith, nat_tests) in ap (λ b. cond b x y) test

pub appended_is : (xs new : List (List Bool)) (w : List Bool) (n : ℕ) → length new ≡ length xs → n + 1 ≤ length xs
    → ((k : ℕ) → k < length xs → get_or new k [] ≡ cond (eqb k n) w (get_or xs k [])) → take (n + 1) new ≡ take n xs ++ w ∷ []
appended_is xs new w n long h item =
    let first : length (take n xs) ≡ n = length_taken n xs (omega arith) in
    let all : length (take (n + 1) new) ≡ n + 1 = length_taken (n + 1) new (omega arith) in
    let both : length (take n xs ++ w ∷ []) ≡ n + 1 = simp length-append (omega arith) in
    ext_get_or [] _ _ (all ∙ sym both) (λ i l.
    let lt : i < n + 1 = omega arith in
    get_or-take (n + 1) new i [] lt ∙ item i (omega arith)
    ∙ elim (cases_lt i n) [
      | inl low ↦ chosen_other i n _ _ low ∙ sym (get_or_append_left (take n xs) (w ∷ []) [] i (omega arith) ∙ get_or-take n xs i [] low)
      | inr high ↦
          let here : i ≡ n = omega arith in
          let start : i - n ≡ 0 = omega arith in
          chosen_here i n _ _ here ∙ sym (get_or-append_right (take n xs) (w ∷ []) n i [] first high ∙ ap (λ j. get_or (w ∷ []) j []) start)
    ])

pub joined_within : (xs ys raised new : List (List Bool)) (n m total cap : ℕ) (fault : Bool) → length ys ≡ length xs → length new ≡ length xs → cap ≡ length xs → n ≤ length xs → m ≤ length ys
    → fault ≡ not (nat_le (n + m) cap) → (nat_le (n + m) cap ≡ true → total ≡ n + m)
    → IsMoved Up n ys raised → ((k : ℕ) → k < length xs → get_or new k [] ≡ cond (ltb k n) (get_or xs k []) (get_or raised k []))
    → ReadsWithin cap fault (take total new) (take n xs ++ take m ys)
joined_within xs ys raised new n m total cap fault alike long many h k e sum up item =
    let first : length (take n xs) ≡ n = length_taken n xs h in
    let second : length (take m ys) ≡ m = length_taken m ys k in
    let both : length (take n xs ++ take m ys) ≡ n + m = simp length-append (omega arith) in
    record {
      passes = e ∙ ap (λ (l : ℕ). not (nat_le l cap)) (sym both);
      reads_as = λ small.
          let fits : nat_le (n + m) cap ≡ true = ap (λ (l : ℕ). nat_le l cap) (sym both) ∙ small in
          let le = leb-true (n + m) cap fits in
          ap (λ (l : ℕ). take l new) (sum fits) ∙ joined_is xs ys raised new n m alike long h (omega arith) up item;
    }

pub appended_within : (xs new : List (List Bool)) (w : List Bool) (n total cap : ℕ) (fault : Bool) → length new ≡ length xs → cap ≡ length xs → n ≤ length xs
    → fault ≡ not (nat_le (n + 1) cap) → (nat_le (n + 1) cap ≡ true → total ≡ n + 1)
    → (n < length xs → (k : ℕ) → k < length xs → get_or new k [] ≡ cond (eqb k n) w (get_or xs k []))
    → ReadsWithin cap fault (take total new) (take n xs ++ w ∷ [])
appended_within xs new w n total cap fault long many h e sum item =
    let first : length (take n xs) ≡ n = length_taken n xs h in
    let both : length (take n xs ++ w ∷ []) ≡ n + 1 = simp length-append (omega arith) in
    record {
      passes = e ∙ ap (λ (l : ℕ). not (nat_le l cap)) (sym both);
      reads_as = λ small.
          let fits : nat_le (n + 1) cap ≡ true = ap (λ (l : ℕ). nat_le l cap) (sym both) ∙ small in
          let le = leb-true (n + 1) cap fits in
          ap (λ (l : ℕ). take l new) (sum fits) ∙ appended_is xs new w n long (omega arith) (item (omega arith));
    }

-- the same, with what a later state reads
pub moved_as : (new : List (List Bool)) {n n' : ℕ} {old old' : List (List Bool)} → n' ≡ n → old' ≡ old → IsMoved Up n' old' new → IsMoved Up n old new
moved_as new {n} {n'} {old} {old'} e f h = subst (λ (m : ℕ). IsMoved Up m old new) e (subst (λ (v : List (List Bool)). IsMoved Up n' v new) f h)

pub spliced_as : (back new : List (List Bool)) {n n' count : ℕ} {xs xs' : List (List Bool)} → n' ≡ n → xs' ≡ xs → length xs ≡ count
    → ((k : ℕ) → k < count → get_or new k [] ≡ cond (ltb k n') (get_or xs' k []) (get_or back k []))
    → (k : ℕ) → k < length xs → get_or new k [] ≡ cond (ltb k n) (get_or xs k []) (get_or back k [])
spliced_as back new {n} {n'} {count} {xs} {xs'} e f long h k l =
    let same = h k (omega arith) in
    same ∙ ap (λ (j : ℕ). cond (ltb k j) (get_or xs' k []) (get_or back k [])) e ∙ ap (λ (v : List (List Bool)). cond (ltb k n) (get_or v k []) (get_or back k [])) f

pub added_as : (new : List (List Bool)) {n n' count : ℕ} {w w' : List Bool} {xs xs' : List (List Bool)} → n' ≡ n → w' ≡ w → xs' ≡ xs → length xs ≡ count
    → (n' < count → (k : ℕ) → k < count → get_or new k [] ≡ cond (eqb k n') w' (get_or xs' k []))
    → n < length xs → (k : ℕ) → k < length xs → get_or new k [] ≡ cond (eqb k n) w (get_or xs k [])
added_as new {n} {n'} {count} {w} {w'} {xs} {xs'} e d f long h few k l =
    let same = h (omega arith) k (omega arith) in
    same ∙ ap (λ (j : ℕ). cond (eqb k j) w' (get_or xs' k [])) e ∙ ap (λ (v : List Bool). cond (eqb k n) v (get_or xs' k [])) d ∙ ap (λ (v : List (List Bool)). cond (eqb k n) w (get_or v k [])) f
