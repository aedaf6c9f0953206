-- Lists whose members pass a test: their parts, copies and changes.
use Rattle.std.proofs.Common.{◌≡◌, ℕ, zero, suc, ◌+◌, ◌-◌, ◌≤◌, Bool, true, false, ◌&&◌, List, [], ◌∷◌, ◌++◌, length, take, drop, Option, ℤ, refl, sym, ap, ◌∙◌, arith, length-append}
use Rattle.std.specs.Prelude.{slice_set, nat_le}
use Rattle.std.specs.List.{list_all}
use Rattle.std.proofs.lemmas.Bool.{leb-true, le-leb}
use Rattle.std.proofs.lemmas.List.{take-append-drop, length-set}
use Rattle.std.proofs.lemmas.List.Folds.{list_all-append}
use Rattle.mpy_tree.specs.Operations.{copies, cut, end_or}

pub and_true : (a b : Bool) → (a && b) ≡ true → (a ≡ true) × (b ≡ true)
and_true true true e = (refl, refl)
and_true true false e = absurd (cc)
and_true false b e = absurd (cc)

pub and_both : (a b : Bool) → a ≡ true → b ≡ true → (a && b) ≡ true
and_both true b e f = f
and_both false b e f = absurd (cc)

module _ {A : Type 0} (p : A → Bool) where
  pub joined_pass : (xs ys : List A) → list_all p xs ≡ true → list_all p ys ≡ true → list_all p (xs ++ ys) ≡ true
  joined_pass xs ys h k = list_all-append p xs ys ∙ and_both (list_all p xs) (list_all p ys) h k

  pub parts_pass : (xs ys : List A) → list_all p (xs ++ ys) ≡ true → (list_all p xs ≡ true) × (list_all p ys ≡ true)
  parts_pass xs ys h = and_true (list_all p xs) (list_all p ys) (sym (list_all-append p xs ys) ∙ h)

  pub split_pass : (n : ℕ) (xs : List A) → list_all p xs ≡ true → (list_all p (take n xs) ≡ true) × (list_all p (drop n xs) ≡ true)
  split_pass n xs h = parts_pass (take n xs) (drop n xs) (ap (list_all p) (take-append-drop n xs) ∙ h)

  pub copies_pass : (n : ℕ) (xs : List A) → list_all p xs ≡ true → list_all p (copies n xs) ≡ true
  copies_pass zero xs h = refl
  copies_pass (suc n) xs h = joined_pass xs (copies n xs) h (copies_pass n xs h)

  pub changed_pass : (xs : List A) (n : ℕ) (a : A) → list_all p xs ≡ true → p a ≡ true → list_all p (slice_set xs n a) ≡ true
  changed_pass [] n a h k = refl
  changed_pass (x ∷ xs) zero a h k = and_both (p a) (list_all p xs) k (and_true (p x) (list_all p xs) h).1
  changed_pass (x ∷ xs) (suc n) a h k =
      let m = and_true (p x) (list_all p xs) h in
      and_both (p x) (list_all p (slice_set xs n a)) m.0 (changed_pass xs n a m.1 k)

  pub cut_passes : (xs : List A) (a b : Option ℤ) → list_all p xs ≡ true → list_all p (cut xs a b) ≡ true
  cut_passes xs a b h =
      let from = end_or 0 a (length xs) in
      (split_pass (end_or (length xs) b (length xs) - from) (drop from xs) (split_pass from xs h).1).0

-- a list with no more members than one that isn't longer than a cap
pub no_longer : (n m cap : ℕ) → n ≤ m → nat_le m cap ≡ true → nat_le n cap ≡ true
no_longer n m cap h k =
    let le : m ≤ cap = leb-true m cap k in
    le-leb n cap (omega arith)

parts_length : {A : Type 0} (n : ℕ) (xs : List A) → (length (take n xs) ≤ length xs) × (length (drop n xs) ≤ length xs)
parts_length n xs =
    let e : length (take n xs) + length (drop n xs) ≡ length xs = sym (length-append (take n xs) (drop n xs)) ∙ ap length (take-append-drop n xs) in
    (omega arith, omega arith)

pub cut_no_longer : {A : Type 0} (xs : List A) (a b : Option ℤ) → length (cut xs a b) ≤ length xs
cut_no_longer xs a b =
    let from = end_or 0 a (length xs) in
    let outer = (parts_length (end_or (length xs) b (length xs) - from) (drop from xs)).0 in
    let inner = (parts_length from xs).1 in
    omega arith

pub changed_no_longer : {A : Type 0} (xs : List A) (n : ℕ) (a : A) → length (slice_set xs n a) ≤ length xs
changed_no_longer xs n a = let e : length (slice_set xs n a) ≡ length xs = length-set xs n a in omega arith
