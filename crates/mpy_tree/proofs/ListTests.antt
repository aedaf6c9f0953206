-- Lists that are compared pair by pair.
use Rattle.std.proofs.Common.{◌≡◌, ◌≢◌, ℕ, zero, suc, ◌+◌, ◌<◌, ◌≤◌, Bool, true, false, ◌&&◌, List, [], ◌∷◌, length, map, drop, get_or, refl, sym, ap, ◌∙◌, add-one, arith, drop-cons}
use Rattle.std.specs.Cmp.Lexicographic.{pointwise, unequal}
use Rattle.mpy_tree.specs.Syntax.{Term, Statement, Branch}
use Rattle.mpy_tree.specs.View.{terms, block, branches}
use Rattle.mpy_tree.specs.Comparing.{same_term, same_terms, same_block, same_statement, same_branch, same_branches}

opened : {A : Type 0} (xs : List A) (i : ℕ) (x : A) → i < length xs → x ≡ get_or xs i x → drop i xs ≡ x ∷ drop (i + 1) xs
opened xs i x h e = rw add-one (drop-cons xs i x h ∙ ap (λ z. z ∷ drop (suc i) xs) (sym e))

ended : {A : Type 0} (xs : List A) (i : ℕ) → length xs ≤ i → drop i xs ≡ []
ended [] zero h = refl
ended [] (suc i) h = refl
ended (x ∷ xs) zero h = absurd (omega arith)
ended (x ∷ xs) (suc i) h = ended xs i (omega arith)

module _ {A B : Type 0} (E : B → B → Bool) (f : A → B) (xs ys : List A) (i : ℕ) where
  -- what is left, where it is compared
  abbrev pub left : ℕ → Bool
  left k = pointwise E (map f (drop k xs)) (map f (drop k ys))

  pub first_pair : (x y : A) (r : Bool) → i < length xs → i < length ys → x ≡ get_or xs i x → y ≡ get_or ys i y → r ≡ E (f x) (f y) → left i ≡ (r && left (i + 1))
  first_pair x y r h k ex ey e =
      ap (λ zs. pointwise E (map f zs) (map f (drop i ys))) (opened xs i x h ex)
      ∙ ap (λ zs. pointwise E (map f (x ∷ drop (i + 1) xs)) (map f zs)) (opened ys i y k ey)
      ∙ ap (λ b. b && left (i + 1)) (sym e)

  pub no_pair : length xs ≤ i → length ys ≤ i → left i ≡ true
  no_pair h k =
      ap (λ zs. pointwise E (map f zs) (map f (drop i ys))) (ended xs i h)
      ∙ ap (λ zs. pointwise E [] (map f zs)) (ended ys i k)

length-map : {A B : Type 0} (f : A → B) (xs : List A) → length (map f xs) ≡ length xs
length-map f [] = refl
length-map f (x ∷ xs) = ap suc (length-map f xs)

mapped : {A B : Type 0} (f : A → B) (xs ys : List A) → length xs ≢ length ys → length (map f xs) ≢ length (map f ys)
mapped f xs ys h e = h (sym (length-map f xs) ∙ e ∙ length-map f ys)

pub terms_by : (xs ys : List Term) → same_terms (terms xs) (terms ys) ≡ pointwise same_term xs ys
terms_by [] [] = refl
terms_by [] (y ∷ ys) = refl
terms_by (x ∷ xs) [] = refl
terms_by (x ∷ xs) (y ∷ ys) = ap (λ b. same_term x y && b) (terms_by xs ys)

pub terms_differ : {A : Type 0} (f : A → Term) (xs ys : List A) → length xs ≢ length ys → same_terms (terms (map f xs)) (terms (map f ys)) ≡ false
terms_differ f xs ys h = terms_by (map f xs) (map f ys) ∙ unequal same_term (map f xs) (map f ys) (mapped f xs ys h)

pub blocks_by : (xs ys : List Statement) → same_block (block xs) (block ys) ≡ pointwise same_statement xs ys
blocks_by [] [] = refl
blocks_by [] (y ∷ ys) = refl
blocks_by (x ∷ xs) [] = refl
blocks_by (x ∷ xs) (y ∷ ys) = ap (λ b. same_statement x y && b) (blocks_by xs ys)

pub blocks_differ : {A : Type 0} (f : A → Statement) (xs ys : List A) → length xs ≢ length ys → same_block (block (map f xs)) (block (map f ys)) ≡ false
blocks_differ f xs ys h = blocks_by (map f xs) (map f ys) ∙ unequal same_statement (map f xs) (map f ys) (mapped f xs ys h)

pub branches_by : (xs ys : List Branch) → same_branches (branches xs) (branches ys) ≡ pointwise same_branch xs ys
branches_by [] [] = refl
branches_by [] (y ∷ ys) = refl
branches_by (x ∷ xs) [] = refl
branches_by (x ∷ xs) (y ∷ ys) = ap (λ b. same_branch x y && b) (branches_by xs ys)

pub branches_differ : {A : Type 0} (f : A → Branch) (xs ys : List A) → length xs ≢ length ys → same_branches (branches (map f xs)) (branches (map f ys)) ≡ false
branches_differ f xs ys h = branches_by (map f xs) (map f ys) ∙ unequal same_branch (map f xs) (map f ys) (mapped f xs ys h)
