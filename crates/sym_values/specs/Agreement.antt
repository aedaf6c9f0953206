-- Two lists that agree as far as a length.
use Rattle.std.specs.Prelude.{Bool, true, ◌&&◌, ℕ, zero, suc, List, [], ◌∷◌, nat_eq}
use Rattle.bit_words.specs.Words.{nat_of}

-- whether two words have the same digits
abbrev pub same_digits : List Bool → List Bool → Bool
same_digits v w = nat_eq (nat_of v) (nat_of w)

-- whether the first n of one list agree with those of another, by a test of two elements
abbrev pub agree : {A : Type 0} → (A → A → Bool) → ℕ → List A → List A → Bool
agree E n [] ys = true
agree E n (x ∷ xs) [] = true
agree E zero (x ∷ xs) (y ∷ ys) = true
agree E (suc n) (x ∷ xs) (y ∷ ys) = E x y && agree E n xs ys
