-- The least line, found piece by piece.
use Rattle.std.proofs.Common.{◌≡◌, ℕ, min, List, [], ◌∷◌, ◌++◌, Option, None, Some, refl, sym, ap, ◌∙◌, arith}
use Rattle.mpy_tree.specs.Leasts.{lesser, least}

pub lesser-none : (a : Option ℕ) → lesser a None ≡ a
lesser-none None = refl
lesser-none (Some a) = refl

pub lesser_some : (x : ℕ) (o : Option ℕ) → lesser (Some x) o ≡ None → ⊥
lesser_some x None e = cc
lesser_some x (Some y) e = cc

-- where there is no least one, there is none
pub none_least : (xs : List ℕ) → least xs ≡ None → xs ≡ []
unfolding least
none_least [] e = refl
none_least (x ∷ xs) e = absurd (lesser_some x (least xs) e)

pub lesser_assoc : (a b c : Option ℕ) → lesser (lesser a b) c ≡ lesser a (lesser b c)
lesser_assoc None b c = refl
lesser_assoc (Some a) None c = refl
lesser_assoc (Some a) (Some b) None = refl
lesser_assoc (Some a) (Some b) (Some c) = let e : min (min a b) c ≡ min a (min b c) = omega arith in ap (λ n. Some n) e

-- the least of none
pub lesser_of_nil : (o : Option ℕ) → lesser o (least []) ≡ o
unfolding least
lesser_of_nil o = lesser-none o

-- the least of one
pub lesser_of_one : (o : Option ℕ) (n : ℕ) → lesser o (least (n ∷ [])) ≡ lesser o (Some n)
unfolding least
lesser_of_one o n = refl

-- the least of two pieces is found by going over the first and then over the second
pub lesser_of_append : (o : Option ℕ) (xs ys : List ℕ) → lesser o (least (xs ++ ys)) ≡ lesser (lesser o (least xs)) (least ys)
unfolding least
lesser_of_append o [] ys = ap (λ p. lesser p (least ys)) (sym (lesser-none o))
lesser_of_append o (x ∷ xs) ys =
    ap (λ p. lesser o p) (lesser_of_append (Some x) xs ys)
    ∙ sym (lesser_assoc o (lesser (Some x) (least xs)) (least ys))
