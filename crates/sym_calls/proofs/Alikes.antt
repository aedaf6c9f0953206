-- Lists that are alike as far as they were looked at.
use Rattle.std.proofs.Common.{◌≡◌, ◌+◌, ℕ, List, [], ◌∷◌, ◌++◌, Some, map, take, length, slice_get, ap, ◌∙◌, ◌≤◌, refl}
use Rattle.std.proofs.lemmas.List.{map_push, take_all}
use Rattle.sym_values.proofs.Held.{take_read}

-- one thing more
pub alike_more : {A C : Type 0} (f : A → C) (v w : List A) (i : ℕ) (a b : A) → slice_get v i ≡ Some a
    → slice_get w i ≡ Some b → f a ≡ f b → map f (take i v) ≡ map f (take i w)
    → map f (take (i + 1) v) ≡ map f (take (i + 1) w)
alike_more f v w i a b p q same before =
    let left : map f (take (i + 1) v) ≡ map f (take i v) ++ f a ∷ [] =
    ap (map f) (take_read v i a p) ∙ map_push f (take i v) a in
    let right : map f (take (i + 1) w) ≡ map f (take i w) ++ f b ∷ [] =
    ap (map f) (take_read w i b q) ∙ map_push f (take i w) b in
    rw (left, right, before, same) refl

-- all things
pub alike_all : {A C : Type 0} (f : A → C) (v w : List A) (i : ℕ) → length v ≤ i → length w ≤ i
    → map f (take i v) ≡ map f (take i w) → map f v ≡ map f w
alike_all f v w i p q e = rw (take_all i v p, take_all i w q) at e
