-- A word that is made bit by bit.
use Rattle.std.proofs.Common.{◌≡◌, Bool, true, false, List, [], ◌∷◌, ◌++◌, map, ap, ◌∙◌, cond}
use Rattle.std.proofs.lemmas.List.{map_push}

-- one bit more
pub push_read : {B : Type 0} (f f' : B → Bool) (out out' : List B) (r : B) (so_far : List Bool) (bit : Bool)
    → map f' out ≡ map f out → map f out ≡ so_far → f' r ≡ bit → out' ≡ out ++ r ∷ [] → map f' out' ≡ so_far ++ bit ∷ []
push_read f f' out out' r so_far bit kept before now e =
    ap (map f') e ∙ map_push f' out r ∙ ap (λ w. w ++ f' r ∷ []) (kept ∙ before) ∙ ap (λ v. so_far ++ v ∷ []) now

-- one bit more of a word whose bits are changed alike
pub map_more : {B : Type 0} (change : Bool → Bool) (f : B → Bool) (taken taken' : List B) (b : B)
    → taken' ≡ taken ++ b ∷ [] → map change (map f taken') ≡ map change (map f taken) ++ change (f b) ∷ []
map_more change f taken taken' b e = ap (λ w. map change (map f w)) e ∙ ap (map change) (map_push f taken b) ∙ map_push change (map f taken) (f b)

-- one bit more of one of two words
pub choose_more : {B : Type 0} (c : Bool) (f : B → Bool) (v v' w w' : List B) (a b : B) → v' ≡ v ++ a ∷ [] → w' ≡ w ++ b ∷ []
    → cond c (map f v') (map f w') ≡ cond c (map f v) (map f w) ++ cond c (f a) (f b) ∷ []
choose_more true f v v' w w' a b p q = ap (map f) p ∙ map_push f v a
choose_more false f v v' w w' a b p q = ap (map f) q ∙ map_push f w b
