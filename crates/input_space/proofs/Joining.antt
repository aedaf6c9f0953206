-- Texts with a comma and a space between each two, from some place on.
use Rattle.std.proofs.Common.{◌≡◌, ℕ, ◌+◌, ◌<◌, ◌≤◌, length, map, drop, get_or, List, [], ◌∷◌, ◌++◌, codes, refl, sym, ap, ◌∙◌, append_assoc}
use Rattle.std.proofs.lemmas.Grind.{common_steps}
use Rattle.std.proofs.lemmas.List.{append-nil, drop_all, drop_more}
use Rattle.mpy_tree.specs.Printing.{commas}

-- the texts to come, with what stands before the first of them
abbrev pub joined : List ℕ → List (List ℕ) → List ℕ
joined before [] = []
joined before (x ∷ xs) = before ++ x ++ joined (codes ", ") xs

joined_after : (before x : List ℕ) (xs : List (List ℕ)) → joined before (x ∷ xs) ≡ before ++ commas (x ∷ xs)
joined_after before x [] = append-nil (before ++ x)
joined_after before x (y ∷ ys) =
    ap (λ zs. before ++ x ++ zs) (joined_after (codes ", ") y ys)
    ∙ append_assoc before x (codes ", " ++ commas (y ∷ ys))
    ∙ ap (λ zs. before ++ zs) (sym (append_assoc x (codes ", ") (commas (y ∷ ys))))

pub joined_is : (xs : List (List ℕ)) → joined [] xs ≡ commas xs
joined_is [] = refl
joined_is (x ∷ xs) = joined_after [] x xs

-- the text of the element at the place i is added, with what stands before it
pub joined_next : {A : Type 0} (text : A → List ℕ) (xs : List A) (i : ℕ) (d : A) (out before between next all : List ℕ) → i < length xs → between ≡ out ++ before → next ≡ between ++ text (get_or xs i d) → out ++ joined before (map text (drop i xs)) ≡ all → next ++ joined (codes ", ") (map text (drop (i + 1) xs)) ≡ all
joined_next text xs i d out before between next all h e f g =
    let x = text (get_or xs i d) in
    let rest = joined (codes ", ") (map text (drop (i + 1) xs)) in
    let here : joined before (map text (drop i xs)) ≡ before ++ x ++ rest = ap (λ ys. joined before (map text ys)) (drop_more xs i d h) in
    let flat : ((out ++ before) ++ x) ++ rest ≡ out ++ (before ++ x ++ rest) = simp append_assoc in
    ap (λ zs. zs ++ rest) (f ∙ ap (λ zs. zs ++ x) e) ∙ flat ∙ ap (λ zs. out ++ zs) (sym here) ∙ g

-- all is added
pub joined_all : {A : Type 0} (text : A → List ℕ) (xs : List A) (i : ℕ) (out before all : List ℕ) → length xs ≤ i → out ++ joined before (map text (drop i xs)) ≡ all → out ≡ all
joined_all text xs i out before all h e =
    sym (append-nil out) ∙ sym (ap (λ ys. out ++ joined before (map text ys)) (drop_all i xs h)) ∙ e

pub ruleset joined_steps = (common_steps, joined_is)
