-- Texts with a separator between each two, from some place on.
use Rattle.std.proofs.Common.{◌≡◌, ℕ, List, [], ◌∷◌, ◌++◌, codes, refl, sym, ap, ◌∙◌, append_assoc}
use Rattle.std.proofs.lemmas.Grind.{common_steps}
use Rattle.std.proofs.lemmas.List.{append-nil}
use Rattle.mpy_tree.specs.Syntax.{Routine}
use Rattle.mpy_tree.specs.Printing.{commas, program_text, routine_text}

-- the texts to come, with what stands before the first of them
abbrev pub joined : List ℕ → List (List ℕ) → List ℕ
joined before [] = []
joined before (x ∷ xs) = before ++ x ++ joined (codes ", ") xs

joined_after : (before x : List ℕ) (xs : List (List ℕ)) → joined before (x ∷ xs) ≡ before ++ commas (x ∷ xs)
joined_after before x [] = append-nil (before ++ x)
joined_after before x (y ∷ ys) =
    ap (λ zs. before ++ x ++ zs) (joined_after (codes ", ") y ys)
    ∙ append_assoc before x (codes ", " ++ commas (y ∷ ys))
    ∙ ap (λ zs. before ++ zs) (sym (append_assoc x (codes ", ") (commas (y ∷ ys))))

pub joined_is : (xs : List (List ℕ)) → joined [] xs ≡ commas xs
joined_is [] = refl
joined_is (x ∷ xs) = joined_after [] x xs

-- the functions to come, with what stands before the first of them
abbrev pub parted : List ℕ → List Routine → List ℕ
parted before [] = []
parted before (r ∷ rs) = before ++ routine_text r ++ parted (codes "\n") rs

parted_after : (before : List ℕ) (r : Routine) (rs : List Routine) → parted before (r ∷ rs) ≡ before ++ program_text (r ∷ rs)
parted_after before r [] = append-nil (before ++ routine_text r)
parted_after before r (s ∷ ss) =
    ap (λ zs. before ++ routine_text r ++ zs) (parted_after (codes "\n") s ss)
    ∙ append_assoc before (routine_text r) (codes "\n" ++ program_text (s ∷ ss))
    ∙ ap (λ zs. before ++ zs) (sym (append_assoc (routine_text r) (codes "\n") (program_text (s ∷ ss))))

pub parted_is : (rs : List Routine) → parted [] rs ≡ program_text rs
parted_is [] = refl
parted_is (r ∷ rs) = parted_after [] r rs

pub ruleset joined_steps = (common_steps, joined_is, parted_is)
