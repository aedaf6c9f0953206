-- Lines, and their spaces at the front.
use Rattle.std.proofs.Common.{◌≡◌, ℕ, zero, suc, List, ◌++◌, codes, refl, sym, ap, ◌∙◌, append_assoc, ◌+◌, add-one}
use Rattle.std.proofs.lemmas.Grind.{common_steps}
use Rattle.std.proofs.lemmas.List.{append-nil}
use Rattle.mpy_tree.specs.Operations.{copies}
use Rattle.mpy_tree.specs.Printing.{indented}

indented_is : (depth : ℕ) (text : List ℕ) → indented depth text ≡ copies depth (codes "    ") ++ (text ++ codes "\n")
indented_is zero text = refl
indented_is (suc d) text = ap (λ zs. codes "    " ++ zs) (indented_is d text) ∙ sym (append_assoc (codes "    ") (copies d (codes "    ")) (text ++ codes "\n"))

-- a line after what stands before it
pub line_is : (before text : List ℕ) (depth : ℕ) → before ++ indented depth text ≡ before ++ copies depth (codes "    ") ++ text ++ codes "\n"
line_is before text depth =
    ap (λ zs. before ++ zs) (indented_is depth text)
    ∙ sym (append_assoc before (copies depth (codes "    ")) (text ++ codes "\n"))
    ∙ sym (append_assoc (before ++ copies depth (codes "    ")) text (codes "\n"))

pub ruleset line_steps = (common_steps, line_is)

one_more : (d : ℕ) (xs : List ℕ) → copies d xs ++ xs ≡ xs ++ copies d xs
one_more zero xs = sym (append-nil xs)
one_more (suc d) xs = append_assoc xs (copies d xs) xs ∙ ap (λ ys. xs ++ ys) (one_more d xs)

-- four spaces more
pub one_deeper : (before : List ℕ) (d : ℕ) (xs : List ℕ) → before ++ copies d xs ++ xs ≡ before ++ copies (d + 1) xs
one_deeper before d xs = append_assoc before (copies d xs) xs ∙ ap (λ ys. before ++ ys) (rw add-one (one_more d xs))
