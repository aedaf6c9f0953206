-- Repeated lists.
use Rattle.std.proofs.Common.{◌≡◌, ℕ, zero, suc, ◌+◌, List, ◌++◌, ◌≤◌, sym, ap, ◌∙◌, append_assoc, add-one}
use Rattle.std.proofs.lemmas.List.{append-nil}
use Rattle.std.proofs.lemmas.List.Elements.{All-append, All-nil}
use Rattle.mpy_tree.specs.Printable.{ArePrintable}
use Rattle.mpy_tree.specs.Operations.{copies}

copies_end : {A : Type 0} (n : ℕ) (xs : List A) → copies n xs ++ xs ≡ xs ++ copies n xs
copies_end zero xs = sym (append-nil xs)
copies_end (suc n) xs = append_assoc xs (copies n xs) xs ∙ ap (λ ys. xs ++ ys) (copies_end n xs)

-- one more copy at the end
pub copies_more : {A : Type 0} (n : ℕ) (xs : List A) → copies n xs ++ xs ≡ copies (n + 1) xs
copies_more n xs = rw (add-one) (copies_end n xs)

-- the copies of a text have its characters
pub all_copies : (n : ℕ) (cs : List ℕ) → ArePrintable cs → ArePrintable (copies n cs)
all_copies zero cs h = All-nil (λ c. (32 ≤ c) × (c ≤ 126))
all_copies (suc n) cs h = All-append (λ c. (32 ≤ c) × (c ≤ 126)) cs (copies n cs) h (all_copies n cs h)
