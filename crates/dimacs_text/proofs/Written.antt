-- What the writer of steps adds, and when two texts are one.
use Rattle.std.proofs.Common.{◌≡◌, ℕ, ◌+◌, true, ◌==◌, List, [], ◌∷◌, ◌++◌, Some, map, take, slice_get, refl, sym, ap, ◌∙◌, arith, append_assoc}
use Rattle.std.specs.Cmp.Lexicographic.{pointwise}
use Rattle.std.proofs.lemmas.Grind.{flat_map-append}
use Rattle.std.proofs.lemmas.List.{append-nil, map-append, take_more}
use Rattle.std.proofs.lemmas.Option.{get_or_from_slice_get, slice_get_within}
use Rattle.clause_base.specs.declared.log.Step.{Step}
use Rattle.step_lines.specs.LineForms.{step_line}
use Rattle.step_lines.specs.Lines.{ended}
use Rattle.step_lines.proofs.Apart.{both}

pub equal_texts : (xs ys : List ℕ) → pointwise ◌==◌ xs ys ≡ true → xs ≡ ys
equal_texts [] [] h = refl
equal_texts [] (y ∷ ys) h = absurd (cc)
equal_texts (x ∷ xs) [] h = absurd (cc)
equal_texts (x ∷ xs) (y ∷ ys) h =
    let r = both (x == y) (pointwise ◌==◌ xs ys) h in
    ap (λ z. z ∷ xs) (same x y r.0) ∙ ap (λ zs. y ∷ zs) (equal_texts xs ys r.1)
  where
    same : (m n : ℕ) → (m == n) ≡ true → m ≡ n
    same m n h = grind arith

pub written_more : (xs : List Step) (i : ℕ) (x : Step) (old out new : List ℕ) → slice_get xs i ≡ Some x → out ≡ old ++ ended (map step_line (take i xs)) → new ≡ out ++ (step_line x ++ 10 ∷ []) → new ≡ old ++ ended (map step_line (take (i + 1) xs))
written_more xs i x old out new h before e =
    let line = step_line x ++ 10 ∷ [] in
    let more : take (i + 1) xs ≡ take i xs ++ x ∷ [] = take_more xs i x (slice_get_within xs i x h) ∙ ap (λ z. take i xs ++ z ∷ []) (get_or_from_slice_get xs i x x h) in
    let lines : ended (map step_line (take (i + 1) xs)) ≡ ended (map step_line (take i xs)) ++ line =
    ap (λ t. ended (map step_line t)) more ∙ ap ended (map-append step_line (take i xs) (x ∷ []))
    ∙ flat_map-append (λ l. l ++ 10 ∷ []) (map step_line (take i xs)) (step_line x ∷ [])
    ∙ ap (λ t. ended (map step_line (take i xs)) ++ t) (append-nil line) in
    e ∙ ap (λ t. t ++ line) before ∙ append_assoc old (ended (map step_line (take i xs))) line ∙ ap (λ t. old ++ t) (sym lines)
