-- Clauses that are neither unit nor false.
use Rattle.std.proofs.Common.{◌≡◌, ℕ, ◌<◌, ◌+◌, Bool, true, false, not, List, [], ◌∷◌, ◌++◌, filter, take, drop, get_or, length, refl, sym, ap, ◌∙◌, inr, arith}
use Rattle.std.proofs.lemmas.List.{drop_more}
use Rattle.std.proofs.lemmas.List.Elements.{filter-append}
use Rattle.clause_base.specs.declared.lit.Lit.{Lit}
use Rattle.clause_base.specs.Follows.{is_false, open_literals}
use Rattle.sat_watch.specs.Trails.{IsWatched}
use Rattle.sat_watch.proofs.Rounds.{cut_at}

pub two_open : (known : List Lit) (a b : Lit) (rest lits : List Lit) → open_literals known lits ≡ a ∷ b ∷ rest → IsWatched known lits
two_open known a b rest lits is = let long : length (open_literals known lits) ≡ length (a ∷ b ∷ rest) = ap length is in inr (omega arith)

pub second_open : (known before part : List Lit) (i : ℕ) (d x : Lit) → i < length part → open_literals known (before ++ take i part) ≡ x ∷ [] → is_false known (get_or part i d) ≡ false
    → IsWatched known (before ++ part)
second_open known before part i d x within one up =
    let p : Lit → Bool = λ l. not (is_false known l) in
    let here : p (get_or part i d) ≡ true = ap not up in
    let next : drop i part ≡ get_or part i d ∷ drop (i + 1) part = drop_more part i d within in
    let back : filter p (drop i part) ≡ get_or part i d ∷ filter p (drop (i + 1) part) = ap (filter p) next ∙ rw here refl in
    let whole : filter p (before ++ part) ≡ x ∷ get_or part i d ∷ filter p (drop (i + 1) part) = ap (filter p) (sym (cut_at before part i)) ∙ filter-append p (before ++ take i part) (drop i part) ∙ ap (λ (ys : List Lit). ys ++ filter p (drop i part)) one
    ∙ ap (λ (ys : List Lit). x ∷ ys) back in
    two_open known x (get_or part i d) (filter p (drop (i + 1) part)) (before ++ part) whole
