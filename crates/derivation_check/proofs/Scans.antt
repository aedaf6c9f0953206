-- Tests of literals, and what a look over a clause finds.
use Rattle.std.proofs.Common.{◌≡◌, ℕ, ◌<◌, ◌+◌, Bool, true, false, not, List, [], ◌∷◌, ◌++◌, filter, take, drop, get_or, length, refl, sym, ap, ◌∙◌, take-append-drop}
use Rattle.std.specs.Bool.{beq}
use Rattle.std.proofs.lemmas.List.{drop_more}
use Rattle.std.proofs.lemmas.List.Elements.{filter-append}
use Rattle.clause_base.specs.declared.lit.Lit.{Lit}
use Rattle.derivation_check.specs.Marks.{scan_of}
use Rattle.derivation_check.specs.declared.marks.Scan.TheVariants.{Many}

pub not_beq : (a b : Bool) → not (beq a b) ≡ beq a (not b)
not_beq true true = refl
not_beq true false = refl
not_beq false true = refl
not_beq false false = refl

-- two literals that are open are enough
pub second_open : (p : Lit → Bool) (xs : List Lit) (i : ℕ) (a b : Lit) → i < length xs → filter p (take i xs) ≡ a ∷ [] → get_or xs i b ≡ b → p b ≡ true → Many ≡ scan_of (filter p xs)
second_open p xs i a b h one here open_here =
    let cut : xs ≡ take i xs ++ drop i xs = sym (take-append-drop i xs) in
    let rest : drop i xs ≡ get_or xs i b ∷ drop (i + 1) xs = drop_more xs i b h in
    let parts = filter-append p (take i xs) (drop i xs) in
    let at : filter p (drop i xs) ≡ b ∷ filter p (drop (i + 1) xs) = ap (filter p) (rest ∙ ap (λ x. x ∷ drop (i + 1) xs) here) ∙ rw open_here in
    let whole : filter p xs ≡ a ∷ b ∷ filter p (drop (i + 1) xs) = ap (filter p) cut ∙ parts ∙ ap (λ ys. ys ++ filter p (drop i xs)) one ∙ ap (λ ys. a ∷ ys) at in
    sym (ap scan_of whole)
