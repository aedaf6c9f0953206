-- Literals of different variables are kept as they are.
use Rattle.std.proofs.Common.{if◌then◌else◌, ◌≡◌, Bool, true, false, not, ◌&&◌, ◌==◌, List, [], ◌∷◌, ◌++◌, refl, sym, ap, ◌∙◌, append_assoc}
use Rattle.std.specs.Bool.{beq}
use Rattle.std.specs.List.{list_any}
use Rattle.std.proofs.lemmas.List.{append-nil}
use Rattle.std.proofs.lemmas.List.Folds.{list_any-append}
use Rattle.clause_base.specs.Literals.{has_no_variable_twice, opposite, same_literal}
use Rattle.clause_base.specs.declared.lit.Lit.{Lit}
use Rattle.step_lines.proofs.Apart.{both}
use Rattle.dimacs_text.specs.Tidy.{has_both, once_onto, stands}
use Rattle.dimacs_text.proofs.Tidying.{both_false, neither, no_sign}

not_true : (b : Bool) → not b ≡ true → b ≡ false
not_true true h = absurd (cc)
not_true false h = refl

-- no variable stands in both signs
pub no_both : (ls : List Lit) → has_no_variable_twice ls ≡ true → has_both ls ≡ false
no_both [] h = refl
no_both (l ∷ ls) h =
    let r = both (not (list_any (λ (k : Lit). k.var == l.var) ls)) (has_no_variable_twice ls) h in
    let none = not_true (list_any (λ (k : Lit). k.var == l.var) ls) r.0 in
    both_false (stands (opposite l) ls) (has_both ls) (no_sign (opposite l) l.var ls refl none) (no_both ls r.1)

-- a literal behind others of other variables
not_before : (kept ls : List Lit) (l : Lit) → has_no_variable_twice (kept ++ l ∷ ls) ≡ true → stands l kept ≡ false
not_before [] ls l h = refl
not_before (k ∷ ks) ls l h =
    let r = both (not (list_any (λ (m : Lit). m.var == k.var) (ks ++ l ∷ ls))) (has_no_variable_twice (ks ++ l ∷ ls)) h in
    let none = sym (list_any-append (λ (m : Lit). m.var == k.var) ks (l ∷ ls)) ∙ not_true (list_any (λ (m : Lit). m.var == k.var) (ks ++ l ∷ ls)) r.0 in
    let others = neither (list_any (λ (m : Lit). m.var == k.var) ks) (list_any (λ (m : Lit). m.var == k.var) (l ∷ ls)) none in
    let here = neither (l.var == k.var) (list_any (λ (m : Lit). m.var == k.var) ls) others.1 in
    both_false (same_literal l k) (stands l ks) (ap (λ b. b && beq l.positive k.positive) here.0) (not_before ks ls l r.1)

kept_behind : (kept ls : List Lit) → has_no_variable_twice (kept ++ ls) ≡ true → once_onto kept ls ≡ kept ++ ls
kept_behind kept [] h = sym (append-nil kept)
kept_behind kept (l ∷ ls) h =
    ap (λ b. once_onto (if b then kept else kept ++ l ∷ []) ls) (not_before kept ls l h)
    ∙ kept_behind (kept ++ l ∷ []) ls (ap has_no_variable_twice (append_assoc kept (l ∷ []) ls) ∙ h)
    ∙ append_assoc kept (l ∷ []) ls

-- each is kept
pub kept_whole : (ls : List Lit) → has_no_variable_twice ls ≡ true → once_onto [] ls ≡ ls
kept_whole ls h = kept_behind [] ls h
