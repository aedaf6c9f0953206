-- Numbers of arguments.
use Rattle.std.proofs.Common.{◌≡◌, ℕ, zero, suc, ◌<◌, ◌≤◌, Bool, true, false, List, [], ◌∷◌, length, map, drop, refl, sym, ap, ◌∙◌, arith}
use Rattle.std.specs.Prelude.{nat_le}
use Rattle.std.proofs.lemmas.List.{length-map, drop_all}
use Rattle.mpy_tree.specs.declared.tree.Expr.{Expr}
use Rattle.std.proofs.lemmas.Bool.{le-leb, lt-leb, leb-true, leb-false}
use Rattle.mpy_tree.specs.declared.tree.Exprs.{Exprs}
use Rattle.mpy_tree.specs.Syntax.{Term, Terms, Routine}
use Rattle.mpy_tree.specs.View.{term_of, terms, terms_of, expr_step, exprs_step}
use Rattle.mpy_tree.specs.declared.tree.Expr.TheFolds.{fold_out-Exprs}
use Rattle.mpy_tree.specs.Rules.{Slots, all_types, are_arguments}

module _ (S : Slots) (p : List Routine) (i : ℕ) where
  counted : (es : List Term) → length (all_types S p i (terms es)) ≡ length es
  counted [] = refl
  counted (e ∷ es) = ap suc (counted es)

  pub count_of : (es : Exprs) → length (all_types S p i (terms_of es)) ≡ length es.items.items
  count_of es = ap (λ t. length (all_types S p i t)) (fold_out-Exprs Term Terms expr_step exprs_step es) ∙ counted (map term_of es.items.items) ∙ length-map es.items.items term_of

one_more : (a b : ℕ) (r : Bool) → nat_le a b ≡ r → nat_le (suc a) (suc b) ≡ r
one_more a b true e = let h : a ≤ b = leb-true a b e in le-leb (suc a) (suc b) (omega arith)
one_more a b false e = let h : b < a = leb-false a b e in lt-leb (suc a) (suc b) (omega arith)

-- no parameter is left after so many arguments
pub none_left : (S : Slots) (j : ℕ) (xs : List (List ℕ)) (n : ℕ) → are_arguments S j (drop n xs) [] ≡ nat_le (length xs) n
none_left S j [] zero = refl
none_left S j [] (suc n) = sym (le-leb 0 (suc n) (omega arith))
none_left S j (x ∷ xs) zero = sym (lt-leb (length (x ∷ xs)) 0 (omega arith))
none_left S j (x ∷ xs) (suc n) = sym (one_more (length xs) n _ (sym (none_left S j xs n)))

-- where no argument is left
pub at_the_end : (S : Slots) (p : List Routine) (i j : ℕ) (xs : List (List ℕ)) (es : List Expr) (k n : ℕ) → length es ≤ k → n ≡ k → are_arguments S j (drop k xs) (all_types S p i (terms (map term_of (drop k es)))) ≡ nat_le (length xs) n
at_the_end S p i j xs es k n h e =
    ap (λ fs. are_arguments S j (drop k xs) (all_types S p i (terms (map term_of fs)))) (drop_all k es h)
    ∙ none_left S j xs k
    ∙ ap (nat_le (length xs)) (sym e)
