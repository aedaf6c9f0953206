-- Numbers of arguments.
use Rattle.std.proofs.Common.{◌≡◌, List, [], ◌∷◌, length, map, refl, ap, ◌∙◌, arith}
use Rattle.std.proofs.lemmas.List.{length-map}
use Rattle.mpy_tree.specs.declared.tree.Exprs.{Exprs}
use Rattle.mpy_tree.specs.Syntax.{Term, Terms}
use Rattle.mpy_tree.specs.View.{term_of, terms, terms_of, expr_step, exprs_step}
use Rattle.mpy_tree.specs.declared.tree.Expr.TheFolds.{fold_out-Exprs}
use Rattle.mpy_tree.specs.Names.{count}

count_terms : (es : List Term) → count (terms es) ≡ length es
count_terms [] = refl
count_terms (e ∷ es) = let h : count (terms es) ≡ length es = count_terms es in omega arith

-- how many arguments a call has
pub args_of : (es : Exprs) → count (terms_of es) ≡ length es.items.items
args_of es = ap count (fold_out-Exprs Term Terms expr_step exprs_step es) ∙ count_terms (map term_of es.items.items) ∙ length-map es.items.items term_of
