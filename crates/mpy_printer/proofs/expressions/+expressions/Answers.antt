use Rattle.std.proofs.Common.{◌≡◌, ℕ, Box, Global, List, ◌++◌, map, codes, Option, Some, None, sym, ap, ◌∙◌, append_assoc}
use Rattle.mpy_tree.specs.declared.tree.Expr.{Expr, Slice, Call}
use Rattle.mpy_tree.specs.declared.tree.Exprs.{Exprs}
use Rattle.mpy_tree.specs.declared.tree.Expr.TheVariants.{rolls-Slice, rolls-Call}
use Rattle.mpy_tree.specs.declared.tree.Expr.TheFolds.{fold_out-Exprs, fold-roll-Expr}
use Rattle.mpy_tree.specs.declared.tree.Expr.TheOpen as F
use Rattle.mpy_tree.specs.Syntax as ast
use Rattle.mpy_tree.specs.Syntax.{Term, Terms}
use Rattle.mpy_tree.specs.declared.levels.Level.TheVariants as level
use Rattle.mpy_tree.specs.Printing.{at_level, commas, end_text, text_of, texts_of}
use Rattle.mpy_tree.specs.View.{end_by, term_of, terms, terms_of, expr_step, exprs_step}
use Rattle.mpy_printer.proofs.Joining.{joined_is}
use Rattle.mpy_printer.proofs.expressions.+expressions.Goals as goal

pub write_exprs-loop-e-init : goal.write_exprs-loop-e-init
write_exprs-loop-e-init t c =
    let e : terms_of c.args.es.now ≡ terms (map term_of c.args.es.now.items.items) = fold_out-Exprs Term Terms expr_step exprs_step c.args.es.now in
    rw e (ap (λ zs. c.args.out.now.items ++ zs) (joined_is (texts_of (terms (map term_of c.args.es.now.items.items)))))

call_is : (f : List ℕ) (es : Exprs) → term_of (Call f es) ≡ ast.Call f (terms_of es)
call_is f es =
    ap term_of (sym (rolls-Call f es)) ∙ fold-roll-Expr Term Terms expr_step exprs_step (F.Call f es)

pub write_expr-returns-in_ok-write_arguments-in-Call : goal.write_expr-returns-in_ok-write_arguments-in-Call
write_expr-returns-in_ok-write_arguments-in-Call t c =
    let f = c.in-Call.f in
    let inner = commas (texts_of (terms_of c.in-Call.es)) in
    let one : c.extend_from_slice-in-Call.new.self.items ≡ c.args.out.now.items ++ f = c.in_ok-extend_from_slice-in-Call.ensures.items ∙ ap (λ x. c.args.out.now.items ++ x) c.bytes-in-Call.ensures in
    let two : c.write_arguments.new.out.items ≡ c.extend_from_slice-in-Call.new.self.items ++ (codes "(" ++ inner ++ codes ")") = c.in_ok-write_arguments-in-Call.ensures in
    let is : text_of (term_of c.args.e.now) ≡ f ++ codes "(" ++ inner ++ codes ")" = ap text_of (ap term_of c.in-Call.is ∙ call_is f c.in-Call.es) in
    let flat : (c.args.out.now.items ++ f) ++ (codes "(" ++ inner ++ codes ")") ≡ c.args.out.now.items ++ (f ++ codes "(" ++ inner ++ codes ")") = simp append_assoc in
    two
    ∙ ap (λ l. l ++ (codes "(" ++ inner ++ codes ")")) one
    ∙ flat
    ∙ ap (λ l. c.args.out.now.items ++ l) (sym is)

slice_is : (v : Box Expr Global) (from to : Option (Box Expr Global)) → term_of (Slice v from to) ≡ ast.Slice (term_of v.value) (end_by (λ b. term_of b.value) from) (end_by (λ b. term_of b.value) to)
slice_is v None None =
    ap term_of (sym (rolls-Slice v None None)) ∙ fold-roll-Expr Term Terms expr_step exprs_step (F.Slice v None None)
slice_is v None (Some to) =
    ap term_of (sym (rolls-Slice v None (Some to))) ∙ fold-roll-Expr Term Terms expr_step exprs_step (F.Slice v None (Some to))
slice_is v (Some from) None =
    ap term_of (sym (rolls-Slice v (Some from) None)) ∙ fold-roll-Expr Term Terms expr_step exprs_step (F.Slice v (Some from) None)
slice_is v (Some from) (Some to) =
    ap term_of (sym (rolls-Slice v (Some from) (Some to))) ∙ fold-roll-Expr Term Terms expr_step exprs_step (F.Slice v (Some from) (Some to))

pub write_expr-returns-in_ok-write_to-in-Slice : goal.write_expr-returns-in_ok-write_to-in-Slice
write_expr-returns-in_ok-write_to-in-Slice t c =
    let v = term_of c.in-Slice.v.value in
    let part = at_level level.Postfix v (text_of v) in
    let from = end_text (end_by (λ b. term_of b.value) c.in-Slice.from) in
    let to = end_text (end_by (λ b. term_of b.value) c.in-Slice.to) in
    let one : c.write_part-in-Slice.new.out.items ≡ c.args.out.now.items ++ part =
    c.in_ok-write_part-in-Slice.ensures ∙ ap (λ x. c.args.out.now.items ++ at_level level.Postfix (term_of x) (text_of (term_of x))) c.deref-in-Slice.ensures in
    let two : c.write_from.new.out.items ≡ c.write_part-in-Slice.new.out.items ++ (codes "[" ++ from ++ codes ":") = c.in_ok-write_from-in-Slice.ensures in
    let three : c.write_to.new.out.items ≡ c.write_from.new.out.items ++ (to ++ codes "]") = c.in_ok-write_to-in-Slice.ensures in
    let is : text_of (term_of c.args.e.now) ≡ part ++ codes "[" ++ from ++ codes ":" ++ to ++ codes "]" = ap text_of (ap term_of c.in-Slice.is ∙ slice_is c.in-Slice.v c.in-Slice.from c.in-Slice.to) in
    let flat : ((c.args.out.now.items ++ part) ++ (codes "[" ++ from ++ codes ":")) ++ (to ++ codes "]") ≡ c.args.out.now.items ++ (part ++ codes "[" ++ from ++ codes ":" ++ to ++ codes "]") = simp append_assoc in
    three
    ∙ ap (λ l. l ++ (to ++ codes "]")) (two ∙ ap (λ l. l ++ (codes "[" ++ from ++ codes ":")) one)
    ∙ flat
    ∙ ap (λ l. c.args.out.now.items ++ l) (sym is)
