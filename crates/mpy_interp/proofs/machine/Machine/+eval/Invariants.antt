use Rattle.std.proofs.Common.{◌≡◌, ℕ, ◌+◌, ◌*◌, max, map, drop, Option, Box, Global}
use Rattle.mpy_tree.specs.declared.tree.Expr.{Expr}
use Rattle.mpy_tree.specs.declared.tree.Expr.TheShapes.{weighed-Expr-Slice-1}
use Rattle.mpy_tree.proofs.tree.Expr.TheLaws.{the_size}
use Rattle.mpy_tree.specs.View.{term_of, terms, terms_of}
use Rattle.mpy_interp.specs.Answers.{after}
use Rattle.mpy_interp.specs.Frames.{locals_of}
use Rattle.mpy_tree.specs.Expressions.{values_of}
use Rattle.mpy_interp.proofs.machine.Machine.+eval.Given as goal

-- the values so far, and then those of the expressions that are left, are the values of all
abbrev pub invariant-eval_all-loop-e : goal.invariant-eval_all-loop-e
invariant-eval_all-loop-e g l =
    values_of l.self.limits.now (g.C.Calls.gives l.self.calls.now) (locals_of l.frame) l.line (terms_of l.es)
    ≡ after l.values.items (values_of l.self.limits.now (g.C.Calls.gives l.self.calls.now) (locals_of l.frame) l.line (terms (map term_of (drop l.e-index l.es.items.items))))

-- how deep an end of a slice is
abbrev end_size : Option (Box Expr Global) → ℕ
end_size = (weighed-Expr-Slice-1).weight _ the_size

-- four times how deep what it is given is, and up to three more where it evaluates just that
abbrev pub decreases-eval : goal.decreases-eval
decreases-eval g l = 4 * the_size l.e.now

abbrev pub decreases-value : goal.decreases-value
decreases-value g l = 4 * the_size l.e.now + 1

abbrev pub decreases-test : goal.decreases-test
decreases-test g l = 4 * the_size l.e.now + 1

abbrev pub decreases-operand : goal.decreases-operand
decreases-operand g l = 4 * the_size l.e.now + 1

abbrev pub decreases-eval_all : goal.decreases-eval_all
decreases-eval_all g l = 4 * goal.size-eval_all g l

abbrev pub decreases-eval_end : goal.decreases-eval_end
decreases-eval_end g l = 4 * end_size l.e.now + 2

abbrev pub decreases-eval_list : goal.decreases-eval_list
decreases-eval_list g l = 4 * goal.size-eval_list g l + 2

abbrev pub decreases-eval_call : goal.decreases-eval_call
decreases-eval_call g l = 4 * goal.size-eval_call g l + 2

abbrev pub decreases-eval_neg : goal.decreases-eval_neg
decreases-eval_neg g l = 4 * goal.size-eval_neg g l + 2

abbrev pub decreases-eval_not : goal.decreases-eval_not
decreases-eval_not g l = 4 * goal.size-eval_not g l + 2

-- the same of the deepest operand
abbrev pub decreases-eval_arith : goal.decreases-eval_arith
decreases-eval_arith g l = 4 * max (the_size l.a.now) (the_size l.b.now) + 2

abbrev pub decreases-eval_cmp : goal.decreases-eval_cmp
decreases-eval_cmp g l = 4 * max (the_size l.a.now) (the_size l.b.now) + 2

abbrev pub decreases-eval_and : goal.decreases-eval_and
decreases-eval_and g l = 4 * max (the_size l.a.now) (the_size l.b.now) + 2

abbrev pub decreases-eval_or : goal.decreases-eval_or
decreases-eval_or g l = 4 * max (the_size l.a.now) (the_size l.b.now) + 2

abbrev pub decreases-eval_index : goal.decreases-eval_index
decreases-eval_index g l = 4 * max (the_size l.a.now) (the_size l.i.now) + 2

abbrev pub decreases-eval_cond : goal.decreases-eval_cond
decreases-eval_cond g l = 4 * max (the_size l.test.now) (max (the_size l.yes.now) (the_size l.no.now)) + 2

abbrev pub decreases-eval_slice : goal.decreases-eval_slice
decreases-eval_slice g l = 4 * max (the_size l.a.now) (max (end_size l.start.now) (end_size l.end.now)) + 3
