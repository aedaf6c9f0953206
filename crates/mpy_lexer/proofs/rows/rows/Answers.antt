use Rattle.std.proofs.Common.{ℕ, ◌<◌, ◌++◌, drop, length-drop, append-nil, refl, sym, ap, ◌∙◌, arith}
use Rattle.std.proofs.lemmas.List.{take_rest}
use Rattle.mpy_lexer.specs.PhysicalLines.{rows}
use Rattle.mpy_lexer.proofs.LineCuts.{line_some, rows_more, rows_end}
use Rattle.mpy_lexer.proofs.rows.rows.Goals as goal

pub loop-at-init : goal.loop-at-init
unfolding rows
loop-at-init c = record {
  within = c.byte_order_mark_len-at.ensures.within;
  few = omega arith;
  so_far = rw (c.new-rows.ensures.items, c.byte_order_mark_len-at.ensures.same) refl;
}

pub loop-at-smaller : goal.loop-at-smaller
loop-at-smaller c =
    let some : 0 < c.line_len.result = rw (rw take_rest at c.line_len.ensures.same) (line_some (drop c.loop-at.at c.args.bytes.now) (omega (arith, length-drop {A = ℕ}))) in
    omega (arith, some)

pub loop-at-preserved : goal.loop-at-preserved
loop-at-preserved c =
    let some : 0 < c.line_len.result = rw (rw take_rest at c.line_len.ensures.same) (line_some (drop c.loop-at.at c.args.bytes.now) (omega (arith, length-drop {A = ℕ}))) in
    record {
      within = omega (arith, rw take_rest at c.line_len.ensures.within, length-drop {A = ℕ});
      few = omega arith;
      so_far = rw c.in_ok-push.ensures.items (sym (rows_more c.args.form c.loop-at.number c.loop-at.at c.line_len.result c.args.bytes.now c.loop-at.rows.items c.in_ok-row_of.field-0 c.loop-at-test.true (rw take_rest at c.line_len.ensures.same) (rw take_rest at c.line_len.ensures.within) c.in_ok-row_of.ensures) ∙ c.loop-at.invariant.so_far);
    }

pub returns : goal.returns
returns c =
    let none = rows_end c.args.form c.loop-at.number c.loop-at.at c.args.bytes.now c.loop-at-test.false in
    sym (append-nil c.loop-at.rows.items) ∙ ap (λ rs. c.loop-at.rows.items ++ rs) (sym none) ∙ c.loop-at.invariant.so_far
