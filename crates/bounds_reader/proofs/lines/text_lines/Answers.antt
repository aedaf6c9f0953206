use Rattle.std.proofs.Common.{ℕ, ◌<◌, ◌++◌, drop, map, length-drop, append-nil, refl, sym, ap, ◌∙◌, arith}
use Rattle.std.proofs.lemmas.List.{take_rest, map_push, length_push}
use Rattle.mpy_lexer.proofs.LineCuts.{line_some}
use Rattle.bounds_reader.proofs.LineCuts.{lines_more, no_lines}
use Rattle.bounds_reader.proofs.lines.text_lines.Goals as goal

pub loop-at-init : goal.loop-at-init
loop-at-init c = record {
  within = c.byte_order_mark_len-at.ensures.within;
  few = rw c.new-lines.ensures.items (omega arith);
  so_far = rw (c.new-lines.ensures.items, c.byte_order_mark_len-at.ensures.same) refl;
}

pub loop-at-smaller : goal.loop-at-smaller
loop-at-smaller c =
    let some : 0 < c.line_len.result = rw (rw take_rest at c.line_len.ensures.same) (line_some (drop c.loop-at.at c.args.bytes.now) (omega (arith, length-drop {A = ℕ}))) in
    omega (arith, some)

pub loop-at-preserved : goal.loop-at-preserved
loop-at-preserved c =
    let some : 0 < c.line_len.result = rw (rw take_rest at c.line_len.ensures.same) (line_some (drop c.loop-at.at c.args.bytes.now) (omega (arith, length-drop {A = ℕ}))) in
    record {
      within = omega (arith, rw take_rest at c.line_len.ensures.within, length-drop {A = ℕ});
      few = rw (c.in_ok-push.ensures.items, length_push) (omega (arith, some));
      so_far = rw (c.in_ok-push.ensures.items, map_push) (sym (lines_more c.loop-at.at c.line_len.result c.args.bytes.now (map (λ x. x.now) c.loop-at.lines.items) _ c.loop-at-test.true (rw take_rest at c.line_len.ensures.same) refl) ∙ c.loop-at.invariant.so_far);
    }

pub returns-clause-lines : goal.returns-clause-lines
returns-clause-lines c =
    let none = no_lines c.loop-at.at c.args.bytes.now c.loop-at-test.false in
    sym (append-nil (map (λ x. x.now) c.loop-at.lines.items)) ∙ ap (λ ls. map (λ x. x.now) c.loop-at.lines.items ++ ls) (sym none) ∙ c.loop-at.invariant.so_far
