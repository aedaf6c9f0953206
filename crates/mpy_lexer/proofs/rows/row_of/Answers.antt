use Rattle.std.proofs.Common.{ℕ, length-drop, sym, ◌∙◌, arith}
use Rattle.std.proofs.lemmas.List.{take_rest}
use Rattle.mpy_lexer.proofs.LineParts.{seen_more, seen_all, row_seen}
use Rattle.mpy_lexer.proofs.PieceLengths.{shorter}
use Rattle.mpy_lexer.proofs.rows.row_of.Goals as goal

pub loop-at-smaller : goal.loop-at-smaller
loop-at-smaller c = shorter c.args.form c.loop-at.at c.args.line.now c.piece_at-piece.result c.loop-at-test.true (rw take_rest at c.piece_at-piece.ensures.same)

pub loop-at-preserved : goal.loop-at-preserved
loop-at-preserved c = record {
  within = omega (arith, rw take_rest at c.piece_at-piece.ensures.within, length-drop {A = ℕ});
  so_far = rw c.in_ok-pass.ensures (sym (seen_more c.args.form c.args.from c.loop-at.at c.args.line.now c.loop-at.seen c.piece_at-piece.result c.loop-at-test.true (rw take_rest at c.piece_at-piece.ensures.same)) ∙ c.loop-at.invariant.so_far);
}

pub returns : goal.returns
returns c =
    let all = seen_all c.args.form c.args.from c.loop-at.at c.args.line.now c.loop-at.seen c.loop-at-test.false c.loop-at.invariant.so_far in
    row_seen c.args.form c.args.number c.args.from c.column_of.result c.args.line.now c.byte_cause.result c.loop-at.seen all c.column_of.ensures c.byte_cause.ensures
