use Rattle.std.proofs.Common.{Some, None, arith}
use Rattle.input_bits.proofs.Decoding.{bool_at, list_at, no_list_at, no_text_at, text_at}
use Rattle.input_bits.proofs.decode.decode_value.Goals as goal

pub returns-then-count-limits : goal.returns-then-count-limits
returns-then-count-limits c =
    no_list_at c.args.limits.now c.args.ty c.args.truths.now c.args.start c.natural-count.result c.in-List.is c.natural-count.ensures.value (omega (arith, c.if-count-limits.true))

pub returns-then-count-limits-2 : goal.returns-then-count-limits-2
returns-then-count-limits-2 c =
    no_text_at c.args.limits.now c.args.ty c.args.truths.now c.args.start c.natural-count-in-Text.result c.in-Text.is c.natural-count-in-Text.ensures.value (omega (arith, c.if-count-limits-2.true))

pub returns-in-Bool : goal.returns-in-Bool
returns-in-Bool c = bool_at c.args.limits.now c.args.ty c.args.truths.now c.args.start c.at.result c.in-Bool.is c.at.ensures

pub returns-in_ok-items-in-List : goal.returns-in_ok-items-in-List
returns-in_ok-items-in-List c =
    list_at c.args.limits.now c.args.ty c.args.truths.now c.args.start c.natural-count.result c.in_ok-items-in-List.items c.in-List.is c.natural-count.ensures.value
    (omega (arith, c.if-count-limits.false)) c.in_ok-items-in-List.ensures

pub returns-in-None : goal.returns-in-None
returns-in-None c =
    text_at c.args.limits.now c.args.ty c.args.truths.now c.args.start c.natural-count-in-Text.result None c.in-Text.is c.natural-count-in-Text.ensures.value
    (omega (arith, c.if-count-limits-2.false)) (rw c.in-None.is at c.in_ok-characters-in-Text.ensures)

pub returns-in-Some : goal.returns-in-Some
returns-in-Some c =
    text_at c.args.limits.now c.args.ty c.args.truths.now c.args.start c.natural-count-in-Text.result (Some c.in-Some.text) c.in-Text.is c.natural-count-in-Text.ensures.value
    (omega (arith, c.if-count-limits-2.false)) (rw c.in-Some.is at c.in_ok-characters-in-Text.ensures)
