use Rattle.std.proofs.Common.{◌≡◌, ◌<◌, ◌≤◌, length, arith, sym, ap, ◌∙◌}
use Rattle.std.proofs.lemmas.Grind.{common_steps}
use Rattle.std.specs.Option.{option_copied}
use Rattle.mpy_tree.specs.Leasts.{lesser, least}
use Rattle.mpy_tree.specs.View.{block_of}
use Rattle.mpy_limits.specs.Limits.{block_lines, line_if, too_deep}
use Rattle.mpy_limits.proofs.Lines.{arms_end, arms_more, block_end, block_more, begins_with, begins_with_none, headed, if_lines, no_last, two_pieces}
use Rattle.mpy_limits.proofs.limits.+block.Goals as goal
use Rattle.mpy_limits.proofs.limits.+block.Goals.{inner_limit-in-None, inner_limit-in-Some}

pub block_limit-loop-s-preserved : goal.block_limit-loop-s-preserved
block_limit-loop-s-preserved t c =
    let h : c.loop-s.s-index < length c.deref-s-items.result.now = grind (arith, common_steps) in
    c.loop-s.invariant ∙ block_more c.loop-s.found c.action_limit-found.result c.args.nesting c.deref-s-items.result.now c.loop-s.s-index c.s-item.result h c.s-item.is c.action_limit-found.ensures

pub block_limit-returns : goal.block_limit-returns
block_limit-returns t c =
    let h : length c.deref-s-items.result.now ≤ c.loop-s.s-index = grind (arith, common_steps) in
    sym (c.loop-s.invariant ∙ block_end c.loop-s.found c.args.nesting c.deref-s-items.result.now c.loop-s.s-index h)

pub arms_limit-loop-arm-preserved : goal.arms_limit-loop-arm-preserved
arms_limit-loop-arm-preserved t c =
    let h : c.loop-arm.arm-index < length c.deref-arm-items.result.now = grind (arith, common_steps) in
    c.loop-arm.invariant ∙ arms_more c.loop-arm.found c.headed_limit-found.result c.args.nesting c.deref-arm-items.result.now c.loop-arm.arm-index c.arm-item.result c.is_large.result h c.arm-item.is c.is_large.ensures c.headed_limit-found.ensures

pub arms_limit-returns : goal.arms_limit-returns
arms_limit-returns t c =
    let h : length c.deref-arm-items.result.now ≤ c.loop-arm.arm-index = grind (arith, common_steps) in
    sym (c.loop-arm.invariant ∙ arms_end c.loop-arm.found c.args.nesting c.deref-arm-items.result.now c.loop-arm.arm-index h)

pub headed_limit-returns : goal.headed_limit-returns
headed_limit-returns t c = headed c.args.found c.with_line-found.result c.inner_limit.result c.args.nesting c.deeper.result (line_if c.args.is_large c.args.line) (block_of c.args.body.now) c.with_line-found.ensures c.deeper.ensures c.inner_limit.ensures

pub action_limit-returns-in-If : goal.action_limit-returns-in-If
action_limit-returns-in-If t c = if_lines c.args.found c.arms_limit.result c.else_limit.result c.args.nesting c.args.line c.args.act.now c.in-If.arms c.in-If.last c.in-If.is c.arms_limit.ensures c.else_limit.ensures

pub else_limit-returns-in-None : goal.else_limit-returns-in-None
else_limit-returns-in-None t c = no_last c.args.found c.args.nesting c.args.last.now c.in-None.is

pub inner_limit-returns : goal.inner_limit-returns
inner_limit-returns t c =
    let body = c.args.body.now in
    let p : c.match-first.found ≡ lesser c.args.found (least (too_deep c.args.nesting (block_of body))) =
    elim c.match-first.branch [
      | inner_limit-in-None w ↦ w.found-is ∙ begins_with_none c.args.found c.args.nesting body c.deref.result.now c.deref.ensures.value (sym c.first.ensures.value ∙ ap option_copied w.in-None.is)
      | inner_limit-in-Some w ↦ w.found-is ∙ begins_with c.args.found w.with_line-found.result c.args.nesting body c.deref.result.now w.in-Some.s.now c.deref.ensures.value (sym c.first.ensures.value ∙ ap option_copied w.in-Some.is) w.with_line-found.ensures
    ]
    in two_pieces c.args.found c.match-first.found c.block_limit.result (too_deep c.args.nesting (block_of body)) (block_lines c.args.nesting (block_of body)) p c.block_limit.ensures
