use Rattle.std.proofs.Common.{◌*◌, suc, ◌∷◌, [], length, length-append, ◌∙◌, ap, refl, sym, arith}
use Rattle.cost_levels.proofs.Numbered.{push_right, reach_more}
use Rattle.cost_levels.proofs.counting.Counts.push_row.Goals as goal

pub number_from-number-requires : goal.number_from-number-requires
number_from-number-requires c =
    let many = c.loop-cost.invariant.many in
    let width = c.loop-cost.invariant.width in
    let below = c.loop-cost-test.true in
    record {
      reach =
          reach_more c.args.self.now c.loop-cost.self c.args.row.now (sym width)
          (omega (arith, many)) c.requires;
      within = omega (arith, below, width);
    }

pub loop-cost-preserved : goal.loop-cost-preserved
loop-cost-preserved c =
    let old = c.loop-cost.self in
    let cost = c.loop-cost.cost in
    let n = c.number_from-number.result in
    let pushed = c.in_ok-push.ensures.items in
    let all = ap length pushed ∙ length-append old.numbers.items (n ∷ []) in
    let many = c.loop-cost.invariant.many in
    let width = c.loop-cost.invariant.width in
    let below = c.loop-cost-test.true in
    record {
      width = width;
      many = omega (arith, all, many);
      right = λ rows place at first so_far.
          let right = c.loop-cost.invariant.right rows place at first so_far in
          let wide = ap (λ w. suc place * w) width in
          push_right rows place c.args.row.now old
          (record { width = old.width; numbers = c.push.new.self }) cost n at refl pushed
          (omega (arith, many, first, wide)) (omega (arith, below, width)) right
          (λ base ws shows ways. c.number_from-number.ensures rows base ws right shows ways);
    }

pub returns-clause-right : goal.returns-clause-right
returns-clause-right c = λ rows place at first so_far.
    c.loop-cost.invariant.right rows place at first so_far
