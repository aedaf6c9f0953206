use Rattle.std.proofs.Common.{◌≢◌, ◌+◌, ◌<◌, ◌≤◌, ◌&&◌, length, map, sym, ap, ◌∙◌, arith}
use Rattle.std.proofs.lemmas.Grind.{common_steps}
use Rattle.mpy_tree.specs.Comparing.{same_term}
use Rattle.mpy_tree.specs.View.{term_of}
use Rattle.mpy_tree.proofs.ListTests.{left, first_pair, no_pair, terms_by, terms_differ}
use Rattle.mpy_tree.proofs.Opening.{terms_of_is}
use Rattle.mpy_tree.proofs.equality.+equal.Goals as goal

pub equal_exprs-returns-then-len : goal.equal_exprs-returns-then-len
equal_exprs-returns-then-len t c =
    let ne : length c.args.a.now.items.items ≢ length c.args.b.now.items.items = grind (arith, common_steps) in
    rw (terms_of_is c.args.a.now, terms_of_is c.args.b.now) (sym (terms_differ term_of c.args.a.now.items.items c.args.b.now.items.items ne))

pub equal_exprs-loop-i-init : goal.equal_exprs-loop-i-init
equal_exprs-loop-i-init t c = rw (terms_of_is c.args.a.now, terms_of_is c.args.b.now) (terms_by (map term_of c.args.a.now.items.items) (map term_of c.args.b.now.items.items))

pub equal_exprs-returns-then-not-equal : goal.equal_exprs-returns-then-not-equal
equal_exprs-returns-then-not-equal t c =
    let xs = c.args.a.now.items.items in
    let ys = c.args.b.now.items.items in
    let h : c.loop-i.i < length xs = grind (arith, common_steps) in
    let k : c.loop-i.i < length ys = grind (arith, common_steps) in
    let p = first_pair same_term term_of xs ys c.loop-i.i c.index.result.now c.index-in-loop-i.result.now c.equal.result h k c.index.ensures c.index-in-loop-i.ensures c.equal.ensures in
    sym (c.loop-i.invariant ∙ p ∙ ap (λ b. b && left same_term term_of xs ys c.loop-i.i (c.loop-i.i + 1)) c.if-not-equal.true)

pub equal_exprs-loop-i-preserved : goal.equal_exprs-loop-i-preserved
equal_exprs-loop-i-preserved t c =
    let xs = c.args.a.now.items.items in
    let ys = c.args.b.now.items.items in
    let h : c.loop-i.i < length xs = grind (arith, common_steps) in
    let k : c.loop-i.i < length ys = grind (arith, common_steps) in
    let p = first_pair same_term term_of xs ys c.loop-i.i c.index.result.now c.index-in-loop-i.result.now c.equal.result h k c.index.ensures c.index-in-loop-i.ensures c.equal.ensures in
    c.loop-i.invariant ∙ p ∙ ap (λ b. b && left same_term term_of xs ys c.loop-i.i (c.loop-i.i + 1)) c.if-not-equal.false

pub equal_exprs-returns : goal.equal_exprs-returns
equal_exprs-returns t c =
    let xs = c.args.a.now.items.items in
    let ys = c.args.b.now.items.items in
    let h : length xs ≤ c.loop-i.i = grind (arith, common_steps) in
    let k : length ys ≤ c.loop-i.i = grind (arith, common_steps) in
    sym (c.loop-i.invariant ∙ no_pair same_term term_of xs ys c.loop-i.i h k)
