use Rattle.std.proofs.Common.{◌≢◌, ◌+◌, ◌<◌, ◌≤◌, ◌&&◌, length, map, sym, ap, ◌∙◌, arith}
use Rattle.std.proofs.lemmas.Grind.{common_steps}
use Rattle.mpy_tree.specs.declared.tree.Arms.{out-Arms}
use Rattle.mpy_tree.specs.declared.tree.Stmts.{out-Stmts}
use Rattle.mpy_tree.specs.Comparing.{same_statement, same_branch}
use Rattle.mpy_tree.specs.View.{statement_of, branch_of}
use Rattle.mpy_tree.proofs.ListTests.{left, first_pair, no_pair, blocks_by, blocks_differ, branches_by, branches_differ}
use Rattle.mpy_tree.proofs.Opening.{block_of_is, branches_of_is}
use Rattle.mpy_tree.proofs.equality.+same_stmts.Goals as goal

pub same_stmts-returns-then-len : goal.same_stmts-returns-then-len
same_stmts-returns-then-len t c =
    let ne : length (out-Stmts c.args.a.now).items.items ≢ length (out-Stmts c.args.b.now).items.items = grind (arith, common_steps) in
    rw (block_of_is c.args.a.now, block_of_is c.args.b.now) (sym (blocks_differ statement_of (out-Stmts c.args.a.now).items.items (out-Stmts c.args.b.now).items.items ne))

pub same_stmts-loop-i-init : goal.same_stmts-loop-i-init
same_stmts-loop-i-init t c = rw (block_of_is c.args.a.now, block_of_is c.args.b.now) (blocks_by (map statement_of (out-Stmts c.args.a.now).items.items) (map statement_of (out-Stmts c.args.b.now).items.items))

pub same_stmts-returns-then-not-same_stmt : goal.same_stmts-returns-then-not-same_stmt
same_stmts-returns-then-not-same_stmt t c =
    let xs = (out-Stmts c.args.a.now).items.items in
    let ys = (out-Stmts c.args.b.now).items.items in
    let h : c.loop-i.i < length xs = grind (arith, common_steps) in
    let k : c.loop-i.i < length ys = grind (arith, common_steps) in
    let p = first_pair same_statement statement_of xs ys c.loop-i.i c.index.result.now c.index-in-loop-i.result.now c.same_stmt.result h k c.index.ensures c.index-in-loop-i.ensures c.same_stmt.ensures in
    sym (c.loop-i.invariant ∙ p ∙ ap (λ b. b && left same_statement statement_of xs ys c.loop-i.i (c.loop-i.i + 1)) c.if-not-same_stmt.true)

pub same_stmts-loop-i-preserved : goal.same_stmts-loop-i-preserved
same_stmts-loop-i-preserved t c =
    let xs = (out-Stmts c.args.a.now).items.items in
    let ys = (out-Stmts c.args.b.now).items.items in
    let h : c.loop-i.i < length xs = grind (arith, common_steps) in
    let k : c.loop-i.i < length ys = grind (arith, common_steps) in
    let p = first_pair same_statement statement_of xs ys c.loop-i.i c.index.result.now c.index-in-loop-i.result.now c.same_stmt.result h k c.index.ensures c.index-in-loop-i.ensures c.same_stmt.ensures in
    c.loop-i.invariant ∙ p ∙ ap (λ b. b && left same_statement statement_of xs ys c.loop-i.i (c.loop-i.i + 1)) c.if-not-same_stmt.false

pub same_stmts-returns : goal.same_stmts-returns
same_stmts-returns t c =
    let xs = (out-Stmts c.args.a.now).items.items in
    let ys = (out-Stmts c.args.b.now).items.items in
    let h : length xs ≤ c.loop-i.i = grind (arith, common_steps) in
    let k : length ys ≤ c.loop-i.i = grind (arith, common_steps) in
    sym (c.loop-i.invariant ∙ no_pair same_statement statement_of xs ys c.loop-i.i h k)

pub same_arms-returns-then-len : goal.same_arms-returns-then-len
same_arms-returns-then-len t c =
    let ne : length (out-Arms c.args.a.now).items.items ≢ length (out-Arms c.args.b.now).items.items = grind (arith, common_steps) in
    rw (branches_of_is c.args.a.now, branches_of_is c.args.b.now) (sym (branches_differ branch_of (out-Arms c.args.a.now).items.items (out-Arms c.args.b.now).items.items ne))

pub same_arms-loop-i-init : goal.same_arms-loop-i-init
same_arms-loop-i-init t c = rw (branches_of_is c.args.a.now, branches_of_is c.args.b.now) (branches_by (map branch_of (out-Arms c.args.a.now).items.items) (map branch_of (out-Arms c.args.b.now).items.items))

pub same_arms-returns-then-not-same_arm : goal.same_arms-returns-then-not-same_arm
same_arms-returns-then-not-same_arm t c =
    let xs = (out-Arms c.args.a.now).items.items in
    let ys = (out-Arms c.args.b.now).items.items in
    let h : c.loop-i.i < length xs = grind (arith, common_steps) in
    let k : c.loop-i.i < length ys = grind (arith, common_steps) in
    let p = first_pair same_branch branch_of xs ys c.loop-i.i c.index.result.now c.index-in-loop-i.result.now c.same_arm.result h k c.index.ensures c.index-in-loop-i.ensures c.same_arm.ensures in
    sym (c.loop-i.invariant ∙ p ∙ ap (λ b. b && left same_branch branch_of xs ys c.loop-i.i (c.loop-i.i + 1)) c.if-not-same_arm.true)

pub same_arms-loop-i-preserved : goal.same_arms-loop-i-preserved
same_arms-loop-i-preserved t c =
    let xs = (out-Arms c.args.a.now).items.items in
    let ys = (out-Arms c.args.b.now).items.items in
    let h : c.loop-i.i < length xs = grind (arith, common_steps) in
    let k : c.loop-i.i < length ys = grind (arith, common_steps) in
    let p = first_pair same_branch branch_of xs ys c.loop-i.i c.index.result.now c.index-in-loop-i.result.now c.same_arm.result h k c.index.ensures c.index-in-loop-i.ensures c.same_arm.ensures in
    c.loop-i.invariant ∙ p ∙ ap (λ b. b && left same_branch branch_of xs ys c.loop-i.i (c.loop-i.i + 1)) c.if-not-same_arm.false

pub same_arms-returns : goal.same_arms-returns
same_arms-returns t c =
    let xs = (out-Arms c.args.a.now).items.items in
    let ys = (out-Arms c.args.b.now).items.items in
    let h : length xs ≤ c.loop-i.i = grind (arith, common_steps) in
    let k : length ys ≤ c.loop-i.i = grind (arith, common_steps) in
    sym (c.loop-i.invariant ∙ no_pair same_branch branch_of xs ys c.loop-i.i h k)
