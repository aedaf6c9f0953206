use Rattle.std.proofs.Common.{◌≡◌, ◌+◌, ◌∷◌, [], map, Err, refl, subst, sym, ap, ◌∙◌, arith}
use Rattle.std.proofs.lemmas.List.{map-append}
use Rattle.mpy_tree.specs.View.{action_of, block, block_of, block_or_none, branch_of, branches}
use Rattle.mpy_tree.specs.View.{branches_of, statement_of}
use Rattle.mpy_tree.specs.Shapes.{statement_shapes}
use Rattle.mpy_tree.specs.Trees as kind
use Rattle.mpy_tree.proofs.Opening.{block_of_is, branches_of_is}
use Rattle.choice_tree.specs.declared.tree.WAct.{WAct, If}
use Rattle.choice_tree.specs.declared.tree.WArms.{WArms}
use Rattle.choice_tree.specs.declared.tree.WStmts.{WStmts}
use Rattle.choice_tree.specs.Growing.{parts_grown}
use Rattle.choice_tree.specs.StatementViews.{weighted_act, weighted_arm, weighted_arms}
use Rattle.choice_tree.specs.StatementViews.{weighted_body, weighted_stmt}
use Rattle.choice_tree.specs.WeightedTrees.{no_weighted, numbered, picks, picks_in, plainly}
use Rattle.choice_tree.specs.WeightedTrees.{size}
use Rattle.choice_tree.specs.WeightedViews.{weighteds}
use Rattle.eml_rewrite.specs.Building.{Built, Took}
use Rattle.eml_rewrite.specs.Spots.{setting_at, context_at}
use Rattle.eml_rewrite.specs.Statements.{action_grown, apart_in, arms_grown, fully_grown}
use Rattle.eml_rewrite.specs.Statements.{last_grown}
use Rattle.eml_rewrite.proofs.Appending.{none_built, front_next, front_end, front_stops}
use Rattle.eml_rewrite.proofs.Trunks.{arm_is, arm_tree, arms_each, arms_made, body_made, none_at}
use Rattle.eml_rewrite.proofs.Trunks.{some_at, statement_grown_is, statement_tree, statements_each}
use Rattle.eml_rewrite.proofs.Trunks.{if_arms_stop, if_built, if_last_stops, if_of, wrapped_stops}
use Rattle.eml_rewrite.proofs.statements.+grow_stmts.Goals as goal

pub grow_stmts-loop-s-init : goal.grow_stmts-loop-s-init
grow_stmts-loop-s-init g t c =
    let σ = setting_at c.args.spot.now in
    let here = context_at c.args.spot.now in
    let xs = c.deref-s-items.result.now in
    rw c.new-items.ensures.items
    (none_built _ _ c.args.counter.now
    (ap (λ b. parts_grown σ (fully_grown σ) (statement_shapes b) kind.Block 0 (apart_in here))
    (block_of_is c.args.b.now
    ∙ ap (λ ys. block (map statement_of ys)) (sym c.deref-s-items.ensures.value))
    ∙ statements_each σ here 0 xs))

pub grow_stmts-returns-in_err-grow_stmt : goal.grow_stmts-returns-in_err-grow_stmt
grow_stmts-returns-in_err-grow_stmt g t c =
    let σ = setting_at c.args.spot.now in
    let here = context_at c.args.spot.now in
    let xs = c.deref-s-items.result.now in
    let all =
    parts_grown σ (fully_grown σ) (statement_shapes (block_of c.args.b.now)) kind.Block 0
    (apart_in here) in
    wrapped_stops (λ (x : WStmts). no_weighted) weighted_body c.from_residual.result
    c.in_err-grow_stmt.field-0.0 kind.Block all c.args.counter.now c.grow_stmt.new.counter refl
    c.from_residual.ensures
    (front_stops weighted_stmt (λ (x : WStmts). no_weighted) c.from_residual.result
    c.in_err-grow_stmt.field-0.0 all (statement_tree σ here) xs c.loop-s.s-index c.s-item.result
    (map weighted_stmt c.loop-s.items.items) c.args.counter.now c.loop-s.counter
    c.grow_stmt.new.counter c.from_residual.ensures
    (some_at xs c.loop-s.s-index c.s-item.result c.loop-s-test.true c.s-item.is)
    c.loop-s.invariant
    (subst (λ w. Built weighted_stmt (Err c.in_err-grow_stmt.field-0.0) w c.loop-s.counter
    c.grow_stmt.new.counter)
    (sym (statement_grown_is σ c.requires here (statement_of c.s-item.result)))
    c.in_err-grow_stmt.ensures))

pub grow_stmts-loop-s-preserved : goal.grow_stmts-loop-s-preserved
grow_stmts-loop-s-preserved g t c =
    let σ = setting_at c.args.spot.now in
    let here = context_at c.args.spot.now in
    let xs = c.deref-s-items.result.now in
    let s = c.s-item.result in
    let built =
    subst (λ w. (weighted_stmt c.in_ok-grow_stmt.field-0 ≡ numbered w c.loop-s.counter.next)
    × Took c.loop-s.counter c.grow_stmt.new.counter (picks w) (size w))
    (sym (statement_grown_is σ c.requires here (statement_of s))) c.in_ok-grow_stmt.ensures in
    front_next
    (parts_grown σ (fully_grown σ) (statement_shapes (block_of c.args.b.now)) kind.Block 0
    (apart_in here)) (statement_tree σ here) xs c.loop-s.s-index (c.loop-s.s-index + 1) s
    (weighted_stmt c.in_ok-grow_stmt.field-0) (map weighted_stmt c.loop-s.items.items)
    (map weighted_stmt c.push.new.self.items) c.args.counter.now c.loop-s.counter
    c.grow_stmt.new.counter (omega arith)
    (some_at xs c.loop-s.s-index s c.loop-s-test.true c.s-item.is) c.loop-s.invariant built.0
    built.1
    (ap (map weighted_stmt) c.in_ok-push.ensures.items
    ∙ map-append weighted_stmt c.loop-s.items.items (c.in_ok-grow_stmt.field-0 ∷ []))

pub grow_stmts-returns : goal.grow_stmts-returns
grow_stmts-returns g t c =
    let σ = setting_at c.args.spot.now in
    let here = context_at c.args.spot.now in
    let xs = c.deref-s-items.result.now in
    let done =
    front_end
    (parts_grown σ (fully_grown σ) (statement_shapes (block_of c.args.b.now)) kind.Block 0
    (apart_in here)) (statement_tree σ here) xs c.loop-s.s-index
    (map weighted_stmt c.loop-s.items.items) c.args.counter.now c.loop-s.counter
    (none_at xs c.loop-s.s-index c.loop-s-test.false) c.loop-s.invariant in
    let next = done.1.next in
    let left = done.1.left in (
      body_made c.loop-s.items ∙ ap (plainly kind.Block) done.0,
      record { next = omega arith; left = omega arith },
    )

pub grow_arms-loop-arm-init : goal.grow_arms-loop-arm-init
grow_arms-loop-arm-init g t c =
    let σ = setting_at c.args.spot.now in
    let here = context_at c.args.spot.now in
    let xs = c.deref-arm-items.result.now in
    rw c.new-items.ensures.items
    (none_built _ _ c.args.counter.now
    (ap (λ bs. arms_grown σ here bs no_weighted)
    (branches_of_is c.args.arms.now
    ∙ ap (λ ys. branches (map branch_of ys)) (sym c.deref-arm-items.ensures.value))
    ∙ arms_each σ here 0 xs))

pub grow_arms-returns-in_err-grow_arm : goal.grow_arms-returns-in_err-grow_arm
grow_arms-returns-in_err-grow_arm g t c =
    let σ = setting_at c.args.spot.now in
    let here = context_at c.args.spot.now in
    let xs = c.deref-arm-items.result.now in
    front_stops weighted_arm (λ (r : WArms). weighteds (weighted_arms r)) c.from_residual.result
    c.in_err-grow_arm.field-0.0 (arms_grown σ here (branches_of c.args.arms.now) no_weighted)
    (arm_tree σ here) xs c.loop-arm.arm-index c.arm-item.result
    (map weighted_arm c.loop-arm.items.items) c.args.counter.now c.loop-arm.counter
    c.grow_arm.new.counter c.from_residual.ensures
    (some_at xs c.loop-arm.arm-index c.arm-item.result c.loop-arm-test.true c.arm-item.is)
    c.loop-arm.invariant
    (subst (λ w. Built weighted_arm (Err c.in_err-grow_arm.field-0.0) w c.loop-arm.counter
    c.grow_arm.new.counter) (sym (arm_is σ c.requires here (branch_of c.arm-item.result)))
    c.in_err-grow_arm.ensures)

pub grow_arms-loop-arm-preserved : goal.grow_arms-loop-arm-preserved
grow_arms-loop-arm-preserved g t c =
    let σ = setting_at c.args.spot.now in
    let here = context_at c.args.spot.now in
    let xs = c.deref-arm-items.result.now in
    let a = c.arm-item.result in
    let built =
    subst (λ w. (weighted_arm c.in_ok-grow_arm.field-0 ≡ numbered w c.loop-arm.counter.next)
    × Took c.loop-arm.counter c.grow_arm.new.counter (picks w) (size w))
    (sym (arm_is σ c.requires here (branch_of a))) c.in_ok-grow_arm.ensures in
    front_next (arms_grown σ here (branches_of c.args.arms.now) no_weighted) (arm_tree σ here) xs
    c.loop-arm.arm-index (c.loop-arm.arm-index + 1) a (weighted_arm c.in_ok-grow_arm.field-0)
    (map weighted_arm c.loop-arm.items.items) (map weighted_arm c.push.new.self.items)
    c.args.counter.now c.loop-arm.counter c.grow_arm.new.counter (omega arith)
    (some_at xs c.loop-arm.arm-index a c.loop-arm-test.true c.arm-item.is) c.loop-arm.invariant
    built.0 built.1
    (ap (map weighted_arm) c.in_ok-push.ensures.items
    ∙ map-append weighted_arm c.loop-arm.items.items (c.in_ok-grow_arm.field-0 ∷ []))

pub grow_arms-returns : goal.grow_arms-returns
grow_arms-returns g t c =
    let σ = setting_at c.args.spot.now in
    let here = context_at c.args.spot.now in
    let xs = c.deref-arm-items.result.now in
    let done =
    front_end (arms_grown σ here (branches_of c.args.arms.now) no_weighted) (arm_tree σ here) xs
    c.loop-arm.arm-index (map weighted_arm c.loop-arm.items.items) c.args.counter.now
    c.loop-arm.counter (none_at xs c.loop-arm.arm-index c.loop-arm-test.false)
    c.loop-arm.invariant in
    (ap weighteds (arms_made c.loop-arm.items) ∙ done.0, done.1)

pub grow_act-returns-in_err-arms-in-If : goal.grow_act-returns-in_err-arms-in-If
grow_act-returns-in_err-arms-in-If g t c =
    let σ = setting_at c.args.spot.now in
    let here = context_at c.args.spot.now in
    let bs = branches_of c.in-If.arms in
    let ws = last_grown σ here (block_or_none c.in-If.last) in
    let is = ap action_of c.in-If.is ∙ if_of c.in-If.arms c.in-If.last in
    let view = λ (x : WAct). weighted_act x c.args.line in
    subst (λ a. Built view c.from_residual-in_err-arms-in-If.result
    (action_grown σ here a c.args.line) c.args.counter.now c.grow_arms.new.counter) (sym is)
    (if_arms_stop (λ (r : WArms). weighteds (weighted_arms r)) view
    c.from_residual-in_err-arms-in-If.result c.in_err-arms-in-If.field-0.0 σ here bs ws c.args.line
    c.args.counter.now c.grow_arms.new.counter c.from_residual-in_err-arms-in-If.ensures
    c.in_err-arms-in-If.ensures)

pub grow_act-returns-in_err-arms-in-If-2 : goal.grow_act-returns-in_err-arms-in-If-2
grow_act-returns-in_err-arms-in-If-2 g t c =
    let σ = setting_at c.args.spot.now in
    let here = context_at c.args.spot.now in
    let bs = branches_of c.in-If.arms in
    let ws = last_grown σ here (block_or_none c.in-If.last) in
    let is = ap action_of c.in-If.is ∙ if_of c.in-If.arms c.in-If.last in
    let view = λ (x : WAct). weighted_act x c.args.line in
    subst (λ a. Built view c.from_residual-in_err-arms-in-If-2.result
    (action_grown σ here a c.args.line) c.args.counter.now c.grow_last.new.counter) (sym is)
    (if_last_stops (λ (x : WArms). no_weighted) view c.from_residual-in_err-arms-in-If-2.result
    c.in_err-arms-in-If-2.field-0.0 σ here bs ws c.args.line c.args.counter.now
    c.grow_arms.new.counter c.grow_last.new.counter
    (picks_in (arms_grown σ here bs no_weighted)) c.from_residual-in_err-arms-in-If-2.ensures
    c.in_ok-arms-in-If.ensures.1 c.in_err-arms-in-If-2.ensures.last)

pub grow_act-returns-in_ok-arms-in-If-2 : goal.grow_act-returns-in_ok-arms-in-If-2
grow_act-returns-in_ok-arms-in-If-2 g t c =
    let σ = setting_at c.args.spot.now in
    let here = context_at c.args.spot.now in
    let bs = branches_of c.in-If.arms in
    let ws = last_grown σ here (block_or_none c.in-If.last) in
    let is = ap action_of c.in-If.is ∙ if_of c.in-If.arms c.in-If.last in
    subst (λ a. (weighted_act (If c.in_ok-arms-in-If-2.arms c.in_ok-arms-in-If-2.last) c.args.line
    ≡ numbered (action_grown σ here a c.args.line) c.args.counter.now.next)
    × Took c.args.counter.now c.grow_last.new.counter (picks (action_grown σ here a c.args.line))
    (size (action_grown σ here a c.args.line))) (sym is)
    (if_built σ here bs ws c.args.line c.in_ok-arms-in-If.arms c.in_ok-arms-in-If-2.arms
    c.in_ok-arms-in-If-2.last c.args.counter.now c.grow_arms.new.counter c.grow_last.new.counter
    c.in_ok-arms-in-If.ensures c.in_ok-arms-in-If-2.ensures.arms c.in_ok-arms-in-If-2.ensures.last)
