use Rattle.std.proofs.Common.{◌≡◌, ℕ, ◌+◌, ◌-◌, ◌*◌, ◌≤◌, max, Option, Some, None, map, drop}
use Rattle.mpy_tree.proofs.tree.Arms.TheLaws.{the_size}
use Rattle.mpy_tree.proofs.tree.Stmts.TheLaws.{the_size as body_size}
use Rattle.mpy_tree.specs.declared.tree.Stmts.{Stmts}
use Rattle.mpy_tree.specs.View.{term_of, statement_of, branch_of, block, branches, block_of, branches_of, block_or_none}
use Rattle.mpy_interp.specs.Frames.{state_of}
use Rattle.mpy_tree.specs.Values.{on_line}
use Rattle.mpy_tree.specs.Operations.{members}
use Rattle.mpy_tree.specs.Expressions.{value_of}
use Rattle.mpy_tree.specs.Statements.{run_block, run_arms, run_else, while_turns}
use Rattle.mpy_interp.proofs.Turning.{turns_from}
use Rattle.mpy_interp.proofs.machine.Machine.+exec.Given as goal

-- from here on the rest of the body gives what the body gives
abbrev pub invariant-exec_block-loop-s : goal.invariant-exec_block-loop-s
invariant-exec_block-loop-s g l =
    run_block l.self.limits.now (g.C.Calls.gives l.self.calls.now) (block_of l.body) (state_of l.fn.frame)
    ≡ run_block l.self.limits.now (g.C.Calls.gives l.self.calls.now) (block (map statement_of (drop l.s-index l.s-items))) (state_of l.frame)

-- no test held so far
abbrev pub invariant-exec_if-loop-arm : goal.invariant-exec_if-loop-arm
invariant-exec_if-loop-arm g l = record {
  same : state_of l.frame ≡ state_of l.fn.frame;
  left :
      run_arms l.self.limits.now (g.C.Calls.gives l.self.calls.now) (branches_of l.arms) (run_else l.self.limits.now (g.C.Calls.gives l.self.calls.now) (block_or_none l.last) (state_of l.fn.frame)) (state_of l.fn.frame)
      ≡ run_arms l.self.limits.now (g.C.Calls.gives l.self.calls.now) (branches (map branch_of (drop l.arm-index l.arm-items))) (run_else l.self.limits.now (g.C.Calls.gives l.self.calls.now) (block_or_none l.last) (state_of l.fn.frame)) (state_of l.frame);
}

-- the turns that are left give what all give
abbrev pub invariant-exec_while-turns : goal.invariant-exec_while-turns
invariant-exec_while-turns g l =
    while_turns l.self.limits.now.turns (λ s. value_of l.self.limits.now (g.C.Calls.gives l.self.calls.now) s.locals l.line (term_of l.test)) (run_block l.self.limits.now (g.C.Calls.gives l.self.calls.now) (block_of l.body)) l.line (state_of l.fn.frame)
    ≡ while_turns l.left (λ s. value_of l.self.limits.now (g.C.Calls.gives l.self.calls.now) s.locals l.line (term_of l.test)) (run_block l.self.limits.now (g.C.Calls.gives l.self.calls.now) (block_of l.body)) l.line (state_of l.frame)

abbrev pub decreases-exec_while-turns : goal.decreases-exec_while-turns
decreases-exec_while-turns g l = l.left

-- the turns that are left give, on the members that are left, what all give
abbrev pub invariant-exec_over-turns : goal.invariant-exec_over-turns
invariant-exec_over-turns g l = record {
  within : l.turn ≤ l.self.limits.now.turns;
  left :
      turns_from 0 (on_line l.line (members l.list)) l.self.limits.now.turns l.x (run_block l.self.limits.now (g.C.Calls.gives l.self.calls.now) (block_of l.body)) l.line (state_of l.fn.frame)
      ≡ turns_from l.turn (on_line l.line (members l.list)) (l.self.limits.now.turns - l.turn) l.x (run_block l.self.limits.now (g.C.Calls.gives l.self.calls.now) (block_of l.body)) l.line (state_of l.frame);
}

abbrev pub decreases-exec_over-turns : goal.decreases-exec_over-turns
decreases-exec_over-turns g l = l.self.limits.now.turns - l.turn

-- the size of a body that may be missing
abbrev last_size : Option Stmts → ℕ
last_size None = 0
last_size (Some b) = body_size b

-- three times the size of what is run, and one or two more where just a part of it is run next
abbrev pub decreases-exec_block : goal.decreases-exec_block
decreases-exec_block g l = 3 * goal.size-exec_block g l

abbrev pub decreases-exec_act : goal.decreases-exec_act
decreases-exec_act g l = 3 * goal.size-exec_act g l

abbrev pub decreases-exec_if : goal.decreases-exec_if
decreases-exec_if g l = 3 * max (the_size l.arms.now) (last_size l.last.now) + 2

abbrev pub decreases-exec_while : goal.decreases-exec_while
decreases-exec_while g l = 3 * goal.size-exec_while g l + 2

abbrev pub decreases-exec_for : goal.decreases-exec_for
decreases-exec_for g l = 3 * goal.size-exec_for g l + 2

abbrev pub decreases-exec_over : goal.decreases-exec_over
decreases-exec_over g l = 3 * body_size l.body.now + 1
