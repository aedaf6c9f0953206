use Rattle.std.proofs.Common.{◌<◌, arith, rules}
use Rattle.mpy_interp.specs.Frames.{state_of}
use Rattle.mpy_tree.specs.Syntax as ast
use Rattle.mpy_tree.specs.View.{term_of, maybe_term, block_of}
use Rattle.mpy_tree.specs.declared.tree.Act.{Assign, Augment, Put, AugmentAt, Append, Print, Return, While, For}
use Rattle.mpy_tree.specs.Operations.{members}
use Rattle.mpy_tree.specs.Statements.{run_block}
use Rattle.mpy_interp.proofs.Turning.{turn_begun}
use Rattle.mpy_interp.proofs.Arms.{ends_as, assign_is, augment_is, put_is, augment_at_is, append_is, print_is, return_is, while_is, for_is}
use Rattle.mpy_interp.proofs.machine.Machine.+exec.Goals as goal
use Rattle.mpy_interp.proofs.machine.Machine.+exec.Goals.{exec_over-in-Next, exec_over-in-Continued}

pub exec_act-returns-in-Assign : goal.exec_act-returns-in-Assign
exec_act-returns-in-Assign g t c =
    ends_as c.args.self.now.limits.now (g.C.Calls.gives c.args.self.now.calls.now) c.args.act.now (Assign c.in-Assign.x c.in-Assign.e) (ast.Assign c.in-Assign.x (term_of c.in-Assign.e)) c.args.line (state_of c.args.frame.now) (state_of c.assign.new.frame) c.assign.result c.in-Assign.is (assign_is c.in-Assign.x c.in-Assign.e) c.assign.ensures

pub exec_act-returns-in-Augment : goal.exec_act-returns-in-Augment
exec_act-returns-in-Augment g t c =
    ends_as c.args.self.now.limits.now (g.C.Calls.gives c.args.self.now.calls.now) c.args.act.now (Augment c.in-Augment.x c.in-Augment.op c.in-Augment.e) (ast.Augment c.in-Augment.x c.in-Augment.op (term_of c.in-Augment.e)) c.args.line (state_of c.args.frame.now) (state_of c.augment.new.frame) c.augment.result c.in-Augment.is (augment_is c.in-Augment.x c.in-Augment.op c.in-Augment.e) c.augment.ensures

pub exec_act-returns-in-Put : goal.exec_act-returns-in-Put
exec_act-returns-in-Put g t c =
    ends_as c.args.self.now.limits.now (g.C.Calls.gives c.args.self.now.calls.now) c.args.act.now (Put c.in-Put.x c.in-Put.i c.in-Put.e) (ast.Put c.in-Put.x (term_of c.in-Put.i) (term_of c.in-Put.e)) c.args.line (state_of c.args.frame.now) (state_of c.put.new.frame) c.put.result c.in-Put.is (put_is c.in-Put.x c.in-Put.i c.in-Put.e) c.put.ensures

pub exec_act-returns-in-AugmentAt : goal.exec_act-returns-in-AugmentAt
exec_act-returns-in-AugmentAt g t c =
    ends_as c.args.self.now.limits.now (g.C.Calls.gives c.args.self.now.calls.now) c.args.act.now (AugmentAt c.in-AugmentAt.x c.in-AugmentAt.i c.in-AugmentAt.op c.in-AugmentAt.e) (ast.AugmentAt c.in-AugmentAt.x (term_of c.in-AugmentAt.i) c.in-AugmentAt.op (term_of c.in-AugmentAt.e)) c.args.line (state_of c.args.frame.now) (state_of c.augment_at.new.frame) c.augment_at.result c.in-AugmentAt.is (augment_at_is c.in-AugmentAt.x c.in-AugmentAt.i c.in-AugmentAt.op c.in-AugmentAt.e) c.augment_at.ensures

pub exec_act-returns-in-Append : goal.exec_act-returns-in-Append
exec_act-returns-in-Append g t c =
    ends_as c.args.self.now.limits.now (g.C.Calls.gives c.args.self.now.calls.now) c.args.act.now (Append c.in-Append.x c.in-Append.e) (ast.Append c.in-Append.x (term_of c.in-Append.e)) c.args.line (state_of c.args.frame.now) (state_of c.append.new.frame) c.append.result c.in-Append.is (append_is c.in-Append.x c.in-Append.e) c.append.ensures

pub exec_act-returns-in-Print : goal.exec_act-returns-in-Print
exec_act-returns-in-Print g t c =
    ends_as c.args.self.now.limits.now (g.C.Calls.gives c.args.self.now.calls.now) c.args.act.now (Print c.in-Print.e) (ast.Print (term_of c.in-Print.e)) c.args.line (state_of c.args.frame.now) (state_of c.exec_print.new.frame) c.exec_print.result c.in-Print.is (print_is c.in-Print.e) c.exec_print.ensures

pub exec_act-returns-in-Return : goal.exec_act-returns-in-Return
exec_act-returns-in-Return g t c =
    ends_as c.args.self.now.limits.now (g.C.Calls.gives c.args.self.now.calls.now) c.args.act.now (Return c.in-Return.e) (ast.Return (maybe_term c.in-Return.e)) c.args.line (state_of c.args.frame.now) (state_of c.args.frame.now) c.exec_return.result c.in-Return.is (return_is c.in-Return.e) c.exec_return.ensures

pub exec_act-returns-in-While : goal.exec_act-returns-in-While
exec_act-returns-in-While g t c =
    ends_as c.args.self.now.limits.now (g.C.Calls.gives c.args.self.now.calls.now) c.args.act.now (While c.in-While.e c.in-While.body) (ast.While (term_of c.in-While.e) (block_of c.in-While.body)) c.args.line (state_of c.args.frame.now) (state_of c.exec_while.new.frame) c.exec_while.result c.in-While.is (while_is c.in-While.e c.in-While.body) c.exec_while.ensures

pub exec_act-returns-in-For : goal.exec_act-returns-in-For
exec_act-returns-in-For g t c =
    ends_as c.args.self.now.limits.now (g.C.Calls.gives c.args.self.now.calls.now) c.args.act.now (For c.in-For.x c.in-For.e c.in-For.body) (ast.For c.in-For.x (term_of c.in-For.e) (block_of c.in-For.body)) c.args.line (state_of c.args.frame.now) (state_of c.exec_for.new.frame) c.exec_for.result c.in-For.is (for_is c.in-For.x c.in-For.e c.in-For.body) c.exec_for.ensures

pub exec_over-returns-in_err-exec_block : goal.exec_over-returns-in_err-exec_block
exec_over-returns-in_err-exec_block g t c =
    let l = c.args.self.now.limits.now in
    let body = run_block l (g.C.Calls.gives c.args.self.now.calls.now) (block_of c.args.body.now) in
    let more : c.turns.turn < l.turns = omega arith in
    let begun = turn_begun (members c.args.list.now) c.turns.turn l.turns c.in_ok-member_at.field-0 c.in-Some.v c.args.x.now body c.args.line (state_of c.args.frame.now) (state_of c.turns.frame) (state_of c.set.new.self) c.turns.invariant.left c.in_ok-member_at.ensures c.in-Some.is more c.in_ok-set.ensures in
    search (rules, begun)

pub exec_over-returns-in-Broke : goal.exec_over-returns-in-Broke
exec_over-returns-in-Broke g t c =
    let l = c.args.self.now.limits.now in
    let body = run_block l (g.C.Calls.gives c.args.self.now.calls.now) (block_of c.args.body.now) in
    let more : c.turns.turn < l.turns = omega arith in
    let begun = turn_begun (members c.args.list.now) c.turns.turn l.turns c.in_ok-member_at.field-0 c.in-Some.v c.args.x.now body c.args.line (state_of c.args.frame.now) (state_of c.turns.frame) (state_of c.set.new.self) c.turns.invariant.left c.in_ok-member_at.ensures c.in-Some.is more c.in_ok-set.ensures in
    search (rules, begun)

pub exec_over-returns-in-Returned : goal.exec_over-returns-in-Returned
exec_over-returns-in-Returned g t c =
    let l = c.args.self.now.limits.now in
    let body = run_block l (g.C.Calls.gives c.args.self.now.calls.now) (block_of c.args.body.now) in
    let more : c.turns.turn < l.turns = omega arith in
    let begun = turn_begun (members c.args.list.now) c.turns.turn l.turns c.in_ok-member_at.field-0 c.in-Some.v c.args.x.now body c.args.line (state_of c.args.frame.now) (state_of c.turns.frame) (state_of c.set.new.self) c.turns.invariant.left c.in_ok-member_at.ensures c.in-Some.is more c.in_ok-set.ensures in
    search (rules, begun)

pub exec_over-turns-preserved : goal.exec_over-turns-preserved
exec_over-turns-preserved g t c =
    let l = c.args.self.now.limits.now in
    let body = run_block l (g.C.Calls.gives c.args.self.now.calls.now) (block_of c.args.body.now) in
    let more : c.turns.turn < l.turns = omega arith in
    let begun = turn_begun (members c.args.list.now) c.turns.turn l.turns c.in_ok-member_at.field-0 c.in-Some.v c.args.x.now body c.args.line (state_of c.args.frame.now) (state_of c.turns.frame) (state_of c.set.new.self) c.turns.invariant.left c.in_ok-member_at.ensures c.in-Some.is more c.in_ok-set.ensures in
    elim c.match-branch-5.branch [ exec_over-in-Next w ↦ record { within = omega (arith, more); left = search (rules, begun, w.in-Next) } | exec_over-in-Continued w ↦ record { within = omega (arith, more); left = search (rules, begun, w.in-Continued) } ]
