use Rattle.std.proofs.Common.{◌-◌, arith, refl, subst, sym}
use Rattle.sym_calls.specs.declared.call.MadeCall.{MadeCall}
use Rattle.sym_calls.specs.Remembered.{IsAnswer}
use Rattle.sym_calls.proofs.Laters.{answer_same}
use Rattle.sym_calls.proofs.remembering.Remembering.find.Goals as goal

pub is_same_call-requires-clause-left : goal.is_same_call-requires-clause-left
is_same_call-requires-clause-left g c =
    rw c.index-last.ensures (c.reveal.ensures.args (c.len-count.result - 1 - c.loop-i.i) _ (omega (arith, c.loop-i-test.true, c.len-count.ensures)))

pub returns-then-is_same_call : goal.returns-then-is_same_call
returns-then-is_same_call g c =
    let place = c.len-count.result - 1 - c.loop-i.i in
    let answer = c.reveal.ensures.answers place c.index-last.result.now (omega (arith, c.loop-i-test.true, c.len-count.ensures)) in
    answer_same c.index-last.result.now.call c.args.call.now c.index-last.result.now.outcome (c.if-is_same_call.ensures refl)
    (subst (λ (x : MadeCall _). IsAnswer g.L.Logic.owns g.L.Logic.reads g.K.Setting.fixed c.args.self.now.logic.now x.call x.outcome) (sym c.index-last.ensures) answer)
