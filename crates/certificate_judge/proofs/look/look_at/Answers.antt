-- what is built states the question, and the two formulas are one or differ
use Rattle.input_space.specs.TaskParts.{task_with}
use Rattle.certificate_judge.proofs.LookLaws.{asked, backed, bad, built_with, if_ok}
use Rattle.certificate_judge.proofs.look.look_at.Goals as goal

pub returns-in-Some : goal.returns-in-Some
returns-in-Some c =
    let k = task_with c.args.t.now in
    let h = c.in_ok-built.ensures in
    if_ok c.ask_anew.result
    (λ l. asked k c.args.kept.now c.args.x.now c.in_ok-built.built (built_with k c.args.kept.now c.args.x.now.query c.in_ok-built.built h.states h.own h.few.0 h.some h.none_empty)
    c.requires.cases h.led c.in-Some.clause l c.in-Some.ensures)
    c.ask_anew.ensures

pub returns-in-Some-2 : goal.returns-in-Some-2
returns-in-Some-2 c =
    let k = task_with c.args.t.now in
    let h = c.in_ok-built.ensures in
    bad k c.args.kept.now c.args.x.now c.in_ok-built.built (built_with k c.args.kept.now c.args.x.now.query c.in_ok-built.built h.states h.own h.few.0 h.some h.none_empty)
    c.requires.cases c.in-Some-2.step c.in-None.ensures (rw c.in-Some-2.is at c.in_ok-step-in-None.ensures)

pub returns-in-None-2 : goal.returns-in-None-2
returns-in-None-2 c =
    let k = task_with c.args.t.now in
    let h = c.in_ok-built.ensures in
    backed k c.args.kept.now c.args.x.now c.in_ok-built.built (built_with k c.args.kept.now c.args.x.now.query c.in_ok-built.built h.states h.own h.few.0 h.some h.none_empty)
    c.requires.cases c.in-None.ensures (rw c.in-None-2.is at c.in_ok-step-in-None.ensures)
