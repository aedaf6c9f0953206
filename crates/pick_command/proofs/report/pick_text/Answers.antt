-- the line of a case more
use Rattle.input_space.specs.declared.case.Case.{Case}
use Rattle.pick_command.specs.Texts.{input_line}
use Rattle.pick_command.proofs.Lines.{lines_more}
use Rattle.pick_command.proofs.report.pick_text.Goals as goal

pub loop-case-preserved : goal.loop-case-preserved
loop-case-preserved c =
    let below = rw c.items-case-items.ensures at c.loop-case-test.true in
    let item = rw c.items-case-items.ensures at c.case-item.is in
    lines_more (λ (k : Case). k.values) (input_line c.args.entry.now) c.args.cases.now
    c.loop-case.case-index c.case-item.result c.loop-case.out.items c.push_input.new.out.items below
    item c.loop-case.invariant c.in_ok-push_input.ensures
