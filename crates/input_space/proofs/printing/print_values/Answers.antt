use Rattle.std.proofs.Common.{◌++◌, All, subst, ap, ◌∙◌}
use Rattle.std.proofs.lemmas.List.{take_all}
use Rattle.std.proofs.lemmas.List.Elements.{All-more}
use Rattle.mpy_tree.specs.Printing.{value_text}
use Rattle.input_space.specs.CaseLaws.{IsPrintable}
use Rattle.input_space.proofs.Joining.{joined_next}
use Rattle.input_space.proofs.printing.print_values.Goals as goal

pub loop-v-preserved : goal.loop-v-preserved
loop-v-preserved c =
    let vs = c.args.vs.now in
    let i = c.loop-v.v-index in
    let d = c.v-item.result in
    let item = c.v-item.is in
    let text = c.in_ok-print_value.ensures.text ∙ ap (λ v. c.extend_from_slice.new.self.items ++ value_text v) item in
    let printable = subst IsPrintable item c.in_ok-print_value.ensures.printable in (
      joined_next value_text vs i d c.loop-v.out.items c.loop-v.separator.now _ _ _ c.loop-v-test.true c.in_ok-extend_from_slice.ensures.items text c.loop-v.invariant.0,
      All-more IsPrintable vs i d c.loop-v-test.true c.loop-v.invariant.1 printable,
    )

pub returns-clause-printable : goal.returns-clause-printable
returns-clause-printable c =
    subst (All IsPrintable) (take_all c.loop-v.v-index c.args.vs.now c.loop-v-test.false) c.loop-v.invariant.1
