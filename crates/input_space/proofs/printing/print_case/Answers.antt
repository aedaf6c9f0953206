use Rattle.std.proofs.Common.{◌≡◌, ◌++◌, All, subst, ap, sym, ◌∙◌}
use Rattle.mpy_tree.specs.Printing.{values_text}
use Rattle.input_space.specs.CaseLaws.{IsPrintable}
use Rattle.input_space.specs.Cases.{SpellsCase}
use Rattle.input_space.proofs.Printed.{case_spelled}
use Rattle.input_space.proofs.printing.print_case.Goals as goal

pub returns : goal.returns
returns c =
    let vs = c.args.c.now.values in
    let text : c.print_values.new.out.items ≡ values_text vs =
    c.in_ok-print_values.ensures.text
    ∙ ap (λ t. t ++ values_text c.items.result.now) c.new-out.ensures.items
    ∙ ap values_text c.items.ensures in
    let printable = subst (All IsPrintable) c.items.ensures c.in_ok-print_values.ensures.printable in
    record { text = text; spelled = subst (λ t. SpellsCase t vs) (sym text) (case_spelled vs printable) }
