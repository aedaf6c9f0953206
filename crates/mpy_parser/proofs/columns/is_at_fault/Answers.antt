use Rattle.std.proofs.Common.{not, sym, ◌∙◌, ap}
use Rattle.mpy_parser.specs.Open.{ends_at}
use Rattle.mpy_parser.proofs.Falls.{falls}
use Rattle.mpy_parser.proofs.columns.is_at_fault.Goals as goal

pub returns-then-column-nearest-clause-answer : goal.returns-then-column-nearest-clause-answer
returns-then-column-nearest-clause-answer c =
    ap not (c.ends_at.ensures ∙ ap (ends_at c.args.column) c.close.ensures)
    ∙ sym (falls c.args.column c.in-Some.nearest c.args.above.now (sym c.in-Some.ensures) c.if-column-nearest.true)
