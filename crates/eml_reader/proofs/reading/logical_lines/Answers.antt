use Rattle.std.proofs.Common.{subst, sym}
use Rattle.mpy_lexer.specs.declared.forms.Form.TheVariants as form
use Rattle.mpy_lexer.specs.Lexing.{IsAnswered as IsLexed}
use Rattle.eml_reader.specs.RuleFiles.{IsRefused, by_lexing}
use Rattle.eml_reader.proofs.reading.logical_lines.Goals as goal

pub returns-in-Err-Fault-clause-err : goal.returns-in-Err-Fault-clause-err
returns-in-Err-Fault-clause-err c =
    subst (λ d. IsRefused c.args.bytes.now d c.in-Err-Fault.line) (sym c.cause_of.ensures)
    (by_lexing c.in-Err-Fault.cause c.in-Err-Fault.line
    (subst (IsLexed form.Rules c.args.bytes.now) c.in-Err-Fault.field-0-is
    c.in-Err-Fault.ensures.fault))
