use Rattle.std.proofs.Common.{◌≡◌, Ok, map, sym, ap, ◌∙◌}
use Rattle.mpy_lexer.specs.declared.forms.Form.TheVariants as form
use Rattle.mpy_lexer.specs.Lexing.{lex}
use Rattle.choice_tree.specs.RuleViews.{correction_of}
use Rattle.eml_reader.proofs.Given.{file_read, file_refused}
use Rattle.eml_reader.proofs.reading.spelled.Goals as goal

pub returns-clause-read : goal.returns-clause-read
returns-clause-read c =
    let lexed : lex form.Rules c.args.bytes.now ≡ Ok c.deref.result.now =
    c.in_ok-lines.ensures.ok ∙ ap (λ ls. Ok ls) (sym c.deref.ensures.value) in
    file_read (λ v. map correction_of v.items) c.args.bytes.now c.deref.result.now
    c.rules_of.result lexed c.rules_of.ensures.read

pub returns-clause-refused : goal.returns-clause-refused
returns-clause-refused c =
    let lexed : lex form.Rules c.args.bytes.now ≡ Ok c.deref.result.now =
    c.in_ok-lines.ensures.ok ∙ ap (λ ls. Ok ls) (sym c.deref.ensures.value) in
    file_refused c.args.bytes.now c.deref.result.now c.rules_of.result lexed
    c.rules_of.ensures.refused
