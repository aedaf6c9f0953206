use Rattle.std.proofs.Common.{IfSome, IfNone, subst, sym}
use Rattle.mpy_lexer.specs.declared.line.Line.{Line}
use Rattle.mpy_parser.specs.Programs.{IsItem, NotSpelled, IsFirstUnspelled}
use Rattle.mpy_parser.specs.Views.{line_of}
use Rattle.mpy_parser.proofs.LinesSpelled.{one_more_entry, first_unspelled}
use Rattle.mpy_parser.proofs.entries.entries.Goals as goal

pub returns-in_default-clause-err : goal.returns-in_default-clause-err
returns-in_default-clause-err c =
    let n = subst (λ o. IfNone o (NotSpelled c.line-item.result)) c.in_default.is c.in_ok-entry.ensures.none in
    subst (λ (l : Line). IsFirstUnspelled c.args.lines.now l.line) (sym c.line-item.is)
    (first_unspelled c.args.lines.now c.loop-line.line-index c.line-item.result c.loop-line.found.items c.loop-line-test.true c.loop-line.invariant (subst NotSpelled c.line-item.is n))

pub loop-line-preserved : goal.loop-line-preserved
loop-line-preserved c =
    let s = subst (λ o. IfSome o (λ e. IsItem c.line-item.result (line_of e))) c.in-Some.is c.in_ok-entry.ensures.some in
    one_more_entry c.args.lines.now c.loop-line.line-index c.line-item.result c.loop-line.found.items c.push.new.self.items c.in-Some.entry c.loop-line-test.true c.in_ok-push.ensures.items c.loop-line.invariant
    (subst (λ l. IsItem l (line_of c.in-Some.entry)) c.line-item.is s)
