use Rattle.std.proofs.Common.{◌≡◌, [], sym, ap, ◌∙◌, arith}
use Rattle.std.proofs.lemmas.List.{nil_from_length}
use Rattle.mpy_lexer.specs.Seen.{with_more}
use Rattle.mpy_lexer.proofs.Joining.{with_more-last, with_more-none}
use Rattle.mpy_lexer.proofs.lexing.extend_last.Goals as goal

pub returns-in_default : goal.returns-in_default
returns-in_default c =
    let old : c.args.lines.now.items ≡ [] = nil_from_length c.args.lines.now.items (omega (arith, c.in_default.ensures.cases)) in
    let new : c.pop.new.self.items ≡ [] = nil_from_length c.pop.new.self.items (omega (arith, c.in_default.ensures.cases)) in
    new ∙ sym (ap (λ ls. with_more ls c.args.more) old ∙ with_more-none c.args.more)

pub returns : goal.returns
returns c = c.in_ok-push.ensures.items ∙ rw (c.in_ok-append.ensures.ok, c.in-Some.ensures.items) (sym (with_more-last c.pop.new.self.items c.in-Some.line c.args.more))
