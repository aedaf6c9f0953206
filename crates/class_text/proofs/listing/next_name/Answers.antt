-- a line that is no name, and the text of one that is
use Rattle.std.proofs.Common.{sym, ◌∙◌}
use Rattle.class_text.proofs.Names.{name_utf8, no_name}
use Rattle.class_text.proofs.listing.next_name.Goals as goal

pub returns-then-not-is_name-clause-none : goal.returns-then-not-is_name-clause-none
returns-then-not-is_name-clause-none c = λ name rest good e.
    no_name c.args.text.now c.in_ok-cut.cut.piece.now c.in_ok-cut.cut.rest.now name rest c.in_ok-cut.ensures.joined c.in_ok-cut.ensures.piece
    (sym c.is_name.ensures ∙ c.if-not-is_name.true) good e

pub unreachable-requires : goal.unreachable-requires
unreachable-requires c = c.in_default.ensures.cases.0 (name_utf8 c.in_ok-cut.cut.piece.now (sym c.is_name.ensures ∙ c.if-not-is_name.false))
