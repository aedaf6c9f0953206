use Rattle.dimacs_text.proofs.DraftsGrow.{worded_more, worded_stuck}
use Rattle.dimacs_text.proofs.draft.Draft.with_words.Goals as goal

pub returns-in_default-2 : goal.returns-in_default-2
returns-in_default-2 c =
    worded_stuck c.args.self c.args.line.now c.words.rest.now c.words.draft c.words.invariant c.in-Some.word.piece.now c.in-Some.word.rest.now c.in-Some.ensures.cut (rw c.in_default-2.is at c.in_ok-next.ensures)

pub words-preserved : goal.words-preserved
words-preserved c =
    worded_more c.args.self c.args.line.now c.words.rest.now c.words.draft c.words.invariant c.in-Some.word.piece.now c.in-Some.word.rest.now c.in-Some.ensures.cut c.in-Some-2.next (rw c.in-Some-2.is at c.in_ok-next.ensures)
