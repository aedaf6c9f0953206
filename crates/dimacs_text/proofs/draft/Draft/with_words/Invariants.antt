use Rattle.std.specs.Prelude.{length}
use Rattle.dimacs_text.proofs.DraftsGrow.{Worded}
use Rattle.dimacs_text.proofs.draft.Draft.with_words.Given as goal

abbrev pub invariant-words : goal.invariant-words
invariant-words l = Worded l.fn.self l.line l.rest l.draft

abbrev pub decreases-words : goal.decreases-words
decreases-words l = length l.rest
