use Rattle.mpy_lexer.proofs.TokenSpans.{of_source}
use Rattle.mpy_lexer.proofs.lexing.lines_of_their_source.Goals as goal

pub returns : goal.returns
returns c = record { holds = of_source }
