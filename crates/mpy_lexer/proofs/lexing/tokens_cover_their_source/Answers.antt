use Rattle.mpy_lexer.proofs.TokenLaws.{covered}
use Rattle.mpy_lexer.proofs.lexing.tokens_cover_their_source.Goals as goal

pub returns : goal.returns
returns c = record { holds = covered }
