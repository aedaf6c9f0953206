use Rattle.std.proofs.Common.{◌≡◌, drop, map}
use Rattle.mpy_lexer.specs.Words.{first_len}
use Rattle.mpy_lexer.proofs.words.first_len.Given as goal

abbrev pub invariant-loop-word : goal.invariant-loop-word
invariant-loop-word l = first_len (map (λ w. w.now) (drop l.word-index l.words)) l.text ≡ first_len (map (λ w. w.now) l.words) l.text
