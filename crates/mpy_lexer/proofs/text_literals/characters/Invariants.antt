use Rattle.std.proofs.Common.{◌≡◌, ◌++◌, length, option_map}
use Rattle.mpy_tree.specs.Printable.{ArePrintable}
use Rattle.mpy_lexer.specs.TextLiterals.{characters}
use Rattle.mpy_lexer.proofs.text_literals.characters.Given as goal

-- the characters so far, and then those of the rest
abbrev pub invariant-loop-character : goal.invariant-loop-character
invariant-loop-character l = record {
  so_far : characters l.quote l.bytes ≡ option_map (λ cs. l.found.items ++ cs) (characters l.quote l.rest);
  printable : ArePrintable l.found.items;
}

abbrev pub decreases-loop-character : goal.decreases-loop-character
decreases-loop-character l = length l.rest
