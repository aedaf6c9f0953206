use Rattle.std.proofs.Common.{◌≡◌, ℕ, ◌<◌, get_or}
use Rattle.input_ranges.specs.Alphabets.{digit_of, guessed}
use Rattle.input_ranges.proofs.alphabets.is_right.Given as goal

abbrev pub invariant-loop-character : goal.invariant-loop-character
invariant-loop-character l =
    (k : ℕ) → k < l.character-index → digit_of (get_or l.alphabet k 0) l.place ≡ guessed l.guess (get_or l.alphabet k 0)
