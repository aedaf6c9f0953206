use Rattle.std.proofs.Common.{◌≡◌, ◌∙◌, length, sym}
use Rattle.input_ranges.specs.Alphabets.{digit_of, guessed}
use Rattle.input_ranges.proofs.CharacterDigits.{among_holds}
use Rattle.input_ranges.proofs.alphabets.known_digit.Goals as goal

pub returns-in-Some-clause-value : goal.returns-in-Some-clause-value
returns-in-Some-clause-value g c vs d among spells bit =
    let place = length c.args.lower.now in
    let guess = c.in-Some.guess in
    c.guessed_bit.ensures.value vs d spells
    ∙ sym (among_holds (λ x. digit_of x place ≡ guessed guess x) c.args.alphabet.now d c.in-Some.ensures.right among)
