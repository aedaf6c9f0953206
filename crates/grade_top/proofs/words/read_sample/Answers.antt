-- The two words are those of the request, and a number that is too large is none of a sample.
use Rattle.std.proofs.Common.{rules, ◌≡◌, length, map, arith, sym, ◌∙◌}
use Rattle.std.specs.Fmt.{decimal}
use Rattle.std.specs.String.{string_bytes}
use Rattle.std.proofs.lemmas.Fmt.{decimal_injective}
use Rattle.grade_top.specs.Words.{sample_words}
use Rattle.grade_top.proofs.KnownLengths.{two_items}
use Rattle.grade_top.proofs.words.read_sample.Goals as goal

pub returns-then-number-gt65535-clause-none : goal.returns-then-number-gt65535-clause-none
returns-then-number-gt65535-clause-none c = λ n asks.
    let m = c.in_ok-number.number in
    let two : length c.args.words.now ≡ 2 = omega arith in
    let read : map string_bytes c.args.words.now ≡ sample_words m =
    two_items string_bytes c.args.words.now _ _ _ _ two c.command-item.is c.number-item.is
    (search rules) (sym c.in_ok-number.ensures.found ∙ c.as_str-2.ensures.value) in
    let both : sample_words m ≡ sample_words n = sym read ∙ asks.0 in
    let text : decimal m ≡ decimal n = cc in
    let same : m ≡ n = decimal_injective m n (omega arith) (omega (arith, asks.1)) text in
    omega (arith, asks.1)

pub returns-clause-found : goal.returns-clause-found
returns-clause-found c =
    let two : length c.args.words.now ≡ 2 = omega arith in (
      two_items string_bytes c.args.words.now _ _ _ _ two c.command-item.is c.number-item.is
          (search rules) (sym c.in_ok-number.ensures.found ∙ c.as_str-2.ensures.value),
      omega arith,
    )
