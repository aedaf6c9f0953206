-- The six words are those of the request.
use Rattle.std.proofs.Common.{rules, ◌≡◌, length, arith}
use Rattle.std.specs.String.{string_bytes}
use Rattle.grade_top.proofs.KnownLengths.{six_items}
use Rattle.grade_top.proofs.words.read_check.Goals as goal

pub returns-clause-found : goal.returns-clause-found
returns-clause-found c =
    let six : length c.args.words.now ≡ 6 = omega arith in
    six_items string_bytes c.args.words.now _ _ _ _ _ _ _ _ _ _ _ _ six
    c.command-item.is c.bounds-item.is c.reference-item.is c.submission-item.is c.rules-item.is c.cert-item.is
    (search rules) c.as_str-2.ensures.value c.as_str-3.ensures.value c.as_str-4.ensures.value c.as_str-5.ensures.value c.as_str-6.ensures.value
