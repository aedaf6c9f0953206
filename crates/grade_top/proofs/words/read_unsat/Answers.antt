-- The three words are those of the request.
use Rattle.std.proofs.Common.{rules, ◌≡◌, length, arith}
use Rattle.std.specs.String.{string_bytes}
use Rattle.grade_top.proofs.KnownLengths.{three_items}
use Rattle.grade_top.proofs.words.read_unsat.Goals as goal

pub returns-clause-found : goal.returns-clause-found
returns-clause-found c =
    let three : length c.args.words.now ≡ 3 = omega arith in
    three_items string_bytes c.args.words.now _ _ _ _ _ _ three
    c.command-item.is c.cnf-item.is c.log-item.is
    (search rules) c.as_str-2.ensures.value c.as_str-3.ensures.value
