-- The four words are those of the request.
use Rattle.std.proofs.Common.{rules, ◌≡◌, length, arith, sym, ◌∙◌}
use Rattle.std.specs.String.{string_bytes}
use Rattle.grade_top.proofs.KnownLengths.{four_items}
use Rattle.grade_top.proofs.words.read_sat.Goals as goal

pub returns-clause-found : goal.returns-clause-found
returns-clause-found c =
    let four : length c.args.words.now ≡ 4 = omega arith in (
      four_items string_bytes c.args.words.now _ _ _ _ _ _ _ _ four
          c.command-item.is c.cnf-item.is c.log-item.is c.budget-item.is
          (search rules) c.as_str-3.ensures.value c.as_str-4.ensures.value (sym c.in-Some.ensures.found.0 ∙ c.as_str-2.ensures.value),
      c.in-Some.ensures.found.1,
    )
