-- The seven words are those of the request.
use Rattle.std.proofs.Common.{rules, ◌≡◌, length, arith, sym, ◌∙◌}
use Rattle.std.specs.String.{string_bytes}
use Rattle.grade_top.proofs.KnownLengths.{seven_items}
use Rattle.grade_top.proofs.words.read_all.Goals as goal

pub returns-clause-found : goal.returns-clause-found
returns-clause-found c =
    let seven : length c.args.words.now ≡ 7 = omega arith in (
      seven_items string_bytes c.args.words.now _ _ _ _ _ _ _ _ _ _ _ _ _ _ seven
          c.command-item.is c.bounds-item.is c.reference-item.is c.submission-item.is c.rules-item.is c.most-item.is c.budget-item.is
          (search rules) c.as_str-4.ensures.value c.as_str-5.ensures.value c.as_str-6.ensures.value c.as_str-7.ensures.value
          (sym c.in-Some.ensures.found.0 ∙ c.as_str-2.ensures.value) (sym c.in-Some-read_budget.ensures.found.0 ∙ c.as_str-3.ensures.value),
      c.in-Some.ensures.found.1,
      c.in-Some-read_budget.ensures.found.1,
    )
