-- a word that is no budget is that of no class
use Rattle.std.proofs.Common.{◌≡◌, length, arith, refl}
use Rattle.std.specs.String.{string_bytes}
use Rattle.class_core.proofs.FiveWords.{five_items, spelled_budget, where_none}
use Rattle.class_core.proofs.reading.read_words.Goals as goal

pub returns-in_err-budget-clause-none : goal.returns-in_err-budget-clause-none
returns-in_err-budget-clause-none c =
    let five : length c.args.words.now ≡ 5 = omega arith in
    where_none c.from_residual.result
    (λ w asks. c.in_err-budget.ensures w.budget
    (spelled_budget _ (string_bytes c.bounds-item.result) (string_bytes c.reference-item.result) (string_bytes c.rules-item.result) (string_bytes c.list-item.result) c.as_bytes.result.now w
    (five_items string_bytes c.args.words.now c.bounds-item.result c.reference-item.result c.rules-item.result c.list-item.result c.budget-item.result _ _ _ _ _ five
    c.bounds-item.is c.reference-item.is c.rules-item.is c.list-item.is c.budget-item.is refl refl refl refl c.as_bytes.ensures.value) asks))
