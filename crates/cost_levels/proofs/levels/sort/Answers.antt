use Rattle.std.proofs.Common.{rules, is_lt, reverse}
use Rattle.std.proofs.lemmas.Fn.{always_returns_same}
use Rattle.std.proofs.lemmas.List.Sorted.{ranks_by}
use Rattle.std.proofs.lemmas.Result.{on_ok_weaker}
use Rattle.cost_levels.specs.Order.{selection_cmp}
use Rattle.cost_levels.proofs.Ordered.{reversed_total}
use Rattle.cost_levels.proofs.levels.sort.Goals as goal

pub returns-clause-ordered : goal.returns-clause-ordered
returns-clause-ordered c =
    on_ok_weaker c.sort_by.result
    (λ sorted. sorted (λ a b. is_lt (selection_cmp a b)) (ranks_by reversed_total reverse) (always_returns_same _ _ _ (λ a r f k. search rules)))
    c.sort_by.ensures.sorted
