use Rattle.std.proofs.Common.{◌∙◌, ap}
use Rattle.std.specs.Cmp.Lexicographic.{pointwise}
use Rattle.std.specs.Ordering.{int_eq}
use Rattle.mpy_tree.proofs.ValueTests.{lists_decide}
use Rattle.mpy_tree.proofs.value.Value.is.Goals as goal

pub returns-in-List-List : goal.returns-in-List-List
returns-in-List-List c =
    let same = c.eq.ensures ∙ ap (λ xs. pointwise int_eq xs c.items-in-List-List.result.now) c.items.ensures ∙ ap (pointwise int_eq c.in-List-List.l) c.items-in-List-List.ensures in
    rw (c.in-List-List.is-0, c.in-List-List.is-1) (lists_decide c.eq.result c.in-List-List.l c.in-List-List.m same)
