use Rattle.std.proofs.Common.{◌≡◌, map, take}
use Rattle.mpy_tree.specs.View.{term_of}
use Rattle.mpy_tree.specs.Shapes.{shape}
use Rattle.choice_tree.specs.Choices.{member_of}
use Rattle.choice_tree.specs.Selections.{plain}
use Rattle.choice_tree.specs.WeightedViews.{weighted_of}
use Rattle.choice_tree.proofs.making.+plain.Given as goal

-- what was made is the plain trees so far
abbrev pub invariant-plain_exprs-loop-w : goal.invariant-plain_exprs-loop-w
invariant-plain_exprs-loop-w l =
    map (λ e. shape (term_of e)) l.made.items ≡ map (λ w. plain (member_of l.s) (weighted_of w))
    (take l.w-index l.ws.items.items)
