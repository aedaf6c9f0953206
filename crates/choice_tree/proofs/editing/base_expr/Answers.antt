use Rattle.std.proofs.Common.{◌≡◌, ◌∙◌, []}
use Rattle.choice_tree.specs.Choices.{member_of}
use Rattle.choice_tree.specs.Selections.{plain}
use Rattle.choice_tree.specs.WeightedTrees.{base_of}
use Rattle.choice_tree.specs.WeightedViews.{weighted_of}
use Rattle.choice_tree.proofs.EditLaws.{if_ok, no_choice}
use Rattle.choice_tree.proofs.editing.base_expr.Goals as goal

pub returns : goal.returns
returns c =
    let w = weighted_of c.args.w.now in
    let none : c.from_vec-none.result ≡ [] = c.from_vec-none.ensures ∙ c.new.ensures.items in
    let base : plain (member_of c.from_vec-none.result) w ≡ base_of w = rw none (no_choice w) in
    if_ok c.plain_expr.result (λ r h. h ∙ base) c.plain_expr.ensures
