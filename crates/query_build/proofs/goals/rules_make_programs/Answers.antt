use Rattle.std.proofs.Common.{◌∙◌, ap}
use Rattle.choice_tree.specs.Selections.{plain}
use Rattle.query_build.proofs.goals.rules_make_programs.Goals as goal

pub returns : goal.returns
returns c m =
    let made = c.selections_make_programs.ensures c.tree-tree.result.now m in
    (made.0, made.1 ∙ ap (plain m) c.tree-tree.ensures)
