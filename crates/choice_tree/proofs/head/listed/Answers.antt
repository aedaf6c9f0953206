use Rattle.std.proofs.Common.{ap, ◌∙◌}
use Rattle.mpy_tree.specs.Shapes.{shapes}
use Rattle.choice_tree.proofs.PlainParts.{terms_are_trees}
use Rattle.choice_tree.proofs.head.listed.Goals as goal

pub returns : goal.returns
returns c = ap shapes c.from_vec.ensures ∙ terms_are_trees c.args.parts.items
