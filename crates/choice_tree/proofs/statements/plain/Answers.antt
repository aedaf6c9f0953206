use Rattle.std.proofs.Common.{ap, arith}
use Rattle.std.proofs.lemmas.Grind.{common_steps}
use Rattle.mpy_tree.specs.Trees as kind
use Rattle.mpy_tree.specs.Trees.{node}
use Rattle.choice_tree.specs.Choices.{member_of}
use Rattle.choice_tree.proofs.StatementParts.{functions_plain}
use Rattle.choice_tree.proofs.statements.plain.Goals as goal

pub returns : goal.returns
returns c =
    ap (node kind.Program)
    (functions_plain (member_of c.args.s.now) c.loop-func.items.items
    c.args.w.now.funcs.items.items (grind (arith, common_steps)))
