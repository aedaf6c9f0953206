-- Programs that differ in their lines alone are the same program.
use Rattle.mpy_tree.specs.Syntax.{Statement, Action, Block, end, step, at, MaybeBlock, no_block}
use Rattle.mpy_tree.specs.Syntax.{a_block, Branches, no_arms, arm_and, Branch, arm, Routine}
use Rattle.mpy_tree.specs.Syntax as ast

-- a body with the line 0 everywhere
abbrev mutual
  pub block_without_lines : Block → Block
  block_without_lines end = end
  block_without_lines (step s rest) = step (statement_without_lines s) (block_without_lines rest)

  pub statement_without_lines : Statement → Statement
  statement_without_lines (at line act) = at 0 (action_without_lines act)

  pub action_without_lines : Action → Action
  action_without_lines (ast.If arms last) =
      ast.If (arms_without_lines arms) (else_without_lines last)
  action_without_lines (ast.While e body) = ast.While e (block_without_lines body)
  action_without_lines (ast.For x e body) = ast.For x e (block_without_lines body)
  action_without_lines act = act

  pub arms_without_lines : Branches → Branches
  arms_without_lines no_arms = no_arms
  arms_without_lines (arm_and b rest) = arm_and (arm_without_lines b) (arms_without_lines rest)

  pub arm_without_lines : Branch → Branch
  arm_without_lines (arm line e body) = arm 0 e (block_without_lines body)

  pub else_without_lines : MaybeBlock → MaybeBlock
  else_without_lines no_block = no_block
  else_without_lines (a_block body) = a_block (block_without_lines body)

abbrev pub without_lines : Routine → Routine
without_lines r =
    record { line = 0; name = r.name; params = r.params; body = block_without_lines r.body }
