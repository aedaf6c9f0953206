-- The weighted trees of the statements of a program.
use Rattle.std.specs.Prelude.{ℕ, ◌+◌}
use Rattle.mpy_tree.specs.Syntax.{Term, MaybeTerm, no_term, a_term, Statement, at, Action, Block}
use Rattle.mpy_tree.specs.Syntax.{MaybeBlock, no_block, a_block, Branch, arm, Branches, no_arms}
use Rattle.mpy_tree.specs.Syntax.{arm_and}
use Rattle.mpy_tree.specs.Syntax as ast
use Rattle.mpy_tree.specs.Shapes.{arm_shape, block_shape, shape}
use Rattle.mpy_tree.specs.Trees as kind
use Rattle.mpy_tree.specs.Trees.{Tree, node}
use Rattle.choice_tree.specs.Contexts.{Setting, Site, at_return, at_assign, at_for, at_if, at_while}
use Rattle.choice_tree.specs.Contexts.{elsewhere}
use Rattle.choice_tree.specs.WeightedViews.{one, two}
use Rattle.choice_tree.specs.Contexts.{Sharing, apart, shared, Context}
use Rattle.choice_tree.specs.WeightedTrees.{Weighted, Weighteds, plainly, no_weighted, weighted_and}
use Rattle.choice_tree.specs.Growing.{Growing, grown, parts_grown, steps}

-- by as many steps as it takes, at a site one more
abbrev pub fully_grown : Setting → Growing
fully_grown g site c t = grown g (steps t + 1) site c t

-- a node with the weighted trees of its parts
abbrev pub node_over_parts : Setting → Context → Tree → Weighted
node_over_parts g c (node k ts) = plainly k (parts_grown g (fully_grown g) ts k 0 c)

-- where the whole expression of a statement stands
abbrev pub shared_at : Site → Sharing
shared_at at_return = shared
shared_at (at_assign x) = shared
shared_at (at_for x) = shared
shared_at _ = apart

abbrev pub whole_at : Context → Site → Context
whole_at c site = record { scope = c.scope; sharing = shared_at site }

-- where a statement stands
abbrev pub apart_in : Context → Context
apart_in c = record { scope = c.scope; sharing = apart }

-- the arms of an `if`, and the body behind them
abbrev pub arms_grown : Setting → Context → Branches → Weighteds → Weighteds
arms_grown g c no_arms rest = rest
arms_grown g c (arm_and b bs) rest =
    weighted_and (fully_grown g elsewhere (apart_in c) (arm_shape b)) (arms_grown g c bs rest)

abbrev pub body_grown : Setting → Context → Block → Weighted
body_grown g c b = node_over_parts g (apart_in c) (block_shape b)

abbrev pub last_grown : Setting → Context → MaybeBlock → Weighteds
last_grown g c no_block = no_weighted
last_grown g c (a_block b) = one (body_grown g c b)

-- the whole expression of a statement
abbrev pub whole_grown : Setting → Context → Site → Term → Weighted
whole_grown g c site e = fully_grown g site (whole_at c site) (shape e)

abbrev pub maybe_grown : Setting → Context → MaybeTerm → Weighteds
maybe_grown g c no_term = no_weighted
maybe_grown g c (a_term e) = one (whole_grown g c at_return e)

-- the weighted tree of an action on a line: no rule is tried at the statement itself
abbrev pub action_grown : Setting → Context → Action → ℕ → Weighted
action_grown g c (ast.Assign x e) line =
    plainly (kind.Assign line x) (one (whole_grown g c (at_assign x) e))
action_grown g c (ast.Augment x op e) line =
    plainly (kind.Augment line x op) (one (whole_grown g c elsewhere e))
action_grown g c (ast.Put x i e) line =
    plainly (kind.Put line x) (two (whole_grown g c elsewhere i) (whole_grown g c elsewhere e))
action_grown g c (ast.AugmentAt x i op e) line =
    plainly (kind.AugmentAt line x op)
    (two (whole_grown g c elsewhere i) (whole_grown g c elsewhere e))
action_grown g c (ast.Append x e) line =
    plainly (kind.Append line x) (one (whole_grown g c elsewhere e))
action_grown g c (ast.Print e) line =
    plainly (kind.Print line) (one (whole_grown g c elsewhere e))
action_grown g c (ast.Return e) line = plainly (kind.Return line) (maybe_grown g c e)
action_grown g c ast.Pass line = plainly (kind.Pass line) no_weighted
action_grown g c ast.Break line = plainly (kind.Break line) no_weighted
action_grown g c ast.Continue line = plainly (kind.Continue line) no_weighted
action_grown g c (ast.If arms last) line =
    plainly (kind.If line) (arms_grown g c arms (last_grown g c last))
action_grown g c (ast.While e body) line =
    plainly (kind.While line) (two (whole_grown g c at_while e) (body_grown g c body))
action_grown g c (ast.For x e body) line =
    plainly (kind.For line x) (two (whole_grown g c (at_for x) e) (body_grown g c body))

abbrev pub statement_grown : Setting → Context → Statement → Weighted
statement_grown g c (at line act) = action_grown g c act line

abbrev pub arm_grown : Setting → Context → Branch → Weighted
arm_grown g c (arm line e body) =
    plainly (kind.Arm line) (two (whole_grown g c at_if e) (body_grown g c body))
