-- The lesser of a line and the least one for the statements of a body, by the form of the body.
use Rattle.std.specs.Prelude.{ℕ, List, Option}
use Rattle.mpy_tree.specs.Syntax.{at, Action, Block, end, step, MaybeBlock, no_block, a_block, arm}
use Rattle.mpy_tree.specs.Syntax.{Branches, no_arms, arm_and}
use Rattle.mpy_tree.specs.Syntax as ast
use Rattle.mpy_tree.specs.Leasts.{lesser, least}
use Rattle.mpy_tree.specs.Sites.{Site, does, asks}

module _ (g : Site → List ℕ) where
  abbrev mutual
    pub walk : Option ℕ → Block → Option ℕ
    walk first end = first
    walk first (step (at line act) rest) =
        walk (walk_inside (lesser first (least (g (does line act)))) act) rest

    pub walk_inside : Option ℕ → Action → Option ℕ
    walk_inside first (ast.If arms last) = walk_else (walk_arms first arms) last
    walk_inside first (ast.While e body) = walk first body
    walk_inside first (ast.For x e body) = walk first body
    walk_inside first _ = first

    pub walk_arms : Option ℕ → Branches → Option ℕ
    walk_arms first no_arms = first
    walk_arms first (arm_and (arm line e body) rest) =
        walk_arms (walk (lesser first (least (g (asks line e)))) body) rest

    pub walk_else : Option ℕ → MaybeBlock → Option ℕ
    walk_else first no_block = first
    walk_else first (a_block body) = walk first body
