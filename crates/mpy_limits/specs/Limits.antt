-- How large a program may be, and where one is larger.
use Rattle.std.specs.Prelude.{ℕ, zero, suc, Bool, false, ◌||◌, nat_lt, List, [], ◌∷◌}
use Rattle.std.specs.Prelude.{◌++◌, length, map, take, drop, Result, Ok, Err, if◌then◌else◌}
use Rattle.std.specs.List.{flat_map, list_any}
use Rattle.mpy_tree.specs.Syntax.{Term, MaybeTerm, no_term, a_term, at}
use Rattle.mpy_tree.specs.Syntax.{Action, Block, end, step, MaybeBlock, no_block, a_block, arm}
use Rattle.mpy_tree.specs.Syntax.{Branches, no_arms, arm_and, Routine}
use Rattle.mpy_tree.specs.Syntax as ast
use Rattle.mpy_tree.specs.NameLengths.{is_long}
use Rattle.mpy_tree.specs.Trees.{tree_depth}
use Rattle.mpy_tree.specs.Shapes.{shape}
use Rattle.mpy_tree.specs.Sites.{nodes}

-- how deep the tree of an expression is
abbrev pub depth : Term → ℕ
depth e = tree_depth (shape e)

-- a node with a name that is too long
abbrev pub is_long_node : Term → Bool
is_long_node (ast.Name x) = is_long x
is_long_node (ast.Call f es) = is_long f
is_long_node _ = false

-- some node has one
abbrev pub has_long : Term → Bool
has_long e = list_any is_long_node (nodes e)

-- deeper than 32, or with a name that is too long
abbrev pub is_large : Term → Bool
is_large e = nat_lt 32 (depth e) || has_long e

abbrev pub end_is_large : MaybeTerm → Bool
end_is_large no_term = false
end_is_large (a_term e) = is_large e

abbrev pub line_if : Bool → ℕ → List ℕ
line_if b line = if b then line ∷ [] else []

-- the line of the first statement of a block, if it is nested deeper than 8
abbrev pub too_deep : ℕ → Block → List ℕ
too_deep d end = []
too_deep d (step (at line act) rest) = line_if (nat_lt 8 d) line

-- nesting one deeper, counted up to 9, which is deeper than any block may be
abbrev pub deeper : ℕ → ℕ
deeper d = if nat_lt 8 d then d else suc d

-- The lines on which a block, nested d deep, passes a limit.
abbrev mutual
  pub block_lines : ℕ → Block → List ℕ
  block_lines d end = []
  block_lines d (step (at line act) rest) = action_lines d line act ++ block_lines d rest

  pub action_lines : ℕ → ℕ → Action → List ℕ
  action_lines d line (ast.Assign x e) = line_if (is_long x || is_large e) line
  action_lines d line (ast.Augment x op e) = line_if (is_long x || is_large e) line
  action_lines d line (ast.Put x i e) = line_if (is_long x || is_large i || is_large e) line
  action_lines d line (ast.AugmentAt x i op e) =
      line_if (is_long x || is_large i || is_large e) line
  action_lines d line (ast.Append x e) = line_if (is_long x || is_large e) line
  action_lines d line (ast.Print e) = line_if (is_large e) line
  action_lines d line (ast.Return e) = line_if (end_is_large e) line
  action_lines d line ast.Pass = []
  action_lines d line ast.Break = []
  action_lines d line ast.Continue = []
  action_lines d line (ast.If arms last) = arms_lines d arms ++ last_lines d last
  action_lines d line (ast.While e body) =
      line_if (is_large e) line ++ too_deep (deeper d) body ++ block_lines (deeper d) body
  action_lines d line (ast.For x e body) =
      line_if (is_long x || is_large e) line ++ too_deep (deeper d) body
      ++ block_lines (deeper d) body

  pub arms_lines : ℕ → Branches → List ℕ
  arms_lines d no_arms = []
  arms_lines d (arm_and (arm line e body) rest) =
      line_if (is_large e) line ++ too_deep (deeper d) body ++ block_lines (deeper d) body
      ++ arms_lines d rest

  pub last_lines : ℕ → MaybeBlock → List ℕ
  last_lines d no_block = []
  last_lines d (a_block body) = too_deep (deeper d) body ++ block_lines (deeper d) body

-- the lines of all statements, in the order of the text; an `if` with all its arms is one
abbrev mutual
  pub statements : Block → List ℕ
  statements end = []
  statements (step (at line act) rest) = (line ∷ statements_in act) ++ statements rest

  pub statements_in : Action → List ℕ
  statements_in (ast.Assign x e) = []
  statements_in (ast.Augment x op e) = []
  statements_in (ast.Put x i e) = []
  statements_in (ast.AugmentAt x i op e) = []
  statements_in (ast.Append x e) = []
  statements_in (ast.Print e) = []
  statements_in (ast.Return e) = []
  statements_in ast.Pass = []
  statements_in ast.Break = []
  statements_in ast.Continue = []
  statements_in (ast.If arms last) = statements_of arms ++ statements_last last
  statements_in (ast.While e body) = statements body
  statements_in (ast.For x e body) = statements body

  pub statements_of : Branches → List ℕ
  statements_of no_arms = []
  statements_of (arm_and (arm line e body) rest) = statements body ++ statements_of rest

  pub statements_last : MaybeBlock → List ℕ
  statements_last no_block = []
  statements_last (a_block body) = statements body

-- those of all functions
abbrev pub all_statements : List Routine → List ℕ
all_statements rs = flat_map (λ r. statements r.body) rs

-- the member at a place, counted from 0, or how far the place is behind the end
abbrev pub nth_or_left : List ℕ → ℕ → Result ℕ ℕ
nth_or_left [] n = Err n
nth_or_left (x ∷ xs) zero = Ok x
nth_or_left (x ∷ xs) (suc n) = nth_or_left xs n

-- more than 6 parameters, or a name that is too long
abbrev pub is_large_header : Routine → Bool
is_large_header r = nat_lt 6 (length r.params) || is_long r.name || list_any is_long r.params

abbrev pub routine_lines : Routine → List ℕ
routine_lines r = line_if (is_large_header r) r.line ++ block_lines 1 r.body

-- All lines on which a program passes a limit: those of its 9th function, of its 201st statement,
-- and those above.
abbrev pub limit_lines : List Routine → List ℕ
limit_lines rs =
    map (λ r. r.line) (take 1 (drop 8 rs))
    ++ take 1 (drop 200 (flat_map (λ r. statements r.body) rs)) ++ flat_map routine_lines rs
