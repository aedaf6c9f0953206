-- The statements of a body and the nodes of an expression as flat lists, in the order in which they
-- are written.
use Rattle.std.specs.Prelude.{ℕ, List, [], ◌∷◌, ◌++◌}
use Rattle.std.specs.List.{flat_map}
use Rattle.mpy_tree.specs.Syntax.{Term, Terms, MaybeTerm, no_terms, term_and, no_term, a_term, at}
use Rattle.mpy_tree.specs.Syntax.{Action, Block, end, step, MaybeBlock, no_block, a_block, arm}
use Rattle.mpy_tree.specs.Syntax.{Branches, no_arms, arm_and}
use Rattle.mpy_tree.specs.Syntax as ast

-- an expression, and then its parts: of a conditional `yes` before the test
abbrev mutual
  pub nodes : Term → List Term
  nodes (ast.Int n) = ast.Int n ∷ []
  nodes (ast.Bool b) = ast.Bool b ∷ []
  nodes (ast.Text cs) = ast.Text cs ∷ []
  nodes (ast.Name x) = ast.Name x ∷ []
  nodes (ast.List es) = ast.List es ∷ all_nodes es
  nodes (ast.Neg e) = ast.Neg e ∷ nodes e
  nodes (ast.Not e) = ast.Not e ∷ nodes e
  nodes (ast.Arith op a b) = ast.Arith op a b ∷ nodes a ++ nodes b
  nodes (ast.Cmp op a b) = ast.Cmp op a b ∷ nodes a ++ nodes b
  nodes (ast.And a b) = ast.And a b ∷ nodes a ++ nodes b
  nodes (ast.Or a b) = ast.Or a b ∷ nodes a ++ nodes b
  nodes (ast.Cond t a b) = ast.Cond t a b ∷ (nodes a ++ (nodes t ++ nodes b))
  nodes (ast.Index v i) = ast.Index v i ∷ nodes v ++ nodes i
  nodes (ast.Slice v from to) =
      ast.Slice v from to ∷ (nodes v ++ (end_nodes from ++ end_nodes to))
  nodes (ast.Call f es) = ast.Call f es ∷ all_nodes es

  pub all_nodes : Terms → List Term
  all_nodes no_terms = []
  all_nodes (term_and e es) = nodes e ++ all_nodes es

  pub end_nodes : MaybeTerm → List Term
  end_nodes no_term = []
  end_nodes (a_term e) = nodes e

-- what stands on a line: a statement, or the test of an arm of an `if`
pub data Site : Type 0 where
  does : (line : ℕ) (act : Action) → Site
  asks : (line : ℕ) (test : Term) → Site

-- the statements of a body, those inside of others too
abbrev mutual
  pub sites : Block → List Site
  sites end = []
  sites (step (at line act) rest) = does line act ∷ inside act ++ sites rest

  pub inside : Action → List Site
  inside (ast.Assign x e) = []
  inside (ast.Augment x op e) = []
  inside (ast.Put x i e) = []
  inside (ast.AugmentAt x i op e) = []
  inside (ast.Append x e) = []
  inside (ast.Print e) = []
  inside (ast.Return e) = []
  inside ast.Pass = []
  inside ast.Break = []
  inside ast.Continue = []
  inside (ast.If arms last) = in_arms arms ++ in_last last
  inside (ast.While e body) = sites body
  inside (ast.For x e body) = sites body

  pub in_arms : Branches → List Site
  in_arms no_arms = []
  in_arms (arm_and (arm line e body) rest) = asks line e ∷ sites body ++ in_arms rest

  pub in_last : MaybeBlock → List Site
  in_last no_block = []
  in_last (a_block body) = sites body

abbrev pub line_of : Site → ℕ
line_of (does line act) = line
line_of (asks line e) = line

-- the expressions of a statement itself
abbrev pub own_terms : Action → List Term
own_terms (ast.Assign x e) = e ∷ []
own_terms (ast.Augment x op e) = e ∷ []
own_terms (ast.Put x i e) = i ∷ e ∷ []
own_terms (ast.AugmentAt x i op e) = i ∷ e ∷ []
own_terms (ast.Append x e) = e ∷ []
own_terms (ast.Print e) = e ∷ []
own_terms (ast.Return no_term) = []
own_terms (ast.Return (a_term e)) = e ∷ []
own_terms ast.Pass = []
own_terms ast.Break = []
own_terms ast.Continue = []
own_terms (ast.If arms last) = []
own_terms (ast.While e body) = e ∷ []
own_terms (ast.For x e body) = e ∷ []

abbrev pub site_terms : Site → List Term
site_terms (does line act) = own_terms act
site_terms (asks line e) = e ∷ []

-- the nodes of the expressions of a statement itself
abbrev pub site_nodes : Site → List Term
site_nodes s = flat_map nodes (site_terms s)
