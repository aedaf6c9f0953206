-- What is proper, form by form, as the proofs go over it.
use Rattle.std.proofs.Common.{◌≤◌, ◌≡◌, Bool, true, false, List, All}
use Rattle.std.specs.List.{list_all}
use Rattle.mpy_tree.specs.Syntax.{Term, MaybeTerm, at}
use Rattle.mpy_tree.specs.Syntax.{Action, Block, end, step, MaybeBlock, no_block, a_block, arm}
use Rattle.mpy_tree.specs.Syntax.{Branches, no_arms, arm_and, Routine}
use Rattle.mpy_tree.specs.Syntax as ast
use Rattle.mpy_tree.specs.Sites.{nodes, end_nodes}
use Rattle.mpy_lexer.specs.TextLiterals.{is_printable}
use Rattle.mpy_parser.specs.Nesting.{MayStand}
use Rattle.mpy_round_trip.specs.Proper.{IsName, MayAugment}

abbrev pub IsProperNode : Term → Type 0
IsProperNode (ast.Int n) = n ≤ 2147483647
IsProperNode (ast.Text cs) = list_all is_printable cs ≡ true
IsProperNode (ast.Name x) = IsName x
IsProperNode (ast.Call f es) = IsName f
IsProperNode _ = Unit {0}

abbrev pub IsProperTerm : Term → Type 0
IsProperTerm e = All IsProperNode (nodes e)

abbrev pub IsProperEnd : MaybeTerm → Type 0
IsProperEnd e = All IsProperNode (end_nodes e)

abbrev pub HasStatement : Block → Type 0
HasStatement end = ⊥
HasStatement (step s rest) = Unit {0}

abbrev pub HasArm : Branches → Type 0
HasArm no_arms = ⊥
HasArm (arm_and b rest) = Unit {0}

-- No body and no list of arms is empty, and `break` and `continue` stand in loops; `loop` says
-- whether the block stands in one.
abbrev mutual
  pub IsProperBlock : Bool → Block → Type 0
  IsProperBlock loop end = Unit {0}
  IsProperBlock loop (step (at line act) rest) = IsProperAction loop act × IsProperBlock loop rest

  pub IsProperAction : Bool → Action → Type 0
  IsProperAction loop (ast.Assign x e) = IsName x × IsProperTerm e
  IsProperAction loop (ast.Augment x op e) = IsName x × MayAugment op × IsProperTerm e
  IsProperAction loop (ast.Put x i e) = IsName x × IsProperTerm i × IsProperTerm e
  IsProperAction loop (ast.AugmentAt x i op e) =
      IsName x × IsProperTerm i × MayAugment op × IsProperTerm e
  IsProperAction loop (ast.Append x e) = IsName x × IsProperTerm e
  IsProperAction loop (ast.Print e) = IsProperTerm e
  IsProperAction loop (ast.Return e) = IsProperEnd e
  IsProperAction loop ast.Pass = Unit {0}
  IsProperAction loop ast.Break = MayStand loop ast.Break
  IsProperAction loop ast.Continue = MayStand loop ast.Continue
  IsProperAction loop (ast.If arms last) =
      HasArm arms × AreProperArms loop arms × IsProperElse loop last
  IsProperAction loop (ast.While e body) =
      IsProperTerm e × (HasStatement body × IsProperBlock true body)
  IsProperAction loop (ast.For x e body) =
      IsName x × IsProperTerm e × (HasStatement body × IsProperBlock true body)

  pub AreProperArms : Bool → Branches → Type 0
  AreProperArms loop no_arms = Unit {0}
  AreProperArms loop (arm_and (arm line e body) rest) =
      IsProperTerm e × (HasStatement body × IsProperBlock loop body) × AreProperArms loop rest

  pub IsProperElse : Bool → MaybeBlock → Type 0
  IsProperElse loop no_block = Unit {0}
  IsProperElse loop (a_block body) = HasStatement body × IsProperBlock loop body

abbrev pub IsProperBody : Bool → Block → Type 0
IsProperBody loop body = HasStatement body × IsProperBlock loop body

pub record IsProperRoutine (r : Routine) : Type 0 where
  pub name : IsName r.name
  pub params : All IsName r.params
  pub body : IsProperBody false r.body

abbrev pub AreProper : List Routine → Type 0
AreProper rs = All IsProperRoutine rs
