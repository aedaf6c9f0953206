-- Rules that a text can spell.
use Rattle.std.specs.Prelude.{◌≡◌, true, false, List, All}
use Rattle.mpy_tree.specs.Trees.{Kind, no_trees}
use Rattle.choice_tree.specs.Matching.{is_expression}
use Rattle.choice_tree.specs.Templates.{Correction, NodeTemplate, exactly, one_arith}
use Rattle.choice_tree.specs.Templates.{one_comparison, some_arith, some_comparison, Template}
use Rattle.choice_tree.specs.Templates.{Templates, made, hole, one_of, some_local, no_templates}
use Rattle.choice_tree.specs.Templates.{template_and}
use Rattle.mpy_round_trip.specs.Proper.{IsProperNode}

-- What stands at a node of an expression in a proper program: a name is a name token, a number at
-- most 2147483647, a text printable. There neither a loop nor the parts matter.
abbrev pub IsProperKind : Kind → Type 0
IsProperKind k = (is_expression k ≡ true) × IsProperNode false k no_trees

-- Any operator may stand in an expression.
abbrev pub IsProperChoice : NodeTemplate → Type 0
IsProperChoice (exactly k) = IsProperKind k
IsProperChoice (one_arith ops) = Unit {0}
IsProperChoice (one_comparison ops) = Unit {0}
IsProperChoice (some_arith m) = Unit {0}
IsProperChoice (some_comparison m) = Unit {0}

-- a side of which each node is proper
abbrev mutual
  pub IsProperSide : Template → Type 0
  IsProperSide (made k ps) = IsProperChoice k × AreProperSides ps
  IsProperSide (hole m) = Unit {0}
  IsProperSide (one_of ps) = AreProperSides ps
  IsProperSide (some_local m) = Unit {0}

  pub AreProperSides : Templates → Type 0
  AreProperSides no_templates = Unit {0}
  AreProperSides (template_and p ps) = IsProperSide p × AreProperSides ps

pub record IsProperRule (r : Correction) : Type 0 where
  pub left : IsProperSide r.left
  pub right : IsProperSide r.right

abbrev pub AreProperRules : List Correction → Type 0
AreProperRules rules = All IsProperRule rules
