-- Programs that a text can spell.
use Rattle.std.specs.Prelude.{◌≡◌, ℕ, ◌≤◌, Bool, true, false, List, All}
use Rattle.std.specs.List.{list_all}
use Rattle.mpy_tree.specs.declared.operators.ArithOp.{ArithOp}
use Rattle.mpy_tree.specs.declared.operators.ArithOp.TheVariants.{Power}
use Rattle.mpy_tree.specs.Syntax.{Routine}
use Rattle.mpy_tree.specs.Trees as kind
use Rattle.mpy_tree.specs.Trees.{Kind, Tree, Trees, node, no_trees, tree_and}
use Rattle.mpy_tree.specs.Shapes.{program_shape}
use Rattle.mpy_lexer.specs.declared.forms.Form.TheVariants.{Program}
use Rattle.mpy_lexer.specs.declared.forms.Kind.TheVariants as token
use Rattle.mpy_lexer.specs.TokenForms.{has_form}
use Rattle.mpy_lexer.specs.TextLiterals.{is_printable}

-- a name token, so no reserved word
abbrev pub IsName : List ℕ → Type 0
IsName x = has_form Program token.Name x ≡ true

-- the operators that an augmented assignment may have
abbrev pub MayAugment : ArithOp → Type 0
MayAugment Power = ⊥
MayAugment _ = Unit {0}

abbrev pub HasParts : Trees → Type 0
HasParts no_trees = ⊥
HasParts (tree_and t ts) = Unit {0}

abbrev pub BeginsWithArm : Trees → Type 0
BeginsWithArm (tree_and (node (kind.Arm line) us) ts) = Unit {0}
BeginsWithArm _ = ⊥

-- What a node of a kind with these parts must keep: a name is a name token, a number at most
-- 2147483647, a text printable; no body and no list of arms is empty, and `break` and `continue`
-- stand in a loop, as `loop` says.
abbrev pub IsProperNode : Bool → Kind → Trees → Type 0
IsProperNode loop (kind.Int n) ts = n ≤ 2147483647
IsProperNode loop (kind.Bool b) ts = Unit {0}
IsProperNode loop (kind.Text cs) ts = list_all is_printable cs ≡ true
IsProperNode loop (kind.Name x) ts = IsName x
IsProperNode loop kind.List ts = Unit {0}
IsProperNode loop kind.Neg ts = Unit {0}
IsProperNode loop kind.Not ts = Unit {0}
IsProperNode loop (kind.Arith op) ts = Unit {0}
IsProperNode loop (kind.Cmp op) ts = Unit {0}
IsProperNode loop kind.And ts = Unit {0}
IsProperNode loop kind.Or ts = Unit {0}
IsProperNode loop kind.Cond ts = Unit {0}
IsProperNode loop kind.Index ts = Unit {0}
IsProperNode loop (kind.Slice from to) ts = Unit {0}
IsProperNode loop (kind.Call f) ts = IsName f
IsProperNode loop (kind.Assign line x) ts = IsName x
IsProperNode loop (kind.Augment line x op) ts = IsName x × MayAugment op
IsProperNode loop (kind.Put line x) ts = IsName x
IsProperNode loop (kind.AugmentAt line x op) ts = IsName x × MayAugment op
IsProperNode loop (kind.Append line x) ts = IsName x
IsProperNode loop (kind.Print line) ts = Unit {0}
IsProperNode loop (kind.Return line) ts = Unit {0}
IsProperNode loop (kind.Pass line) ts = Unit {0}
IsProperNode loop (kind.Break line) ts = loop ≡ true
IsProperNode loop (kind.Continue line) ts = loop ≡ true
IsProperNode loop (kind.If line) ts = BeginsWithArm ts
IsProperNode loop (kind.Arm line) ts = Unit {0}
IsProperNode loop (kind.While line) ts = Unit {0}
IsProperNode loop (kind.For line x) ts = IsName x
IsProperNode loop kind.Block ts = HasParts ts
IsProperNode loop (kind.Function line f params) ts = IsName f × All IsName params
IsProperNode loop kind.Program ts = Unit {0}

-- whether the parts of a node stand in a loop
abbrev pub in_loop : Bool → Kind → Bool
in_loop loop (kind.While line) = true
in_loop loop (kind.For line x) = true
in_loop loop _ = loop

-- a tree of which each node is proper
abbrev mutual
  pub IsProperTree : Bool → Tree → Type 0
  IsProperTree loop (node k ts) = IsProperNode loop k ts × AreProperTrees (in_loop loop k) ts

  pub AreProperTrees : Bool → Trees → Type 0
  AreProperTrees loop no_trees = Unit {0}
  AreProperTrees loop (tree_and t ts) = IsProperTree loop t × AreProperTrees loop ts

abbrev pub IsProper : List Routine → Type 0
IsProper rs = IsProperTree false (program_shape rs)
