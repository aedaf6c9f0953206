-- How a kind of expression is built: one field for each form.
use Rattle.std.specs.Prelude.{ℕ, Bool, List, Option}
use Rattle.mpy_tree.specs.declared.operators.ArithOp.{ArithOp}
use Rattle.mpy_tree.specs.declared.operators.CmpOp.{CmpOp}

-- expressions T, over terminals with holes and operators X
pub record Forms (X T : Type 0) : Type 0 where
  pub Int : ℕ → T
  pub Text : List ℕ → T
  pub Name : List ℕ → T
  pub Neg : T → T
  pub Not : T → T
  pub Arith : ArithOp → T → T → T
  pub Cmp : CmpOp → T → T → T
  pub And : T → T → T
  pub Or : T → T → T
  pub Cond : T → T → T → T
  pub Index : T → T → T
  pub Slice : T → Option T → Option T → T
  pub Call : List ℕ → List T → T
  -- what a hole stands for, where it may stand
  pub Hole : X → Option T
  -- {e1, .., ek}, where it may stand
  pub Set : List T → Option T
  -- what an operator of the level of + and - builds of its parts, where it may stand
  pub Operator : X → Option (T → T → T)
  -- and one of the level of comparisons
  pub Comparator : X → Option (T → T → T)
  pub Bool : Bool → T
  pub List : List T → T
