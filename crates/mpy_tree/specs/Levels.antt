-- The levels of the grammar of expressions, from the conditional, which binds least, to the atoms.
use Rattle.std.specs.Prelude.{ℕ}
use Rattle.mpy_tree.specs.declared.operators.ArithOp.{ArithOp}
use Rattle.mpy_tree.specs.declared.operators.ArithOp.TheVariants.{Add, Sub, Mul, Floor, Rem, Power}
use Rattle.mpy_tree.specs.declared.levels.Level.{Level}
use Rattle.mpy_tree.specs.declared.levels.Level.TheVariants as level

-- the next level, which binds closer; an atom's is itself
abbrev pub above : Level → Level
above level.Conditional = level.Disjunction
above level.Disjunction = level.Conjunction
above level.Conjunction = level.Negation
above level.Negation = level.Comparison
above level.Comparison = level.Sum
above level.Sum = level.Product
above level.Product = level.Unary
above level.Unary = level.Power
above level.Power = level.Postfix
above level.Postfix = level.Atom
above level.Atom = level.Atom

-- the level of an operator, and those of what stands left and right of it
abbrev pub operator_level : ArithOp → Level
operator_level Add = level.Sum
operator_level Sub = level.Sum
operator_level Mul = level.Product
operator_level Floor = level.Product
operator_level Rem = level.Product
operator_level Power = level.Power

abbrev pub left_level : ArithOp → Level
left_level Add = level.Sum
left_level Sub = level.Sum
left_level Mul = level.Product
left_level Floor = level.Product
left_level Rem = level.Product
left_level Power = level.Postfix

abbrev pub right_level : ArithOp → Level
right_level Add = level.Product
right_level Sub = level.Product
right_level Mul = level.Unary
right_level Floor = level.Unary
right_level Rem = level.Unary
right_level Power = level.Unary

-- how close a level binds
abbrev pub rank : Level → ℕ
rank level.Conditional = 0
rank level.Disjunction = 1
rank level.Conjunction = 2
rank level.Negation = 3
rank level.Comparison = 4
rank level.Sum = 5
rank level.Product = 6
rank level.Unary = 7
rank level.Power = 8
rank level.Postfix = 9
rank level.Atom = 10
