-- The words of operators, and those that join parts at each level of the grammar.
use Rattle.std.specs.Prelude.{Option, Some, None}
use Rattle.mpy_tree.specs.declared.operators.ArithOp.{ArithOp}
use Rattle.mpy_tree.specs.declared.operators.ArithOp.TheVariants.{Add, Sub, Mul, Floor, Rem, Power}
use Rattle.mpy_tree.specs.declared.levels.Level.{Level}
use Rattle.mpy_tree.specs.declared.levels.Level.TheVariants as level
use Rattle.mpy_expressions.specs.declared.joints.Joint.{Joint}
use Rattle.mpy_expressions.specs.declared.joints.Joint.TheVariants as joint
use Rattle.mpy_expressions.specs.declared.words.Word.{Word}
use Rattle.mpy_expressions.specs.declared.words.Word.TheVariants as word

-- the words of operators
abbrev pub arith_word : ArithOp → Word
arith_word Add = word.Plus
arith_word Sub = word.Minus
arith_word Mul = word.Star
arith_word Floor = word.DoubleSlash
arith_word Rem = word.Percent
arith_word Power = word.DoubleStar

abbrev disjunction_joint : Word → Option Joint
disjunction_joint word.Or = Some joint.Or
disjunction_joint _ = None

abbrev conjunction_joint : Word → Option Joint
conjunction_joint word.And = Some joint.And
conjunction_joint _ = None

abbrev sum_joint : Word → Option Joint
sum_joint word.Plus = Some (joint.Arith Add)
sum_joint word.Minus = Some (joint.Arith Sub)
sum_joint _ = None

abbrev product_joint : Word → Option Joint
product_joint word.Star = Some (joint.Arith Mul)
product_joint word.DoubleSlash = Some (joint.Arith Floor)
product_joint word.Percent = Some (joint.Arith Rem)
product_joint _ = None

-- the joint of a level that a word is, if it is one
abbrev pub joint_at : Level → Word → Option Joint
joint_at level.Disjunction w = disjunction_joint w
joint_at level.Conjunction w = conjunction_joint w
joint_at level.Sum w = sum_joint w
joint_at level.Product w = product_joint w
joint_at _ w = None

-- the levels at which parts are joined, grouping to the left
abbrev pub IsChain : Level → Type 0
IsChain level.Disjunction = Unit {0}
IsChain level.Conjunction = Unit {0}
IsChain level.Sum = Unit {0}
IsChain level.Product = Unit {0}
IsChain _ = ⊥

-- the levels of an operator before its part
abbrev pub IsPrefix : Level → Type 0
IsPrefix level.Negation = Unit {0}
IsPrefix level.Unary = Unit {0}
IsPrefix _ = ⊥
