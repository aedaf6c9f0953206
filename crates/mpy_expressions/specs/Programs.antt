-- The expressions of programs: no holes, no sets, and no operators but those of the words.
use Rattle.std.specs.Prelude.{None}
use Rattle.mpy_tree.specs.Syntax.{Term}
use Rattle.mpy_tree.specs.Syntax as ast
use Rattle.mpy_tree.specs.View.{end_by, terms}
use Rattle.mpy_expressions.specs.Forms.{Forms}

abbrev pub programs : Forms Unit Term
programs = record {
  Int = ast.Int;
  Text = ast.Text;
  Name = ast.Name;
  Neg = ast.Neg;
  Not = ast.Not;
  Arith = ast.Arith;
  Cmp = ast.Cmp;
  And = ast.And;
  Or = ast.Or;
  Cond = ast.Cond;
  Index = ast.Index;
  Slice = λ v from to. ast.Slice v (end_by (λ e. e) from) (end_by (λ e. e) to);
  Call = λ f es. ast.Call f (terms es);
  Hole = λ x. None;
  Set = λ es. None;
  Operator = λ x. None;
  Comparator = λ x. None;
  Bool = ast.Bool;
  List = λ es. ast.List (terms es);
}
