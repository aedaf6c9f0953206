-- How many parts a term has.
use Rattle.std.proofs.Common.{length, refl}
use Rattle.mpy_tree.specs.Syntax.{Term, no_term, a_term}
use Rattle.mpy_tree.specs.Syntax as ast
use Rattle.mpy_tree.specs.Shapes.{shape}
use Rattle.choice_tree.specs.Heads.{HasParts, root}
use Rattle.eml_match.specs.Parts.{parts}

pub parts_counted : (t : Term) → HasParts (root (shape t)) (length (parts (shape t)))
parts_counted (ast.Int n) = refl
parts_counted (ast.Bool b) = refl
parts_counted (ast.Text cs) = refl
parts_counted (ast.Name x) = refl
parts_counted (ast.List es) = tt
parts_counted (ast.Neg e) = refl
parts_counted (ast.Not e) = refl
parts_counted (ast.Arith op a b) = refl
parts_counted (ast.Cmp op a b) = refl
parts_counted (ast.And a b) = refl
parts_counted (ast.Or a b) = refl
parts_counted (ast.Cond t a b) = refl
parts_counted (ast.Index v i) = refl
parts_counted (ast.Slice v no_term no_term) = refl
parts_counted (ast.Slice v no_term (a_term b)) = refl
parts_counted (ast.Slice v (a_term a) no_term) = refl
parts_counted (ast.Slice v (a_term a) (a_term b)) = refl
parts_counted (ast.Call f es) = tt
