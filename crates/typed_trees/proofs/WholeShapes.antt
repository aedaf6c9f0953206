-- The tree of a term has all its parts.
use Rattle.std.proofs.Common.{refl}
use Rattle.mpy_tree.specs.Shapes.{shape, shapes}
use Rattle.mpy_tree.specs.Syntax.{Term, Terms, no_terms, term_and, no_term, a_term}
use Rattle.mpy_tree.specs.Syntax as ast
use Rattle.typed_trees.specs.Wholes.{AreWhole, IsWhole}

mutual
  pub shape_whole : (t : Term) → IsWhole (shape t)
  shape_whole (ast.Int n) = (refl, tt)
  shape_whole (ast.Bool b) = (refl, tt)
  shape_whole (ast.Text cs) = (refl, tt)
  shape_whole (ast.Name x) = (refl, tt)
  shape_whole (ast.List es) = (tt, shapes_whole es)
  shape_whole (ast.Neg e) = (refl, (shape_whole e, tt))
  shape_whole (ast.Not e) = (refl, (shape_whole e, tt))
  shape_whole (ast.Arith op a b) = (refl, (shape_whole a, (shape_whole b, tt)))
  shape_whole (ast.Cmp op a b) = (refl, (shape_whole a, (shape_whole b, tt)))
  shape_whole (ast.And a b) = (refl, (shape_whole a, (shape_whole b, tt)))
  shape_whole (ast.Or a b) = (refl, (shape_whole a, (shape_whole b, tt)))
  shape_whole (ast.Cond t a b) = (refl, (shape_whole a, (shape_whole t, (shape_whole b, tt))))
  shape_whole (ast.Index v i) = (refl, (shape_whole v, (shape_whole i, tt)))
  shape_whole (ast.Slice v no_term no_term) = (refl, (shape_whole v, tt))
  shape_whole (ast.Slice v (a_term f) no_term) = (refl, (shape_whole v, (shape_whole f, tt)))
  shape_whole (ast.Slice v no_term (a_term t)) = (refl, (shape_whole v, (shape_whole t, tt)))
  shape_whole (ast.Slice v (a_term f) (a_term t)) =
      (refl, (shape_whole v, (shape_whole f, (shape_whole t, tt))))
  shape_whole (ast.Call f es) = (tt, shapes_whole es)

  shapes_whole : (es : Terms) → AreWhole (shapes es)
  shapes_whole no_terms = tt
  shapes_whole (term_and e es) = (shape_whole e, shapes_whole es)
