-- More facts give an expression more types.
use Rattle.std.proofs.Common.{ℕ, List, Option, Some, None}
use Rattle.mpy_tree.specs.declared.operators.ArithOp.{ArithOp}
use Rattle.mpy_tree.specs.declared.operators.ArithOp.TheVariants.{Add, Sub, Mul, Floor, Rem, Power}
use Rattle.mpy_tree.specs.declared.typing.Slot.TheVariants as slot
use Rattle.mpy_tree.specs.Syntax.{Term, Routine}
use Rattle.mpy_tree.specs.Syntax as ast
use Rattle.mpy_tree.specs.declared.builtins.Builtin.{Builtin}
use Rattle.mpy_tree.specs.Builtins.{builtin_of}
use Rattle.mpy_tree.specs.declared.typing.TypeSet.{TypeSet}
use Rattle.mpy_tree.specs.TypeSets.{IsWithin}
use Rattle.mpy_tree.specs.SetTypes.{FactSet, results, call_types, arith_types, types_in, Callee, called}
use Rattle.mpy_tree.specs.Flows.{IsPart, Source, value, each, source_types}
use Rattle.mpy_tree.specs.Flows.{given}
use Rattle.mpy_types.proofs.SetLaws.{join_within, members_within}

arith_within : (op : ArithOp) (s t u w : TypeSet) → IsWithin s u → IsWithin t w → IsWithin (arith_types op s t) (arith_types op u w)
arith_within Add s t u w f g = join_within s t u w f g
arith_within Sub s t u w f g = λ a h. h
arith_within Mul s t u w f g = f
arith_within Floor s t u w f g = λ a h. h
arith_within Rem s t u w f g = λ a h. h
arith_within Power s t u w f g = λ a h. h

results_within : (F G : FactSet) → IsPart F G → (o : Option Callee) → IsWithin (results F o) (results G o)
results_within F G k None = λ a h. h
results_within F G k (Some g) = k g.number slot.Result

call_within : (F G : FactSet) → IsPart F G → (b : Option Builtin) (g : Option Callee) → IsWithin (call_types F b g) (call_types G b g)
call_within F G k (Some b) g = λ a h. h
call_within F G k None g = results_within F G k g

module _ (F G : FactSet) (k : IsPart F G) (p : List Routine) (i : ℕ) where
  pub types_within : (e : Term) → IsWithin (types_in F p i e) (types_in G p i e)
  types_within (ast.Int n) = λ a h. h
  types_within (ast.Bool b) = λ a h. h
  types_within (ast.Text cs) = λ a h. h
  types_within (ast.Name x) = k i (slot.Local x)
  types_within (ast.List es) = λ a h. h
  types_within (ast.Neg e) = λ a h. h
  types_within (ast.Not e) = λ a h. h
  types_within (ast.Arith op a b) = arith_within op _ _ _ _ (types_within a) (types_within b)
  types_within (ast.Cmp op a b) = λ a h. h
  types_within (ast.And a b) = λ a h. h
  types_within (ast.Or a b) = λ a h. h
  types_within (ast.Cond t a b) = join_within _ _ _ _ (types_within a) (types_within b)
  types_within (ast.Index a i) = members_within _ _ (types_within a)
  types_within (ast.Slice a from to) = types_within a
  types_within (ast.Call f es) = call_within F G k (builtin_of f) (called p f)

pub sources_within : (F G : FactSet) → IsPart F G → (p : List Routine) (s : Source) → IsWithin (source_types F p s) (source_types G p s)
sources_within F G k p (given t) = λ a h. h
sources_within F G k p (value i e) = types_within F G k p i e
sources_within F G k p (each i e) = members_within _ _ (types_within F G k p i e)
