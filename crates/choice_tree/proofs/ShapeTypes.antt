-- The type of a term's tree is the term's.
use Rattle.std.proofs.Common.{◌≡◌, Bool, true, false, ◌&&◌, [], ◌∷◌, Option, Some}
use Rattle.std.proofs.Common.{None, if◌then◌else◌, refl, ap, ◌∙◌}
use Rattle.mpy_tree.specs.declared.typing.Ty.{Ty}
use Rattle.mpy_tree.specs.declared.typing.Ty.TheVariants as ty
use Rattle.mpy_tree.specs.declared.typing.Slot.TheVariants as slot
use Rattle.mpy_tree.specs.Syntax.{Term, Terms, MaybeTerm, no_terms, term_and, no_term, a_term}
use Rattle.mpy_tree.specs.Syntax as ast
use Rattle.mpy_tree.specs.Builtins.{builtin_of}
use Rattle.mpy_tree.specs.Options.{◌>>=◌}
use Rattle.mpy_tree.specs.SetTypes.{called}
use Rattle.mpy_tree.specs.Rules.{type_in, all_types, end_types, all_numbers, is_type, type_if}
use Rattle.mpy_tree.specs.Rules.{negative_type, arith_type, compare_type, both_are, choice_type}
use Rattle.mpy_tree.specs.Rules.{index_type, slice_type, call_type}
use Rattle.mpy_tree.specs.Shapes.{shape, shapes, shape_and}
use Rattle.mpy_tree.specs.Trees.{Trees, no_trees}
use Rattle.choice_tree.specs.Typing.{Scope, type_of, types_of, of_two, of_three}

chosen_type : (o r s : Option Ty)
    → of_three (λ yes test no. choice_type yes no) (o ∷ r ∷ s ∷ [])
    ≡ (r >>= λ c. o >>= λ a. s >>= λ b. choice_type a b)
chosen_type None None s = refl
chosen_type None (Some c) s = refl
chosen_type (Some a) None s = refl
chosen_type (Some a) (Some c) s = refl

with_true : (b : Bool) → b && true ≡ b
with_true true = refl
with_true false = refl

nested : (a b : Bool) → a && b ≡ (a && true) && b
nested true b = refl
nested false b = refl

mutual
  pub shape_type : (σ : Scope) (t : Term)
      → type_of σ (shape t) ≡ type_in σ.slots σ.program σ.number t
  shape_type σ (ast.Int n) = refl
  shape_type σ (ast.Bool b) = refl
  shape_type σ (ast.Text cs) = refl
  shape_type σ (ast.Name x) = refl
  shape_type σ (ast.List es) = ap (λ os. type_if (all_numbers os) ty.List) (shape_types σ es)
  shape_type σ (ast.Neg e) = ap (λ o. o >>= negative_type) (shape_type σ e)
  shape_type σ (ast.Not e) = ap (λ o. o >>= λ t. Some ty.Bool) (shape_type σ e)
  shape_type σ (ast.Arith op a b) =
      λ i. of_two (arith_type op) (shape_type σ a i ∷ shape_type σ b i ∷ [])
  shape_type σ (ast.Cmp op a b) =
      λ i. of_two (compare_type op) (shape_type σ a i ∷ shape_type σ b i ∷ [])
  shape_type σ (ast.And a b) =
      λ i. of_two (both_are ty.Bool) (shape_type σ a i ∷ shape_type σ b i ∷ [])
  shape_type σ (ast.Or a b) =
      λ i. of_two (both_are ty.Bool) (shape_type σ a i ∷ shape_type σ b i ∷ [])
  shape_type σ (ast.Cond c a b) =
      (λ i. of_three (λ yes test no. choice_type yes no)
      (shape_type σ a i ∷ shape_type σ c i ∷ shape_type σ b i ∷ []))
      ∙ chosen_type (type_in σ.slots σ.program σ.number a)
      (type_in σ.slots σ.program σ.number c) (type_in σ.slots σ.program σ.number b)
  shape_type σ (ast.Index v k) =
      λ i. of_two index_type (shape_type σ v i ∷ shape_type σ k i ∷ [])
  shape_type σ (ast.Slice v from to) =
      (λ i. shape_type σ v i >>= λ t.
      if end_type σ from (shape_and to no_trees) i then slice_type t else None)
      ∙ (λ i. type_in σ.slots σ.program σ.number v >>= λ t.
      if all_numbers (end_types σ.slots σ.program σ.number from) && end_type σ to no_trees i
      then slice_type t else None)
      ∙ (λ i. type_in σ.slots σ.program σ.number v >>= λ t.
      if all_numbers (end_types σ.slots σ.program σ.number from)
      && with_true (all_numbers (end_types σ.slots σ.program σ.number to)) i
      then slice_type t else None)
  shape_type σ (ast.Call f es) =
      ap (call_type σ.slots (σ.slots σ.number (slot.Local f)) (builtin_of f) (called σ.program f))
      (shape_types σ es)

  shape_types : (σ : Scope) (es : Terms)
      → types_of σ (shapes es) ≡ all_types σ.slots σ.program σ.number es
  shape_types σ no_terms = refl
  shape_types σ (term_and e es) = λ i. shape_type σ e i ∷ shape_types σ es i

  end_type : (σ : Scope) (e : MaybeTerm) (ts : Trees)
      → all_numbers (types_of σ (shape_and e ts))
      ≡ all_numbers (end_types σ.slots σ.program σ.number e) && all_numbers (types_of σ ts)
  end_type σ no_term ts = refl
  end_type σ (a_term e) ts =
      (λ i. is_type ty.Int (shape_type σ e i) && all_numbers (types_of σ ts))
      ∙ nested (is_type ty.Int (type_in σ.slots σ.program σ.number e)) (all_numbers (types_of σ ts))
