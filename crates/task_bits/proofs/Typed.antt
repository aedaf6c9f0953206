-- The weighted programs of a task are typed, and their ends have the form of its results.
use Rattle.std.proofs.Common.{◌≡◌, ℕ, ◌+◌, Bool, true, false, List, [], ◌∷◌, map, refl, ap, sym}
use Rattle.std.proofs.Common.{◌∙◌, if◌then◌else◌, Option, Some, None, option_map, subst}
use Rattle.std.proofs.lemmas.List.Elements.{All-nil}
use Rattle.mpy_tree.specs.declared.typing.Fact.{Fact}
use Rattle.mpy_tree.specs.declared.typing.Slot.TheVariants as slot
use Rattle.mpy_tree.specs.Options.{◌>>=◌}
use Rattle.mpy_tree.specs.Rules.{single}
use Rattle.mpy_tree.specs.SetTypes.{Callee, FactSet, callee, called, called_from, results}
use Rattle.mpy_tree.specs.Shapes.{program_shape, routine_shape, routine_shapes}
use Rattle.mpy_tree.specs.Syntax.{Routine}
use Rattle.mpy_tree.specs.TypeSets.{only}
use Rattle.mpy_tree.specs.Typings.{set_of}
use Rattle.mpy_tree.specs.Values.{same_bytes}
use Rattle.choice_tree.specs.declared.tree.WFunc.{WFunc}
use Rattle.choice_tree.specs.declared.tree.WProg.{WProg}
use Rattle.choice_tree.specs.StatementViews.{weighted_func, weighted_prog}
use Rattle.choice_tree.specs.WeightedTrees.{base_of, bases_of, lifted}
use Rattle.choice_tree.specs.WeightedViews.{weighteds}
use Rattle.typed_programs.proofs.TypingFacts.{are_types}
use Rattle.typed_trees.specs.Wholes.{IsWholeSide}
use Rattle.typed_trees.proofs.WholeRules.{rules_whole}
use Rattle.input_space.specs.declared.task.TaskParts.{TaskParts}
use Rattle.input_space.specs.Inputs.{param_type}
use Rattle.input_space.specs.TaskParts.{task_with}
use Rattle.input_space.specs.Tasks.{IsSound, Task, entry_at, result_type, tree_of}
use Rattle.sym_values.specs.declared.done.SymDone.{SymDone}
use Rattle.sym_values.specs.Forms.{form_for}
use Rattle.sym_values.specs.Printed.{IsDoneIn}
use Rattle.sym_stmt.specs.Programs.{TypesProgram, end_form, entry_within, functions_of, header}
use Rattle.sym_stmt.proofs.Rewritten.{rewritten_typed}
use Rattle.task_bits.specs.Tasks.{IsEndOf}
use Rattle.task_bits.proofs.Written.{without_rules}

pub reference_typed : (k : Task) (w : WProg) → IsSound k
    → weighted_prog w ≡ lifted (program_shape k.reference)
    → TypesProgram k.reference_types w
    (entry_within k.bounds.limits k.bounds.entry (map param_type k.bounds.params))
reference_typed k w sound e =
    let T = k.reference_types in
    rewritten_typed [] T k.reference (entry_at k.bounds) w (All-nil (λ r. IsWholeSide r.right))
    (are_types T k.reference (entry_at k.bounds) sound.reference.typing)
    (e ∙ sym (without_rules k.reference T))

pub candidates_typed : (parts : TaskParts) (w : WProg) → IsSound (task_with parts)
    → weighted_prog w ≡ tree_of (task_with parts)
    → TypesProgram parts.submission_types.facts w
    (entry_within parts.bounds.limits parts.bounds.entry (map param_type parts.bounds.params))
candidates_typed parts w sound e =
    let k = task_with parts in
    let T = k.submission_types in
    rewritten_typed k.rules T k.submission (entry_at k.bounds) w (rules_whole parts.rules)
    (are_types T k.submission (entry_at k.bounds) sound.submission.typing) e

-- a function of a name gives the same by a program as by the headers of a weighted program whose
-- bases make it
module _ (F : FactSet) (f : List ℕ) where
  same_by : (b c : Bool) (r : Routine) (w : WFunc) (n : ℕ) (o q : Option Callee) → c ≡ b
      → results F o ≡ results F q
      → results F (if b then Some (callee n r) else o)
      ≡ results F (if c then Some (callee n (header w)) else q)
  same_by true true r w n o q e same = refl
  same_by true false r w n o q e same = absurd cc
  same_by false true r w n o q e same = absurd cc
  same_by false false r w n o q e same = same

  same_results : (fs : List WFunc) (rs : List Routine) (n : ℕ)
      → routine_shapes rs ≡ bases_of (weighteds (map weighted_func fs))
      → results F (called_from rs f n) ≡ results F (called_from (map header fs) f n)
  same_results [] [] n e = refl
  same_results [] (r ∷ rs) n e = absurd cc
  same_results (w ∷ fs) [] n e = absurd cc
  same_results (w ∷ fs) (r ∷ rs) n e =
      let head : routine_shape r ≡ base_of (weighted_func w) = cc in
      let tail : routine_shapes rs ≡ bases_of (weighteds (map weighted_func fs)) = cc in
      let name : w.name ≡ r.name = cc in
      same_by (same_bytes f r.name) (same_bytes f w.name) r w n (called_from rs f (n + 1))
      (called_from (map header fs) f (n + 1)) (ap (same_bytes f) name)
      (same_results fs rs (n + 1) tail)

  only_result : (o : Option Callee)
      → (o >>= λ c. single F c.number slot.Result) ≡ only (results F o)
  only_result None = refl
  only_result (Some g) = refl

-- an end of the form that the entry of a typed program gives
pub end_of : {S B : Type 0} {owns : S → B → Type 0} {s : S} (k : Task) (T : List Fact)
    (p : List Routine) (w : WProg) (d : SymDone B)
    → result_type k.bounds p T ≡ result_type k.bounds k.reference k.reference_types
    → program_shape p ≡ base_of (weighted_prog w)
    → IsDoneIn owns s k.bounds.limits (end_form k.bounds.limits w T k.bounds.entry) d
    → IsEndOf owns s k d
end_of {S} {B} {owns} {s} k T p w d same shape made =
    let l = k.bounds.limits in
    let f = k.bounds.entry in
    let F = set_of T in
    let parts : routine_shapes p ≡ bases_of (weighteds (map weighted_func (functions_of w))) = cc in
    let type =
    only_result F f (called (map header (functions_of w)) f)
    ∙ sym (ap only (same_results F f (functions_of w) p 0 parts)) ∙ same in
    subst (λ o. IsDoneIn owns s l (option_map (form_for l) o) d) type made
