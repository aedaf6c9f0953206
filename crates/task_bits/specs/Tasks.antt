-- The arguments, the picks and the ends of the programs of a task as bits.
use Rattle.std.specs.Prelude.{◌≡◌, List, length, map, option_map}
use Rattle.bounds_reader.specs.declared.bounds.Bounds.{Bounds}
use Rattle.bit_words.specs.Logic.{OwnsAll}
use Rattle.choice_tree.specs.WeightedTrees.{picks}
use Rattle.input_space.specs.Inputs.{param_type}
use Rattle.input_space.specs.Tasks.{Task, result_type, tree_of}
use Rattle.sym_values.specs.declared.done.SymDone.{SymDone}
use Rattle.sym_values.specs.declared.value.SymValue.{SymValue}
use Rattle.sym_values.specs.Forms.{form_for, joined}
use Rattle.sym_values.specs.Printed.{IsDoneIn}
use Rattle.sym_nodes.specs.Operands.{ty_of}
use Rattle.sym_expr.specs.Signatures.{AreArgumentsIn}

-- arguments for the parameters: of their types, in the forms that these have at the limits
pub record AreArgumentsOf {S B : Type 0} (owns : S → B → Type 0) (s : S) (b : Bounds)
    (args : List (SymValue B)) : Type 0 where
  pub formed : AreArgumentsIn owns s b.limits args
  pub typed : map ty_of args ≡ map param_type b.params

-- for each pick of the weighted tree the bits of a member's number
pub record ArePicksOf {S B : Type 0} (owns : S → B → Type 0) (s : S) (k : Task)
    (ps : List (List B)) : Type 0 where
  pub owned : OwnsAll owns s (joined ps)
  pub many : length ps ≡ picks (tree_of k)

-- an end with a value of the type of the reference's results, which is also that of the
-- submission's, if these have one
abbrev pub IsEndOf : {S B : Type 0} → (S → B → Type 0) → S → Task → SymDone B → Type 0
IsEndOf owns s k d =
    IsDoneIn owns s k.bounds.limits
    (option_map (form_for k.bounds.limits) (result_type k.bounds k.reference k.reference_types)) d
