-- Laws of what is asked of a task: its wanted inputs, and the programs of selections.
use Rattle.std.proofs.Common.{◌≡◌, List, true, map, sym, subst, ◌∙◌}
use Rattle.std.specs.Prelude.{All, slice_index_or}
use Rattle.std.specs.List.{Contains}
use Rattle.mpy_tree.specs.Shapes.{program_shape}
use Rattle.mpy_tree.specs.Syntax.{Routine}
use Rattle.mpy_laws.proofs.BackFromTrees.{trees_differ}
use Rattle.choice_tree.specs.declared.selection.Choice.{Choice}
use Rattle.choice_tree.specs.Choices.{member_of}
use Rattle.choice_tree.specs.Selections.{plain}
use Rattle.input_space.specs.declared.case.Case.{Case}
use Rattle.input_space.specs.Agreement.{IsInput}
use Rattle.input_space.specs.Inputs.{inputs}
use Rattle.input_space.specs.Tasks.{Task, tree_of}
use Rattle.input_space.specs.TaskSpace.{Meets, SelectionMeets, case_of, is_wanted, wanted_inputs}
use Rattle.input_space.proofs.Elements.{contained_map, contained_was}

-- the reference gives a value on a wanted input
pub was_wanted : (k : Task) (x : Case) → Contains (wanted_inputs k) x → is_wanted k x ≡ true
was_wanted k x c = (contained_was (is_wanted k) (map case_of (inputs k.bounds.params)) x c).1

pub wanted_is_input : (k : Task) (x : Case) → Contains (wanted_inputs k) x → IsInput k.bounds x.values
wanted_is_input k x c =
    let from = contained_map case_of (inputs k.bounds.params) x (contained_was (is_wanted k) (map case_of (inputs k.bounds.params)) x c).0 in
    subst (λ (y : Case). IsInput k.bounds y.values) from.2 from.1

-- programs of one tree are one
pub selection_meets : (k : Task) (s : List Choice) (p : List Routine) (x : Case) → program_shape p ≡ plain (member_of s) (tree_of k) → Meets k p x → SelectionMeets k s x
selection_meets k s p x made met q shape = subst (λ r. Meets k r x) (trees_differ.of_programs p q (made ∙ sym shape)) met

pub all_selection_meet : (k : Task) (s : List Choice) (p : List Routine) (xs : List Case) → program_shape p ≡ plain (member_of s) (tree_of k) → All (Meets k p) xs → All (SelectionMeets k s) xs
all_selection_meet k s p xs made met = λ i d within. selection_meets k s p (slice_index_or xs i d) made (met i d within)

pub all_meet : (k : Task) (s : List Choice) (p : List Routine) (xs : List Case) → program_shape p ≡ plain (member_of s) (tree_of k) → All (SelectionMeets k s) xs → All (Meets k p) xs
all_meet k s p xs made met = λ i d within. met i d within p made
