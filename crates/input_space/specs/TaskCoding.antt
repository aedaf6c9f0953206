-- What truth values stand for in the questions about a task.
use Rattle.std.specs.Prelude.{ℕ, Bool, List, map, Option, option_map}
use Rattle.mpy_tree.specs.declared.typing.Ty.{Ty}
use Rattle.clause_base.specs.declared.clause.Clause.{Clause}
use Rattle.choice_tree.specs.declared.selection.Choice.{Choice}
use Rattle.selection_numbers.specs.MemberCounts.{member_counts}
use Rattle.input_space.specs.declared.case.Case.{Case}
use Rattle.input_space.specs.declared.session.Query.{Query}
use Rattle.input_space.specs.Inputs.{param_type}
use Rattle.input_space.specs.SelectionBits.{all_member_bits, selection_at}
use Rattle.input_space.specs.Sessions.{question_of}
use Rattle.input_space.specs.Statements.{Coding, States}
use Rattle.input_space.specs.Tasks.{Task, tree_of}
use Rattle.input_space.specs.TaskSpace.{case_of, space}
use Rattle.input_space.specs.ValueBits.{all_bits_for, values_at}

abbrev pub param_types : Task → List Ty
param_types k = map param_type k.bounds.params

-- the input that truth values spell
abbrev pub case_in : Task → List Bool → Option Case
case_in k bits = option_map case_of (values_at k.bounds.limits (param_types k) bits 0)

-- an input has the bits of its values, and a selection those of the members of all picks
abbrev pub coding : Task → Coding (List Choice) Case
coding k = record {
  input_bits = all_bits_for k.bounds.limits (param_types k);
  input = case_in k;
  choice_bits = all_member_bits (member_counts (tree_of k));
  choice = λ bits. selection_at (tree_of k) bits 0;
}

-- a formula states a query about a task; the budget is no matter
abbrev pub StatesQuery : Task → List Case → Query → ℕ → List Clause → Type 0
StatesQuery k kept q vars clauses =
    (budget : ℕ) → States (space k budget) (coding k) kept (question_of q) vars clauses
