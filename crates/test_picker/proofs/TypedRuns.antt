-- The weighted tree of a typed program is typed, and its ends have the form of what it gives.
use Rattle.std.proofs.Common.{◌≡◌, ◌∙◌, [], map, sym, refl}
use Rattle.std.proofs.lemmas.List.Elements.{All-nil}
use Rattle.mpy_tree.specs.Shapes.{program_shape}
use Rattle.bounds_reader.specs.declared.bounds.Bounds.{Bounds}
use Rattle.choice_tree.specs.declared.tree.WProg.{WProg}
use Rattle.choice_tree.specs.StatementViews.{weighted_prog}
use Rattle.choice_tree.specs.WeightedTrees.{base_of, lifted}
use Rattle.typed_programs.proofs.TypingFacts.{are_types}
use Rattle.typed_trees.specs.Wholes.{IsWholeSide}
use Rattle.input_space.specs.Inputs.{param_type}
use Rattle.input_space.specs.Tasks.{Task, entry_at}
use Rattle.sym_values.specs.declared.done.SymDone.{SymDone}
use Rattle.sym_values.specs.Printed.{IsDoneIn}
use Rattle.sym_stmt.specs.Programs.{TypesProgram, end_form, entry_within}
use Rattle.sym_stmt.proofs.Rewritten.{rewritten_typed}
use Rattle.task_bits.proofs.Typed.{end_of}
use Rattle.task_bits.proofs.Written.{without_rules}
use Rattle.test_picker.specs.declared.typed_list.Typed.{Typed}
use Rattle.test_picker.specs.LaneInputs.{IsEndIn}
use Rattle.test_picker.specs.Programs.{IsTypedFor, program_of}

pub program_typed : (b : Bounds) (t : Typed) (w : WProg) → IsTypedFor b t
    → weighted_prog w ≡ lifted (program_shape (program_of t))
    → TypesProgram t.types.facts w (entry_within b.limits b.entry (map param_type b.params))
program_typed b t w typing e =
    rewritten_typed [] t.types.facts (program_of t) (entry_at b) w
    (All-nil (λ r. IsWholeSide r.right))
    (are_types t.types.facts (program_of t) (entry_at b) typing)
    (e ∙ sym (without_rules (program_of t) t.types.facts))

-- a task of a program alone
abbrev alone : Bounds → Typed → Task
alone b t = record {
  bounds = b;
  reference = program_of t;
  reference_types = t.types.facts;
  submission = program_of t;
  submission_types = t.types.facts;
  rules = [];
}

pub end_in : {S B : Type 0} {owns : S → B → Type 0} {s : S} (b : Bounds) (t : Typed) (w : WProg)
    (d : SymDone B) → program_shape (program_of t) ≡ base_of (weighted_prog w)
    → IsDoneIn owns s b.limits (end_form b.limits w t.types.facts b.entry) d → IsEndIn owns s b t d
end_in b t w d shape made = end_of (alone b t) t.types.facts (program_of t) w d refl shape made
