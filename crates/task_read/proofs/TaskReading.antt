-- A task of four texts, read step after step: where a step refuses, and what all of them give.
use Rattle.std.proofs.Common.{ℕ, List, refl, inl, inr}
use Rattle.mpy_tree.specs.declared.refusal.Cause.TheVariants as cause
use Rattle.mpy_tree.specs.declared.refusal.Source.TheVariants as source
use Rattle.mpy_tree.specs.declared.refusal.Refusal.{Refusal}
use Rattle.mpy_tree.specs.declared.tree.Prog.{Prog}
use Rattle.mpy_tree.specs.declared.typing.Types.{Types}
use Rattle.mpy_tree.specs.View.{routines_of}
use Rattle.bounds_reader.specs.declared.bounds.Bounds.{Bounds}
use Rattle.bounds_reader.specs.Files.{IsBounds}
use Rattle.choice_tree.specs.Templates.{Correction}
use Rattle.eml_reader.specs.RuleFiles.{IsRules}
use Rattle.input_space.specs.Tasks.{IsTooLarge, Task}
use Rattle.input_space.specs.Tasks.{entry_at}
use Rattle.task_read.specs.Sources.{Typed, program_step, rules_step}
use Rattle.task_read.specs.Steps.{refuse_if}
use Rattle.task_read.specs.TaskSteps.{GiveOneType, at_entry, parts_step, task, task_step}
use Rattle.task_read.specs.TypedPrograms.{IsTypedProgram}

-- THE PARTS

abbrev pub typed : Prog → Types → Typed
typed p t = record { program = routines_of p; types = t.facts }

pub at_reference : (a b c d : List ℕ) (x : Bounds) → IsBounds a x → (q : Refusal) → (program_step source.Reference b (entry_at x)).refuses q
    → (parts_step a b c d).refuses q
at_reference a b c d x read q h = inr (record { first = x; given = read; second = inl h })

pub at_submission : (a b c d : List ℕ) (x : Bounds) (r : Typed) → IsBounds a x → IsTypedProgram b (entry_at x) r.program r.types
    → (q : Refusal) → (program_step source.Submission c (entry_at x)).refuses q → (parts_step a b c d).refuses q
at_submission a b c d x r read first q h =
    inr (record { first = x; given = read; second = inr (record { first = r; given = first; second = inl h }) })

pub at_rules : (a b c d : List ℕ) (x : Bounds) (r s : Typed) → IsBounds a x → IsTypedProgram b (entry_at x) r.program r.types
    → IsTypedProgram c (entry_at x) s.program s.types → (q : Refusal) → (rules_step d).refuses q → (parts_step a b c d).refuses q
at_rules a b c d x r s read first second q h =
    inr (record {
      first = x;
      given = read;
      second =
          inr (record {
            first = r;
            given = first;
            second =
                inr (record { first = s; given = second; second = inl h });
          });
    })

pub parts_given : (a b c d : List ℕ) (x : Bounds) (r s : Typed) (e : List Correction) → IsBounds a x → IsTypedProgram b (entry_at x) r.program r.types
    → IsTypedProgram c (entry_at x) s.program s.types → IsRules d e → (parts_step a b c d).gives (task x r s e)
parts_given a b c d x r s e read first second rules = record {
  first = x;
  given = read;
  second =
      record {
        first = r;
        given = first;
        second =
            record {
              first = s;
              given = second;
              second =
                  record { first = e; given = rules; second = refl };
            };
      };
}

-- THE TASK

pub at_results : (a b c d : List ℕ) (k : Task) → (parts_step a b c d).gives k → (q : Refusal) → (refuse_if (GiveOneType k → ⊥) (at_entry cause.ResultType k)).refuses q
    → (task_step a b c d).refuses q
at_results a b c d k read q h = inr (record { first = k; given = read; second = inl h })

pub at_size : (a b c d : List ℕ) (k : Task) → (parts_step a b c d).gives k → GiveOneType k → (q : Refusal) → (refuse_if (IsTooLarge k) (at_entry cause.TooLarge k)).refuses q
    → (task_step a b c d).refuses q
at_size a b c d k read same q h =
    inr (record { first = k; given = read; second = inr (record { first = tt; given = λ differ. differ same; second = inl h }) })

pub task_given : (a b c d : List ℕ) (k : Task) → (parts_step a b c d).gives k → GiveOneType k → (IsTooLarge k → ⊥) → (task_step a b c d).gives k
task_given a b c d k read same small = record {
  first = k;
  given = read;
  second =
      record {
        first = tt;
        given = λ differ. differ same;
        second =
            record { first = tt; given = small; second = refl };
      };
}
