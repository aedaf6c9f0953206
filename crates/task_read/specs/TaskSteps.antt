-- The task that four texts spell, or their first refusal.
use Rattle.std.specs.Prelude.{◌≡◌, ℕ, List, None}
use Rattle.mpy_tree.specs.declared.refusal.Cause.{Cause}
use Rattle.mpy_tree.specs.declared.refusal.Cause.TheVariants as cause
use Rattle.mpy_tree.specs.declared.refusal.Refusal.{Refusal}
use Rattle.mpy_tree.specs.declared.refusal.Source.TheVariants as source
use Rattle.bounds_reader.specs.declared.bounds.Bounds.{Bounds}
use Rattle.choice_tree.specs.Templates.{Correction}
use Rattle.eml_faults.specs.LimitFaults.{limit_fault}
use Rattle.eml_faults.specs.MeaningFaults.{meaning_fault}
use Rattle.input_space.specs.ProperRules.{AreProperRules}
use Rattle.input_space.specs.Tasks.{IsReady, IsTooLarge, Task, entry_line, result_type}
use Rattle.input_space.specs.Tasks.{entry_at}
use Rattle.task_read.specs.Sources.{Typed, bounds_step, program_step, refusal}
use Rattle.task_read.specs.Sources.{rules_step}
use Rattle.task_read.specs.Steps.{Step, ◌>>=◌, done, refuse_if}

-- the task of bounds, of a reference and a submission, and of rules
abbrev pub task : Bounds → Typed → Typed → List Correction → Task
task b r s rules = record {
  bounds = b;
  reference = r.program;
  reference_types = r.types;
  submission = s.program;
  submission_types = s.types;
  rules = rules;
}

-- the bounds, the reference, the submission and the rules, each by itself
abbrev pub parts_step : List ℕ → List ℕ → List ℕ → List ℕ → Step Task
parts_step bounds reference submission rules = do
  b ← bounds_step bounds
  r ← program_step source.Reference reference (entry_at b)
  s ← program_step source.Submission submission (entry_at b)
  e ← rules_step rules
  done (task b r s e)

-- both entries give results of one type
abbrev pub GiveOneType : Task → Type 0
GiveOneType k =
    result_type k.bounds k.reference k.reference_types
    ≡ result_type k.bounds k.submission k.submission_types

-- a refusal of the submission, at the line of its entry
abbrev pub at_entry : Cause → Task → Refusal
at_entry c k = refusal source.Submission c (entry_line k.bounds k.submission)

-- the task of sources whose entries give one type, and that isn't too large
abbrev pub task_step : List ℕ → List ℕ → List ℕ → List ℕ → Step Task
task_step bounds reference submission rules = do
  k ← parts_step bounds reference submission rules
  same ← refuse_if (GiveOneType k → ⊥) (at_entry cause.ResultType k)
  small ← refuse_if (IsTooLarge k) (at_entry cause.TooLarge k)
  done k

-- what holds of sources that were read, each by itself
pub record AreReady (k : Task) : Type 0 where
  pub reference : IsReady k.bounds k.reference k.reference_types
  pub submission : IsReady k.bounds k.submission k.submission_types
  pub proper_rules : AreProperRules k.rules
  pub no_limit_fault : limit_fault k.rules ≡ None
  pub no_meaning_fault : meaning_fault k.rules ≡ None
