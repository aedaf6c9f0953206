-- The steps that read the sources of a task, each by itself.
use Rattle.std.specs.Prelude.{◌≡◌, ℕ, List}
use Rattle.mpy_tree.specs.declared.refusal.Cause.{Cause}
use Rattle.mpy_tree.specs.declared.refusal.Source.{Source}
use Rattle.mpy_tree.specs.declared.refusal.Source.TheVariants as source
use Rattle.mpy_tree.specs.declared.refusal.Refusal.{Refusal}
use Rattle.mpy_tree.specs.declared.typing.Fact.{Fact}
use Rattle.mpy_tree.specs.Entries.{Entry}
use Rattle.mpy_tree.specs.Syntax.{Routine}
use Rattle.bounds_reader.specs.declared.bounds.Bounds.{Bounds}
use Rattle.bounds_reader.specs.Files.{IsBounds, IsRefused as IsBoundsRefused}
use Rattle.choice_tree.specs.Templates.{Correction}
use Rattle.eml_reader.specs.RuleFiles.{IsRules, IsRefused as IsRulesRefused}
use Rattle.task_read.specs.Steps.{Step}
use Rattle.task_read.specs.TypedPrograms.{IsTypedProgram, IsProgramRefused}

abbrev pub refusal : Source → Cause → ℕ → Refusal
refusal s cause line = record { source = s; cause = cause; line = line }

-- a source is refused for a cause and at a line of which P holds
abbrev pub IsOf : Source → (Cause → ℕ → Type 0) → Refusal → Type 0
IsOf s P r = (r.source ≡ s) × P r.cause r.line

-- the bounds
abbrev pub bounds_step : List ℕ → Step Bounds
bounds_step text = record {
  gives = IsBounds text;
  refuses = IsOf source.Bounds (IsBoundsRefused text);
}

-- a program, and the types of its names and results
pub record Typed : Type 0 where
  pub program : List Routine
  pub types : List Fact

-- a program read for an entry
abbrev pub program_step : Source → List ℕ → Entry → Step Typed
program_step s text e = record {
  gives = λ p. IsTypedProgram text e p.program p.types;
  refuses = IsOf s (IsProgramRefused text e);
}

-- the rules
abbrev pub rules_step : List ℕ → Step (List Correction)
rules_step text = record {
  gives = IsRules text;
  refuses = IsOf source.Rules (IsRulesRefused text);
}
