-- What is decided for the texts of `run`, and the texts of a sample.
use Rattle.std.specs.Prelude.{◌≡◌, ◌≢◌, ℕ, suc, List, [], ◌∷◌, length, false}
use Rattle.mpy_tree.specs.declared.outcome.Outcome as run
use Rattle.mpy_tree.specs.declared.refusal.Cause.TheVariants as cause
use Rattle.mpy_tree.specs.declared.refusal.Source.TheVariants as source
use Rattle.mpy_tree.specs.declared.value.Value.{Value}
use Rattle.mpy_tree.specs.Fitting.{type_of}
use Rattle.mpy_tree.specs.Outcomes.{run_outcome}
use Rattle.bounds_reader.specs.declared.params.Param.{Param}
use Rattle.input_space.specs.Cases.{SpellsCase}
use Rattle.input_space.specs.Inputs.{param_type, is_within}
use Rattle.input_space.specs.Tasks.{entry_at}
use Rattle.task_read.specs.Sources.{bounds_step, program_step, refusal}
use Rattle.sample_maker.specs.Samples.{bounds_text, reference_text, rules_text}
use Rattle.sample_maker.specs.Samples.{submission_text}
use Rattle.task_read.specs.Steps.{Step, ◌>>=◌, done, refuse_if}
use Rattle.grade_core.specs.Decisions.{never}
use Rattle.grade_top.specs.Words.{RunWords}

-- the four texts of a number
abbrev pub sample_texts : ℕ → List (List ℕ)
sample_texts n = bounds_text ∷ reference_text n ∷ submission_text n ∷ rules_text ∷ []

-- the value that a word spells
abbrev pub spelled_step : ℕ → List ℕ → Step Value
spelled_step n word = record {
  gives = λ v. SpellsCase word (v ∷ []);
  refuses = λ r.
      ((v : Value) → SpellsCase word (v ∷ []) → ⊥)
      × (r ≡ refusal (source.Word n) cause.Syntax 0);
}

-- the n-th value, for a parameter
abbrev pub value_step : ℕ → Param → List ℕ → Step Value
value_step n p word = do
  v ← spelled_step n word
  t ← refuse_if (type_of v ≢ param_type p) (refusal (source.Word n) cause.TypeFault 0)
  r ← refuse_if (is_within p v ≡ false) (refusal (source.Word n) cause.BoundRange 0)
  done v

-- the values from the n-th on, one after the other
abbrev pub values_step : ℕ → List Param → List (List ℕ) → Step (List Value)
values_step n (p ∷ ps) (w ∷ ws) = do
  v ← value_step n p w
  vs ← values_step (suc n) ps ws
  done (v ∷ vs)
values_step n _ _ = done []

-- how the program of the texts ends on the values
abbrev pub run_step : RunWords → List (List ℕ) → Step run.Outcome
run_step w (bounds ∷ program ∷ []) = do
  b ← bounds_step bounds
  p ← program_step source.Reference program (entry_at b)
  n ← refuse_if (length w.values ≢ length b.params)
      (refusal source.Bounds cause.Entry b.entry_line)
  vs ← values_step 1 b.params w.values
  done (run_outcome b.limits p.program b.entry vs)
run_step w _ = never
