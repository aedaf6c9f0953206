-- What the texts of `pick` decide.
use Rattle.std.specs.Prelude.{◌≡◌, ℕ, suc, List, [], ◌∷◌, map}
use Rattle.mpy_tree.specs.Entries.{Entry}
use Rattle.mpy_tree.specs.declared.refusal.Cause.{Cause}
use Rattle.mpy_tree.specs.declared.refusal.Cause.TheVariants as cause
use Rattle.mpy_tree.specs.declared.refusal.Refusal.{Refusal}
use Rattle.mpy_tree.specs.declared.refusal.Source.TheVariants as source
use Rattle.mpy_tree.specs.declared.value.Value.{Value}
use Rattle.bounds_reader.specs.declared.bounds.Bounds.{Bounds}
use Rattle.input_space.specs.Agreement.{EndsSomewhere}
use Rattle.input_space.specs.Tasks.{entry_at, entry_line, result_type}
use Rattle.task_read.specs.Sources.{Typed, bounds_step, program_step, refusal}
use Rattle.task_read.specs.Steps.{Step, ◌>>=◌, done, refuse_if}
use Rattle.test_picker.specs.Choosing.{IsChoice}
use Rattle.pick_command.specs.Weights.{AreTooLarge}

-- what is asked: the bounds, the reference, and the submissions
pub record Request : Type 0 where
  pub bounds : Bounds
  pub reference : Typed
  pub submissions : List Typed

-- a submission is named by the place of its word, of which the first is the third
abbrev pub first_place : ℕ
first_place = 3

-- the submissions, from the one of a place on, one after the other
abbrev pub programs_step : ℕ → List (List ℕ) → Entry → Step (List Typed)
programs_step n [] e = done []
programs_step n (text ∷ texts) e = do
  p ← program_step (source.Word n) text e
  ps ← programs_step (suc n) texts e
  done (p ∷ ps)

-- the entries of two programs give results of one type
abbrev pub GiveOneType : Bounds → Typed → Typed → Type 0
GiveOneType b r p = result_type b p.program p.types ≡ result_type b r.program r.types

-- each submission gives results of the reference's type
abbrev pub types_step : Bounds → Typed → ℕ → List Typed → Step Unit
types_step b r n [] = done tt
types_step b r n (p ∷ ps) = do
  same ← refuse_if (GiveOneType b r p → ⊥)
      (refusal (source.Word n) cause.ResultType (entry_line b p.program))
  types_step b r (suc n) ps

abbrev pub never : Step Request
never = record { gives = λ k. ⊥; refuses = λ r. ⊥ }

-- the programs of the texts, each by itself
abbrev pub parts_step : List (List ℕ) → Step Request
parts_step (bounds ∷ reference ∷ submissions) = do
  b ← bounds_step bounds
  r ← program_step source.Reference reference (entry_at b)
  ps ← programs_step first_place submissions (entry_at b)
  done (record { bounds = b; reference = r; submissions = ps })
parts_step (bounds ∷ []) = never
parts_step [] = never

-- a refusal of the reference, at the line of its entry
abbrev pub at_reference : Cause → Request → Refusal
at_reference c k = refusal source.Reference c (entry_line k.bounds k.reference.program)

-- the request of texts whose programs give one type and aren't too large
abbrev pub request_step : List (List ℕ) → Step Request
request_step texts = do
  k ← parts_step texts
  same ← types_step k.bounds k.reference first_place k.submissions
  small ← refuse_if (AreTooLarge k.bounds (k.reference ∷ k.submissions))
      (at_reference cause.TooLarge k)
  done k

-- and of which the reference ends on some input
abbrev pub pick_step : List (List ℕ) → Step Request
pick_step texts = do
  k ← request_step texts
  ends ← refuse_if (EndsSomewhere k.bounds k.reference.program → ⊥)
      (at_reference cause.EmptyReference k)
  done k

-- an answer: the name of the function, the cases, and the marks of the submissions
pub record PickAnswer : Type 0 where
  pub entry : List ℕ
  pub cases : List (List Value)
  pub marks : List ℕ

-- the cases and marks are those that the submissions choose
pub record IsAnswerTo (k : Request) (a : PickAnswer) : Type 0 where
  pub entry : a.entry ≡ k.bounds.entry
  pub chosen : IsChoice k.bounds k.reference.program (map (λ p. p.program) k.submissions) a.cases
      a.marks

-- the texts are those of a request, and this is the answer to it
pub record IsPickedFor (texts : List (List ℕ)) (a : PickAnswer) : Type 0 where
  pub request : Request
  pub read : (pick_step texts).gives request
  pub answers : IsAnswerTo request a
