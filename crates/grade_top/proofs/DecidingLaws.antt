-- What the texts of `run` decide, step after step.
use Rattle.std.proofs.Common.{◌≡◌, ◌≢◌, ℕ, List, [], ◌∷◌, length, subst, refl, inl, inr}
use Rattle.mpy_tree.specs.declared.refusal.Cause.TheVariants as cause
use Rattle.mpy_tree.specs.declared.refusal.Source.TheVariants as source
use Rattle.mpy_tree.specs.declared.refusal.Refusal.{Refusal}
use Rattle.mpy_tree.specs.declared.value.Value.{Value}
use Rattle.mpy_tree.specs.Outcomes.{run_outcome}
use Rattle.bounds_reader.specs.declared.bounds.Bounds.{Bounds}
use Rattle.bounds_reader.specs.Files.{IsBounds}
use Rattle.input_space.specs.Tasks.{entry_at}
use Rattle.task_read.specs.Sources.{Typed, program_step, refusal}
use Rattle.grade_top.specs.Decisions.{run_step, values_step}
use Rattle.grade_top.specs.Words.{RunWords}

-- what a run reads: bounds, and a program
pub record ReadRun (a b : List ℕ) (x : Bounds) (p : Typed) : Type 0 where
  pub bounds : IsBounds a x
  pub program : (program_step source.Reference b (entry_at x)).gives p

pub at_program : (w : RunWords) (ts : List (List ℕ)) (a b : List ℕ) (x : Bounds) → a ∷ b ∷ [] ≡ ts → IsBounds a x
    → (q : Refusal) → (program_step source.Reference b (entry_at x)).refuses q → (run_step w ts).refuses q
at_program w ts a b x is read q h = subst (λ us. (run_step w us).refuses q) is (inr (record { first = x; given = read; second = inl h }))

pub at_count : (w : RunWords) (ts : List (List ℕ)) (a b : List ℕ) (x : Bounds) (p : Typed) → a ∷ b ∷ [] ≡ ts → ReadRun a b x p
    → length w.values ≢ length x.params → (run_step w ts).refuses (refusal source.Bounds cause.Entry x.entry_line)
at_count w ts a b x p is read differ = subst (λ us. (run_step w us).refuses (refusal source.Bounds cause.Entry x.entry_line)) is
    (inr (record {
      first = x;
      given = read.bounds;
      second =
          inr (record { first = p; given = read.program; second = inl (differ, refl) });
    }))

pub at_values : (w : RunWords) (ts : List (List ℕ)) (a b : List ℕ) (x : Bounds) (p : Typed) → a ∷ b ∷ [] ≡ ts → ReadRun a b x p
    → length w.values ≡ length x.params → (q : Refusal) → (values_step 1 x.params w.values).refuses q → (run_step w ts).refuses q
at_values w ts a b x p is read same q h = subst (λ us. (run_step w us).refuses q) is
    (inr (record {
      first = x;
      given = read.bounds;
      second =
          inr (record {
            first = p;
            given = read.program;
            second =
                inr (record { first = tt; given = λ differ. differ same; second = inl h });
          });
    }))

pub run_given : (w : RunWords) (ts : List (List ℕ)) (a b : List ℕ) (x : Bounds) (p : Typed) (vs : List Value) → a ∷ b ∷ [] ≡ ts → ReadRun a b x p
    → length w.values ≡ length x.params → (values_step 1 x.params w.values).gives vs → (run_step w ts).gives (run_outcome x.limits p.program x.entry vs)
run_given w ts a b x p vs is read same values = subst (λ us. (run_step w us).gives (run_outcome x.limits p.program x.entry vs)) is
    (record {
      first = x;
      given = read.bounds;
      second =
          record {
            first = p;
            given = read.program;
            second =
                record {
                  first = tt;
                  given = λ differ. differ same;
                  second =
                      record { first = vs; given = values; second = refl };
                };
          };
    })
