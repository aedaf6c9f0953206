-- From what is found and chosen to what is answered.
use Rattle.std.proofs.Common.{◌≡◌, ◌∙◌, ℕ, true, false, List, subst, sym}
use Rattle.mpy_tree.specs.declared.value.Value.{Value}
use Rattle.bounds_reader.specs.declared.bounds.Bounds.{Bounds}
use Rattle.input_space.specs.Agreement.{EndsSomewhere}
use Rattle.input_space.specs.Inputs.{inputs}
use Rattle.test_picker.specs.declared.program.Program.{Program}
use Rattle.test_picker.specs.declared.search.Found.{Found}
use Rattle.test_picker.specs.declared.typed_list.Typed.{Typed}
use Rattle.test_picker.specs.Choosing.{IsChoice}
use Rattle.test_picker.specs.Findings.{IsFoundOn}
use Rattle.test_picker.specs.Programs.{program_of, programs_of}
use Rattle.test_picker.specs.Settings.{routines_in, typed_in}
use Rattle.test_picker.proofs.LaneFacts.{nowhere, somewhere}

module _ (b : Bounds) (r other : Typed) (same : other ≡ r) (qs : List Program) (others : List Typed)
    (typed : typed_in qs ≡ others) (f : Found)
    (found : IsFoundOn b (program_of other) (routines_in qs) (inputs b.params) f) where
  pub ends_there : f.ended ≡ true → EndsSomewhere b (program_of r)
  ends_there e = subst (λ (t : Typed). EndsSomewhere b (program_of t)) same
      (somewhere b (program_of other) (sym found.ended ∙ e))

  pub ends_nowhere : f.ended ≡ false → EndsSomewhere b (program_of r) → ⊥
  ends_nowhere e ends =
      nowhere b (program_of other) (sym found.ended ∙ e)
      (subst (λ (t : Typed). EndsSomewhere b (program_of t)) (sym same) ends)

  pub choice_of : (cases : List (List Value)) (marks : List ℕ)
      → IsChoice b (program_of other) (routines_in qs) cases marks
      → IsChoice b (program_of r) (programs_of others) cases marks
  choice_of cases marks choice =
      subst (λ (t : Typed). IsChoice b (program_of t) (programs_of others) cases marks) same
      (subst (λ (ts : List Typed). IsChoice b (program_of other) (programs_of ts) cases marks) typed choice)
