-- The goals of questions that look for an input.
use Rattle.std.proofs.Common.{◌≡◌, ◌↔◌, ℕ, Bool, true, false, ◌&&◌, List, map, refl, sym, ap, ◌∙◌}
use Rattle.std.proofs.Common.{Option, Some, None}
use Rattle.std.specs.Prelude.{IsSomeAnd, option_map}
use Rattle.std.specs.List.{Contains}
use Rattle.std.specs.Option.{option_map_or}
use Rattle.std.proofs.lemmas.Bool.{true≢false}
use Rattle.mpy_tree.specs.declared.value.Value.{Value}
use Rattle.mpy_tree.specs.Shapes.{program_shape}
use Rattle.mpy_tree.specs.Syntax.{Routine}
use Rattle.choice_tree.specs.declared.selection.Choice.{Choice}
use Rattle.choice_tree.specs.Choices.{member_of}
use Rattle.choice_tree.specs.Selections.{plain}
use Rattle.cegis_loop.specs.Space.{IsFail, IsInput as IsWantedIn}
use Rattle.input_space.specs.declared.case.Case.{Case}
use Rattle.input_space.specs.Agreement.{IsInput}
use Rattle.input_space.specs.Inputs.{are_within, inputs}
use Rattle.input_space.specs.TaskCoding.{case_in}
use Rattle.input_space.specs.Tasks.{Task, tree_of}
use Rattle.input_space.specs.TaskSpace.{case_of, is_wanted, space, wanted_inputs}
use Rattle.input_space.proofs.Members.{are_within-input, input-are_within}
use Rattle.input_space.proofs.Elements.{contained_if, map_contains}
use Rattle.input_space.proofs.TaskSpaceLaws.{wanted_is_input, was_wanted}
use Rattle.query_build.specs.Comparing.{is_asked_for}
use Rattle.query_build.specs.Inputs.{spells_input, values_in}
use Rattle.query_build.proofs.Agreeing.{fails_so}

-- what is looked for are inputs, and of these those for which a test holds
pub record IsSought (k : Task) (test : List Value → Bool) (Sought : Case → Type 0) : Type 0 where
  pub input : (x : Case) → Sought x → IsInput k.bounds x.values
  pub yes : (xs : List Value) → IsInput k.bounds xs → test xs ≡ true → Sought (case_of xs)
  pub back : (xs : List Value) → IsInput k.bounds xs → Sought (case_of xs) → test xs ≡ true

module _ (k : Task) (test : List Value → Bool) (Sought : Case → Type 0)
    (sought : IsSought k test Sought) where
  ranged : (xs : List Value) (b within asked r : Bool) → are_within k.bounds.params xs ≡ b
      → within ≡ b → (b ≡ true → asked ≡ test xs) → r ≡ (within && asked)
      → (r ≡ true) ↔ Sought (case_of xs)
  ranged xs true within asked r in_range w a e =
      let input = input-are_within k.bounds.params xs in_range in
      let is : r ≡ test xs = e ∙ ap (λ b. b && asked) w ∙ a refl in
      (λ h. sought.yes xs input (sym is ∙ h), λ h. is ∙ sought.back xs input h)
  ranged xs false within asked r in_range w a e =
      let none : r ≡ false = e ∙ ap (λ b. b && asked) w in (
        λ h. absurd (true≢false (sym h ∙ none)),
        λ h. absurd (true≢false (sym (are_within-input k.bounds.params xs
            (sought.input (case_of xs) h)) ∙ in_range)),
      )

  by_values : (o : Option (List Value)) (within asked r : Bool)
      → within ≡ option_map_or (are_within k.bounds.params) o false
      → ((xs : List Value) → o ≡ Some xs → are_within k.bounds.params xs ≡ true
      → asked ≡ test xs)
      → r ≡ (within && asked)
      → (r ≡ true) ↔ IsSomeAnd (option_map case_of o) Sought
  by_values None within asked r w a e =
      let none : r ≡ false = e ∙ ap (λ b. b && asked) w in
      (λ h. absurd (true≢false (sym h ∙ none)), λ h. absurd h)
  by_values (Some xs) within asked r w a e =
      ranged xs (are_within k.bounds.params xs) within asked r refl w (λ h. a xs refl h) e

  -- the goal is true exactly where truth values spell what is looked for
  pub input_goal : (vs : List Bool) (within asked r : Bool) → within ≡ spells_input k.bounds vs
      → ((xs : List Value) → values_in k.bounds vs ≡ Some xs
      → are_within k.bounds.params xs ≡ true → asked ≡ test xs)
      → r ≡ (within && asked) → (r ≡ true) ↔ IsSomeAnd (case_in k vs) Sought
  input_goal vs within asked r w a e = by_values (values_in k.bounds vs) within asked r w a e

input_wanted : (k : Task) (vs : List Value) → IsInput k.bounds vs
    → is_wanted k (case_of vs) ≡ true → Contains (wanted_inputs k) (case_of vs)
input_wanted k vs input done =
    contained_if (is_wanted k) (map case_of (inputs k.bounds.params)) (case_of vs)
    (map_contains case_of (inputs k.bounds.params) vs input) done

-- inputs on which the reference gives a value
pub first_sought : (k : Task) (budget : ℕ)
    → IsSought k (is_asked_for k None) (IsWantedIn (space k budget))
first_sought k budget = record {
  input = λ x c. wanted_is_input k x c;
  yes = λ xs input done. input_wanted k xs input done;
  back = λ xs input c. was_wanted k (case_of xs) c;
}

-- those on which the program of a selection doesn't give it
pub fail_sought : (k : Task) (budget : ℕ) (s : List Choice) (p : List Routine)
    → program_shape p ≡ plain (member_of s) (tree_of k)
    → IsSought k (is_asked_for k (Some p)) (IsFail (space k budget) s)
fail_sought k budget s p made = record {
  input = λ x f. wanted_is_input k x f.input;
  yes = λ xs input h.
      let found = (fails_so k s p (case_of xs) made).0 h in
      record { input = input_wanted k xs input found.0; fails = found.1 };
  back = λ xs input f.
      (fails_so k s p (case_of xs) made).1 (was_wanted k (case_of xs) f.input) f.fails;
}
