-- What a program adds to the cases, and its mark.
use Rattle.std.proofs.Common.{◌≡◌, ◌∙◌, ℕ, suc, ◌+◌, List, [], ◌∷◌, ◌++◌, Some, sym, ap, subst, arith, length, take, length-append}
use Rattle.std.specs.Prelude.{All, slice_get}
use Rattle.std.proofs.lemmas.List.{length-map, map_push}
use Rattle.std.proofs.lemmas.List.Elements.{All-contains}
use Rattle.mpy_tree.specs.declared.value.Value.{Value}
use Rattle.mpy_tree.specs.Syntax.{Routine}
use Rattle.bounds_reader.specs.declared.bounds.Bounds.{Bounds}
use Rattle.input_space.specs.declared.case.Case.{Case}
use Rattle.input_space.specs.Agreement.{EndsAlike}
use Rattle.input_space.specs.Inputs.{inputs}
use Rattle.sym_values.proofs.Held.{take_read}
use Rattle.test_picker.specs.Choosing.{Adds, agrees, by_case, by_input, Chooses, none}
use Rattle.test_picker.specs.Failing.{FailsFirstAt}
use Rattle.test_picker.specs.Programs.{inputs_of}
use Rattle.test_picker.proofs.Choices.{chooses_more}

module _ (b : Bounds) (r p : List Routine) where
  pub agreed : (cs : List (List Value)) → All (EndsAlike b r p) (inputs b.params)
      → Adds b r p cs cs 0
  agreed cs all = agrees (λ vs is. All-contains (EndsAlike b r p) (inputs b.params) vs all is)

  pub known_case : (cs : List (List Value)) (place n : ℕ) → n ≡ place + 1
      → FailsFirstAt b r p cs place → Adds b r p cs cs n
  known_case cs place n e first =
      let same : suc place ≡ n = omega (arith, e) in
      subst (λ m. Adds b r p cs cs m) same (by_case place first)

  pub new_case : (cs new : List Case) (c : Case) (place n : ℕ) → All (EndsAlike b r p) (inputs_of cs)
      → FailsFirstAt b r p (inputs b.params) place → slice_get (inputs b.params) place ≡ Some c.values
      → new ≡ cs ++ c ∷ [] → n ≡ length new → Adds b r p (inputs_of cs) (inputs_of new) n
  new_case cs new c place n all first at is count =
      let next : inputs_of new ≡ inputs_of cs ++ c.values ∷ [] =
      ap inputs_of is ∙ map_push (λ (d : Case). d.values) cs c in
      let many : length (inputs_of cs) ≡ length cs = length-map cs (λ (d : Case). d.values) in
      let long : length new ≡ length cs + 1 = ap length is ∙ length-append cs (c ∷ []) in
      let same : suc (length (inputs_of cs)) ≡ n = omega (arith, many, long, count) in
      subst (λ m. Adds b r p (inputs_of cs) (inputs_of new) m) same
      (subst (λ xs. Adds b r p (inputs_of cs) xs (suc (length (inputs_of cs)))) (sym next)
      (by_input place c.values all first at))

pub no_programs : (b : Bounds) (r : List Routine) (ps : List (List Routine)) → Chooses b r [] (take 0 ps) [] []
no_programs b r [] = none []
no_programs b r (p ∷ ps) = none []

-- one program more
pub program_more : (b : Bounds) (r : List Routine) (ps : List (List Routine)) (i : ℕ) (p : List Routine)
    (end next : List (List Value)) (ms new : List ℕ) (m : ℕ) → slice_get ps i ≡ Some p
    → Chooses b r [] (take i ps) end ms → Adds b r p end next m → new ≡ ms ++ m ∷ []
    → Chooses b r [] (take (i + 1) ps) next new
program_more b r ps i p end next ms new m at before adds is =
    subst (λ qs. Chooses b r [] qs next new) (sym (take_read ps i p at))
    (subst (λ ns. Chooses b r [] (take i ps ++ p ∷ []) next ns) (sym is)
    (chooses_more b r [] (take i ps) end next ms p m before adds))
