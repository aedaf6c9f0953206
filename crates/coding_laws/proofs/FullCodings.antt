-- Each wanted input of a task has truth values, and each selection those of one like it.
use Rattle.std.proofs.Common.{◌≡◌, ℕ, ◌==◌, Bool, true, false, List, [], ◌∷◌, map, refl}
use Rattle.std.proofs.Common.{sym, ap, ◌∙◌, ◌≤◌, subst}
use Rattle.std.specs.Prelude.{All, nat_le, option_map}
use Rattle.std.specs.List.{Contains, flat_map, list_all, list_any}
use Rattle.std.proofs.lemmas.Bool.{le-leb}
use Rattle.std.proofs.lemmas.Bool.Decides.{Decides-eqb}
use Rattle.std.proofs.lemmas.List.Elements.{All-head, All-tail}
use Rattle.mpy_tree.specs.declared.value.Value.{Value}
use Rattle.mpy_tree.specs.declared.value.Value.TheVariants as value
use Rattle.mpy_tree.specs.Fitting.{all_fit_as}
use Rattle.mpy_tree.specs.Printable.{ArePrintable}
use Rattle.mpy_tree.specs.Shapes.{program_shape}
use Rattle.choice_tree.specs.declared.selection.Choice.{Choice}
use Rattle.choice_tree.specs.Contexts.{elsewhere, outermost}
use Rattle.choice_tree.specs.Growing.{grown, steps}
use Rattle.choice_tree.specs.Selections.{Fits}
use Rattle.choice_tree.specs.WeightedTrees.{Weighted}
use Rattle.bounds_reader.specs.declared.params.Param.{Param}
use Rattle.bounds_reader.specs.declared.params.Param.TheVariants as param
use Rattle.input_space.specs.declared.case.Case.{Case}
use Rattle.input_space.specs.Inputs.{are_within, has_length, is_within, param_type}
use Rattle.input_space.specs.Statements.{IsFull, SpellsChoice, SpellsInput}
use Rattle.input_space.specs.TaskCoding.{coding}
use Rattle.input_space.specs.Tasks.{Task, setting, tree_of}
use Rattle.input_space.specs.TaskSpace.{case_of, space, wanted_inputs}
use Rattle.input_space.proofs.Fitting.{within_fit}
use Rattle.input_space.proofs.Members.{are_within-input}
use Rattle.input_space.proofs.Membership.{both, two}
use Rattle.input_space.proofs.TaskSpaceLaws.{wanted_is_input}
use Rattle.coding_laws.specs.Alphabets.{HasPrintable, IsPrintable}
use Rattle.coding_laws.proofs.Standing.{whole_stands}
use Rattle.coding_laws.proofs.SpelledSelections.{selection_spelled}
use Rattle.coding_laws.proofs.SpelledValues.{is_printable, is_spelled, length-all_spelled, spelled}
use Rattle.coding_laws.proofs.SpelledValues.{values_stand}

-- CHARACTERS WITHIN AN ALPHABET

abbrev is_in : List ℕ → ℕ → Bool
is_in alphabet c = list_any (λ d. d == c) alphabet

character_within : (alphabet : List ℕ) (c : ℕ) → is_in alphabet c ≡ true → ArePrintable alphabet
    → is_printable c ≡ true
character_within [] c h p = absurd cc
character_within (d ∷ ds) c h p = by (d == c) refl (character_within ds c)
  where
    by : (b : Bool) → (d == c) ≡ b
        → (is_in ds c ≡ true → ArePrintable ds → is_printable c ≡ true)
        → is_printable c ≡ true
    by true e f =
        let r = All-head (λ k. (32 ≤ k) × (k ≤ 126)) d ds p in
        subst (λ k. is_printable k ≡ true) ((Decides-eqb d c).0 e)
        (two (nat_le 32 d) (nat_le d 126) (le-leb 32 d r.0) (le-leb d 126 r.1))
    by false e f = f (rw e at h) (All-tail (λ k. (32 ≤ k) × (k ≤ 126)) d ds p)

characters_within : (alphabet cs : List ℕ) → list_all (is_in alphabet) cs ≡ true
    → ArePrintable alphabet → list_all is_printable cs ≡ true
characters_within alphabet [] h p = refl
characters_within alphabet (c ∷ cs) h p =
    let r = both (is_in alphabet c) (list_all (is_in alphabet) cs) h in
    two (is_printable c) (list_all is_printable cs) (character_within alphabet c r.0 p)
    (characters_within alphabet cs r.1 p)

value_within : (p : Param) (v : Value) → is_within p v ≡ true → IsPrintable p → is_spelled v ≡ true
value_within p (value.Int z) h q = refl
value_within p (value.Bool b) h q = refl
value_within p (value.List zs) h q = refl
value_within (param.Text least most alphabet) (value.Text cs) h q =
    let r = both (has_length least most cs) (list_all (is_in alphabet) cs) h in
    characters_within alphabet cs r.1 q
value_within (param.Int low high) (value.Text cs) h q = absurd cc
value_within param.Bool (value.Text cs) h q = absurd cc
value_within (param.List least most low high) (value.Text cs) h q = absurd cc

values_within : (ps : List Param) (vs : List Value) → are_within ps vs ≡ true → All IsPrintable ps
    → list_all is_spelled vs ≡ true
values_within [] [] h q = refl
values_within [] (v ∷ vs) h q = absurd cc
values_within (p ∷ ps) [] h q = absurd cc
values_within (p ∷ ps) (v ∷ vs) h q =
    let r = both (is_within p v) (are_within ps vs) h in
    let one = value_within p v r.0 (All-head IsPrintable p ps q) in
    let others = values_within ps vs r.1 (All-tail IsPrintable p ps q) in
    two (is_spelled v) (list_all is_spelled vs) one others

-- CODINGS

input_spelled : (k : Task) → HasPrintable k.bounds → (x : Case) → Contains (wanted_inputs k) x
    → SpellsInput (coding k) x
input_spelled k h x c =
    let l = k.bounds.limits in
    let ps = k.bounds.params in
    let types = map param_type ps in
    let xs = x.values in
    let within : are_within ps xs ≡ true = are_within-input ps xs (wanted_is_input k x c) in
    let fit : all_fit_as l types xs ≡ true = within_fit l ps xs k.bounds.ranges within in
    let printed = values_within ps xs within h in
    let bits = flat_map (spelled l) xs in
    record {
      bits = bits;
      many = length-all_spelled l types xs fit;
      spells =
          ap (option_map case_of)
          (values_stand l types xs bits 0 fit printed (whole_stands bits));
    }

-- the tree of a task before its picks are numbered
abbrev pub grown_tree : Task → Weighted
grown_tree k =
    let g = setting k in
    let t = program_shape k.submission in grown g (steps t) elsewhere (outermost g) t

choice_spelled : (k : Task) (budget : ℕ) (s : List Choice) → Fits (tree_of k) s
    → SpellsChoice (space k budget) (coding k) s
choice_spelled k budget s fit =
    let r = selection_spelled (grown_tree k) s fit in
    record {
      bits = r.bits;
      choice = r.selection;
      many = r.many;
      spells = r.spells;
      alike = record {
        choice = r.fits;
        cost = r.cost_is;
        agrees = λ x. (
          λ met p shape. met p (shape ∙ r.tree),
          λ met p shape. met p (shape ∙ sym r.tree),
        );
      };
    }

pub is_full : (k : Task) (budget : ℕ) → HasPrintable k.bounds → IsFull (space k budget) (coding k)
is_full k budget h = record {
  inputs = λ x c. input_spelled k h x c;
  choices = λ s fit. choice_spelled k budget s fit;
}
