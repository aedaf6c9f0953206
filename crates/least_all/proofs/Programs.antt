-- The programs of selections: whether they agree and are the same can be told.
use Rattle.std.proofs.Common.{◌≡◌, ◌⊎◌, inl, inr, Bool, true, false, List, [], ◌∷◌, map, refl, sym, ap, ◌∙◌}
use Rattle.std.specs.Prelude.{All, IsTrue, ◌↔◌}
use Rattle.std.specs.Cmp.Lexicographic.{pointwise}
use Rattle.std.proofs.lemmas.List.Elements.{All-cons, All-contains, All-head, All-nil, All-tail}
use Rattle.mpy_tree.specs.Comparing.{same_routine}
use Rattle.mpy_tree.specs.Equality.{without_lines}
use Rattle.mpy_tree.specs.Syntax.{Routine}
use Rattle.mpy_tree.proofs.Sameness.{routines_decides}
use Rattle.mpy_laws.proofs.BackFromTrees.{trees_differ}
use Rattle.choice_tree.specs.declared.selection.Choice.{Choice}
use Rattle.choice_tree.specs.declared.tree.WProg.{WProg}
use Rattle.choice_tree.specs.Choices.{member_of}
use Rattle.choice_tree.specs.Selections.{plain}
use Rattle.choice_tree.specs.StatementViews.{weighted_prog}
use Rattle.coding_laws.specs.CodingLaws.{AgreementIsDecided}
use Rattle.input_space.specs.Tasks.{Task, tree_of}
use Rattle.input_space.specs.Agreement.{Agrees}
use Rattle.input_space.specs.TaskSpace.{Meets, SelectionMeets, case_of, wanted_inputs}
use Rattle.input_space.proofs.Elements.{all_if_contained}
use Rattle.input_space.proofs.TaskSpaceLaws.{all_meet, all_selection_meet, wanted_is_input}
use Rattle.selection_programs.specs.Programs.{MakesPrograms}
use Rattle.certificate_laws.specs.BestLaws.{Makes}
use Rattle.certificate_laws.proofs.BestRewritings.{input_wanted}
use Rattle.least_all.specs.BestLists.{AreSame, AreTests, MakeTheSame, SelectionAgrees, Tests}

-- each selection makes a program
abbrev pub AllMake : Task → Type 0
AllMake k = (s : List Choice) → (p : List Routine) × Makes k s p

pub all_make : MakesPrograms → (k : Task) (w : WProg) → weighted_prog w ≡ tree_of k → AllMake k
all_make law k w is s = let made = law w (member_of s) in (made.0, made.1 ∙ ap (plain (member_of s)) is)

-- and one alone
pub one_program : (k : Task) (s : List Choice) (p q : List Routine) → Makes k s p → Makes k s q → p ≡ q
one_program k s p q mp mq = trees_differ.of_programs p q (mp ∙ sym mq)

-- AGREEMENT

agrees_on_all : (k : Task) (p : List Routine) → All (Meets k p) (wanted_inputs k) → Agrees k.bounds k.reference p
agrees_on_all k p met vs input done =
    All-contains (Meets k p) (wanted_inputs k) (case_of vs) met (input_wanted k vs input done) done

meets_where_agrees : (k : Task) (p : List Routine) → Agrees k.bounds k.reference p → All (Meets k p) (wanted_inputs k)
meets_where_agrees k p agrees =
    all_if_contained (Meets k p) (wanted_inputs k) (λ x c done. agrees x.values (wanted_is_input k x c) done)

pub agrees_where_meets : (k : Task) (s : List Choice) → All (SelectionMeets k s) (wanted_inputs k)
    → SelectionAgrees k s
agrees_where_meets k s met p made = agrees_on_all k p (all_meet k s p (wanted_inputs k) made met)

pub meets_where_selection_agrees : (k : Task) (s : List Choice) (p : List Routine) → Makes k s p
    → SelectionAgrees k s → All (SelectionMeets k s) (wanted_inputs k)
meets_where_selection_agrees k s p made agrees =
    all_selection_meet k s p (wanted_inputs k) made (meets_where_agrees k p (agrees p made))

pub all_decided : {A : Type 0} (P : A → Type 0) → ((x : A) → P x ⊎ (P x → ⊥)) → (xs : List A)
    → All P xs ⊎ (All P xs → ⊥)
all_decided P each [] = inl (All-nil P)
all_decided P each (x ∷ xs) = elim (each x) [
  | inl here ↦ elim (all_decided P each xs) [
    | inl rest ↦ inl (All-cons P x xs here rest)
    | inr other ↦ inr (λ all. other (All-tail P x xs all))
  ]
  | inr other ↦ inr (λ all. other (All-head P x xs all))
]

abbrev pub truth : {P : Type 0} → P ⊎ (P → ⊥) → Bool
truth (inl here) = true
truth (inr other) = false

truth_tells : {P Q : Type 0} (d : P ⊎ (P → ⊥)) → (P → Q) → (Q → P) → IsTrue (truth d) ↔ Q
truth_tells (inl here) to from = (λ e. to here, λ q. refl)
truth_tells (inr other) to from = (λ e. absurd (let z : ◌≡◌ {A = Bool} false true = e in cc), λ q. absurd (other (from q)))

-- SAMENESS

pub made_same : (k : Task) (r s : List Choice) (p q : List Routine) → Makes k r p → Makes k s q
    → AreSame p q → MakeTheSame k r s
made_same k r s p q mr ms same p' q' mp mq =
    ap (map without_lines) (one_program k r p' p mp mr) ∙ same
    ∙ sym (ap (map without_lines) (one_program k s q' q mq ms))

-- THE TESTS

module _ (k : Task) (make : AllMake k) (law : AgreementIsDecided) where
  abbrev pub met : (s : List Choice) → All (SelectionMeets k s) (wanted_inputs k) ⊎ (All (SelectionMeets k s) (wanted_inputs k) → ⊥)
  met s = all_decided (SelectionMeets k s) (λ x. law k s x (make s).0 (make s).1) (wanted_inputs k)

  abbrev pub tests : Tests
  tests = record {
    agrees = λ s. truth (met s);
    same = λ r s. pointwise same_routine (make r).0 (make s).0;
  }

  pub are_tests : AreTests k tests
  are_tests = record {
    agreement = λ s. truth_tells (met s) (agrees_where_meets k s) (meets_where_selection_agrees k s (make s).0 (make s).1);
    sameness = λ r s.
        let d = routines_decides (make r).0 (make s).0 in (
          λ e. made_same k r s (make r).0 (make s).0 (make r).1 (make s).1 (d.0 e),
          λ h. d.1 (h (make r).0 (make s).0 (make r).1 (make s).1),
        );
  }

-- what is the same as one that is the same as another is the same as that
pub same_transitive : (k : Task) (make : AllMake k) (t : Tests) → AreTests k t → (r s u : List Choice)
    → t.same r s ≡ true → t.same s u ≡ true → t.same r u ≡ true
same_transitive k make t are r s u e f =
    let first = (are.sameness r s).0 e in
    let second = (are.sameness s u).0 f in
    (are.sameness r u).1 (λ p q mp mq. first p (make s).0 mp (make s).1 ∙ second (make s).0 q (make s).1 mq)
