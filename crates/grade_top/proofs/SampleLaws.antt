-- The texts of a sample fit and spell a program of few statements; what is written of its answer.
use Rattle.std.proofs.Common.{◌≡◌, ◌≤◌, ℕ, List, [], ◌∷◌, ◌++◌, length, map, Option, refl, sym, ap, subst, ◌∙◌, codes, append_assoc, IfOk, Result, Ok, Err, Vec}
use Rattle.std.specs.Fmt.{decimal}
use Rattle.std.specs.declared.alloc.Global.{Global}
use Rattle.std.proofs.lemmas.List.{length-map}
use Rattle.mpy_tree.specs.Shapes.{program_shape}
use Rattle.mpy_tree.specs.Syntax.{Routine}
use Rattle.mpy_limits.specs.Limits.{all_statements}
use Rattle.mpy_limits.proofs.Functions.{few_statements}
use Rattle.choice_tree.specs.declared.edit.Edit as code_edit
use Rattle.choice_tree.specs.declared.selection.Choice.{Choice}
use Rattle.choice_tree.specs.Choices.{member_of}
use Rattle.choice_tree.specs.EditViews as tree
use Rattle.choice_tree.specs.Selections.{edits, plain}
use Rattle.choice_tree.specs.WeightedTrees.{Weighted}
use Rattle.input_space.specs.Tasks.{Task, tree_of}
use Rattle.source_files.specs.Texts.{AllFit}
use Rattle.feedback_text.specs.declared.answer.Answer as code
use Rattle.feedback_text.specs.declared.answer.Failure as code_failure
use Rattle.feedback_text.specs.Answers.{Corrected, edit_tree}
use Rattle.feedback_text.specs.AnswerViews.{StandsFor, failure_of}
use Rattle.feedback_text.specs.ReportViews.{edit_of}
use Rattle.sample_maker.specs.Samples.{bounds_text, reference_text, rules_text, submission_text}
use Rattle.sample_maker.proofs.Lengths.{bounds_short, reference_short, rules_short, submission_short}
use Rattle.grade_core.specs.Commands.{answer_text}
use Rattle.grade_core.specs.Gradings.{IsTextOf}
use Rattle.grade_core.specs.Decisions.{task_sources, task_step}
use Rattle.grade_top.specs.Decisions.{sample_texts}
use Rattle.grade_top.specs.Outcomes.{IsSampleOf, Summarizes}
use Rattle.grade_top.specs.Reports.{cert_bytes, sample_lines, sample_report}

pub sample_fits : (n : ℕ) → AllFit task_sources (sample_texts n)
sample_fits n = (bounds_short, (reference_short n, (submission_short n, (rules_short, tt))))

pub sample_is : (n : ℕ) (a b c d : List ℕ) → a ≡ bounds_text → b ≡ reference_text n → c ≡ submission_text n → d ≡ rules_text → a ∷ b ∷ c ∷ d ∷ [] ≡ sample_texts n
sample_is n a b c d ia ib ic id = cc

-- the submission was read within the limits
pub few : (n : ℕ) (k : Task) → (task_step (sample_texts n)).gives k → length (all_statements k.submission) ≤ 200
few n k task =
    let parts = task.given in
    let submission = parts.second.second in
    let same : k.submission ≡ submission.first.program =
    ap (λ (j : Task). j.submission) (task.second.second.second ∙ submission.second.second) in
    rw same (few_statements submission.first.program submission.given.read.small)

-- THE TEXT OF AN ANSWER

-- the same pieces, grouped from the right as a format joins them
regrouped : (a b c d : List ℕ)
    → codes "sample " ++ (a ++ (codes "\nstatements " ++ (b ++ (codes "\nedits " ++ (c ++ (codes "\ncost " ++ (d ++ codes "\n")))))))
    ≡ codes "sample " ++ a ++ codes "\nstatements " ++ b ++ codes "\nedits " ++ c ++ codes "\ncost " ++ d ++ codes "\n"
regrouped a b c d = simp append_assoc refl

pub lines_are : (n m e cost : ℕ) (k : Task) → m ≡ length (all_statements k.submission)
    → codes "sample " ++ (decimal n ++ (codes "\nstatements " ++ (decimal m ++ (codes "\nedits " ++ (decimal e ++ (codes "\ncost " ++ (decimal cost ++ codes "\n")))))))
    ≡ sample_lines n k e cost
lines_are n m e cost k counted =
    regrouped (decimal n) (decimal m) (decimal e) (decimal cost)
    ∙ ap (λ i. codes "sample " ++ decimal n ++ codes "\nstatements " ++ decimal i ++ codes "\nedits " ++ decimal e ++ codes "\ncost " ++ decimal cost ++ codes "\n") counted

seen_trees : (es : List code_edit.Edit) → map edit_tree (map edit_of es) ≡ map tree.edit_of es
seen_trees [] = refl
seen_trees (e ∷ es) = ap (λ ts. tree.edit_of e ∷ ts) (seen_trees es)

-- the edits and the program that a selection makes of the tree
summarizes : (n : ℕ) (k : Task) (s : List Choice) (cost : ℕ) (v w : Weighted) (items : List code_edit.Edit) (p : List Routine) (text : List ℕ)
    → v ≡ tree_of k → map tree.edit_of items ≡ edits (member_of s) v 0
    → w ≡ tree_of k → program_shape p ≡ plain (member_of s) w
    → text ≡ sample_lines n k (length items) cost → Summarizes n k s cost text
summarizes n k s cost v w items p text at_v replaced at_w made lines = record {
  edits = map edit_of items;
  program = p;
  makes = record {
    program = made ∙ ap (plain (member_of s)) at_w;
    edits_are = seen_trees items ∙ replaced ∙ ap (λ t. edits (member_of s) t 0) at_v;
  };
  text_is = lines ∙ ap (λ i. sample_lines n k i cost) (sym (length-map items edit_of));
}

pub summarized : (n : ℕ) (k : Task) (s : List Choice) (cost : ℕ) (v w : Weighted) (items : List code_edit.Edit) (p : List Routine)
    → v ≡ tree_of k → map tree.edit_of items ≡ edits (member_of s) v 0
    → w ≡ tree_of k → program_shape p ≡ plain (member_of s) w
    → (count : ℕ) → count ≡ length items → {E : Type 0} (r : Result (Vec ℕ Global) E)
    → IfOk r (λ t. t.items ≡ sample_lines n k count cost) → IfOk r (λ t. Summarizes n k s cost t.items)
summarized n k s cost v w items p at_v replaced at_w made count all (Ok t) lines =
    summarizes n k s cost v w items p t.items at_v replaced at_w made (lines ∙ ap (λ i. sample_lines n k i cost) all)
summarized n k s cost v w items p at_v replaced at_w made count all (Err e) lines = lines

-- a sample that a selection corrects
corrected_is : (n : ℕ) (k : Task) (d : code.Answer) (cert : Option (List ℕ)) (s : List Choice) (cost : ℕ) (fails : code_failure.Failure) (text : List ℕ)
    → d ≡ code.TheVariants.Corrected s cost fails → Summarizes n k s cost text → IsSampleOf n k d cert text
corrected_is n k d cert s cost fails text is shown =
    let a = Corrected cost (failure_of fails) shown.edits shown.program in
    record {
      answer = a;
      stands = subst (λ (x : code.Answer). StandsFor k x a) (sym is) (refl, refl, shown.makes);
      text_is = shown.text_is;
    }

pub corrected : (n : ℕ) (k : Task) (d : code.Answer) (cert : Option (List ℕ)) (s : List Choice) (cost : ℕ) (fails : code_failure.Failure)
    → d ≡ code.TheVariants.Corrected s cost fails → {E : Type 0} (r : Result (Vec ℕ Global) E)
    → IfOk r (λ t. Summarizes n k s cost t.items) → IfOk r (λ t. IsSampleOf n k d cert t.items)
corrected n k d cert s cost fails is (Ok t) shown = corrected_is n k d cert s cost fails t.items is shown
corrected n k d cert s cost fails is (Err e) shown = shown

-- a spent budget: the number, what `grade` writes, and the certificate
spent_regrouped : (a b c : List ℕ) → (codes "sample " ++ (a ++ codes "\n")) ++ (b ++ c) ≡ codes "sample " ++ a ++ codes "\n" ++ b ++ c
spent_regrouped a b c = simp append_assoc refl

pub spent_is : (n : ℕ) (k : Task) (d : code.Answer) (at_least budget : ℕ) (cert : Option (List ℕ)) (head text whole : List ℕ)
    → d ≡ code.TheVariants.Spent at_least budget → head ≡ codes "sample " ++ (decimal n ++ codes "\n")
    → IsTextOf (codes "reference") k d text → whole ≡ head ++ (text ++ cert_bytes cert) → IsSampleOf n k d cert whole
spent_is n k code.TheVariants.Correct at_least budget cert head text whole at headed is joined = cc
spent_is n k (code.TheVariants.Corrected s cost f) at_least budget cert head text whole at headed is joined = cc
spent_is n k (code.TheVariants.NoCorrection f) at_least budget cert head text whole at headed is joined = cc
spent_is n k code.TheVariants.EmptyReference at_least budget cert head text whole at headed is joined = cc
spent_is n k code.TheVariants.NoMemory at_least budget cert head text whole at headed is joined = cc
spent_is n k (code.TheVariants.Spent least most) at_least budget cert head text whole at headed is joined = record {
  answer = is.answer;
  stands = is.stands;
  text_is =
      joined ∙ rw (headed, is.text_is) (spent_regrouped (decimal n) (answer_text (codes "reference") k is.answer) (cert_bytes cert))
      ∙ subst (λ a. codes "sample " ++ decimal n ++ codes "\n" ++ answer_text (codes "reference") k a ++ cert_bytes cert ≡ sample_report n k a cert) (sym is.stands) refl;
}

-- another answer, of which what `grade` writes is written
pub other_text : (n : ℕ) (k : Task) (d : code.Answer) (cert : Option (List ℕ)) (text : List ℕ) → (d ≡ code.TheVariants.Correct → ⊥)
    → ((s : List Choice) (cost : ℕ) (fails : code_failure.Failure) → d ≡ code.TheVariants.Corrected s cost fails → ⊥)
    → ((at_least budget : ℕ) → d ≡ code.TheVariants.Spent at_least budget → ⊥)
    → IsTextOf (codes "reference") k d text → IsSampleOf n k d cert text
other_text n k code.TheVariants.Correct cert text wrong dear spent is = absurd (wrong refl)
other_text n k (code.TheVariants.Corrected s cost fails) cert text wrong dear spent is = absurd (dear s cost fails refl)
other_text n k (code.TheVariants.NoCorrection fails) cert text wrong dear spent is = record {
  answer = is.answer;
  stands = is.stands;
  text_is = is.text_is ∙ subst (λ a. answer_text (codes "reference") k a ≡ sample_report n k a cert) (sym is.stands) refl;
}
other_text n k code.TheVariants.EmptyReference cert text wrong dear spent is = record {
  answer = is.answer;
  stands = is.stands;
  text_is = is.text_is ∙ subst (λ a. answer_text (codes "reference") k a ≡ sample_report n k a cert) (sym is.stands) refl;
}
other_text n k (code.TheVariants.Spent at_least budget) cert text wrong dear spent is = absurd (spent at_least budget refl)
other_text n k code.TheVariants.NoMemory cert text wrong dear spent is = absurd is.stands
