-- The reports of the code's answers, from their parts.
use Rattle.std.proofs.Common.{◌≡◌, ℕ, List, [], ◌∷◌, ◌++◌, map, refl, sym, ap, subst, ◌∙◌, codes, append_assoc}
use Rattle.std.specs.Fmt.{decimal}
use Rattle.mpy_tree.specs.Printing.{program_text}
use Rattle.mpy_tree.specs.Shapes.{program_shape}
use Rattle.mpy_tree.specs.Syntax.{Routine}
use Rattle.choice_tree.specs.declared.edit.Edit as code_edit
use Rattle.choice_tree.specs.declared.rules.Rules.{Rules}
use Rattle.choice_tree.specs.declared.selection.Choice.{Choice}
use Rattle.choice_tree.specs.Choices.{member_of}
use Rattle.choice_tree.specs.EditViews as tree
use Rattle.choice_tree.specs.RuleViews.{corrections_of}
use Rattle.choice_tree.specs.Selections.{edits, plain}
use Rattle.choice_tree.specs.WeightedTrees.{Weighted}
use Rattle.input_space.specs.declared.task.TaskParts.{TaskParts}
use Rattle.input_space.specs.TaskParts.{task_with}
use Rattle.input_space.specs.Tasks.{Task, tree_of}
use Rattle.feedback_text.specs.declared.answer.Answer as code
use Rattle.feedback_text.specs.declared.answer.Failure as code_failure
use Rattle.feedback_text.specs.Answers.{Corrected, NoCorrection, Spent, edit_tree}
use Rattle.feedback_text.specs.AnswerViews.{StandsFor, failure_of}
use Rattle.feedback_text.specs.ReportViews.{edit_of, IsReportOf, ShowsCorrection, ShowsEdits}
use Rattle.feedback_text.specs.Reports.{edits_text, fails_text}

seen_trees : (es : List code_edit.Edit) → map edit_tree (map edit_of es) ≡ map tree.edit_of es
seen_trees [] = refl
seen_trees (e ∷ es) = ap (λ ts. tree.edit_of e ∷ ts) (seen_trees es)

-- the lines of the edits of a selection
pub shows_edits : (k : TaskParts) (s : List Choice) (w : Weighted) (es : List code_edit.Edit) (rules : Rules) (text : List ℕ)
    → w ≡ tree_of (task_with k) → map tree.edit_of es ≡ edits (member_of s) w 0
    → rules ≡ k.rules → text ≡ edits_text (corrections_of rules) (map edit_of es)
    → ShowsEdits (task_with k) s text
shows_edits k s w es rules text at replaced same edited = record {
  edits = map edit_of es;
  edits_are = seen_trees es ∙ replaced ∙ ap (λ t. edits (member_of s) t 0) at;
  text_is = edited ∙ ap (λ rs. edits_text (corrections_of rs) (map edit_of es)) same;
}

-- and of its program
pub shows_correction : (k : TaskParts) (s : List Choice) (v : Weighted) (p : List Routine) (lines text : List ℕ)
    → ShowsEdits (task_with k) s lines → v ≡ tree_of (task_with k) → program_shape p ≡ plain (member_of s) v
    → text ≡ lines ++ codes "program\n" ++ program_text p
    → ShowsCorrection (task_with k) s text
shows_correction k s v p lines text shows at made all = record {
  edits = shows.edits;
  program = p;
  makes = record { program = made ∙ ap (plain (member_of s)) at; edits_are = shows.edits_are };
  text_is = all ∙ ap (λ ls. ls ++ codes "program\n" ++ program_text p) shows.text_is;
}

regroup : (a b c d : List ℕ) → a ++ (b ++ c ++ d) ≡ a ++ b ++ c ++ d
regroup a b c d = simp append_assoc

pub corrected_report : (k : Task) (a : code.Answer) (s : List Choice) (n : ℕ) (fails : code_failure.Failure) (lines text : List ℕ)
    → a ≡ code.TheVariants.Corrected s n fails
    → ShowsCorrection k s lines
    → text ≡ codes "cost " ++ decimal n ++ codes "\n" ++ fails_text k.bounds (failure_of fails) ++ lines → IsReportOf k a text
corrected_report k a s n fails lines text is shows all =
    let b = Corrected n (failure_of fails) shows.edits shows.program in
    let front = codes "cost " ++ decimal n ++ codes "\n" ++ fails_text k.bounds (failure_of fails) in
    record {
      answer = b;
      stands = subst (λ (x : code.Answer). StandsFor k x b) (sym is) (refl, refl, shows.makes);
      text_is =
          all ∙ ap (λ ls. front ++ ls) shows.text_is
          ∙ regroup front (edits_text k.rules shows.edits) (codes "program\n") (program_text shows.program);
    }

pub failing_report : (k : Task) (a : code.Answer) (fails : code_failure.Failure) (text : List ℕ)
    → a ≡ code.TheVariants.NoCorrection fails
    → text ≡ codes "no correction\n" ++ fails_text k.bounds (failure_of fails) → IsReportOf k a text
failing_report k a fails text is all =
    let b = NoCorrection (failure_of fails) in
    record {
      answer = b;
      stands = subst (λ (x : code.Answer). StandsFor k x b) (sym is) refl;
      text_is = all;
    }

pub spent_report : (k : Task) (a : code.Answer) (n b : ℕ) (text : List ℕ) → a ≡ code.TheVariants.Spent n b
    → text ≡ codes "budget spent " ++ decimal b ++ codes "\nat least cost " ++ decimal n ++ codes "\n" → IsReportOf k a text
spent_report k a n b text is all = record {
  answer = Spent n b;
  stands = subst (λ (x : code.Answer). StandsFor k x (Spent n b)) (sym is) refl;
  text_is = all;
}
