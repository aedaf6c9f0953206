-- What the texts of a command spell is one thing, and what comes of them is one.
use Rattle.std.proofs.Common.{◌≡◌, ℕ, suc, List, [], ◌∷◌, sym, ◌∙◌}
use Rattle.mpy_tree.specs.declared.outcome.Outcome as run
use Rattle.mpy_tree.specs.declared.refusal.Source.TheVariants as source
use Rattle.mpy_tree.specs.declared.refusal.Refusal.{Refusal}
use Rattle.mpy_tree.specs.declared.value.Value.{Value}
use Rattle.bounds_reader.specs.declared.params.Param.{Param}
use Rattle.input_space.specs.Tasks.{Task}
use Rattle.input_space.proofs.OneCase.{one_case}
use Rattle.source_files.specs.Files.{sources_of}
use Rattle.source_files.specs.Texts.{AllFit}
use Rattle.input_space.specs.Tasks.{entry_at}
use Rattle.task_read.specs.Steps.{IsOne}
use Rattle.task_read.proofs.OneStep.{one_bounds_step, one_program_step}
use Rattle.task_read.proofs.Steps.{one_done, one_refuse, one_then}
use Rattle.file_commands.specs.Ends.{IsFirstRefusal}
use Rattle.file_commands.proofs.FirstRefusals as first
use Rattle.grade_core.specs.Decisions.{task_step}
use Rattle.check_core.proofs.OneChecking.{one_sources_step}
use Rattle.grade_core.proofs.OneGrading.{one_never, one_task_step}
use Rattle.list_command.specs.Decisions.{AsGraded, Listed}
use Rattle.pick_command.proofs.OneOutcome.{one_pick}
use Rattle.grade_top.specs.Commands.{AnswerOf, file_command, files_of}
use Rattle.grade_top.specs.Decisions.{run_step, sample_texts, spelled_step, value_step, values_step}
use Rattle.grade_top.specs.Words.{Command, Grade, Check, Run, Sample, All, Pick, Sat, Unsat, Nothing, RunWords}

same_first : (v w : Value) → v ∷ [] ≡ w ∷ [] → v ≡ w
same_first v w h = cc

one_spelled : (n : ℕ) (word : List ℕ) → IsOne (spelled_step n word)
one_spelled n word = record {
  gives = λ v w x y. same_first v w (one_case word (v ∷ []) (w ∷ []) x y);
  refuses = λ q r x y. x.1 ∙ sym y.1;
  not_both = λ v r x y. y.0 v x;
}

one_value : (n : ℕ) (p : Param) (word : List ℕ) → IsOne (value_step n p word)
one_value n p word =
    one_then _ _ (one_spelled n word) (λ v.
    one_then _ _ (one_refuse _ _) (λ t. one_then _ _ (one_refuse _ _) (λ r. one_done v)))

one_values : (n : ℕ) (ps : List Param) (ws : List (List ℕ)) → IsOne (values_step n ps ws)
one_values n [] ws = one_done []
one_values n (p ∷ ps) [] = one_done []
one_values n (p ∷ ps) (w ∷ ws) =
    one_then _ _ (one_value n p w) (λ v. one_then _ _ (one_values (suc n) ps ws) (λ vs. one_done (v ∷ vs)))

pub one_run_step : (w : RunWords) (ts : List (List ℕ)) → IsOne (run_step w ts)
one_run_step w [] = one_never
one_run_step w (a ∷ []) = one_never
one_run_step w (a ∷ b ∷ []) =
    one_then _ _ (one_bounds_step a) (λ x.
    one_then _ _ (one_program_step source.Reference b (entry_at x)) (λ p.
    one_then _ _ (one_refuse _ _) (λ n.
    one_then _ _ (one_values 1 x.params w.values) (λ vs. one_done _))))
one_run_step w (a ∷ b ∷ c ∷ ts) = one_never

-- WHAT COMES OF THE TEXTS

pub one_refuses : (c : Command) (ts : List (List ℕ)) (q r : Refusal) → (file_command c).refuses ts q → (file_command c).refuses ts r → q ≡ r
one_refuses (Grade g) ts q r a b = (one_task_step ts).refuses q r a b
one_refuses (Sample n) ts q r a b = (one_task_step (sample_texts n)).refuses q r a b
one_refuses (Check w) ts q r a b = (one_sources_step ts).refuses q r a b
one_refuses (Run w) ts q r a b = (one_run_step w ts).refuses q r a b
one_refuses (All w) ts q r a b = (one_task_step ts).refuses q r a b
one_refuses (Pick w) ts q r a b = (one_pick ts).refuses q r a b
one_refuses (Sat w) ts q r a b = absurd a
one_refuses (Unsat w) ts q r a b = absurd a
one_refuses Nothing ts q r a b = absurd a

pub not_both : (c : Command) (ts : List (List ℕ)) (r : Refusal) (a : AnswerOf c) → (file_command c).decides ts a → (file_command c).refuses ts r → ⊥
not_both (Grade g) ts r a decided refused = (one_task_step ts).not_both a.task r decided.task refused
not_both (Sample n) ts r a decided refused = (one_task_step (sample_texts n)).not_both a.task r decided.task refused
not_both (Check w) ts r a decided refused = (one_sources_step ts).not_both a.task r decided.task refused
not_both (Run w) ts r a decided refused = (one_run_step w ts).not_both a r decided refused
not_both (All w) ts r (Listed k cost l) decided refused = (one_task_step ts).not_both k r decided.task refused
not_both (All w) ts r (AsGraded x) decided refused = (one_task_step ts).not_both x.task r decided.0.task refused
not_both (Pick w) ts r a decided refused = (one_pick ts).not_both decided.request r decided.read refused
not_both (Sat w) ts r a decided refused = refused
not_both (Unsat w) ts r a decided refused = refused
not_both Nothing ts r a decided refused = refused

pub one_refusal : (c : Command) (ts : List (List ℕ)) (q r : Refusal) → IsFirstRefusal (file_command c) ts q → IsFirstRefusal (file_command c) ts r → q ≡ r
one_refusal c ts q r a b = first.one_refusal (file_command c) ts (one_refuses c ts) q r a b

pub not_refused_and_decided : (c : Command) (ts : List (List ℕ)) (r : Refusal) (a : AnswerOf c) → IsFirstRefusal (file_command c) ts r → AllFit (sources_of (files_of c)) ts → (file_command c).decides ts a → ⊥
not_refused_and_decided c ts r a is_first fit decided = first.not_first (file_command c) ts r (not_both c ts r a decided) fit is_first

pub one_task : (ts : List (List ℕ)) (k other : Task) → (task_step ts).gives k → (task_step ts).gives other → k ≡ other
one_task ts k other a b = (one_task_step ts).gives k other a b

pub one_run : (w : RunWords) (ts : List (List ℕ)) (o other : run.Outcome) → (run_step w ts).gives o → (run_step w ts).gives other → o ≡ other
one_run w ts o other a b = (one_run_step w ts).gives o other a b
