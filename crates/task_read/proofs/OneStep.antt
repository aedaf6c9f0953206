-- The steps that read the sources of a task, and those that read a task, give one thing, or refuse once.
use Rattle.std.proofs.Common.{◌≡◌, ℕ, List, sym, ◌∙◌}
use Rattle.mpy_tree.specs.declared.refusal.Cause.{Cause}
use Rattle.mpy_tree.specs.declared.refusal.Source.{Source}
use Rattle.mpy_tree.specs.declared.refusal.Source.TheVariants as source
use Rattle.mpy_tree.specs.declared.refusal.Refusal.{Refusal}
use Rattle.bounds_reader.proofs.Judged.{one_bounds, one_refusal as one_bounds_refusal, not_read_and_refused as bounds_not_refused}
use Rattle.eml_reader.proofs.Judged.{one_reading, not_both as rules_not_refused, one_refusal as one_rules_refusal}
use Rattle.input_space.specs.Tasks.{entry_at}
use Rattle.task_read.specs.Sources.{IsOf, Typed, bounds_step, program_step, rules_step}
use Rattle.task_read.specs.Steps.{IsOne}
use Rattle.task_read.specs.TaskSteps.{parts_step, task_step}
use Rattle.mpy_tree.specs.Entries.{Entry}
use Rattle.task_read.proofs.OneAnswer.{one_typed_program, not_typed_and_refused, one_refusal}
use Rattle.task_read.proofs.Steps.{one_done, one_refuse, one_then}

same_refusal : (q r : Refusal) → q.source ≡ r.source → q.cause ≡ r.cause → q.line ≡ r.line → q ≡ r
same_refusal q r s c l = λ i. record { source = s i; cause = c i; line = l i }

-- refusals of one source, for one cause at one line
pub one_of : (s : Source) (P : Cause → ℕ → Type 0) → ((c d : Cause) (m n : ℕ) → P c m → P d n → (c ≡ d) × (m ≡ n))
    → (q r : Refusal) → IsOf s P q → IsOf s P r → q ≡ r
one_of s P one q r a b =
    let same = one q.cause r.cause q.line r.line a.1 b.1 in
    same_refusal q r (a.0 ∙ sym b.0) same.0 same.1

pub one_bounds_step : (text : List ℕ) → IsOne (bounds_step text)
one_bounds_step text = record {
  gives = λ a b x y. one_bounds text a b x y;
  refuses = λ q r x y. one_of source.Bounds _ (one_bounds_refusal text) q r x y;
  not_both = λ b r x y. bounds_not_refused text b r.cause r.line x y.1;
}

same_typed : (p q : Typed) → p.program ≡ q.program → p.types ≡ q.types → p ≡ q
same_typed p q a b = λ i. record { program = a i; types = b i }

pub one_program_step : (s : Source) (text : List ℕ) (e : Entry) → IsOne (program_step s text e)
one_program_step s text e = record {
  gives = λ p q x y.
      let same = one_typed_program text e p.program q.program p.types q.types x y in
      same_typed p q same.0 same.1;
  refuses = λ q r x y. one_of s _ (one_refusal text e) q r x y;
  not_both = λ p r x y. not_typed_and_refused text e p.program p.types r.cause r.line x y.1;
}

pub one_rules_step : (text : List ℕ) → IsOne (rules_step text)
one_rules_step text = record {
  gives = λ r s x y. one_reading text r s x y;
  refuses = λ q r x y. one_of source.Rules _ (one_rules_refusal text) q r x y;
  not_both = λ rules r x y. rules_not_refused text rules r.cause r.line x y.1;
}

pub one_parts_step : (bounds reference submission rules : List ℕ) → IsOne (parts_step bounds reference submission rules)
one_parts_step bounds reference submission rules =
    one_then _ _ (one_bounds_step bounds) (λ b.
    one_then _ _ (one_program_step source.Reference reference (entry_at b)) (λ r.
    one_then _ _ (one_program_step source.Submission submission (entry_at b)) (λ s.
    one_then _ _ (one_rules_step rules) (λ e. one_done _))))

pub one_task_step : (bounds reference submission rules : List ℕ) → IsOne (task_step bounds reference submission rules)
one_task_step bounds reference submission rules =
    one_then _ _ (one_parts_step bounds reference submission rules) (λ k.
    one_then _ _ (one_refuse _ _) (λ same. one_then _ _ (one_refuse _ _) (λ small. one_done k)))
