-- Each text spells a typed program or is refused, and so do four texts a task.
use Rattle.std.proofs.Common.{◌≡◌, ℕ, ◌<◌, List, [], ◌∷◌, Option, Some, None, min, zero, suc, refl, sym, ap, ◌∙◌, arith, inl, inr}
use Rattle.std.specs.Prelude.{◌⊎◌}
use Rattle.std.proofs.lemmas.Bool.{cases_lt}
use Rattle.mpy_tree.specs.declared.refusal.Cause.TheVariants as cause
use Rattle.mpy_tree.specs.declared.refusal.Refusal.{Refusal}
use Rattle.mpy_tree.specs.declared.refusal.Source.{Source}
use Rattle.mpy_tree.specs.declared.refusal.Source.TheVariants as source
use Rattle.mpy_tree.specs.declared.typing.Ty.{Ty}
use Rattle.mpy_tree.specs.declared.typing.Ty.TheVariants as ty
use Rattle.mpy_tree.specs.declared.typing.Fact.{Fact}
use Rattle.mpy_tree.specs.Leasts.{least, lesser}
use Rattle.mpy_tree.specs.Syntax.{Routine}
use Rattle.mpy_tree.specs.Typings.{IsTyping}
use Rattle.mpy_parser.specs.Programs.{IsProgram}
use Rattle.mpy_parser.proofs.Judged.{judged as text_judged}
use Rattle.bounds_reader.proofs.Judged.{read_or_refused as bounds_judged}
use Rattle.eml_reader.proofs.Judged.{judged as rules_judged}
use Rattle.choice_tree.specs.Selections.{most_cost}
use Rattle.choice_tree.specs.WeightedTrees.{size}
use Rattle.input_space.specs.Tasks.{HasManyNodes, WeighsTooMuch, CostsTooMuch, IsTooLarge, Task, result_type, tree_of, weights}
use Rattle.task_read.specs.ProgramLaws.{IsJudged, ReadOrRefused}
use Rattle.input_space.specs.Tasks.{entry_at}
use Rattle.task_read.specs.Sources.{bounds_step, program_step, refusal, rules_step}
use Rattle.task_read.specs.Steps.{Step, ◌>>=◌, done, refuse_if}
use Rattle.task_read.specs.TaskLaws.{TaskReadOrRefused}
use Rattle.task_read.specs.TaskSteps.{GiveOneType, parts_step}
use Rattle.mpy_tree.specs.Entries.{Entry}
use Rattle.task_read.specs.TypedPrograms.{by_sharing, by_text, by_typing, shared_lines}
use Rattle.task_read.proofs.TypedOrFaulted.{IsTypedOrNot, typed_or_faulted}

-- some lines have a least one
some_least : (n : ℕ) (o : Option ℕ) → (m : ℕ) × (lesser (Some n) o ≡ Some m)
some_least n None = (n, refl)
some_least n (Some k) = (min n k, refl)

least_line : (n : ℕ) (ns : List ℕ) → (m : ℕ) × (least (n ∷ ns) ≡ Some m)
unfolding least
least_line n ns = some_least n (least ns)

by_lines : (bytes : List ℕ) (e : Entry) (p : List Routine) (T : List Fact) → IsProgram bytes p → IsTyping T p e → (ns : List ℕ) → shared_lines T p ≡ ns → IsJudged bytes e
by_lines bytes e p T read typing [] is = inl (p, T, record { read = read; typing = typing; unshared = is })
by_lines bytes e p T read typing (n ∷ ns) is =
    let line = least_line n ns in
    inr (cause.Shared, line.0, by_sharing p T cause.Shared line.0 read typing (refl, ap least is ∙ line.1))

by_types : (bytes : List ℕ) (e : Entry) (p : List Routine) → IsProgram bytes p → IsTypedOrNot p e → IsJudged bytes e
by_types bytes e p read (inl t) = by_lines bytes e p t.0 read t.1 (shared_lines t.0 p) refl
by_types bytes e p read (inr f) = inr (f.0, f.1, by_typing p f.0 f.1 read f.2)

pub judged : ReadOrRefused
judged bytes e = elim (text_judged bytes) [
  | inl read ↦ by_types bytes e read.0 read.1 (typed_or_faulted read.0 e)
  | inr f ↦ inr (f.0, f.1, by_text f.0 f.1 f.2)
]

-- STEPS

-- the step gives something, or refuses
abbrev Answers : {A : Type 0} → Step A → Type 0
Answers {A} s = ((a : A) × s.gives a) ⊎ ((r : Refusal) × s.refuses r)

answers_then : {A B : Type 0} (s : Step A) (f : A → Step B) → Answers s → ((a : A) → Answers (f a)) → Answers (s >>= f)
answers_then {A} {B} s f one more = elim one [
  | inl a ↦ second a.0 a.1 (more a.0)
  | inr r ↦ inr (r.0, inl r.1)
]
  where
    second : (a : A) → s.gives a → Answers (f a) → Answers (s >>= f)
    second a given (inl b) = inl (b.0, record { first = a; given = given; second = b.1 })
    second a given (inr r) = inr (r.0, inr (record { first = a; given = given; second = r.1 }))

answers_done : {A : Type 0} (a : A) → Answers (done a)
answers_done a = inl (a, refl)

answers_if : (P : Type 0) (q : Refusal) → P ⊎ (P → ⊥) → Answers (refuse_if P q)
answers_if P q (inl holds) = inr (q, (holds, refl))
answers_if P q (inr fails) = inl (tt, fails)

bounds_answers : (text : List ℕ) → Answers (bounds_step text)
bounds_answers text = elim (bounds_judged text) [
  | inl b ↦ inl b
  | inr f ↦ inr (refusal source.Bounds f.0 f.1, (refl, f.2))
]

program_answers : (s : Source) (text : List ℕ) (e : Entry) → Answers (program_step s text e)
program_answers s text e = elim (judged text e) [
  | inl p ↦ inl (record { program = p.0; types = p.1 }, p.2)
  | inr f ↦ inr (refusal s f.0 f.1, (refl, f.2))
]

rules_answer : (text : List ℕ) → Answers (rules_step text)
rules_answer text = elim (rules_judged text) [
  | inl rules ↦ inl rules
  | inr f ↦ inr (refusal source.Rules f.0 f.1, (refl, f.2))
]

-- A TASK

number : Option Ty → ℕ
number None = 0
number (Some ty.Int) = 1
number (Some ty.Bool) = 2
number (Some ty.List) = 3
number (Some ty.Text) = 4

numbered : ℕ → Option Ty
numbered zero = None
numbered (suc zero) = Some ty.Int
numbered (suc (suc zero)) = Some ty.Bool
numbered (suc (suc (suc zero))) = Some ty.List
numbered (suc (suc (suc (suc n)))) = Some ty.Text

by_number : (t : Option Ty) → numbered (number t) ≡ t
unfolding number numbered
by_number None = refl
by_number (Some ty.Int) = refl
by_number (Some ty.Bool) = refl
by_number (Some ty.List) = refl
by_number (Some ty.Text) = refl

-- two types, each of which may be missing, are one or not
pub one_or_not : (a b : Option Ty) → (a ≡ b) ⊎ (a ≡ b → ⊥)
one_or_not a b = elim (cases_lt (number a) (number b)) [
  | inl less ↦ inr (λ same. let numbers = ap number same in omega (arith, less, numbers))
  | inr more ↦ elim (cases_lt (number b) (number a)) [
    | inl less ↦ inr (λ same. let numbers = ap number same in omega (arith, less, numbers))
    | inr other ↦ (
        let numbers : number a ≡ number b = omega (arith, more, other) in
        inl (sym (by_number a) ∙ ap numbered numbers ∙ by_number b))
  ]
]

differ_or_not : (a b : Option Ty) → (a ≡ b → ⊥) ⊎ ((a ≡ b → ⊥) → ⊥)
differ_or_not a b = elim (one_or_not a b) [ inl same ↦ inr (λ differ. differ same) | inr differ ↦ inl differ ]

below_or_not : (m n : ℕ) → (m < n) ⊎ (m < n → ⊥)
below_or_not m n = elim (cases_lt m n) [ inl less ↦ inl less | inr more ↦ inr (λ less. omega (arith, more, less)) ]

either_or_not : (P Q : Type 0) → P ⊎ (P → ⊥) → Q ⊎ (Q → ⊥) → (P ⊎ Q) ⊎ (P ⊎ Q → ⊥)
either_or_not P Q (inl p) q = inl (inl p)
either_or_not P Q (inr not) (inl q) = inl (inr q)
either_or_not P Q (inr not) (inr nor) = inr (λ either. elim either [ inl p ↦ not p | inr q ↦ nor q ])

one_type_or_not : (k : Task) → (GiveOneType k → ⊥) ⊎ ((GiveOneType k → ⊥) → ⊥)
one_type_or_not k = differ_or_not (result_type k.bounds k.reference k.reference_types) (result_type k.bounds k.submission k.submission_types)

of_record : (P Q : Type 0) → (P → Q) → (Q → P) → P ⊎ (P → ⊥) → Q ⊎ (Q → ⊥)
of_record P Q made read (inl p) = inl (made p)
of_record P Q made read (inr not) = inr (λ q. not (read q))

too_large_or_not : (k : Task) → IsTooLarge k ⊎ (IsTooLarge k → ⊥)
too_large_or_not k =
    either_or_not _ _
    (of_record _ (HasManyNodes k) (λ many. record { many = many }) (λ large. large.many) (below_or_not 1000000 (size (tree_of k))))
    (either_or_not _ _
    (of_record _ (WeighsTooMuch k) (λ many. record { many = many }) (λ large. large.many) (below_or_not 1000000 (weights k)))
    (of_record _ (CostsTooMuch k) (λ many. record { many = many }) (λ large. large.many) (below_or_not 4096 (most_cost (tree_of k)))))

parts_answer : (bounds reference submission rules : List ℕ) → Answers (parts_step bounds reference submission rules)
parts_answer bounds reference submission rules =
    answers_then _ _ (bounds_answers bounds) (λ b.
    answers_then _ _ (program_answers source.Reference reference (entry_at b)) (λ r.
    answers_then _ _ (program_answers source.Submission submission (entry_at b)) (λ s.
    answers_then _ _ (rules_answer rules) (λ e. answers_done _))))

pub task_judged : TaskReadOrRefused
task_judged bounds reference submission rules =
    answers_then _ _ (parts_answer bounds reference submission rules) (λ k.
    answers_then _ _ (answers_if _ _ (one_type_or_not k)) (λ same. answers_then _ _ (answers_if _ _ (too_large_or_not k)) (λ small. answers_done k)))
