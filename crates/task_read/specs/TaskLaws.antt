-- What task four texts spell, and whether they are refused, are one thing.
use Rattle.std.specs.Prelude.{◌≡◌, ◌⊎◌, ℕ, List}
use Rattle.mpy_tree.specs.declared.refusal.Refusal.{Refusal}
use Rattle.choice_tree.specs.Templates.{Correction}
use Rattle.eml_reader.specs.RuleFiles.{IsRules}
use Rattle.input_space.specs.ProperRules.{AreProperRules}
use Rattle.input_space.specs.Tasks.{IsSound, Task}
use Rattle.task_read.specs.TaskSteps.{task_step}

-- four texts spell one task at most
abbrev pub OneTask : Type 0
OneTask =
    (bounds reference submission rules : List ℕ) (k other : Task)
    → (task_step bounds reference submission rules).gives k
    → (task_step bounds reference submission rules).gives other
    → k ≡ other

-- four texts spell a task, or are refused
abbrev pub AreJudged : List ℕ → List ℕ → List ℕ → List ℕ → Type 0
AreJudged bounds reference submission rules =
    ((k : Task) × (task_step bounds reference submission rules).gives k)
    ⊎ ((r : Refusal) × (task_step bounds reference submission rules).refuses r)

-- any four texts are one or the other
abbrev pub TaskReadOrRefused : Type 0
TaskReadOrRefused =
    (bounds reference submission rules : List ℕ) → AreJudged bounds reference submission rules

-- texts that spell a task aren't refused
abbrev pub NotTaskAndRefused : Type 0
NotTaskAndRefused =
    (bounds reference submission rules : List ℕ) (k : Task) (r : Refusal)
    → (task_step bounds reference submission rules).gives k
    → (task_step bounds reference submission rules).refuses r
    → ⊥

-- texts are refused once
abbrev pub OneTaskRefusal : Type 0
OneTaskRefusal =
    (bounds reference submission rules : List ℕ) (r other : Refusal)
    → (task_step bounds reference submission rules).refuses r
    → (task_step bounds reference submission rules).refuses other
    → r ≡ other

-- the rules that a text spells are proper
abbrev pub RulesAreProper : Type 0
RulesAreProper =
    (bytes : List ℕ) (rules : List Correction) → IsRules bytes rules → AreProperRules rules

-- a task that texts spell is sound
abbrev pub TasksAreSound : Type 0
TasksAreSound =
    (bounds reference submission rules : List ℕ) (k : Task)
    → (task_step bounds reference submission rules).gives k
    → IsSound k
