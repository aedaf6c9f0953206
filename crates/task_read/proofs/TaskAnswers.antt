-- What the reader of a task answers, from what it finds.
use Rattle.std.proofs.Common.{Result, Ok, Err, IfOk, IfErr}
use Rattle.mpy_tree.specs.declared.refusal.Refusal.{Refusal}
use Rattle.input_space.specs.declared.task.Task as code
use Rattle.input_space.specs.TaskParts.{task_with}
use Rattle.input_space.specs.Tasks.{Task}
use Rattle.task_read.specs.declared.error.TaskError.{TaskError}
use Rattle.task_read.specs.declared.error.TaskError.TheVariants.{Refused, NoMemory}
use Rattle.task_read.specs.Errors.{IsTaskGiven, IsTaskRefused, RefusesAs}
use Rattle.task_read.specs.Steps.{IsOne, Step}

-- a task that the texts spell is given
pub given_by : (s : Step Task) (r : Result code.Task TaskError) → IsOne s → IfOk r (λ t. s.gives (task_with t)) → IfErr r (RefusesAs s.refuses)
    → (k : Task) → s.gives k → IsTaskGiven k r
given_by s (Ok t) one ok err k given = one.gives (task_with t) k ok given
given_by s (Err (Refused q)) one ok err k given = one.not_both k q given err
given_by s (Err NoMemory) one ok err k given = tt

-- a refusal of the texts is answered
pub refused_by : (s : Step Task) (r : Result code.Task TaskError) → IsOne s → IfOk r (λ t. s.gives (task_with t)) → IfErr r (RefusesAs s.refuses)
    → (q : Refusal) → s.refuses q → IsTaskRefused q r
refused_by s (Ok t) one ok err q refused = one.not_both (task_with t) q ok refused
refused_by s (Err (Refused p)) one ok err q refused = one.refuses p q err refused
refused_by s (Err NoMemory) one ok err q refused = tt
