-- The rewritings of a task's submission.
use Rattle.std.specs.Prelude.{◌≡◌, ℕ, List, []}
use Rattle.mpy_tree.specs.Rules.{single}
use Rattle.mpy_tree.specs.Sharing.{shared}
use Rattle.mpy_tree.specs.Syntax.{Routine}
use Rattle.mpy_tree.specs.Typings.{AreTypes, set_of}
use Rattle.choice_tree.specs.Rewriting.{Edit}
use Rattle.mpy_round_trip.specs.Proper.{IsProper}
use Rattle.input_space.specs.Tasks.{IsSound, Rewrites, Task, entry_at}

-- the types of the submission's names type the program, and none of its statements shares a list
pub record IsTypedAndUnshared (k : Task) (p : List Routine) : Type 0 where
  pub typed : AreTypes k.submission_types p (entry_at k.bounds)
  pub unshared : shared (single (set_of k.submission_types)) p ≡ []

-- so it is with each rewriting of the submission of a task that the readers give
abbrev pub CandidatesAreTypedAndUnshared : Type 0
CandidatesAreTypedAndUnshared =
    (k : Task) (p : List Routine) (cost : ℕ) (edits : List Edit)
    → IsSound k → Rewrites k p cost edits → IsTypedAndUnshared k p

-- and a text can spell it
abbrev pub CandidatesAreProper : Type 0
CandidatesAreProper =
    (k : Task) (p : List Routine) (cost : ℕ) (edits : List Edit)
    → IsSound k → Rewrites k p cost edits → IsProper p
