-- What holds while selections are tried one after another.
use Rattle.std.specs.Prelude.{◌≡◌, ◌≢◌, ◌∷◌, ◌++◌, [], List, map, All, AllPairs}
use Rattle.std.specs.List.{Contains}
use Rattle.mpy_tree.specs.View.{routines_of}
use Rattle.choice_tree.specs.declared.selection.Choice.{Choice}
use Rattle.cegis_loop.specs.State.{Fail}
use Rattle.input_space.specs.declared.session.Session.{Session}
use Rattle.input_space.specs.Sessions.{logged, question_of}
use Rattle.input_space.specs.TaskParts.{task_with}
use Rattle.input_space.specs.Tasks.{Task}
use Rattle.input_space.specs.TaskSpace.{wanted, wanted_inputs}
use Rattle.certificate_laws.specs.BestLaws.{Makes}
use Rattle.solver_questions.specs.Asking.{Asking, topic_of}
use Rattle.least_all.specs.declared.listing.Found.{Found}
use Rattle.least_all.specs.declared.listing.Listing.{Listing}
use Rattle.least_all.specs.declared.listing.Tried.{Tried}
use Rattle.least_all.specs.declared.listing.Verdict.{Verdict}
use Rattle.least_all.specs.declared.listing.Verdict.TheVariants as verdict
use Rattle.least_all.specs.BestLists.{AreTests, SelectionAgrees, Tests, best_of}

abbrev pub task_of : Listing → Task
task_of l = task_with l.runs.task.now

-- an input on which the reference gives a value, and how it ends there
pub record IsTried (k : Task) (e : Tried) : Type 0 where
  pub input : Contains (wanted_inputs k) e.case
  pub end_is : wanted k e.case.values ≡ e.end

-- a selection, and the program that it makes
abbrev pub IsFound : Task → Found → Type 0
IsFound k f = Makes k f.selection (routines_of f.program)

-- The inputs that were tried and the programs that were found are the task's, and so are the
-- questions.
pub record IsListing (l : Listing) : Type 0 where
  pub tried : All (IsTried (task_of l)) l.tried.items
  pub found : All (IsFound (task_of l)) l.found.items
  pub about : (topic_of l.questions).task ≡ task_of l

abbrev pub selections_in : List Found → List (List Choice)
selections_in fs = map (λ f. f.selection) fs

-- what was found is what these selections have that agrees, each program once
abbrev pub HasBest : Task → List (List Choice) → List Found → Type 0
HasBest k done fs = (t : Tests) → AreTests k t → selections_in fs ≡ best_of t done

-- the sessions ask where one of these selections fails, no two of the same one
pub record HasAsked (done : List (List Choice)) (xs : List Session) : Type 0 where
  pub asked : List (List Choice)
  pub questions : map (λ x. question_of x.query) xs ≡ map Fail asked
  pub among : All (Contains done) asked
  pub different : AllPairs (λ r s. r ≢ s) asked

-- what is found out about a selection, behind the question that was asked
abbrev pub IsVerdict : Task → List Choice → Asking → Verdict → Type 0
IsVerdict k s q verdict.Agrees = SelectionAgrees k s
IsVerdict k s q verdict.Fails = SelectionAgrees k s → ⊥
IsVerdict k s q verdict.Spent = logged q.sessions ≡ q.budget

-- the task is the same, and the budget
pub record SameTopic (old new : Listing) : Type 0 where
  pub task : new.runs.task.now ≡ old.runs.task.now
  pub budget : new.questions.budget ≡ old.questions.budget

-- One selection more may have been asked about.
abbrev pub AsksMore : List Choice → List Session → List Session → Type 0
AsksMore s old new =
    (done : List (List Choice)) → (Contains done s → ⊥) → HasAsked done old
    → HasAsked (done ++ s ∷ []) new
