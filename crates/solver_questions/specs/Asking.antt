-- What is asked about, and what holds while it is asked.
use Rattle.std.specs.Prelude.{◌≡◌, ◌≤◌, ℕ, ◌+◌, false, List, [], ◌∷◌, ◌++◌, All, length, map}
use Rattle.std.specs.Prelude.{Some}
use Rattle.choice_tree.specs.declared.selection.Choice.{Choice}
use Rattle.cegis_loop.specs.Space.{Space}
use Rattle.cegis_loop.specs.State.{State}
use Rattle.input_space.specs.declared.case.Case.{Case}
use Rattle.input_space.specs.declared.session.Session.{Session}
use Rattle.input_space.specs.declared.task.TaskParts.{TaskParts}
use Rattle.input_space.specs.Sessions.{IsBacked, IsHonest, NoneEmpty, is_refuted, logged, told_of}
use Rattle.input_space.specs.TaskCoding.{coding}
use Rattle.input_space.specs.TaskParts.{task_with}
use Rattle.input_space.specs.Tasks.{Task}
use Rattle.input_space.specs.TaskSpace.{space}
use Rattle.query_build.specs.Asking.{AreWanted}

-- the parts of a task, how many clauses may be logged, the cases that are kept, and the sessions
pub record Asking : Type 0 where
  pub parts : TaskParts
  pub budget : ℕ
  pub kept : List Case
  pub sessions : List Session

abbrev pub task_of : Asking → Task
task_of a = task_with a.parts

-- a task, and how many clauses may be logged
pub record Topic : Type 0 where
  pub task : Task
  pub budget : ℕ

abbrev pub topic_of : Asking → Topic
topic_of a = record { task = task_of a; budget = a.budget }

abbrev pub space_of : Topic → Space (List Choice) Case
space_of t = space t.task t.budget

-- the sessions tell the questions
abbrev pub seen_in : Asking → State (List Choice) Case
seen_in a = record {
  kept = a.kept;
  told = Some (map told_of a.sessions);
  logged = logged a.sessions;
}

-- a session that isn't refuted has no empty clause
abbrev pub HasNoEmptyStep : Session → Type 0
HasNoEmptyStep x = is_refuted x.log.steps ≡ false → NoneEmpty x.log.steps

-- the numbers of a session's clauses keep their limit
abbrev pub IsNumbered : Session → Type 0
IsNumbered x = length x.formula.clauses + length x.log.steps ≤ 2147483647

-- the kept cases are inputs on which the reference gives a value; each session's formula states its
-- question, and its log follows and is honest; no more clauses are logged than may be
pub record IsAsking (a : Asking) : Type 0 where
  pub wanted : AreWanted (task_of a) a.kept
  pub backed : All (IsBacked (space_of (topic_of a)) (coding (task_of a)) a.kept) a.sessions
  pub honest : All (IsHonest (coding (task_of a))) a.sessions
  pub unrefuted : All HasNoEmptyStep a.sessions
  pub numbered : All IsNumbered a.sessions
  pub within : logged a.sessions ≤ a.budget

-- and so many clauses are logged
pub record IsCounted (count : ℕ) (a : Asking) : Type 0 where
  pub count_is : count ≡ logged a.sessions
  pub asking : IsAsking a

-- one session more
abbrev pub and_session : Asking → Session → Asking
and_session a x = record {
  parts = a.parts;
  budget = a.budget;
  kept = a.kept;
  sessions = a.sessions ++ x ∷ [];
}

-- and one kept case more
abbrev pub and_case : Asking → Case → Session → Asking
and_case a x y = record {
  parts = a.parts;
  budget = a.budget;
  kept = a.kept ++ x ∷ [];
  sessions = a.sessions ++ y ∷ [];
}
