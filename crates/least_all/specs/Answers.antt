-- What is answered where all best corrections are asked for.
use Rattle.std.specs.Prelude.{◌≡◌, ◌≢◌, ◌↔◌, ◌≤◌, ◌+◌, ℕ, Bool, IsTrue, List, [], map, take}
use Rattle.std.specs.Prelude.{length, All, AllPairs}
use Rattle.std.specs.List.{Contains}
use Rattle.choice_tree.specs.declared.selection.Choice.{Choice}
use Rattle.cost_levels.specs.Counts.{count_most}
use Rattle.cost_levels.specs.Levels.{level}
use Rattle.input_space.specs.declared.session.Query.TheVariants as query
use Rattle.input_space.specs.declared.session.Session.{Session}
use Rattle.input_space.specs.Sessions.{IsBacked, IsHonest, logged}
use Rattle.input_space.specs.TaskCoding.{coding}
use Rattle.input_space.specs.Tasks.{Task, tree_of}
use Rattle.input_space.specs.TaskSpace.{space}
use Rattle.least_all.specs.declared.answer.Best.{Best}
use Rattle.least_all.specs.declared.answer.Best.TheVariants.{Listed, Many, Spent, NoMemory}
use Rattle.least_all.specs.BestLists.{AreTests, Tests, best_of}

-- the first `most` of the best of these selections, and whether these are all of them
pub record IsListed (k : Task) (ss : List (List Choice)) (most : ℕ) (picks : List (List Choice))
    (whole : Bool) : Type 0 where
  pub tests : Tests
  pub are : AreTests k tests
  pub first : picks ≡ take most (best_of tests ss)
  pub all : IsTrue whole ↔ (length (best_of tests ss) ≤ most)

-- each session asks where one of these selections fails, no two of the same one
pub record AskOf (ss : List (List Choice)) (xs : List Session) : Type 0 where
  pub asked : List (List Choice)
  pub queries : map (λ x. x.query) xs ≡ map query.Fail asked
  pub among : All (Contains ss) asked
  pub different : AllPairs (λ r s. r ≢ s) asked

-- The sessions ask of these selections; the formula of each states its query and has at least one
-- clause and at most 2147483647 variables; its log follows and is honest; and as many clauses were
-- logged as the budget has.
pub record IsSpent (k : Task) (ss : List (List Choice)) (budget : ℕ) (xs : List Session)
    : Type 0 where
  pub asks : AskOf ss xs
  pub backed : All (IsBacked (space k budget) (coding k) []) xs
  pub honest : All (IsHonest (coding k)) xs
  pub numbered : All (λ x. length x.formula.clauses + length x.log.steps ≤ 2147483647) xs
  pub spent : logged xs ≡ budget

-- what is answered of these selections
abbrev pub IsAnswer : Task → List (List Choice) → ℕ → ℕ → Best → Type 0
IsAnswer k ss most budget (Listed picks whole) = IsListed k ss most picks whole
IsAnswer k ss most budget Many = ⊥
IsAnswer k ss most budget (Spent sessions) = IsSpent k ss budget sessions
IsAnswer k ss most budget NoMemory = Unit {0}

-- the selections that the best list is of
abbrev pub live_at : Task → ℕ → List (List Choice)
live_at k cost = level (tree_of k) cost

-- they are more than 100,000
abbrev pub AreMany : Task → ℕ → Type 0
AreMany k cost = count_most ≤ length (live_at k cost)

-- What is answered of the live selections of a cost: where they are more than 100,000 that alone,
-- if memory is there.
abbrev pub IsBestOf : Task → ℕ → ℕ → ℕ → Best → Type 0
IsBestOf k cost most budget Many = AreMany k cost
IsBestOf k cost most budget (Listed picks whole) =
    (AreMany k cost → ⊥) × IsAnswer k (live_at k cost) most budget (Listed picks whole)
IsBestOf k cost most budget (Spent sessions) =
    (AreMany k cost → ⊥) × IsAnswer k (live_at k cost) most budget (Spent sessions)
IsBestOf k cost most budget NoMemory = Unit {0}
