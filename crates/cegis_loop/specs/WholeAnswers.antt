-- What the answer of a search with its closing question says.
use Rattle.std.specs.Prelude.{◌≡◌, ℕ, ◌≤◌, List, IfSome}
use Rattle.cegis_loop.specs.declared.outcome.Least.{Least}
use Rattle.cegis_loop.specs.declared.outcome.Least.TheVariants.{Found, Nothing, NoCase, Spent}
use Rattle.cegis_loop.specs.declared.outcome.Least.TheVariants.{NoMemory}
use Rattle.cegis_loop.specs.Space.{Space}
use Rattle.cegis_loop.specs.State.{State, Told}
use Rattle.cegis_loop.specs.Order.{IsWholeSearch, IsAtLeast, NoInput, NoChoice, Settled}
use Rattle.cegis_loop.specs.Order.{Unfinished}
use Rattle.cegis_loop.specs.Answers.{IsKept, IsSpent, Means}

-- How the questions of a search with its closing question end by its answer. Where memory lacked,
-- the questions tell nothing.
abbrev pub EndsWhole : {C I : Type 0} → Space C I → List I → List (Told C) → Least C → Type 0
EndsWhole s kept asked (Found c cost) =
    ((cases : ℕ) × IsWholeSearch s kept asked (Settled c cases)) × IsAtLeast asked cost
EndsWhole s kept asked Nothing = IsWholeSearch s kept asked NoChoice
EndsWhole s kept asked NoCase = IsWholeSearch s kept asked NoInput
EndsWhole s kept asked (Spent at_least) =
    IsWholeSearch s kept asked Unfinished × IsAtLeast asked at_least
EndsWhole s kept asked NoMemory = Unit {0}

-- as the answer of a search, but that the questions are those of a whole one
pub record IsWholeAnswer {C I : Type 0} (s : Space C I) (a : State C I) (answer : Least C)
    : Type 0 where
  pub means : Means s s.inputs answer
  pub means_on_kept : Means s a.kept answer
  pub kept : IsKept s a.kept
  pub budget : a.logged ≤ s.budget
  pub spent : IsSpent answer → a.logged ≡ s.budget
  pub asked : IfSome a.told (λ asked. EndsWhole s a.kept asked answer)
