-- The best list of a task: the programs of live selections that agree with the reference.
use Rattle.std.specs.Prelude.{◌≡◌, ◌↔◌, ℕ, Bool, not, IsTrue, List, [], ◌∷◌, map, filter}
use Rattle.std.specs.List.{Contains}
use Rattle.mpy_tree.specs.Equality.{without_lines}
use Rattle.mpy_tree.specs.Syntax.{Routine}
use Rattle.choice_tree.specs.declared.selection.Choice.{Choice}
use Rattle.choice_tree.specs.declared.tree.WProg.{WProg}
use Rattle.choice_tree.specs.Rewriting.{Edit}
use Rattle.choice_tree.specs.StatementViews.{weighted_prog}
use Rattle.cost_levels.specs.Levels.{level}
use Rattle.input_space.specs.Agreement.{Agrees}
use Rattle.input_space.specs.Tasks.{IsBestOf, IsSound, Task, tree_of}
use Rattle.certificate_laws.specs.BestLaws.{Makes}

-- the program that a selection makes agrees with the reference on all inputs
abbrev pub SelectionAgrees : Task → List Choice → Type 0
SelectionAgrees k s = (p : List Routine) → Makes k s p → Agrees k.bounds k.reference p

-- two programs are the same, lines aside
abbrev pub AreSame : List Routine → List Routine → Type 0
AreSame p q = map without_lines p ≡ map without_lines q

-- and so are those that two selections make
abbrev pub MakeTheSame : Task → List Choice → List Choice → Type 0
MakeTheSame k s t = (p q : List Routine) → Makes k s p → Makes k t q → AreSame p q

-- tests of selections
pub record Tests : Type 0 where
  pub agrees : List Choice → Bool
  pub same : List Choice → List Choice → Bool

-- They tell whether the program of a selection agrees, and whether two make the same one.
pub record AreTests (k : Task) (t : Tests) : Type 0 where
  pub agreement : (s : List Choice) → IsTrue (t.agrees s) ↔ SelectionAgrees k s
  pub sameness : (r s : List Choice) → IsTrue (t.same r s) ↔ MakeTheSame k r s

-- the elements of a list without those that are the same as an earlier one
abbrev pub firsts : {A : Type 0} → (A → A → Bool) → List A → List A
firsts same [] = []
firsts same (x ∷ xs) = x ∷ filter (λ y. not (same x y)) (firsts same xs)

-- those of these selections whose programs agree, in their order, each program once
abbrev pub best_of : Tests → List (List Choice) → List (List Choice)
best_of t ss = firsts t.same (filter t.agrees ss)

-- those of the live selections of a cost
abbrev pub best_list : Tests → Task → ℕ → List (List Choice)
best_list t k cost = best_of t (level (tree_of k) cost)

-- one of these selections makes this program, lines aside
pub record IsMadeBy (k : Task) (ss : List (List Choice)) (p : List Routine) : Type 0 where
  pub selection : List Choice
  pub among : Contains ss selection
  pub same : (q : List Routine) → Makes k selection q → AreSame p q

-- Each best rewriting is in the best list of its cost, lines aside. The task's tree is that of a
-- weighted program.
abbrev pub BestProgramsAreListed : Type 0
BestProgramsAreListed =
    (k : Task) (w : WProg) (t : Tests) (p : List Routine) (cost : ℕ) (edits : List Edit)
    → IsSound k → weighted_prog w ≡ tree_of k → AreTests k t → IsBestOf k p cost edits
    → IsMadeBy k (best_list t k cost) p
