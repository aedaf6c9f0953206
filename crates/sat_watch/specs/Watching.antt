-- Watched literals: lists of clauses by literal, of which nothing is claimed but that they are safe
-- to go over.
use Rattle.std.specs.Prelude.{◌≡◌, ℕ, ◌-◌, ◌+◌, ◌*◌, ◌≤◌, List, length, All, if◌then◌else◌}
use Rattle.clause_base.specs.declared.lit.Lit.{Lit}
use Rattle.sat_watch.specs.declared.watches.Watch.{Watch}

-- how many variables and clauses there are
pub record Sizes : Type 0 where
  pub vars : ℕ
  pub clauses : ℕ

-- the number of a literal's list
abbrev pub list_of : Lit → ℕ
list_of l = 2 * (l.var - 1) + (if l.positive then 1 else 0)

pub record AreWatches (vars clauses : ℕ) (firsts : List ℕ) (items : List Watch) : Type 0 where
  pub few : clauses ≤ 2147483647
  pub two : length items ≡ 2 * clauses
  pub many : length firsts ≡ 2 * vars
  pub heads : All (λ n. n ≤ length items) firsts
  pub nexts : All (λ w. w.next ≤ length items) items
  pub lits : All (λ w. w.lit.var ≤ vars) items
