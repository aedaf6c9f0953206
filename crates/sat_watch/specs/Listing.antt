-- The clauses by their greatest variable: for each variable the number of the last clause with it,
-- and for each clause the number of the one before it with the same.
use Rattle.std.specs.Prelude.{◌≡◌, ℕ, ◌-◌, ◌<◌, ◌≤◌, List, [], ◌∷◌, ◌++◌, length, take, slice_get}
use Rattle.std.specs.Prelude.{slice_index_or, slice_set, Some}
use Rattle.clause_base.specs.declared.clause.Clause.{Clause}
use Rattle.clause_base.specs.Literals.{IsGreatest}
use Rattle.clause_base.specs.Follows.{literals_at}

pub record Lists : Type 0 where
  pub heads : List ℕ
  pub nexts : List ℕ

abbrev pub head_of : Lists → ℕ → ℕ
head_of lists v = slice_index_or lists.heads (v - 1) 0

abbrev pub next_of : Lists → ℕ → ℕ
next_of lists number = slice_index_or lists.nexts (number - 1) 0

-- one clause more, with a greatest variable and a number
abbrev pub listed : Lists → ℕ → ℕ → Lists
listed lists v number = record {
  heads = slice_set lists.heads (v - 1) number;
  nexts = lists.nexts ++ head_of lists v ∷ [];
}

-- one clause more, which is empty
abbrev pub unlisted : Lists → Lists
unlisted lists = record { heads = lists.heads; nexts = lists.nexts ++ 0 ∷ [] }

-- the number of the last clause that has this greatest variable, or 0
pub record IsLast (v n : ℕ) (clauses : List Clause) : Type 0 where
  pub within : n ≤ length clauses
  pub is : 0 < n → IsGreatest v (literals_at clauses (n - 1))
  pub none : (k : ℕ) (c : Clause) → slice_get clauses k ≡ Some c → n ≤ k → IsGreatest v c.lits → ⊥

pub record IsListing (vars : ℕ) (clauses : List Clause) (lists : Lists) : Type 0 where
  pub many : length lists.heads ≡ vars
  pub each : length lists.nexts ≡ length clauses
  pub heads : (v : ℕ) → 0 < v → v ≤ vars → IsLast v (head_of lists v) clauses
  pub nexts : (v k : ℕ) → 0 < v → k < length clauses → IsGreatest v (literals_at clauses k)
      → IsLast v (slice_index_or lists.nexts k 0) (take k clauses)
