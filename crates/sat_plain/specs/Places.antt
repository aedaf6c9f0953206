-- Where literals stand: for each literal the places of its clauses, one list after the other.
use Rattle.std.specs.Prelude.{◌≡◌, ℕ, zero, suc, ◌+◌, ◌-◌, ◌*◌, ◌<◌, ◌≤◌, ◌==◌, true, List, [], ◌∷◌}
use Rattle.std.specs.Prelude.{length, slice_get, slice_index_or, Some, All, if◌then◌else◌}
use Rattle.clause_base.specs.declared.lit.Lit.{Lit}
use Rattle.clause_base.specs.declared.clause.Clause.{Clause}
use Rattle.sat_plain.specs.Trails.{is_among}

-- where the list of each number begins, and all lists
pub record Index : Type 0 where
  pub starts : List ℕ
  pub places : List ℕ

-- the number of a literal's list
abbrev pub list_of : Lit → ℕ
list_of l = 2 * (l.var - 1) + (if l.positive then 1 else 0)

abbrev pub start_of : Index → ℕ → ℕ
start_of index h = slice_index_or index.starts h 0

-- a place is in the list of a number
pub record StandsIn (index : Index) (h k : ℕ) : Type 0 where
  pub at : ℕ
  pub after : start_of index h ≤ at
  pub before : at < start_of index (h + 1)
  pub is : slice_get index.places at ≡ Some k

-- each clause is in the list of each of its literals
pub record IsIndexOf (vars : ℕ) (clauses : List Clause) (index : Index) : Type 0 where
  pub many : length index.starts ≡ 2 * vars + 1
  pub ends : All (λ e. e ≤ length index.places) index.starts
  pub within : All (λ k. k < length clauses) index.places
  pub holds : (k : ℕ) (c : Clause) (l : Lit) → slice_get clauses k ≡ Some c
      → is_among l c.lits ≡ true
      → StandsIn index (list_of l) k

-- how many literals have the list of a number
abbrev pub count_of : ℕ → List Lit → ℕ
count_of h [] = 0
count_of h (l ∷ lits) = (if list_of l == h then 1 else 0) + count_of h lits

abbrev pub total_of : ℕ → List Clause → ℕ
total_of h [] = 0
total_of h (c ∷ clauses) = count_of h c.lits + total_of h clauses

-- the sum of the first so many numbers
abbrev pub sum_of : ℕ → List ℕ → ℕ
sum_of zero xs = 0
sum_of (suc n) [] = 0
sum_of (suc n) (x ∷ xs) = x + sum_of n xs

-- the literals were counted
pub record AreCounted (old new : List ℕ) (lits : List Lit) : Type 0 where
  pub each : (h : ℕ) → h < length old
      → slice_index_or new h 0 ≡ slice_index_or old h 0 + count_of h lits

pub record AreTotals (clauses : List Clause) (counts : List ℕ) : Type 0 where
  pub each : (h : ℕ) → h < length counts → slice_index_or counts h 0 ≡ total_of h clauses

-- each number is the sum of those up to it
pub record AreSums (counts sums : List ℕ) : Type 0 where
  pub many : length sums ≡ length counts
  pub each : (h : ℕ) → h < length counts → slice_index_or sums h 0 ≡ sum_of (h + 1) counts

-- each list is still to be filled, from its end
pub record IsEmpty (clauses : List Clause) (sums places : List ℕ) : Type 0 where
  pub counts : List ℕ
  pub totals : AreTotals clauses counts
  pub are : AreSums counts sums
  pub room : length places ≡ sum_of (length counts) counts
  pub within : All (λ k. k < length clauses) places
