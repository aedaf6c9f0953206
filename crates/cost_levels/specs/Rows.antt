-- What the rows of a table show.
use Rattle.std.specs.Prelude.{◌≡◌, ◌≤◌, ◌<◌, ◌^◌, ℕ, suc, List, [], ◌∷◌, ◌++◌, Some, length}
use Rattle.std.specs.Prelude.{All, slice_get}
use Rattle.cost_levels.specs.declared.rows.Row.{Row}
use Rattle.cost_levels.specs.declared.rows.Way.{Way}
use Rattle.cost_levels.specs.Plans.{Plan, Ways, done, at_pick, no_ways, way_and}

-- the row of an entry; its members can be numbered
pub record RowAt (rows : List Row) (entry : ℕ) : Type 0 where
  pub place : ℕ
  pub is : entry ≡ suc place
  pub row : Row
  pub at : slice_get rows place ≡ Some row
  pub few : length row.others.items < 2 ^ 32

-- the first of these members
pub record WayFirst (vs : List Way) : Type 0 where
  pub way : Way
  pub rest : List Way
  pub is : vs ≡ way ∷ rest

-- The table goes on from an entry as the plan does, and from a row to rows before it; the members
-- go on, each from an entry up to a number.
abbrev mutual
  pub Shows : List Row → ℕ → Plan → Type 0
  Shows rows entry done = entry ≡ 0
  Shows rows entry (at_pick number base ws) =
      (r : RowAt rows entry) × (r.row.number ≡ number) × (r.row.base ≤ r.place)
      × Shows rows r.row.base base × ShowWays rows r.place r.row.others.items ws

  pub ShowWays : List Row → ℕ → List Way → Ways → Type 0
  ShowWays rows most vs no_ways = vs ≡ []
  ShowWays rows most vs (way_and cost next ws) =
      (v : WayFirst vs) × (v.way.cost ≡ cost) × (v.way.next ≤ most) × Shows rows v.way.next next
      × ShowWays rows most v.rest ws

-- an entry from which the table goes on as some plan
abbrev pub IsEntry : List Row → ℕ → Type 0
IsEntry rows entry = (p : Plan) × Shows rows entry p

-- rows were appended
abbrev pub Grows : List Row → List Row → Type 0
Grows old new = (more : List Row) × (new ≡ old ++ more)

-- the row at a place goes on to entries of rows before it
pub record GoesBack (place : ℕ) (row : Row) : Type 0 where
  pub base : row.base ≤ place
  pub others : All (λ v. v.next ≤ place) row.others.items

-- a table whose rows go back
abbrev pub IsTable : List Row → Type 0
IsTable rows = (place : ℕ) (row : Row) → slice_get rows place ≡ Some row → GoesBack place row

-- and an entry of it
abbrev pub IsTableTo : List Row → ℕ → Type 0
IsTableTo rows entry = IsTable rows × (entry ≤ length rows)
