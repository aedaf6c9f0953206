-- Cases side by side: what values that are truth tables read as in each lane.
use Rattle.std.specs.Prelude.{◌≡◌, ◌<◌, ◌≤◌, ◌-◌, min, ℕ, true, Bool, List, [], ◌∷◌, All, length}
use Rattle.std.specs.Prelude.{map, Option, Some, slice_get}
use Rattle.std.specs.List.{AllZip}
use Rattle.mpy_tree.specs.declared.limits.Limits.{Limits}
use Rattle.mpy_tree.specs.declared.typing.Ty.{Ty}
use Rattle.mpy_tree.specs.Fitting.{all_fit_as, type_of}
use Rattle.input_space.specs.declared.case.Case.{Case}
use Rattle.sym_values.specs.declared.value.SymValue.{SymValue}
use Rattle.sym_values.specs.Forms.{form_for}
use Rattle.sym_values.specs.Reading.{read, sure}
use Rattle.sym_values.specs.Results.{IsValueIn}
use Rattle.bit_lanes.specs.declared.lanes.Lanes.{Lanes}
use Rattle.bit_lanes.specs.Lane.{IsTable, lane_of, reads_table}

-- the types of the values of the first case
abbrev pub first_types : List Case → List Ty
first_types [] = []
first_types (c ∷ cs) = map type_of c.values

-- from 1 to 64 cases, whose values have the types of the first and fit the limits
pub record FillLanes (l : Limits) (cases : List Case) : Type 0 where
  pub some : 0 < length cases
  pub few : length cases ≤ 64
  pub fit : All (λ c. all_fit_as l (first_types cases) c.values ≡ true) cases

-- the case of a lane: past the last case the last
abbrev pub case_in : List Case → ℕ → Option Case
case_in cases lane = slice_get cases (min lane (length cases - 1))

-- every table belongs to the logic
abbrev pub Owns : Lanes → ℕ → Type 0
Owns s table = IsTable table

-- a value of tables, of the form that the values of a type have at the limits
abbrev pub IsTabled : Limits → SymValue ℕ → Ty → Type 0
IsTabled l x t = (s : Lanes) → IsValueIn Owns s (form_for l t) x

-- one for each of these types
abbrev pub AreTabled : Limits → List (SymValue ℕ) → List Ty → Type 0
AreTabled l xs ts = AllZip (IsTabled l) xs ts

-- under the truth values of each lane they read as the values of its case
abbrev pub ReadAsCases : List Case → List (SymValue ℕ) → Type 0
ReadAsCases cases xs =
    (vs : List Bool) (c : Case) → case_in cases (lane_of 6 vs) ≡ Some c
    → map (read (reads_table vs)) xs ≡ map sure c.values
