-- What rules without a fault keep.
use Rattle.std.specs.Prelude.{◌≡◌, ◌≤◌, List, All, length, None}
use Rattle.choice_tree.specs.Templates.{Correction, KeepPrimes}
use Rattle.eml_match.specs.Resolutions.{depth}
use Rattle.eml_faults.specs.Sides.{set_count}
use Rattle.eml_faults.specs.LimitFaults.{limit_fault}
use Rattle.eml_faults.specs.MeaningFaults.{meaning_fault}

-- a rule within the limits
pub record IsSmall (r : Correction) : Type 0 where
  pub cost_from : 1 ≤ r.cost
  pub cost_to : r.cost ≤ 9
  pub left_depth : depth r.left ≤ 32
  pub right_depth : depth r.right ≤ 32
  pub sets : set_count r.right ≤ 64

-- rules that pass no limit are small, and no more than 64
abbrev pub SmallWithoutFault : Type 0
SmallWithoutFault =
    (rs : List Correction) → limit_fault rs ≡ None → (length rs ≤ 64) × All IsSmall rs

-- rules without a fault keep no metavariable that is a whole left side primed
abbrev pub PrimesWithoutFault : Type 0
PrimesWithoutFault = (rs : List Correction) → meaning_fault rs ≡ None → KeepPrimes rs
