-- What is graded, and what agrees with the reference.
use Rattle.std.specs.Prelude.{◌≡◌, ◌⊎◌, ℕ, ◌+◌, ◌<◌, List, [], map, Option, None, Some}
use Rattle.mpy_tree.specs.declared.typing.Fact.{Fact}
use Rattle.mpy_tree.specs.declared.typing.Ty.{Ty}
use Rattle.mpy_tree.specs.Entries.{Entry}
use Rattle.mpy_tree.specs.Rules.{single}
use Rattle.mpy_tree.specs.Running.{found}
use Rattle.mpy_tree.specs.SetTypes.{called, results}
use Rattle.mpy_tree.specs.Shapes.{program_shape}
use Rattle.mpy_tree.specs.Sharing.{shared}
use Rattle.mpy_tree.specs.Syntax.{Routine}
use Rattle.mpy_tree.specs.TypeSets.{only}
use Rattle.mpy_tree.specs.Typings.{IsTyping, set_of}
use Rattle.mpy_round_trip.specs.Proper.{IsProper}
use Rattle.bounds_reader.specs.declared.bounds.Bounds.{Bounds}
use Rattle.choice_tree.specs.Contexts.{Setting, setting_with}
use Rattle.choice_tree.specs.Growing.{weighted_program}
use Rattle.choice_tree.specs.Rewriting.{Edit, IsRewriting}
use Rattle.choice_tree.specs.Selections.{most_cost}
use Rattle.choice_tree.specs.Templates.{Correction}
use Rattle.choice_tree.specs.WeightedTrees.{Weighted, lifted, size}
use Rattle.tree_weights.specs.Weights.{program_weight}
use Rattle.eml_faults.specs.LimitFaults.{limit_fault}
use Rattle.eml_faults.specs.MeaningFaults.{meaning_fault}
use Rattle.input_space.specs.Agreement.{Agrees, EndsSomewhere, Failure, IsBest, IsFailure}
use Rattle.input_space.specs.Agreement.{compares}
use Rattle.input_space.specs.Inputs.{param_type}
use Rattle.input_space.specs.ProperRules.{AreProperRules}

-- the bounds, the two programs with the types of their names, and the rules
pub record Task : Type 0 where
  pub bounds : Bounds
  pub reference : List Routine
  pub reference_types : List Fact
  pub submission : List Routine
  pub submission_types : List Fact
  pub rules : List Correction

-- the rules, for the submission with the types of its names
abbrev pub setting : Task → Setting
setting k = setting_with k.rules k.submission (single (set_of k.submission_types))

-- the weighted tree of the submission
abbrev pub tree_of : Task → Weighted
tree_of k = weighted_program (setting k) k.submission

-- the rules make the program p of the submission
abbrev pub Rewrites : Task → List Routine → ℕ → List Edit → Type 0
Rewrites k p cost edits = IsRewriting (setting k) k.submission p cost edits

-- a rewriting of the submission that agrees, of the least cost of those that do
abbrev pub IsBestOf : Task → List Routine → ℕ → List Edit → Type 0
IsBestOf k p cost edits = IsBest (Rewrites k) k.bounds k.reference p cost edits

-- no rewriting of the submission agrees, at any cost
abbrev pub NoneAgrees : Task → Type 0
NoneAgrees k =
    (q : List Routine) (cost : ℕ) (edits : List Edit)
    → Rewrites k q cost edits → Agrees k.bounds k.reference q → ⊥

-- on an input the submission doesn't end as the reference does
abbrev pub IsFailureOf : Task → Failure → Type 0
IsFailureOf k f = IsFailure k.bounds k.reference k.submission f

-- the reference ends without a fault on some input
abbrev pub HasWanted : Task → Type 0
HasWanted k = EndsSomewhere k.bounds k.reference

-- the weighted tree has too many nodes
pub record HasManyNodes (k : Task) : Type 0 where
  pub many : 1000000 < size (tree_of k)

-- what the reference and the weighted tree weigh together
abbrev pub weights : Task → ℕ
weights k =
    program_weight k.bounds.limits k.reference_types k.bounds.entry
    (lifted (program_shape k.reference))
    + program_weight k.bounds.limits k.submission_types k.bounds.entry (tree_of k)

-- they weigh too much
pub record WeighsTooMuch (k : Task) : Type 0 where
  pub many : 1000000 < weights k

-- the greatest cost is too great
pub record CostsTooMuch (k : Task) : Type 0 where
  pub many : 4096 < most_cost (tree_of k)

-- there is too much to search
abbrev pub IsTooLarge : Task → Type 0
IsTooLarge k = HasManyNodes k ⊎ WeighsTooMuch k ⊎ CostsTooMuch k

-- the type of what the entry of a program gives, if it gives something
abbrev pub result_type : Bounds → List Routine → List Fact → Option Ty
result_type b p types = only (results (set_of types) (called p b.entry))

abbrev pub line_in : Option Routine → ℕ
line_in None = 1
line_in (Some r) = r.line

-- the line of the `def` of the entry
abbrev pub entry_line : Bounds → List Routine → ℕ
entry_line b p = line_in (found p b.entry)

-- How a run within the bounds enters a program: where printed values are compared, it may give no
-- value.
abbrev pub entry_at : Bounds → Entry
entry_at b = record {
  name = b.entry;
  types = map param_type b.params;
  free_result = compares b.limits;
}

-- a program that a text can spell, that is typed for the entry, and in which no statement shares a
-- list
pub record IsReady (b : Bounds) (p : List Routine) (types : List Fact) : Type 0 where
  pub proper : IsProper p
  pub typing : IsTyping types p (entry_at b)
  pub unshared : shared (single (set_of types)) p ≡ []

-- what the readers of a task see to
pub record IsSound (k : Task) : Type 0 where
  pub reference : IsReady k.bounds k.reference k.reference_types
  pub submission : IsReady k.bounds k.submission k.submission_types
  pub results :
      result_type k.bounds k.reference k.reference_types
      ≡ result_type k.bounds k.submission k.submission_types
  pub proper_rules : AreProperRules k.rules
  pub no_limit_fault : limit_fault k.rules ≡ None
  pub no_meaning_fault : meaning_fault k.rules ≡ None
  pub small : IsTooLarge k → ⊥
