-- What a graph is and what its bits read as.
use Rattle.std.specs.Prelude.{◌≡◌, ◌≢◌, ◌⊎◌, ℕ, ◌<◌, ◌≤◌, Bool, true, false, not, ◌&&◌, List, []}
use Rattle.std.specs.Prelude.{◌∷◌, ◌++◌, length, Option, Some, None, if◌then◌else◌, slice_get}
use Rattle.std.specs.Prelude.{slice_index_or}
use Rattle.bit_graph.specs.declared.gate.Source.{Source}
use Rattle.bit_graph.specs.declared.gate.Source.TheVariants.{Constant, Variable, Made}
use Rattle.bit_graph.specs.declared.gate.GraphBit.{GraphBit}
use Rattle.bit_graph.specs.declared.gate.Gate.{Gate}

-- how many variables a graph has, and its gates in the order of making
pub record Gates : Type 0 where
  pub variables : ℕ
  pub gates : List Gate

-- where a bit comes from, and whether it is that source and not the opposite
abbrev pub source_of : GraphBit → Source
source_of b = b.source

abbrev pub is_positive_bit : GraphBit → Bool
is_positive_bit b = b.positive

abbrev pub opposite_bit : GraphBit → GraphBit
opposite_bit b = record { source = b.source; positive = not b.positive }

abbrev pub positive_bit : Source → GraphBit
positive_bit s = record { source = s; positive = true }

abbrev pub gate_of : GraphBit → GraphBit → Gate
gate_of a b = record { left = a; right = b }

-- a source under values of the variables and of the gates
abbrev pub source_reads : List Bool → List Bool → Source → Bool
source_reads vs made Constant = true
source_reads vs made (Variable i) = slice_index_or vs i false
source_reads vs made (Made k) = slice_index_or made k false

abbrev pub bit_reads : List Bool → List Bool → GraphBit → Bool
bit_reads vs made b = if b.positive then source_reads vs made b.source
    else not (source_reads vs made b.source)

abbrev pub gate_reads : List Bool → List Bool → Gate → Bool
gate_reads vs made x = bit_reads vs made x.left && bit_reads vs made x.right

-- the values of the gates in order, each from those before it
abbrev pub values_after : List Bool → List Bool → List Gate → List Bool
values_after vs made [] = made
values_after vs made (x ∷ xs) = values_after vs (made ++ gate_reads vs made x ∷ []) xs

-- a source that is there where so many variables and gates are
abbrev pub IsBelow : ℕ → ℕ → Source → Type 0
IsBelow variables made Constant = Unit {0}
IsBelow variables made (Variable i) = i < variables
IsBelow variables made (Made k) = k < made

-- the constant comes first, then the variables, then the gates
abbrev pub Precedes : Source → Source → Type 0
Precedes Constant Constant = ⊥
Precedes Constant (Variable j) = Unit {0}
Precedes Constant (Made j) = Unit {0}
Precedes (Variable i) Constant = ⊥
Precedes (Variable i) (Variable j) = i < j
Precedes (Variable i) (Made j) = Unit {0}
Precedes (Made i) Constant = ⊥
Precedes (Made i) (Variable j) = ⊥
Precedes (Made i) (Made j) = i < j

-- a gate is made of two different sources before it, and of no constant
pub record IsGateAt (variables k : ℕ) (x : Gate) : Type 0 where
  pub left : IsBelow variables k (source_of x.left)
  pub right : IsBelow variables k (source_of x.right)
  pub left_open : source_of x.left ≢ Constant
  pub right_open : source_of x.right ≢ Constant
  pub differ : source_of x.left ≢ source_of x.right

pub record AreGates (variables : ℕ) (xs : List Gate) : Type 0 where
  pub each : (k : ℕ) (x : Gate) → slice_get xs k ≡ Some x → IsGateAt variables k x

-- so few that the numbers of their clauses, three for each, have 31 bits
pub record AreFewGates (variables : ℕ) (xs : List Gate) : Type 0 where
  pub gates : AreGates variables xs
  pub few : length xs ≤ 536870911

-- a bit that belongs to a graph
pub record Owns (g : Gates) (b : GraphBit) : Type 0 where
  pub below : IsBelow g.variables (length g.gates) (source_of b)

-- what a bit of a graph reads as under values of the variables
abbrev pub reading : Gates → List Bool → GraphBit → Bool
reading g vs b = bit_reads vs (values_after vs [] g.gates) b

-- the two bits that a gate joins, where a bit or its opposite comes from one
abbrev pub gate_at : Gates → Source → Option Gate
gate_at g (Made k) = slice_get g.gates k
gate_at g (Variable i) = None
gate_at g Constant = None

abbrev pub parts_of : Gates → GraphBit → Option Gate
parts_of g b = gate_at g (source_of b)

-- gates stay as they are, or gain one that isn't there
abbrev pub GainsAtMost : Gate → List Gate → List Gate → Type 0
GainsAtMost x old new = (new ≡ old) ⊎ ((new ≡ old ++ x ∷ []) × ((k : ℕ) → slice_get old k ≢ Some x))

abbrev pub GainsAtMostOne : List Gate → List Gate → Type 0
GainsAtMostOne old new = (new ≡ old)
    ⊎ ((x : Gate) × (new ≡ old ++ x ∷ []) × ((k : ℕ) → slice_get old k ≢ Some x))
