-- When the parts of gates decide what two bits both are.
use Rattle.std.specs.Prelude.{◌≡◌, ◌≢◌, ◌⊎◌, ℕ, length, Bool, true, false, Some, None}
use Rattle.std.specs.Prelude.{if◌then◌else◌, not, ◌&&◌, List, [], ◌∷◌, ◌++◌, slice_get}
use Rattle.bit_graph.specs.declared.gate.Source.TheVariants.{Constant}
use Rattle.bit_graph.specs.declared.choices.Choice.{Choice}
use Rattle.bit_graph.specs.declared.choices.Choice.TheVariants.{Is, Both, NotBoth, Alike, Join}
use Rattle.bit_graph.specs.declared.gate.Reduced.{Reduced}
use Rattle.bit_graph.specs.declared.gate.Reduced.TheVariants.{Bit, New}
use Rattle.bit_graph.specs.declared.gate.Source.{Source}
use Rattle.bit_graph.specs.declared.gate.GraphBit.{GraphBit}
use Rattle.bit_graph.specs.declared.gate.Gate.{Gate}
use Rattle.bit_words.specs.Bits.{differ}
use Rattle.bit_graph.specs.Gates.{Gates, IsBelow, IsGateAt, Owns, Precedes, bit_reads, gate_reads}
use Rattle.bit_graph.specs.Gates.{gate_of, is_positive_bit, opposite_bit, parts_of, positive_bit}
use Rattle.bit_graph.specs.Gates.{reading, source_of}

abbrev pub AreSame : GraphBit → GraphBit → Type 0
AreSame a b = (source_of a ≡ source_of b) × (is_positive_bit a ≡ is_positive_bit b)

abbrev pub AreOpposite : GraphBit → GraphBit → Type 0
AreOpposite a b = (source_of a ≡ source_of b) × (is_positive_bit a ≢ is_positive_bit b)

-- the bit is a part of the gate
abbrev pub HasPart : Gate → GraphBit → Type 0
HasPart x b = AreSame x.left b ⊎ AreSame x.right b

-- the bit is the opposite of a part of the gate
abbrev pub Contradicts : Gate → GraphBit → Type 0
Contradicts x b = AreOpposite x.left b ⊎ AreOpposite x.right b

-- a part of the one gate is the opposite of a part of the other
abbrev pub Exclude : Gate → Gate → Type 0
Exclude x y = Contradicts x y.left ⊎ Contradicts x y.right

-- a gate's bit and another one need a gate, as far as the gate's parts tell
pub record IsOpenBy (a : GraphBit) (x : Gate) (b : GraphBit) : Type 0 where
  pub apart : Contradicts x b → ⊥
  pub no_part : is_positive_bit a ≡ true → HasPart x b → ⊥

-- no rule makes one bit of two: not by the bits themselves, nor by the parts of one, nor by those
-- of both
pub record NeedsGate (g : Gates) (a b : GraphBit) : Type 0 where
  pub left_open : source_of a ≢ Constant
  pub right_open : source_of b ≢ Constant
  pub differ : source_of a ≢ source_of b
  pub left : (x : Gate) → parts_of g a ≡ Some x → IsOpenBy a x b
  pub right : (y : Gate) → parts_of g b ≡ Some y → IsOpenBy b y a
  pub both : (x y : Gate) → parts_of g a ≡ Some x → parts_of g b ≡ Some y → Exclude x y
      → (is_positive_bit a ≡ false) × (is_positive_bit b ≡ false)

abbrev pub IsFalse : GraphBit → Type 0
IsFalse b = (source_of b ≡ Constant) × (is_positive_bit b ≡ false)

-- a bit is a gate, of which another bit is the opposite of a part
abbrev pub GateContradicts : Gates → GraphBit → GraphBit → Type 0
GateContradicts g a b = (is_positive_bit a ≡ true)
    × ((x : Gate) × (parts_of g a ≡ Some x) × Contradicts x b)

-- two bits are gates, of which the one has the opposite of a part of the other
abbrev pub GatesExclude : Gates → GraphBit → GraphBit → Type 0
GatesExclude g a b = (is_positive_bit a ≡ true) × (is_positive_bit b ≡ true)
    × ((x y : Gate) × (parts_of g a ≡ Some x) × (parts_of g b ≡ Some y) × Exclude x y)

-- a rule shows that two bits are never both true
abbrev pub AreNever : Gates → GraphBit → GraphBit → Type 0
AreNever g a b = (IsFalse a ⊎ (IsFalse b ⊎ AreOpposite a b))
    ⊎ (GateContradicts g a b ⊎ (GateContradicts g b a ⊎ GatesExclude g a b))

-- the opposite of a gate is the opposite of one part or of the other: of a bit that excludes the
-- one, the other is left
pub record IsShortened (g : Gates) (a b r : GraphBit) : Type 0 where
  pub positive : is_positive_bit b ≡ true → r ≡ b
  pub no_gate : parts_of g b ≡ None → r ≡ b
  pub right : (x : Gate) → is_positive_bit b ≡ false → parts_of g b ≡ Some x
      → AreNever g a (opposite_bit x.left) → r ≡ opposite_bit x.right
  pub left : (x : Gate) → is_positive_bit b ≡ false → parts_of g b ≡ Some x
      → (AreNever g a (opposite_bit x.left) → ⊥) → AreNever g a (opposite_bit x.right)
      → r ≡ opposite_bit x.left
  pub whole : (x : Gate) → is_positive_bit b ≡ false → parts_of g b ≡ Some x
      → (AreNever g a (opposite_bit x.left) → ⊥) → (AreNever g a (opposite_bit x.right) → ⊥) → r ≡ b

-- a gate that no rule saves: of the second bit as the first one shortens it, and of the first one
-- as that shortens it, with the lower source on the left
pub record IsNeeded (g : Gates) (a b : GraphBit) (x : Gate) : Type 0 where
  pub whole : NeedsGate g a b
  pub right : GraphBit
  pub left : GraphBit
  pub right_short : IsShortened g a b right
  pub left_short : IsShortened g right a left
  pub short : NeedsGate g left right
  pub joins : (x ≡ gate_of left right) ⊎ (x ≡ gate_of right left)
  pub ordered : Precedes (source_of x.left) (source_of x.right)

-- gates stay as they are, or gain one that no rule saves
abbrev pub GainsNeeded : Gates → GraphBit → GraphBit → List Gate → Type 0
GainsNeeded g a b new = (new ≡ g.gates)
    ⊎ ((x : Gate) × (new ≡ g.gates ++ x ∷ []) × IsNeeded g a b x)

-- a gate that two bits need isn't there
pub record IsMissing (g : Gates) (a b : GraphBit) : Type 0 where
  pub gate : Gate
  pub needed : IsNeeded g a b gate
  pub absent : (k : ℕ) → slice_get g.gates k ≢ Some gate

-- a bit of a later graph reads as two bits of an earlier one together
abbrev pub IsBoth : Gates → GraphBit → GraphBit → Gates → GraphBit → Type 0
IsBoth old a b new r = (vs : List Bool)
    → reading new vs r ≡ (reading old vs a && reading old vs b)

-- of the gates of an exclusive or the last isn't there: that of the opposites of "both" and
-- "neither"
pub record LacksLast (g : Gates) (a b : GraphBit) : Type 0 where
  pub both : GraphBit
  pub neither : GraphBit
  pub both_is : IsBoth g a b g both
  pub neither_is : IsBoth g (opposite_bit a) (opposite_bit b) g neither
  pub last : IsMissing g (opposite_bit both) (opposite_bit neither)

-- a gate of an exclusive or isn't there
abbrev pub LacksXor : Gates → GraphBit → GraphBit → Type 0
LacksXor g a b = IsMissing g a b
    ⊎ (IsMissing g (opposite_bit a) (opposite_bit b) ⊎ LacksLast g a b)

-- neither form of the exclusive or of two sources is there: that of the two, and that of the one
-- and the other's opposite
abbrev pub NeedsXor : Gates → Source → Source → Type 0
NeedsXor g a b = LacksXor g (positive_bit a) (positive_bit b)
    × LacksXor g (positive_bit a) (opposite_bit (positive_bit b))

-- gates gained by the conjunctions of two pairs and then that of the opposites of both, each where
-- no rule saves it
pub record AreOfThree (old : Gates) (a b c d : GraphBit) (new : Gates) : Type 0 where
  pub first : Gates
  pub second : Gates
  pub one : GraphBit
  pub other : GraphBit
  pub one_is : IsBoth old a b first one
  pub other_is : IsBoth first c d second other
  pub gains_one : GainsNeeded old a b first.gates
  pub gains_other : GainsNeeded first c d second.gates
  pub gains_last : GainsNeeded second (opposite_bit one) (opposite_bit other) new.gates

-- an exclusive or leaves the graph as it was where one of its forms is there, and else makes that
-- of the bits as they are
abbrev pub GainsXor : Gates → GraphBit → GraphBit → Gates → Type 0
GainsXor old a b new = (new ≡ old)
    ⊎ (NeedsXor old (source_of a) (source_of b)
    × AreOfThree old a b (opposite_bit a) (opposite_bit b) new)

-- one bit where a test holds, and another where it doesn't, by three gates
abbrev pub GainsJoin : Gates → GraphBit → GraphBit → GraphBit → Gates → Type 0
GainsJoin old c a b new = AreOfThree old c a (opposite_bit c) b new

-- an arm of a choice that needs no choice: a constant, the test or its opposite
abbrev pub IsSettled : GraphBit → GraphBit → Type 0
IsSettled c b = (source_of b ≡ Constant) ⊎ (source_of b ≡ source_of c)

-- no rule makes less of a choice than three gates
pub record NeedsChoice (c a b : GraphBit) : Type 0 where
  pub test : source_of c ≢ Constant
  pub arms : source_of a ≢ source_of b
  pub first : IsSettled c a → ⊥
  pub second : IsSettled c b → ⊥

-- no rule makes less of a choice than an exclusive or
pub record IsOpposedChoice (c a b : GraphBit) : Type 0 where
  pub test : source_of c ≢ Constant
  pub arms : AreOpposite a b
  pub open_arms : IsSettled c a → ⊥

-- what a form of a choice reads as
abbrev pub choice_reads : List Bool → List Bool → Choice → Bool
choice_reads vs made (Is a) = bit_reads vs made a
choice_reads vs made (Both a b) = bit_reads vs made a && bit_reads vs made b
choice_reads vs made (NotBoth a b) = not (bit_reads vs made a && bit_reads vs made b)
choice_reads vs made (Alike a b) = not (differ (bit_reads vs made a) (bit_reads vs made b))
choice_reads vs made (Join c a b) = if bit_reads vs made c then bit_reads vs made a
    else bit_reads vs made b

abbrev pub IsChoiceBelow : ℕ → ℕ → Choice → Type 0
IsChoiceBelow n m (Is a) = IsBelow n m (source_of a)
IsChoiceBelow n m (Both a b) = IsBelow n m (source_of a) × IsBelow n m (source_of b)
IsChoiceBelow n m (NotBoth a b) = IsBelow n m (source_of a) × IsBelow n m (source_of b)
IsChoiceBelow n m (Alike a b) = IsBelow n m (source_of a) × IsBelow n m (source_of b)
IsChoiceBelow n m (Join c a b) = IsBelow n m (source_of c) × IsBelow n m (source_of a)
    × IsBelow n m (source_of b)

-- the most gates that a form of a choice needs
abbrev pub most_gates : Choice → ℕ
most_gates (Is a) = 0
most_gates (Both a b) = 1
most_gates (NotBoth a b) = 1
most_gates (Alike a b) = 3
most_gates (Join c a b) = 3

-- a conjunction as a bit that is there, or as a gate that can be made
abbrev pub reduced_reads : List Bool → List Bool → Reduced → Bool
reduced_reads vs made (Bit r) = bit_reads vs made r
reduced_reads vs made (New x) = gate_reads vs made x

abbrev pub IsReducedIn : Gates → Reduced → Type 0
IsReducedIn g (Bit r) = Owns g r
IsReducedIn g (New x) = IsGateAt g.variables (length g.gates) x
