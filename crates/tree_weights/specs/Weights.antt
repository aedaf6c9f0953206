-- The weight of a weighted program: an estimate of how large a formula for all its runs becomes.
use Rattle.std.specs.Prelude.{ℕ, zero, suc, ◌+◌, ◌*◌, ◌^◌, ◌==◌, ◌&&◌, not, Bool, true, false}
use Rattle.std.specs.Prelude.{if◌then◌else◌, List, [], ◌∷◌, sum, max, Option, Some, None}
use Rattle.std.specs.List.{list_any}
use Rattle.mpy_tree.specs.declared.builtins.Builtin.{Builtin}
use Rattle.mpy_tree.specs.declared.builtins.Builtin.TheVariants as builtin
use Rattle.mpy_tree.specs.declared.limits.Limits.{Limits}
use Rattle.mpy_tree.specs.declared.operators.ArithOp.{ArithOp}
use Rattle.mpy_tree.specs.declared.operators.ArithOp.TheVariants as arith
use Rattle.mpy_tree.specs.declared.operators.CmpOp.{CmpOp}
use Rattle.mpy_tree.specs.declared.operators.CmpOp.TheVariants as cmp
use Rattle.mpy_tree.specs.declared.typing.Fact.{Fact}
use Rattle.mpy_tree.specs.declared.typing.Slot.{Slot}
use Rattle.mpy_tree.specs.declared.typing.Slot.TheVariants as slot
use Rattle.mpy_tree.specs.declared.typing.Ty.{Ty}
use Rattle.mpy_tree.specs.declared.typing.Ty.TheVariants as ty
use Rattle.mpy_tree.specs.Builtins.{builtin_of}
use Rattle.mpy_tree.specs.SetTypes.{same_place}
use Rattle.mpy_tree.specs.Trees as kind
use Rattle.mpy_tree.specs.Trees.{Kind}
use Rattle.choice_tree.specs.Selections.{count_others}
use Rattle.choice_tree.specs.WeightedTrees.{Weighted, Weighteds, Others, plainly, pick, no_weighted}
use Rattle.choice_tree.specs.WeightedTrees.{weighted_and, no_others, other_and}
use Rattle.tree_weights.specs.Functions.{Function, function_of}
use Rattle.tree_weights.specs.RootTypes.{WeightedScope, slot_type, type_at, first_type}
use Rattle.tree_weights.specs.RootTypes.{second_type}

-- The bits of a value: those of a number, one, and those of all elements and of the length. What
-- has no type has none.
abbrev pub bits : Limits → Ty → ℕ
bits l ty.Int = l.width
bits l ty.Bool = 1
bits l ty.List = l.cap * l.width + 5
bits l ty.Text = l.cap * 7 + 5

abbrev pub bits_of : Limits → Option Ty → ℕ
bits_of l None = 0
bits_of l (Some t) = bits l t

-- an operator, by the type of its first operand
abbrev pub arith_weight : Limits → ArithOp → Option Ty → ℕ
arith_weight l arith.Add (Some ty.Int) = 8 * l.width
arith_weight l arith.Add o = 4 * (l.cap * bits_of l o)
arith_weight l arith.Sub o = 8 * l.width
arith_weight l arith.Mul (Some ty.Int) = 8 * l.width ^ 2
arith_weight l arith.Mul o = 4 * (l.cap * bits_of l o)
arith_weight l arith.Floor o = 16 * l.width ^ 2
arith_weight l arith.Rem o = 16 * l.width ^ 2
arith_weight l arith.Power o = 16 * l.width ^ 3

-- a search in a list, or in a text at each place
abbrev pub member_weight : Limits → Option Ty → ℕ
member_weight l (Some ty.Text) = 8 * (l.cap * bits l ty.Text)
member_weight l o = 8 * bits l ty.List

-- a comparison, by the types of both operands
abbrev pub compare_weight : Limits → CmpOp → Option Ty → Option Ty → ℕ
compare_weight l cmp.Eq o p = 8 * bits_of l o
compare_weight l cmp.Ne o p = 8 * bits_of l o
compare_weight l cmp.Member o p = member_weight l p
compare_weight l cmp.NotMember o p = member_weight l p
compare_weight l _ o p = 8 * l.width

abbrev pub builtin_weight : Limits → Builtin → ℕ
builtin_weight l builtin.Len = 1
builtin_weight l builtin.Abs = 8 * l.width
builtin_weight l builtin.Min = 8 * l.width
builtin_weight l builtin.Max = 8 * l.width
builtin_weight l builtin.Range = 16 * (l.cap * l.width)

-- a call of a builtin, or else of a function, besides the body that it runs
abbrev pub call_weight : Limits → Option Builtin → ℕ
call_weight l (Some b) = builtin_weight l b
call_weight l None = 1

-- the body that a call runs, if it is of no builtin
abbrev pub body_weight : Option Builtin → ℕ → ℕ
body_weight (Some b) n = 0
body_weight None n = n

-- a pick of the type of its base, with so many members besides
abbrev pub pick_weight : Limits → Option Ty → ℕ → ℕ
pick_weight l o others = 4 * (bits_of l o * suc others)

-- the local is a fact's
abbrev pub is_local : Slot → Bool
is_local (slot.Local x) = true
is_local slot.Result = false

-- a fact of a local of a function, whose slot has none among these
abbrev pub is_local_of : ℕ → Fact → List Fact → Bool
is_local_of i f others =
    (f.func == i) && is_local f.slot
    && not (list_any (λ g. same_place f.func f.slot g.func g.slot) others)

-- a bit more than each local of a function has, since it may be unset; each local counts once
abbrev pub locals_weight : Limits → ℕ → List Fact → ℕ
locals_weight l i [] = 0
locals_weight l i (f ∷ fs) =
    (if is_local_of i f fs then bits l f.ty + 1 else 0) + locals_weight l i fs

-- the bits of the printed values that are kept: their number, and for each its type and its value
abbrev pub kept_bits : Limits → ℕ
kept_bits l =
    if l.prints == 0 then 0
    else 5 + l.prints * (2 + max (bits l ty.List) (bits l ty.Text))

-- those that a function keeps: the entry alone keeps what it prints
abbrev pub printed_bits : Limits → WeightedScope → ℕ
printed_bits l σ = if σ.number == σ.entry then kept_bits l else 0

-- a statement, whose outcome has the locals of its function and what was printed
abbrev pub statement_weight : Limits → WeightedScope → ℕ
statement_weight l σ = 2 * (locals_weight l σ.number σ.facts + printed_bits l σ)

-- a node itself, before these parts
abbrev pub own_weight : Limits → WeightedScope → Kind → Weighteds → ℕ
own_weight l σ (kind.Int n) ws = 1
own_weight l σ (kind.Bool b) ws = 1
own_weight l σ (kind.Text cs) ws = 1
own_weight l σ (kind.Name x) ws = 1
own_weight l σ kind.List ws = bits l ty.List
own_weight l σ kind.Neg ws = 8 * l.width
own_weight l σ kind.Not ws = 4
own_weight l σ (kind.Arith op) ws = arith_weight l op (first_type σ ws)
own_weight l σ (kind.Cmp op) ws = compare_weight l op (first_type σ ws) (second_type σ ws)
own_weight l σ kind.And ws = 4
own_weight l σ kind.Or ws = 4
own_weight l σ kind.Cond ws = 4 * bits_of l (first_type σ ws)
own_weight l σ kind.Index ws = 4 * bits_of l (first_type σ ws)
own_weight l σ (kind.Slice from to) ws = 4 * (l.cap * bits_of l (first_type σ ws))
own_weight l σ (kind.Call f) ws = call_weight l (builtin_of f)
own_weight l σ (kind.Assign line x) ws = statement_weight l σ
own_weight l σ (kind.Augment line x op) ws =
    statement_weight l σ + arith_weight l op (slot_type σ (slot.Local x))
own_weight l σ (kind.Put line x) ws = statement_weight l σ
own_weight l σ (kind.AugmentAt line x op) ws =
    statement_weight l σ + arith_weight l op (Some ty.Int)
own_weight l σ (kind.Append line x) ws = statement_weight l σ
own_weight l σ (kind.Print line) ws = statement_weight l σ + 4 * printed_bits l σ
own_weight l σ (kind.Return line) ws = statement_weight l σ
own_weight l σ (kind.Pass line) ws = statement_weight l σ
own_weight l σ (kind.Break line) ws = statement_weight l σ
own_weight l σ (kind.Continue line) ws = statement_weight l σ
own_weight l σ (kind.If line) ws = statement_weight l σ
own_weight l σ (kind.Arm line) ws = 0
own_weight l σ (kind.While line) ws = statement_weight l σ
own_weight l σ (kind.For line x) ws = statement_weight l σ
own_weight l σ kind.Block ws = 0
own_weight l σ (kind.Function line f params) ws = 0
own_weight l σ kind.Program ws = 0

-- the weights of the functions, by name, where a node stands
abbrev pub Bodies : Type 0
Bodies = List ℕ → ℕ

abbrev pub called_weight : Bodies → Kind → ℕ
called_weight bodies (kind.Call f) = body_weight (builtin_of f) (bodies f)
called_weight bodies _ = 0

-- The weights of the parts of a node. A loop's body weighs as often as it may have turns, and so
-- does what is done before each: the loop's own step, and the test of a `while`.
abbrev pub parts_weight : Limits → ℕ → Kind → List ℕ → ℕ
parts_weight l step (kind.While line) (test ∷ body ∷ []) = test + l.turns * (step + test + body)
parts_weight l step (kind.For line x) (list ∷ body ∷ []) = list + l.turns * (step + body)
parts_weight l step _ parts = sum parts

abbrev mutual
  pub weight : Limits → WeightedScope → Bodies → Weighted → ℕ
  weight l σ bodies (plainly k ws) =
      own_weight l σ k ws + called_weight bodies k
      + parts_weight l (statement_weight l σ) k (weights l σ bodies ws)
  weight l σ bodies (pick number base os) =
      pick_weight l (type_at σ base) (count_others os) + weight l σ bodies base
      + other_weights l σ bodies os

  pub weights : Limits → WeightedScope → Bodies → Weighteds → List ℕ
  weights l σ bodies no_weighted = []
  weights l σ bodies (weighted_and w ws) = weight l σ bodies w ∷ weights l σ bodies ws

  pub other_weights : Limits → WeightedScope → Bodies → Others → ℕ
  other_weights l σ bodies no_others = 0
  other_weights l σ bodies (other_and rule cost w os) =
      weight l σ bodies w + other_weights l σ bodies os

abbrev pub function_weight :
    Limits → List Fact → Weighteds → ℕ → Bodies → Option Function → ℕ
function_weight l facts fs entry bodies None = 0
function_weight l facts fs entry bodies (Some g) =
    weight l (record { facts = facts; functions = fs; entry = entry; number = g.number }) bodies
    g.tree

-- the weight of a function's body, where calls may go so many levels deep from its call on, in a
-- run that enters the function of the number `entry`
abbrev pub levels_weight : Limits → List Fact → Weighteds → ℕ → ℕ → Bodies
levels_weight l facts fs entry zero f = 0
levels_weight l facts fs entry (suc levels) f =
    function_weight l facts fs entry (levels_weight l facts fs entry levels) (function_of fs f)

-- that of the function that is entered, if there is one
abbrev pub entered_weight : Limits → List Fact → Weighteds → List ℕ → Option Function → ℕ
entered_weight l facts fs f None = 0
entered_weight l facts fs f (Some g) = levels_weight l facts fs g.number l.depth f

-- the weight of a program that is entered at a function
abbrev pub program_weight : Limits → List Fact → List ℕ → Weighted → ℕ
program_weight l facts entry (plainly kind.Program fs) =
    entered_weight l facts fs entry (function_of fs entry)
program_weight l facts entry _ = 0
