-- What a node of an expression gives, by its kind and by what its parts give. The parts stand in
-- the order in which they are written.
use Rattle.std.specs.Prelude.{ℕ, Bool, true, false, not, List, [], ◌∷◌, Option, Some, None}
use Rattle.std.specs.Prelude.{if◌then◌else◌, pos, slice_get}
use Rattle.std.specs.declared.result.Result.{Result}
use Rattle.std.specs.declared.result.Result.TheVariants.{Ok, Err}
use Rattle.mpy_tree.specs.declared.limits.Limits.{Limits}
use Rattle.mpy_tree.specs.declared.value.Value.{Value}
use Rattle.mpy_tree.specs.declared.value.Value.TheVariants.{Bool as Truth}
use Rattle.mpy_tree.specs.declared.builtins.Builtin.{Builtin}
use Rattle.mpy_tree.specs.declared.outcome.Halt.{Halt}
use Rattle.mpy_tree.specs.declared.outcome.Halt.TheVariants.{Stuck}
use Rattle.mpy_tree.specs.declared.outcome.Halted.{Halted}
use Rattle.mpy_tree.specs.Builtins.{builtin_of}
use Rattle.mpy_tree.specs.declared.typing.Ty.{Ty}
use Rattle.mpy_tree.specs.Rules.{builtin_type}
use Rattle.choice_tree.specs.Typing.{Scope, node_type}
use Rattle.mpy_tree.specs.Trees.{Kind}
use Rattle.mpy_tree.specs.Trees as kind
use Rattle.mpy_tree.specs.Values.{◌>>=◌, stuck, on_line, Locals, set_or_fault}
use Rattle.mpy_tree.specs.Operations.{number, text_within, arith, negative, holds, compare, truth}
use Rattle.mpy_tree.specs.Operations.{index}
use Rattle.mpy_tree.specs.Expressions.{Calls, list_of, slice_of, builtin, apply, both, either}

-- the values of all parts, or the first fault among them
abbrev pub all_of : List (Result Value Halted) → Result (List Value) Halted
all_of [] = Ok []
all_of (r ∷ rs) = do
  v ← r
  vs ← all_of rs
  Ok (v ∷ vs)

-- an operation on one value, and on two
abbrev pub on_one : (Value → Result Value Halt) → List Value → Result Value Halt
on_one op (v ∷ []) = op v
on_one op _ = Err Stuck

abbrev pub on_two : (Value → Value → Result Value Halt) → List Value → Result Value Halt
on_two op (v ∷ w ∷ []) = op v w
on_two op _ = Err Stuck

-- a slice, by which of its ends are there
abbrev pub sliced : Bool → Bool → List Value → Result Value Halt
sliced false false (v ∷ []) = slice_of v None None
sliced true false (v ∷ a ∷ []) = slice_of v (Some a) None
sliced false true (v ∷ b ∷ []) = slice_of v None (Some b)
sliced true true (v ∷ a ∷ b ∷ []) = slice_of v (Some a) (Some b)
sliced _ _ _ = Err Stuck

-- an end of a slice at a place among its parts, where it is there
abbrev pub end_value : {A : Type 0} → List A → Bool → ℕ → Option A
end_value xs false place = None
end_value xs true place = slice_get xs place

abbrev pub built : Limits → Option Builtin → List Value → Result Value Halt
built l None vs = Err Stuck
built l (Some b) vs = builtin l b vs

-- what a node gives on the values of its parts, where it needs them all
abbrev pub operation : Limits → Kind → List Value → Result Value Halt
operation l (kind.Int n) vs = number l (pos n)
operation l (kind.Bool b) vs = Ok (Truth b)
operation l (kind.Text cs) vs = text_within l cs
operation l kind.List vs = list_of l vs
operation l kind.Neg vs = on_one (negative l) vs
operation l kind.Not vs = on_one (λ v. Ok (Truth (not (holds v)))) vs
operation l (kind.Arith op) vs = on_two (arith l op) vs
operation l (kind.Cmp op) vs = on_two (λ v w. truth (compare op v w)) vs
operation l kind.Index vs = on_two index vs
operation l (kind.Slice from to) vs = sliced from to vs
operation l (kind.Call f) vs = built l (builtin_of f) vs
operation l _ vs = Err Stuck

-- of two parts that may not both be needed, and of three
abbrev pub of_two : ℕ → (Result Value Halted → Result Value Halted → Result Value Halted)
    → List (Result Value Halted) → Result Value Halted
of_two line f (a ∷ b ∷ []) = f a b
of_two line f _ = Err (stuck line)

abbrev pub of_three : ℕ
    → (Result Value Halted → Result Value Halted → Result Value Halted → Result Value Halted)
    → List (Result Value Halted) → Result Value Halted
of_three line f (a ∷ b ∷ c ∷ []) = f a b c
of_three line f _ = Err (stuck line)

-- `and`, `or` and the conditional, by what their parts give
abbrev pub and_result : ℕ → Result Value Halted → Result Value Halted → Result Value Halted
and_result line a b = a >>= λ v. both v b line

abbrev pub or_result : ℕ → Result Value Halted → Result Value Halted → Result Value Halted
or_result line a b = a >>= λ v. either v b line

-- `and`, which a left side that is false settles, and `or`, which one settles that is true
abbrev pub side_kind : Bool → Kind
side_kind false = kind.And
side_kind true = kind.Or

abbrev pub side_result : Bool → ℕ → Result Value Halted → Result Value Halted
    → Result Value Halted
side_result false = and_result
side_result true = or_result

abbrev pub cond_result : Result Value Halted → Result Value Halted → Result Value Halted
    → Result Value Halted
cond_result t a b = t >>= λ v. if holds v then a else b

-- an operation on the values of all parts
abbrev pub strict_result : ℕ → (List Value → Result Value Halt) → List (Result Value Halted)
    → Result Value Halted
strict_result line op rs = all_of rs >>= λ vs. on_line line (op vs)

-- what a node gives
module _ (l : Limits) (calls : Calls) (s : Locals) (line : ℕ) where
  abbrev pub node_result : Kind → List (Result Value Halted) → Result Value Halted
  node_result (kind.Name x) rs = on_line line (set_or_fault (s x))
  node_result kind.And rs = of_two line (and_result line) rs
  node_result kind.Or rs = of_two line (or_result line) rs
  node_result kind.Cond rs = of_three line (λ a t b. cond_result t a b) rs
  node_result (kind.Call f) rs = all_of rs >>= λ vs. apply l calls f vs line
  node_result k rs = strict_result line (operation l k) rs

-- where there are no names and no functions
abbrev pub nowhere : Scope
nowhere = record { slots = λ i x. None; program = []; number = 0 }

-- the type that an operation gives on values of these types, where it takes them
abbrev pub built_type : Option Builtin → List (Option Ty) → Option Ty
built_type None os = None
built_type (Some b) os = builtin_type b os

abbrev pub operation_type : Kind → List (Option Ty) → Option Ty
operation_type (kind.Name x) os = None
operation_type kind.And os = None
operation_type kind.Or os = None
operation_type kind.Cond os = None
operation_type (kind.Call f) os = built_type (builtin_of f) os
operation_type k os = node_type nowhere k os
