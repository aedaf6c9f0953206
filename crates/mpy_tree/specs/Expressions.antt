-- What an expression gives, by the locals.
use Rattle.std.specs.Prelude.{ℕ, true, false, not, List, [], ◌∷◌, Option, Some, None, if◌then◌else◌}
use Rattle.std.specs.Prelude.{ℤ, pos}
use Rattle.std.specs.declared.result.Result.{Result}
use Rattle.std.specs.declared.result.Result.TheVariants.{Ok, Err}
use Rattle.mpy_tree.specs.declared.limits.Limits.{Limits}
use Rattle.mpy_tree.specs.declared.value.Value.{Value}
use Rattle.mpy_tree.specs.declared.value.Value.TheVariants.{Bool as BoolV}
use Rattle.mpy_tree.specs.Syntax.{Term, Terms, MaybeTerm, no_terms, term_and, no_term, a_term}
use Rattle.mpy_tree.specs.Syntax as ast
use Rattle.mpy_tree.specs.declared.builtins.Builtin.{Builtin}
use Rattle.mpy_tree.specs.declared.builtins.Builtin.TheVariants.{Len, Abs, Min, Max, Range}
use Rattle.mpy_tree.specs.declared.outcome.Halt.{Halt}
use Rattle.mpy_tree.specs.declared.outcome.Halt.TheVariants.{Stuck}
use Rattle.mpy_tree.specs.declared.outcome.Halted.{Halted}
use Rattle.mpy_tree.specs.Builtins.{builtin_of}
use Rattle.mpy_tree.specs.Values.{◌>>=◌, stuck, on_line, Locals, set_or_fault}
use Rattle.mpy_tree.specs.Operations.{number, list_within, text_within, arith, negative, absolute}
use Rattle.mpy_tree.specs.Operations.{holds, compare, truth, index, slice, whole, length_of, range}
use Rattle.mpy_tree.specs.Operations.{least, greatest}

-- what a call gives: the function's name, the arguments and the line of the call
abbrev pub Calls : Type 0
Calls = List ℕ → List Value → ℕ → Result Value Halted

-- the numbers of a list literal
abbrev pub wholes : List Value → Result (List ℤ) Halt
wholes [] = Ok []
wholes (v ∷ vs) = do
  z ← whole v
  zs ← wholes vs
  Ok (z ∷ zs)

abbrev pub list_of : Limits → List Value → Result Value Halt
list_of l vs = wholes vs >>= list_within l

abbrev pub end_of : Option Value → Result (Option ℤ) Halt
end_of None = Ok None
end_of (Some v) = whole v >>= λ z. Ok (Some z)

abbrev pub slice_of : Value → Option Value → Option Value → Result Value Halt
slice_of v a b = do
  x ← end_of a
  y ← end_of b
  slice v x y

abbrev pub range_of_numbers : Limits → List ℤ → Result Value Halt
range_of_numbers l (b ∷ []) = range l (pos 0) b (pos 1)
range_of_numbers l (a ∷ b ∷ []) = range l a b (pos 1)
range_of_numbers l (a ∷ b ∷ c ∷ []) = range l a b c
range_of_numbers l _ = Err Stuck

-- what a builtin gives on its arguments
abbrev pub builtin : Limits → Builtin → List Value → Result Value Halt
builtin l Len (v ∷ []) = length_of l v
builtin l Abs (v ∷ []) = absolute l v
builtin l Min (v ∷ w ∷ []) = least v w
builtin l Max (v ∷ w ∷ []) = greatest v w
builtin l Range vs = wholes vs >>= range_of_numbers l
builtin l _ _ = Err Stuck

-- a call of a builtin, or else of a function of the program
abbrev pub called : Limits → Calls → Option Builtin → List ℕ → List Value → ℕ → Result Value Halted
called l calls (Some b) f vs line = on_line line (builtin l b vs)
called l calls None f vs line = calls f vs line

abbrev pub apply : Limits → Calls → List ℕ → List Value → ℕ → Result Value Halted
apply l calls f vs line = called l calls (builtin_of f) f vs line

-- `and` and `or` by the value of their left side, a Bool; their right side is not looked at,
-- whatever its value is
abbrev pub both : Value → Result Value Halted → ℕ → Result Value Halted
both (BoolV true) r line = r
both (BoolV false) r line = Ok (BoolV false)
both _ r line = Err (stuck line)

abbrev pub either : Value → Result Value Halted → ℕ → Result Value Halted
either (BoolV true) r line = Ok (BoolV true)
either (BoolV false) r line = r
either _ r line = Err (stuck line)

module _ (l : Limits) (calls : Calls) (s : Locals) (line : ℕ) where
  abbrev mutual
    pub value_of : Term → Result Value Halted
    value_of (ast.Int n) = on_line line (number l (pos n))
    value_of (ast.Bool b) = Ok (BoolV b)
    value_of (ast.Text cs) = on_line line (text_within l cs)
    value_of (ast.Name x) = on_line line (set_or_fault (s x))
    value_of (ast.List es) = do
      vs ← values_of es
      on_line line (list_of l vs)
    value_of (ast.Neg e) = do
      v ← value_of e
      on_line line (negative l v)
    value_of (ast.Not e) = do
      v ← value_of e
      Ok (BoolV (not (holds v)))
    value_of (ast.Arith op a b) = do
      v ← value_of a
      w ← value_of b
      on_line line (arith l op v w)
    value_of (ast.Cmp op a b) = do
      v ← value_of a
      w ← value_of b
      on_line line (truth (compare op v w))
    value_of (ast.And a b) = do
      v ← value_of a
      both v (value_of b) line
    value_of (ast.Or a b) = do
      v ← value_of a
      either v (value_of b) line
    value_of (ast.Cond t a b) = do
      v ← value_of t
      if holds v then value_of a else value_of b
    value_of (ast.Index a i) = do
      v ← value_of a
      w ← value_of i
      on_line line (index v w)
    value_of (ast.Slice a from to) = do
      v ← value_of a
      x ← maybe_value_of from
      y ← maybe_value_of to
      on_line line (slice_of v x y)
    value_of (ast.Call f es) = do
      vs ← values_of es
      apply l calls f vs line

    -- from left to right
    pub values_of : Terms → Result (List Value) Halted
    values_of no_terms = Ok []
    values_of (term_and e es) = do
      v ← value_of e
      vs ← values_of es
      Ok (v ∷ vs)

    pub maybe_value_of : MaybeTerm → Result (Option Value) Halted
    maybe_value_of no_term = Ok None
    maybe_value_of (a_term e) = do
      v ← value_of e
      Ok (Some v)
