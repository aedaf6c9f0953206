-- Typed programs never get stuck, and their values have the types of their slots and fit.
use Rattle.std.specs.Prelude.{◌≡◌, ℕ, List, true, Option, Some, slice_get}
use Rattle.std.specs.List.{All}
use Rattle.mpy_tree.specs.declared.limits.Limits.{Limits}
use Rattle.mpy_tree.specs.declared.value.Value.{Value}
use Rattle.mpy_tree.specs.declared.typing.Ty.{Ty}
use Rattle.mpy_tree.specs.declared.typing.Fact.{Fact}
use Rattle.mpy_tree.specs.Syntax.{Term, Block, Routine}
use Rattle.mpy_tree.specs.Values.{Locals, State}
use Rattle.mpy_tree.specs.Entries.{Entry}
use Rattle.mpy_tree.specs.Expressions.{Calls, value_of}
use Rattle.mpy_tree.specs.Statements.{run_block}
use Rattle.mpy_tree.specs.Running.{bound, calls_below, evaluated}
use Rattle.mpy_tree.specs.SetTypes.{FactSet, Callee, callee, called}
use Rattle.mpy_tree.specs.Sites.{sites}
use Rattle.mpy_tree.specs.Rules.{Slots, single, type_in}
use Rattle.mpy_tree.specs.Typings.{AreTypes, IsTyping, set_of}
use Rattle.mpy_tree.specs.Fitting.{all_fit_as}
use Rattle.typed_programs.specs.CheckedRuns.{checked_run}
use Rattle.typed_programs.specs.Keeping.{IsOf, EndsFor, AreFor, Gives, KeepTypes, Agrees, EndsWell}
use Rattle.typed_programs.specs.Keeping.{IsTyped, param_slots, result_slot}

-- An expression of a type gives a value of it that fits, or a fault, by all locals that agree and
-- with calls that keep the types. Of the calls nothing is known where the arguments aren't for the
-- parameters: each call that the expression makes has arguments that are.
abbrev pub TypedExpressions : Type 0
TypedExpressions =
    (l : Limits) (S : Slots) (p : List Routine) (i : ℕ) (calls : Calls) (s : Locals) (line : ℕ)
    (e : Term) (t : Ty)
    → KeepTypes S l p calls → Agrees l S i s → type_in S p i e ≡ Some t
    → Gives (IsOf l t) (value_of l calls s line e)

-- typed statements keep the types of locals, and return values for the result or none
abbrev pub TypedStatements : Type 0
TypedStatements =
    (l : Limits) (F : FactSet) (p : List Routine) (i : ℕ) (calls : Calls) (s : State) (b : Block)
    → KeepTypes (single F) l p calls → Agrees l (single F) i s.locals
    → All (IsTyped F p i) (sites b)
    → EndsWell l (single F) i (run_block l calls b s)

-- the statements of a program that facts type are typed
abbrev pub TypedBodies : Type 0
TypedBodies =
    (T : List Fact) (p : List Routine) (entry : Entry) (i : ℕ) (r : Routine)
    → AreTypes T p entry → slice_get p i ≡ Some r → All (IsTyped (set_of T) p i) (sites r.body)

-- the parameters are set to arguments that are for them
abbrev pub TypedParameters : Type 0
TypedParameters =
    (l : Limits) (S : Slots) (g : Callee) (vs : List Value)
    → AreFor l (param_slots S g) vs → Agrees l S g.number (bound g.routine.params vs)

-- the calls of a program that facts type keep the types, at each depth
abbrev pub TypedCalls : Type 0
TypedCalls =
    (l : Limits) (T : List Fact) (p : List Routine) (entry : Entry) (depth : ℕ)
    → AreTypes T p entry → KeepTypes (single (set_of T)) l p (calls_below l p depth)

-- A function of such a program, entered with arguments for its parameters, keeps the types of its
-- locals, and returns a value for its result or none, whatever is kept of printed values.
abbrev pub TypedFunctions : Type 0
TypedFunctions =
    (l : Limits) (T : List Fact) (p : List Routine) (entry : Entry) (i : ℕ) (r : Routine)
    (vs : List Value) (kept : Option (List Value)) (depth : ℕ)
    → AreTypes T p entry → slice_get p i ≡ Some r
    → AreFor l (param_slots (single (set_of T)) (callee i r)) vs
    → EndsWell l (single (set_of T)) i
    (run_block l (calls_below l p depth) r.body
    (record { locals = bound r.params vs; printed = kept }))

-- A program that facts type, on arguments of the entry's types that fit, ends with a value of the
-- type of the entry's result that fits, or without a value, or by a fault.
abbrev pub TypedPrograms : Type 0
TypedPrograms =
    (l : Limits) (T : List Fact) (p : List Routine) (entry : Entry) (vs : List Value)
    → AreTypes T p entry → all_fit_as l entry.types vs ≡ true
    → Gives (EndsFor l (result_slot (single (set_of T)) (called p entry.name)))
    (evaluated l p entry.name vs)

-- The run is the same where each call is stuck unless its arguments have the types of the
-- parameters and fit.
abbrev pub TypedArguments : Type 0
TypedArguments =
    (l : Limits) (T : List Fact) (p : List Routine) (entry : Entry) (vs : List Value)
    → AreTypes T p entry → all_fit_as l entry.types vs ≡ true
    → checked_run l (single (set_of T)) p entry.name vs ≡ evaluated l p entry.name vs

-- the facts of a typing type the program
abbrev pub TypingsAreTypes : Type 0
TypingsAreTypes =
    (T : List Fact) (p : List Routine) (entry : Entry)
    → IsTyping T p entry → AreTypes T p entry
