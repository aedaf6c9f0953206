-- Outcomes of expressions whose calls are those of given functions.
use Rattle.std.specs.Prelude.{◌≡◌, ℕ, Bool, List, Option, Some, None, if◌then◌else◌}
use Rattle.std.specs.declared.result.Result.{Result}
use Rattle.mpy_tree.specs.declared.outcome.Halted.{Halted}
use Rattle.mpy_tree.specs.declared.typing.Ty.{Ty}
use Rattle.mpy_tree.specs.declared.value.Value.{Value}
use Rattle.mpy_tree.specs.Expressions.{Calls, value_of}
use Rattle.mpy_tree.specs.Names.{is_builtin}
use Rattle.mpy_tree.specs.Trees as kind
use Rattle.mpy_tree.specs.Values.{◌>>=◌, Locals}
use Rattle.choice_tree.specs.WeightedTrees.{Weighted, plainly}
use Rattle.sym_values.specs.declared.value.SymOutcome.{SymOutcome}
use Rattle.sym_values.specs.Forms.{form_for}
use Rattle.sym_values.specs.Results.{IsOutcomeIn}
use Rattle.sym_nodes.specs.declared.env.Env.{Env}
use Rattle.sym_nodes.specs.Environments.{PicksRead, StateReads}
use Rattle.sym_nodes.specs.Nodes.{all_of}
use Rattle.sym_nodes.specs.Plain.{ReadsAsPlain, type_of}
use Rattle.sym_expr.specs.Signatures.{Signatures, scope_at}

-- the function of the program that is called at the root of a tree, if one is
abbrev pub function_at : Weighted → Option (List ℕ)
function_at (plainly (kind.Call f) ws) = if is_builtin f then None else Some f
function_at _ = None

-- what a call of a function gives, whose arguments give these results
abbrev pub call_result : Calls → List ℕ → ℕ → List (Result Value Halted) → Result Value Halted
call_result calls f line rs = all_of rs >>= λ vs. calls f vs line

-- an outcome has the type of a tree
abbrev pub HasTypeIn : {S B : Type 0} → (S → B → Type 0) → S → Signatures → Env B → Weighted
    → SymOutcome B → Type 0
HasTypeIn owns s c env w o =
    (t : Ty) → type_of (scope_at c env) w ≡ Some t → IsOutcomeIn owns s (form_for env.limits t) o

-- under all truth values under which the names and the picks read as a state and as members, and
-- for all calls that there may be then, an outcome reads as what the plain expression gives
abbrev pub GivesPlain : {S B : Type 0} → (S → List Bool → B → Bool) → (old new : S)
    → ((ℕ → ℕ) → Calls → Type 0) → Env B → Weighted → SymOutcome B → Type 0
GivesPlain reads old new AreCalls env w o =
    (vs : List Bool) (s : Locals) (m : ℕ → ℕ) (calls : Calls) (line : ℕ) → AreCalls m calls
    → StateReads (reads old vs) env s → PicksRead (reads old vs) env.picks m
    → ReadsAsPlain (reads new vs) (value_of env.limits calls s line) m o w
