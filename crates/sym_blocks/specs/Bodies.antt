-- What the statements of a body are run in: its condition, its scope, and what its paths owe to the
-- plain bodies that are chosen.
use Rattle.std.specs.Prelude.{◌≡◌, ◌==◌, ℕ, Bool, false, List, [], ◌∷◌, length, if◌then◌else◌}
use Rattle.std.specs.Prelude.{Option, Some}
use Rattle.mpy_tree.specs.declared.limits.Limits.{Limits}
use Rattle.mpy_tree.specs.declared.typing.Slot.{Slot}
use Rattle.mpy_tree.specs.declared.typing.Slot.TheVariants as slot
use Rattle.mpy_tree.specs.declared.typing.Ty.{Ty}
use Rattle.mpy_tree.specs.Expressions.{Calls}
use Rattle.mpy_tree.specs.Names.{has_twice}
use Rattle.mpy_tree.specs.Shapes.{arm_shape, shape}
use Rattle.mpy_tree.specs.Statements.{Ran, value_at}
use Rattle.mpy_tree.specs.Syntax.{Branch, Term}
use Rattle.mpy_tree.specs.Values.{State}
use Rattle.bit_words.specs.Logic.{OwnsAll}
use Rattle.choice_tree.specs.Selections.{plain}
use Rattle.choice_tree.specs.Typing.{Scope}
use Rattle.choice_tree.specs.WeightedTrees.{Weighted}
use Rattle.sym_values.specs.declared.value.SymOutcome.{SymOutcome}
use Rattle.sym_values.specs.Forms.{joined}
use Rattle.sym_values.specs.Reading.{OutcomeReads}
use Rattle.sym_nodes.specs.Environments.{PicksRead}
use Rattle.sym_expr.specs.Signatures.{Signatures}
use Rattle.sym_paths.specs.declared.path.Out.{Out}
use Rattle.sym_paths.specs.declared.path.Path.{Path}
use Rattle.sym_paths.specs.declared.slots.Slots.{Slots}
use Rattle.sym_paths.specs.Endings.{and_seen, see, seen_from}
use Rattle.sym_paths.specs.Paths.{gone_way, reached, way, ways}
use Rattle.sym_paths.specs.Slots.{KeepsByLimits, type_among}
use Rattle.sym_blocks.specs.declared.body.Body.{Body}
use Rattle.sym_blocks.specs.Runs.{run_arm}

-- The names of the locals differ from one another and each has a type; printed values are kept as
-- the limits say, or none are; the picks belong to a state, and the functions find theirs among
-- them.
pub record IsBodyIn {S B C : Type 0} (owns : S → B → Type 0) (have_picks : List (List B) → Type 0)
    (s : S) (run : Body B C) : Type 0 where
  pub differ : has_twice run.slots.now.names ≡ false
  pub types : length run.slots.now.types ≡ length run.slots.now.names
  pub keeps : KeepsByLimits run.slots.now
  pub owned : OwnsAll owns s (joined run.picks.now)
  pub many : have_picks run.picks.now

-- the types of a body's locals, and of what its function gives
abbrev pub body_slot : Slots → Slot → Option Ty
body_slot c (slot.Local x) = type_among c.names c.types x
body_slot c slot.Result = c.result

-- a function with these locals beside those that may be called
abbrev pub body_scope : Signatures → Slots → Scope
body_scope c slots = record {
  slots = λ i x. if i == length c.program then body_slot slots x else c.slots i x;
  program = c.program;
  number = length c.program;
}

abbrev pub scope_in : {B C : Type 0} → Signatures → Body B C → Scope
scope_in c run = body_scope c run.slots.now

-- the picks read as the members that are chosen, and the functions give what is called then
pub record AreChosen {S B C : Type 0} (reads : S → List Bool → B → Bool)
    (are_calls : Limits → (ℕ → ℕ) → Calls → Type 0) (s : S) (vs : List Bool) (run : Body B C)
    (m : ℕ → ℕ) (calls : Calls) : Type 0 where
  pub members : PicksRead (reads s vs) run.picks.now m
  pub called : are_calls run.slots.now.limits m calls

-- Under all truth values, and for each plain thing that is chosen under them, the ways out show how
-- it runs from where the paths lead, and nothing where none of them is taken.
abbrev pub RunsAsPlain : {S B C A : Type 0} → (S → List Bool → B → Bool)
    → (Limits → (ℕ → ℕ) → Calls → Type 0) → (old new : S) → Body B C → List (Path B) → Out B
    → ((ℕ → ℕ) → A → Type 0) → (Limits → Calls → A → State → Ran) → Type 0
RunsAsPlain {S} {B} {C} {A} reads are_calls old new run ps out IsPlain runs =
    (vs : List Bool) (m : ℕ → ℕ) (calls : Calls) (o : Option State) (a : A)
    → AreChosen reads are_calls old vs run m calls
    → gone_way run.slots.now (ways (reads old vs) ps) ≡ reached o → IsPlain m a
    → see (reads new vs) run.slots.now out
    ≡ seen_from o (runs run.slots.now.limits calls a)

-- an outcome reads as what the plain expression gives in the state to which a path leads
abbrev pub EvaluatesAsPlain : {S B C : Type 0} → (S → List Bool → B → Bool)
    → (Limits → (ℕ → ℕ) → Calls → Type 0) → (old new : S) → Body B C → Path B → SymOutcome B
    → Weighted → Type 0
EvaluatesAsPlain reads are_calls old new run path r w =
    (vs : List Bool) (m : ℕ → ℕ) (calls : Calls) (s : State) (line : ℕ) (t : Term)
    → AreChosen reads are_calls old vs run m calls
    → gone_way run.slots.now (way (reads old vs) path ∷ []) ≡ reached (Some s)
    → shape t ≡ plain m w
    → OutcomeReads (reads new vs) r (value_at run.slots.now.limits calls s line t)

-- Under all truth values the ways out of an arm's body, and what runs from where its test doesn't
-- hold, show how each plain arm runs that is chosen.
abbrev pub ArmRunsAsPlain : {S B C : Type 0} → (S → List Bool → B → Bool)
    → (Limits → (ℕ → ℕ) → Calls → Type 0) → (old new : S) → Body B C → Path B → Out B
    → List (Path B) → Weighted → Type 0
ArmRunsAsPlain reads are_calls old new run path part other w =
    (vs : List Bool) (m : ℕ → ℕ) (calls : Calls) (o : Option State) (a : Branch)
    → AreChosen reads are_calls old vs run m calls
    → gone_way run.slots.now (way (reads old vs) path ∷ []) ≡ reached o
    → arm_shape a ≡ plain m w
    → (n : Option State)
    × (gone_way run.slots.now (ways (reads new vs) other) ≡ reached n)
    × ((rest : State → Ran) → and_seen (see (reads new vs) run.slots.now part)
    (seen_from n rest) ≡ seen_from o (run_arm run.slots.now.limits calls a rest))
