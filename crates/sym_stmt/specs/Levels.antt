-- Levels of calls: what their calls are, and when they can be entered.
use Rattle.std.specs.Prelude.{◌≡◌, ℕ, zero, suc, List, None, min}
use Rattle.mpy_tree.specs.declared.limits.Limits.{Limits}
use Rattle.mpy_tree.specs.declared.typing.Fact.{Fact}
use Rattle.mpy_tree.specs.declared.value.Value.{Value}
use Rattle.mpy_tree.specs.Expressions.{Calls}
use Rattle.mpy_tree.specs.Running.{enter, found, given_by, no_calls}
use Rattle.mpy_tree.specs.Shapes.{program_shape}
use Rattle.mpy_tree.specs.Syntax.{Routine}
use Rattle.choice_tree.specs.declared.tree.WProg.{WProg}
use Rattle.choice_tree.specs.Selections.{plain}
use Rattle.choice_tree.specs.StatementViews.{weighted_prog}
use Rattle.sym_expr.specs.Signatures.{Signatures}
use Rattle.sym_nodes.specs.Environments.{HasPicks}
use Rattle.sym_calls.specs.Remembered.{Fixed}
use Rattle.sym_stmt.specs.Programs.{TypesFunctions, signatures_of}

-- calls of the functions of the chosen plain program, whose own calls are those below
pub record AreDeeper (w : WProg) (AreBelow : Calls → Type 0) (l : Limits) (m : ℕ → ℕ)
    (calls : Calls) : Type 0 where
  pub program : List Routine
  pub chosen : program_shape program ≡ plain m (weighted_prog w)
  pub below : Calls
  pub are_below : AreBelow below
  pub entered : (f : List ℕ) (vs : List Value) (line : ℕ)
      → calls f vs line ≡ enter given_by None l below (found program f) vs line

-- calls of so many levels
abbrev pub AreCallsAt : WProg → ℕ → Limits → (ℕ → ℕ) → Calls → Type 0
AreCallsAt w zero l m calls =
    (f : List ℕ) (vs : List Value) (line : ℕ) → calls f vs line ≡ no_calls f vs line
AreCallsAt w (suc n) l m calls = AreDeeper w (AreCallsAt w n l m) l m calls

-- what is fixed while the calls of a program are remembered
pub record Fixes {B : Type 0} (w : WProg) (T : List Fact) (ps : List (List B)) (k : Fixed B)
    : Type 0 where
  pub signatures : k.signatures ≡ signatures_of w T
  pub picks : k.picks ≡ ps
  pub to_calls : (n : ℕ) (l : Limits) (m : ℕ → ℕ) (calls : Calls) → k.are_calls n l m calls
      → AreCallsAt w n l m calls
  pub of_calls : (n : ℕ) (l : Limits) (m : ℕ → ℕ) (calls : Calls) → AreCallsAt w n l m calls
      → k.are_calls n l m calls

-- Functions of a program can be entered: the facts type them, their picks are among these, and the
-- functions that they call are the same and find their own picks.
pub record CanEnter {B : Type 0} (w : WProg) (T : List Fact) (below : Signatures)
    (HaveBelow : List (List B) → Type 0) (picks : List (List B)) : Type 0 where
  pub typed : TypesFunctions T w
  pub many : HasPicks picks (weighted_prog w)
  pub same : below ≡ signatures_of w T
  pub have_below : HaveBelow picks

-- Functions of a program that are called at a level, or at the most levels where these are fewer:
-- they can be entered, and those below are called at one level less, or again at the most levels.
pub record IsUpTo {B : Type 0} (k : Fixed B) (w : WProg) (T : List Fact) (level most : ℕ)
    (signatures : Signatures) (AreBelow : Limits → (ℕ → ℕ) → Calls → Type 0)
    (HaveBelow : List (List B) → Type 0) (picks : List (List B)) : Type 0 where
  pub fixes : Fixes w T picks k
  pub entered : CanEnter w T signatures HaveBelow picks
  pub number : ℕ
  pub next : level ≡ suc number
  pub below : (l : Limits) (m : ℕ → ℕ) (calls : Calls) → AreCallsAt w (min number most) l m calls
      → AreBelow l m calls
