-- The operands of an assignment to an element.
use Rattle.std.specs.Prelude.{Bool}
use Rattle.std.specs.declared.result.Result.{Result}
use Rattle.mpy_tree.specs.declared.limits.Limits.{Limits}
use Rattle.mpy_tree.specs.declared.outcome.Halted.{Halted}
use Rattle.mpy_tree.specs.declared.typing.Ty.TheVariants as ty
use Rattle.mpy_tree.specs.declared.value.Value.{Value}
use Rattle.sym_values.specs.Forms.{form_for}
use Rattle.sym_values.specs.Reading.{OutcomeReads}
use Rattle.sym_values.specs.Results.{IsOutcomeIn}
use Rattle.sym_blocks.specs.declared.operations.Parts.{Parts}

-- a list and two numbers
pub record AreElementIn {S B : Type 0} (owns : S → B → Type 0) (s : S) (l : Limits)
    (parts : Parts B) : Type 0 where
  pub list : IsOutcomeIn owns s (form_for l ty.List) parts.list
  pub place : IsOutcomeIn owns s (form_for l ty.Int) parts.place
  pub number : IsOutcomeIn owns s (form_for l ty.Int) parts.number

-- what they read as
pub record ElementReads {B : Type 0} (rd : B → Bool) (parts : Parts B)
    (x y z : Result Value Halted) : Type 0 where
  pub list : OutcomeReads rd parts.list x
  pub place : OutcomeReads rd parts.place y
  pub number : OutcomeReads rd parts.number z
