use Rattle.std.proofs.Common.{◌≡◌, Bool, List, Some, slice_get}
use Rattle.std.specs.declared.result.Result.{Result}
use Rattle.mpy_tree.specs.declared.outcome.Halted.{Halted}
use Rattle.mpy_tree.specs.declared.typing.Ty.{Ty}
use Rattle.mpy_tree.specs.declared.value.Value.{Value}
use Rattle.bit_words.specs.Logic.{Extends}
use Rattle.bit_words.specs.Words.{nat_read}
use Rattle.sym_values.specs.declared.value.SymOutcome.{SymOutcome}
use Rattle.sym_values.specs.Forms.{form_for}
use Rattle.sym_values.specs.Reading.{OutcomeReads}
use Rattle.sym_values.specs.Results.{IsOutcomeIn}
use Rattle.sym_nodes.specs.Operands.{types_of}
use Rattle.sym_nodes.specs.Members.{common_type, place_chosen}
use Rattle.sym_nodes.proofs.choices.chosen_outcome.Given as goal

-- what was chosen so far is chosen of the parts so far
abbrev pub invariant-loop-i : goal.invariant-loop-i
invariant-loop-i g l =
    let reads = g.L.Logic.reads in
    record {
      extends : Extends g.L.Logic.owns reads g.L.Logic.count l.fn.g l.g;
      made : (t : Ty) → common_type (types_of l.parts) ≡ Some t → IsOutcomeIn g.L.Logic.owns l.g (form_for l.limits t) l.chosen;
      value : (vs : List Bool) (p : SymOutcome g.row.L-Bit.Denot) (x : Result Value Halted) → slice_get l.parts (place_chosen (nat_read reads l.fn.g vs l.member) l.i) ≡ Some p
          → OutcomeReads (reads l.fn.g vs) p x → OutcomeReads (reads l.g vs) l.chosen x;
    }
