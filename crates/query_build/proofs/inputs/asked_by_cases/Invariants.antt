use Rattle.std.proofs.Common.{◌≡◌, ◌&&◌, Bool, List, Option, map}
use Rattle.std.specs.Prelude.{option_map}
use Rattle.mpy_tree.specs.declared.value.Value.{Value}
use Rattle.mpy_tree.specs.Syntax.{Routine}
use Rattle.bit_words.specs.Logic.{Extends}
use Rattle.input_space.specs.TaskParts.{task_with}
use Rattle.sym_values.specs.Reading.{read, sure}
use Rattle.query_build.specs.Asking.{MayChoose}
use Rattle.query_build.specs.Comparing.{is_asked_for}
use Rattle.query_build.specs.Inputs.{is_in_cases}
use Rattle.query_build.proofs.inputs.asked_by_cases.Given as goal

abbrev pub invariant-loop-number : goal.invariant-loop-number
invariant-loop-number g l =
    let logic = g.L.Logic in
    let k = task_with l.fn.task in
    record {
      extends : Extends logic.owns logic.reads logic.count l.fn.g l.g;
      owned : logic.owns l.g l.some;
      value : (vs : List Bool) (xs : List Value) (p : Option (List Routine))
          → MayChoose (logic.reads l.fn.g vs) k (option_map (λ ps. ps.now) l.fn.picks) p
          → map (read (logic.reads l.fn.g vs)) l.fn.args ≡ map sure xs
          → logic.reads l.g vs l.some
          ≡ (is_in_cases l.parts l.number xs && is_asked_for k p xs);
    }
