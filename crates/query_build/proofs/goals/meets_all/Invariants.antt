use Rattle.std.proofs.Common.{◌≡◌, Bool, List, take}
use Rattle.mpy_tree.specs.Syntax.{Routine}
use Rattle.bit_words.specs.Logic.{Extends}
use Rattle.input_space.specs.TaskParts.{task_with}
use Rattle.query_build.specs.Asking.{Choose}
use Rattle.query_build.specs.Comparing.{all_meet_on}
use Rattle.query_build.proofs.goals.meets_all.Given as goal

abbrev pub invariant-loop-case : goal.invariant-loop-case
invariant-loop-case g l =
    let logic = g.L.Logic in
    record {
      extends : Extends logic.owns logic.reads logic.count l.fn.g l.g;
      owned : logic.owns l.g l.all;
      value : (vs : List Bool) (p : List Routine)
          → Choose (logic.reads l.fn.g vs) (task_with l.fn.task) l.fn.picks p
          → logic.reads l.g vs l.all
          ≡ all_meet_on (task_with l.fn.task) p (take l.case-index l.fn.cases);
    }
