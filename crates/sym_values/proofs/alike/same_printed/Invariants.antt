use Rattle.std.proofs.Common.{Bool, List}
use Rattle.std.specs.Prelude.{◌↔◌, IsTrue}
use Rattle.std.specs.declared.result.Result.TheVariants.{Ok}
use Rattle.mpy_tree.specs.Running.{Done}
use Rattle.mpy_tree.specs.declared.outcome.Halted.{Halted}
use Rattle.bit_words.specs.Logic.{Extends}
use Rattle.sym_values.specs.Printed.{DoneReads}
use Rattle.sym_values.proofs.Ends.{AlikeBelow}
use Rattle.sym_values.proofs.alike.same_printed.Given as goal

abbrev pub invariant-loop-i : goal.invariant-loop-i
invariant-loop-i g l =
    let reads = g.L.Logic.reads in
    record {
      extends : Extends g.L.Logic.owns reads g.L.Logic.count l.fn.g l.g;
      owned : g.L.Logic.owns l.g l.same;
      value : (vs : List Bool) (x y : Done) → DoneReads {E = Halted} l.limits (reads l.fn.g vs) l.a (Ok x) → DoneReads {E = Halted} l.limits (reads l.fn.g vs) l.b (Ok y)
          → IsTrue (reads l.g vs l.same) ↔ AlikeBelow x.printed y.printed l.i;
    }
