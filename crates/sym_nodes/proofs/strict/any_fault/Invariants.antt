use Rattle.std.proofs.Common.{◌≡◌, Bool, List, map, take}
use Rattle.bit_words.specs.Logic.{Extends}
use Rattle.sym_nodes.specs.Operands.{any_true, faults_of}
use Rattle.sym_nodes.proofs.strict.any_fault.Given as goal

abbrev pub invariant-loop-part : goal.invariant-loop-part
invariant-loop-part g l =
    let reads = g.L.Logic.reads in
    record {
      extends : Extends g.L.Logic.owns reads g.L.Logic.count l.fn.g l.g;
      owned : g.L.Logic.owns l.g l.fault;
      value : (vs : List Bool) → reads l.g vs l.fault ≡ any_true (map (reads l.fn.g vs) (faults_of (take l.part-index l.parts)));
    }
