use Rattle.std.proofs.Common.{◌≡◌, Bool, List, length}
use Rattle.bit_words.specs.Logic.{Extends}
use Rattle.sym_paths.specs.Endings.{or_other}
use Rattle.sym_paths.specs.Ends.{first_end, met, HoldsEnded}
use Rattle.sym_paths.specs.Paths.{ways, HoldsPaths}
use Rattle.sym_paths.specs.Slots.{slot_forms}
use Rattle.sym_paths.proofs.done.join_paths.Given as goal

-- what is left and the end that stands for the others show what all show
abbrev pub invariant-loop-path : goal.invariant-loop-path
invariant-loop-path g l =
    let owns = g.L.Logic.owns in
    let reads = g.L.Logic.reads in
    record {
      extends : Extends owns reads g.L.Logic.count l.fn.g l.g;
      held : HoldsEnded owns reads l.g l.slots l.joined;
      rest : HoldsPaths owns l.g (slot_forms l.slots) l.paths;
      value : (vs : List Bool)
          → or_other (first_end l.slots (ways (reads l.g vs) l.paths))
          (met l.slots.limits (reads l.g vs) l.joined)
          ≡ or_other (first_end l.slots (ways (reads l.fn.g vs) l.fn.paths))
          (met l.slots.limits (reads l.fn.g vs) l.fn.last);
    }

abbrev pub decreases-loop-path : goal.decreases-loop-path
decreases-loop-path g l = length l.paths
