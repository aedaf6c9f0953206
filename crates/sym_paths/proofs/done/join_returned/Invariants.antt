use Rattle.std.proofs.Common.{◌≡◌, Bool, List, length, map}
use Rattle.bit_words.specs.Logic.{Extends}
use Rattle.sym_paths.specs.Endings.{or_other}
use Rattle.sym_paths.specs.Ends.{met, HoldsEnded}
use Rattle.sym_paths.specs.Paths.{first_handed, handed, HoldsAllGiven}
use Rattle.sym_paths.proofs.done.join_returned.Given as goal

-- what is left and the end that stands for the others show what all show
abbrev pub invariant-loop-given : goal.invariant-loop-given
invariant-loop-given g l =
    let owns = g.L.Logic.owns in
    let reads = g.L.Logic.reads in
    record {
      extends : Extends owns reads g.L.Logic.count l.fn.g l.g;
      held : HoldsEnded owns reads l.g l.slots l.joined;
      rest : HoldsAllGiven owns l.g l.slots l.all;
      value : (vs : List Bool)
          → or_other (first_handed l.slots.limits (map (handed (reads l.g vs)) l.all))
          (met l.slots.limits (reads l.g vs) l.joined)
          ≡ or_other (first_handed l.slots.limits (map (handed (reads l.fn.g vs)) l.fn.all))
          (met l.slots.limits (reads l.fn.g vs) l.fn.last);
    }

abbrev pub decreases-loop-given : goal.decreases-loop-given
decreases-loop-given g l = length l.all
