use Rattle.std.proofs.Common.{◌≡◌, Bool, List, [], ◌∷◌, ◌++◌, length}
use Rattle.bit_words.specs.Logic.{Extends}
use Rattle.sym_paths.specs.Paths.{gone_way, ways, HoldsPath, HoldsPaths}
use Rattle.sym_paths.specs.Slots.{slot_forms}
use Rattle.sym_paths.proofs.join.join_all.Given as goal

-- the paths that are left and the one that stands for the others lead where all lead
abbrev pub invariant-loop-path : goal.invariant-loop-path
invariant-loop-path g l =
    let owns = g.L.Logic.owns in
    let reads = g.L.Logic.reads in
    let slots = l.slots in
    record {
      extends : Extends owns reads g.L.Logic.count l.fn.g l.g;
      held : HoldsPath owns l.g (slot_forms l.slots) l.joined;
      rest : HoldsPaths owns l.g (slot_forms l.slots) l.all;
      value : (vs : List Bool) → gone_way slots (ways (reads l.g vs) (l.all ++ l.joined ∷ []))
          ≡ gone_way slots (ways (reads l.fn.g vs) l.fn.all);
    }

abbrev pub decreases-loop-path : goal.decreases-loop-path
decreases-loop-path g l = length l.all
