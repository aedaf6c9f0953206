use Rattle.std.proofs.Common.{◌≡◌, Bool, List, Some, None, length, map}
use Rattle.mpy_tree.specs.declared.typing.Ty.{Ty}
use Rattle.bit_words.specs.Logic.{Extends}
use Rattle.sym_values.specs.Forms.{form_for}
use Rattle.sym_paths.specs.Ends.{gives, HoldsReturned}
use Rattle.sym_paths.specs.Paths.{handed, HoldsAllGiven}
use Rattle.sym_paths.proofs.Endings.{value_or}
use Rattle.sym_paths.proofs.finish.finish.Given as goal

-- what is left and the one that stands for the others give what all give
abbrev pub invariant-loop-given : goal.invariant-loop-given
invariant-loop-given g l =
    let owns = g.L.Logic.owns in
    let reads = g.L.Logic.reads in
    record {
      extends : Extends owns reads g.L.Logic.count l.fn.g l.g;
      held : (t : Ty) → l.fn.slots.result ≡ Some t
          → HoldsReturned owns l.g (form_for l.fn.slots.limits t) l.joined;
      rest : HoldsAllGiven owns l.g l.fn.slots l.all;
      value : (vs : List Bool)
          → value_or (map (handed (reads l.g vs)) l.all) (gives (reads l.g vs) l.joined)
          ≡ value_or (map (handed (reads l.fn.g vs)) l.fn.all) None;
    }

abbrev pub decreases-loop-given : goal.decreases-loop-given
decreases-loop-given g l = length l.all
