use Rattle.std.proofs.Common.{◌-◌}
use Rattle.mpy_tree.specs.Running.{calls_below, kept_first}
use Rattle.mpy_tree.specs.Typings.{set_of}
use Rattle.typed_programs.proofs.Linked.{all_fine, entry_for}
use Rattle.typed_programs.proofs.Programs.{calls_keep, run_gives}
use Rattle.typed_programs.proofs.laws.typed_programs.Goals as goal

pub returns : goal.returns
returns c = λ l T p entry vs h f.
    let fine = all_fine T p entry h in
    run_gives l (set_of T) p (kept_first l) (calls_below l p (l.depth - 1)) (calls_keep l (set_of T) p fine (l.depth - 1)) fine entry.name vs 1 (entry_for T p entry h l vs f)
