use Rattle.mpy_tree.specs.SetTypes.{called}
use Rattle.mpy_tree.specs.Rules.{single}
use Rattle.mpy_tree.specs.Typings.{set_of}
use Rattle.typed_programs.specs.Keeping.{EndsFor, result_slot}
use Rattle.typed_programs.proofs.Linked.{all_fine, entry_for}
use Rattle.typed_programs.proofs.CheckedCalls.{checked_run_refines, checked_run_gives, unstuck}
use Rattle.typed_programs.proofs.laws.typed_arguments.Goals as goal

pub returns : goal.returns
returns c = λ l T p entry vs h f.
    unstuck (EndsFor l (result_slot (single (set_of T)) (called p entry.name))) _ _ (checked_run_refines l (set_of T) p entry.name vs)
    (checked_run_gives l (set_of T) p (all_fine T p entry h) entry.name vs (entry_for T p entry h l vs f))
