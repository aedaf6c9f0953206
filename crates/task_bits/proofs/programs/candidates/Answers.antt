use Rattle.std.proofs.Common.{◌∙◌, ap, sym, subst}
use Rattle.choice_tree.specs.WeightedTrees.{base_of}
use Rattle.input_space.specs.TaskParts.{task_with}
use Rattle.input_space.specs.Tasks.{setting}
use Rattle.sym_nodes.specs.Environments.{HasPicks}
use Rattle.task_bits.proofs.HavePicks.{all_there}
use Rattle.task_bits.proofs.Typed.{candidates_typed, end_of}
use Rattle.task_bits.proofs.Written.{base_is}
use Rattle.task_bits.proofs.programs.candidates.Goals as goal

pub sym_run-requires-clause-typed : goal.sym_run-requires-clause-typed
sym_run-requires-clause-typed g c =
    rw (c.submission_types-types.ensures, c.bounds-bounds.ensures, c.requires.args.typed)
    (candidates_typed c.args.task.now c.tree-tree.result.now c.is_sound.ensures
    c.tree-tree.ensures)

pub sym_run-requires-clause-many : goal.sym_run-requires-clause-many
sym_run-requires-clause-many g c =
    let k = task_with c.args.task.now in
    subst (λ w. HasPicks c.args.picks.now w) (sym c.tree-tree.ensures)
    (all_there c.args.picks.now (setting k) k.submission c.requires.picks.many)

pub returns-clause-made : goal.returns-clause-made
returns-clause-made g c =
    let k = task_with c.args.task.now in
    let w = c.tree-tree.result.now in
    let made = rw (c.submission_types-types.ensures, c.bounds-bounds.ensures) at
    c.in_ok-done.ensures.made in
    end_of k k.submission_types k.submission w c.in_ok-done.done (sym c.is_sound.ensures.results)
    (sym (base_is (setting k) k.submission) ∙ ap base_of (sym c.tree-tree.ensures)) made
