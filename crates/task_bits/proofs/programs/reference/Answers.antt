use Rattle.std.proofs.Common.{◌∙◌, ap, sym, refl, subst}
use Rattle.mpy_tree.specs.Running.{evaluated}
use Rattle.mpy_tree.specs.Shapes.{program_shape}
use Rattle.mpy_tree.specs.View.{routines_of}
use Rattle.bounds_reader.specs.declared.bounds.Bounds.{Bounds}
use Rattle.choice_tree.specs.StatementViews.{weighted_prog}
use Rattle.choice_tree.specs.WeightedTrees.{base_of}
use Rattle.choice_tree.proofs.EditLaws.{no_choice}
use Rattle.choice_tree.proofs.Giving.{base_lifted}
use Rattle.input_space.specs.TaskParts.{task_with}
use Rattle.sym_values.specs.Printed.{DoneReads}
use Rattle.sym_nodes.specs.Environments.{HasPicks}
use Rattle.task_bits.proofs.HavePicks.{lifted_has, none_read}
use Rattle.task_bits.proofs.Typed.{end_of, reference_typed}
use Rattle.task_bits.proofs.programs.reference.Goals as goal

pub sym_run-requires-clause-typed : goal.sym_run-requires-clause-typed
sym_run-requires-clause-typed g c =
    let is = rw c.reference.ensures at c.in_ok-tree.ensures in
    rw (c.reference_types-types.ensures, c.bounds-bounds.ensures, c.requires.args.typed)
    (reference_typed (task_with c.args.task.now) c.in_ok-tree.tree c.is_sound.ensures is)

pub sym_run-requires-clause-many : goal.sym_run-requires-clause-many
sym_run-requires-clause-many g c =
    let shape = program_shape (routines_of c.reference.result.now) in
    subst (λ w. HasPicks c.new-picks.result w) (sym c.in_ok-tree.ensures)
    (lifted_has c.new-picks.result shape)

pub returns-clause-made : goal.returns-clause-made
returns-clause-made g c =
    let k = task_with c.args.task.now in
    let is = rw c.reference.ensures at c.in_ok-tree.ensures in
    let made = rw (c.reference_types-types.ensures, c.bounds-bounds.ensures) at
    c.in_ok-done.ensures.made in
    end_of k k.reference_types k.reference c.in_ok-tree.tree c.in_ok-done.done refl
    (sym (base_lifted (program_shape k.reference)) ∙ ap base_of (sym is)) made

pub returns-clause-value : goal.returns-clause-value
returns-clause-value g c vs values read =
    let k = task_with c.args.task.now in
    let is = rw c.reference.ensures at c.in_ok-tree.ensures in
    let chosen = sym (base_lifted (program_shape k.reference)) ∙ ap base_of (sym is)
    ∙ sym (no_choice (weighted_prog c.in_ok-tree.tree)) in
    let none = none_read c.new-picks.result (g.L.Logic.reads c.args.g.now vs) (λ p. 0)
    c.new-picks.ensures in
    subst (λ (b : Bounds). DoneReads b.limits (g.L.Logic.reads c.sym_run.new.g vs)
    c.in_ok-done.done (evaluated b.limits k.reference b.entry values))
    c.bounds-bounds.ensures
    (c.in_ok-done.ensures.value vs (λ p. 0) values k.reference none read chosen)
