-- the run of the program's tree, which has no picks
use Rattle.std.proofs.Common.{◌∙◌, ap, sym, subst}
use Rattle.mpy_tree.specs.Shapes.{program_shape}
use Rattle.choice_tree.specs.StatementViews.{weighted_prog}
use Rattle.choice_tree.specs.WeightedTrees.{base_of}
use Rattle.choice_tree.proofs.EditLaws.{no_choice}
use Rattle.choice_tree.proofs.Giving.{base_lifted}
use Rattle.sym_nodes.specs.Environments.{HasPicks}
use Rattle.task_bits.proofs.HavePicks.{lifted_has, none_read}
use Rattle.test_picker.specs.Programs.{program_of}
use Rattle.test_picker.proofs.TypedRuns.{end_in, program_typed}
use Rattle.test_picker.proofs.program.Program.run.Goals as goal

pub sym_run-requires-clause-typed : goal.sym_run-requires-clause-typed
sym_run-requires-clause-typed g c =
    let self = c.args.self.now in
    rw c.requires.args.typed
    (program_typed c.args.bounds.now self.typed.now self.tree c.requires.typed c.requires.whole)

pub sym_run-requires-clause-many : goal.sym_run-requires-clause-many
sym_run-requires-clause-many g c =
    let self = c.args.self.now in
    subst (λ w. HasPicks c.new-picks.result w) (sym c.requires.whole)
    (lifted_has c.new-picks.result (program_shape (program_of self.typed.now)))

pub returns-clause-made : goal.returns-clause-made
returns-clause-made g c =
    let self = c.args.self.now in
    end_in c.args.bounds.now self.typed.now self.tree c.in_ok-done.done
    (sym (base_lifted (program_shape (program_of self.typed.now))) ∙ ap base_of (sym c.requires.whole))
    c.in_ok-done.ensures.made

pub returns-clause-value : goal.returns-clause-value
returns-clause-value g c vs values read =
    let self = c.args.self.now in
    let p = program_of self.typed.now in
    let chosen = sym (base_lifted (program_shape p)) ∙ ap base_of (sym c.requires.whole)
    ∙ sym (no_choice (weighted_prog self.tree)) in
    let none = none_read c.new-picks.result (g.L.Logic.reads c.args.g.now vs) (λ i. 0)
    c.new-picks.ensures in
    c.in_ok-done.ensures.value vs (λ i. 0) values p none read chosen
