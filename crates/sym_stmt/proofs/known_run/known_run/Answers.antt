use Rattle.std.proofs.Common.{ap, option_map}
use Rattle.mpy_tree.specs.View.{routines_of}
use Rattle.choice_tree.specs.Choices.{member_of}
use Rattle.sym_values.specs.Forms.{form_for}
use Rattle.sym_stmt.proofs.KnownRuns.{each_gives}
use Rattle.sym_stmt.proofs.known_run.known_run.Goals as goal

pub returns-clause-made : goal.returns-clause-made
returns-clause-made g c =
    let limits = c.args.view.now.limits.now in
    rw (ap (option_map (form_for limits)) c.given_type-ty.ensures) at c.in_ok-constant.ensures.made

pub returns-clause-value : goal.returns-clause-value
returns-clause-value g c =
    let values = c.in-Some.values in
    let selection = c.in-Some-2.selection in
    let chosen = routines_of c.in_ok-chosen.chosen in
    let input = rw c.in-Some.is at c.in_ok-values.ensures in
    let members = rw c.in-Some-2.is at c.in_ok-selection.ensures in
    let end = c.in_ok-end.end in
    each_gives (g.L.Logic.reads c.args.g.now) c.args.view.now.picks.now c.args.args.now
    c.args.program.now.tree.now c.args.view.now.limits.now c.args.entry.now c.requires.many
    (member_of selection) values chosen members input c.in_ok-chosen.ensures
    c.in_ok-constant.constant end c.in_ok-end.ensures c.in_ok-constant.ensures.value
