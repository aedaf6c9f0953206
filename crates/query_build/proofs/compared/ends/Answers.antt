use Rattle.std.proofs.Common.{◌∙◌}
use Rattle.mpy_tree.specs.Running.{evaluated}
use Rattle.mpy_tree.specs.View.{routines_of}
use Rattle.task_bits.proofs.Endings.{done_reads}
use Rattle.query_build.proofs.compared.ends.Goals as goal

pub returns-clause-value : goal.returns-clause-value
returns-clause-value g c vs xs h =
    let task = c.args.task.now in
    let x = evaluated task.bounds.limits (routines_of task.reference) task.bounds.entry xs in
    c.not.ensures.value vs
    ∙ done_reads task.bounds.limits (g.L.Logic.reads c.reference.new.g vs) c.in_ok-wanted.wanted x
    (c.in_ok-wanted.ensures.value vs xs h)
