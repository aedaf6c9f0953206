use Rattle.std.proofs.Common.{List, Option, ap, ◌∙◌}
use Rattle.mpy_tree.specs.declared.value.Value.{Value}
use Rattle.mpy_tree.specs.Running.{kept_first}
use Rattle.mpy_tree.specs.Statements.{run_block}
use Rattle.bit_words.specs.Logic.{extends_trans}
use Rattle.sym_paths.specs.Endings.{seen_of}
use Rattle.sym_stmt.specs.Beginnings.{begins, kept_where}
use Rattle.sym_stmt.proofs.entering.begun.Goals as goal

pub returns-clause-extends : goal.returns-clause-extends
returns-clause-extends g c =
    extends_trans c.ways_out.ensures.extends c.finish_run.ensures.extends

pub returns-clause-value : goal.returns-clause-value
returns-clause-value g c vs m calls routine values chosen shape reads =
    let slots = c.args.run.now.slots.now in
    let run = λ (kept : Option (List Value)).
    run_block slots.limits calls routine.body (begins routine.params values kept) in
    let seen = c.in_ok-out.ensures.value vs m calls routine values chosen shape reads
    ∙ ap (λ kept. seen_of (run kept)) (kept_where slots slots.limits.prints c.requires.keeps) in
    c.in_ok-done.ensures.value vs (run (kept_first slots.limits)) routine.line seen
