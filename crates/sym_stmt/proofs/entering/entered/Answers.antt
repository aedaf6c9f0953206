use Rattle.std.proofs.Common.{List, Option, None, ap, ◌∙◌}
use Rattle.mpy_tree.specs.declared.value.Value.{Value}
use Rattle.mpy_tree.specs.Statements.{run_block}
use Rattle.sym_paths.specs.Endings.{Seen, seen_of}
use Rattle.sym_stmt.specs.Beginnings.{begins, kept_where}
use Rattle.sym_stmt.proofs.entering.entered.Goals as goal

pub returns-clause-value : goal.returns-clause-value
returns-clause-value g c vs m calls routine values chosen shape reads =
    let slots = c.args.run.now.slots.now in
    let run = λ (kept : Option (List Value)).
    run_block slots.limits calls routine.body (begins routine.params values kept) in
    let seen = c.in_ok-out.ensures.value vs m calls routine values chosen shape reads
    ∙ ap (λ kept. seen_of (run kept)) (kept_where slots 0 c.requires.dropped) in
    c.in_ok-outcome.ensures.value vs (run None) routine.line (ap (λ (x : Seen). x.returned) seen)
