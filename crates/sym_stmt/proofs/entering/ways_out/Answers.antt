use Rattle.std.proofs.Common.{◌≡◌, Some, ap, ◌∙◌}
use Rattle.mpy_tree.specs.Shapes.{block_shape}
use Rattle.mpy_tree.specs.Statements.{run_block}
use Rattle.choice_tree.specs.Selections.{plain}
use Rattle.choice_tree.specs.StatementViews.{weighted_body}
use Rattle.sym_paths.specs.Endings.{seen_of}
use Rattle.sym_paths.specs.Slots.{kept_by}
use Rattle.sym_stmt.specs.Beginnings.{begins}
use Rattle.sym_stmt.proofs.entering.ways_out.Goals as goal

pub returns-clause-value : goal.returns-clause-value
returns-clause-value g c vs m calls routine values chosen shape reads =
    let func = c.args.func.now in
    let slots = c.args.run.now.slots.now in
    let body : block_shape routine.body ≡ plain m (weighted_body func.body) = cc in
    let params : func.params ≡ routine.params = cc in
    let start = c.in_ok-path.ensures.value vs func.params values c.requires.params c.requires.count reads in
    let first = begins func.params values (kept_by slots) in
    c.in_ok-out.ensures.value vs m calls (Some first) routine.body chosen start body
    ∙ ap (λ ps. seen_of (run_block slots.limits calls routine.body (begins ps values (kept_by slots)))) params
