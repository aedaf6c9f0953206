use Rattle.sym_paths.proofs.done.finish_kept.Goals as goal

pub returns-clause-value : goal.returns-clause-value
returns-clause-value g c vs run line e =
    c.in_ok-done.ensures.value vs run line (c.in_ok-end.ensures.value vs run e)
