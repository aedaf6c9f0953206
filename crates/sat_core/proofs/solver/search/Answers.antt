use Rattle.std.proofs.Common.{◌∙◌}
use Rattle.sat_core.proofs.Learning.{narrow_log}
use Rattle.sat_core.proofs.solver.search.Goals as goal

pub returns-then-learnt-clause-narrow : goal.returns-then-learnt-clause-narrow
returns-then-learnt-clause-narrow c =
    let is = c.loop-count.invariant in
    let new = c.in_ok-learnt.ensures in
    λ d led. narrow_log c.in_ok-learnt.learnt.search.base c.args.f.now.vars c.args.f.now.clauses _ d c.into_log.ensures.logged (new.vars ∙ is.vars) (new.clauses ∙ is.clauses) c.into_log.ensures.value led

pub returns-in_ok-truths-in-None-clause-narrow : goal.returns-in_ok-truths-in-None-clause-narrow
returns-in_ok-truths-in-None-clause-narrow c =
    let is = c.loop-count.invariant in
    let log = c.into_log-in-None.ensures in
    λ d led. narrow_log c.loop-count.search.base c.args.f.now.vars c.args.f.now.clauses _ d log.logged is.vars is.clauses log.value led

pub returns-in-Some-conflict-clause-narrow : goal.returns-in-Some-conflict-clause-narrow
returns-in-Some-conflict-clause-narrow c =
    let is = c.loop-count.invariant in
    let log = c.into_log-in-Some-conflict.ensures in
    λ d led. narrow_log c.loop-count.search.base c.args.f.now.vars c.args.f.now.clauses _ d log.logged is.vars is.clauses log.value led
