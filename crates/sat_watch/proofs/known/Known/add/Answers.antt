use Rattle.std.proofs.Common.{◌+◌, ◌<◌, List, arith, length, subst, sym}
use Rattle.clause_base.specs.declared.log.Step.{Step}
use Rattle.sat_watch.specs.Searching.{Base, IsLogged, MayFollow}
use Rattle.sat_watch.proofs.Growing.{logged_push}
use Rattle.sat_watch.proofs.known.Known.add.Goals as goal

pub invariant_of-self-2 : goal.invariant_of-self-2
invariant_of-self-2 c =
    let inside = c.self.inside in
    let base : Base = record { vars = inside.f.now.vars; clauses = inside.f.now.clauses; steps = inside.steps } in
    let room : length base.clauses + length base.steps < 2147483647 = omega (arith, c.if-len-ge-MOST_CLAUSES.false, c.len.ensures, c.len-2.ensures) in
    let may = subst (λ (b : Base). MayFollow b c.args.step) (sym c.self.view_is) c.requires in
    subst (λ (ss : List Step). IsLogged (record base { steps = ss })) (sym c.in_ok-push.ensures.ok)
    (logged_push c.what_is_known.ensures.pushed c.one_step_more.ensures.follows c.one_step_more.ensures.fresh base c.args.step c.self.invariant room may)
