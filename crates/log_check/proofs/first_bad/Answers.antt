-- the steps up to the first that doesn't follow
use Rattle.std.proofs.Common.{◌≡◌, ◌∙◌, ◌+◌, ◌++◌, ◌∷◌, [], suc, ap, length, sym, take}
use Rattle.clause_base.specs.declared.clause.Clause.{Clause}
use Rattle.clause_base.specs.Logs.{StepFollows, known_of}
use Rattle.log_check.proofs.StepLaws.{bad_here, follows_more, keeps_at, known_count, known_more, literals_within, not_good, range_push}
use Rattle.log_check.proofs.first_bad.Goals as goal

pub step-requires-clause-known : goal.step-requires-clause-known
step-requires-clause-known c = rw c.loop-i.invariant.2 c.loop-i.invariant.3

pub step-requires-clause-covered : goal.step-requires-clause-covered
step-requires-clause-covered c =
    let keeps = keeps_at c.args.formula.vars (suc (length c.args.formula.clauses)) c.args.log.now.steps c.loop-i.i c.at-step.result.now c.requires c.at-step.ensures in
    rw c.loop-i.invariant.2 (literals_within c.args.formula.vars c.at-step.result.now.clause.lits keeps.literals)

pub step-requires-clause-named : goal.step-requires-clause-named
step-requires-clause-named c =
    let keeps = keeps_at c.args.formula.vars (suc (length c.args.formula.clauses)) c.args.log.now.steps c.loop-i.i c.at-step.result.now c.requires c.at-step.ensures in
    rw c.loop-i.invariant.0 (known_count c.args.formula.clauses c.args.log.now.steps c.loop-i.i c.at-step.result.now c.at-step.ensures keeps.hints)

pub returns-in-NotUnit : goal.returns-in-NotUnit
returns-in-NotUnit c =
    bad_here c.args.formula c.args.log.now.steps c.loop-i.i c.at-step.result.now c.at-step.ensures c.loop-i.invariant.1
    (λ f. not_good c.step.result c.in-NotUnit.is (c.step.ensures.answer ∙ rw c.loop-i.invariant.0 f.good))

pub loop-i-preserved : goal.loop-i-preserved
loop-i-preserved c =
    let f = c.args.formula in
    let steps = c.args.log.now.steps in
    let x = c.at-step.result.now in
    let keeps = keeps_at f.vars (suc (length f.clauses)) steps c.loop-i.i x c.requires c.at-step.ensures in
    let within = literals_within f.vars x.clause.lits keeps.literals in
    let known : c.push.new.self ≡ known_of f.clauses (take (c.loop-i.i + 1) steps) =
    c.in_ok-push.ensures.ok ∙ ap (λ (d : Clause). c.loop-i.known ++ d ∷ []) c.in_ok-copy.ensures ∙ ap (λ ds. ds ++ x.clause ∷ []) c.loop-i.invariant.0
    ∙ sym (known_more f.clauses steps c.loop-i.i x c.at-step.ensures) in
    let follows : StepFollows f.vars (known_of f.clauses (take c.loop-i.i steps)) x = record {
      within = within;
      named = known_count f.clauses steps c.loop-i.i x c.at-step.ensures keeps.hints;
      good = rw c.loop-i.invariant.0 at (sym c.step.ensures.answer ∙ c.in-Good.is);
    } in (
      known,
      follows_more f.vars f.clauses steps c.loop-i.i x c.at-step.ensures c.loop-i.invariant.1 follows,
      c.step.ensures.same ∙ c.loop-i.invariant.2,
      rw (c.in_ok-push.ensures.ok ∙ ap (λ (d : Clause). c.loop-i.known ++ d ∷ []) c.in_ok-copy.ensures)
          (range_push f.vars c.loop-i.known x.clause c.loop-i.invariant.3 within),
    )
