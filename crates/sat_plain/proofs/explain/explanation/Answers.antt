use Rattle.std.proofs.Common.{◌∙◌, reverse, ap}
use Rattle.clause_base.specs.Literals.{has_no_variable_twice}
use Rattle.clause_base.specs.Logs.{known_of}
use Rattle.sat_plain.proofs.Logged.{explains}
use Rattle.sat_plain.proofs.Ordered.{decided_distinct}
use Rattle.sat_plain.proofs.explain.explanation.Goals as goal

pub new-requires : goal.new-requires
new-requires c = ap has_no_variable_twice c.in_ok-lits.ensures ∙ decided_distinct c.args.vars (reverse c.args.entries.now) c.requires.ordered

pub returns-clause-follows : goal.returns-clause-follows
returns-clause-follows c =
    explains c.args.vars (known_of c.args.clauses.now c.args.steps.now) (reverse c.args.entries.now) _ c.in_ok-hints.hints.items c.requires.ordered
    (c.new.ensures ∙ c.in_ok-lits.ensures) (c.in_ok-from_slice.ensures ∙ c.as_slice.ensures.value) c.in_ok-hints.ensures.named c.in_ok-hints.ensures.good
