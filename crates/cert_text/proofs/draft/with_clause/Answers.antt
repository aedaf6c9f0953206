use Rattle.cert_text.proofs.Growing.{clauses_pushed}
use Rattle.cert_text.proofs.draft.with_clause.Goals as goal

pub invariant_of-session : goal.invariant_of-session
invariant_of-session c = record {
  in_range = clauses_pushed c.args.session.formula.vars c.push.result c.args.session.formula.clauses c.push.new.self c.args.clause c.push.ensures.ok c.push.ensures.err c.args.session.formula.in_range c.requires;
}
