use Rattle.certificate_laws.specs.Topics.{OfTask}
use Rattle.certificate_laws.proofs.ShortTrails.{honest_trails_are_short, spent_budgets_are_small}
use Rattle.certificate_laws.proofs.laws.honest_trails_are_short.Goals as goal

pub returns-clause-trails : goal.returns-clause-trails
returns-clause-trails c =
    honest_trails_are_short (λ k budget. c.few_questions.ensures (OfTask k budget))
    c.fresh_logs_are_short.ensures

pub returns-clause-spent : goal.returns-clause-spent
returns-clause-spent c =
    spent_budgets_are_small
    (honest_trails_are_short (λ k budget. c.few_questions.ensures (OfTask k budget))
    c.fresh_logs_are_short.ensures)
