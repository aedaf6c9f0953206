use Rattle.certificate_laws.proofs.BestRewritings.{least_is_best, none_agree, submission_best}
use Rattle.certificate_laws.proofs.laws.least_choices_are_best.Goals as goal

pub returns-clause-best : goal.returns-clause-best
returns-clause-best c = least_is_best c.selections_make_programs.ensures

pub returns-clause-none : goal.returns-clause-none
returns-clause-none c = none_agree

pub returns-clause-submission : goal.returns-clause-submission
returns-clause-submission c = submission_best
