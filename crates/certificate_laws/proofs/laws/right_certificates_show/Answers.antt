use Rattle.certificate_laws.proofs.Shown.{cost_shown, none_shown}
use Rattle.certificate_laws.proofs.laws.right_certificates_show.Goals as goal

pub returns-clause-cost : goal.returns-clause-cost
returns-clause-cost c =
    cost_shown c.what_follows_holds.ensures.refuted c.codings_are_full.ensures
    c.agreement_is_decided.ensures c.selections_make_programs.ensures
    c.least_choices_are_best.ensures.best

pub returns-clause-nothing : goal.returns-clause-nothing
returns-clause-nothing c =
    none_shown c.what_follows_holds.ensures.refuted c.codings_are_full.ensures
    c.least_choices_are_best.ensures.none
