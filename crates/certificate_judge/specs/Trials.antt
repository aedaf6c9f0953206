-- What the sessions of a certificate in form come to.
use Rattle.input_space.specs.Tasks.{Task}
use Rattle.cert_text.specs.declared.cert.Cert.{Cert}
use Rattle.certificate_judge.specs.declared.trial.Trial.{Trial}
use Rattle.certificate_judge.specs.declared.trial.Trial.TheVariants as trial
use Rattle.certificate_judge.specs.Passing.{Pass}
use Rattle.certificate_judge.specs.Verdicts.{IsVerdict}

abbrev pub IsTried : Task → Cert → Trial → Type 0
IsTried k c (trial.Passes anew) = Pass k c.cases c.sessions anew
IsTried k c (trial.Decides verdict) = IsVerdict k c verdict
