use Rattle.std.proofs.Common.{refl}
use Rattle.cert_text.proofs.DraftsRead.{vars_added}
use Rattle.cert_text.proofs.draft.numbered.Goals as goal

pub returns : goal.returns
returns c =
    vars_added c.args.cert c.args.query c.args.line.now c.in_ok-vars.vars _ c.in_ok-vars.ensures
    (record { asked = refl; number = refl; clauses_are = c.new-clauses.ensures; steps_are = c.new-steps.ensures })
