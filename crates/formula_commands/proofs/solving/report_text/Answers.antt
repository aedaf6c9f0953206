-- the report of a formula that is read, or of the line at which a text isn't one
use Rattle.std.proofs.Common.{Err, ap, refl, [], ◌∷◌}
use Rattle.formula_commands.specs.Commands.{sat_command}
use Rattle.formula_commands.specs.Decisions.{NoCnf}
use Rattle.formula_commands.specs.Requests.{sat_of}
use Rattle.formula_commands.proofs.Reporting.{ok_more, reported}
use Rattle.formula_commands.proofs.solving.report_text.Goals as goal

pub returns-in-Ok : goal.returns-in-Ok
returns-in-Ok c = ok_more _ _ c.solved.result (λ r found. found (sat_of c.args.words.now) c.args.cnf.now refl c.in-Ok.ensures.read) c.solved.ensures

pub returns-in-Err-Line : goal.returns-in-Err-Line
returns-in-Err-Line c =
    let line = c.in-Err-Line.line in
    let is = ap Err c.in-Err-Line.field-0-is in
    reported (sat_command (sat_of c.args.words.now)) (NoCnf line) (c.args.cnf.now ∷ []) c.no_form.result _ _ _
    c.no_form.ensures.text c.no_form.ensures.status c.no_form.ensures.kept refl refl refl
    (record { stops = c.in-Err-Line.ensures.place line is; none = c.in-Err-Line.ensures.line line is })
