-- the report of the line at which a text isn't a formula
use Rattle.std.proofs.Common.{Err, ap, refl, [], ◌∷◌}
use Rattle.formula_commands.specs.Commands.{unsat_command}
use Rattle.formula_commands.specs.Decisions.{NoFormula}
use Rattle.formula_commands.specs.Requests.{unsat_of}
use Rattle.formula_commands.proofs.Reporting.{reported}
use Rattle.formula_commands.proofs.judging.report_text.Goals as goal

pub returns-in-Err-Line : goal.returns-in-Err-Line
returns-in-Err-Line c =
    let line = c.in-Err-Line.line in
    let is = ap Err c.in-Err-Line.field-0-is in
    reported (unsat_command (unsat_of c.args.words.now)) (NoFormula line) (c.args.cnf.now ∷ c.args.proof.now ∷ []) c.no_form.result _ _ _
    c.no_form.ensures.text c.no_form.ensures.status c.no_form.ensures.kept refl refl refl
    (record { stops = c.in-Err-Line.ensures.place line is; none = c.in-Err-Line.ensures.line line is })
