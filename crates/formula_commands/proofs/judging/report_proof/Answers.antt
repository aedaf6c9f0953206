-- the report of a proof that is read, or of the line at which a text isn't one
use Rattle.std.proofs.Common.{Err, ap}
use Rattle.formula_commands.specs.Requests.{unsat_of}
use Rattle.formula_commands.proofs.Reporting.{no_proof_report, ok_more}
use Rattle.formula_commands.proofs.judging.report_proof.Goals as goal

pub returns-in-Ok : goal.returns-in-Ok
returns-in-Ok c =
    ok_more _ _ c.judged.result
    (λ r found cnf stands. found (unsat_of c.args.words.now) cnf c.args.proof.now (record { stands = stands; spelled = rw c.count.ensures.value at c.in-Ok.ensures.read })) c.judged.ensures

pub returns-in-Err-Line : goal.returns-in-Err-Line
returns-in-Err-Line c =
    let line = c.in-Err-Line.line in
    let is = ap Err c.in-Err-Line.field-0-is in
    no_proof_report (unsat_of c.args.words.now) c.args.formula c.args.proof.now line c.count.result c.no_form.result c.count.ensures.value
    (c.in-Err-Line.ensures.place line is) (c.in-Err-Line.ensures.line line is) c.no_form.ensures.text c.no_form.ensures.status c.no_form.ensures.kept
