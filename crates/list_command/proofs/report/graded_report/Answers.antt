-- what `grade` writes, and the certificate of a spent budget
use Rattle.std.proofs.Common.{None, refl}
use Rattle.file_commands.specs.declared.report.Report.{Report}
use Rattle.list_command.specs.Requests.{all_of}
use Rattle.list_command.proofs.Listed.{reports_graded}
use Rattle.list_command.proofs.report.graded_report.Goals as goal

pub returns : goal.returns
returns c =
    let x : Report = record { status = c.answer_status.result; text = c.push_cert.new.text; kept = None } in
    reports_graded (all_of c.args.words.now) c.args.graded.now c.in_ok-text.text.items c.push_cert.new.text.items x c.answer_status.result
    c.requires.none c.in_ok-text.ensures c.in_ok-push_cert.ensures c.answer_status.ensures.written refl refl refl
