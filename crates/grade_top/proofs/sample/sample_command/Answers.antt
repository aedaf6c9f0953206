-- what was found is written
use Rattle.std.proofs.Common.{refl}
use Rattle.file_commands.proofs.Endings.{ends_at_once, report_of_text}
use Rattle.grade_core.proofs.GradeClaims.{own_status}
use Rattle.grade_top.specs.Commands.{sample_command}
use Rattle.grade_top.proofs.sample.sample_command.Goals as goal

pub end_at_once-requires : goal.end_at_once-requires
end_at_once-requires g c = report_of_text (sample_command c.args.number) _ c.find_report-found.result (λ a. own_status a.answer) c.find_report-found.ensures

pub returns : goal.returns
returns g c = λ shelf.
    ends_at_once (sample_command c.args.number) (λ a. own_status a.answer) shelf tt (g.K.Sink.seen c.args.out.now) (g.K.Sink.seen c.end_at_once.new.out)
    c.find_report-found.result c.end_at_once.result refl c.find_report-found.ensures c.end_at_once.ensures
