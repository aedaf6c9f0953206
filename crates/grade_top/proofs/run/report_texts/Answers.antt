-- the report is that of the run
use Rattle.std.proofs.Common.{refl}
use Rattle.grade_top.proofs.run.report_texts.Goals as goal

pub returns : goal.returns
returns c = record {
  answer = c.in_ok-outcome.outcome;
  decided = c.in_ok-outcome.ensures;
  shows = record { text = c.in_ok-text.ensures; status = refl; kept = refl };
}
